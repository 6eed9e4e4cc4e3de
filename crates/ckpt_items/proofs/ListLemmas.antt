-- What is found in a list, and what is left of it without one element.
use Rattle.std.proofs.Common.{◌≡◌, ℕ, zero, suc, ◌+◌, ◌-◌, ◌<◌, ◌≤◌, Bool, true, false, not, eqb, List, [], ◌∷◌, ◌++◌, length, get_or, take, drop, map, refl, sym, ap, ◌∙◌, inl, inr, arith}
use Rattle.std.specs.Prelude.{None, Some, filter}
use Rattle.std.specs.List.{find, remove}
use Rattle.std.proofs.lemmas.Bool.{cond-true, cond-false, cases_lt, cases_Bool, true≢false}
use Rattle.std.specs.Str.{bytes_eq}
use Rattle.std.proofs.lemmas.Slice.Eq.{bytes_eq-Decides}
use Rattle.std.proofs.lemmas.List.{length-take-le, take-append-drop, take_at, drop_at, get_or-take, get_or-drop, length-drop}
use Rattle.std.proofs.lemmas.List.Edits.{length-remove, remove-append_left, remove-append_right}

module _ {A D : Type 0} where
  -- the first that passes
  pub find_first : (f : A → D) (p : D → Bool) (xs : List A) (i : ℕ) (y : A) → i < length xs → y ≡ get_or xs i y → ((k : ℕ) (d : A) → k < i → p (f (get_or xs k d)) ≡ false) → p (f y) ≡ true → find p (map f xs) ≡ Some (f y)
  find_first f p [] i y l is before here = absurd (omega arith)
  find_first f p (x ∷ xs) zero y l is before here =
      let same : p (f x) ≡ true = ap (λ (a : A). p (f a)) (sym is) ∙ here in
      cond-true (p (f x)) (Some (f x)) (find p (map f xs)) same ∙ ap (λ (a : A). Some (f a)) (sym is)
  find_first f p (x ∷ xs) (suc i) y l is before here =
      cond-false (p (f x)) (Some (f x)) (find p (map f xs)) (before zero x (omega arith))
      ∙ find_first f p xs i y (omega arith) is (λ k d h. before (suc k) d (omega arith)) here

  pub find_none : (f : A → D) (p : D → Bool) (xs : List A) → ((k : ℕ) (d : A) → k < length xs → p (f (get_or xs k d)) ≡ false) → find p (map f xs) ≡ None
  find_none f p [] h = refl
  find_none f p (x ∷ xs) h =
      cond-false (p (f x)) (Some (f x)) (find p (map f xs)) (h zero x (omega arith))
      ∙ find_none f p xs (λ k d l. h (suc k) d (omega arith))

  -- what doesn't pass is passed over
  pub find_next : (f : A → D) (p : D → Bool) (xs : List A) (i : ℕ) (y : A) → i < length xs → y ≡ get_or xs i y → p (f y) ≡ false → find p (drop i (map f xs)) ≡ find p (drop (i + 1) (map f xs))
  find_next f p [] i y l is h = absurd (omega arith)
  find_next f p (x ∷ xs) zero y l is h =
      cond-false (p (f x)) (Some (f x)) (find p (map f xs)) (ap (λ (a : A). p (f a)) (sym is) ∙ h)
  find_next f p (x ∷ xs) (suc i) y l is h =
      let e : suc i + 1 ≡ suc (i + 1) = omega arith in
      find_next f p xs i y (omega arith) is h ∙ ap (λ (n : ℕ). find p (drop n (map f (x ∷ xs)))) (sym e)

  pub find_here : (f : A → D) (p : D → Bool) (xs : List A) (i : ℕ) (y : A) → i < length xs → y ≡ get_or xs i y → p (f y) ≡ true → find p (drop i (map f xs)) ≡ Some (f y)
  find_here f p [] i y l is h = absurd (omega arith)
  find_here f p (x ∷ xs) zero y l is h =
      cond-true (p (f x)) (Some (f x)) (find p (map f xs)) (ap (λ (a : A). p (f a)) (sym is) ∙ h) ∙ ap (λ (a : A). Some (f a)) (sym is)
  find_here f p (x ∷ xs) (suc i) y l is h = find_here f p xs i y (omega arith) is h

  pub map-remove : (f : A → D) (xs : List A) (i : ℕ) → map f (remove xs i) ≡ remove (map f xs) i
  map-remove f [] zero = refl
  map-remove f [] (suc i) = refl
  map-remove f (x ∷ xs) zero = refl
  map-remove f (x ∷ xs) (suc i) = ap (λ (ds : List D). f x ∷ ds) (map-remove f xs i)

module _ {X : Type 0} where
  -- one number alone is dropped
  filter_all : (n : X → ℕ) (t : ℕ) (xs : List X) → ((k : ℕ) (d : X) → k < length xs → eqb (n (get_or xs k d)) t ≡ false) → filter (λ (x : X). not (eqb (n x) t)) xs ≡ xs
  filter_all n t [] h = refl
  filter_all n t (x ∷ xs) h =
      cond-true (not (eqb (n x) t)) (x ∷ filter (λ (x : X). not (eqb (n x) t)) xs) (filter (λ (x : X). not (eqb (n x) t)) xs) (ap not (h zero x (omega arith)))
      ∙ ap (λ (ys : List X). x ∷ ys) (filter_all n t xs (λ k d l. h (suc k) d (omega arith)))

  filter_one : (n : X → ℕ) (t : ℕ) (xs : List X) (i : ℕ) → i < length xs → ((d : X) → eqb (n (get_or xs i d)) t ≡ true) → ((k : ℕ) (d : X) → k < length xs → (k ≡ i → ⊥) → eqb (n (get_or xs k d)) t ≡ false) → filter (λ (x : X). not (eqb (n x) t)) xs ≡ remove xs i
  filter_one n t [] i l is h = absurd (omega arith)
  filter_one n t (x ∷ xs) zero l is h =
      cond-false (not (eqb (n x) t)) (x ∷ filter (λ (x : X). not (eqb (n x) t)) xs) (filter (λ (x : X). not (eqb (n x) t)) xs) (ap not (is x))
      ∙ filter_all n t xs (λ k d l. h (suc k) d (omega arith) (λ e. absurd (omega arith)))
  filter_one n t (x ∷ xs) (suc i) l is h =
      cond-true (not (eqb (n x) t)) (x ∷ filter (λ (x : X). not (eqb (n x) t)) xs) (filter (λ (x : X). not (eqb (n x) t)) xs) (ap not (h zero x (omega arith) (λ e. absurd (omega arith))))
      ∙ ap (λ (ys : List X). x ∷ ys) (filter_one n t xs i (omega arith) is (λ k d l ne. h (suc k) d (omega arith) (λ e. ne (omega arith))))

  -- a list in two parts loses one element
  pub cut_parts : (n : X → ℕ) (t : ℕ) (xs : List X) (c i c' : ℕ) → c ≤ length xs → i < length xs → ((d : X) → eqb (n (get_or xs i d)) t ≡ true) → ((k : ℕ) (d : X) → k < length xs → (k ≡ i → ⊥) → eqb (n (get_or xs k d)) t ≡ false) → (i < c → c' + 1 ≡ c) → (c ≤ i → c' ≡ c) → (take c' (remove xs i) ≡ filter (λ (x : X). not (eqb (n x) t)) (take c xs)) × (drop c' (remove xs i) ≡ filter (λ (x : X). not (eqb (n x) t)) (drop c xs))
  cut_parts n t xs c i c' bound l is others less same =
      let front : length (take c xs) ≡ c = length-take-le c xs bound in
      let back : length (drop c xs) ≡ length xs - c = length-drop c xs in
      let whole : remove xs i ≡ remove (take c xs ++ drop c xs) i = ap (λ (ys : List X). remove ys i) (sym (take-append-drop c xs)) in
      elim (cases_lt i c) [
        | inl w ↦
            let cut = whole ∙ remove-append_left (take c xs) (drop c xs) i (omega arith) in
            let one = length-remove (take c xs) i (omega arith) in
            let fewer = less w in (
              ap (take c') cut ∙ take_at (remove (take c xs) i) (drop c xs) c' (omega arith)
                  ∙ sym (filter_one n t (take c xs) i (omega arith) (λ d. ap (λ (y : X). eqb (n y) t) (get_or-take c xs i d w) ∙ is d) (λ k d h ne. let near : k < c = omega arith in ap (λ (y : X). eqb (n y) t) (get_or-take c xs k d near) ∙ others k d (omega arith) ne)),
              ap (drop c') cut ∙ drop_at (remove (take c xs) i) (drop c xs) c' (omega arith)
                  ∙ sym (filter_all n t (drop c xs) (λ k d h. ap (λ (y : X). eqb (n y) t) (get_or-drop c xs k d) ∙ others (c + k) d (omega arith) (λ e. absurd (omega arith)))),
            )
        | inr w ↦
            let cut = whole ∙ remove-append_right (take c xs) (drop c xs) c i front w in
            let all = same w in (
              ap (take c') cut ∙ take_at (take c xs) (remove (drop c xs) (i - c)) c' (omega arith)
                  ∙ sym (filter_all n t (take c xs) (λ k d h. let near : k < c = omega arith in ap (λ (y : X). eqb (n y) t) (get_or-take c xs k d near) ∙ others k d (omega arith) (λ e. absurd (omega arith)))),
              ap (drop c') cut ∙ drop_at (take c xs) (remove (drop c xs) (i - c)) c' (omega arith)
                  ∙ sym (filter_one n t (drop c xs) (i - c) (omega arith) (λ d. let at : c + (i - c) ≡ i = omega arith in ap (λ (y : X). eqb (n y) t) (get_or-drop c xs (i - c) d ∙ ap (λ (m : ℕ). get_or xs m d) at) ∙ is d) (λ k d h ne. ap (λ (y : X). eqb (n y) t) (get_or-drop c xs k d) ∙ others (c + k) d (omega arith) (λ e. ne (omega arith)))),
            )
      ]

-- what the comparison of bytes tells
pub bytes_same : (xs ys : List ℕ) → xs ≡ ys → bytes_eq xs ys ≡ true
bytes_same xs ys e = (bytes_eq-Decides xs ys).1 e

pub bytes_apart : (xs ys : List ℕ) (r : Bool) → (r ≡ true → xs ≡ ys) × (xs ≡ ys → r ≡ true) → r ≡ false → bytes_eq xs ys ≡ false
bytes_apart xs ys r tells told =
    elim (cases_Bool (bytes_eq xs ys)) [
      | inl w ↦ absurd (true≢false (sym (tells.1 ((bytes_eq-Decides xs ys).0 w)) ∙ told))
      | inr w ↦ w
    ]
