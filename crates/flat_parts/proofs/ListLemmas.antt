-- Lists as plain data: what is found, kept and changed in a list is found, kept and changed in its image.
use Rattle.std.proofs.Common.{◌≡◌, ◌<◌, ◌≤◌, ℕ, suc, zero, ◌+◌, Bool, true, false, cond, List, [], ◌∷◌, length, get_or, refl, sym, ap, ◌∙◌, add-one, arith}
use Rattle.std.proofs.Math.ListN.{set}
use Rattle.std.specs.Prelude.{Some, map, filter, slice_get}
use Rattle.std.specs.Option.{option_map}
use Rattle.std.specs.List.{find}

-- a list whose first elements have been changed
abbrev pub swept : {D : Type 0} → (D → D) → ℕ → List D → List D
swept g zero ds = ds
swept g (suc n) [] = []
swept g (suc n) (d ∷ ds) = g d ∷ swept g n ds

module _ {A D : Type 0} where
  pub find-map : (f : A → D) (t : D → Bool) (xs : List A) → option_map f (find (λ x. t (f x)) xs) ≡ find t (map f xs)
  find-map f t [] = refl
  find-map f t (x ∷ xs) =
      elim (t (f x)) as (λ b. option_map f (cond b (Some x) (find (λ x. t (f x)) xs)) ≡ cond b (Some (f x)) (find t (map f xs))) [
        | true ↦ refl
        | false ↦ find-map f t xs
      ]

  pub filter-map : (f : A → D) (t : D → Bool) (xs : List A) → map f (filter (λ x. t (f x)) xs) ≡ filter t (map f xs)
  filter-map f t [] = refl
  filter-map f t (x ∷ xs) =
      elim (t (f x)) as (λ b. map f (cond b (x ∷ filter (λ x. t (f x)) xs) (filter (λ x. t (f x)) xs)) ≡ cond b (f x ∷ filter t (map f xs)) (filter t (map f xs))) [
        | true ↦ ap (λ (ds : List D). f x ∷ ds) (filter-map f t xs)
        | false ↦ filter-map f t xs
      ]

  step : (f : A → D) (g : D → D) (xs : List A) (ds : List D) (i : ℕ) (x y : A) → i < length xs → map f xs ≡ swept g i ds → x ≡ get_or xs i x → f y ≡ g (f x) → map f (set xs i y) ≡ swept g (suc i) ds
  step f g [] ds i x y within before is new = absurd (omega arith)
  step f g (z ∷ xs) ds zero x y within before is new =
      ap (λ (d : D). d ∷ map f xs) (new ∙ ap (λ (x : A). g (f x)) is) ∙ ap (swept g (suc zero)) before
  step f g (z ∷ xs) [] (suc i) x y within before is new = absurd (cc)
  step f g (z ∷ xs) (d ∷ ds) (suc i) x y within before is new =
      let head : f z ≡ g d = cc in
      let tail : map f xs ≡ swept g i ds = cc in
      let rest = step f g xs ds i x y (omega arith) tail is new in
      cc

  -- one more element was changed
  pub swept-more : (f : A → D) (g : D → D) (xs : List A) (ds : List D) (i : ℕ) (x y : A) → i < length xs → map f xs ≡ swept g i ds → x ≡ get_or xs i x → f y ≡ g (f x) → map f (set xs i y) ≡ swept g (i + 1) ds
  swept-more f g xs ds i x y within before is new = step f g xs ds i x y within before is new ∙ ap (λ (n : ℕ). swept g n ds) (sym (add-one i))

  -- the element that is next is still the old one
  pub swept-at : (f : A → D) (g : D → D) (xs : List A) (ds : List D) (i : ℕ) (x : A) → i < length xs → map f xs ≡ swept g i ds → x ≡ get_or xs i x → slice_get ds i ≡ Some (f x)
  swept-at f g [] ds i x within before is = absurd (omega arith)
  swept-at f g (z ∷ xs) ds zero x within before is =
      ap (λ (l : List D). slice_get l zero) (sym before) ∙ ap (λ (x : A). Some (f x)) (sym is)
  swept-at f g (z ∷ xs) [] (suc i) x within before is = absurd (cc)
  swept-at f g (z ∷ xs) (d ∷ ds) (suc i) x within before is =
      let tail : map f xs ≡ swept g i ds = cc in
      swept-at f g xs ds i x (omega arith) tail is

module _ {D : Type 0} where
  -- all were
  pub swept-all : (g : D → D) (ds : List D) (n : ℕ) → length ds ≤ n → swept g n ds ≡ map g ds
  swept-all g [] zero h = refl
  swept-all g [] (suc n) h = refl
  swept-all g (d ∷ ds) zero h = absurd (omega arith)
  swept-all g (d ∷ ds) (suc n) h = ap (λ (ds : List D). g d ∷ ds) (swept-all g ds n (omega arith))
