-- Parts are taken out of their slots in order.
use Rattle.std.proofs.Common.{◌≡◌, ℕ, zero, suc, ◌+◌, ◌<◌, ◌≤◌, Bool, true, false, get_or, set, List, [], ◌∷◌, ◌++◌, length, map, take, Option, Some, None, refl, sym, ap, ◌∙◌, arith}
use Rattle.std.proofs.lemmas.List.{map-append}
use Rattle.std.proofs.lemmas.List.{get_or-set_other}
use mathlib.Core.Logic.{dite}
use native.Mathlib.Decide.{ℕ_discrete}
use mathlib.Core.Option.{some, some-injective, some-ne-none}
use lib.ListN.{get_elem?}
use Rattle.turn_stage.specs.Filled.{AreFilled}

take_at : {A : Type 0} (l : List A) (k : ℕ) (a : A) → get_elem? l k ≡ some a → take (suc k) l ≡ take k l ++ a ∷ []
take_at [] k a e = absurd (some-ne-none a (sym e))
take_at (x ∷ xs) zero a e = ap (λ y. y ∷ []) (some-injective x a e)
take_at (x ∷ xs) (suc k) a e = ap (λ l. x ∷ l) (take_at xs k a e)

-- which slots are full, once one more was emptied
emptied_here : (f : List Bool) (i : ℕ) → get_or (set f i false) i false ≡ false
emptied_here [] i = refl
emptied_here (x ∷ f) zero = refl
emptied_here (x ∷ f) (suc i) = emptied_here f i

pub emptied : (f g : List Bool) (i : ℕ) → g ≡ set f i false → ((k : ℕ) → k < i → get_or f k false ≡ false) → (k : ℕ) → k < i + 1 → get_or g k false ≡ false
emptied f g i e below k h = ap (λ (l : List Bool). get_or l k false) e ∙ dite (ℕ_discrete k i)
    (λ same. ap (λ (n : ℕ). get_or (set f i false) n false) same ∙ emptied_here f i)
    (λ other. get_or-set_other f i k false false other ∙ below k (omega arith))

pub still_full : (f g : List Bool) (i n m : ℕ) → g ≡ set f i false → m ≡ n → ((k : ℕ) → i ≤ k → k < n → get_or f k false ≡ true) → (k : ℕ) → i + 1 ≤ k → k < m → get_or g k false ≡ true
still_full f g i n m e same full k h l = ap (λ (l : List Bool). get_or l k false) e ∙ (get_or-set_other f i k false false (λ q. omega arith) ∙ full k (omega arith) (omega arith))

module _ {P : Type 0} where
  pub one_more : (slots : List (Option P)) (room : List P) (k : ℕ) (x : P) → map Some room ≡ take k slots → get_elem? slots k ≡ some (Some x) → map Some (room ++ x ∷ []) ≡ take (k + 1) slots
  one_more slots room k x so_far at =
      let next : k + 1 ≡ suc k = omega arith in
      map-append Some room (x ∷ []) ∙ (ap (λ l. l ++ Some x ∷ []) so_far ∙ (sym (take_at slots k (Some x) at) ∙ ap (λ n. take n slots) (sym next)))

  pub never_empty : (slots : List (Option P)) (k : ℕ) → AreFilled slots → k < length slots → get_elem? slots k ≡ some None → ⊥
  never_empty slots k filled within at = let f = filled k within in let e = some-injective (Some f.0) None (sym f.1 ∙ at) in absurd (cc)
