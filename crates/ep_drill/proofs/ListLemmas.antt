-- Lists as plain data.
use Rattle.std.proofs.Common.{◌≡◌, ℕ, zero, suc, List, [], ◌∷◌, slice_get, slice_set, refl, sym, ap}
use Rattle.std.specs.Prelude.{Some}

-- a list with an element replaced by itself
pub set_same : {A : Type 0} (xs : List A) (i : ℕ) (x : A) → slice_get xs i ≡ Some x → slice_set xs i x ≡ xs
set_same [] i x is = refl
set_same (z ∷ xs) zero x is = let e : z ≡ x = cc in ap (λ y. y ∷ xs) (sym e)
set_same (z ∷ xs) (suc i) x is = ap (λ l. z ∷ l) (set_same xs i x is)
