-- A list of one word.
use Rattle.std.proofs.Common.{◌≡◌, ℕ, List, [], ◌∷◌, length, map, get_or, sym, ap, arith}

pub one_word : {S : Type 0} (f : S → List ℕ) (items : List S) (word : S) → length items ≡ 1 → word ≡ get_or items 0 word → map f items ≡ f word ∷ []
one_word f [] word one is = absurd (omega arith)
one_word f (x ∷ []) word one is = ap (λ w. f w ∷ []) (sym is)
one_word f (x ∷ y ∷ items) word one is = absurd (omega arith)
