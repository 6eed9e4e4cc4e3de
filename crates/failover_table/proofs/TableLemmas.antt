-- A row of entries that moved one place on, with a new one in front.
use Rattle.std.proofs.Common.{◌≡◌, ℕ, suc, ◌+◌, ◌-◌, ◌≤◌, min, List, [], ◌∷◌, ◌++◌, length, take, drop, set, sym, ap, ◌∙◌, arith, length-take}
use Rattle.std.specs.List.{copy_within}
use Rattle.std.proofs.Math.Seq.{paste, take_all}
use Rattle.std.proofs.lemmas.List.{take-take, take-append-le}

abbrev Entry : Type 0
Entry = ℕ × ℕ

fewer : (k n : ℕ) (xs : List Entry) → take (min k n) xs ≡ take k (take n xs)
fewer k n xs = grind (arith, take-take, take_all, length-take)

front : (k : ℕ) (x : Entry) (xs : List Entry) (e : Entry) → set (copy_within (x ∷ xs) 0 k 1) 0 e ≡ e ∷ (take k (x ∷ xs) ++ drop (1 + k) (x ∷ xs))
front k x xs e =
    let same : k - 0 ≡ k = omega arith in
    ap (λ n. e ∷ (take n (x ∷ xs) ++ drop (1 + n) (x ∷ xs))) same

pub added : (k : ℕ) (xs ys : List Entry) (n m : ℕ) (e : Entry) → length xs ≡ k + 1 → n ≤ k + 1 → ys ≡ copy_within xs 0 k 1 → m ≡ min (k + 1) (n + 1) → take m (set ys 0 e) ≡ e ∷ take k (take n xs)
added k [] ys n m e full few moved count = absurd (omega arith)
added k (x ∷ xs) ys n m e full few moved count =
    let one : m ≡ suc (min k n) = omega arith in
    let len : length (take k (x ∷ xs)) ≡ k = length-take k (x ∷ xs) ∙ omega arith in
    let short : take (min k n) (take k (x ∷ xs) ++ drop (1 + k) (x ∷ xs)) ≡ take (min k n) (take k (x ∷ xs)) = take-append-le (min k n) (take k (x ∷ xs)) (drop (1 + k) (x ∷ xs)) (omega arith) in
    let cut : take (min k n) (take k (x ∷ xs)) ≡ take (min k n) (x ∷ xs) = take-take (min k n) k (x ∷ xs) (omega arith) in
    ap (λ l. take m (set l 0 e)) moved ∙ ap (take m) (front k x xs e) ∙ ap (λ i. take i (e ∷ (take k (x ∷ xs) ++ drop (1 + k) (x ∷ xs)))) one ∙ ap (λ l. e ∷ l) (short ∙ cut ∙ fewer k n (x ∷ xs))
