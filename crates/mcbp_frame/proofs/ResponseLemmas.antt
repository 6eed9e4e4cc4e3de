-- A response whose parts are appended in order, or put over the room in front of its value.
use Rattle.std.proofs.Common.{◌≡◌, ℕ, ◌+◌, ◌-◌, ◌≤◌, List, ◌++◌, length, take, drop, sym, ap, ◌∙◌, append_assoc, length-append, arith}
use Rattle.std.proofs.lemmas.List.{length-take-le, length-drop, take-append-drop}
use Rattle.std.proofs.Math.Seq.{take-append_seam, drop-append-add}
use Rattle.ep_model.specs.Buffer.{put_over}

assoc_four : (o h e k v : List ℕ) → o ++ h ++ e ++ k ++ v ≡ o ++ (h ++ e ++ k ++ v)
assoc_four o h e k v = ap (λ l. l ++ k ++ v) (append_assoc o h e) ∙ ap (λ l. l ++ v) (append_assoc o (h ++ e) k) ∙ append_assoc o (h ++ e ++ k) v

pub appended : (o a b c d h header e k v : List ℕ) → h ≡ header → a ≡ o ++ h → b ≡ a ++ e → c ≡ b ++ k → d ≡ c ++ v → d ≡ o ++ (header ++ e ++ k ++ v)
appended o a b c d h header e k v is first second third fourth =
    fourth ∙ ap (λ l. l ++ v) (third ∙ ap (λ l. l ++ k) (second ∙ ap (λ l. l ++ e) (first ∙ ap (λ l. o ++ l) is)))
    ∙ assoc_four o header e k v

drop_again : (n m : ℕ) (l : List ℕ) → n ≤ length l → drop m (drop n l) ≡ drop (n + m) l
drop_again n m l fits =
    sym (drop-append-add (take n l) (drop n l) m)
    ∙ ap (λ k. drop (k + m) (take n l ++ drop n l)) (length-take-le n l fits)
    ∙ ap (λ x. drop (n + m) x) (take-append-drop n l)

front_of : (n : ℕ) (x y : List ℕ) → length x ≡ n → take n (x ++ y) ≡ x
front_of n x y e = ap (λ k. take k (x ++ y)) (sym e) ∙ take-append_seam x y

rest_of : (n m : ℕ) (x y : List ℕ) → length x ≡ n → drop (n + m) (x ++ y) ≡ drop m y
rest_of n m x y e = ap (λ k. drop (k + m) (x ++ y)) (sym e) ∙ drop-append-add x y m

-- bytes put over others and more behind them are both put over at once
over-over : (at n : ℕ) (a b old : List ℕ) → n ≡ at + length a → n + length b ≤ length old → put_over n b (put_over at a old) ≡ put_over at (a ++ b) old
over-over at n a b old is fits =
    let long : length (take at old ++ a) ≡ n = omega (arith, length-append (take at old) a, length-take-le at old (omega arith)) in
    let place : at + length a ≡ n = sym is in
    ap (λ m. put_over n b (take at old ++ a ++ drop m old)) place
    ∙ ap (λ l. l ++ b ++ drop (n + length b) (take at old ++ a ++ drop n old)) (front_of n (take at old ++ a) (drop n old) long)
    ∙ ap (λ l. take at old ++ a ++ b ++ l) (rest_of n (length b) (take at old ++ a) (drop n old) long ∙ drop_again n (length b) old (omega arith))
    ∙ ap (λ l. l ++ drop (n + length b) old) (append_assoc (take at old) a b)
    ∙ ap (λ m. take at old ++ (a ++ b) ++ drop m old) (omega (arith, length-append a b))

pub laid_over : (at : ℕ) (o a b c h header e k : List ℕ) → h ≡ header → length header ≡ 24 → at + (24 + length e + length k) ≤ length o
    → a ≡ put_over at h o → b ≡ put_over (at + 24) e a → c ≡ put_over (at + 24 + length e) k b
    → c ≡ take at o ++ (header ++ e ++ k ++ drop (at + (24 + length e + length k)) o)
laid_over at o a b c h header e k is long fits first second third =
    third
    ∙ ap (λ l. put_over (at + 24 + length e) k l) (second ∙ ap (λ l. put_over (at + 24) e l) (first ∙ ap (λ l. put_over at l o) is) ∙ over-over at (at + 24) header e o (omega arith) (omega arith))
    ∙ over-over at (at + 24 + length e) (header ++ e) k o (omega (arith, length-append header e)) (omega arith)
    ∙ append_assoc (take at o) (header ++ e ++ k) (drop (at + length (header ++ e ++ k)) o)
    ∙ ap (λ m. take at o ++ (header ++ e ++ k ++ drop m o)) (omega (arith, length-append (header ++ e) k, length-append header e))

-- how long what stands behind the head is
pub left_behind : (len at e k : ℕ) (bytes : List ℕ) → len ≡ length bytes → len - (at + 24 + e + k) ≡ length (drop (at + (24 + e + k)) bytes)
left_behind len at e k bytes is = omega (arith, length-drop (at + (24 + e + k)) bytes)
