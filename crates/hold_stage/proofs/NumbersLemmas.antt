-- Mutations of the same keys and numbers, laid over documents.
use Rattle.std.proofs.Common.{◌≡◌, ℕ, Bool, true, false, cond, List, [], ◌∷◌, refl, sym, ap, ◌∙◌}
use Rattle.std.specs.Prelude.{Option, Some, None, nat_lt, filter, map}
use Rattle.std.specs.Option.{option_map}
use Rattle.std.specs.FinMap.{get, insert, get-insert}
use Rattle.std.specs.Ordering.{nat_cmp, eq_by_cmp}
use Rattle.std.specs.Cmp.Lexicographic.{slice_cmp, nat_list_cmp_total}
use Rattle.ep_model.specs.World.{Doc, Docs, Item}
use Rattle.ep_model.specs.Mutations.{above, laid_on}
use Rattle.hold_stage.specs.Numbers.{Numbers, numbers_of, numbered, all_numbered, HaveSameNumbers}

-- those above a number
abbrev numbers_above : ℕ → List (List ℕ × Numbers) → List (List ℕ × Numbers)
numbers_above number list = filter (λ (p : List ℕ × Numbers). nat_lt number p.1.seqno) list

above_numbered : (number : ℕ) (puts : List Item) → all_numbered (above number puts) ≡ numbers_above number (all_numbered puts)
above_numbered number [] = refl
above_numbered number (p ∷ puts) =
    elim (nat_lt number p.1.seqno) as (λ b. map numbered (cond b (p ∷ above number puts) (above number puts)) ≡ cond b (numbered p ∷ numbers_above number (all_numbered puts)) (numbers_above number (all_numbered puts))) [
      | true ↦ ap (λ (l : List (List ℕ × Numbers)). numbered p ∷ l) (above_numbered number puts)
      | false ↦ above_numbered number puts
    ]

-- of the same mutations those above a number are the same
pub above_alike : (number : ℕ) (a b : List Item) → all_numbered a ≡ all_numbered b → all_numbered (above number a) ≡ all_numbered (above number b)
above_alike number a b same = above_numbered number a ∙ ap (numbers_above number) same ∙ sym (above_numbered number b)

picked : (b : Bool) (doc : Doc) (other : Option Doc) → option_map numbers_of (cond b (Some doc) other) ≡ cond b (Some (numbers_of doc)) (option_map numbers_of other)
picked true doc other = refl
picked false doc other = refl

put_alike : (x y : Docs) (p q : Item) → numbered p ≡ numbered q → HaveSameNumbers x y → HaveSameNumbers (insert x p.0 p.1) (insert y q.0 q.1)
put_alike x y p q same h key =
    ap (option_map numbers_of) (get-insert nat_list_cmp_total x p.0 p.1 key)
    ∙ picked (eq_by_cmp (slice_cmp nat_cmp) key p.0) p.1 (get x key)
    ∙ ap (λ (n : List ℕ × Numbers). cond (eq_by_cmp (slice_cmp nat_cmp) key n.0) (Some n.1) (option_map numbers_of (get x key))) same
    ∙ ap (λ (o : Option Numbers). cond (eq_by_cmp (slice_cmp nat_cmp) key q.0) (Some (numbers_of q.1)) o) (h key)
    ∙ sym (picked (eq_by_cmp (slice_cmp nat_cmp) key q.0) q.1 (get y key))
    ∙ sym (ap (option_map numbers_of) (get-insert nat_list_cmp_total y q.0 q.1 key))

-- and laid over documents of the same numbers they leave such
pub laid_alike : (a b : List Item) (x y : Docs) → all_numbered a ≡ all_numbered b → HaveSameNumbers x y → HaveSameNumbers (laid_on x a) (laid_on y b)
laid_alike [] [] x y same h = h
laid_alike [] (q ∷ b) x y same h = absurd (cc)
laid_alike (p ∷ a) [] x y same h = absurd (cc)
laid_alike (p ∷ a) (q ∷ b) x y same h =
    let first : numbered p ≡ numbered q = cc in
    let rest : all_numbered a ≡ all_numbered b = cc in
    laid_alike a b (insert x p.0 p.1) (insert y q.0 q.1) rest (put_alike x y p q first h)
