-- What becomes of nodes whose bytes lie in a pool, as chains are put and taken back.
use Rattle.std.proofs.Common.{◌≡◌, ◌<◌, ◌≤◌, ℕ, suc, zero, ◌+◌, ◌∙◌, Bool, true, false, cond, List, [], ◌∷◌, length, get_or, nat_eq, nat_lt, refl, sym, ap, subst, eq-eqb, arith}
use Rattle.std.proofs.Math.ListN.{set}
use Rattle.std.specs.Prelude.{Option, Some, None, slice_get, replicate}
use Rattle.std.specs.Option.{option_map}
use Rattle.std.proofs.lemmas.Bool.{eqb-true, eqb-false, ltb-true, ltb-false}
use Rattle.std.proofs.lemmas.List.{set_past, get_or_past, get_or-set_same, get_or-set_other, length-set, length-replicate}
use Rattle.std.proofs.lemmas.Option.{slice_get_within, get_or_from_slice_get}
use Rattle.value_pool.specs.Pools.{Held, blocks_of, all_free, Puts, TakesBack}
use Rattle.hash_stripe.specs.Nodes.{NodeData, Slot, sum_of, used, slot_blocks}
use Rattle.hash_stripe.specs.Chains.{NodePlace, text, slot_in, slots_of, value_chains, place_chains, times, held_times, IsWhole, AreWhole, EachWhole, chain_blocks, IsKept}

-- a sum with another element
pub sum_of-set : {X : Type 0} (count : X → ℕ) (xs : List X) (i : ℕ) (y d : X) → i < length xs → sum_of count (set xs i y) + count (get_or xs i d) ≡ sum_of count xs + count y
sum_of-set count [] i y d inside = absurd (omega arith)
sum_of-set count (x ∷ xs) zero y d inside = omega arith
sum_of-set count (x ∷ xs) (suc i) y d inside = let rest = sum_of-set count xs i y d (omega arith) in omega arith

-- a chain isn't this one, or is past the last block
abbrev Clear : List (List ℕ) → ℕ → ℕ → Type 0
Clear texts c d = d ≡ c → length texts ≤ c

abbrev AreClear : List (List ℕ) → ℕ → List ℕ → Type 0
AreClear texts c [] = Unit {0}
AreClear texts c (d ∷ ds) = Clear texts c d × AreClear texts c ds

abbrev EachClear : List (List ℕ) → ℕ → List NodePlace → Type 0
EachClear texts c [] = Unit {0}
EachClear texts c (place ∷ places) = AreClear texts c (place_chains place) × EachClear texts c places

text-set : (texts : List (List ℕ)) (c d : ℕ) (bytes : List ℕ) → Clear texts c d → text (set texts c bytes) d ≡ text texts d
text-set texts c d bytes clear =
    elim (nat_eq d c) as (λ b. nat_eq d c ≡ b → text (set texts c bytes) d ≡ text texts d) [
      | true ↦ λ is. ap (λ (ts : List (List ℕ)). get_or ts d []) (set_past texts c bytes (clear (eqb-true d c is)))
      | false ↦ λ is. get_or-set_other texts c d bytes [] (eqb-false d c is)
    ] refl

value-set : (texts : List (List ℕ)) (c : ℕ) (bytes : List ℕ) (value : Option ℕ) (rest : List ℕ) → AreClear texts c (value_chains value rest) → (option_map (text (set texts c bytes)) value ≡ option_map (text texts) value) × AreClear texts c rest
value-set texts c bytes None rest clear = (refl, clear)
value-set texts c bytes (Some v) rest clear = (ap (λ (t : List ℕ). Some t) (text-set texts c v bytes clear.0), clear.1)

slot-set : (texts : List (List ℕ)) (c : ℕ) (bytes : List ℕ) (place : NodePlace) → AreClear texts c (place_chains place) → slot_in (set texts c bytes) place ≡ slot_in texts place
slot-set texts c bytes None clear = refl
slot-set texts c bytes (Some node) clear =
    let v = value-set texts c bytes node.value (node.key ∷ []) clear in
    let one = λ (k : List ℕ) (w : Option (List ℕ)). let d : NodeData = record { key = k; meta = node.meta; value = w; age = node.age } in Some d in
    ap (λ (k : List ℕ). one k (option_map (text (set texts c bytes)) node.value)) (text-set texts c node.key bytes v.1.0)
    ∙ ap (λ (w : Option (List ℕ)). one (text texts node.key) w) v.0

slots-set : (texts : List (List ℕ)) (c : ℕ) (bytes : List ℕ) (places : List NodePlace) → EachClear texts c places → slots_of (set texts c bytes) places ≡ slots_of texts places
slots-set texts c bytes [] clear = refl
slots-set texts c bytes (place ∷ places) clear =
    ap (λ (s : Slot). s ∷ slots_of (set texts c bytes) places) (slot-set texts c bytes place clear.0)
    ∙ ap (λ (ss : List Slot). slot_in texts place ∷ ss) (slots-set texts c bytes places clear.1)

whole-set : (texts : List (List ℕ)) (c : ℕ) (bytes : List ℕ) (ds : List ℕ) → AreClear texts c ds → AreWhole texts ds → AreWhole (set texts c bytes) ds
whole-set texts c bytes [] clear whole = tt
whole-set texts c bytes (d ∷ ds) clear whole = (
  (λ e. let past = whole.0 (sym (text-set texts c d bytes clear.0) ∙ e) in let same = length-set texts c bytes in omega arith),
  whole-set texts c bytes ds clear.1 whole.1,
)

each-whole-set : (texts : List (List ℕ)) (c : ℕ) (bytes : List ℕ) (places : List NodePlace) → EachClear texts c places → EachWhole texts places → EachWhole (set texts c bytes) places
each-whole-set texts c bytes [] clear whole = tt
each-whole-set texts c bytes (place ∷ places) clear whole =
    (whole-set texts c bytes (place_chains place) clear.0 whole.0, each-whole-set texts c bytes places clear.1 whole.1)

blocks-set : (texts : List (List ℕ)) (c : ℕ) (bytes : List ℕ) (ds : List ℕ) → AreClear texts c ds → chain_blocks (set texts c bytes) ds ≡ chain_blocks texts ds
blocks-set texts c bytes [] clear = refl
blocks-set texts c bytes (d ∷ ds) clear =
    let here = ap (λ (t : List ℕ). blocks_of (length t)) (text-set texts c d bytes clear.0) in
    let rest = blocks-set texts c bytes ds clear.1 in
    omega arith

-- a chain of no byte in front of the end is none of those that are whole
fresh-clear : (texts : List (List ℕ)) (c : ℕ) (ds : List ℕ) → text texts c ≡ [] → AreWhole texts ds → AreClear texts c ds
fresh-clear texts c [] fresh whole = tt
fresh-clear texts c (d ∷ ds) fresh whole = (
  (λ same. let past : length texts ≤ d = whole.0 (ap (text texts) same ∙ fresh) in omega arith),
  fresh-clear texts c ds fresh whole.1,
)

each-fresh-clear : (texts : List (List ℕ)) (c : ℕ) (places : List NodePlace) → text texts c ≡ [] → EachWhole texts places → EachClear texts c places
each-fresh-clear texts c [] fresh whole = tt
each-fresh-clear texts c (place ∷ places) fresh whole =
    (fresh-clear texts c (place_chains place) fresh whole.0, each-fresh-clear texts c places fresh whole.1)

-- a chain that doesn't stand in a list
zero-clear : (texts : List (List ℕ)) (c : ℕ) (ds : List ℕ) → (c < length texts → times c ds ≡ 0) → AreClear texts c ds
zero-clear texts c [] none = tt
zero-clear texts c (d ∷ ds) none = (
  (λ same. elim (nat_lt c (length texts)) as (λ b. nat_lt c (length texts) ≡ b → length texts ≤ c) [
    | true ↦ λ is.
        let here = none (ltb-true c (length texts) is) in
        let counted : cond {A = ℕ} (nat_eq d c) 1 0 ≡ 1 = ap (λ (b : Bool). cond {A = ℕ} b 1 0) (eq-eqb d c same) in
        absurd (omega arith)
    | false ↦ λ is. ltb-false c (length texts) is
  ] refl),
  zero-clear texts c ds (λ h. let e = none h in omega arith),
)

each-zero-clear : (texts : List (List ℕ)) (c : ℕ) (places : List NodePlace) → (c < length texts → held_times c places ≡ 0) → EachClear texts c places
each-zero-clear texts c [] none = tt
each-zero-clear texts c (place ∷ places) none = (
  zero-clear texts c (place_chains place) (λ h. let e = none h in omega arith),
  each-zero-clear texts c places (λ h. let e = none h in omega arith),
)

-- and one that is clear doesn't stand there
clear-zero : (texts : List (List ℕ)) (c : ℕ) (ds : List ℕ) → c < length texts → AreClear texts c ds → times c ds ≡ 0
clear-zero texts c [] inside clear = refl
clear-zero texts c (d ∷ ds) inside clear =
    let rest = clear-zero texts c ds inside clear.1 in
    elim (nat_eq d c) as (λ b. nat_eq d c ≡ b → cond b 1 0 + times c ds ≡ 0) [
      | true ↦ λ is. let past = clear.0 (eqb-true d c is) in absurd (omega arith)
      | false ↦ λ is. omega arith
    ] refl

each-clear-zero : (texts : List (List ℕ)) (c : ℕ) (places : List NodePlace) → c < length texts → EachClear texts c places → held_times c places ≡ 0
each-clear-zero texts c [] inside clear = refl
each-clear-zero texts c (place ∷ places) inside clear =
    let here = clear-zero texts c (place_chains place) inside clear.0 in
    let rest = each-clear-zero texts c places inside clear.1 in
    omega arith

-- the bytes of a chain that was put
put-text : (texts : List (List ℕ)) (c : ℕ) (bytes : List ℕ) → ((bytes ≡ [] → ⊥) → c < length texts) → (bytes ≡ [] → c ≡ length texts) → text (set texts c bytes) c ≡ bytes
put-text texts c [] within empty =
    let past : length texts ≤ c = (let e = empty refl in omega arith) in
    ap (λ (ts : List (List ℕ)). get_or ts c []) (set_past texts c [] past) ∙ get_or_past texts c [] past
put-text texts c (b ∷ bytes) within empty = get_or-set_same texts c (b ∷ bytes) [] (within (λ e. absurd (cc)))

put-whole : (texts : List (List ℕ)) (c : ℕ) (bytes : List ℕ) → ((bytes ≡ [] → ⊥) → c < length texts) → (bytes ≡ [] → c ≡ length texts) → IsWhole (set texts c bytes) c
put-whole texts c bytes within empty = λ e.
    let none : bytes ≡ [] = sym (put-text texts c bytes within empty) ∙ e in
    let past = empty none in
    let same = length-set texts c bytes in
    omega arith

-- the loose chains have the bytes that they had
abbrev pub AreSame : List (List ℕ) → List (List ℕ) → List ℕ → Type 0
AreSame old new [] = Unit {0}
AreSame old new (d ∷ ds) = (text new d ≡ text old d) × AreSame old new ds

same-set : (texts : List (List ℕ)) (c : ℕ) (bytes : List ℕ) (ds : List ℕ) → AreClear texts c ds → AreSame texts (set texts c bytes) ds
same-set texts c bytes [] clear = tt
same-set texts c bytes (d ∷ ds) clear = (text-set texts c d bytes clear.0, same-set texts c bytes ds clear.1)

-- what a step on the pool leaves: the nodes are as they were, and so are the chains that stay loose
pub record Leaves (p q : Held) (places : List NodePlace) (kept loose : List ℕ) : Type 0 where
  pub stands : IsKept q places loose
  pub slots : slots_of q.texts places ≡ slots_of p.texts places
  pub same : AreSame p.texts q.texts kept

put-apart : (p : Held) (places : List NodePlace) (loose : List ℕ) (c d : ℕ) → IsKept p places loose → EachClear p.texts c places → AreClear p.texts c loose → d < length p.texts → held_times d places + times d (c ∷ loose) ≤ 1
put-apart p places loose c d kept clear loose-clear inside =
    let before = kept.apart d inside in
    elim (nat_eq c d) as (λ b. nat_eq c d ≡ b → held_times d places + (cond b 1 0 + times d loose) ≤ 1) [
      | true ↦ λ is.
          let same : c ≡ d = eqb-true c d is in
          let none = each-clear-zero p.texts d places inside (subst (λ n. EachClear p.texts n places) same clear) in
          let none-loose = clear-zero p.texts d loose inside (subst (λ n. AreClear p.texts n loose) same loose-clear) in
          omega arith
      | false ↦ λ is. omega arith
    ] refl

put-kept : (p : Held) (free : ℕ) (places : List NodePlace) (loose : List ℕ) (c : ℕ) (bytes : List ℕ) → IsKept p places loose → free + blocks_of (length bytes) ≡ p.free → text p.texts c ≡ [] → ((bytes ≡ [] → ⊥) → c < length p.texts) → (bytes ≡ [] → c ≡ length p.texts) → Leaves p (record { texts = set p.texts c bytes; free = free }) places loose (c ∷ loose)
put-kept p free places loose c bytes kept free-is fresh within empty =
    let clear = each-fresh-clear p.texts c places fresh kept.whole in
    let loose-clear = fresh-clear p.texts c loose fresh kept.loose_whole in
    let slots : slots_of (set p.texts c bytes) places ≡ slots_of p.texts places = slots-set p.texts c bytes places clear in
    record {
      stands = record {
        size = length-set p.texts c bytes ∙ kept.size;
        few = kept.few;
        exact =
            let exact = kept.exact in
            let same : used (slots_of (set p.texts c bytes) places) ≡ used (slots_of p.texts places) = ap used slots in
            let rest = blocks-set p.texts c bytes loose loose-clear in
            let here = ap (λ (t : List ℕ). blocks_of (length t)) (put-text p.texts c bytes within empty) in
            omega arith;
        whole = each-whole-set p.texts c bytes places clear kept.whole;
        loose_whole = (put-whole p.texts c bytes within empty, whole-set p.texts c bytes loose loose-clear kept.loose_whole);
        apart = λ d inside. put-apart p places loose c d kept clear loose-clear (let same = length-set p.texts c bytes in omega arith);
      };
      slots = slots;
      same = same-set p.texts c bytes loose loose-clear;
    }

-- a chain is put
pub puts-kept : (p q : Held) (places : List NodePlace) (loose : List ℕ) (c : ℕ) (bytes : List ℕ) → IsKept p places loose → Puts p q c bytes → Leaves p q places loose (c ∷ loose) × (text q.texts c ≡ bytes)
puts-kept p q places loose c bytes kept puts = (
  subst (λ (ts : List (List ℕ)). Leaves p (record { texts = ts; free = q.free }) places loose (c ∷ loose)) (sym puts.texts)
      (put-kept p q.free places loose c bytes kept puts.free puts.fresh puts.within puts.empty),
  ap (λ (ts : List (List ℕ)). text ts c) puts.texts ∙ put-text p.texts c bytes puts.within puts.empty,
)

back-places : (p : Held) (places : List NodePlace) (loose : List ℕ) (c : ℕ) → IsKept p places (c ∷ loose) → c < length p.texts → held_times c places ≡ 0
back-places p places loose c kept inside =
    let few = kept.apart c inside in
    let here : cond {A = ℕ} (nat_eq c c) 1 0 ≡ 1 = ap (λ (b : Bool). cond {A = ℕ} b 1 0) (eq-eqb c c refl) in
    omega arith

back-loose : (p : Held) (places : List NodePlace) (loose : List ℕ) (c : ℕ) → IsKept p places (c ∷ loose) → c < length p.texts → times c loose ≡ 0
back-loose p places loose c kept inside =
    let few = kept.apart c inside in
    let here : cond {A = ℕ} (nat_eq c c) 1 0 ≡ 1 = ap (λ (b : Bool). cond {A = ℕ} b 1 0) (eq-eqb c c refl) in
    omega arith

back-kept : (p : Held) (free : ℕ) (places : List NodePlace) (loose : List ℕ) (c : ℕ) → IsKept p places (c ∷ loose) → free ≡ p.free + blocks_of (length (text p.texts c)) → Leaves p (record { texts = set p.texts c []; free = free }) places loose loose
back-kept p free places loose c kept free-is =
    let clear = each-zero-clear p.texts c places (λ h. back-places p places loose c kept h) in
    let loose-clear = zero-clear p.texts c loose (λ h. back-loose p places loose c kept h) in
    let slots : slots_of (set p.texts c []) places ≡ slots_of p.texts places = slots-set p.texts c [] places clear in
    record {
      stands = record {
        size = length-set p.texts c [] ∙ kept.size;
        few = kept.few;
        exact =
            let exact = kept.exact in
            let same : used (slots_of (set p.texts c []) places) ≡ used (slots_of p.texts places) = ap used slots in
            let rest = blocks-set p.texts c [] loose loose-clear in
            omega arith;
        whole = each-whole-set p.texts c [] places clear kept.whole;
        loose_whole = whole-set p.texts c [] loose loose-clear kept.loose_whole.1;
        apart = λ d inside. (let h = kept.apart d (let same = length-set p.texts c [] in omega arith) in omega arith);
      };
      slots = slots;
      same = same-set p.texts c [] loose loose-clear;
    }

-- a loose chain is taken back
pub backs-kept : (p q : Held) (places : List NodePlace) (loose : List ℕ) (c : ℕ) → IsKept p places (c ∷ loose) → TakesBack p q c → Leaves p q places loose loose
backs-kept p q places loose c kept back =
    subst (λ (ts : List (List ℕ)). Leaves p (record { texts = ts; free = q.free }) places loose loose) (sym back.texts)
    (back-kept p q.free places loose c kept back.free)

blocks-place : (texts : List (List ℕ)) (place : NodePlace) → chain_blocks texts (place_chains place) ≡ slot_blocks (slot_in texts place)
blocks-place texts None = refl
blocks-place texts (Some node) =
    elim node.value as (λ v. chain_blocks texts (value_chains v (node.key ∷ [])) ≡ slot_blocks (Some (record { key = text texts node.key; meta = node.meta; value = option_map (text texts) v; age = node.age }))) [
      | None ↦ omega arith
      | Some v ↦ omega arith
    ]

each-whole-in : (texts : List (List ℕ)) (places : List NodePlace) (i : ℕ) (new : NodePlace) → AreWhole texts (place_chains new) → EachWhole texts places → EachWhole texts (set places i new)
each-whole-in texts [] i new here whole = tt
each-whole-in texts (place ∷ places) zero new here whole = (here, whole.1)
each-whole-in texts (place ∷ places) (suc i) new here whole = (whole.0, each-whole-in texts places i new here whole.1)

each-whole-at : (texts : List (List ℕ)) (places : List NodePlace) (i : ℕ) (old : NodePlace) → slice_get places i ≡ Some old → EachWhole texts places → AreWhole texts (place_chains old)
each-whole-at texts [] i old is whole = absurd (cc)
each-whole-at texts (place ∷ places) zero old is whole =
    let same : place ≡ old = cc in subst (λ (x : NodePlace). AreWhole texts (place_chains x)) same whole.0
each-whole-at texts (place ∷ places) (suc i) old is whole = each-whole-at texts places i old is whole.1

used-places : (texts : List (List ℕ)) (places : List NodePlace) → used (slots_of texts places) ≡ sum_of (λ (place : NodePlace). slot_blocks (slot_in texts place)) places
used-places texts [] = refl
used-places texts (place ∷ places) = ap (λ n. slot_blocks (slot_in texts place) + n) (used-places texts places)

swap-exact : (p : Held) (places : List NodePlace) (i : ℕ) (old new : NodePlace) → i < length places → get_or places i None ≡ old → IsKept p places (place_chains new) → p.free + (used (slots_of p.texts (set places i new)) + chain_blocks p.texts (place_chains old)) ≡ length (set places i new)
swap-exact p places i old new inside there kept =
    let sums = sum_of-set (λ (place : NodePlace). slot_blocks (slot_in p.texts place)) places i new None inside in
    let at = ap (λ (place : NodePlace). slot_blocks (slot_in p.texts place)) there in
    let of-set = used-places p.texts (set places i new) in
    let of-all = used-places p.texts places in
    let old-blocks = blocks-place p.texts old in
    let new-blocks = blocks-place p.texts new in
    let exact = kept.exact in
    let len = length-set places i new in
    omega arith

-- a node whose chains are loose is put into a place, and the chains of the one that was there are loose then
pub swap-kept : (p : Held) (places : List NodePlace) (i : ℕ) (old new : NodePlace) → slice_get places i ≡ Some old → IsKept p places (place_chains new) → IsKept p (set places i new) (place_chains old)
swap-kept p places i old new is kept =
    let inside = slice_get_within places i old is in
    let there : get_or places i None ≡ old = get_or_from_slice_get places i old None is in
    record {
      size = kept.size ∙ sym (length-set places i new);
      few = rw (length-set places i new) kept.few;
      exact = swap-exact p places i old new inside there kept;
      whole = each-whole-in p.texts places i new kept.loose_whole kept.whole;
      loose_whole = each-whole-at p.texts places i old is kept.whole;
      apart = λ c h.
          let sums = sum_of-set (λ (place : NodePlace). times c (place_chains place)) places i new None inside in
          let at = ap (λ (place : NodePlace). times c (place_chains place)) there in
          let few = kept.apart c h in
          omega arith;
    }

pub slots-empty : (texts : List (List ℕ)) (n : ℕ) → slots_of texts (replicate n None) ≡ replicate n None
slots-empty texts zero = refl
slots-empty texts (suc n) = ap (λ (s : List Slot). None ∷ s) (slots-empty texts n)

used-empty : (texts : List (List ℕ)) (n : ℕ) → used (slots_of texts (replicate n None)) ≡ 0
used-empty texts zero = refl
used-empty texts (suc n) = let rest = used-empty texts n in omega arith

whole-empty : (texts : List (List ℕ)) (n : ℕ) → EachWhole texts (replicate n None)
whole-empty texts zero = tt
whole-empty texts (suc n) = (tt, whole-empty texts n)

times-empty : (c n : ℕ) → held_times c (replicate n None) ≡ 0
times-empty c zero = refl
times-empty c (suc n) = let rest = times-empty c n in omega arith

-- a pool whose blocks are all free, with as many empty places
pub new-kept : (blocks : ℕ) → blocks ≤ 16777216 → IsKept (all_free blocks) (replicate blocks None) []
new-kept blocks few = record {
  size = length-replicate {A = List ℕ} blocks [] ∙ sym (length-replicate {A = NodePlace} blocks None);
  few = rw (length-replicate {A = NodePlace} blocks None) few;
  exact = (let none = used-empty (replicate blocks []) blocks in let len = length-replicate {A = NodePlace} blocks None in omega arith);
  whole = whole-empty (replicate blocks []) blocks;
  loose_whole = tt;
  apart = λ c h. (let none = times-empty c blocks in omega arith);
}
