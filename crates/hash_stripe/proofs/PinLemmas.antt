-- The blocks that no ejecting frees.
use Rattle.std.proofs.Common.{◌≡◌, ◌<◌, ◌≤◌, ℕ, suc, zero, ◌+◌, ◌∙◌, Bool, true, false, not, cond, ◌&&◌, ◌||◌, List, [], ◌∷◌, length, nat_eq, nat_le, nat_lt, refl, sym, ap, eq-eqb, arith}
use Rattle.std.specs.Prelude.{Option, Some, None}
use Rattle.std.specs.Option.{is_some}
use Rattle.std.specs.Str.{bytes_eq}
use Rattle.std.proofs.lemmas.List.{length-set}
use Rattle.std.proofs.lemmas.Bool.{and_parts, ltb-true, ltb-false, leb-true, leb-false}
use Rattle.ep_model.specs.World.{blocks}
use Rattle.ep_model.specs.declared.config.Eviction.{Eviction}
use Rattle.hash_stripe.specs.Nodes.{NodeData, Slot, at, value_blocks, node_blocks, slot_blocks, is_keyed, others_blocks, is_clean, is_full_eviction, is_ejectable, is_ejectable_slot, pinned_blocks, slot_pinned, others_pinned, eject_slot, eject_at, is_victim, first_of_age, or_else, victim, Ejects, EjectsOthers}
use Rattle.hash_stripe.specs.Stripes.{StripeData, IsNode, IsSlot, AreSlots, IsStripe}
use Rattle.hash_stripe.specs.Laws.{KeepsPinned}
use Rattle.hash_stripe.proofs.ChainLemmas.{sum_of-set}
use Rattle.hash_stripe.proofs.RoomLemmas.{IsNext, next-facts, passed, ejected-keyed}
use Rattle.hash_stripe.proofs.StripeLemmas.{either-false, stripe-ejects}

left-pinned : (e : Eviction) (mark : ℕ) (node : NodeData) (b : Bool) → (is_full_eviction e || node.meta.deleted) ≡ b → is_clean mark node ≡ true → slot_pinned e mark (cond b None (Some (record node { value = None }))) ≡ cond b 0 (blocks (length node.key))
left-pinned e mark node true is clean = refl
left-pinned e mark node false is clean =
    ap (λ (b : Bool). cond {A = ℕ} b (cond {A = ℕ} (is_full_eviction e || node.meta.deleted) 0 (blocks (length node.key))) (node_blocks (record node { value = None }))) clean
    ∙ ap (λ (b : Bool). cond {A = ℕ} b 0 (blocks (length node.key))) is

-- ejecting frees no pinned block
kept-pinned : (e : Eviction) (mark : ℕ) (node : NodeData) → is_clean mark node ≡ true → slot_pinned e mark (eject_slot e (Some node)) ≡ cond (is_full_eviction e || node.meta.deleted) 0 (blocks (length node.key))
kept-pinned e mark node clean = left-pinned e mark node (is_full_eviction e || node.meta.deleted) refl clean

pinned-kept : (e : Eviction) (mark : ℕ) (s : Slot) → is_ejectable_slot mark s ≡ true → slot_pinned e mark (eject_slot e s) ≡ slot_pinned e mark s
pinned-kept e mark None may = refl
pinned-kept e mark (Some node) may =
    let clean : is_clean mark node ≡ true = (and_parts (is_clean mark node) (is_some node.value || node.meta.deleted) may).0 in
    let kb = blocks (length node.key) in
    let whole : slot_pinned e mark (Some node) ≡ cond (is_full_eviction e || node.meta.deleted) 0 kb =
    ap (λ (b : Bool). cond b (cond (is_full_eviction e || node.meta.deleted) 0 kb) (node_blocks node)) clean in
    kept-pinned e mark node clean ∙ sym whole

-- the pinned blocks of other keys stay
other-pinned : (e : Eviction) (mark : ℕ) (key : List ℕ) (s : Slot) → is_keyed key s ≡ false → cond (is_keyed key s) 0 (slot_pinned e mark s) ≡ slot_pinned e mark s
other-pinned e mark key s other = ap (λ (b : Bool). cond {A = ℕ} b 0 (slot_pinned e mark s)) other

pinned-step : (e : Eviction) (mark : ℕ) (key : List ℕ) (slots : List Slot) (i : ℕ) → IsNext mark key slots i → others_pinned e mark key (eject_at e slots i) ≡ others_pinned e mark key slots
pinned-step e mark key slots i next =
    let new = eject_slot e (at slots i) in
    let sums = sum_of-set (λ (s : Slot). cond (is_keyed key s) 0 (slot_pinned e mark s)) slots i new None next.inside in
    let was = other-pinned e mark key (at slots i) next.other in
    let is = other-pinned e mark key new (ejected-keyed e key (at slots i) next.other) in
    let same = pinned-kept e mark (at slots i) next.may in
    omega arith

pinned-chain : (e : Eviction) (mark : ℕ) (key : List ℕ) (need n : ℕ) (old new : List Slot) → Ejects e mark key need n old new → others_pinned e mark key new ≡ others_pinned e mark key old
pinned-chain e mark key need zero old new same = ap (others_pinned e mark key) same
pinned-chain e mark key need (suc n) old new chain =
    pinned-chain e mark key need n (eject_at e old chain.0) new chain.3 ∙ pinned-step e mark key old chain.0 (next-facts mark key old chain.0 chain.1)

length-chain : (e : Eviction) (mark : ℕ) (key : List ℕ) (need n : ℕ) (old new : List Slot) → Ejects e mark key need n old new → length new ≡ length old
length-chain e mark key need zero old new same = ap length same
length-chain e mark key need (suc n) old new chain =
    length-chain e mark key need n (eject_at e old chain.0) new chain.3 ∙ length-set old chain.0 (eject_slot e (at old chain.0))

pub ejecting-pinned : (e : Eviction) (mark : ℕ) (key : List ℕ) (need : ℕ) (old new : List Slot) → EjectsOthers e mark key need old new → KeepsPinned e mark key old new
ejecting-pinned e mark key need old new ejects = record {
  slots = length-chain e mark key need ejects.count old new ejects.chain;
  pinned = pinned-chain e mark key need ejects.count old new ejects.chain;
}

-- what is pinned is a part of what is taken
pinned-within : (e : Eviction) (mark : ℕ) (s : Slot) → slot_pinned e mark s ≤ slot_blocks s
pinned-within e mark None = omega arith
pinned-within e mark (Some node) =
    elim (is_clean mark node) as (λ b. cond b (cond (is_full_eviction e || node.meta.deleted) 0 (blocks (length node.key))) (node_blocks node) ≤ node_blocks node) [
      | true ↦ elim (is_full_eviction e || node.meta.deleted) as (λ b. cond b 0 (blocks (length node.key)) ≤ node_blocks node) [ true ↦ omega arith | false ↦ omega arith ]
      | false ↦ omega arith
    ]

others-within : (e : Eviction) (mark : ℕ) (key : List ℕ) (slots : List Slot) → others_pinned e mark key slots ≤ others_blocks key slots
others-within e mark key [] = omega arith
others-within e mark key (s ∷ slots) =
    let rest = others-within e mark key slots in
    let here = pinned-within e mark s in
    elim (is_keyed key s) as (λ b. cond b 0 (slot_pinned e mark s) + others_pinned e mark key slots ≤ cond b 0 (slot_blocks s) + others_blocks key slots) [ true ↦ omega arith | false ↦ omega arith ]

-- where nothing may be ejected, all that is taken is pinned
value-none : (v : Option (List ℕ)) → is_some v ≡ false → value_blocks v ≡ 0
value-none None e = refl
value-none (Some v) e = absurd (cc)

stays-pinned : (index stripes : ℕ) (e : Eviction) (mark : ℕ) (node : NodeData) → IsNode index stripes e mark node → is_ejectable mark node ≡ false → pinned_blocks e mark node ≡ node_blocks node
stays-pinned index stripes e mark node is none =
    elim (is_clean mark node) as (λ b. is_clean mark node ≡ b → (b && (is_some node.value || node.meta.deleted)) ≡ false → cond b (cond (is_full_eviction e || node.meta.deleted) 0 (blocks (length node.key))) (node_blocks node) ≡ node_blocks node) [
      | true ↦ λ clean none.
          let both = either-false (is_some node.value) node.meta.deleted none in
          let full = (is.ejected both.0).1 in
          let value = value-none node.value both.0 in
          let kept : (is_full_eviction e || node.meta.deleted) ≡ false = ap (λ (b : Bool). b || node.meta.deleted) full ∙ both.1 in
          let left : cond {A = ℕ} (is_full_eviction e || node.meta.deleted) 0 (blocks (length node.key)) ≡ blocks (length node.key) = ap (λ (b : Bool). cond {A = ℕ} b 0 (blocks (length node.key))) kept in
          omega arith
      | false ↦ λ clean none. refl
    ] refl none

drop-true : (a b : Bool) → b ≡ true → (a && (true && b)) ≡ false → a ≡ false
drop-true true b h e = absurd (cc)
drop-true false b h e = refl

slot-stays : (index stripes : ℕ) (e : Eviction) (mark : ℕ) (key : List ℕ) (s : Slot) → IsSlot index stripes e mark s → ((age : ℕ) → age ≤ 3 → is_victim mark key age s ≡ false) → cond (is_keyed key s) 0 (slot_pinned e mark s) ≡ cond (is_keyed key s) 0 (slot_blocks s)
slot-stays index stripes e mark key None is none = refl
slot-stays index stripes e mark key (Some node) is none =
    elim (bytes_eq node.key key) as (λ b. (is_ejectable mark node && (not b && nat_eq node.age node.age)) ≡ false → cond b 0 (pinned_blocks e mark node) ≡ cond b 0 (node_blocks node)) [
      | true ↦ λ n. refl
      | false ↦ λ n. stays-pinned index stripes e mark node is (drop-true (is_ejectable mark node) (nat_eq node.age node.age) (eq-eqb node.age node.age refl) n)
    ] (none node.age is.age)

all-stay : (index stripes : ℕ) (e : Eviction) (mark : ℕ) (key : List ℕ) (slots : List Slot) → AreSlots index stripes e mark slots → ((k : ℕ) → k < length slots → (age : ℕ) → age ≤ 3 → is_victim mark key age (at slots k) ≡ false) → others_pinned e mark key slots ≡ others_blocks key slots
all-stay index stripes e mark key [] all none = refl
all-stay index stripes e mark key (s ∷ slots) all none =
    let here = slot-stays index stripes e mark key s all.0 (none 0 (omega arith)) in
    let rest = all-stay index stripes e mark key slots all.1 (λ k h. none (suc k) (omega arith)) in
    omega arith

neither : (a b : Option ℕ) → or_else a b ≡ None → (a ≡ None) × (b ≡ None)
neither None b e = (refl, e)
neither (Some x) b e = absurd (cc)

of-ages : (P : ℕ → Type 0) (age : ℕ) → age ≤ 3 → P 0 → P 1 → P 2 → P 3 → P age
of-ages P zero h p0 p1 p2 p3 = p0
of-ages P (suc zero) h p0 p1 p2 p3 = p1
of-ages P (suc (suc zero)) h p0 p1 p2 p3 = p2
of-ages P (suc (suc (suc zero))) h p0 p1 p2 p3 = p3
of-ages P (suc (suc (suc (suc age)))) h p0 p1 p2 p3 = absurd (omega arith)

no-victim : (mark : ℕ) (key : List ℕ) (slots : List Slot) → victim mark key slots ≡ None → (k : ℕ) → k < length slots → (age : ℕ) → age ≤ 3 → is_victim mark key age (at slots k) ≡ false
no-victim mark key slots e k h age few =
    let three = neither (first_of_age mark key 3 slots) (or_else (first_of_age mark key 2 slots) (or_else (first_of_age mark key 1 slots) (first_of_age mark key 0 slots))) e in
    let two = neither (first_of_age mark key 2 slots) (or_else (first_of_age mark key 1 slots) (first_of_age mark key 0 slots)) three.1 in
    let one = neither (first_of_age mark key 1 slots) (first_of_age mark key 0 slots) two.1 in
    of-ages (λ (a : ℕ). is_victim mark key a (at slots k) ≡ false) age few
    (passed (is_victim mark key 0) slots 0 one.1 k h)
    (passed (is_victim mark key 1) slots 0 one.0 k h)
    (passed (is_victim mark key 2) slots 0 two.0 k h)
    (passed (is_victim mark key 3) slots 0 three.0 k h)

pub last-pinned : (s : StripeData) (key : List ℕ) (need : ℕ) (new : List Slot) → IsStripe s → EjectsOthers s.eviction s.mark key need s.slots new → victim s.mark key new ≡ None → others_blocks key new ≡ others_pinned s.eviction s.mark key s.slots
last-pinned s key need new stripe ejects last =
    let after = stripe-ejects s key need ejects.count new stripe ejects.chain in
    sym (all-stay s.index s.stripes s.eviction s.mark key new after.0.nodes (no-victim s.mark key new last))
    ∙ pinned-chain s.eviction s.mark key need ejects.count s.slots new ejects.chain

-- room was made: what is pinned leaves enough
pub room-made : (s : StripeData) (key : List ℕ) (need n : ℕ) (new : List Slot) → IsStripe s → Ejects s.eviction s.mark key need n s.slots new → true ≡ nat_le (others_blocks key new + need) (length new) → false ≡ nat_lt (length s.slots) (others_pinned s.eviction s.mark key s.slots + need)
room-made s key need n new stripe chain fits =
    let enough = leb-true (others_blocks key new + need) (length new) (sym fits) in
    let same = pinned-chain s.eviction s.mark key need n s.slots new chain in
    let within = others-within s.eviction s.mark key new in
    let len = (stripe-ejects s key need n new stripe chain).1 in
    elim (nat_lt (length s.slots) (others_pinned s.eviction s.mark key s.slots + need)) as (λ b. nat_lt (length s.slots) (others_pinned s.eviction s.mark key s.slots + need) ≡ b → false ≡ b) [
      | true ↦ λ e. let more = ltb-true (length s.slots) (others_pinned s.eviction s.mark key s.slots + need) e in absurd (omega arith)
      | false ↦ λ e. refl
    ] refl

-- and where nothing more may be ejected, and it doesn't fit, what is pinned leaves too little
pub room-short : (s : StripeData) (key : List ℕ) (need n : ℕ) (new : List Slot) → IsStripe s → Ejects s.eviction s.mark key need n s.slots new → victim s.mark key new ≡ None → false ≡ nat_le (others_blocks key new + need) (length new) → true ≡ nat_lt (length s.slots) (others_pinned s.eviction s.mark key s.slots + need)
room-short s key need n new stripe chain last fits =
    let little = leb-false (others_blocks key new + need) (length new) (sym fits) in
    let same = pinned-chain s.eviction s.mark key need n s.slots new chain in
    let after = stripe-ejects s key need n new stripe chain in
    let len = after.1 in
    let stay = all-stay s.index s.stripes s.eviction s.mark key new after.0.nodes (no-victim s.mark key new last) in
    elim (nat_lt (length s.slots) (others_pinned s.eviction s.mark key s.slots + need)) as (λ b. nat_lt (length s.slots) (others_pinned s.eviction s.mark key s.slots + need) ≡ b → true ≡ b) [
      | true ↦ λ e. refl
      | false ↦ λ e. let less = ltb-false (length s.slots) (others_pinned s.eviction s.mark key s.slots + need) e in absurd (omega arith)
    ] refl

-- the same, said of what the stripe was when a call began
pub made-at : (x s : StripeData) (key : List ℕ) (m need : ℕ) (new : List Slot) (fits : Bool) → x ≡ s → m ≡ need → IsStripe x → EjectsOthers x.eviction x.mark key m x.slots new → fits ≡ nat_le (others_blocks key new + m) (length new) → fits ≡ true → false ≡ nat_lt (length s.slots) (others_pinned s.eviction s.mark key s.slots + need)
made-at x s key m need new fits same m-is stripe ejects fits-is is =
    room-made x key m ejects.count new stripe ejects.chain (sym is ∙ fits-is)
    ∙ ap (λ (y : StripeData). nat_lt (length y.slots) (others_pinned y.eviction y.mark key y.slots + m)) same
    ∙ ap (λ (k : ℕ). nat_lt (length s.slots) (others_pinned s.eviction s.mark key s.slots + k)) m-is

pub short-at : (x s : StripeData) (key : List ℕ) (m need : ℕ) (new : List Slot) (fits : Bool) → x ≡ s → m ≡ need → IsStripe x → EjectsOthers x.eviction x.mark key m x.slots new → victim x.mark key new ≡ None → fits ≡ nat_le (others_blocks key new + m) (length new) → fits ≡ false → true ≡ nat_lt (length s.slots) (others_pinned s.eviction s.mark key s.slots + need)
short-at x s key m need new fits same m-is stripe ejects last fits-is is =
    room-short x key m ejects.count new stripe ejects.chain last (sym is ∙ fits-is)
    ∙ ap (λ (y : StripeData). nat_lt (length y.slots) (others_pinned y.eviction y.mark key y.slots + m)) same
    ∙ ap (λ (k : ℕ). nat_lt (length s.slots) (others_pinned s.eviction s.mark key s.slots + k)) m-is

pub last-at : (x s : StripeData) (key : List ℕ) (new : List Slot) → x ≡ s → victim x.mark key new ≡ None → victim s.mark key new ≡ None
last-at x s key new same last = ap (λ (y : StripeData). victim y.mark key new) (sym same) ∙ last
