-- What is so of a stripe after each call.
use Rattle.std.proofs.Common.{◌≡◌, ◌<◌, ◌≤◌, ℕ, suc, zero, ◌∙◌, Bool, true, false, not, cond, ◌||◌, ◌+◌, List, [], ◌∷◌, length, nat_le, nat_lt, refl, sym, ap, subst, arith}
use Rattle.std.proofs.Math.ListN.{set}
use Rattle.std.specs.Prelude.{Option, Some, None, map, replicate, count_by}
use Rattle.std.specs.Option.{is_some}
use Rattle.std.specs.Str.{bytes_eq}
use Rattle.std.proofs.lemmas.Bool.{and_parts, ltb-false, leb-true, leb-false}
use Rattle.std.proofs.lemmas.Slice.Eq.{bytes_eq-Decides}
use Rattle.std.proofs.lemmas.List.{length-set, length-map, length-replicate}
use Rattle.std.proofs.lemmas.List.Sums.{sum_by-cons}
use Rattle.ep_model.specs.declared.call.Meta.{Meta}
use Rattle.ep_model.specs.declared.config.Config.{Config}
use Rattle.ep_model.specs.declared.config.Eviction.{Eviction}
use Rattle.ep_model.specs.declared.call.VbState.{VbState}
use Rattle.ep_model.specs.declared.config.Field.{Field}
use Rattle.ep_model.specs.declared.config.Field.TheVariants.{Vbuckets, Stripes, Blocks}
use Rattle.ep_model.specs.Config.{is_outside, config_fault}
use Rattle.hash_stripe.specs.Nodes.{NodeData, Slot, used, at, slot_blocks, is_keyed, is_clean, is_full_eviction, is_ejectable_slot, eject_slot, eject_at, Ejects, heated, cooled, is_resident, is_ejected}
use Rattle.hash_stripe.specs.Stripes.{StripeData, free_of, IsSlot, AreSlots, has_key, IsApart, AreApart, AreKeyed, IsStripe, IsValueOf, key_of}
use Rattle.hash_stripe.proofs.ChainLemmas.{sum_of-set}
use Rattle.hash_stripe.proofs.RoomLemmas.{next-facts, keyed-has, apart-key}

-- a slot that gets what is so of a slot
pub slots-changed : (index stripes : ℕ) (e : Eviction) (mark : ℕ) (slots : List Slot) (i : ℕ) (x : Slot) → AreSlots index stripes e mark slots → IsSlot index stripes e mark x → AreSlots index stripes e mark (set slots i x)
slots-changed index stripes e mark [] i x all here = tt
slots-changed index stripes e mark (s ∷ slots) zero x all here = (here, all.1)
slots-changed index stripes e mark (s ∷ slots) (suc i) x all here = (all.0, slots-changed index stripes e mark slots i x all.1 here)

pub slot-at : (index stripes : ℕ) (e : Eviction) (mark : ℕ) (slots : List Slot) (i : ℕ) → AreSlots index stripes e mark slots → IsSlot index stripes e mark (at slots i)
slot-at index stripes e mark [] i all = tt
slot-at index stripes e mark (s ∷ slots) zero all = all.0
slot-at index stripes e mark (s ∷ slots) (suc i) all = slot-at index stripes e mark slots i all.1

pub key-few : (index stripes : ℕ) (e : Eviction) (mark : ℕ) (slots : List Slot) (i : ℕ) → AreSlots index stripes e mark slots → length (key_of (at slots i)) ≤ 250
key-few index stripes e mark slots i all = few (at slots i) (slot-at index stripes e mark slots i all)
  where
    few : (s : Slot) → IsSlot index stripes e mark s → length (key_of s) ≤ 250
    few None is = omega arith
    few (Some node) is = is.key.1

pub either-false : (a b : Bool) → (a || b) ≡ false → (a ≡ false) × (b ≡ false)
either-false true b e = absurd (cc)
either-false false b e = (refl, e)

pub has-set : (key : List ℕ) (slots : List Slot) (i : ℕ) (x : Slot) → has_key key slots ≡ false → is_keyed key x ≡ false → has_key key (set slots i x) ≡ false
has-set key [] i x none here = refl
has-set key (s ∷ slots) zero x none here =
    let parts = either-false (is_keyed key s) (has_key key slots) none in
    ap (λ b. b || has_key key slots) here ∙ parts.1
has-set key (s ∷ slots) (suc i) x none here =
    let parts = either-false (is_keyed key s) (has_key key slots) none in
    ap (λ b. b || has_key key (set slots i x)) parts.0 ∙ has-set key slots i x parts.1 here

-- what stands in a slot gets another node of the same key, or none
abbrev pub KeepsKey : Slot → Slot → Type 0
KeepsKey old new = (key : List ℕ) → is_keyed key new ≡ true → is_keyed key old ≡ true

same-key : (node : NodeData) → is_keyed node.key (Some node) ≡ true
same-key node = (bytes_eq-Decides node.key node.key).1 refl

not-keyed : (key : List ℕ) (slots : List Slot) (i : ℕ) (x : Slot) → i < length slots → has_key key slots ≡ false → KeepsKey (at slots i) x → is_keyed key x ≡ false
not-keyed key slots i x inside none keeps =
    elim (is_keyed key x) as (λ b. is_keyed key x ≡ b → b ≡ false) [
      | true ↦ λ is. let some = keyed-has key slots i inside (keeps key is) in absurd (cc)
      | false ↦ λ is. refl
    ] refl

apart-here : (x s : Slot) (slots : List Slot) → IsApart s slots → KeepsKey s x → IsApart x slots
apart-here None s slots apart keeps = tt
apart-here (Some node) s slots apart keeps = apart-key node.key s slots (keeps node.key (same-key node)) apart

apart-later : (s : Slot) (slots : List Slot) (i : ℕ) (x : Slot) → i < length slots → IsApart s slots → KeepsKey (at slots i) x → IsApart s (set slots i x)
apart-later None slots i x inside apart keeps = tt
apart-later (Some node) slots i x inside apart keeps = has-set node.key slots i x apart (not-keyed node.key slots i x inside apart keeps)

pub apart-changed : (slots : List Slot) (i : ℕ) (x : Slot) → i < length slots → AreApart slots → KeepsKey (at slots i) x → AreApart (set slots i x)
apart-changed [] i x inside apart keeps = absurd (omega arith)
apart-changed (s ∷ slots) zero x inside apart keeps = (apart-here x s slots apart.0 keeps, apart.1)
apart-changed (s ∷ slots) (suc i) x inside apart keeps =
    (apart-later s slots i x (omega arith) apart.0 keeps, apart-changed slots i x (omega arith) apart.1 keeps)

-- a slot gets a node of a key that none has
other-way : (a b : List ℕ) → bytes_eq a b ≡ false → bytes_eq b a ≡ false
other-way a b e =
    elim (bytes_eq b a) as (λ t. bytes_eq b a ≡ t → t ≡ false) [
      | true ↦ λ is. let same = sym ((bytes_eq-Decides b a).0 is) in let yes = (bytes_eq-Decides a b).1 same in absurd (cc)
      | false ↦ λ is. refl
    ] refl

apart-before : (s : Slot) (slots : List Slot) (i : ℕ) (node : NodeData) → IsApart s slots → is_keyed node.key s ≡ false → IsApart s (set slots i (Some node))
apart-before None slots i node apart other = tt
apart-before (Some m) slots i node apart other = has-set m.key slots i (Some node) apart (other-way m.key node.key other)

pub apart-put : (slots : List Slot) (i : ℕ) (node : NodeData) → AreApart slots → has_key node.key slots ≡ false → AreApart (set slots i (Some node))
apart-put [] i node apart none = tt
apart-put (s ∷ slots) zero node apart none = ((either-false (is_keyed node.key s) (has_key node.key slots) none).1, apart.1)
apart-put (s ∷ slots) (suc i) node apart none =
    let parts = either-false (is_keyed node.key s) (has_key node.key slots) none in
    (apart-before s slots i node apart.0 parts.0, apart-put slots i node apart.1 parts.1)

pub keyed-slots : (index stripes : ℕ) (e : Eviction) (mark : ℕ) (slots : List Slot) → AreSlots index stripes e mark slots → AreKeyed slots
keyed-slots index stripes e mark [] all = tt
keyed-slots index stripes e mark (None ∷ slots) all = (tt, keyed-slots index stripes e mark slots all.1)
keyed-slots index stripes e mark (Some node ∷ slots) all = (all.0.key.0, keyed-slots index stripes e mark slots all.1)

-- a stripe with one slot changed, to a node of the same key or to none, that takes no more
pub stripe-changed : (s : StripeData) (i : ℕ) (x : Slot) → IsStripe s → i < length s.slots → IsSlot s.index s.stripes s.eviction s.mark x → KeepsKey (at s.slots i) x → slot_blocks x ≤ slot_blocks (at s.slots i) → IsStripe (record s { slots = set s.slots i x })
stripe-changed s i x stripe inside here keeps less =
    let sums = sum_of-set slot_blocks s.slots i x None inside in
    let len = length-set s.slots i x in
    let few = stripe.few in
    let room = stripe.room in
    record {
      place = stripe.place;
      few = omega arith;
      room = omega arith;
      nodes = slots-changed s.index s.stripes s.eviction s.mark s.slots i x stripe.nodes here;
      apart = apart-changed s.slots i x inside stripe.apart keeps;
    }

-- the metadata's length is within the limit, whether the value is there or not
len-fits : (meta : Meta) (value : Option (List ℕ)) → IsValueOf meta value → meta.len ≤ 1048576
len-fits meta None is = is.1
len-fits meta (Some value) is = let few = is.0 in let same = is.1 in omega arith

-- a document that is ejected
ejected-slot : (index stripes : ℕ) (e : Eviction) (mark : ℕ) (s : Slot) → IsSlot index stripes e mark s → is_ejectable_slot mark s ≡ true → IsSlot index stripes e mark (eject_slot e s) × KeepsKey s (eject_slot e s) × (slot_blocks (eject_slot e s) ≤ slot_blocks s)
ejected-slot index stripes e mark None is may = (tt, (λ key k. k), omega arith)
ejected-slot index stripes e mark (Some node) is may =
    let parts = and_parts (is_clean mark node) (is_some node.value || node.meta.deleted) may in
    elim (is_full_eviction e || node.meta.deleted) as (λ b. (is_full_eviction e || node.meta.deleted) ≡ b → IsSlot index stripes e mark (cond b None (Some (record node { value = None }))) × KeepsKey (Some node) (cond b None (Some (record node { value = None }))) × (slot_blocks (cond b None (Some (record node { value = None }))) ≤ slot_blocks (Some node))) [
      | true ↦ λ e. (tt, (λ key k. absurd (cc)), omega arith)
      | false ↦ λ kept.
          let both = either-false (is_full_eviction e) node.meta.deleted kept in (
            record {
              key = is.key;
              home = is.home;
              value = (both.1, len-fits node.meta node.value is.value);
              ejected = λ none. (parts.0, both.0);
              age = is.age;
            },
            (λ key k. k),
            omega arith,
          )
    ] refl

pub stripe-ejected : (s : StripeData) (i : ℕ) → IsStripe s → i < length s.slots → is_ejectable_slot s.mark (at s.slots i) ≡ true → IsStripe (record s { slots = eject_at s.eviction s.slots i })
stripe-ejected s i stripe inside may =
    let all = ejected-slot s.index s.stripes s.eviction s.mark (at s.slots i) (slot-at s.index s.stripes s.eviction s.mark s.slots i stripe.nodes) may in
    stripe-changed s i (eject_slot s.eviction (at s.slots i)) stripe inside all.0 all.1 all.2

-- and many
pub stripe-ejects : (s : StripeData) (key : List ℕ) (need n : ℕ) (new : List Slot) → IsStripe s → Ejects s.eviction s.mark key need n s.slots new → IsStripe (record s { slots = new }) × (length new ≡ length s.slots)
stripe-ejects s key need zero new stripe same =
    (subst (λ (x : List Slot). IsStripe (record s { slots = x })) (sym same) stripe, ap length same)
stripe-ejects s key need (suc n) new stripe chain =
    let next = next-facts s.mark key s.slots chain.0 chain.1 in
    let one = stripe-ejected s chain.0 stripe next.inside next.may in
    let rest = stripe-ejects (record s { slots = eject_at s.eviction s.slots chain.0 }) key need n new one chain.3 in
    (rest.0, rest.1 ∙ length-set s.slots chain.0 (eject_slot s.eviction (at s.slots chain.0)))

pub still-clean : (seqno mark number : ℕ) → mark ≤ number → nat_le seqno mark ≡ true → nat_le seqno number ≡ true
still-clean seqno mark number h is =
    elim (nat_le seqno number) as (λ b. nat_le seqno number ≡ b → b ≡ true) [
      | true ↦ λ e. refl
      | false ↦ λ e. let below = leb-true seqno mark is in let above = leb-false seqno number e in absurd (omega arith)
    ] refl

-- a stripe whose mark is greater
pub marked-slots : (index stripes : ℕ) (e : Eviction) (mark number : ℕ) (slots : List Slot) → mark ≤ number → AreSlots index stripes e mark slots → AreSlots index stripes e number slots
marked-slots index stripes e mark number [] h all = tt
marked-slots index stripes e mark number (None ∷ slots) h all = (tt, marked-slots index stripes e mark number slots h all.1)
marked-slots index stripes e mark number (Some node ∷ slots) h all = (
  record {
    key = all.0.key;
    home = all.0.home;
    value = all.0.value;
    ejected = λ none. (still-clean node.meta.seqno mark number h (all.0.ejected none).0, (all.0.ejected none).1);
    age = all.0.age;
  },
  marked-slots index stripes e mark number slots h all.1,
)

-- heated and cooled nodes
pub heated-slot : (index stripes : ℕ) (e : Eviction) (mark : ℕ) (s : Slot) → IsSlot index stripes e mark s → IsSlot index stripes e mark (heated s) × KeepsKey s (heated s) × (slot_blocks (heated s) ≤ slot_blocks s)
heated-slot index stripes e mark None is = (tt, (λ key k. k), omega arith)
heated-slot index stripes e mark (Some node) is =
    (record { key = is.key; home = is.home; value = is.value; ejected = is.ejected; age = omega arith }, (λ key k. k), omega arith)

cooled-slots : (index stripes : ℕ) (e : Eviction) (mark : ℕ) (slots : List Slot) → AreSlots index stripes e mark slots → AreSlots index stripes e mark (map cooled slots)
cooled-slots index stripes e mark [] all = tt
cooled-slots index stripes e mark (None ∷ slots) all = (tt, cooled-slots index stripes e mark slots all.1)
cooled-slots index stripes e mark (Some node ∷ slots) all =
    (record { key = all.0.key; home = all.0.home; value = all.0.value; ejected = all.0.ejected; age = omega arith }, cooled-slots index stripes e mark slots all.1)

pub cooled-has : (key : List ℕ) (slots : List Slot) → has_key key (map cooled slots) ≡ has_key key slots
cooled-has key [] = refl
cooled-has key (None ∷ slots) = cooled-has key slots
cooled-has key (Some node ∷ slots) = ap (λ b. bytes_eq node.key key || b) (cooled-has key slots)

pub cooled-apart : (slots : List Slot) → AreApart slots → AreApart (map cooled slots)
cooled-apart [] apart = tt
cooled-apart (None ∷ slots) apart = (tt, cooled-apart slots apart.1)
cooled-apart (Some node ∷ slots) apart = (cooled-has node.key slots ∙ apart.0, cooled-apart slots apart.1)

cooled-used : (slots : List Slot) → used (map cooled slots) ≡ used slots
cooled-used [] = refl
cooled-used (None ∷ slots) = let rest = cooled-used slots in omega arith
cooled-used (Some node ∷ slots) = let rest = cooled-used slots in omega arith

pub stripe-cooled : (s : StripeData) → IsStripe s → IsStripe (record s { slots = map cooled s.slots })
stripe-cooled s stripe =
    let same = cooled-used s.slots in
    let len = length-map s.slots cooled in
    let few = stripe.few in
    let room = stripe.room in
    record {
      place = stripe.place;
      few = omega arith;
      room = omega arith;
      nodes = cooled-slots s.index s.stripes s.eviction s.mark s.slots stripe.nodes;
      apart = cooled-apart s.slots stripe.apart;
    }

-- a new stripe
empty-used : (n : ℕ) → used (replicate n None) ≡ 0
empty-used zero = refl
empty-used (suc n) = let rest = empty-used n in omega arith

empty-slots : (index stripes : ℕ) (e : Eviction) (mark n : ℕ) → AreSlots index stripes e mark (replicate n None)
empty-slots index stripes e mark zero = tt
empty-slots index stripes e mark (suc n) = (tt, empty-slots index stripes e mark n)

empty-apart : (n : ℕ) → AreApart (replicate n None)
empty-apart zero = tt
empty-apart (suc n) = (tt, empty-apart n)

pub stripe-new : (index stripes blocks : ℕ) (e : Eviction) (state : VbState) → index < stripes → blocks ≤ 16777216 → IsStripe (record { index = index; stripes = stripes; eviction = e; slots = replicate blocks None; mark = 0; state = state; opened = false })
stripe-new index stripes blocks e state place few =
    let len = length-replicate {A = Slot} blocks None in
    let none = empty-used blocks in
    record {
      place = place;
      few = omega arith;
      room = omega arith;
      nodes = empty-slots index stripes e 0 blocks;
      apart = empty-apart blocks;
    }

blocks-fit : (a b o : Bool) (f g h : Field) (rest : Option Field) → cond a (Some f) (cond b (Some g) (cond o (Some h) rest)) ≡ None → o ≡ false
blocks-fit true b o f g h rest e = absurd (cc)
blocks-fit false true o f g h rest e = absurd (cc)
blocks-fit false false true f g h rest e = absurd (cc)
blocks-fit false false false f g h rest e = refl

pub config-blocks : (c : Config) → config_fault c ≡ None → c.blocks ≤ 16777216
config-blocks c e =
    let fits = blocks-fit (is_outside c.vbuckets 1 1024) (is_outside c.stripes 1 64) (is_outside c.blocks 16 16777216) Vbuckets Stripes Blocks _ e in
    ltb-false 16777216 c.blocks (either-false (nat_lt c.blocks 16) (nat_lt 16777216 c.blocks) fits).1

pub stripe-fresh : (index stripes blocks : ℕ) (e : Eviction) (state : VbState) (slots : List Slot) → index < stripes → blocks ≤ 16777216 → slots ≡ replicate blocks None → IsStripe (record { index = index; stripes = stripes; eviction = e; slots = slots; mark = 0; state = state; opened = false })
stripe-fresh index stripes blocks e state slots place few is =
    subst (λ (ss : List Slot). IsStripe (record { index = index; stripes = stripes; eviction = e; slots = ss; mark = 0; state = state; opened = false })) (sym is)
    (stripe-new index stripes blocks e state place few)

-- each node takes a block at least
counts-one : (b : Bool) → cond b 1 0 + cond (not b) 1 0 ≡ 1
counts-one true = refl
counts-one false = refl

nodes-within : (slots : List Slot) → AreKeyed slots → count_by is_resident slots + count_by is_ejected slots ≤ used slots
nodes-within [] keyed = omega arith
nodes-within (None ∷ slots) keyed =
    let rest = nodes-within slots keyed.1 in
    let resident = sum_by-cons (λ (s : Slot). cond {A = ℕ} (is_resident s) 1 0) None slots in
    let away = sum_by-cons (λ (s : Slot). cond {A = ℕ} (is_ejected s) 1 0) None slots in
    omega arith
nodes-within (Some node ∷ slots) keyed =
    let rest = nodes-within slots keyed.1 in
    let resident = sum_by-cons (λ (s : Slot). cond {A = ℕ} (is_resident s) 1 0) (Some node) slots in
    let away = sum_by-cons (λ (s : Slot). cond {A = ℕ} (is_ejected s) 1 0) (Some node) slots in
    let one = counts-one (is_some node.value) in
    let key = keyed.0 in
    omega arith

pub nodes-few : (s : StripeData) → IsStripe s → count_by is_resident s.slots + count_by is_ejected s.slots + free_of s ≤ length s.slots
nodes-few s stripe =
    let within = nodes-within s.slots (keyed-slots s.index s.stripes s.eviction s.mark s.slots stripe.nodes) in
    let room = stripe.room in
    omega arith
