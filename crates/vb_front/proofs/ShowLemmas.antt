-- What code finds of a stripe is what the definitions say.
use Rattle.std.proofs.Common.{◌≡◌, ℕ, List, length, ◌≤◌, arith, refl, sym, ap, ◌∙◌}
use Rattle.std.specs.Prelude.{Option, Some, None}
use Rattle.ep_model.specs.declared.call.Meta.{Meta}
use Rattle.ep_model.specs.declared.config.Eviction.{Eviction}
use Rattle.ep_model.specs.declared.config.Eviction.TheVariants.{Value, Full}
use Rattle.ep_model.specs.World.{doc_from}
use Rattle.hash_stripe.specs.declared.found.Found.TheVariants.{Nothing, Ejected, Resident}
use Rattle.ep_model.specs.declared.event.Ticket.{Ticket}
use Rattle.ep_model.specs.World.{live_of}
use Rattle.ep_model.specs.Stripes.{stripe_of}
use Rattle.ep_model.specs.Answer.{answer_get}
use Rattle.hash_stripe.specs.Nodes.{NodeData, Slot, node_at, heated}
use Rattle.hash_stripe.specs.Stripes.{found_value, found, resident_value, text_of, IsValueOf, IsSlot, at_slot, at_key}
use Rattle.hash_stripe.proofs.CallLemmas.{absent-slot}
use Rattle.vb_front.specs.declared.part.StripePart.{StripePart}
use Rattle.vb_front.specs.Waits.{Memory, Known, Away, value_memory, slot_memory, memory_of, waited}
use Rattle.vb_front.specs.Reads.{Read, read_done, read_waits, with_heated, read_memory}

found_known : (node : NodeData) (value : Option (List ℕ)) (meta : Meta) → found_value node.meta value ≡ Resident meta
    → node.value ≡ value → value_memory node value ≡ Known (Some (doc_from meta (text_of (resident_value (Some node)))))
found_known node None meta is same = absurd (cc)
found_known node (Some value) meta is same =
    let e : node.meta ≡ meta = cc in
    ap (λ (m : Meta). Known (Some (doc_from m value))) e ∙ ap (λ (v : Option (List ℕ)). Known (Some (doc_from meta (text_of v)))) (sym same)

-- a document whose value is there
pub memory_resident : (e : Eviction) (slot : Slot) (meta : Meta) → found slot ≡ Resident meta
    → slot_memory e slot ≡ Known (Some (doc_from meta (text_of (resident_value slot))))
memory_resident e None meta is = absurd (cc)
memory_resident e (Some node) meta is = elim e as (λ (v : Eviction). slot_memory v (Some node) ≡ Known (Some (doc_from meta (text_of (resident_value (Some node)))))) [ Value ↦ found_known node node.value meta is refl | Full ↦ found_known node node.value meta is refl ]

found_away : (node : NodeData) (value : Option (List ℕ)) (meta : Meta) → found_value node.meta value ≡ Ejected meta
    → value_memory node value ≡ Away
found_away node None meta is = refl
found_away node (Some value) meta is = absurd (cc)

-- one whose value isn't
pub memory_ejected : (e : Eviction) (slot : Slot) (meta : Meta) → found slot ≡ Ejected meta → slot_memory e slot ≡ Away
memory_ejected e None meta is = absurd (cc)
memory_ejected e (Some node) meta is = elim e as (λ (v : Eviction). slot_memory v (Some node) ≡ Away) [ Value ↦ found_away node node.value meta is | Full ↦ found_away node node.value meta is ]

no_found : (node : NodeData) (value : Option (List ℕ)) → found_value node.meta value ≡ Nothing → ⊥
no_found node None is = cc
no_found node (Some value) is = cc

-- and where there is nothing
pub memory_nothing : (e : Eviction) (slot : Slot) → found slot ≡ Nothing → slot_memory e slot ≡ slot_memory e None
memory_nothing e None is = refl
memory_nothing e (Some node) is = absurd (no_found node node.value is)

-- The ways out of a Get of a key, once the vBucket is open and active.
module _ (part : StripePart) (prior : Option Ticket) (key : List ℕ) (now : ℕ) where
  abbrev shown : Read
  shown = read_memory part prior key now (memory_of part.table key)

  pub at_away : memory_of part.table key ≡ Away → read_waits part prior key (waited part.table part.book key prior) ≡ shown
  at_away away = ap (λ (m : Memory). read_memory part prior key now m) (sym away)

  pub at_ejected : (meta : Meta) → Ejected meta ≡ found (node_at part.table.slots key) → read_waits part prior key (waited part.table part.book key prior) ≡ shown
  at_ejected meta there = at_away (memory_ejected part.table.eviction (node_at part.table.slots key) meta (sym there))

  pub at_missing : Nothing ≡ found (node_at part.table.slots key) → Full ≡ part.table.eviction → read_waits part prior key (waited part.table part.book key prior) ≡ shown
  at_missing none full = at_away (memory_nothing part.table.eviction (node_at part.table.slots key) (sym none) ∙ ap (λ (e : Eviction). slot_memory e None) (sym full))

  nothing_there : (slot : Slot) → Nothing ≡ found slot → slot ≡ None
  nothing_there None is = refl
  nothing_there (Some node) is = absurd (no_found node node.value (sym is))

  pub at_nothing : Nothing ≡ found (node_at part.table.slots key) → Value ≡ part.table.eviction → read_done part prior (answer_get None) ≡ shown
  at_nothing none value =
      let unused : at_key heated part.table.slots key ≡ part.table.slots = ap (at_slot heated part.table.slots) (absent-slot part.table part.table key refl (nothing_there (node_at part.table.slots key) none)) in
      let known : memory_of part.table key ≡ Known None = memory_nothing part.table.eviction (node_at part.table.slots key) (sym none) ∙ ap (λ (e : Eviction). slot_memory e None) (sym value) in
      sym (ap (λ slots. read_done (record part { table = record part.table { slots = slots } }) prior (answer_get None)) unused)
      ∙ ap (λ (m : Memory). read_memory part prior key now m) (sym known)

  -- a document that is there, live or not
  pub at_resident : (meta : Meta) → Resident meta ≡ found (node_at part.table.slots key)
      → read_done (with_heated part key) prior (answer_get (live_of (Some (doc_from meta (text_of (resident_value (node_at part.table.slots key))))) now)) ≡ shown
  at_resident meta there = ap (λ (m : Memory). read_memory part prior key now m) (sym (memory_resident part.table.eviction (node_at part.table.slots key) meta (sym there)))

-- a value in memory is within the limit
pub text_short : (index stripes : ℕ) (e : Eviction) (mark : ℕ) (slot : Slot) → IsSlot index stripes e mark slot → length (text_of (resident_value slot)) ≤ 1048576
text_short index stripes e mark None h = omega arith
text_short index stripes e mark (Some node) h = at node.value h.value
  where
    at : (v : Option (List ℕ)) → IsValueOf node.meta v → length (text_of v) ≤ 1048576
    at None q = omega arith
    at (Some value) q = q.0

-- the only stripe has all keys
pub only_stripe : (key : List ℕ) (stripes index : ℕ) → stripes ≡ 1 → index ≡ 0 → stripe_of key stripes ≡ index
unfolding stripe_of
only_stripe key stripes index one first = omega arith
