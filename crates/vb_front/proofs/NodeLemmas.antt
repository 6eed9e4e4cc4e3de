-- A stripe one of whose nodes is noted as used stands as it stood.
use Rattle.std.proofs.Common.{◌≡◌, ℕ, ◌≤◌, true, false, List, length, refl, sym, ap, subst, ◌∙◌}
use Rattle.std.specs.Prelude.{Option, Some, None}
use Rattle.std.specs.Str.{bytes_eq}
use Rattle.std.proofs.lemmas.Slice.Eq.{bytes_eq-Decides}
use Rattle.std.proofs.lemmas.List.{length-set}
use Rattle.ep_model.specs.declared.data.FrontData.{FrontData}
use Rattle.ep_model.specs.Front.{marked}
use Rattle.hash_stripe.specs.Nodes.{NodeData, Slot, at, slot_of, node_at, heated}
use Rattle.hash_stripe.specs.Stripes.{IsStripe, at_slot, at_key}
use Rattle.hash_stripe.specs.Laws.{IsChanged}
use Rattle.hash_stripe.proofs.KeyLemmas.{heating-keywise}
use Rattle.vb_front.specs.declared.part.StripePart.{StripePart}
use Rattle.vb_front.specs.Stands.{IsShownValue, IsAwayBelow, StripeStands}
use Rattle.vb_front.specs.Reads.{with_heated}

-- the same document, of another age
record IsOlder (node old : NodeData) : Type 0 where
  meta : node.meta ≡ old.meta
  value : node.value ≡ old.value

-- where a slot has a node, what it was of
abbrev WasAt : Slot → NodeData → Type 0
WasAt old node = (was : NodeData) × (old ≡ Some was) × IsOlder node was

heated_was : (slot : Slot) (node : NodeData) → heated slot ≡ Some node → WasAt slot node
heated_was None node is = absurd (cc)
heated_was (Some was) node is =
    let e : record was { age = 0 } ≡ node = cc in
    (was, refl, record { meta = ap (λ (n : NodeData). n.meta) (sym e); value = ap (λ (n : NodeData). n.value) (sym e) })

heated_none : (slot : Slot) → heated slot ≡ None → slot ≡ None
heated_none None is = refl
heated_none (Some was) is = absurd (cc)

module _ (old new : List Slot) (key : List ℕ) (c : IsChanged old new key (heated (node_at old key))) where
  was_at : (other : List ℕ) (node : NodeData) → node_at new other ≡ Some node → WasAt (node_at old other) node
  was_at other node is =
      elim (bytes_eq other key) as (λ b. bytes_eq other key ≡ b → WasAt (node_at old other) node) [
        | true ↦ λ t.
            let same : other ≡ key = (bytes_eq-Decides other key).0 t in
            subst (λ k. WasAt (node_at old k) node) (sym same) (heated_was (node_at old key) node (sym c.there ∙ ap (node_at new) (sym same) ∙ is))
        | false ↦ λ t. (node, sym (c.rest other (λ e. absurd (let y = (bytes_eq-Decides other key).1 e in cc))) ∙ is, record { meta = refl; value = refl })
      ] refl

  was_none : (other : List ℕ) → node_at new other ≡ None → node_at old other ≡ None
  was_none other is =
      elim (bytes_eq other key) as (λ b. bytes_eq other key ≡ b → node_at old other ≡ None) [
        | true ↦ λ t.
            let same : other ≡ key = (bytes_eq-Decides other key).0 t in
            subst (λ k. node_at old k ≡ None) (sym same) (heated_none (node_at old key) (sym c.there ∙ ap (node_at new) (sym same) ∙ is))
        | false ↦ λ t. sym (c.rest other (λ e. absurd (let y = (bytes_eq-Decides other key).1 e in cc))) ∙ is
      ] refl

slot_length : (change : Slot → Slot) (slots : List Slot) (o : Option ℕ) → length (at_slot change slots o) ≡ length slots
slot_length change slots None = refl
slot_length change slots (Some i) = length-set slots i (change (at slots i))

pub used_stands : (f : FrontData) (stripe : ℕ) (key : List ℕ) (part : StripePart) → IsStripe part.table
    → StripeStands f stripe part → StripeStands f stripe (with_heated part key)
used_stands f stripe key part sound s =
    let c = heating-keywise part.table key sound in
    let old = part.table.slots in
    let new = at_key heated part.table.slots key in
    let h = s.table in
    record {
      there = s.there;
      table = record {
        index = h.index;
        stripes = h.stripes;
        eviction = h.eviction;
        blocks = slot_length heated old (slot_of old key) ∙ h.blocks;
        mark = h.mark;
        state = h.state;
        opened = h.opened;
        nodes = λ other node is.
            let w = was_at old new key c other node is in
            let n = h.nodes other w.0 w.1 in
            record { here = n.here; away = away_is node w.0 w.2 n.away };
        shown = λ told.
            let t = h.shown told in
            record {
              nodes = λ other node is.
                  let w = was_at old new key c other node is in
                  let n = t.nodes other w.0 w.1 in
                  record { doc = n.doc; found = n.found; meta = w.2.meta ∙ n.meta; value = subst (λ (v : Option (List ℕ)). IsShownValue n.doc v) (sym w.2.value) n.value };
              gone = λ opened other here none-there. t.gone opened other here (was_none old new key c other none-there);
            };
      };
      book = s.book;
    }
  where
    away_is : (node was : NodeData) → IsOlder node was → IsAwayBelow (marked f stripe) was was.value
        → IsAwayBelow (marked f stripe) node node.value
    away_is node was same h =
        subst (λ (v : Option (List ℕ)). IsAwayBelow (marked f stripe) node v) (sym same.value) (at was.value h)
      where
        at : (v : Option (List ℕ)) → IsAwayBelow (marked f stripe) was v → IsAwayBelow (marked f stripe) node v
        at None p = (subst (λ m. m.seqno ≤ marked f stripe) (sym same.meta) p.0, subst (λ m. m.deleted ≡ false) (sym same.meta) p.1)
        at (Some value) p = tt
