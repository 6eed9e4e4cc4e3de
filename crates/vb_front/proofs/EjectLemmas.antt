-- A stripe out of which documents were ejected stands as it stood.
use Rattle.std.proofs.Common.{◌≡◌, inl, inr, ℕ, ◌≤◌, suc, zero, true, false, List, length, sym, ap, subst, ◌∙◌, arith}
use Rattle.std.specs.Prelude.{Option, Some, None}
use Rattle.std.specs.FinMap.{get}
use Rattle.std.proofs.lemmas.List.{length-set}
use Rattle.ep_model.specs.declared.config.Eviction.{Eviction}
use Rattle.ep_model.specs.declared.data.FrontData.{FrontData}
use Rattle.ep_model.specs.World.{Doc}
use Rattle.ep_model.specs.Stripes.{stripe_of}
use Rattle.ep_model.specs.Front.{world_of, marked}
use Rattle.hash_stripe.specs.Nodes.{NodeData, Slot, at, node_at, is_full_eviction, eject_slot, eject_at, Ejects, EjectsOthers, IsLeft}
use Rattle.hash_stripe.specs.Stripes.{StripeData, IsStripe}
use Rattle.hash_stripe.proofs.KeyLemmas.{ejecting-keywise}
use Rattle.vb_front.specs.Stands.{IsAwayBelow, NodeStands, NodeShows, IsGone, TableShows, TableStands}
use Rattle.vb_front.proofs.PutLemmas.{was_clean, left_node, left_none, gone_below}

-- ejecting leaves as many slots
ejects_length : (e : Eviction) (mark : ℕ) (key : List ℕ) (need n : ℕ) (old new : List Slot) → Ejects e mark key need n old new → length new ≡ length old
ejects_length e mark key need zero old new is = ap length is
ejects_length e mark key need (suc n) old new is =
    ejects_length e mark key need n (eject_at e old is.0) new is.3 ∙ length-set old is.0 (eject_slot e (at old is.0))

pub others_length : (e : Eviction) (mark : ℕ) (key : List ℕ) (need : ℕ) (old new : List Slot) → EjectsOthers e mark key need old new → length new ≡ length old
others_length e mark key need old new is = ejects_length e mark key need is.count old new is.chain

module _ (f : FrontData) (stripe : ℕ) (key : List ℕ) (s : StripeData) (new : List Slot) (left : (other : List ℕ) → IsLeft s.eviction s.mark key (node_at s.slots other) (node_at new other)) (h : TableStands f stripe s) where
  node_left : (other : List ℕ) (n : NodeData) → node_at new other ≡ Some n → NodeStands f stripe other n
  node_left other n is =
      elim (left other) as (λ _. NodeStands f stripe other n) [
        | inl same ↦ h.nodes other n (sym same ∙ is)
        | inr gone ↦
            let c = was_clean s.eviction s.mark (node_at s.slots other) (node_at new other) gone.0 gone.2 in
            let l = left_node (is_full_eviction s.eviction) c.was.meta.deleted c.was n (sym c.left_is ∙ is) in
            let old = h.nodes other c.was c.old_is in
            record {
              here = old.here;
              away = subst (λ (x : NodeData). IsAwayBelow (marked f stripe) x x.value) (sym l.2) ((let a = c.low in let b = h.mark in omega arith), l.1);
            }
      ]

  shows_left : (other : List ℕ) (n : NodeData) → TableShows f stripe s → node_at new other ≡ Some n → NodeShows f other n
  shows_left other n t is =
      elim (left other) as (λ _. NodeShows f other n) [
        | inl same ↦ t.nodes other n (sym same ∙ is)
        | inr gone ↦
            let c = was_clean s.eviction s.mark (node_at s.slots other) (node_at new other) gone.0 gone.2 in
            let l = left_node (is_full_eviction s.eviction) c.was.meta.deleted c.was n (sym c.left_is ∙ is) in
            let old = t.nodes other c.was c.old_is in
            subst (λ (x : NodeData). NodeShows f other x) (sym l.2) (record { doc = old.doc; found = old.found; meta = old.meta; value = tt })
      ]

  gone_left : (other : List ℕ) → TableShows f stripe s → (world_of f).opened ≡ true → stripe_of other f.config.stripes ≡ stripe → node_at new other ≡ None → IsGone f.config.eviction (marked f stripe) (get (world_of f).docs other)
  gone_left other t opened home none =
      elim (left other) as (λ _. IsGone f.config.eviction (marked f stripe) (get (world_of f).docs other)) [
        | inl same ↦ t.gone opened other home (sym same ∙ none)
        | inr gone ↦
            let c = was_clean s.eviction s.mark (node_at s.slots other) (node_at new other) gone.0 gone.2 in
            let old = t.nodes other c.was c.old_is in
            let low : old.doc.seqno ≤ marked f stripe = (let a = c.low in let b = h.mark in let d = ap (λ m. m.seqno) old.meta in omega arith) in
            let deleted : is_full_eviction f.config.eviction ≡ false → old.doc.deleted ≡ true =
            (λ v. sym (ap (λ m. m.deleted) old.meta) ∙ left_none (is_full_eviction s.eviction) c.was.meta.deleted c.was (sym c.left_is ∙ none) (ap is_full_eviction h.eviction ∙ v)) in
            subst (λ (o : Option Doc). IsGone f.config.eviction (marked f stripe) o) (sym old.found) (gone_below f.config.eviction (marked f stripe) old.doc low deleted)
      ]

  table_left : length new ≡ length s.slots → TableStands f stripe (record s { slots = new })
  table_left size = record {
    index = h.index;
    stripes = h.stripes;
    eviction = h.eviction;
    blocks = size ∙ h.blocks;
    mark = h.mark;
    state = h.state;
    opened = h.opened;
    nodes = node_left;
    shown = λ told.
        let t = h.shown told in
        record {
          nodes = λ other n is. shows_left other n t is;
          gone = λ opened other home none. gone_left other t opened home none;
        };
  }

pub ejected_table : (f : FrontData) (stripe : ℕ) (key : List ℕ) (need : ℕ) (s : StripeData) (new : List Slot) → IsStripe s → EjectsOthers s.eviction s.mark key need s.slots new
    → TableStands f stripe s → TableStands f stripe (record s { slots = new })
ejected_table f stripe key need s new sound ejects h =
    table_left f stripe key s new (ejecting-keywise s key need new sound ejects) h (others_length s.eviction s.mark key need s.slots new ejects)
