-- What an event leaves of parts that changes no world, no mark and no checkpoint.
use Rattle.std.proofs.Common.{◌≡◌, ℕ, ◌≤◌, true, List, [], ◌∷◌, refl, sym, ap, subst, ◌∙◌}
use Rattle.std.specs.Prelude.{None, All, take, drop}
use Rattle.std.specs.List.{AllByRecursion}
use Rattle.std.specs.FinMap.{get}
use Rattle.ep_model.specs.declared.call.Reply.{Reply}
use Rattle.ep_model.specs.declared.event.Cause.{Cause}
use Rattle.ep_model.specs.declared.event.Ticket.{Ticket}
use Rattle.ep_model.specs.declared.data.CallData.{CallData}
use Rattle.ep_model.specs.declared.data.EventData.{EventData}
use Rattle.ep_model.specs.declared.data.EventData.TheVariants.{Called, Refused, Asked}
use Rattle.ep_model.specs.declared.data.FrontData.{FrontData}
use Rattle.ep_model.specs.World.{World}
use Rattle.ep_model.specs.Answer.{Effect, Nothing, apply}
use Rattle.ep_model.specs.History.{call_effect}
use Rattle.ep_model.specs.Front.{world_of, with_event, marked}
use Rattle.ep_model.specs.Mutations.{put_by, mutation_of}
use Rattle.ep_model.specs.Legal.{IsUnused}
use Rattle.ep_model.specs.Checkpoints.{Checkpoints, queued_if, cut, all_items}
use Rattle.hold_stage.specs.Waits.{puts_on, IsNoRead, IsAbsent}
use Rattle.hold_stage.proofs.LaterLemmas.{same_told, world_step, all_append}
use Rattle.hold_stage.proofs.BoundLemmas.{marked_step}
use Rattle.hash_stripe.specs.Stripes.{StripeData}
use Rattle.fetch_book.specs.declared.place.Outcome.{Outcome}
use Rattle.fetch_book.specs.declared.place.Outcome.TheVariants as outcomes
use Rattle.fetch_book.specs.declared.place.Place.{Place}
use Rattle.ckpt_manager.specs.declared.data.QueueData.{QueueData}
use Rattle.vb_front.specs.Stands.{IsAwayBelow, IsGone, TableShows, TableStands, OutcomeStands, IsOfBlocks, OutcomeShows, PlaceStands, IsPassed, AreItems, QueueStands}
use Rattle.vb_front.specs.Apart.{failed_later, waiting_later, cut_step}
use Rattle.vb_front.specs.Keeps.{items_keep}

-- such an event
pub record IsCalm (f : FrontData) (event : EventData) : Type 0 where
  pub same : world_of (with_event f event) ≡ world_of f
  pub puts : mutation_of (world_of f) event ≡ None
  pub mark : (stripe : ℕ) → marked (with_event f event) stripe ≡ marked f stripe
  pub cuts : cut (with_event f event) ≡ cut f

-- a call that is answered without an effect
pub calm_called : (f : FrontData) (caller : ℕ) (call : CallData) (now : ℕ) (reply : Reply) (value : List ℕ)
    → call_effect (world_of f) call now reply ≡ Nothing → IsCalm f (Called caller call now reply value)
calm_called f caller call now reply value is =
    let puts : mutation_of (world_of f) (Called caller call now reply value) ≡ None = ap put_by is in
    record {
      same = world_step f (Called caller call now reply value) ∙ ap (λ (e : Effect). apply (world_of f) e) is;
      puts = puts;
      mark = λ stripe. marked_step f (Called caller call now reply value) stripe;
      cuts = cut_step f (Called caller call now reply value) ∙ ap (λ p. queued_if f.config.ckpt_max p (cut f)) puts;
    }

-- one that is refused, and one that asks
pub calm_refused : (f : FrontData) (caller : ℕ) (call : CallData) (now : ℕ) (cause : Cause)
    → IsCalm f (Refused caller call now cause)
calm_refused f caller call now cause = record {
  same = world_step f (Refused caller call now cause);
  puts = refl;
  mark = λ stripe. marked_step f (Refused caller call now cause) stripe;
  cuts = cut_step f (Refused caller call now cause);
}

pub calm_asked : (f : FrontData) (ticket : Ticket) (caller : ℕ) (call : CallData) → IsCalm f (Asked ticket caller call)
calm_asked f ticket caller call = record {
  same = world_step f (Asked ticket caller call);
  puts = refl;
  mark = λ stripe. marked_step f (Asked ticket caller call) stripe;
  cuts = cut_step f (Asked ticket caller call);
}

module _ (f : FrontData) (stripe : ℕ) (event : EventData) (calm : IsCalm f event) where
  told : (world_of (with_event f event)).told ≡ true → (world_of f).told ≡ true
  told is = sym (same_told f event) ∙ is

  table_shows : (s : StripeData) → TableShows f stripe s → TableShows (with_event f event) stripe s
  table_shows s h = record {
    nodes = λ key node is.
        let n = h.nodes key node is in
        record { doc = n.doc; found = ap (λ (w : World). get w.docs key) calm.same ∙ n.found; meta = n.meta; value = n.value };
    gone = λ opened key here none-there.
        subst (λ (w : World). IsGone f.config.eviction (marked (with_event f event) stripe) (get w.docs key)) (sym calm.same)
        (subst (λ m. IsGone f.config.eviction m (get (world_of f).docs key)) (sym (calm.mark stripe)) (h.gone (sym (ap (λ (w : World). w.opened) calm.same) ∙ opened) key here none-there));
  }

  pub table_calm : (s : StripeData) → TableStands f stripe s → TableStands (with_event f event) stripe s
  table_calm s h = record {
    index = h.index;
    stripes = h.stripes;
    eviction = h.eviction;
    blocks = h.blocks;
    mark = h.mark ∙ sym (calm.mark stripe);
    state = h.state ∙ sym (ap (λ (w : World). w.state) calm.same);
    opened = h.opened ∙ sym (ap (λ (w : World). w.opened) calm.same);
    nodes = λ key node is.
        let n = h.nodes key node is in
        record { here = n.here; away = subst (λ m. IsAwayBelow m node node.value) (sym (calm.mark stripe)) n.away };
    shown = λ is. table_shows s (h.shown (told is));
  }

  outcome_calm : (ticket : Ticket) (outcome : Outcome) → IsNoRead ticket event → OutcomeStands f ticket outcome
      → OutcomeStands (with_event f event) ticket outcome
  outcome_calm ticket outcomes.Waiting no_read h = all_append (IsNoRead ticket) f.events (event ∷ []) h (no_read, tt)
  outcome_calm ticket outcomes.Merged no_read h = h
  outcome_calm ticket outcomes.Absent no_read h = h
  outcome_calm ticket (outcomes.Failed fault) no_read h = failed_later f ticket fault event h
  outcome_calm ticket outcomes.NoMemory no_read h = h
  outcome_calm ticket (outcomes.NoRoom blocks) no_read h = h

  outcome_shows : (key : List ℕ) (outcome : Outcome) → OutcomeShows f key outcome
      → OutcomeShows (with_event f event) key outcome
  outcome_shows key outcomes.Waiting h = h
  outcome_shows key outcomes.Merged h = h
  outcome_shows key outcomes.Absent h = subst (λ (w : World). IsAbsent (get w.docs key)) (sym calm.same) h
  outcome_shows key (outcomes.Failed fault) h = h
  outcome_shows key outcomes.NoMemory h = h
  outcome_shows key (outcomes.NoRoom blocks) h = subst (λ (w : World). IsOfBlocks key blocks (get w.docs key)) (sym calm.same) h

  pub place_calm : (place : Place) → IsUnused place.ticket event → IsNoRead place.ticket event
      → PlaceStands f stripe place → PlaceStands (with_event f event) stripe place
  place_calm place unused no_read h = record {
    home = h.home;
    here = h.here;
    waiting = waiting_later f place.ticket place.key event (ap (puts_on place.key) calm.puts) h.waiting;
    unused = all_append (IsUnused place.ticket) f.events (event ∷ []) h.unused (unused, tt);
    outcome = outcome_calm place.ticket place.outcome no_read h.outcome;
    shown = λ is. outcome_shows place.key place.outcome (h.shown (told is));
  }

  pub places_calm : (places : List Place)
      → AllByRecursion (λ (p : Place). IsUnused p.ticket event × IsNoRead p.ticket event) places
      → AllByRecursion (PlaceStands f stripe) places → AllByRecursion (PlaceStands (with_event f event) stripe) places
  places_calm [] free h = tt
  places_calm (place ∷ places) free h = (place_calm place free.0.0 free.0.1 h.0, places_calm places free.1 h.1)

-- a queue
pub queue_calm : (f : FrontData) (event : EventData) (q : QueueData) → IsCalm f event → QueueStands f q
    → QueueStands (with_event f event) q
queue_calm f event q calm s =
    let same = calm.same in
    record {
      blocks = s.blocks;
      ckpt_max = s.ckpt_max;
      high = s.high ∙ sym (ap (λ (w : World). w.high) same);
      maxcas = s.maxcas ∙ sym (ap (λ (w : World). w.maxcas) same);
      persisted = s.persisted ∙ sym (ap (λ (w : World). w.persisted) same);
      table = s.table ∙ sym (ap (λ (w : World). w.failovers) same);
      state = s.state ∙ sym (ap (λ (w : World). w.state) same);
      opened = s.opened ∙ sym (ap (λ (w : World). w.opened) same);
      id = s.id ∙ sym (ap (λ (c : Checkpoints). c.last.id) calm.cuts);
      behind = subst (λ (w : World). w.persisted ≤ q.cursor) (sym same) s.behind;
      ahead = subst (λ (w : World). q.cursor ≤ w.high) (sym same) s.ahead;
      named = subst (λ (w : World). All (λ (c : ℕ × ℕ). c.1 ≤ w.high) q.named) (sym same) s.named;
      expelled = s.expelled;
      passed = subst (λ (c : Checkpoints). AllByRecursion (IsPassed q) (take s.expelled (all_items c.closed))) (sym calm.cuts) s.passed;
      closed = subst (λ (c : Checkpoints). AreItems (with_event f event) q.closed (drop s.expelled (all_items c.closed))) (sym calm.cuts) (items_keep f event q.closed (drop s.expelled (all_items (cut f).closed)) s.closed);
      last = subst (λ (c : Checkpoints). AreItems (with_event f event) q.last c.last.items) (sym calm.cuts) (items_keep f event q.last (cut f).last.items s.last);
    }
