-- An event that doesn't touch a part leaves that the part stands.
use Rattle.std.proofs.Common.{◌≡◌, ℕ, true, false, List, [], ◌∷◌, ◌++◌, sym, ap, subst, ◌∙◌, append-nil}
use Rattle.std.specs.Prelude.{Option, nat_lt, option_to_list}
use Rattle.std.specs.List.{AllByRecursion}
use Rattle.std.specs.FinMap.{get}
use Rattle.ep_model.specs.declared.event.PartName.TheVariants.{Stripe, Queue}
use Rattle.ep_model.specs.declared.data.EventData.{EventData}
use Rattle.ep_model.specs.declared.data.FrontData.{FrontData}
use Rattle.ep_model.specs.World.{Doc, uuid_of}
use Rattle.ep_model.specs.Front.{begun, world_of, with_event, marked}
use Rattle.ep_model.specs.Legal.{IsUnused, IsBelow, May, IsLegal}
use Rattle.hold_stage.specs.Touches.{touches}
use Rattle.ep_model.specs.Mutations.{mutations, above}
use Rattle.hold_stage.specs.Waits.{IsNoRead, IsAbsent}
use Rattle.hold_stage.proofs.ApartLemmas.{put_apart, unused_apart, no_read_apart, has_failed_later, waiting_later, world_stripe, world_queue, mutations_step, same_table}
use Rattle.hold_stage.proofs.ViewLemmas.{step_mark, step_below, no_mutation}
use Rattle.hold_stage.proofs.LaterLemmas.{same_told, all_append}
use Rattle.hold_stage.proofs.BoundLemmas.{marked_step}
use Rattle.flat_parts.specs.declared.data.Outcome.{Outcome}
use Rattle.flat_parts.specs.declared.data.Outcome.TheVariants as outcomes
use Rattle.flat_parts.specs.declared.data.PlaceData.{PlaceData}
use Rattle.flat_parts.specs.declared.data.StripeData.{StripeData}
use Rattle.flat_parts.specs.declared.data.QueueData.{QueueData}
use Rattle.hold_stage.specs.Numbers.{all_numbered}
use Rattle.ep_drill.specs.Stands.{ValueStands, MayBeGone, OutcomeStands, ticket_of, PlaceStands, StripeStands, QueueStands}

outcome_keeps : (f : FrontData) (stripe number : ℕ) (key : List ℕ) (outcome : Outcome) (event : EventData) → touches f event (Stripe stripe) ≡ false → get (world_of (with_event f event)).docs key ≡ get (world_of f).docs key
    → OutcomeStands f (ticket_of stripe number) key outcome → OutcomeStands (with_event f event) (ticket_of stripe number) key outcome
outcome_keeps f stripe number key outcomes.Waiting event apart docs h = all_append (IsNoRead (ticket_of stripe number)) f.events (event ∷ []) h (no_read_apart f (ticket_of stripe number) event apart, tt)
outcome_keeps f stripe number key outcomes.Merged event apart docs h = h
outcome_keeps f stripe number key outcomes.Absent event apart docs h = subst IsAbsent (sym docs) h
outcome_keeps f stripe number key (outcomes.Failed fault) event apart docs h = has_failed_later f (ticket_of stripe number) fault event h
outcome_keeps f stripe number key outcomes.NoMemory event apart docs h = h

place_keeps : (f : FrontData) (stripe : ℕ) (place : PlaceData) (event : EventData) → nat_lt stripe f.config.stripes ≡ true → IsLegal f → May f event → touches f event (Stripe stripe) ≡ false → PlaceStands f stripe place → PlaceStands (with_event f event) stripe place
place_keeps f stripe place event there legal may apart h = record {
  here = h.here;
  waiting = waiting_later f (ticket_of stripe place.number) place.key event (put_apart f stripe (world_of f) event place.key there h.here apart) h.waiting;
  unused = all_append (IsUnused (ticket_of stripe place.number)) f.events (event ∷ []) h.unused (unused_apart f (ticket_of stripe place.number) event legal may apart, tt);
  outcome = outcome_keeps f stripe place.number place.key place.outcome event apart ((world_stripe f stripe event there apart).docs place.key h.here) h.outcome;
}

places_keep : (f : FrontData) (stripe : ℕ) (places : List PlaceData) (event : EventData) → nat_lt stripe f.config.stripes ≡ true → IsLegal f → May f event → touches f event (Stripe stripe) ≡ false → AllByRecursion (PlaceStands f stripe) places → AllByRecursion (PlaceStands (with_event f event) stripe) places
places_keep f stripe [] event there legal may apart h = tt
places_keep f stripe (place ∷ places) event there legal may apart h = (place_keeps f stripe place event there legal may apart h.0, places_keep f stripe places event there legal may apart h.1)

pub value_stands_at : (a b : ℕ) (doc : Doc) (value : Option (List ℕ)) → b ≡ a → ValueStands a doc value → ValueStands b doc value
value_stands_at a b doc value is h = subst (λ m. ValueStands m doc value) (sym is) h

-- an event that doesn't touch a stripe leaves that it stands
pub stripe_keeps : (stripe : ℕ) (f : FrontData) (event : EventData) (x : StripeData) → IsLegal f → May f event → touches f event (Stripe stripe) ≡ false → StripeStands f stripe x → StripeStands (with_event f event) stripe x
stripe_keeps stripe f event x legal may apart s =
    let same = world_stripe f stripe event s.there apart in
    let mark : marked (with_event f event) stripe ≡ marked f stripe = marked_step f event stripe ∙ step_mark f stripe (marked f stripe) event apart in
    record {
      there = s.there;
      index = s.index;
      nodes = λ key node is.
          let n = s.nodes key node is in
          record { doc = n.doc; found = same.docs key n.here ∙ n.found; here = n.here; meta = n.meta; value = value_stands_at (marked f stripe) (marked (with_event f event) stripe) n.doc node.value mark n.value };
      gone = λ opened key here none-there.
          subst (λ (o : Option Doc). MayBeGone (marked (with_event f event) stripe) o) (sym (same.docs key here))
          (subst (λ m. MayBeGone m (get (world_of f).docs key)) (sym mark) (s.gone (sym same.opened ∙ opened) key here none-there));
      mark = s.mark ∙ sym mark;
      state = s.state ∙ sym same.state;
      opened = s.opened ∙ sym same.opened;
      places = places_keep f stripe x.places event s.there legal may apart s.places;
      next = all_append (IsBelow (ticket_of stripe x.next)) f.events (event ∷ []) s.next (step_below f (ticket_of stripe x.next) event apart, tt);
      closed = λ closed. s.closed (sym same.opened ∙ closed);
      is_told = same_told f event ∙ s.is_told;
    }

pub queue_keeps : (f : FrontData) (event : EventData) (q : QueueData) → touches f event Queue ≡ false → QueueStands f q → QueueStands (with_event f event) q
queue_keeps f event q apart s =
    let same = world_queue f event apart in
    let puts : mutations (begun f) (with_event f event).events ≡ mutations (begun f) f.events =
    mutations_step f event ∙ ap (λ (p : Option (List ℕ × Doc)). mutations (begun f) f.events ++ option_to_list p) (no_mutation f (world_of f) event apart) ∙ append-nil (mutations (begun f) f.events) in
    let left : above (world_of f).persisted (mutations (begun f) f.events) ≡ above (world_of (with_event f event)).persisted (mutations (begun f) (with_event f event).events) =
    ap (λ n. above n (mutations (begun f) f.events)) (sym same.persisted) ∙ ap (λ (l : List (List ℕ × Doc)). above (world_of (with_event f event)).persisted l) (sym puts) in
    record {
      numbers = s.numbers ∙ ap all_numbered left;
      items = λ told. s.items (sym (same_told f event) ∙ told) ∙ left;
      high = s.high ∙ sym same.high;
      maxcas = s.maxcas ∙ sym same.maxcas;
      persisted = s.persisted ∙ sym same.persisted;
      state = s.state ∙ sym same.state;
      opened = s.opened ∙ sym same.opened;
      uuid = s.uuid ∙ sym (ap uuid_of (same_table f event));
    }
