-- A Get on a stripe that stands: its event is legal, and the stripe stands behind it.
use Rattle.std.proofs.Common.{◌≡◌, ℕ, Bool, true, false, cond, List, [], ◌∷◌, refl, sym, ap, subst, ◌∙◌}
use Rattle.std.specs.Prelude.{Option, Some, None, filter}
use Rattle.std.specs.List.{AllByRecursion}
use Rattle.std.specs.FinMap.{get}
use Rattle.ep_model.specs.declared.call.Reply.{Reply}
use Rattle.ep_model.specs.declared.event.Cause.TheVariants as causes
use Rattle.ep_model.specs.declared.event.Ticket.{Ticket}
use Rattle.ep_model.specs.declared.data.CallData.{CallData}
use Rattle.ep_model.specs.declared.data.CallData.TheVariants as calls
use Rattle.ep_model.specs.declared.data.EventData.{EventData}
use Rattle.ep_model.specs.declared.data.EventData.TheVariants as events
use Rattle.ep_model.specs.declared.data.FrontData.{FrontData}
use Rattle.ep_model.specs.World.{World}
use Rattle.ep_model.specs.Answer.{Answer, answer, apply, Effect}
use Rattle.ep_model.specs.Front.{world_of, with_event, mark_after, marked}
use Rattle.ep_model.specs.Legal.{IsUnused, IsBelow, May}
use Rattle.ep_model.specs.Mutations.{put_by, mutation_of}
use Rattle.hold_stage.specs.Waits.{puts_on, IsNoRead, IsAbsent}
use Rattle.ep_model.proofs.EffectLemmas.{get_done}
use Rattle.hold_stage.proofs.LaterLemmas.{same_told, world_step, all_append}
use Rattle.hold_stage.proofs.BoundLemmas.{marked_step}
use Rattle.flat_parts.specs.declared.data.Outcome.{Outcome}
use Rattle.flat_parts.specs.declared.data.Outcome.TheVariants as outcomes
use Rattle.flat_parts.specs.declared.data.PlaceData.{PlaceData}
use Rattle.flat_parts.specs.declared.data.StripeData.{StripeData}
use Rattle.flat_parts.specs.declared.data.ReadData.{ReadData}
use Rattle.flat_parts.specs.declared.data.Step.{Step}
use Rattle.flat_parts.specs.declared.data.Step.TheVariants as steps
use Rattle.flat_parts.specs.Nodes.{is_not_numbered, released}
use Rattle.flat_parts.specs.Steps.{read_done, read_refused}
use Rattle.ep_drill.specs.Stands.{ValueStands, MayBeGone, OutcomeStands, ticket_of, PlaceStands, StripeStands}
use Rattle.hold_stage.proofs.ApartLemmas.{has_failed_later, waiting_later}

-- What a call on parts comes to is legal, and leaves a stripe that stands. A ticket that was asked before is told again without an
-- event.
abbrev pub AfterStep : FrontData → ℕ → ℕ → CallData → ℕ → Option Ticket → Step → List ℕ → StripeData → Type 0
AfterStep f stripe caller call now prior (steps.Done reply) value y = May f (events.Called caller call now reply value) × StripeStands (with_event f (events.Called caller call now reply value)) stripe y
AfterStep f stripe caller call now prior (steps.Refused cause) value y = May f (events.Refused caller call now cause) × StripeStands (with_event f (events.Refused caller call now cause)) stripe y
AfterStep f stripe caller call now prior (steps.Fetch ticket) value y =
    (prior ≡ Some ticket → StripeStands f stripe y) × ((prior ≡ Some ticket → ⊥) → May f (events.Asked ticket caller call) × StripeStands (with_event f (events.Asked ticket caller call)) stripe y)
AfterStep f stripe caller call now prior steps.FetchFull value y = StripeStands f stripe y

abbrev pub AfterRead : FrontData → ℕ → ℕ → CallData → ℕ → Option Ticket → ReadData → Type 0
AfterRead f stripe caller call now prior r = AfterStep f stripe caller call now prior r.step r.value r.stripe

-- what stands of all stands of those that pass a test, and they pass it
pub all_filter : {A : Type 0} (P : A → Type 0) (test : A → Bool) (xs : List A) → AllByRecursion P xs → AllByRecursion (λ x. P x × (test x ≡ true)) (filter test xs)
all_filter P test [] h = tt
all_filter P test (x ∷ xs) h =
    elim (test x) as (λ b. test x ≡ b → AllByRecursion (λ y. P y × (test y ≡ true)) (cond b (x ∷ filter test xs) (filter test xs))) [
      | true ↦ λ is. ((h.0, is), all_filter P test xs h.1)
      | false ↦ λ is. all_filter P test xs h.1
    ] refl

pub all_map : {A : Type 0} (P Q : A → Type 0) (xs : List A) → ((x : A) → P x → Q x) → AllByRecursion P xs → AllByRecursion Q xs
all_map P Q [] g h = tt
all_map P Q (x ∷ xs) g h = (g x h.0, all_map P Q xs g h.1)

-- the event is nothing to a place: it puts no document, refuses nothing for what became of it, and is no failed read for it
pub record IsCalm (stripe : ℕ) (event : EventData) (place : PlaceData) : Type 0 where
  pub unused : IsUnused (ticket_of stripe place.number) event
  pub no_read : IsNoRead (ticket_of stripe place.number) event

outcome_calm : (f : FrontData) (stripe number : ℕ) (key : List ℕ) (outcome : Outcome) (event : EventData) → world_of (with_event f event) ≡ world_of f → IsNoRead (ticket_of stripe number) event
    → OutcomeStands f (ticket_of stripe number) key outcome → OutcomeStands (with_event f event) (ticket_of stripe number) key outcome
outcome_calm f stripe number key outcomes.Waiting event same no_read h = all_append (IsNoRead (ticket_of stripe number)) f.events (event ∷ []) h (no_read, tt)
outcome_calm f stripe number key outcomes.Merged event same no_read h = h
outcome_calm f stripe number key outcomes.Absent event same no_read h = subst (λ (w : World). IsAbsent (get w.docs key)) (sym same) h
outcome_calm f stripe number key (outcomes.Failed fault) event same no_read h = has_failed_later f (ticket_of stripe number) fault event h
outcome_calm f stripe number key outcomes.NoMemory event same no_read h = h

place_calm : (f : FrontData) (stripe : ℕ) (event : EventData) (place : PlaceData) → world_of (with_event f event) ≡ world_of f → mutation_of (world_of f) event ≡ None → IsCalm stripe event place → PlaceStands f stripe place → PlaceStands (with_event f event) stripe place
place_calm f stripe event place same puts calm h = record {
  here = h.here;
  waiting = waiting_later f (ticket_of stripe place.number) place.key event (ap (puts_on place.key) puts) h.waiting;
  unused = all_append (IsUnused (ticket_of stripe place.number)) f.events (event ∷ []) h.unused (calm.unused, tt);
  outcome = outcome_calm f stripe place.number place.key place.outcome event same calm.no_read h.outcome;
}

pub places_calm : (f : FrontData) (stripe : ℕ) (event : EventData) (places : List PlaceData) → world_of (with_event f event) ≡ world_of f → mutation_of (world_of f) event ≡ None → AllByRecursion (IsCalm stripe event) places → AllByRecursion (PlaceStands f stripe) places
    → AllByRecursion (PlaceStands (with_event f event) stripe) places
places_calm f stripe event [] same puts calm h = tt
places_calm f stripe event (place ∷ places) same puts calm h = (place_calm f stripe event place same puts calm.0 h.0, places_calm f stripe event places same puts calm.1 h.1)

-- an event that leaves the world and the mark leaves a stripe, with these places and this next number
pub stripe_calm : (f : FrontData) (stripe : ℕ) (event : EventData) (x : StripeData) (places : List PlaceData) (next : ℕ) → world_of (with_event f event) ≡ world_of f → mark_after stripe (marked f stripe) event ≡ marked f stripe
    → AllByRecursion (PlaceStands (with_event f event) stripe) places → AllByRecursion (IsBelow (ticket_of stripe next)) (with_event f event).events → ((world_of f).opened ≡ false → places ≡ [])
    → StripeStands f stripe x → StripeStands (with_event f event) stripe (record x { places = places; next = next })
stripe_calm f stripe event x places next same mark stand below closed s =
    let m : marked (with_event f event) stripe ≡ marked f stripe = marked_step f event stripe ∙ mark in
    record {
      there = s.there;
      index = s.index;
      nodes = λ key node is.
          let n = s.nodes key node is in
          record {
            doc = n.doc;
            found = ap (λ (w : World). get w.docs key) same ∙ n.found;
            here = n.here;
            meta = n.meta;
            value = subst (λ k. ValueStands k n.doc node.value) (sym m) n.value;
          };
      gone = λ opened key here none-there.
          subst (λ (w : World). MayBeGone (marked (with_event f event) stripe) (get w.docs key)) (sym same)
          (subst (λ k. MayBeGone k (get (world_of f).docs key)) (sym m) (s.gone (sym (ap (λ (w : World). w.opened) same) ∙ opened) key here none-there));
      mark = s.mark ∙ sym m;
      state = s.state ∙ sym (ap (λ (w : World). w.state) same);
      opened = s.opened ∙ sym (ap (λ (w : World). w.opened) same);
      places = stand;
      next = below;
      closed = λ shut. closed (sym (ap (λ (w : World). w.opened) same) ∙ shut);
      is_told = same_told f event ∙ s.is_told;
    }

-- the places that are left when one is released, with what is known of them
pub released_all : (P : PlaceData → Type 0) (places : List PlaceData) (prior : Option Ticket) → AllByRecursion P places → AllByRecursion P (released places prior)
released_all P places None h = h
released_all P places (Some ticket) h = all_map (λ p. P p × (is_not_numbered ticket.number p ≡ true)) P (released places (Some ticket)) (λ p q. q.0) (all_filter P (is_not_numbered ticket.number) places h)

pub released_none : (places : List PlaceData) (prior : Option Ticket) → places ≡ [] → released places prior ≡ []
released_none places None is = is
released_none places (Some ticket) is = ap (λ (l : List PlaceData). released l (Some ticket)) is

-- every place is calm where each is
calm_all : (stripe : ℕ) (event : EventData) (places : List PlaceData) → ((place : PlaceData) → IsCalm stripe event place) → AllByRecursion (IsCalm stripe event) places
calm_all stripe event [] h = tt
calm_all stripe event (place ∷ places) h = (h place, calm_all stripe event places h)

-- a Get changes no world
get_world : (f : FrontData) (caller now : ℕ) (key value : List ℕ) (reply : Reply) → world_of (with_event f (events.Called caller (calls.Get key) now reply value)) ≡ world_of f
get_world f caller now key value reply = world_step f (events.Called caller (calls.Get key) now reply value) ∙ ap (λ (e : Effect). apply (world_of f) e) (get_done (world_of f) key now reply)

get_puts : (w : World) (caller now : ℕ) (key value : List ℕ) (reply : Reply) → mutation_of w (events.Called caller (calls.Get key) now reply value) ≡ None
get_puts w caller now key value reply = ap put_by (get_done w key now reply)

-- a Get that is answered as the world says
module _ (f : FrontData) (stripe caller now : ℕ) (key : List ℕ) (prior : Option Ticket) (x : StripeData) (s : StripeStands f stripe x) where
  pub after_done : (a : Answer) → (world_of f).opened ≡ true → a.reply ≡ (answer (world_of f) (calls.Get key) now).reply → a.value ≡ (answer (world_of f) (calls.Get key) now).value
      → AfterRead f stripe caller (calls.Get key) now prior (read_done x prior a)
  unfolding May
  after_done a opened reply value =
      let event = events.Called caller (calls.Get key) now a.reply a.value in (
        record { opened = opened; reply_is = λ _. reply; value_is = λ _. value },
        stripe_calm f stripe event x (released x.places prior) x.next (get_world f caller now key a.value a.reply) refl
            (places_calm f stripe event (released x.places prior) (get_world f caller now key a.value a.reply) (get_puts (world_of f) caller now key a.value a.reply)
            (calm_all stripe event (released x.places prior) (λ place. record { unused = tt; no_read = tt })) (released_all (PlaceStands f stripe) x.places prior s.places))
            (all_append (IsBelow (ticket_of stripe x.next)) f.events (event ∷ []) s.next (tt, tt))
            (λ shut. released_none x.places prior (s.closed shut)) s,
      )

  -- a Get of a vBucket that hasn't opened
  pub after_warming : (world_of f).opened ≡ false → AfterRead f stripe caller (calls.Get key) now prior (read_refused x prior causes.Warming)
  unfolding May
  after_warming shut =
      let event = events.Refused caller (calls.Get key) now causes.Warming in
      let none : released x.places prior ≡ [] = released_none x.places prior (s.closed shut) in (
        shut,
        stripe_calm f stripe event x (released x.places prior) x.next (world_step f event) refl
            (subst (λ (l : List PlaceData). AllByRecursion (PlaceStands (with_event f event) stripe) l) (sym none) tt)
            (all_append (IsBelow (ticket_of stripe x.next)) f.events (event ∷ []) s.next (tt, tt))
            (λ h. none) s,
      )
