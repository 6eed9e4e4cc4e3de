-- A call on a key of a stripe that stands, which changes no document: what it notes is legal, and the stripe stands behind it.
use Rattle.std.proofs.Common.{◌≡◌, ℕ, ◌≤◌, true, false, cond, List, [], ◌∷◌, ◌++◌, refl, sym, ap, subst, ◌∙◌}
use Rattle.std.specs.Prelude.{Option, Some, None, nat_lt, not, ◌==◌, ◌||◌, ◌&&◌}
use Rattle.std.specs.List.{AllByRecursion}
use Rattle.std.specs.FinMap.{get}
use Rattle.ep_model.specs.declared.call.Reply.{Reply}
use Rattle.ep_model.specs.declared.call.VbState.TheVariants.{Active}
use Rattle.ep_model.specs.declared.config.Eviction.{Eviction}
use Rattle.ep_model.specs.declared.config.Eviction.TheVariants.{Value, Full}
use Rattle.ep_model.specs.declared.event.Cause.{Cause}
use Rattle.ep_model.specs.declared.event.Ticket.{Ticket}
use Rattle.ep_model.specs.declared.data.CallData.{CallData}
use Rattle.ep_model.specs.declared.data.EventData.{EventData}
use Rattle.ep_model.specs.declared.data.EventData.TheVariants as events
use Rattle.ep_model.specs.declared.data.FrontData.{FrontData}
use Rattle.ep_model.specs.World.{Doc, World, live_of, secs, meta_of, doc_from}
use Rattle.ep_model.specs.Stripes.{stripe_of}
use Rattle.ep_model.specs.Calls.{key_of}
use Rattle.ep_model.specs.Needs.{needs}
use Rattle.ep_model.specs.Answer.{Nothing}
use Rattle.ep_model.specs.History.{call_effect}
use Rattle.ep_model.specs.Front.{world_of, with_event, marked}
use Rattle.ep_model.specs.Legal.{IsUnused, IsBelow, WaitsAt, HasFailedRead, Caused, MayCall, IsAway, MayAsk, May, IsLegal}
use Rattle.hold_stage.specs.Waits.{IsNoRead}
use Rattle.hold_stage.proofs.LaterLemmas.{all_append}
use Rattle.hold_stage.proofs.BoundLemmas.{not_asked}
use Rattle.hash_stripe.specs.Nodes.{NodeData, Slot, node_at}
use Rattle.hash_stripe.specs.Stripes.{StripeData}
use Rattle.fetch_book.specs.declared.place.Outcome.{Outcome}
use Rattle.fetch_book.specs.declared.place.Outcome.TheVariants as outcomes
use Rattle.fetch_book.specs.declared.place.Place.{Place}
use Rattle.fetch_book.specs.Places.{is_not_of}
use Rattle.fetch_book.specs.Books.{BookData, is_full, next_ticket, asked_place, asked}
use Rattle.vb_front.specs.declared.part.StripePart.{StripePart}
use Rattle.vb_front.specs.declared.step.Step.TheVariants as steps
use Rattle.vb_front.specs.Stands.{IsShownValue, IsAwayBelow, NodeShows, IsGone, TableShows, TableStands, OutcomeStands, PlaceStands, StripeStands}
use Rattle.vb_front.specs.Priors.{event_of, IsNext}
use Rattle.hold_stage.specs.Priors.{is_prior, PriorsStand, PriorStands}
use Rattle.vb_front.specs.Waits.{Known, Away, value_memory, slot_memory, memory_of, prior_outcome, release, ask_step, ask_book}
use Rattle.vb_front.proofs.CalmLemmas.{IsCalm, calm_called, calm_refused, calm_asked, table_calm, places_calm}
use Rattle.vb_front.proofs.AskLemmas.{all_filter, all_map, all_of, ticket_is, released_all, released_none, release_stripe, release_next, found_place, below_asked, new_place}

-- what a document that is away is: stored, and under value eviction not deleted
away_is : (eviction : Eviction) (mark : ℕ) (found : Option Doc) (slot : Slot) → slot_memory eviction slot ≡ Away
    → (slot ≡ None → IsGone eviction mark found)
    → ((node : NodeData) → slot ≡ Some node → (doc : Doc) × (found ≡ Some doc) × (node.meta ≡ meta_of doc) × IsAwayBelow mark node node.value) → IsAway eviction mark found
away_is Value mark found None is gone shows = absurd (cc)
away_is Full mark None None is gone shows = tt
away_is Full mark (Some doc) None is gone shows = gone refl
away_is eviction mark found (Some node) is gone shows = at node.value is (shows node refl).3
  where
    at : (value : Option (List ℕ)) → value_memory node value ≡ Away → IsAwayBelow mark node value
        → IsAway eviction mark found
    at None e away =
        let d = shows node refl in
        let low : d.0.seqno ≤ mark = subst (λ m. m.seqno ≤ mark) d.2 away.0 in
        let stays : d.0.deleted ≡ false = subst (λ m. m.deleted ≡ false) d.2 away.1 in
        subst (λ (o : Option Doc). IsAway eviction mark o) (sym d.1) (elim eviction as (λ (e : Eviction). IsAway e mark (Some d.0)) [ Value ↦ (low, stays) | Full ↦ low ])
    at (Some value) e away = absurd (cc)

-- a stripe of which documents are known
pub memory_away : (f : FrontData) (stripe : ℕ) (key : List ℕ) (s : StripeData) → TableStands f stripe s
    → TableShows f stripe s → (world_of f).opened ≡ true → stripe_of key f.config.stripes ≡ stripe
    → memory_of s key ≡ Away → IsAway f.config.eviction (marked f stripe) (get (world_of f).docs key)
memory_away f stripe key s h shown opened here is =
    away_is f.config.eviction (marked f stripe) (get (world_of f).docs key) (node_at s.slots key) (subst (λ (e : Eviction). slot_memory e (node_at s.slots key) ≡ Away) h.eviction is)
    (λ none-there. shown.gone opened key here none-there)
    (λ node there. let n = shown.nodes key node there in (n.doc, n.found, n.meta, (h.nodes key node there).away))

-- a document that is gone isn't live
gone_live : (mark now : ℕ) (found : Option Doc) → IsGone Value mark found → live_of found now ≡ None
gone_live mark now None gone = refl
gone_live mark now (Some doc) gone = ap (λ b. cond (not b && (doc.expiry == 0 || nat_lt (secs now) doc.expiry)) (Some doc) None) gone.1

known_is : (eviction : Eviction) (mark now : ℕ) (found : Option Doc) (slot : Slot) (doc : Option Doc)
    → slot_memory eviction slot ≡ Known doc → (slot ≡ None → IsGone eviction mark found)
    → ((node : NodeData) → slot ≡ Some node → (d : Doc) × (found ≡ Some d) × ((value : List ℕ) → node.value ≡ Some value → doc_from node.meta value ≡ d)) → live_of found now ≡ live_of doc now
known_is Value mark now found None doc is gone shows =
    let e : None ≡ doc = cc in gone_live mark now found (gone refl) ∙ ap (λ (o : Option Doc). live_of o now) e
known_is Full mark now found None doc is gone shows = absurd (cc)
known_is eviction mark now found (Some node) doc is gone shows = at node.value is refl
  where
    at : (value : Option (List ℕ)) → value_memory node value ≡ Known doc → node.value ≡ value
        → live_of found now ≡ live_of doc now
    at None e v = absurd (cc)
    at (Some value) e v =
        let d = shows node refl in
        let known : Some (doc_from node.meta value) ≡ doc = cc in
        ap (λ (o : Option Doc). live_of o now) (d.1 ∙ ap Some (sym (d.2 value v)) ∙ known)

-- memory shows the live document
pub memory_known : (f : FrontData) (stripe now : ℕ) (key : List ℕ) (s : StripeData) (doc : Option Doc)
    → TableStands f stripe s → TableShows f stripe s → (world_of f).opened ≡ true
    → stripe_of key f.config.stripes ≡ stripe
    → memory_of s key ≡ Known doc → live_of (get (world_of f).docs key) now ≡ live_of doc now
memory_known f stripe now key s doc h shown opened here is =
    known_is f.config.eviction (marked f stripe) now (get (world_of f).docs key) (node_at s.slots key) doc (subst (λ (e : Eviction). slot_memory e (node_at s.slots key) ≡ Known doc) h.eviction is)
    (λ none-there. shown.gone opened key here none-there)
    (λ node there. let n = shown.nodes key node there in (n.doc, n.found, λ value v. value_is n v))
  where
    value_is : {node : NodeData} {value : List ℕ} (n : NodeShows f key node) → node.value ≡ Some value
        → doc_from node.meta value ≡ n.doc
    value_is {node = node} {value = value} n v =
        let same : value ≡ n.doc.value = subst (λ (o : Option (List ℕ)). IsShownValue n.doc o) v n.value in
        ap (λ m. doc_from m value) n.meta ∙ ap (λ l. record n.doc { value = l }) same

-- what is left of places when one is released
abbrev pub IsLeftBy : Option Ticket → Place → Type 0
IsLeftBy None place = Unit {0}
IsLeftBy (Some ticket) place = is_not_of ticket place ≡ true

released_left : (P : Place → Type 0) (book : BookData) (prior : Option Ticket) → AllByRecursion P book.places
    → AllByRecursion (λ (p : Place). P p × IsLeftBy prior p) (release book prior).places
released_left P book None h = all_map P (λ (p : Place). P p × IsLeftBy None p) book.places (λ p q. (q, tt)) h
released_left P book (Some ticket) h = all_filter P (is_not_of ticket) book.places h

-- an event that is nothing to a place
abbrev IsFree : EventData → Place → Type 0
IsFree event place = IsUnused place.ticket event × IsNoRead place.ticket event

module _ (f : FrontData) (stripe : ℕ) (part : StripePart) (s : StripeStands f stripe part) where
  same_next : (prior : Option Ticket) → next_ticket (release part.book prior) ≡ next_ticket part.book
  same_next prior = ap (λ n. record { stripe = n; number = (release part.book prior).next }) (release_stripe part.book prior) ∙ ap (λ n. record { stripe = part.book.stripe; number = n }) (release_next part.book prior)

  -- a stripe one of whose places was released, as it is
  pub with_released : (prior : Option Ticket) → StripeStands f stripe (record part { book = release part.book prior })
  with_released prior = record {
    there = s.there;
    table = s.table;
    book = record {
      home = release_stripe part.book prior ∙ s.book.home;
      next = subst (λ (t : Ticket). AllByRecursion (IsBelow t) f.events) (sym (same_next prior)) s.book.next;
      closed = λ shut. released_none part.book prior (s.book.closed shut);
      places = released_all (PlaceStands f stripe) part.book prior s.book.places;
    };
  }

  -- and behind an event that changes nothing
  pub released_behind : (event : EventData) (prior : Option Ticket) → IsCalm f event
      → IsBelow (next_ticket part.book) event → ((place : Place) → IsLeftBy prior place → IsFree event place)
      → StripeStands (with_event f event) stripe (record part { book = release part.book prior })
  released_behind event prior calm below free =
      let left = released_left (PlaceStands f stripe) part.book prior s.book.places in
      record {
        there = s.there;
        table = table_calm f stripe event calm part.table s.table;
        book = record {
          home = release_stripe part.book prior ∙ s.book.home;
          next = subst (λ (t : Ticket). AllByRecursion (IsBelow t) (with_event f event).events) (sym (same_next prior)) (all_append (IsBelow (next_ticket part.book)) f.events (event ∷ []) s.book.next (below, tt));
          closed = λ shut. released_none part.book prior (s.book.closed (sym (ap (λ (w : World). w.opened) calm.same) ∙ shut));
          places = places_calm f stripe event calm (release part.book prior).places
              (all_map (λ (p : Place). PlaceStands f stripe p × IsLeftBy prior p) (λ (p : Place). IsFree event p) (release part.book prior).places (λ p q. free p q.1) left)
              (released_all (PlaceStands f stripe) part.book prior s.book.places);
        };
      }

  -- a call that is answered without an effect
  pub done_behind : (caller : ℕ) (call : CallData) (now : ℕ) (prior : Option Ticket) (reply : Reply) (value : List ℕ)
      → MayCall (world_of f) call now reply value → call_effect (world_of f) call now reply ≡ Nothing
      → IsNext f (event_of caller call now prior (steps.Done reply) value) (λ g. StripeStands g stripe (record part { book = release part.book prior }))
  unfolding May
  done_behind caller call now prior reply value may none =
      let event = events.Called caller call now reply value in
      (may, released_behind event prior (calm_called f caller call now reply value none) tt (λ place left. (tt, tt)))

  -- one that is refused, for a cause that names no place but the call's own
  pub refused_behind : (caller : ℕ) (call : CallData) (now : ℕ) (prior : Option Ticket) (cause : Cause)
      → Caused f caller call now cause
      → ((place : Place) → IsLeftBy prior place → IsUnused place.ticket (events.Refused caller call now cause))
      → IsNext f (event_of caller call now prior (steps.Refused cause) []) (λ g. StripeStands g stripe (record part { book = release part.book prior }))
  unfolding May
  refused_behind caller call now prior cause caused unused =
      let event = events.Refused caller call now cause in
      (caused, released_behind event prior (calm_refused f caller call now cause) tt (λ place left. (unused place left, tt)))

-- a call that needs what isn't in memory
module _ (f : FrontData) (stripe caller now : ℕ) (call : CallData) (key : List ℕ) (part : StripePart) (legal : IsLegal f) (keyed : key_of call ≡ Some key) (needed : needs f.config.eviction call ≡ true)
    (here : stripe_of key f.config.stripes ≡ stripe) (opened : (world_of f).opened ≡ true) (active : (world_of f).state ≡ Active) (away : memory_of part.table key ≡ Away) (s : StripeStands f stripe part) where
  may_ask : MayAsk f (next_ticket part.book) call
  may_ask = record {
    serving = record { opened = opened; active = active };
    needed = needed;
    key = key;
    keyed = keyed;
    here = s.book.home ∙ sym here;
    above = s.book.next;
    away = λ told. subst (λ n. IsAway f.config.eviction (marked f n) (get (world_of f).docs key)) (sym s.book.home) (memory_away f stripe key part.table s.table (s.table.shown told) opened here away);
  }

  -- its ticket isn't one that was asked before
  new_ticket : (prior : Option Ticket) → PriorsStand f caller call prior
      → is_prior prior (next_ticket part.book) ≡ false
  new_ticket None priors = refl
  new_ticket (Some ticket) p =
      elim (is_prior (Some ticket) (next_ticket part.book)) as (λ b. is_prior (Some ticket) (next_ticket part.book) ≡ b → b ≡ false) [
        | true ↦ λ is.
            let same : ticket ≡ next_ticket part.book = ticket_is ticket (next_ticket part.book) is in
            absurd (not_asked f.events p.before p.later (next_ticket part.book) caller call (p.asked ∙ ap (λ (t : Ticket). p.before ++ events.Asked t caller call ∷ p.later) same) s.book.next)
        | false ↦ λ is. refl
      ] refl

  asked_stands : StripeStands (with_event f (events.Asked (next_ticket part.book) caller call)) stripe (record part { book = asked part.book key })
  asked_stands =
      let ticket = next_ticket part.book in
      let event = events.Asked ticket caller call in
      let calm = calm_asked f ticket caller call in
      record {
        there = s.there;
        table = table_calm f stripe event calm part.table s.table;
        book = record {
          home = s.book.home;
          next = below_asked f part.book.stripe part.book.next caller call s.book.next;
          closed = λ shut. absurd (let o = sym (ap (λ (w : World). w.opened) calm.same) ∙ shut in cc);
          places = all_append (PlaceStands (with_event f event) stripe) part.book.places (asked_place part.book key ∷ [])
              (places_calm f stripe event calm part.book.places (all_of (λ (p : Place). IsFree event p) part.book.places (λ p. (tt, tt))) s.book.places)
              (new_place f stripe caller call key part.book legal keyed here s.book.home s.book.next, tt);
        };
      }

  -- it asks at a new place, where one is free
  pub asks_behind : (prior : Option Ticket) → PriorsStand f caller call prior
      → IsNext f (event_of caller call now prior (ask_step part.book) []) (λ g. StripeStands g stripe (record part { book = ask_book part.book key }))
  unfolding May
  asks_behind prior priors =
      elim (is_full part.book) as (λ b. IsNext f (event_of caller call now prior (cond b steps.FetchFull (steps.Fetch (next_ticket part.book))) []) (λ g. StripeStands g stripe (record part { book = cond b part.book (asked part.book key) }))) [
        | true ↦ s
        | false ↦ subst (λ b. IsNext f (cond b None (Some (events.Asked (next_ticket part.book) caller call))) (λ g. StripeStands g stripe (record part { book = asked part.book key }))) (sym (new_ticket prior priors)) (may_ask, asked_stands)
      ]

-- what its place says
module _ (f : FrontData) (stripe caller : ℕ) (call : CallData) (part : StripePart) (s : StripeStands f stripe part) where
  pub prior_place : (ticket : Ticket) (outcome : Outcome) → prior_outcome part.book (Some ticket) ≡ Some outcome
      → (place : Place) × (place.ticket ≡ ticket) × (place.outcome ≡ outcome) × PlaceStands f stripe place
  prior_place ticket outcome is = found_place (PlaceStands f stripe) part.book.places ticket outcome is s.book.places

  pub prior_waits : (ticket : Ticket) (outcome : Outcome) → prior_outcome part.book (Some ticket) ≡ Some outcome
      → PriorStands f caller call ticket → WaitsAt f.events ticket caller call
  prior_waits ticket outcome is p =
      let found = prior_place ticket outcome is in
      record {
        before = p.before;
        later = p.later;
        asked = p.asked;
        silent = p.silent;
        unused = subst (λ (t : Ticket). AllByRecursion (IsUnused t) f.events) found.1 found.3.unused;
      }

  pub prior_failed : (ticket : Ticket) (fault : ℕ)
      → prior_outcome part.book (Some ticket) ≡ Some (outcomes.Failed fault) → HasFailedRead f.events ticket fault
  prior_failed ticket fault is =
      let found = prior_place ticket (outcomes.Failed fault) is in
      subst (λ (t : Ticket). HasFailedRead f.events t fault) found.1 (subst (λ (o : Outcome). OutcomeStands f found.0.ticket o) found.2 found.3.outcome)
