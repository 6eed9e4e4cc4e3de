-- A Get of a value that isn't in memory: what it asks for, and how it is refused for what became of that.
use Rattle.std.proofs.Common.{◌≡◌, ◌≢◌, ◌≤◌, ℕ, ◌+◌, true, false, cond, List, [], ◌∷◌, ◌++◌, refl, sym, ap, subst, ◌∙◌, arith, append_assoc}
use Rattle.std.specs.Prelude.{Option, Some, None, ◌==◌, ◌||◌, ◌&&◌, not, nat_lt}
use Rattle.std.specs.List.{AllByRecursion}
use Rattle.std.specs.FinMap.{get}
use Rattle.std.specs.Str.{bytes_eq}
use Rattle.std.proofs.lemmas.Slice.Eq.{bytes_eq-Decides}
use Rattle.std.proofs.lemmas.Bool.Decides.{Decides-eqb}
use Rattle.ep_model.specs.declared.call.VbState.{VbState}
use Rattle.ep_model.specs.declared.call.VbState.TheVariants.{Active, Replica, Pending, Dead}
use Rattle.ep_model.specs.declared.config.Eviction.{Eviction}
use Rattle.ep_model.specs.declared.config.Eviction.TheVariants.{Value}
use Rattle.ep_model.specs.declared.event.Cause.{Cause}
use Rattle.ep_model.specs.declared.event.Cause.TheVariants as causes
use Rattle.ep_model.specs.declared.event.Ticket.{Ticket}
use Rattle.ep_model.specs.declared.data.CallData.{CallData}
use Rattle.ep_model.specs.declared.data.CallData.TheVariants as calls
use Rattle.ep_model.specs.declared.data.EventData.{EventData}
use Rattle.ep_model.specs.declared.data.EventData.TheVariants as events
use Rattle.ep_model.specs.declared.data.FrontData.{FrontData}
use Rattle.ep_model.specs.World.{Doc, World, live, live_of, secs, doc_from}
use Rattle.ep_model.specs.Stripes.{stripe_of}
use Rattle.ep_model.specs.Refusals.{state_refusal}
use Rattle.ep_model.specs.Answer.{Answer, unless, refused, answer_get, answer_row, answer}
use Rattle.ep_model.specs.Front.{world_of, with_event, marked}
use Rattle.ep_model.specs.Legal.{IsUnused, IsBelow, WaitsAt, Caused, IsAway, MayAsk, May, AreLegal, IsLegal}
use Rattle.hold_stage.specs.Waits.{is_ask, IsNoRead}
use Rattle.hold_stage.proofs.CallerLemmas.{same_is}
use Rattle.hold_stage.proofs.ViewLemmas.{or_true_left}
use Rattle.hold_stage.proofs.LaterLemmas.{world_step, all_append}
use Rattle.hold_stage.proofs.LegalLemmas.{all_front}
use Rattle.hold_stage.proofs.BoundLemmas.{not_asked, fresh_unused, waiting_step}
use Rattle.flat_parts.specs.declared.data.NodeData.{NodeData}
use Rattle.flat_parts.specs.declared.data.Outcome.{Outcome}
use Rattle.flat_parts.specs.declared.data.Outcome.TheVariants as outcomes
use Rattle.flat_parts.specs.declared.data.PlaceData.{PlaceData}
use Rattle.flat_parts.specs.declared.data.StripeData.{StripeData}
use Rattle.flat_parts.specs.declared.data.Step.TheVariants as steps
use Rattle.flat_parts.specs.Nodes.{node_at, outcome_at, is_not_numbered, released}
use Rattle.flat_parts.specs.Steps.{read_refused, is_full, asked, read_asks, prior_outcome, read_waits, read_value, read_node, read_active, read_step}
use Rattle.ep_drill.specs.Stands.{ValueStands, MayBeGone, OutcomeStands, ticket_of, PlaceStands, StripeStands}
use Rattle.hold_stage.specs.Priors.{PriorsStand, PriorStands}
use Rattle.ep_drill.proofs.ReadLemmas.{AfterRead, all_filter, all_map, IsCalm, places_calm, stripe_calm, released_all, after_done, after_warming}

-- a ticket above all that were asked has no failed read
no_read_event : (f : FrontData) (ticket : Ticket) (event : EventData) → AllByRecursion (IsBelow ticket) f.events → May f event → IsNoRead ticket event
unfolding May
no_read_event f ticket (events.Called caller call now reply value) all may = tt
no_read_event f ticket (events.Refused caller call now cause) all may = tt
no_read_event f ticket (events.Expired key now) all may = tt
no_read_event f ticket (events.Persisted number) all may = tt
no_read_event f ticket (events.Marked stripe number) all may = tt
no_read_event f ticket (events.Asked other caller call) all may = tt
no_read_event f ticket (events.ReadFailed other fault) all may = λ is.
    not_asked f.events may.asked.before may.asked.later ticket may.asked.caller may.asked.call
    (may.asked.asked ∙ ap (λ (t : Ticket). may.asked.before ++ events.Asked t may.asked.caller may.asked.call ∷ may.asked.later) is) all
no_read_event f ticket events.Opened all may = tt

no_read_along : (f : FrontData) (ticket : Ticket) (list : List EventData) → AreLegal f list → AllByRecursion (IsBelow ticket) (f.events ++ list) → AllByRecursion (IsNoRead ticket) list
unfolding AreLegal
no_read_along f ticket [] legal all = tt
no_read_along f ticket (event ∷ list) legal all = (
  no_read_event f ticket event (all_front (IsBelow ticket) f.events (event ∷ list) all) legal.0,
  no_read_along (with_event f event) ticket list legal.1 (subst (λ (l : List EventData). AllByRecursion (IsBelow ticket) l) (sym (append_assoc f.events (event ∷ []) list)) all),
)

fresh_no_read : (f : FrontData) (ticket : Ticket) → IsLegal f → AllByRecursion (IsBelow ticket) f.events → AllByRecursion (IsNoRead ticket) f.events
unfolding IsLegal
fresh_no_read f ticket legal all = no_read_along (record f { events = [] }) ticket f.events legal all

-- tickets below a number are below the next one
below_next : (stripe number : ℕ) (event : EventData) → IsBelow (ticket_of stripe number) event → IsBelow (ticket_of stripe (number + 1)) event
below_next stripe number (events.Called caller call now reply value) h = tt
below_next stripe number (events.Refused caller call now cause) h = tt
below_next stripe number (events.Expired key now) h = tt
below_next stripe number (events.Persisted n) h = tt
below_next stripe number (events.Marked other n) h = tt
below_next stripe number (events.Asked other caller call) h = λ is. let b = h is in omega arith
below_next stripe number (events.ReadFailed other fault) h = tt
below_next stripe number events.Opened h = tt

-- the place of a number, with what is known of all places
pub place_at : (P : PlaceData → Type 0) (places : List PlaceData) (number : ℕ) (outcome : Outcome) → outcome_at places number ≡ Some outcome → AllByRecursion P places → (place : PlaceData) × (place.number ≡ number) × (place.outcome ≡ outcome) × P place
place_at P [] number outcome is all = absurd (cc)
place_at P (place ∷ places) number outcome is all =
    elim (place.number == number) as (λ b. place.number == number ≡ b → cond b (Some place.outcome) (outcome_at places number) ≡ Some outcome → (p : PlaceData) × (p.number ≡ number) × (p.outcome ≡ outcome) × P p) [
      | true ↦ λ t e. (place, (Decides-eqb place.number number).0 t, (let h : place.outcome ≡ outcome = cc in h), all.0)
      | false ↦ λ t e. place_at P places number outcome e all.1
    ] refl is

-- the outcome that a Get finds is one at its own ticket
prior_is : (x : StripeData) (ticket : Ticket) (outcome : Outcome) → prior_outcome x (Some ticket) ≡ Some outcome → (ticket.stripe ≡ x.index) × (outcome_at x.places ticket.number ≡ Some outcome)
prior_is x ticket outcome is =
    elim (ticket.stripe == x.index) as (λ b. ticket.stripe == x.index ≡ b → cond b (outcome_at x.places ticket.number) None ≡ Some outcome → (ticket.stripe ≡ x.index) × (outcome_at x.places ticket.number ≡ Some outcome)) [
      | true ↦ λ t e. ((Decides-eqb ticket.stripe x.index).0 t, e)
      | false ↦ λ t e. absurd (cc)
    ] refl is

-- a ticket is what its stripe and its number say
pub ticket_is : (stripe number : ℕ) (ticket : Ticket) → ticket.stripe ≡ stripe → number ≡ ticket.number → ticket_of stripe number ≡ ticket
ticket_is stripe number ticket s n = ap (λ k. ticket_of k number) (sym s) ∙ ap (λ k. ticket_of ticket.stripe k) n

-- a refusal for what became of one ticket is nothing to the places of others
other_ticket : (stripe : ℕ) (ticket : Ticket) (place : PlaceData) → is_not_numbered ticket.number place ≡ true → ticket ≢ ticket_of stripe place.number
other_ticket stripe ticket place test is =
    let same : (place.number == ticket.number) ≡ true = (Decides-eqb place.number ticket.number).1 (ap (λ (t : Ticket). t.number) (sym is)) in
    absurd (let e = ap not same in cc)

store_calm : (stripe caller now : ℕ) (call : CallData) (ticket : Ticket) (place : PlaceData) → is_not_numbered ticket.number place ≡ true → IsCalm stripe (events.Refused caller call now (causes.Store ticket)) place
store_calm stripe caller now call ticket place test = record {
  unused = (λ is. other_ticket stripe ticket place test (let e : ticket ≡ ticket_of stripe place.number = cc in e), λ is. cc);
  no_read = tt;
}

memory_calm : (stripe caller now : ℕ) (call : CallData) (ticket : Ticket) (place : PlaceData) → is_not_numbered ticket.number place ≡ true → IsCalm stripe (events.Refused caller call now (causes.Memory ticket)) place
memory_calm stripe caller now call ticket place test = record {
  unused = (λ is. cc, λ is. other_ticket stripe ticket place test (let e : ticket ≡ ticket_of stripe place.number = cc in e));
  no_read = tt;
}

-- an ask is nothing to the places that there are
asked_calm : (stripe caller : ℕ) (call : CallData) (ticket : Ticket) (places : List PlaceData) → AllByRecursion (IsCalm stripe (events.Asked ticket caller call)) places
asked_calm stripe caller call ticket [] = tt
asked_calm stripe caller call ticket (place ∷ places) = (record { unused = tt; no_read = tt }, asked_calm stripe caller call ticket places)

active_is : (state : VbState) → state_refusal state true ≡ None → state ≡ Active
active_is Active is = refl
active_is Replica is = absurd (cc)
active_is Pending is = absurd (cc)
active_is Dead is = absurd (cc)

-- under value eviction a value that is away may be asked for
away_of : (eviction : Eviction) (mark : ℕ) (found : Option Doc) (doc : Doc) → eviction ≡ Value → found ≡ Some doc → doc.seqno ≤ mark → doc.deleted ≡ false → IsAway eviction mark found
away_of eviction mark found doc value is low stays = subst (λ (e : Eviction). IsAway e mark found) (sym value) (subst (λ (o : Option Doc). IsAway Value mark o) (sym is) (low, stays))

-- a stripe with other places that stand for the same history
pub with_places : (f : FrontData) (stripe : ℕ) (x : StripeData) (places : List PlaceData) → AllByRecursion (PlaceStands f stripe) places → ((world_of f).opened ≡ false → places ≡ []) → StripeStands f stripe x → StripeStands f stripe (record x { places = places })
with_places f stripe x places stand closed s = record {
  there = s.there;
  index = s.index;
  nodes = s.nodes;
  gone = s.gone;
  mark = s.mark;
  state = s.state;
  opened = s.opened;
  places = stand;
  next = s.next;
  closed = closed;
  is_told = s.is_told;
}

-- the new place of an ask stands
new_place : (f : FrontData) (stripe caller number : ℕ) (key : List ℕ) → IsLegal f → stripe_of key f.config.stripes ≡ stripe → AllByRecursion (IsBelow (ticket_of stripe number)) f.events
    → PlaceStands (with_event f (events.Asked (ticket_of stripe number) caller (calls.Get key))) stripe (record { number = number; key = key; outcome = outcomes.Waiting })
new_place f stripe caller number key legal here below =
    let ticket = ticket_of stripe number in
    let event = events.Asked ticket caller (calls.Get key) in
    let asks : is_ask ticket key event ≡ true =
    ap (λ b. (b && (number == number)) && bytes_eq key key) (same_is stripe) ∙ ap (λ b. b && bytes_eq key key) (same_is number) ∙ (bytes_eq-Decides key key).1 refl in
    record {
      here = here;
      waiting = waiting_step f ticket key event ∙ or_true_left (is_ask ticket key event) _ asks;
      unused = all_append (IsUnused ticket) f.events (event ∷ []) (fresh_unused f ticket legal below) (tt, tt);
      outcome = all_append (IsNoRead ticket) f.events (event ∷ []) (fresh_no_read f ticket legal below) (tt, tt);
    }

below_event : (f : FrontData) (stripe caller number : ℕ) (call : CallData) → AllByRecursion (IsBelow (ticket_of stripe number)) f.events → AllByRecursion (IsBelow (ticket_of stripe (number + 1))) (with_event f (events.Asked (ticket_of stripe number) caller call)).events
below_event f stripe caller number call below =
    all_append (IsBelow (ticket_of stripe (number + 1))) f.events (events.Asked (ticket_of stripe number) caller call ∷ [])
    (all_map (IsBelow (ticket_of stripe number)) (IsBelow (ticket_of stripe (number + 1))) f.events (below_next stripe number) below) ((λ is. omega arith), tt)

module _ (f : FrontData) (stripe caller now : ℕ) (key : List ℕ) (x : StripeData) (legal : IsLegal f) (value-eviction : f.config.eviction ≡ Value) (here : stripe_of key f.config.stripes ≡ stripe)
    (opened : (world_of f).opened ≡ true) (active : (world_of f).state ≡ Active) (s : StripeStands f stripe x) where
  may_ask : (node : NodeData) → node_at x.nodes key ≡ Some node → node.value ≡ None → MayAsk f (ticket_of stripe x.next) (calls.Get key)
  may_ask node found away =
      let n = s.nodes key node found in
      let v = subst (λ (o : Option (List ℕ)). ValueStands (marked f stripe) n.doc o) away n.value in
      record {
        serving = record { opened = opened; active = active };
        needed = refl;
        key = key;
        keyed = refl;
        here = sym here;
        above = s.next;
        away = λ _. away_of f.config.eviction (marked f stripe) (get (world_of f).docs key) n.doc value-eviction n.found v.0 v.1;
      }

  -- a Get asks at a new place, beside places that stand
  after_new : (prior : Option Ticket) (places : List PlaceData) (node : NodeData) → AllByRecursion (PlaceStands f stripe) places → PriorsStand f caller (calls.Get key) prior → node_at x.nodes key ≡ Some node → node.value ≡ None
      → AfterRead f stripe caller (calls.Get key) now prior (record { step = steps.Fetch (ticket_of stripe x.next); value = []; stripe = asked x places key })
  unfolding May
  after_new prior places node stand priors found away =
      let ticket = ticket_of stripe x.next in
      let event = events.Asked ticket caller (calls.Get key) in (
        λ is.
            let p = subst (λ (o : Option Ticket). PriorsStand f caller (calls.Get key) o) is priors in
            absurd (not_asked f.events p.before p.later ticket caller (calls.Get key) p.asked s.next),
        λ _. (
          may_ask node found away,
          stripe_calm f stripe event x (places ++ (record { number = x.next; key = key; outcome = outcomes.Waiting }) ∷ []) (x.next + 1) (world_step f event) refl
              (all_append (PlaceStands (with_event f event) stripe) places ((record { number = x.next; key = key; outcome = outcomes.Waiting }) ∷ [])
              (places_calm f stripe event places (world_step f event) refl (asked_calm stripe caller (calls.Get key) ticket places) stand) (new_place f stripe caller x.next key legal here s.next, tt))
              (below_event f stripe caller x.next (calls.Get key) s.next)
              (λ shut. absurd (cc)) s,
        ),
      )

  after_asks : (prior : Option Ticket) (places : List PlaceData) (node : NodeData) → AllByRecursion (PlaceStands f stripe) places → PriorsStand f caller (calls.Get key) prior → node_at x.nodes key ≡ Some node → node.value ≡ None
      → AfterRead f stripe caller (calls.Get key) now prior (read_asks x places key)
  after_asks prior places node stand priors found away =
      elim (is_full places x.next) as (λ b. AfterRead f stripe caller (calls.Get key) now prior (cond b (record { step = steps.FetchFull; value = []; stripe = record x { places = places } }) (record { step = steps.Fetch (ticket_of x.index x.next); value = []; stripe = asked x places key }))) [
        | true ↦ with_places f stripe x places stand (λ shut. absurd (cc)) s
        | false ↦ subst (λ n. AfterRead f stripe caller (calls.Get key) now prior (record { step = steps.Fetch (ticket_of n x.next); value = []; stripe = asked x places key })) (sym s.index) (after_new prior places node stand priors found away)
      ]

  waits_of : (ticket : Ticket) (outcome : Outcome) → prior_outcome x (Some ticket) ≡ Some outcome → PriorStands f caller (calls.Get key) ticket → WaitsAt f.events ticket caller (calls.Get key) × ((place : PlaceData) × OutcomeStands f ticket place.key outcome)
  waits_of ticket outcome is p =
      let at = prior_is x ticket outcome is in
      let found = place_at (PlaceStands f stripe) x.places ticket.number outcome at.1 s.places in
      let e = ticket_is stripe found.0.number ticket (at.0 ∙ s.index) found.1 in (
        record {
          before = p.before;
          later = p.later;
          asked = p.asked;
          silent = p.silent;
          unused = subst (λ (t : Ticket). AllByRecursion (IsUnused t) f.events) e found.3.unused;
        },
        (found.0, subst (λ (t : Ticket). OutcomeStands f t found.0.key outcome) e (subst (λ (o : Outcome). OutcomeStands f (ticket_of stripe found.0.number) found.0.key o) found.2 found.3.outcome)),
      )

  after_refused : (ticket : Ticket) (cause : Cause) → Caused f caller (calls.Get key) now cause → ((place : PlaceData) → is_not_numbered ticket.number place ≡ true → IsCalm stripe (events.Refused caller (calls.Get key) now cause) place)
      → AfterRead f stripe caller (calls.Get key) now (Some ticket) (read_refused x (Some ticket) cause)
  unfolding May
  after_refused ticket cause caused calm =
      let event = events.Refused caller (calls.Get key) now cause in
      let left = all_filter (PlaceStands f stripe) (is_not_numbered ticket.number) x.places s.places in (
        caused,
        stripe_calm f stripe event x (released x.places (Some ticket)) x.next (world_step f event) refl
            (places_calm f stripe event (released x.places (Some ticket)) (world_step f event) refl
            (all_map (λ p. PlaceStands f stripe p × (is_not_numbered ticket.number p ≡ true)) (IsCalm stripe event) (released x.places (Some ticket)) (λ p q. calm p q.1) left)
            (released_all (PlaceStands f stripe) x.places (Some ticket) s.places))
            (all_append (IsBelow (ticket_of stripe x.next)) f.events (event ∷ []) s.next (tt, tt))
            (λ shut. absurd (cc)) s,
      )

  -- a Get of a value that isn't in memory, by what became of the read that it asked for before
  after_waits : (prior : Option Ticket) (node : NodeData) (outcome : Option Outcome) → prior_outcome x prior ≡ outcome → PriorsStand f caller (calls.Get key) prior → node_at x.nodes key ≡ Some node → node.value ≡ None
      → AfterRead f stripe caller (calls.Get key) now prior (read_waits x prior key outcome)
  after_waits None node outcome is priors found away = after_asks None x.places node s.places priors found away
  after_waits (Some ticket) node None is priors found away = after_asks (Some ticket) (released x.places (Some ticket)) node (released_all (PlaceStands f stripe) x.places (Some ticket) s.places) priors found away
  after_waits (Some ticket) node (Some outcomes.Waiting) is priors found away = (λ _. s, λ other. absurd (other refl))
  after_waits (Some ticket) node (Some outcomes.Merged) is priors found away = after_asks (Some ticket) (released x.places (Some ticket)) node (released_all (PlaceStands f stripe) x.places (Some ticket) s.places) priors found away
  after_waits (Some ticket) node (Some outcomes.Absent) is priors found away = after_asks (Some ticket) (released x.places (Some ticket)) node (released_all (PlaceStands f stripe) x.places (Some ticket) s.places) priors found away
  after_waits (Some ticket) node (Some (outcomes.Failed fault)) is priors found away =
      let w = waits_of ticket (outcomes.Failed fault) is priors in
      after_refused ticket (causes.Store ticket) (record { serving = record { opened = opened; active = active }; keyed = refl; waits = w.0; fault = fault; failed = w.1.1 }) (store_calm stripe caller now (calls.Get key) ticket)
  after_waits (Some ticket) node (Some outcomes.NoMemory) is priors found away =
      let w = waits_of ticket outcomes.NoMemory is priors in
      after_refused ticket (causes.Memory ticket) (record { serving = record { opened = opened; active = active }; keyed = refl; waits = w.0 }) (memory_calm stripe caller now (calls.Get key) ticket)

-- in an active vBucket a Get shows the live document
get_active : (w : World) (key : List ℕ) (now : ℕ) → w.state ≡ Active → answer w (calls.Get key) now ≡ answer_get (live w key now)
get_active w key now active = ap (λ (v : VbState). unless (state_refusal v true) (answer_get (live w key now))) active

-- and nothing where the document is gone
gone_answer : (mark now : ℕ) (found : Option Doc) → MayBeGone mark found → answer_get (live_of found now) ≡ answer_get None
gone_answer mark now None gone = refl
gone_answer mark now (Some doc) gone = ap (λ b. answer_get (cond (not b && (doc.expiry == 0 || nat_lt (secs now) doc.expiry)) (Some doc) None)) gone.1

module _ (f : FrontData) (stripe caller now : ℕ) (key : List ℕ) (prior : Option Ticket) (x : StripeData) (legal : IsLegal f) (value-eviction : f.config.eviction ≡ Value) (here : stripe_of key f.config.stripes ≡ stripe)
    (s : StripeStands f stripe x) (priors : PriorsStand f caller (calls.Get key) prior) where
  after_value : (node : NodeData) (value : Option (List ℕ)) → (world_of f).opened ≡ true → (world_of f).state ≡ Active → node_at x.nodes key ≡ Some node → node.value ≡ value
      → AfterRead f stripe caller (calls.Get key) now prior (read_value x prior key now node value)
  after_value node None opened active found is = after_waits f stripe caller now key x legal value-eviction here opened active s prior node (prior_outcome x prior) refl priors found is
  after_value node (Some value) opened active found is =
      let n = s.nodes key node found in
      let v : value ≡ n.doc.value = subst (λ (o : Option (List ℕ)). ValueStands (marked f stripe) n.doc o) is n.value in
      let doc : doc_from node.meta value ≡ n.doc = ap (λ m. doc_from m value) n.meta ∙ ap (λ l. record n.doc { value = l }) v in
      let shown : answer_get (live_of (Some (doc_from node.meta value)) now) ≡ answer (world_of f) (calls.Get key) now =
      ap (λ (d : Doc). answer_get (live_of (Some d) now)) doc ∙ ap (λ (o : Option Doc). answer_get (live_of o now)) (sym n.found) ∙ sym (get_active (world_of f) key now active) in
      after_done f stripe caller now key prior x s (answer_get (live_of (Some (doc_from node.meta value)) now)) opened (ap (λ (a : Answer). a.reply) shown) (ap (λ (a : Answer). a.value) shown)

  after_node : (node : Option NodeData) → (world_of f).opened ≡ true → (world_of f).state ≡ Active → node_at x.nodes key ≡ node → AfterRead f stripe caller (calls.Get key) now prior (read_node x prior key now node)
  after_node None opened active found =
      let shown : answer_get None ≡ answer (world_of f) (calls.Get key) now =
      sym (gone_answer (marked f stripe) now (get (world_of f).docs key) (s.gone opened key here found)) ∙ sym (get_active (world_of f) key now active) in
      after_done f stripe caller now key prior x s (answer_get None) opened (ap (λ (a : Answer). a.reply) shown) (ap (λ (a : Answer). a.value) shown)
  after_node (Some node) opened active found = after_value node node.value opened active found refl

  after_active : (refusal : Option ℕ) → (world_of f).opened ≡ true → state_refusal x.state true ≡ refusal → AfterRead f stripe caller (calls.Get key) now prior (read_active x prior key now refusal)
  after_active None opened is = after_node (node_at x.nodes key) opened (active_is (world_of f).state (ap (λ (v : VbState). state_refusal v true) (sym s.state) ∙ is)) refl
  after_active (Some status) opened is =
      let shown : refused status ≡ answer (world_of f) (calls.Get key) now =
      ap (λ o. unless o (answer_row (world_of f) (calls.Get key) now)) (sym (ap (λ (v : VbState). state_refusal v true) (sym s.state) ∙ is)) in
      after_done f stripe caller now key prior x s (refused status) opened (ap (λ (a : Answer). a.reply) shown) (ap (λ (a : Answer). a.value) shown)

  -- a Get on its stripe comes to what is legal, and leaves a stripe that stands
  pub read_stands : AfterRead f stripe caller (calls.Get key) now prior (read_step x prior key now)
  read_stands = elim x.opened as (λ b. x.opened ≡ b → AfterRead f stripe caller (calls.Get key) now prior (cond b (read_active x prior key now (state_refusal x.state true)) (read_refused x prior causes.Warming))) [
    | true ↦ λ is. after_active (state_refusal x.state true) (sym s.opened ∙ is) refl
    | false ↦ λ is. after_warming f stripe caller now key prior x s (sym s.opened ∙ is)
  ] refl
