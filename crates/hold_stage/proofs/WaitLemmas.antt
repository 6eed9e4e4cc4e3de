-- What is known of a document that somebody waits for: it was asked for once, and it is stored.
use Rattle.std.proofs.Common.{◌≡◌, ◌≤◌, ℕ, Bool, true, false, List, [], ◌∷◌, ◌++◌, refl, sym, ap, subst, ◌∙◌, arith, append-nil}
use Rattle.std.specs.Prelude.{Option, Some, None, ◌==◌, ◌||◌, ◌&&◌, not}
use Rattle.std.specs.FinMap.{get}
use Rattle.std.proofs.lemmas.Slice.Eq.{bytes_eq-Decides}
use Rattle.std.proofs.lemmas.Bool.Decides.{Decides-eqb}
use Rattle.ep_model.specs.declared.config.Eviction.{Eviction}
use Rattle.ep_model.specs.declared.config.Eviction.TheVariants.{Value}
use Rattle.ep_model.specs.declared.event.Ticket.{Ticket}
use Rattle.ep_model.specs.declared.data.CallData.{CallData}
use Rattle.ep_model.specs.declared.data.EventData.{EventData}
use Rattle.ep_model.specs.declared.data.EventData.TheVariants.{Called, Refused, Expired, Persisted, Marked, Asked, ReadFailed, Opened}
use Rattle.ep_model.specs.declared.data.FrontData.{FrontData}
use Rattle.ep_model.specs.World.{Doc, Docs, World}
use Rattle.ep_model.specs.History.{step}
use Rattle.ep_model.specs.Calls.{key_of}
use Rattle.ep_model.specs.Front.{begun, world_of, with_event, with_events, marked}
use Rattle.ep_model.specs.Legal.{HasAsked, IsAway, May, AreLegal, IsLegal}
use Rattle.ep_model.proofs.ReadBackLemmas.{get-put_other}
use Rattle.ep_model.specs.Mutations.{mutation_of}
use Rattle.hold_stage.specs.Waits.{is_on, puts_on, is_ask, waits_after, waits_in, is_waiting}
use Rattle.hold_stage.proofs.ViewLemmas.{frame_after}
use Rattle.hold_stage.proofs.LaterLemmas.{same_told, world_step, more_events}
use Rattle.hold_stage.proofs.LegalLemmas.{has_more}
use Rattle.hold_stage.proofs.BoundLemmas.{marked_step}
use Rattle.hold_stage.proofs.MutationLemmas.{IsPut, step_is_put}
use Rattle.hold_stage.proofs.RisesLemmas.{marked_rises}

-- an event that doesn't put a key's document leaves it
docs_put : (v w : World) (p : Option (List ℕ × Doc)) (key : List ℕ) → IsPut v w p → puts_on key p ≡ false → get w.docs key ≡ get v.docs key
docs_put v w None key put apart = ap (λ (d : Docs). get d key) put.docs
docs_put v w (Some p) key put apart =
    ap (λ (d : Docs). get d key) put.0 ∙ get-put_other v p.0 key p.1 (λ e. absurd (let s = (bytes_eq-Decides p.0 key).1 (sym e) in cc))

pub docs_apart : (f : FrontData) (event : EventData) (key : List ℕ) → puts_on key (mutation_of (world_of f) event) ≡ false → get (world_of (with_event f event)).docs key ≡ get (world_of f).docs key
docs_apart f event key apart =
    ap (λ (w : World). get w.docs key) (world_step f event) ∙ docs_put (world_of f) (step (world_of f) event) (mutation_of (world_of f) event) key (step_is_put (world_of f) event) apart

-- The document of a key that waits stands, is stored, and was asked for at the ticket.
pub record IsLow (f : FrontData) (ticket : Ticket) (key : List ℕ) : Type 0 where
  pub doc : Doc
  pub found : get (world_of f).docs key ≡ Some doc
  pub low : doc.seqno ≤ marked f ticket.stripe
  pub stays : doc.deleted ≡ false
  pub before : List EventData
  pub later : List EventData
  pub caller : ℕ
  pub call : CallData
  pub asked : f.events ≡ before ++ Asked ticket caller call ∷ later
  pub keyed : key_of call ≡ Some key

pub and_left : (a b : Bool) → (a && b) ≡ true → a ≡ true
and_left true b is = refl
and_left false b is = absurd (cc)

pub and_right : (a b : Bool) → (a && b) ≡ true → b ≡ true
and_right true b is = is
and_right false b is = absurd (cc)

pub not_true : (b : Bool) → not b ≡ true → b ≡ false
not_true true is = absurd (cc)
not_true false is = refl

on_is : (key : List ℕ) (o : Option (List ℕ)) → is_on key o ≡ true → o ≡ Some key
on_is key None is = absurd (cc)
on_is key (Some other) is = ap Some ((bytes_eq-Decides other key).0 is)

away_low : (mark : ℕ) (found : Option Doc) → IsAway Value mark found → (doc : Doc) × (found ≡ Some doc) × (doc.seqno ≤ mark) × (doc.deleted ≡ false)
away_low mark None away = absurd away
away_low mark (Some doc) away = (doc, refl, away.0, away.1)

same_ticket : (a b : Ticket) → a.stripe ≡ b.stripe → a.number ≡ b.number → a ≡ b
same_ticket a b s n = ap (λ k. record { stripe = k; number = a.number }) s ∙ ap (λ k. record { stripe = b.stripe; number = k }) n

-- an ask for the key at the ticket
is_that_ask : (ticket other : Ticket) (key : List ℕ) (call : CallData) → ((other.stripe == ticket.stripe && other.number == ticket.number) && is_on key (key_of call)) ≡ true → (other ≡ ticket) × (key_of call ≡ Some key)
is_that_ask ticket other key call is =
    let tests = and_left (other.stripe == ticket.stripe && other.number == ticket.number) (is_on key (key_of call)) is in (
      same_ticket other ticket ((Decides-eqb other.stripe ticket.stripe).0 (and_left _ (other.number == ticket.number) tests)) ((Decides-eqb other.number ticket.number).0 (and_right (other.stripe == ticket.stripe) _ tests)),
      on_is key (key_of call) (and_right (other.stripe == ticket.stripe && other.number == ticket.number) _ is),
    )

-- who waits at a ticket asked there, by a call on the key
pub record AskedFor (events : List EventData) (ticket : Ticket) (key : List ℕ) : Type 0 where
  pub asked : HasAsked events ticket
  pub keyed : key_of asked.call ≡ Some key

asked_for : (f : FrontData) (ticket : Ticket) (key : List ℕ) (event : EventData) → is_ask ticket key event ≡ true → AskedFor (with_event f event).events ticket key
asked_for f ticket key (Called caller call now reply value) is = absurd (cc)
asked_for f ticket key (Refused caller call now cause) is = absurd (cc)
asked_for f ticket key (Expired other now) is = absurd (cc)
asked_for f ticket key (Persisted number) is = absurd (cc)
asked_for f ticket key (Marked stripe number) is = absurd (cc)
asked_for f ticket key (Asked other caller call) is =
    let that = is_that_ask ticket other key call is in
    record {
      asked = record { before = f.events; later = []; caller = caller; call = call; asked = ap (λ (t : Ticket). f.events ++ Asked t caller call ∷ []) that.0 };
      keyed = that.1;
    }
asked_for f ticket key (ReadFailed other fault) is = absurd (cc)
asked_for f ticket key Opened is = absurd (cc)

pub asked_for_later : (f : FrontData) (ticket : Ticket) (key : List ℕ) (event : EventData) → AskedFor f.events ticket key → AskedFor (with_event f event).events ticket key
asked_for_later f ticket key event a = record {
  asked = record { before = a.asked.before; later = a.asked.later ++ event ∷ []; caller = a.asked.caller; call = a.asked.call; asked = has_more f.events a.asked.before a.asked.later (Asked ticket a.asked.caller a.asked.call) event a.asked.asked };
  keyed = a.keyed;
}

asked_for_step : (f : FrontData) (ticket : Ticket) (key : List ℕ) (event : EventData) (waits : Bool) → (waits ≡ true → AskedFor f.events ticket key) → waits_after ticket key waits (world_of f) event ≡ true → AskedFor (with_event f event).events ticket key
asked_for_step f ticket key event waits asked is =
    elim (is_ask ticket key event) as (λ b. is_ask ticket key event ≡ b → (b || (waits && not (puts_on key (mutation_of (world_of f) event)))) ≡ true → AskedFor (with_event f event).events ticket key) [
      | true ↦ λ asks _. asked_for f ticket key event asks
      | false ↦ λ _ both. asked_for_later f ticket key event (asked (and_left waits (not (puts_on key (mutation_of (world_of f) event))) both))
    ] refl is

asked_for_along : (f : FrontData) (ticket : Ticket) (key : List ℕ) (events : List EventData) (waits : Bool) → (waits ≡ true → AskedFor f.events ticket key) → waits_in ticket key waits (world_of f) events ≡ true → AskedFor (with_events f events).events ticket key
asked_for_along f ticket key [] waits asked is = subst (λ (l : List EventData). AskedFor l ticket key) (sym (append-nil f.events)) (asked is)
asked_for_along f ticket key (event ∷ events) waits asked is =
    subst (λ (g : FrontData). AskedFor g.events ticket key) (more_events f event events) (
    asked_for_along (with_event f event) ticket key events (waits_after ticket key waits (world_of f) event) (λ on. asked_for_step f ticket key event waits asked on)
    (ap (λ (w : World). waits_in ticket key (waits_after ticket key waits (world_of f) event) w events) (world_step f event) ∙ is)
    )

pub waiting_asked : (f : FrontData) (ticket : Ticket) (key : List ℕ) → is_waiting f ticket key ≡ true → AskedFor f.events ticket key
unfolding is_waiting
waiting_asked f ticket key is = asked_for_along (record f { events = [] }) ticket key f.events false (λ no-wait. absurd (cc)) is

-- the ask itself
low_asked : (f : FrontData) (ticket : Ticket) (key : List ℕ) (event : EventData) → (world_of f).told ≡ true → f.config.eviction ≡ Value → May f event → is_ask ticket key event ≡ true → IsLow (with_event f event) ticket key
unfolding May
low_asked f ticket key (Called caller call now reply value) told eviction may is = absurd (cc)
low_asked f ticket key (Refused caller call now cause) told eviction may is = absurd (cc)
low_asked f ticket key (Expired other now) told eviction may is = absurd (cc)
low_asked f ticket key (Persisted number) told eviction may is = absurd (cc)
low_asked f ticket key (Marked stripe number) told eviction may is = absurd (cc)
low_asked f ticket key (Asked other caller call) told eviction may is =
    let that = is_that_ask ticket other key call is in
    let same : other ≡ ticket = that.0 in
    let keyed : key_of call ≡ Some key = that.1 in
    let k : may.key ≡ key = (let e = sym may.keyed ∙ keyed in cc) in
    let a = away_low (marked f other.stripe) (get (world_of f).docs may.key) (subst (λ (e : Eviction). IsAway e (marked f other.stripe) (get (world_of f).docs may.key)) eviction (may.away told)) in
    record {
      doc = a.0;
      found = ap (λ (w : World). get w.docs key) (world_step f (Asked other caller call)) ∙ ap (λ (l : List ℕ). get (world_of f).docs l) (sym k) ∙ a.1;
      low = let m = marked_step f (Asked other caller call) ticket.stripe in let s = ap (λ (t : Ticket). marked f t.stripe) same in let h = a.2 in omega arith;
      stays = a.3;
      before = f.events;
      later = [];
      caller = caller;
      call = call;
      asked = ap (λ (t : Ticket). f.events ++ Asked t caller call ∷ []) same;
      keyed = keyed;
    }
low_asked f ticket key (ReadFailed other fault) told eviction may is = absurd (cc)
low_asked f ticket key Opened told eviction may is = absurd (cc)

low_later : (f : FrontData) (ticket : Ticket) (key : List ℕ) (event : EventData) → May f event → puts_on key (mutation_of (world_of f) event) ≡ false → IsLow f ticket key → IsLow (with_event f event) ticket key
low_later f ticket key event may apart l = record {
  doc = l.doc;
  found = docs_apart f event key apart ∙ l.found;
  low = let a = marked_rises f event ticket.stripe may in let b = l.low in omega arith;
  stays = l.stays;
  before = l.before;
  later = l.later ++ event ∷ [];
  caller = l.caller;
  call = l.call;
  asked = has_more f.events l.before l.later (Asked ticket l.caller l.call) event l.asked;
  keyed = l.keyed;
}

low_step : (f : FrontData) (ticket : Ticket) (key : List ℕ) (event : EventData) (waits : Bool) → (world_of f).told ≡ true → f.config.eviction ≡ Value → May f event → (waits ≡ true → IsLow f ticket key) → waits_after ticket key waits (world_of f) event ≡ true → IsLow (with_event f event) ticket key
low_step f ticket key event waits told eviction may low is =
    elim (is_ask ticket key event) as (λ b. is_ask ticket key event ≡ b → (b || (waits && not (puts_on key (mutation_of (world_of f) event)))) ≡ true → IsLow (with_event f event) ticket key) [
      | true ↦ λ asks _. low_asked f ticket key event told eviction may asks
      | false ↦ λ _ both. low_later f ticket key event may (not_true _ (and_right waits (not (puts_on key (mutation_of (world_of f) event))) both)) (low (and_left waits (not (puts_on key (mutation_of (world_of f) event))) both))
    ] refl is

low_along : (f : FrontData) (ticket : Ticket) (key : List ℕ) (events : List EventData) (waits : Bool) → (world_of f).told ≡ true → f.config.eviction ≡ Value → AreLegal f events → (waits ≡ true → IsLow f ticket key) → waits_in ticket key waits (world_of f) events ≡ true → IsLow (with_events f events) ticket key
unfolding AreLegal
low_along f ticket key [] waits told eviction legal low is = subst (λ (l : List EventData). IsLow (record f { events = l }) ticket key) (sym (append-nil f.events)) (low is)
low_along f ticket key (event ∷ events) waits told eviction legal low is =
    subst (λ (g : FrontData). IsLow g ticket key) (more_events f event events) (
    low_along (with_event f event) ticket key events (waits_after ticket key waits (world_of f) event) (same_told f event ∙ told) eviction legal.1 (λ on. low_step f ticket key event waits told eviction legal.0 low on)
    (ap (λ (w : World). waits_in ticket key (waits_after ticket key waits (world_of f) event) w events) (world_step f event) ∙ is)
    )

-- under value eviction
pub waiting_low : (f : FrontData) (ticket : Ticket) (key : List ℕ) → (world_of f).told ≡ true → IsLegal f → f.config.eviction ≡ Value → is_waiting f ticket key ≡ true → IsLow f ticket key
unfolding IsLegal is_waiting
waiting_low f ticket key told legal eviction is = low_along (record f { events = [] }) ticket key f.events false (sym (frame_after (begun f) f.events).told ∙ told) eviction legal (λ no-wait. absurd (cc)) is
