-- A call that needs what isn't in memory: the place at which it asks, and the places that others leave.
use Rattle.std.proofs.Common.{◌≡◌, ◌≢◌, ℕ, ◌+◌, Bool, true, false, cond, List, [], ◌∷◌, ◌++◌, refl, sym, ap, subst, ◌∙◌, arith, append_assoc}
use Rattle.std.specs.Prelude.{Option, Some, None, ◌==◌, ◌&&◌, not, filter}
use Rattle.std.specs.List.{AllByRecursion}
use Rattle.std.specs.Str.{bytes_eq}
use Rattle.std.proofs.lemmas.Slice.Eq.{bytes_eq-Decides}
use Rattle.std.proofs.lemmas.Bool.Decides.{Decides-eqb}
use Rattle.ep_model.specs.declared.event.Ticket.{Ticket}
use Rattle.ep_model.specs.declared.data.CallData.{CallData}
use Rattle.ep_model.specs.declared.data.EventData.{EventData}
use Rattle.ep_model.specs.declared.data.EventData.TheVariants as events
use Rattle.ep_model.specs.declared.data.FrontData.{FrontData}
use Rattle.ep_model.specs.Stripes.{stripe_of}
use Rattle.ep_model.specs.Calls.{key_of}
use Rattle.ep_model.specs.Front.{with_event}
use Rattle.ep_model.specs.Legal.{IsUnused, IsBelow, May, AreLegal, IsLegal}
use Rattle.hold_stage.specs.Waits.{is_on, is_ask, IsNoRead}
use Rattle.hold_stage.proofs.CallerLemmas.{same_is}
use Rattle.hold_stage.proofs.ViewLemmas.{or_true_left}
use Rattle.hold_stage.proofs.LaterLemmas.{all_append}
use Rattle.hold_stage.proofs.LegalLemmas.{all_front}
use Rattle.hold_stage.proofs.BoundLemmas.{not_asked, fresh_unused, waiting_step}
use Rattle.fetch_book.specs.declared.place.Outcome.{Outcome}
use Rattle.fetch_book.specs.declared.place.Place.{Place}
use Rattle.fetch_book.specs.Places.{is_place_of, is_not_of, place_at, released}
use Rattle.fetch_book.specs.Books.{BookData, next_ticket, asked_place, outcome_of}
use Rattle.vb_front.specs.Stands.{PlaceStands}
use Rattle.vb_front.specs.Waits.{release}

-- a ticket above all that were asked has no failed read
no_read_event : (f : FrontData) (ticket : Ticket) (event : EventData) → AllByRecursion (IsBelow ticket) f.events
    → May f event → IsNoRead ticket event
unfolding May
no_read_event f ticket (events.Called caller call now reply value) all may = tt
no_read_event f ticket (events.Refused caller call now cause) all may = tt
no_read_event f ticket (events.Expired key now) all may = tt
no_read_event f ticket (events.Persisted number) all may = tt
no_read_event f ticket (events.Marked stripe number) all may = tt
no_read_event f ticket (events.Asked other caller call) all may = tt
no_read_event f ticket (events.ReadFailed other fault) all may = λ is.
    not_asked f.events may.asked.before may.asked.later ticket may.asked.caller may.asked.call
    (may.asked.asked ∙ ap (λ (t : Ticket). may.asked.before ++ events.Asked t may.asked.caller may.asked.call ∷ may.asked.later) is) all
no_read_event f ticket events.Opened all may = tt

no_read_along : (f : FrontData) (ticket : Ticket) (list : List EventData) → AreLegal f list
    → AllByRecursion (IsBelow ticket) (f.events ++ list) → AllByRecursion (IsNoRead ticket) list
unfolding AreLegal
no_read_along f ticket [] legal all = tt
no_read_along f ticket (event ∷ list) legal all = (
  no_read_event f ticket event (all_front (IsBelow ticket) f.events (event ∷ list) all) legal.0,
  no_read_along (with_event f event) ticket list legal.1 (subst (λ (l : List EventData). AllByRecursion (IsBelow ticket) l) (sym (append_assoc f.events (event ∷ []) list)) all),
)

pub fresh_no_read : (f : FrontData) (ticket : Ticket) → IsLegal f → AllByRecursion (IsBelow ticket) f.events
    → AllByRecursion (IsNoRead ticket) f.events
unfolding IsLegal
fresh_no_read f ticket legal all = no_read_along (record f { events = [] }) ticket f.events legal all

-- what stands of all stands of those that pass a test, and they pass it
pub all_filter : {A : Type 0} (P : A → Type 0) (test : A → Bool) (xs : List A) → AllByRecursion P xs
    → AllByRecursion (λ x. P x × (test x ≡ true)) (filter test xs)
all_filter P test [] h = tt
all_filter P test (x ∷ xs) h =
    elim (test x) as (λ b. test x ≡ b → AllByRecursion (λ y. P y × (test y ≡ true)) (cond b (x ∷ filter test xs) (filter test xs))) [
      | true ↦ λ is. ((h.0, is), all_filter P test xs h.1)
      | false ↦ λ is. all_filter P test xs h.1
    ] refl

pub all_map : {A : Type 0} (P Q : A → Type 0) (xs : List A) → ((x : A) → P x → Q x) → AllByRecursion P xs
    → AllByRecursion Q xs
all_map P Q [] g h = tt
all_map P Q (x ∷ xs) g h = (g x h.0, all_map P Q xs g h.1)

pub all_of : {A : Type 0} (P : A → Type 0) (xs : List A) → ((x : A) → P x) → AllByRecursion P xs
all_of P [] g = tt
all_of P (x ∷ xs) g = (g x, all_of P xs g)

pub and_left : (a b : Bool) → (a && b) ≡ true → a ≡ true
and_left true b is = refl
and_left false b is = absurd (cc)

pub and_right : (a b : Bool) → (a && b) ≡ true → b ≡ true
and_right true b is = is
and_right false b is = absurd (cc)

pub not_true : (b : Bool) → not b ≡ true → b ≡ false
not_true true is = absurd (cc)
not_true false is = refl

-- tickets are the same where their numbers and stripes are
pub ticket_is : (a b : Ticket) → (a.number == b.number && a.stripe == b.stripe) ≡ true → a ≡ b
ticket_is a b is =
    let n : a.number ≡ b.number = (Decides-eqb a.number b.number).0 (and_left (a.number == b.number) (a.stripe == b.stripe) is) in
    let s : a.stripe ≡ b.stripe = (Decides-eqb a.stripe b.stripe).0 (and_right (a.number == b.number) (a.stripe == b.stripe) is) in
    ap (λ k. record { stripe = k; number = a.number }) s ∙ ap (λ k. record { stripe = b.stripe; number = k }) n

pub ticket_same : (a b : Ticket) → a ≡ b → (a.number == b.number && a.stripe == b.stripe) ≡ true
ticket_same a b is = subst (λ (t : Ticket). (a.number == t.number && a.stripe == t.stripe) ≡ true) is (ap (λ t. t && (a.stripe == a.stripe)) (same_is a.number) ∙ same_is a.stripe)

-- a place that is left when one is released is of another ticket
pub other_ticket : (ticket : Ticket) (place : Place) → is_not_of ticket place ≡ true → ticket ≢ place.ticket
other_ticket ticket place test is = absurd (let e = ticket_same place.ticket ticket (sym is) in let n = not_true (is_place_of ticket place) test in cc)

-- the places that are left
pub released_all : (P : Place → Type 0) (book : BookData) (prior : Option Ticket) → AllByRecursion P book.places
    → AllByRecursion P (release book prior).places
released_all P book None h = h
released_all P book (Some ticket) h = all_map (λ (p : Place). P p × (is_not_of ticket p ≡ true)) P (released book.places ticket) (λ p q. q.0) (all_filter P (is_not_of ticket) book.places h)

pub released_none : (book : BookData) (prior : Option Ticket) → book.places ≡ [] → (release book prior).places ≡ []
released_none book None is = is
released_none book (Some ticket) is = ap (λ (l : List Place). released l ticket) is

pub release_stripe : (book : BookData) (prior : Option Ticket) → (release book prior).stripe ≡ book.stripe
release_stripe book None = refl
release_stripe book (Some ticket) = refl

pub release_next : (book : BookData) (prior : Option Ticket) → (release book prior).next ≡ book.next
release_next book None = refl
release_next book (Some ticket) = refl

-- the place of a ticket, with what is known of all places
pub found_place : (P : Place → Type 0) (places : List Place) (ticket : Ticket) (outcome : Outcome)
    → outcome_of (place_at places ticket) ≡ Some outcome → AllByRecursion P places
    → (place : Place) × (place.ticket ≡ ticket) × (place.outcome ≡ outcome) × P place
found_place P [] ticket outcome is all = absurd (cc)
found_place P (place ∷ places) ticket outcome is all =
    elim (is_place_of ticket place) as (λ b. is_place_of ticket place ≡ b → outcome_of (cond b (Some place) (place_at places ticket)) ≡ Some outcome → (p : Place) × (p.ticket ≡ ticket) × (p.outcome ≡ outcome) × P p) [
      | true ↦ λ t e. (place, ticket_is place.ticket ticket t, (let h : place.outcome ≡ outcome = cc in h), all.0)
      | false ↦ λ t e. found_place P places ticket outcome e all.1
    ] refl is

-- tickets below the next one are below the one after it
below_next : (stripe number : ℕ) (event : EventData) → IsBelow (record { stripe = stripe; number = number }) event
    → IsBelow (record { stripe = stripe; number = number + 1 }) event
below_next stripe number (events.Called caller call now reply value) h = tt
below_next stripe number (events.Refused caller call now cause) h = tt
below_next stripe number (events.Expired key now) h = tt
below_next stripe number (events.Persisted n) h = tt
below_next stripe number (events.Marked other n) h = tt
below_next stripe number (events.Asked other caller call) h = λ is. let b = h is in omega arith
below_next stripe number (events.ReadFailed other fault) h = tt
below_next stripe number events.Opened h = tt

pub below_asked : (f : FrontData) (stripe number caller : ℕ) (call : CallData)
    → AllByRecursion (IsBelow (record { stripe = stripe; number = number })) f.events
    → AllByRecursion (IsBelow (record { stripe = stripe; number = number + 1 })) (with_event f (events.Asked (record { stripe = stripe; number = number }) caller call)).events
below_asked f stripe number caller call below =
    all_append (IsBelow (record { stripe = stripe; number = number + 1 })) f.events (events.Asked (record { stripe = stripe; number = number }) caller call ∷ [])
    (all_map (IsBelow (record { stripe = stripe; number = number })) (IsBelow (record { stripe = stripe; number = number + 1 })) f.events (below_next stripe number) below) ((λ is. omega arith), tt)

-- the new place of an ask stands
pub new_place : (f : FrontData) (stripe caller : ℕ) (call : CallData) (key : List ℕ) (book : BookData) → IsLegal f
    → key_of call ≡ Some key → stripe_of key f.config.stripes ≡ stripe → book.stripe ≡ stripe
    → AllByRecursion (IsBelow (next_ticket book)) f.events → PlaceStands (with_event f (events.Asked (next_ticket book) caller call)) stripe (asked_place book key)
new_place f stripe caller call key book legal keyed here home below =
    let ticket = next_ticket book in
    let event = events.Asked ticket caller call in
    let asks : is_ask ticket key event ≡ true =
    ap (λ (o : Option (List ℕ)). (ticket.stripe == ticket.stripe && ticket.number == ticket.number) && is_on key o) keyed
    ∙ ap (λ b. (b && (ticket.number == ticket.number)) && bytes_eq key key) (same_is ticket.stripe) ∙ ap (λ b. b && bytes_eq key key) (same_is ticket.number) ∙ (bytes_eq-Decides key key).1 refl in
    record {
      home = home;
      here = here;
      waiting = waiting_step f ticket key event ∙ or_true_left (is_ask ticket key event) _ asks;
      unused = all_append (IsUnused ticket) f.events (event ∷ []) (fresh_unused f ticket legal below) (tt, tt);
      outcome = all_append (IsNoRead ticket) f.events (event ∷ []) (fresh_no_read f ticket legal below) (tt, tt);
      shown = λ told. tt;
    }
