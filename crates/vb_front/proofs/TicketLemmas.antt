-- Who waits at a ticket waits for the key of the call that asked there.
use Rattle.std.proofs.Common.{◌≡◌, ℕ, Bool, true, false, List, [], ◌∷◌, ◌++◌, refl, sym, ap, ◌∙◌}
use Rattle.std.specs.Prelude.{Option, Some, None, not, ◌==◌, ◌&&◌, ◌||◌}
use Rattle.std.proofs.lemmas.Slice.Eq.{bytes_eq-Decides}
use Rattle.std.proofs.lemmas.Bool.Decides.{Decides-eqb}
use Rattle.ep_model.specs.declared.event.Ticket.{Ticket}
use Rattle.ep_model.specs.declared.data.CallData.{CallData}
use Rattle.ep_model.specs.declared.data.EventData.{EventData}
use Rattle.ep_model.specs.declared.data.EventData.TheVariants.{Called, Refused, Expired, Persisted, Marked, Asked, ReadFailed, Opened}
use Rattle.ep_model.specs.declared.data.FrontData.{FrontData}
use Rattle.ep_model.specs.World.{World}
use Rattle.ep_model.specs.History.{step}
use Rattle.ep_model.specs.Calls.{key_of}
use Rattle.ep_model.specs.Mutations.{mutation_of}
use Rattle.ep_model.specs.Front.{begun}
use Rattle.ep_model.specs.Legal.{IsLegal}
use Rattle.hold_stage.specs.Waits.{is_on, puts_on, is_ask, waits_in, is_waiting}
use Rattle.hold_stage.proofs.LegalLemmas.{one_asker}
use Rattle.vb_front.proofs.AskLemmas.{and_left, and_right}

-- the key was asked for at the ticket
record IsAskedFor (events : List EventData) (ticket : Ticket) (key : List ℕ) : Type 0 where
  before : List EventData
  later : List EventData
  caller : ℕ
  call : CallData
  asked : events ≡ before ++ Asked ticket caller call ∷ later
  keyed : key_of call ≡ Some key

on_is : (key : List ℕ) (o : Option (List ℕ)) → is_on key o ≡ true → o ≡ Some key
on_is key None is = absurd (cc)
on_is key (Some other) is = ap Some ((bytes_eq-Decides other key).0 is)

ask_is : (ticket : Ticket) (key : List ℕ) (event : EventData) (events : List EventData) → is_ask ticket key event ≡ true
    → IsAskedFor (event ∷ events) ticket key
ask_is ticket key (Called caller call now reply value) events is = absurd (cc)
ask_is ticket key (Refused caller call now cause) events is = absurd (cc)
ask_is ticket key (Expired other now) events is = absurd (cc)
ask_is ticket key (Persisted number) events is = absurd (cc)
ask_is ticket key (Marked stripe number) events is = absurd (cc)
ask_is ticket key (Asked other caller call) events is =
    let tests = and_left (other.stripe == ticket.stripe && other.number == ticket.number) (is_on key (key_of call)) is in
    let s : other.stripe ≡ ticket.stripe = (Decides-eqb other.stripe ticket.stripe).0 (and_left (other.stripe == ticket.stripe) (other.number == ticket.number) tests) in
    let n : other.number ≡ ticket.number = (Decides-eqb other.number ticket.number).0 (and_right (other.stripe == ticket.stripe) (other.number == ticket.number) tests) in
    let same : other ≡ ticket = ap (λ k. record { stripe = k; number = other.number }) s ∙ ap (λ k. record { stripe = ticket.stripe; number = k }) n in
    record {
      before = [];
      later = events;
      caller = caller;
      call = call;
      asked = ap (λ (t : Ticket). Asked t caller call ∷ events) same;
      keyed = on_is key (key_of call) (and_right (other.stripe == ticket.stripe && other.number == ticket.number) (is_on key (key_of call)) is);
    }
ask_is ticket key (ReadFailed other fault) events is = absurd (cc)
ask_is ticket key Opened events is = absurd (cc)

further : (event : EventData) (events : List EventData) (ticket : Ticket) (key : List ℕ) → IsAskedFor events ticket key
    → IsAskedFor (event ∷ events) ticket key
further event events ticket key h = record { before = event ∷ h.before; later = h.later; caller = h.caller; call = h.call; asked = ap (λ (l : List EventData). event ∷ l) h.asked; keyed = h.keyed }

none_true : (b : Bool) → (false && b) ≡ true → ⊥
none_true b is = cc

waits_asked : (ticket : Ticket) (key : List ℕ) (w : World) (events : List EventData)
    → waits_in ticket key false w events ≡ true → IsAskedFor events ticket key
waits_asked ticket key w [] is = absurd (cc)
waits_asked ticket key w (event ∷ events) is =
    elim (is_ask ticket key event) as (λ b. is_ask ticket key event ≡ b → waits_in ticket key (b || (false && not (puts_on key (mutation_of w event)))) (step w event) events ≡ true → IsAskedFor (event ∷ events) ticket key) [
      | true ↦ λ asks rest. ask_is ticket key event events asks
      | false ↦ λ asks rest. further event events ticket key (waits_asked ticket key (step w event) events rest)
    ] refl is

waiting_asked : (f : FrontData) (ticket : Ticket) (key : List ℕ) → is_waiting f ticket key ≡ true
    → IsAskedFor f.events ticket key
unfolding is_waiting
waiting_asked f ticket key is = waits_asked ticket key (begun f) f.events is

-- so a place of a call's ticket is of the call's key
pub same_key : (f : FrontData) (ticket : Ticket) (key other : List ℕ) (caller : ℕ) (call : CallData) (before later : List EventData)
    → IsLegal f → is_waiting f ticket other ≡ true
    → f.events ≡ before ++ Asked ticket caller call ∷ later → key_of call ≡ Some key → other ≡ key
same_key f ticket key other caller call before later legal waits asked keyed =
    let h = waiting_asked f ticket other waits in
    let same : h.call ≡ call = (one_asker f ticket h.caller caller h.call call h.before before h.later later legal h.asked asked).1 in
    let e : Some other ≡ Some key = sym h.keyed ∙ ap key_of same ∙ keyed in
    cc
