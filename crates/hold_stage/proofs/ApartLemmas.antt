-- What an event leaves that doesn't touch a part: documents and who waits for them, the queue's numbers, what is stored.
use Rattle.std.proofs.Common.{◌≡◌, ◌≢◌, ℕ, true, false, List, [], ◌∷◌, ◌++◌, refl, sym, ap, subst, ◌∙◌, append-nil}
use Rattle.std.specs.Prelude.{Option, Some, None, ◌==◌, ◌||◌, ◌&&◌, not, nat_lt, option_to_list}
use Rattle.std.specs.Str.{bytes_eq}
use Rattle.std.proofs.lemmas.Slice.Eq.{bytes_eq-Decides}
use Rattle.ep_model.specs.declared.event.Cause.{Cause}
use Rattle.ep_model.specs.declared.event.PartName.TheVariants.{Stripe, Queue, Desk}
use Rattle.ep_model.specs.declared.event.Ticket.{Ticket}
use Rattle.ep_model.specs.declared.config.Config.{Config}
use Rattle.ep_model.specs.declared.data.CallData.{CallData}
use Rattle.ep_model.specs.declared.data.EventData.{EventData}
use Rattle.ep_model.specs.declared.data.EventData.TheVariants.{Called, Refused, Expired, Persisted, Marked, Asked, ReadFailed, Opened}
use Rattle.ep_model.specs.declared.data.FrontData.{FrontData}
use Rattle.ep_model.specs.World.{Doc, World}
use Rattle.ep_model.specs.Stripes.{stripe_of}
use Rattle.ep_model.specs.Answer.{Effect, Nothing, Puts, Sets, apply}
use Rattle.ep_model.specs.History.{call_effect, step}
use Rattle.ep_model.specs.Front.{begun, world_of, with_event}
use Rattle.ep_model.specs.Legal.{IsUnused, HasFailedRead, Caused, May, IsLegal}
use Rattle.ep_model.specs.Mutations.{put_by, mutation_of, mutations}
use Rattle.ep_model.proofs.EffectLemmas.{IsDone, call_done}
use Rattle.hold_stage.specs.Touches.{touches_call, touches}
use Rattle.hold_stage.specs.Waits.{puts_on, is_ask, is_waiting, IsNoRead}
use Rattle.hold_stage.proofs.ViewLemmas.{SameStripe, SameQueue, frame_step, step_stripe, step_queue, written_touches, touches_keyed, not_same, or_left, or_true_right}
use Rattle.hold_stage.proofs.LaterLemmas.{world_step, persisted_apply}
use Rattle.hold_stage.proofs.LegalLemmas.{has_more}
use Rattle.hold_stage.proofs.BoundLemmas.{asked_may, waiting_step}
use Rattle.hold_stage.proofs.MutationLemmas.{mutations_append}

-- a document of another stripe isn't this key's
puts_apart : (config : Config) (stripe : ℕ) (w : World) (call : CallData) (now : ℕ) (key : List ℕ) (effect : Effect) → stripe_of key config.stripes ≡ stripe → touches_call config call (Stripe stripe) ≡ false → IsDone w call now effect → puts_on key (put_by effect) ≡ false
puts_apart config stripe w call now key Nothing here apart done = refl
puts_apart config stripe w call now key (Puts k doc) here apart done =
    let test : (stripe == stripe_of k config.stripes || false) ≡ false = sym (written_touches config call k (Stripe stripe) done.0) ∙ apart in
    elim (bytes_eq k key) as (λ b. bytes_eq k key ≡ b → b ≡ false) [
      | true ↦ λ is. absurd (not_same stripe (stripe_of k config.stripes) (or_left _ _ test) (sym (ap (λ (l : List ℕ). stripe_of l config.stripes) ((bytes_eq-Decides k key).0 is) ∙ here)))
      | false ↦ λ is. refl
    ] refl
puts_apart config stripe w call now key (Sets state) here apart done = refl

-- an event that doesn't touch the stripe of a key doesn't change its document
pub put_apart : (f : FrontData) (stripe : ℕ) (w : World) (event : EventData) (key : List ℕ) → nat_lt stripe f.config.stripes ≡ true → stripe_of key f.config.stripes ≡ stripe → touches f event (Stripe stripe) ≡ false → puts_on key (mutation_of w event) ≡ false
unfolding touches
put_apart f stripe w (Called caller call now reply value) key there here apart = puts_apart f.config stripe w call now key (call_effect w call now reply) here apart (call_done w call now reply)
put_apart f stripe w (Refused caller call now cause) key there here apart = refl
put_apart f stripe w (Expired other now) key there here apart =
    elim (bytes_eq other key) as (λ b. bytes_eq other key ≡ b → b ≡ false) [
      | true ↦ λ is. absurd (not_same stripe (stripe_of other f.config.stripes) (or_left _ _ apart) (sym (ap (λ (l : List ℕ). stripe_of l f.config.stripes) ((bytes_eq-Decides other key).0 is) ∙ here)))
      | false ↦ λ is. refl
    ] refl
put_apart f stripe w (Persisted number) key there here apart = refl
put_apart f stripe w (Marked other number) key there here apart = refl
put_apart f stripe w (Asked ticket caller call) key there here apart = refl
put_apart f stripe w (ReadFailed ticket fault) key there here apart = refl
put_apart f stripe w Opened key there here apart = refl

-- a call that asked at a ticket touches the ticket's stripe
pub asked_touches : (f : FrontData) (ticket : Ticket) (caller : ℕ) (call : CallData) (before later : List EventData) → IsLegal f → f.events ≡ before ++ Asked ticket caller call ∷ later → touches_call f.config call (Stripe ticket.stripe) ≡ true
asked_touches f ticket caller call before later legal is =
    let m = asked_may f ticket caller call before later legal is in
    subst (λ n. touches_call f.config call (Stripe n) ≡ true) (sym m.here) (touches_keyed f.config call m.key m.keyed)

-- so an event elsewhere refuses no call for what became of it, and tells of no failed read for it
pub unused_apart : (f : FrontData) (ticket : Ticket) (event : EventData) → IsLegal f → May f event → touches f event (Stripe ticket.stripe) ≡ false → IsUnused ticket event
unfolding May touches
unused_apart f ticket (Called caller call now reply value) legal may apart = tt
unused_apart f ticket (Refused caller call now cause) legal may apart = (
  λ is.
      let c = subst (λ (k : Cause). Caused f caller call now k) is may in
      let t = asked_touches f ticket caller call c.waits.before c.waits.later legal c.waits.asked in cc,
  λ is.
      let c = subst (λ (k : Cause). Caused f caller call now k) is may in
      let t = asked_touches f ticket caller call c.waits.before c.waits.later legal c.waits.asked in cc,
)
unused_apart f ticket (Expired key now) legal may apart = tt
unused_apart f ticket (Persisted number) legal may apart = tt
unused_apart f ticket (Marked stripe number) legal may apart = tt
unused_apart f ticket (Asked other caller call) legal may apart = tt
unused_apart f ticket (ReadFailed other fault) legal may apart = tt
unused_apart f ticket Opened legal may apart = tt

pub no_read_apart : (f : FrontData) (ticket : Ticket) (event : EventData) → touches f event (Stripe ticket.stripe) ≡ false → IsNoRead ticket event
unfolding touches
no_read_apart f ticket (Called caller call now reply value) apart = tt
no_read_apart f ticket (Refused caller call now cause) apart = tt
no_read_apart f ticket (Expired key now) apart = tt
no_read_apart f ticket (Persisted number) apart = tt
no_read_apart f ticket (Marked stripe number) apart = tt
no_read_apart f ticket (Asked other caller call) apart = tt
no_read_apart f ticket (ReadFailed other fault) apart = λ is. not_same ticket.stripe other.stripe (or_left _ _ apart) (ap (λ (t : Ticket). t.stripe) (sym is))
no_read_apart f ticket Opened apart = tt

pub has_failed_later : (f : FrontData) (ticket : Ticket) (fault : ℕ) (event : EventData) → HasFailedRead f.events ticket fault → HasFailedRead (with_event f event).events ticket fault
has_failed_later f ticket fault event h = record { before = h.before; later = h.later ++ event ∷ []; failed = has_more f.events h.before h.later (ReadFailed ticket fault) event h.failed }

-- a document that waits goes on waiting while it isn't put
pub waiting_later : (f : FrontData) (ticket : Ticket) (key : List ℕ) (event : EventData) → puts_on key (mutation_of (world_of f) event) ≡ false → is_waiting f ticket key ≡ true → is_waiting (with_event f event) ticket key ≡ true
waiting_later f ticket key event apart waits =
    waiting_step f ticket key event
    ∙ ap (λ b. is_ask ticket key event || (b && not (puts_on key (mutation_of (world_of f) event)))) waits
    ∙ ap (λ b. is_ask ticket key event || not b) apart
    ∙ or_true_right (is_ask ticket key event) true refl

pub world_stripe : (f : FrontData) (stripe : ℕ) (event : EventData) → nat_lt stripe f.config.stripes ≡ true → touches f event (Stripe stripe) ≡ false → SameStripe f.config.stripes stripe (world_of f) (world_of (with_event f event))
world_stripe f stripe event there apart = subst (λ (w : World). SameStripe f.config.stripes stripe (world_of f) w) (sym (world_step f event)) (step_stripe f stripe (world_of f) event there apart)

pub world_queue : (f : FrontData) (event : EventData) → touches f event Queue ≡ false → SameQueue (world_of f) (world_of (with_event f event))
world_queue f event apart = subst (λ (w : World). SameQueue (world_of f) w) (sym (world_step f event)) (step_queue f (world_of f) event apart)

-- the mutations with one event more
pub mutations_step : (f : FrontData) (event : EventData) → mutations (begun f) (with_event f event).events ≡ mutations (begun f) f.events ++ option_to_list (mutation_of (world_of f) event)
mutations_step f event =
    mutations_append (begun f) f.events (event ∷ []) ∙ ap (λ (l : List (List ℕ × Doc)). mutations (begun f) f.events ++ l) (append-nil (option_to_list (mutation_of (world_of f) event)))

-- no event changes the failover table
pub same_table : (f : FrontData) (event : EventData) → (world_of (with_event f event)).failovers ≡ (world_of f).failovers
same_table f event = ap (λ (w : World). w.failovers) (world_step f event) ∙ (frame_step (world_of f) event).failovers

step_desk : (f : FrontData) (w : World) (event : EventData) → touches f event Desk ≡ false → (step w event).persisted ≡ w.persisted
unfolding touches
step_desk f w (Called caller call now reply value) apart = persisted_apply w (call_effect w call now reply)
step_desk f w (Refused caller call now cause) apart = refl
step_desk f w (Expired key now) apart = refl
step_desk f w (Persisted number) apart = absurd (cc)
step_desk f w (Marked stripe number) apart = refl
step_desk f w (Asked ticket caller call) apart = refl
step_desk f w (ReadFailed ticket fault) apart = refl
step_desk f w Opened apart = refl

-- an event that doesn't touch the desk leaves what is persisted
pub desk_keeps : (f : FrontData) (event : EventData) (number : ℕ) → touches f event Desk ≡ false → number ≡ (world_of f).persisted → number ≡ (world_of (with_event f event)).persisted
desk_keeps f event number apart is = is ∙ sym (ap (λ (w : World). w.persisted) (world_step f event) ∙ step_desk f (world_of f) event apart)
