-- What is stored, marked and there in a legal history, and what its tickets say.
use Rattle.std.proofs.Common.{◌≡◌, ◌<◌, ◌≤◌, ℕ, Bool, true, false, cond, List, [], ◌∷◌, ◌++◌, refl, sym, ap, subst, arith, append_assoc, append-nil}
use Rattle.std.specs.Prelude.{◌==◌}
use Rattle.std.specs.List.{AllByRecursion}
use Rattle.ep_model.specs.declared.event.Cause.{Cause}
use Rattle.ep_model.specs.declared.event.Ticket.{Ticket}
use Rattle.ep_model.specs.declared.data.CallData.{CallData}
use Rattle.ep_model.specs.declared.data.EventData.{EventData}
use Rattle.ep_model.specs.declared.data.EventData.TheVariants.{Called, Refused, Expired, Persisted, Marked, Asked, ReadFailed, Opened}
use Rattle.ep_model.specs.declared.data.FrontData.{FrontData}
use Rattle.ep_model.specs.World.{World}
use Rattle.ep_model.specs.Answer.{Effect, Nothing, Puts, Sets, apply}
use Rattle.ep_model.specs.History.{call_effect, step, after}
use Rattle.ep_model.specs.Front.{begun, started, world_of, with_event, with_events, mark_after, marked}
use Rattle.ep_model.specs.Legal.{IsUnused, IsBelow, Caused, MayAsk, May, AreLegal, IsLegal}
use Rattle.ep_model.proofs.HistoryLemmas.{legal-front}
use Rattle.hold_stage.specs.Waits.{waits_after, waits_in, is_waiting}
use Rattle.hold_stage.proofs.LaterLemmas.{world_step, more_events, mark_append}
use Rattle.hold_stage.proofs.LegalLemmas.{all_front}
use Rattle.hold_stage.proofs.MutationLemmas.{step_rises}

-- the start is stored, no more is stored than there is, and no more is marked than is stored
pub record Bounds (f : FrontData) : Type 0 where
  pub start : (started f.start).high ≤ (world_of f).persisted
  pub stored : (world_of f).persisted ≤ (world_of f).high
  pub marked : (stripe : ℕ) → marked f stripe ≤ (world_of f).persisted

apply_persisted : (w : World) (effect : Effect) → (apply w effect).persisted ≡ w.persisted
apply_persisted w Nothing = refl
apply_persisted w (Puts key doc) = refl
apply_persisted w (Sets state) = refl

pub marked_step : (f : FrontData) (event : EventData) (stripe : ℕ) → marked (with_event f event) stripe ≡ mark_after stripe (marked f stripe) event
marked_step f event stripe = mark_append stripe (started f.start).high f.events (event ∷ [])

-- the bounds behind one event, whose world and marks are these
bounds_of : (f : FrontData) (event : EventData) (w : World) → world_of (with_event f event) ≡ w → (started f.start).high ≤ w.persisted → w.persisted ≤ w.high → ((stripe : ℕ) → mark_after stripe (marked f stripe) event ≤ w.persisted) → Bounds (with_event f event)
bounds_of f event w is start stored marks = record {
  start = let e = ap (λ (v : World). v.persisted) is in omega arith;
  stored = let e = ap (λ (v : World). v.persisted) is in let h = ap (λ (v : World). v.high) is in omega arith;
  marked = λ stripe. let e = ap (λ (v : World). v.persisted) is in let m = marked_step f event stripe in let h = marks stripe in omega arith;
}

pub bounds_step : (f : FrontData) (event : EventData) → Bounds f → May f event → Bounds (with_event f event)
unfolding May
bounds_step f (Called caller call now reply value) b may =
    let w = world_of f in
    let s = b.start in let t = b.stored in
    let same = apply_persisted w (call_effect w call now reply) in
    let low = (step_rises w (Called caller call now reply value)).low in
    bounds_of f (Called caller call now reply value) (step w (Called caller call now reply value)) (world_step f (Called caller call now reply value)) (omega arith) (omega arith) (λ stripe. let m = b.marked stripe in omega arith)
bounds_step f (Refused caller call now cause) b may = bounds_of f (Refused caller call now cause) (world_of f) (world_step f (Refused caller call now cause)) b.start b.stored b.marked
bounds_step f (Expired key now) b may =
    let w = world_of f in
    let s = b.start in let t = b.stored in
    bounds_of f (Expired key now) (step w (Expired key now)) (world_step f (Expired key now)) (omega arith) (omega arith) (λ stripe. let m = b.marked stripe in omega arith)
bounds_step f (Persisted number) b may =
    let w = world_of f in
    let s = b.start in let t = b.stored in let above = may.above in let within = may.within in
    bounds_of f (Persisted number) (step w (Persisted number)) (world_step f (Persisted number)) (omega arith) (omega arith) (λ stripe. let m = b.marked stripe in omega arith)
bounds_step f (Marked other number) b may =
    bounds_of f (Marked other number) (world_of f) (world_step f (Marked other number)) b.start b.stored (λ stripe. at stripe)
  where
    at : (stripe : ℕ) → mark_after stripe (marked f stripe) (Marked other number) ≤ (world_of f).persisted
    at stripe = elim (other == stripe) as (λ t. cond t number (marked f stripe) ≤ (world_of f).persisted) [ true ↦ may.stored | false ↦ b.marked stripe ]
bounds_step f (Asked ticket caller call) b may = bounds_of f (Asked ticket caller call) (world_of f) (world_step f (Asked ticket caller call)) b.start b.stored b.marked
bounds_step f (ReadFailed ticket fault) b may = bounds_of f (ReadFailed ticket fault) (world_of f) (world_step f (ReadFailed ticket fault)) b.start b.stored b.marked
bounds_step f Opened b may =
    let w = world_of f in
    let s = b.start in let t = b.stored in
    bounds_of f Opened (step w Opened) (world_step f Opened) (omega arith) (omega arith) (λ stripe. let m = b.marked stripe in omega arith)

bounds_along : (f : FrontData) (events : List EventData) → Bounds f → AreLegal f events → Bounds (with_events f events)
unfolding AreLegal
bounds_along f [] b legal = subst (λ (l : List EventData). Bounds (record f { events = l })) (sym (append-nil f.events)) b
bounds_along f (event ∷ events) b legal = subst Bounds (more_events f event events) (bounds_along (with_event f event) events (bounds_step f event b legal.0) legal.1)

-- a legal history is within its bounds
pub legal_bounds : (f : FrontData) → IsLegal f → Bounds f
unfolding IsLegal
legal_bounds f legal = bounds_along (record f { events = [] }) f.events (record { start = omega arith; stored = omega arith; marked = λ stripe. omega arith }) legal

-- who asked at a ticket might
pub asked_may : (f : FrontData) (ticket : Ticket) (caller : ℕ) (call : CallData) (before later : List EventData) → IsLegal f → f.events ≡ before ++ Asked ticket caller call ∷ later → MayAsk (record f { events = before }) ticket call
unfolding May AreLegal
asked_may f ticket caller call before later legal is =
    (legal-front (record f { events = before }) (Asked ticket caller call ∷ later) (subst (λ (l : List EventData). IsLegal (record f { events = l })) is legal)).1.0

all_at : {A : Type 0} (P : A → Type 0) (before later : List A) (x : A) → AllByRecursion P (before ++ x ∷ later) → P x
all_at P [] later x h = h.0
all_at P (y ∷ before) later x h = all_at P before later x h.1

pub all_in : {A : Type 0} (P : A → Type 0) (xs before later : List A) (x : A) → xs ≡ before ++ x ∷ later → AllByRecursion P xs → P x
all_in P xs before later x is all = all_at P before later x (subst (λ l. AllByRecursion P l) is all)

-- a ticket above all that were asked wasn't asked
pub not_asked : (events before later : List EventData) (ticket : Ticket) (caller : ℕ) (call : CallData) → events ≡ before ++ Asked ticket caller call ∷ later → AllByRecursion (IsBelow ticket) events → ⊥
not_asked events before later ticket caller call is all =
    let below : ticket.number < ticket.number = all_in (IsBelow ticket) events before later (Asked ticket caller call) is all refl in absurd (omega arith)

-- and no call was refused for what became of it
unused_event : (f : FrontData) (ticket : Ticket) (event : EventData) → AllByRecursion (IsBelow ticket) f.events → May f event → IsUnused ticket event
unfolding May
unused_event f ticket (Called caller call now reply value) all may = tt
unused_event f ticket (Refused caller call now cause) all may = (
  λ is. let c = subst (λ (k : Cause). Caused f caller call now k) is may in not_asked f.events c.waits.before c.waits.later ticket caller call c.waits.asked all,
  λ is. let c = subst (λ (k : Cause). Caused f caller call now k) is may in not_asked f.events c.waits.before c.waits.later ticket caller call c.waits.asked all,
)
unused_event f ticket (Expired key now) all may = tt
unused_event f ticket (Persisted number) all may = tt
unused_event f ticket (Marked stripe number) all may = tt
unused_event f ticket (Asked other caller call) all may = tt
unused_event f ticket (ReadFailed other fault) all may = tt
unused_event f ticket Opened all may = tt

unused_along : (f : FrontData) (ticket : Ticket) (events : List EventData) → AreLegal f events → AllByRecursion (IsBelow ticket) (f.events ++ events) → AllByRecursion (IsUnused ticket) events
unfolding AreLegal
unused_along f ticket [] legal all = tt
unused_along f ticket (event ∷ events) legal all = (
  unused_event f ticket event (all_front (IsBelow ticket) f.events (event ∷ events) all) legal.0,
  unused_along (with_event f event) ticket events legal.1 (subst (λ (l : List EventData). AllByRecursion (IsBelow ticket) l) (sym (append_assoc f.events (event ∷ []) events)) all),
)

pub fresh_unused : (f : FrontData) (ticket : Ticket) → IsLegal f → AllByRecursion (IsBelow ticket) f.events → AllByRecursion (IsUnused ticket) f.events
unfolding IsLegal
fresh_unused f ticket legal all = unused_along (record f { events = [] }) ticket f.events legal all

-- whether a key waits, one event further
waits_append : (ticket : Ticket) (key : List ℕ) (waits : Bool) (w : World) (xs ys : List EventData) → waits_in ticket key waits w (xs ++ ys) ≡ waits_in ticket key (waits_in ticket key waits w xs) (after w xs) ys
waits_append ticket key waits w [] ys = refl
waits_append ticket key waits w (x ∷ xs) ys = waits_append ticket key (waits_after ticket key waits w x) (step w x) xs ys

pub waiting_step : (f : FrontData) (ticket : Ticket) (key : List ℕ) (event : EventData) → is_waiting (with_event f event) ticket key ≡ waits_after ticket key (is_waiting f ticket key) (world_of f) event
unfolding is_waiting
waiting_step f ticket key event = waits_append ticket key false (begun f) f.events (event ∷ [])
