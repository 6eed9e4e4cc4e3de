-- What quiet events leave, and that an event stays legal behind them.
use Rattle.std.proofs.Common.{◌≡◌, ◌≤◌, ℕ, Bool, true, false, List, [], ◌∷◌, ◌++◌, refl, sym, ap, subst, ◌∙◌, arith, append_assoc}
use Rattle.std.specs.Prelude.{nat_lt}
use Rattle.std.specs.List.{AllByRecursion}
use Rattle.ep_model.specs.declared.event.PartName.{PartName}
use Rattle.ep_model.specs.declared.event.PartName.TheVariants.{Stripe, Queue, Desk}
use Rattle.ep_model.specs.declared.event.Ticket.{Ticket}
use Rattle.ep_model.specs.declared.data.EventData.{EventData}
use Rattle.ep_model.specs.declared.data.EventData.TheVariants.{Called, Refused, Expired, Persisted, Marked, Asked, ReadFailed, Opened}
use Rattle.ep_model.specs.declared.data.FrontData.{FrontData}
use Rattle.ep_model.specs.World.{World}
use Rattle.ep_model.specs.Answer.{Effect, Nothing, Puts, Sets, apply}
use Rattle.ep_model.specs.History.{call_effect, step, after}
use Rattle.ep_model.specs.Front.{begun, world_of, with_event, with_events, mark_in, mark_after, marked, started}
use Rattle.ep_model.specs.Legal.{IsSilent, IsBelow, IsNoFault, May, AreLegal}
use Rattle.ep_model.proofs.HistoryLemmas.{after-append}
use Rattle.hold_stage.specs.Touches.{touches, is_of}
use Rattle.hold_stage.specs.Grows.{Quiet}
use Rattle.hold_stage.proofs.ViewLemmas.{SameStripe, stripe_refl, stripe_then, SameQueue, queue_refl, queue_then, SameFrame, frame_after, step_stripe, step_queue, step_mark, step_below, not_same}

-- the world after a front is the world after its events and one more, or more
pub world_after : (f : FrontData) (more : List EventData) → world_of (with_events f more) ≡ after (world_of f) more
world_after f more = after-append (begun f) f.events more

pub all_append : {A : Type 0} (P : A → Type 0) (xs ys : List A) → AllByRecursion P xs → AllByRecursion P ys → AllByRecursion P (xs ++ ys)
all_append P [] ys p q = q
all_append P (x ∷ xs) ys p q = (p.0, all_append P xs ys p.1 q)

-- a relation of two worlds that each quiet event keeps is kept by all of them
quiet_stripe_after : (f : FrontData) (stripe : ℕ) (held : PartName → Bool) (caller : ℕ) (desk : Bool) (w : World) (more : List EventData)
    → nat_lt stripe f.config.stripes ≡ true → held (Stripe stripe) ≡ true → Quiet f held caller desk more → SameStripe f.config.stripes stripe w (after w more)
quiet_stripe_after f stripe held caller desk w [] there has quiet = stripe_refl f.config.stripes stripe w
quiet_stripe_after f stripe held caller desk w (event ∷ more) there has quiet =
    stripe_then f.config.stripes stripe w (step w event) (after (step w event) more)
    (step_stripe f stripe w event there (quiet.0.apart (Stripe stripe) has))
    (quiet_stripe_after (with_event f event) stripe held caller desk (step w event) more there has quiet.1)

quiet_queue_after : (f : FrontData) (held : PartName → Bool) (caller : ℕ) (desk : Bool) (w : World) (more : List EventData)
    → held Queue ≡ true → Quiet f held caller desk more → SameQueue w (after w more)
quiet_queue_after f held caller desk w [] has quiet = queue_refl w
quiet_queue_after f held caller desk w (event ∷ more) has quiet =
    queue_then w (step w event) (after (step w event) more)
    (step_queue f w event (quiet.0.apart Queue has))
    (quiet_queue_after (with_event f event) held caller desk (step w event) more has quiet.1)

pub quiet_stripe : (f : FrontData) (stripe : ℕ) (held : PartName → Bool) (caller : ℕ) (desk : Bool) (more : List EventData)
    → nat_lt stripe f.config.stripes ≡ true → held (Stripe stripe) ≡ true → Quiet f held caller desk more → SameStripe f.config.stripes stripe (world_of f) (world_of (with_events f more))
quiet_stripe f stripe held caller desk more there has quiet =
    subst (λ (w : World). SameStripe f.config.stripes stripe (world_of f) w) (sym (world_after f more)) (quiet_stripe_after f stripe held caller desk (world_of f) more there has quiet)

pub quiet_queue : (f : FrontData) (held : PartName → Bool) (caller : ℕ) (desk : Bool) (more : List EventData)
    → held Queue ≡ true → Quiet f held caller desk more → SameQueue (world_of f) (world_of (with_events f more))
quiet_queue f held caller desk more has quiet =
    subst (λ (w : World). SameQueue (world_of f) w) (sym (world_after f more)) (quiet_queue_after f held caller desk (world_of f) more has quiet)

pub same_frame : (f : FrontData) (more : List EventData) → SameFrame (world_of f) (world_of (with_events f more))
same_frame f more = subst (λ (w : World). SameFrame (world_of f) w) (sym (world_after f more)) (frame_after (world_of f) more)

-- marks
pub mark_append : (stripe mark : ℕ) (xs ys : List EventData) → mark_in stripe mark (xs ++ ys) ≡ mark_in stripe (mark_in stripe mark xs) ys
mark_append stripe mark [] ys = refl
mark_append stripe mark (x ∷ xs) ys = mark_append stripe (mark_after stripe mark x) xs ys

quiet_mark_in : (f : FrontData) (stripe mark : ℕ) (held : PartName → Bool) (caller : ℕ) (desk : Bool) (more : List EventData)
    → held (Stripe stripe) ≡ true → Quiet f held caller desk more → mark_in stripe mark more ≡ mark
quiet_mark_in f stripe mark held caller desk [] has quiet = refl
quiet_mark_in f stripe mark held caller desk (event ∷ more) has quiet =
    ap (λ m. mark_in stripe m more) (step_mark f stripe mark event (quiet.0.apart (Stripe stripe) has))
    ∙ quiet_mark_in (with_event f event) stripe mark held caller desk more has quiet.1

pub quiet_mark : (f : FrontData) (stripe : ℕ) (held : PartName → Bool) (caller : ℕ) (desk : Bool) (more : List EventData)
    → held (Stripe stripe) ≡ true → Quiet f held caller desk more → marked (with_events f more) stripe ≡ marked f stripe
quiet_mark f stripe held caller desk more has quiet =
    mark_append stripe (started f.start).high f.events more ∙ quiet_mark_in f stripe (marked f stripe) held caller desk more has quiet

-- tickets
pub quiet_below : (f : FrontData) (ticket : Ticket) (held : PartName → Bool) (caller : ℕ) (desk : Bool) (more : List EventData)
    → held (Stripe ticket.stripe) ≡ true → Quiet f held caller desk more → AllByRecursion (IsBelow ticket) more
quiet_below f ticket held caller desk [] has quiet = tt
quiet_below f ticket held caller desk (event ∷ more) has quiet =
    (step_below f ticket event (quiet.0.apart (Stripe ticket.stripe) has), quiet_below (with_event f event) ticket held caller desk more has quiet.1)

-- faults
step_no_fault : (f : FrontData) (fault : ℕ) (event : EventData) → touches f event Desk ≡ false → IsNoFault fault event
unfolding touches
step_no_fault f fault (Called caller call now reply value) apart = tt
step_no_fault f fault (Refused caller call now cause) apart = tt
step_no_fault f fault (Expired key now) apart = tt
step_no_fault f fault (Persisted number) apart = tt
step_no_fault f fault (Marked stripe number) apart = tt
step_no_fault f fault (Asked ticket caller call) apart = tt
step_no_fault f fault (ReadFailed ticket other) apart = absurd (cc)
step_no_fault f fault Opened apart = tt

pub quiet_no_fault : (f : FrontData) (fault : ℕ) (held : PartName → Bool) (caller : ℕ) (desk : Bool) (more : List EventData)
    → held Desk ≡ true → Quiet f held caller desk more → AllByRecursion (IsNoFault fault) more
quiet_no_fault f fault held caller desk [] has quiet = tt
quiet_no_fault f fault held caller desk (event ∷ more) has quiet =
    (step_no_fault f fault event (quiet.0.apart Desk has), quiet_no_fault (with_event f event) fault held caller desk more has quiet.1)

-- an event that isn't the caller's answers none of its calls
step_silent : (caller : ℕ) (event : EventData) → is_of caller event ≡ false → IsSilent caller event
unfolding is_of
step_silent caller (Called other call now reply value) test = not_same other caller test
step_silent caller (Refused other call now cause) test = not_same other caller test
step_silent caller (Expired key now) test = tt
step_silent caller (Persisted number) test = tt
step_silent caller (Marked stripe number) test = tt
step_silent caller (Asked ticket other call) test = tt
step_silent caller (ReadFailed ticket fault) test = tt
step_silent caller Opened test = tt

pub quiet_silent : (f : FrontData) (held : PartName → Bool) (caller : ℕ) (desk : Bool) (more : List EventData) → Quiet f held caller desk more → AllByRecursion (IsSilent caller) more
quiet_silent f held caller desk [] quiet = tt
quiet_silent f held caller desk (event ∷ more) quiet = (step_silent caller event quiet.0.others, quiet_silent (with_event f event) held caller desk more quiet.1)

-- what was stored never becomes less, and an opened vBucket stays open
pub persisted_apply : (w : World) (effect : Effect) → (apply w effect).persisted ≡ w.persisted
persisted_apply w Nothing = refl
persisted_apply w (Puts key doc) = refl
persisted_apply w (Sets state) = refl

opened_apply : (w : World) (effect : Effect) → (apply w effect).opened ≡ w.opened
opened_apply w Nothing = refl
opened_apply w (Puts key doc) = refl
opened_apply w (Sets state) = refl

step_persisted : (f : FrontData) (event : EventData) → May f event → (world_of f).persisted ≤ (step (world_of f) event).persisted
unfolding May
step_persisted f (Called caller call now reply value) may = let e = persisted_apply (world_of f) (call_effect (world_of f) call now reply) in omega arith
step_persisted f (Refused caller call now cause) may = omega arith
step_persisted f (Expired key now) may = omega arith
step_persisted f (Persisted number) may = let h = may.above in omega arith
step_persisted f (Marked stripe number) may = omega arith
step_persisted f (Asked ticket caller call) may = omega arith
step_persisted f (ReadFailed ticket fault) may = omega arith
step_persisted f Opened may = omega arith

pub world_step : (f : FrontData) (event : EventData) → world_of (with_event f event) ≡ step (world_of f) event
world_step f event = world_after f (event ∷ [])

-- no event changes whether the documents are known
pub same_told : (f : FrontData) (event : EventData) → (world_of (with_event f event)).told ≡ (world_of f).told
same_told f event = (same_frame f (event ∷ [])).told

pub more_events : (f : FrontData) (event : EventData) (more : List EventData) → with_events (with_event f event) more ≡ with_events f (event ∷ more)
more_events f event more = ap (λ (l : List EventData). record f { events = l }) (append_assoc f.events (event ∷ []) more)

pub persisted_later : (f : FrontData) (more : List EventData) → AreLegal f more → (world_of f).persisted ≤ (world_of (with_events f more)).persisted
unfolding AreLegal
persisted_later f [] legal = let e = ap (λ (w : World). w.persisted) (world_after f []) in omega arith
persisted_later f (event ∷ more) legal =
    let a = step_persisted f event legal.0 in
    let b = persisted_later (with_event f event) more legal.1 in
    let c = ap (λ (w : World). w.persisted) (world_step f event) in
    let d = ap (λ (g : FrontData). (world_of g).persisted) (more_events f event more) in
    omega arith

step_opened : (w : World) (event : EventData) → w.opened ≡ true → (step w event).opened ≡ true
step_opened w (Called caller call now reply value) h = opened_apply w (call_effect w call now reply) ∙ h
step_opened w (Refused caller call now cause) h = h
step_opened w (Expired key now) h = h
step_opened w (Persisted number) h = h
step_opened w (Marked stripe number) h = h
step_opened w (Asked ticket caller call) h = h
step_opened w (ReadFailed ticket fault) h = h
step_opened w Opened h = refl

opened_after : (w : World) (events : List EventData) → w.opened ≡ true → (after w events).opened ≡ true
opened_after w [] h = h
opened_after w (event ∷ events) h = opened_after (step w event) events (step_opened w event h)

pub opened_later : (f : FrontData) (more : List EventData) → (world_of f).opened ≡ true → (world_of (with_events f more)).opened ≡ true
opened_later f more h = ap (λ (w : World). w.opened) (world_after f more) ∙ opened_after (world_of f) more h
