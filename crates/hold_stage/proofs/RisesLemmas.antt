-- Numbers of a legal history never fall, and one behind its start is stored only once it has opened.
use Rattle.std.proofs.Common.{◌≡◌, ◌<◌, ◌≤◌, ℕ, Bool, true, false, cond, List, [], ◌∷◌, refl, sym, ap, subst, ◌∙◌, arith}
use Rattle.std.specs.Prelude.{◌==◌}
use Rattle.std.proofs.lemmas.Bool.Decides.{Decides-eqb}
use Rattle.ep_model.specs.declared.data.EventData.{EventData}
use Rattle.ep_model.specs.declared.data.EventData.TheVariants.{Called, Refused, Expired, Persisted, Marked, Asked, ReadFailed, Opened}
use Rattle.ep_model.specs.declared.data.FrontData.{FrontData}
use Rattle.ep_model.specs.World.{World}
use Rattle.ep_model.specs.History.{step}
use Rattle.ep_model.specs.Front.{started, world_of, with_event, with_events, mark_after, marked}
use Rattle.ep_model.specs.Legal.{May, AreLegal, IsLegal}
use Rattle.ep_model.proofs.HistoryLemmas.{legal-front}
use Rattle.hold_stage.proofs.LaterLemmas.{world_step, more_events, opened_later, persisted_apply}
use Rattle.hold_stage.proofs.BoundLemmas.{legal_bounds, marked_step}
use Rattle.hold_stage.proofs.MutationLemmas.{step_rises}
use Rattle.hold_stage.proofs.GrowsLemmas.{nothing_more}
use Rattle.hold_stage.specs.Histories.{UnopenedIsStart}

-- the last event of a legal history may happen where it stands, and the history before it is legal
pub may_of : (f : FrontData) (event : EventData) → IsLegal (with_event f event) → May f event
unfolding AreLegal
may_of f event legal = (legal-front f (event ∷ []) legal).1.0

pub legal_before : (f : FrontData) (event : EventData) → IsLegal (with_event f event) → IsLegal f
legal_before f event legal = (legal-front f (event ∷ []) legal).0

-- all that a history starts with is stored
pub started_low : (f : FrontData) → IsLegal f → (started f.start).high ≤ (world_of f).persisted
started_low f legal = (legal_bounds f legal).start

-- the last sequence number, one event further
pub high_rises : (f : FrontData) (event : EventData) → (world_of f).high ≤ (world_of (with_event f event)).high
high_rises f event = let a = (step_rises (world_of f) event).low in let e = ap (λ (w : World). w.high) (world_step f event) in omega arith

-- an opened vBucket stays open
pub opened_stays : (f : FrontData) (event : EventData) → (world_of f).opened ≡ true → (world_of (with_event f event)).opened ≡ true
opened_stays f event h = opened_later f (event ∷ []) h

-- marks never fall
mark_rises : (f : FrontData) (event : EventData) (stripe : ℕ) → May f event → marked f stripe ≤ mark_after stripe (marked f stripe) event
unfolding May
mark_rises f (Called caller call now reply value) stripe may = omega arith
mark_rises f (Refused caller call now cause) stripe may = omega arith
mark_rises f (Expired key now) stripe may = omega arith
mark_rises f (Persisted number) stripe may = omega arith
mark_rises f (Marked other number) stripe may =
    elim (other == stripe) as (λ b. other == stripe ≡ b → marked f stripe ≤ cond b number (marked f stripe)) [
      | true ↦ λ is. let h = may.above in let e = ap (λ n. marked f n) ((Decides-eqb other stripe).0 is) in omega arith
      | false ↦ λ is. omega arith
    ] refl
mark_rises f (Asked ticket caller call) stripe may = omega arith
mark_rises f (ReadFailed ticket fault) stripe may = omega arith
mark_rises f Opened stripe may = omega arith

pub marked_rises : (f : FrontData) (event : EventData) (stripe : ℕ) → May f event → marked f stripe ≤ marked (with_event f event) stripe
marked_rises f event stripe may = let a = mark_rises f event stripe may in let b = marked_step f event stripe in omega arith

marks_along : (f : FrontData) (events : List EventData) (stripe : ℕ) → (started f.start).high ≤ marked f stripe → AreLegal f events → (started f.start).high ≤ marked (with_events f events) stripe
unfolding AreLegal
marks_along f [] stripe low legal = let e = ap (λ (g : FrontData). marked g stripe) (nothing_more f) in omega arith
marks_along f (event ∷ events) stripe low legal =
    let rise = marked_rises f event stripe legal.0 in
    let later = marks_along (with_event f event) events stripe (omega arith) legal.1 in
    let e = ap (λ (g : FrontData). marked g stripe) (more_events f event events) in
    omega arith

-- a stripe knows all that its history starts with to be stored
pub marks_low : (f : FrontData) (stripe : ℕ) → IsLegal f → (started f.start).high ≤ marked f stripe
unfolding IsLegal
marks_low f stripe legal = marks_along (record f { events = [] }) f.events stripe (omega arith) legal

-- nothing but the start is stored or there before the vBucket opened
abbrev IsClosed : FrontData → Type 0
IsClosed f = (world_of f).opened ≡ false → ((world_of f).persisted ≡ (started f.start).high) × ((world_of f).high ≡ (started f.start).high)

stored_closed : (f : FrontData) (event : EventData) → (world_of f).opened ≡ false → May f event → (step (world_of f) event).persisted ≡ (world_of f).persisted
unfolding May
stored_closed f (Called caller call now reply value) closed may = persisted_apply (world_of f) _
stored_closed f (Refused caller call now cause) closed may = refl
stored_closed f (Expired key now) closed may = refl
stored_closed f (Persisted number) closed may = absurd (let h = may.opened in cc)
stored_closed f (Marked stripe number) closed may = refl
stored_closed f (Asked ticket caller call) closed may = refl
stored_closed f (ReadFailed ticket fault) closed may = refl
stored_closed f Opened closed may = refl

high_closed : (f : FrontData) (event : EventData) → (world_of f).opened ≡ false → May f event → (step (world_of f) event).high ≡ (world_of f).high
unfolding May
high_closed f (Called caller call now reply value) closed may = absurd (let h = may.opened in cc)
high_closed f (Refused caller call now cause) closed may = refl
high_closed f (Expired key now) closed may = absurd (let h = may.serving.opened in cc)
high_closed f (Persisted number) closed may = refl
high_closed f (Marked stripe number) closed may = refl
high_closed f (Asked ticket caller call) closed may = refl
high_closed f (ReadFailed ticket fault) closed may = refl
high_closed f Opened closed may = refl

closed_before : (f : FrontData) (event : EventData) (t : Bool) → (world_of f).opened ≡ t → (world_of (with_event f event)).opened ≡ false → (world_of f).opened ≡ false
closed_before f event true e closed = absurd (let h = opened_stays f event e in cc)
closed_before f event false e closed = e

closed_step : (f : FrontData) (event : EventData) → IsClosed f → May f event → IsClosed (with_event f event)
closed_step f event c may closed =
    let before = closed_before f event (world_of f).opened refl closed in (
      ap (λ (w : World). w.persisted) (world_step f event) ∙ stored_closed f event before may ∙ (c before).0,
      ap (λ (w : World). w.high) (world_step f event) ∙ high_closed f event before may ∙ (c before).1,
    )

closed_along : (f : FrontData) (events : List EventData) → IsClosed f → AreLegal f events → IsClosed (with_events f events)
unfolding AreLegal
closed_along f [] c legal = subst IsClosed (let e : f ≡ with_events f [] = sym (nothing_more f) in e) c
closed_along f (event ∷ events) c legal = subst IsClosed (more_events f event events) (closed_along (with_event f event) events (closed_step f event c legal.0) legal.1)

closed_at : (f : FrontData) (t : Bool) → (world_of f).opened ≡ t → IsClosed f → (started f.start).high < (world_of f).high → (world_of f).opened ≡ true
closed_at f true e c more = e
closed_at f false e c more = absurd (let h = (c e).1 in omega arith)

pub unopened_is_start : UnopenedIsStart
unfolding IsLegal
unopened_is_start f legal closed =
    let c = closed_along (record f { events = [] }) f.events (λ _. (refl, refl)) legal closed in (c.1, c.0)

-- where there is more than at the start, the vBucket has opened
pub opened_high : (f : FrontData) → IsLegal f → (started f.start).high < (world_of f).high → (world_of f).opened ≡ true
unfolding IsLegal
opened_high f legal more = closed_at f (world_of f).opened refl (closed_along (record f { events = [] }) f.events (λ _. (refl, refl)) legal) more

-- A vBucket of which not all is stored has opened.
pub opened_unstored : (f : FrontData) → IsLegal f → (world_of f).persisted < (world_of f).high → (world_of f).opened ≡ true
opened_unstored f legal below = opened_high f legal (let low = started_low f legal in omega arith)

-- where more is stored than there was at the start, the vBucket has opened
pub opened_stored : (f : FrontData) → IsLegal f → (started f.start).high < (world_of f).persisted → (world_of f).opened ≡ true
opened_stored f legal more = opened_high f legal (let b = (legal_bounds f legal).stored in omega arith)

-- A stripe that doesn't know all that is stored is one of a vBucket that has opened.
pub opened_unmarked : (f : FrontData) (stripe : ℕ) → IsLegal f → marked f stripe < (world_of f).persisted → (world_of f).opened ≡ true
opened_unmarked f stripe legal below = opened_stored f legal (let low = marks_low f stripe legal in omega arith)
