-- What the stripes of a vBucket stand for that never opens, so that every call is refused there. The tests' parts are such.
use Rattle.std.specs.Prelude.{◌≡◌, true, false, nat_lt}
use Rattle.std.proofs.Common.{ap, ◌∙◌}
use Rattle.ep_model.specs.declared.event.PartName.{PartName}
use Rattle.ep_model.specs.declared.event.PartName.TheVariants.{Stripe, Queue, Desk}
use Rattle.ep_model.specs.declared.data.EventData.{EventData}
use Rattle.ep_model.specs.declared.data.FrontData.{FrontData}
use Rattle.ep_model.specs.World.{World}
use Rattle.ep_model.specs.Front.{world_of, with_event}
use Rattle.hold_stage.specs.Touches.{touches}
use Rattle.hold_stage.proofs.LaterLemmas.{world_step}
use Rattle.hold_stage.proofs.ViewLemmas.{step_stripe}

-- the vBucket hasn't opened, as far as its stripes know
abbrev pub IsUnopened : PartName → FrontData → Type 0
IsUnopened (Stripe stripe) f = nat_lt stripe f.config.stripes ≡ true → (world_of f).opened ≡ false
IsUnopened Queue f = Unit {0}
IsUnopened Desk f = Unit {0}

-- an event that doesn't touch a part leaves this
pub unopened_keeps : (p : PartName) (f : FrontData) (event : EventData) → touches f event p ≡ false → IsUnopened p f → IsUnopened p (with_event f event)
unopened_keeps (Stripe stripe) f event apart closed = λ there.
    ap (λ (w : World). w.opened) (world_step f event) ∙ (step_stripe f stripe (world_of f) event there apart).opened ∙ closed there
unopened_keeps Queue f event apart closed = tt
unopened_keeps Desk f event apart closed = tt
