-- Calls that are refused at a vBucket which hasn't opened.
use Rattle.std.proofs.Common.{◌≡◌, ℕ, Bool, List, ◌<◌, refl, sym, ap, subst, ◌∙◌}
use Rattle.std.specs.Prelude.{nat_lt}
use Rattle.std.proofs.lemmas.Bool.{lt-ltb}
use Rattle.ep_model.specs.declared.config.Config.{Config}
use Rattle.ep_model.specs.declared.event.Cause.TheVariants.{Warming}
use Rattle.ep_model.specs.declared.event.PartName.{PartName}
use Rattle.ep_model.specs.declared.event.PartName.TheVariants.{Stripe, Queue, Desk}
use Rattle.ep_model.specs.declared.data.CallData.TheVariants.{Get}
use Rattle.ep_model.specs.declared.data.EventData.TheVariants.{Refused}
use Rattle.ep_model.specs.declared.data.FrontData.{FrontData}
use Rattle.ep_model.specs.World.{World}
use Rattle.ep_model.specs.Legal.{May}
use Rattle.ep_model.specs.Stripes.{stripe_of}
use Rattle.hold_stage.specs.Touches.{touches, is_stripe}
use Rattle.hold_stage.specs.Grows.{Same, and_this, Covered, Noted}
use Rattle.hold_stage.proofs.LaterLemmas.{world_step}
use Rattle.hold_stage.proofs.OwnLemmas.{holds_stripe, taken_held}
use Rattle.turn_stage.specs.Unopened.{IsUnopened}
use Rattle.hold_stage.specs.Slots.{bare_front}

pub unopened_bare : (config : Config) (vb : ℕ) (p : PartName) → IsUnopened p (bare_front config vb)
unopened_bare config vb (Stripe stripe) = λ there. refl
unopened_bare config vb Queue = tt
unopened_bare config vb Desk = tt

-- a Get is refused at its stripe, which stays closed
pub refused_may : (f : FrontData) (stripe stripes caller : ℕ) (key : List ℕ) (now : ℕ) → stripe < stripes → f.config.stripes ≡ stripes → IsUnopened (Stripe stripe) f → May f (Refused caller (Get key) now Warming)
unfolding May
refused_may f stripe stripes caller key now below same closed = closed (ap (λ n. nat_lt stripe n) same ∙ lt-ltb stripe stripes below)

pub refused_covered : (f : FrontData) (held holds : PartName → Bool) (stripe stripes caller : ℕ) (key : List ℕ) (now : ℕ)
    → stripe ≡ stripe_of key stripes → f.config.stripes ≡ stripes → Same holds (and_this (Stripe stripe) held) → Covered holds f (Refused caller (Get key) now Warming)
unfolding touches
refused_covered f held holds stripe stripes caller key now is same_stripes same p touched =
    let here : stripe ≡ stripe_of key f.config.stripes = is ∙ ap (λ n. stripe_of key n) (sym same_stripes) in
    holds_stripe holds stripe (taken_held (Stripe stripe) held holds same) p (ap (λ s. is_stripe s p) here ∙ touched)

pub refused_unopened : {P : Type 0} (f g : FrontData) (held holds : PartName → Bool) (number : ℕ) (desk : Bool) (stripe caller : ℕ) (key : List ℕ) (now : ℕ) (x : P)
    → Same holds (and_this (Stripe stripe) held) → IsUnopened (Stripe stripe) f
    → Noted (λ p k (y : P). IsUnopened p k) f g holds number desk (Refused caller (Get key) now Warming) → IsUnopened (Stripe stripe) g
refused_unopened f g held holds number desk stripe caller key now x same closed n =
    subst (λ (k : FrontData). IsUnopened (Stripe stripe) k) (sym n.last)
    (λ is. ap (λ (w : World). w.opened) (world_step n.between (Refused caller (Get key) now Warming)) ∙ n.kept (Stripe stripe) x (taken_held (Stripe stripe) held holds same) closed is)
