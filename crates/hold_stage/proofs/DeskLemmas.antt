-- What only who has the desk notes: others leave what is stored, and put no start.
use Rattle.std.proofs.Common.{◌≡◌, ◌⊎◌, inl, inr, ℕ, Bool, true, false, List, [], ◌∷◌, Option, None, refl, sym, ap, subst, ◌∙◌}
use Rattle.ep_model.specs.declared.event.PartName.{PartName}
use Rattle.ep_model.specs.declared.data.EventData.{EventData}
use Rattle.ep_model.specs.declared.data.EventData.TheVariants.{Called, Refused, Expired, Persisted, Marked, Asked, ReadFailed, Opened}
use Rattle.ep_model.specs.declared.data.FrontData.{FrontData}
use Rattle.ep_model.specs.declared.data.StartData.{StartData}
use Rattle.ep_model.specs.World.{World}
use Rattle.ep_model.specs.History.{step, after}
use Rattle.ep_model.specs.Front.{world_of, with_event, with_events, with_start}
use Rattle.hold_stage.specs.Touches.{is_desks}
use Rattle.hold_stage.specs.Grows.{IsNone, Quiet, Grown}
use Rattle.hold_stage.proofs.LaterLemmas.{world_after, persisted_apply}
use Rattle.hold_stage.proofs.GrowsLemmas.{front_same}

-- an event that isn't the desk's leaves what is stored
pub persisted_same : (w : World) (event : EventData) → is_desks event ≡ false → (step w event).persisted ≡ w.persisted
unfolding is_desks
persisted_same w (Called caller call now reply value) test = persisted_apply w _
persisted_same w (Refused caller call now cause) test = refl
persisted_same w (Expired key now) test = refl
persisted_same w (Persisted number) test = absurd (cc)
persisted_same w (Marked stripe number) test = refl
persisted_same w (Asked ticket caller call) test = refl
persisted_same w (ReadFailed ticket fault) test = absurd (cc)
persisted_same w Opened test = absurd (cc)

quiet_stored : (f : FrontData) (held : PartName → Bool) (caller : ℕ) (desk : Bool) (w : World) (events : List EventData) → desk ≡ true → Quiet f held caller desk events → (after w events).persisted ≡ w.persisted
quiet_stored f held caller desk w [] is quiet = refl
quiet_stored f held caller desk w (event ∷ events) is quiet =
    quiet_stored (with_event f event) held caller desk (step w event) events is quiet.1 ∙ persisted_same w event (quiet.0.desks is)

start_same : (f g : FrontData) (held : PartName → Bool) (desk : Bool) → desk ≡ true → (g.start ≡ f.start) ⊎ ((f.start ≡ None) × IsNone held × (desk ≡ false)) → g.start ≡ f.start
start_same f g held desk is (inl same) = same
start_same f g held desk is (inr put) = absurd (let e = put.2 in cc)

-- who has the desk learns of no start
pub grown_start : (f g : FrontData) (held : PartName → Bool) (caller : ℕ) (desk : Bool) → desk ≡ true → Grown f g held caller desk → g.start ≡ f.start
grown_start f g held caller desk is grown = start_same f g held desk is grown.start

-- and finds stored what was
pub grown_stored : (f g : FrontData) (held : PartName → Bool) (caller : ℕ) (desk : Bool) → desk ≡ true → Grown f g held caller desk → (world_of g).persisted ≡ (world_of f).persisted
grown_stored f g held caller desk is grown =
    let same = grown_start f g held caller desk is grown in
    let quiet : Quiet f held caller desk grown.more = subst (λ (s : Option StartData). Quiet (with_start f s) held caller desk grown.more) same grown.quiet in
    ap (λ (h : FrontData). (world_of h).persisted) (front_same (with_events f grown.more) g grown.config grown.id same grown.events)
    ∙ ap (λ (w : World). w.persisted) (world_after f grown.more)
    ∙ quiet_stored f held caller desk (world_of f) grown.more is quiet
