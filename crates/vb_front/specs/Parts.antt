-- What each part is to a history, by its name.
use Rattle.std.specs.Prelude.{◌≡◌, false}
use Rattle.ep_model.specs.declared.event.PartName.{PartName}
use Rattle.ep_model.specs.declared.event.PartName.TheVariants.{Stripe, Queue, Desk}
use Rattle.ep_model.specs.declared.data.EventData.{EventData}
use Rattle.ep_model.specs.declared.data.FrontData.{FrontData}
use Rattle.ep_model.specs.Front.{world_of, with_event}
use Rattle.ep_model.specs.Legal.{May, IsLegal}
use Rattle.hold_stage.specs.Touches.{touches}
use Rattle.vb_front.specs.declared.part.Part.{Part}
use Rattle.vb_front.specs.declared.part.Part.TheVariants as parts
use Rattle.vb_front.specs.Stands.{StripeStands, QueueStands}
use Rattle.vb_front.specs.Keeps.{stripe_keeps, queue_keeps, desk_keeps}

abbrev pub part_stands : PartName → FrontData → Part → Type 0
part_stands (Stripe stripe) f (parts.Stripe x) = StripeStands f stripe x
part_stands (Stripe stripe) f (parts.Queue q) = ⊥
part_stands (Stripe stripe) f (parts.Desk d) = ⊥
part_stands Queue f (parts.Stripe x) = ⊥
part_stands Queue f (parts.Queue q) = QueueStands f q
part_stands Queue f (parts.Desk d) = ⊥
part_stands Desk f (parts.Stripe x) = ⊥
part_stands Desk f (parts.Queue q) = ⊥
part_stands Desk f (parts.Desk d) = d.persisted ≡ (world_of f).persisted

-- an event that doesn't touch a part leaves that it stands
pub part_keeps : (p : PartName) (f : FrontData) (event : EventData) (x : Part) → IsLegal f → May f event
    → touches f event p ≡ false → part_stands p f x → part_stands p (with_event f event) x
part_keeps (Stripe stripe) f event (parts.Stripe x) legal may apart s = stripe_keeps stripe f event x legal may apart s
part_keeps (Stripe stripe) f event (parts.Queue q) legal may apart s = absurd s
part_keeps (Stripe stripe) f event (parts.Desk d) legal may apart s = absurd s
part_keeps Queue f event (parts.Stripe x) legal may apart s = absurd s
part_keeps Queue f event (parts.Queue q) legal may apart s = queue_keeps f event q apart s
part_keeps Queue f event (parts.Desk d) legal may apart s = absurd s
part_keeps Desk f event (parts.Stripe x) legal may apart s = absurd s
part_keeps Desk f event (parts.Queue q) legal may apart s = absurd s
part_keeps Desk f event (parts.Desk d) legal may apart s = desk_keeps f event d.persisted apart s
