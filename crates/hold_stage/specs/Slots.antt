-- In which order a vBucket's parts lie where all of them are kept, and what is known before anything happened.
use Rattle.std.specs.Prelude.{◌≡◌, ℕ, ◌+◌, ◌==◌, nat_lt, if◌then◌else◌, List, [], slice_get, Some, None}
use Rattle.ep_model.specs.declared.config.Config.{Config}
use Rattle.ep_model.specs.declared.event.PartName.{PartName}
use Rattle.ep_model.specs.declared.event.PartName.TheVariants.{Stripe, Queue, Desk}
use Rattle.ep_model.specs.declared.data.FrontData.{FrontData}

-- the slot of a part: the stripes in order, the queue and the desk
abbrev pub slot_of : Config → PartName → ℕ
slot_of config (Stripe stripe) = stripe
slot_of config Queue = config.stripes
slot_of config Desk = config.stripes + 1

-- and which part has a slot
abbrev pub name_of : Config → ℕ → PartName
name_of config slot = if nat_lt slot config.stripes then Stripe slot else (if slot == config.stripes then Queue else Desk)

-- a history of this vBucket in which nothing is known to have happened
abbrev pub bare_front : Config → ℕ → FrontData
bare_front config id = record { config = config; id = id; start = None; events = [] }

-- these parts, each in its slot, stand for a front, and for a history in which nothing is known to have happened
abbrev pub AllStand : {P : Type 0} → (PartName → FrontData → P → Type 0) → FrontData → List P → Type 0
AllStand {P} stands front parts = (slot : ℕ) (x : P) → slice_get parts slot ≡ Some x → stands (name_of front.config slot) front x

abbrev pub StandBare : {P : Type 0} → (PartName → FrontData → P → Type 0) → Config → ℕ → List P → Type 0
StandBare stands config id parts = AllStand stands (bare_front config id) parts
