-- Seats between calls, and what a call does to one.
use Rattle.std.specs.Prelude.{◌≡◌, ◌+◌, Bool, true, false, ◌&&◌, List, [], ◌∷◌, Option, Some, None}
use Rattle.atomic_table.specs.Table.{Me}
use Rattle.ep_model.specs.declared.event.PartName.{PartName}
use Rattle.ep_model.specs.declared.data.FrontData.{FrontData}
use Rattle.ep_model.specs.Legal.{IsLegal}
use Rattle.ep_model.specs.declared.config.Config.{Config}
use Rattle.hold_stage.specs.Touches.{there}
use Rattle.hold_stage.specs.Grows.{Grown, Keeps}
use Rattle.turn_stage.specs.declared.data.View.{View}
use Rattle.turn_stage.specs.Slots.{has}
use Rattle.turn_stage.specs.Rule.{WasTaken}

-- nothing is on the way
abbrev pub is_empty : {A : Type 0} → List A → Bool
is_empty [] = true
is_empty (x ∷ xs) = false

abbrev pub is_none : {A : Type 0} → Option A → Bool
is_none None = true
is_none (Some x) = false

-- a seat between calls, as a test
abbrev pub is_resting : {P : Type 0} → Me (Option P) View → Bool
is_resting me = is_empty me.1 && (is_none me.0.hand && me.0.live)

-- all of these parts are the vBucket's
abbrev pub all_there : Config → List PartName → Bool
all_there config [] = true
all_there config (part ∷ parts) = there config part && all_there config parts

pub record IsResting {P : Type 0} (me : Me (Option P) View) : Type 0 where
  pub carried : me.1 ≡ []
  pub hand : me.0.hand ≡ None
  pub live : me.0.live ≡ true

-- Somebody else has the part: its turn was found taken, and nothing but the count of losses changed.
pub record Missed {P : Type 0} (stands : PartName → FrontData → P → Type 0) (part : PartName) (v w : View) : Type 0 where
  pub is : w ≡ record v { losses = v.losses + 1 }
  pub taken : WasTaken stands part v
  pub legal : IsLegal v.front

-- A part was taken: the front grew, and the part stands for it.
pub record Taken {P : Type 0} (stands : PartName → FrontData → P → Type 0) (part : PartName) (v w : View) (x : P) : Type 0 where
  pub is : w ≡ record v { front = w.front; held = part ∷ v.held }
  pub grown : Grown v.front w.front (has v.held) v.caller v.desk
  pub legal : IsLegal w.front
  pub kept : Keeps stands (has v.held) v.front w.front
  pub fine : stands part w.front x
