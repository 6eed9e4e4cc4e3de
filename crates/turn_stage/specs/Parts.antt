-- The parts that a table of turns is made of and closed to.
use Rattle.std.specs.Prelude.{◌≡◌, ℕ, ◌+◌, ◌^◌, true, List, [], length, None}
use Rattle.ep_model.specs.declared.config.Config.{Config}
use Rattle.ep_model.specs.declared.event.PartName.{PartName}
use Rattle.ep_model.specs.declared.data.FrontData.{FrontData}
use Rattle.turn_stage.specs.declared.data.View.{View}
use Rattle.hold_stage.specs.Slots.{bare_front, AllStand}

-- all parts of a vBucket: the stripes in order, the queue and the desk. Each stands for this front.
pub record AreParts {P : Type 0} (stands : PartName → FrontData → P → Type 0) (front : FrontData) (parts : List P) : Type 0 where
  pub count : length parts ≡ front.config.stripes + 2
  pub stand : AllStand stands front parts

-- what the first pass knows: it is caller 0 and the desk's, and can give every other number
abbrev pub first_view : Config → ℕ → View
first_view config id = record { front = bare_front config id; caller = 0; live = true; held = []; hand = None; desk = true; next = 1; end = 2 ^ 64; share = 2 ^ 64; losses = 0; ended = []; last = [] }
