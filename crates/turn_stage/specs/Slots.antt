-- Where in the table a part has its turn, and which parts a pass holds.
use Rattle.std.specs.Prelude.{ℕ, ◌+◌, Bool, false, ◌||◌, if◌then◌else◌, List, [], ◌∷◌, slice_index}
use Rattle.ep_model.specs.declared.config.Config.{Config}
use Rattle.ep_model.specs.declared.event.PartName.{PartName}
use Rattle.hold_stage.specs.Touches.{same_part}
use Rattle.hold_stage.specs.Slots.{slot_of}

-- the turn of a part, which is 0 while nobody has it
abbrev pub turn_of : List ℕ → Config → PartName → ℕ
turn_of words config part = slice_index words (slot_of config part + 1)

-- the part is among these
abbrev pub has : List PartName → PartName → Bool
has [] part = false
has (first ∷ parts) part = same_part part first || has parts part

-- these without a part
abbrev pub without_part : PartName → List PartName → List PartName
without_part part [] = []
without_part part (first ∷ parts) = if same_part first part then without_part part parts else first ∷ without_part part parts
