use Rattle.std.proofs.Common.{◌≡◌, ℕ, ◌<◌, false, get_or, map, take, Some}
use Rattle.std.specs.Prelude.{vec_len, vec_capacity}
use Rattle.std.specs.Slots.{slots_filled, slots_items, slots_len}
use Rattle.std.specs.Slots.Ownership.{Filled}
use Rattle.turn_stage.proofs.slots.taken_out.Given as goal

abbrev pub invariant-loop-slot : goal.invariant-loop-slot
invariant-loop-slot g l =
    Filled (slots_filled l.closed.slots) l.slot (slots_len l.closed.slots)
    × ((k : ℕ) → k < l.slot → get_or (slots_filled l.closed.slots) k false ≡ false)
    × (slots_items l.closed.slots ≡ slots_items l.initial.closed.slots)
    × (slots_len l.closed.slots ≡ slots_len l.initial.closed.slots)
    × (map Some l.room.items ≡ take l.slot (slots_items l.closed.slots))
    × (vec_len l.room ≡ l.slot)
    × (vec_capacity l.room ≡ vec_capacity l.initial.room)
