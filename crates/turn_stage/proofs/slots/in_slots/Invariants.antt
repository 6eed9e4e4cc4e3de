use Rattle.std.proofs.Common.{◌≡◌, map, Some}
use Rattle.turn_stage.proofs.slots.in_slots.Given as goal

abbrev pub invariant-loop-part : goal.invariant-loop-part
invariant-loop-part g l = l.slots.items ≡ map Some l.yielded
