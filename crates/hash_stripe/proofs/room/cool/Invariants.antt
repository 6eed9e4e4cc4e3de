use Rattle.std.proofs.Common.{◌≡◌}
use Rattle.hash_stripe.proofs.RoomLemmas.{cooled_to}
use Rattle.hash_stripe.proofs.room.cool.Given as goal

abbrev pub invariant-loop-slot : goal.invariant-loop-slot
invariant-loop-slot l = l.table ≡ cooled_to l.slot l.initial.table
