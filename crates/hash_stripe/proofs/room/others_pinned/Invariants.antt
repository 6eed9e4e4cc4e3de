use Rattle.hash_stripe.proofs.RoomLemmas.{Pins}
use Rattle.hash_stripe.proofs.room.others_pinned.Given as goal

abbrev pub invariant-loop-slot : goal.invariant-loop-slot
invariant-loop-slot l = Pins l.eviction l.mark l.key l.table l.slot l.pinned
