use Rattle.hash_stripe.proofs.RoomLemmas.{MakesRoom, ejectables}
use Rattle.hash_stripe.proofs.room.make_room.Given as goal

abbrev pub invariant-loop-eviction : goal.invariant-loop-eviction
invariant-loop-eviction l = MakesRoom l.eviction l.mark l.key l.need l.own l.initial.table l.table

abbrev pub decreases-loop-eviction : goal.decreases-loop-eviction
decreases-loop-eviction l = ejectables l.mark l.table
