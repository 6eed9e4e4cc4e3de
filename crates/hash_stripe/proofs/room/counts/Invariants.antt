use Rattle.hash_stripe.specs.Nodes.{is_resident, is_ejected}
use Rattle.hash_stripe.proofs.RoomLemmas.{Counts}
use Rattle.hash_stripe.proofs.room.counts.Given as goal

abbrev pub invariant-loop-slot : goal.invariant-loop-slot
invariant-loop-slot l = Counts is_resident l.table l.slot l.resident × Counts is_ejected l.table l.slot l.ejected
