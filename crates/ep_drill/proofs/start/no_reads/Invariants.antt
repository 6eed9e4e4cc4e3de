use Rattle.std.proofs.Common.{◌≡◌, None}
use Rattle.ep_drill.specs.Opens.{copies}
use Rattle.ep_drill.proofs.start.no_reads.Given as goal

abbrev pub invariant-loop-stripe : goal.invariant-loop-stripe
invariant-loop-stripe l = l.reads.items ≡ copies l._stripe None
