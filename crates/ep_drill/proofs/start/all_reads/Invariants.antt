use Rattle.std.proofs.Common.{◌≡◌, None, map}
use Rattle.ep_drill.specs.Opens.{copies, reads_in}
use Rattle.ep_drill.proofs.start.all_reads.Given as goal

abbrev pub invariant-loop-vb : goal.invariant-loop-vb
invariant-loop-vb l = map reads_in l.reads.items ≡ copies l._vb (copies l.stripes None)
