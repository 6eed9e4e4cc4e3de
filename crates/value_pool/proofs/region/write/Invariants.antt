use Rattle.std.proofs.Common.{length}
use Rattle.value_pool.proofs.WriteLemmas.{IsWriting}
use Rattle.value_pool.proofs.region.write.Given as goal

abbrev pub invariant-loop-rest : goal.invariant-loop-rest
invariant-loop-rest l = IsWriting l.fn.region l.links l.first l.bytes l.region l.block l.rest

abbrev pub decreases-loop-rest : goal.decreases-loop-rest
decreases-loop-rest l = length l.rest
