use Rattle.std.proofs.Common.{length}
use Rattle.value_pool.proofs.TextLemmas.{IsSameSoFar}
use Rattle.value_pool.proofs.pieces.is_text.Given as goal

abbrev pub invariant-loop-piece : goal.invariant-loop-piece
invariant-loop-piece l = IsSameSoFar l.fn.pieces l.bytes l.pieces l.rest

abbrev pub decreases-loop-piece : goal.decreases-loop-piece
decreases-loop-piece l = length l.pieces
