use Rattle.std.proofs.Common.{length}
use Rattle.hash_stripe.proofs.TableLemmas.{IsCopied}
use Rattle.hash_stripe.proofs.table.copy.Given as goal

abbrev pub invariant-loop-piece : goal.invariant-loop-piece
invariant-loop-piece l = IsCopied l.at l.into l.pieces l.initial.into l.initial.pieces

abbrev pub decreases-loop-piece : goal.decreases-loop-piece
decreases-loop-piece l = length l.pieces
