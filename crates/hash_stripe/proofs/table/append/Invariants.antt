use Rattle.std.proofs.Common.{◌≡◌, ◌+◌, ◌++◌, length}
use Rattle.hash_stripe.proofs.table.append.Given as goal

abbrev pub invariant-loop-piece : goal.invariant-loop-piece
invariant-loop-piece l =
    (l.out.bytes ++ l.pieces ≡ l.initial.out.bytes ++ l.initial.pieces)
    × (l.out.spare + length l.out.bytes ≡ l.initial.out.spare + length l.initial.out.bytes)

abbrev pub decreases-loop-piece : goal.decreases-loop-piece
decreases-loop-piece l = length l.pieces
