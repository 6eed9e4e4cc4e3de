use Rattle.std.proofs.Common.{length}
use Rattle.value_pool.specs.Pools.{bytes_at}
use Rattle.ckpt_items.proofs.CallLemmas.{IsAppending}
use Rattle.ckpt_items.proofs.bytes.append.Given as goal

abbrev pub invariant-loop-piece : goal.invariant-loop-piece
invariant-loop-piece l = IsAppending l.fn.out (bytes_at l.pool l.chain) l.out l.pieces

abbrev pub decreases-loop-piece : goal.decreases-loop-piece
decreases-loop-piece l = length l.pieces
