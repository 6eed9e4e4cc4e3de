use Rattle.std.proofs.Common.{◌≡◌, ◌*◌, drop}
use Rattle.value_pool.specs.Pools.{bytes_at}
use Rattle.value_pool.proofs.pool.Pool.piece.Given as goal

abbrev pub invariant-loop-step : goal.invariant-loop-step
invariant-loop-step l = l.pieces ≡ drop (128 * l._step) (bytes_at l.self l.chain)
