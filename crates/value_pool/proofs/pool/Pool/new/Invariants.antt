use Rattle.value_pool.proofs.PoolLemmas.{IsLaidOut}
use Rattle.value_pool.proofs.pool.Pool.new.Given as goal

abbrev pub invariant-loop-block : goal.invariant-loop-block
invariant-loop-block l = IsLaidOut l.region.items l.links.items l.block
