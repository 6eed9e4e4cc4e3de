use Rattle.std.proofs.Common.{arith}
use Rattle.ep_edge.proofs.PieceLemmas.{appends_more}
use Rattle.ep_edge.proofs.standard.write_whole.Goals as goal

pub loop-written-preserved : goal.loop-written-preserved
loop-written-preserved g c = (
  omega (arith, c.in_ok-count.ensures.bound),
  appends_more _ _ _ _ _ _ c.loop-written.invariant.1 c.in_ok-count.ensures.bytes,
)
