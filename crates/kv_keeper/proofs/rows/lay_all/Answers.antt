use Rattle.std.proofs.Common.{arith, ◌∙◌}
use Rattle.kv_keeper.proofs.RowLemmas.{lay-last}
use Rattle.kv_keeper.proofs.rows.lay_all.Goals as goal

pub loop-row-preserved : goal.loop-row-preserved
loop-row-preserved c = (
  omega (arith, c.loop-row.invariant.0, c.lay.ensures.len, c.lay.ensures.capacity, c.in-Some.ensures.len),
  lay-last c.loop-row.more.items c.pop.new.self.items c.in-Some.row c.loop-row.rows.items c.lay.new.rows.items c.in-Some.ensures.items c.lay.ensures.rows ∙ c.loop-row.invariant.1,
)
