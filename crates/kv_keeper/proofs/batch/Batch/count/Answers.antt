use Rattle.kv_keeper.proofs.RowLemmas.{batch-within}
use Rattle.kv_keeper.proofs.batch.Batch.count.Goals as goal

pub returns-clause-within : goal.returns-clause-within
returns-clause-within c =
    batch-within c.args.self.now c.self.inside.rows.items c.self.inside.to c.self.inside.maxcas c.self.view_is
