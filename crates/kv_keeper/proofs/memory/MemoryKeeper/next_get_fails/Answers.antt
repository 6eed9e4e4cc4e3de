use Rattle.std.proofs.Common.{rules}
use Rattle.kv_keeper.proofs.RowLemmas.{after-good}
use Rattle.kv_keeper.proofs.memory.MemoryKeeper.next_get_fails.Goals as goal

pub returns-else-fails-clause-after : goal.returns-else-fails-clause-after
returns-else-fails-clause-after c =
    let fields = c.self.inside in
    after-good c.args.self.now fields.rows.items fields.state fields.gets _ fields.fails.items fields.faults c.self.view_is (search rules) (search rules)
