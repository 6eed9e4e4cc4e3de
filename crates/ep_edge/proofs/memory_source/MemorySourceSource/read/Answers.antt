use Rattle.std.proofs.Common.{rules, length, arith}
use Rattle.ep_edge.proofs.PieceLemmas.{after_piece, drop-used}
use Rattle.ep_edge.proofs.memory_source.MemorySourceSource.read.Goals as goal

pub returns-then-count-eq0-clause-after : goal.returns-then-count-eq0-clause-after
returns-then-count-eq0-clause-after c =
    after_piece c.args.self.now (length c.args.into.now) _ _ _ _ _ _ _
    (search rules) (search rules) (search rules) (grind (arith, drop-used)) (search rules) (grind arith) (search rules) (search rules)

pub returns-else-count-eq0-clause-after : goal.returns-else-count-eq0-clause-after
returns-else-count-eq0-clause-after c =
    after_piece c.args.self.now (length c.args.into.now) _ _ _ _ _ _ _
    (search rules) (search rules) (search rules) (grind (arith, drop-used)) (search rules) (grind arith) (search rules) (search rules)
