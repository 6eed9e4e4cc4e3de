use Rattle.std.proofs.Common.{rules}
use Rattle.ckpt_cursors.proofs.cursors.Cursors.add.Goals as goal

pub returns-then-is_full-clause-taken : goal.returns-then-is_full-clause-taken
returns-then-is_full-clause-taken c = search rules

pub returns-then-is_full-clause-full : goal.returns-then-is_full-clause-full
returns-then-is_full-clause-full c = search rules
