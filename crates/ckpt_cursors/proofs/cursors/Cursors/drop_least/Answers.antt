use Rattle.std.proofs.Common.{rules}
use Rattle.ckpt_cursors.proofs.cursors.Cursors.drop_least.Goals as goal

pub returns-in-Some-clause-after : goal.returns-in-Some-clause-after
returns-in-Some-clause-after c = search rules
