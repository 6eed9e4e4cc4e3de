use Rattle.std.proofs.Common.{rules}
use Rattle.stored_value.proofs.node.Node.heat.Goals as goal

pub returns : goal.returns
returns c = search rules
