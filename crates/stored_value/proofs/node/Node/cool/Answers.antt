use Rattle.std.proofs.Common.{rules}
use Rattle.stored_value.proofs.node.Node.cool.Goals as goal

pub returns : goal.returns
returns c = search rules
