use Rattle.std.proofs.Common.{rules}
use Rattle.value_pool.proofs.region.blocks.Goals as goal

pub returns : goal.returns
returns c = search rules
