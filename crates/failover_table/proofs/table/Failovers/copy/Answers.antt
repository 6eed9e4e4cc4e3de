use Rattle.std.proofs.Common.{rules}
use Rattle.failover_table.proofs.table.Failovers.copy.Goals as goal

pub returns : goal.returns
returns c = search rules
