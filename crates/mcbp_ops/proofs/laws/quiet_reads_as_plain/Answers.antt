use Rattle.mcbp_ops.proofs.ServedLemmas.{quiet_as_plain}
use Rattle.mcbp_ops.proofs.laws.quiet_reads_as_plain.Goals as goal

pub returns : goal.returns
returns c = quiet_as_plain
