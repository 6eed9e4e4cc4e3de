use Rattle.mcbp_ops.proofs.ServedLemmas.{refusals_written}
use Rattle.mcbp_ops.proofs.laws.refusals_are_written.Goals as goal

pub returns : goal.returns
returns c = refusals_written
