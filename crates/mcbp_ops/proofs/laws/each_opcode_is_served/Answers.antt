use Rattle.mcbp_ops.proofs.ServedLemmas.{each_opcode_served}
use Rattle.mcbp_ops.proofs.laws.each_opcode_is_served.Goals as goal

pub returns : goal.returns
returns c = each_opcode_served
