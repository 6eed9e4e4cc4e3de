use Rattle.std.proofs.Common.{Ok, rules}
use Rattle.mcbp_frame.specs.Frames.{frame_data}
use Rattle.mcbp_ops.proofs.ShapeLemmas.{within_made}
use Rattle.mcbp_ops.proofs.read.read_call.Goals as goal

pub returns-clause-within : goal.returns-clause-within
returns-clause-within c =
    within_made (frame_data c.args.frame.now) _ (Ok c.in_ok-op.op) (search rules) c.in_ok-op.ensures
