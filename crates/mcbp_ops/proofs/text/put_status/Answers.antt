use Rattle.std.proofs.Common.{[], arith}
use Rattle.mcbp_frame.specs.Frames.{frame_data}
use Rattle.mcbp_ops.proofs.TextLemmas.{answer_length}
use Rattle.mcbp_ops.proofs.text.put_status.Goals as goal

pub put-requires-clause-spare : goal.put-requires-clause-spare
put-requires-clause-spare c =
    omega (arith, c.requires, answer_length (frame_data c.args.frame.now) c.args.status 0 [] [] [])
