use Rattle.std.proofs.Common.{arith}
use Rattle.mcbp_frame.specs.Frames.{frame_data}
use Rattle.mcbp_ops.proofs.TextLemmas.{answer_length}
use Rattle.mcbp_ops.proofs.text.put.Goals as goal

pub put_response-requires-clause-spare : goal.put_response-requires-clause-spare
put_response-requires-clause-spare c =
    omega (arith, c.requires.spare, answer_length (frame_data c.args.frame.now) c.args.status c.args.cas c.args.extras.now c.args.key.now c.args.value.now)
