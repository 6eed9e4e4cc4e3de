-- Each text has room where the longest has.
use Rattle.mcbp_frame.specs.Frames.{frame_data}
use Rattle.mcbp_ops.proofs.TextLemmas.{has_room}
use Rattle.mcbp_ops.proofs.tests.put_text.Goals as goal

pub reply_text-requires : goal.reply_text-requires
reply_text-requires c = has_room (frame_data c.args.frame.now) c.args.reply.now c.args.value.now c.args.seqno_feature c.args.out.now.spare c.requires
