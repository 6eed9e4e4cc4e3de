use Rattle.mcbp_frame.specs.Frames.{frame_data}
use Rattle.mcbp_ops.proofs.TextLemmas.{stamped_count}
use Rattle.mcbp_ops.proofs.text.end_success.Goals as goal

pub returns-in-Count-clause-bytes : goal.returns-in-Count-clause-bytes
returns-in-Count-clause-bytes c =
    stamped_count (frame_data c.args.frame.now) c.args.reply.now c.args.at c.args.out.now.bytes _ _ c.args.seqno_feature c.args.kind c.in-Count.down
    c.in-Count.is c.if-seqno_feature.true c.stamp_of.ensures c.finish-in-Count.ensures.bytes
