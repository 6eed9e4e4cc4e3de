use Rattle.std.proofs.Common.{◌≡◌, ◌≤◌, ◌++◌, [], List, ℕ, length, sym, subst}
use Rattle.ep_model.specs.Statuses.{success}
use Rattle.mcbp_frame.specs.Frames.{frame_data}
use Rattle.mcbp_ops.specs.Text.{answer_text, mutation_extras}
use Rattle.mcbp_ops.proofs.reply.append_mutation.Goals as goal

pub returns-then-seqno_feature-clause-bytes : goal.returns-then-seqno_feature-clause-bytes
returns-then-seqno_feature-clause-bytes c =
    let shown : c.stamp_of-stamp.result ≡ mutation_extras c.args.reply.now c.args.seqno_feature =
    rw c.if-seqno_feature.true c.stamp_of-stamp.ensures in
    let Writes : List ℕ → Type 0 = λ extras. c.put.new.out.bytes ≡ c.args.out.now.bytes ++ answer_text (frame_data c.args.frame.now) success c.args.reply.now.cas extras [] c.args.value.now in
    subst Writes shown c.put.ensures.bytes

pub put-requires-clause-spare : goal.put-requires-clause-spare
put-requires-clause-spare c =
    let shown : c.stamp_of-stamp.result ≡ mutation_extras c.args.reply.now c.args.seqno_feature =
    rw c.if-seqno_feature.true c.stamp_of-stamp.ensures in
    let Fits : List ℕ → Type 0 = λ extras. length (answer_text (frame_data c.args.frame.now) success c.args.reply.now.cas extras [] c.args.value.now) ≤ c.args.out.now.spare in
    subst Fits (sym shown) c.requires
