-- The value fits the output behind the head, and is noted and shown from there.
use Rattle.std.proofs.Common.{◌∙◌, ◌≤◌, ℕ, List, length, ap, refl, arith}
use Rattle.ep_model.specs.History.{call_data}
use Rattle.mcbp_frame.specs.Frames.{frame_data}
use Rattle.ep_top.proofs.ResponderLemmas.{answered_behind, to_end, left_over, err_four}
use Rattle.ep_top.proofs.responder.answer_behind.Goals as goal

pub returns-clause-called : goal.returns-clause-called
returns-clause-called c =
    answered_behind (frame_data c.args.frame.now) (call_data c.args.call.now) c.args.now c.args.plain.now _ c.args.history.now _ c.args.conn.now _ c.in_ok-reply.reply
    (length c.bytes-at.result.now) (length c.bytes-from.result.now) _ c.begin_reply.new.out.bytes _ _
    (ap (λ (l : List ℕ). length l) c.bytes-at.ensures) c.begin_reply.ensures.before c.begin_reply.ensures.len (ap (λ (l : List ℕ). length l) c.bytes-from.ensures)
    c.in_ok-reply.ensures.value (to_end (length c.bytes-from.result.now) _ _ c.bytes.ensures) c.in_ok-reply.ensures.reply c.in_ok-reply.ensures.world c.in_ok-note_call.ensures.ok c.end_reply.ensures.bytes refl
    (c.end_reply.ensures.room ∙ c.in_ok-reply.ensures.room ∙ c.begin_reply.ensures.room)

pub returns-in_err-note_call-clause-err : goal.returns-in_err-note_call-clause-err
returns-in_err-note_call-clause-err c =
    let long : length c.args.conn.now.out.bytes ≤ length c.begin_reply.new.out.bytes = omega (arith, c.begin_reply.ensures.len) in
    let left = left_over c.args.conn.now.out.bytes c.begin_reply.new.out.bytes _ _ c.begin_reply.ensures.before long c.in_ok-reply.ensures.value in
    err_four _ c.in_err-note_call.ensures.err left.0 left.1 refl
