use Rattle.std.proofs.Common.{◌≡◌, ℕ, ◌+◌, arith, take, subst}
use Rattle.mcbp_frame.specs.Header.{header_length}
use Rattle.mcbp_frame.specs.Frames.{IsFrame, frame_at, frame_data}
use Rattle.mcbp_frame.proofs.FirstFrameLemmas.{IsFrame-take}
use Rattle.mcbp_frame.proofs.feeder.look.Goals as goal

pub frame_of-requires : goal.frame_of-requires
frame_of-requires c =
    IsFrame-take c.args.rest.now c.body_len_of-body_len.result c.body_len_of-body_len.ensures (c.begins_request.ensures.yes c.if-not-begins_request.false) (omega arith) (omega arith)

pub returns : goal.returns
returns c =
    let whole = IsFrame-take c.args.rest.now c.body_len_of-body_len.result c.body_len_of-body_len.ensures (c.begins_request.ensures.yes c.if-not-begins_request.false) (omega arith) (omega arith) in
    let P : ℕ → Type 0 = λ n. IsFrame (take (header_length + n) c.args.rest.now) × (frame_data c.frame_of.result ≡ frame_at (take (header_length + n) c.args.rest.now) c.args.at) in
    subst P c.body_len_of-body_len.ensures (whole, c.frame_of.ensures)
