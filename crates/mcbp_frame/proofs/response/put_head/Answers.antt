-- The head's three parts, each put over the room behind the one before it.
use Rattle.std.proofs.Common.{ℕ, List, length, ap, refl, ◌∙◌}
use Rattle.mcbp_frame.specs.Response.{response_header}
use Rattle.mcbp_frame.proofs.ResponseLemmas.{laid_over, left_behind}
use Rattle.mcbp_frame.proofs.response.put_head.Goals as goal

pub returns-clause-bytes : goal.returns-clause-bytes
returns-clause-bytes c =
    let len = ap (λ (l : List ℕ). length l) c.bytes-len.ensures in
    let Header : ℕ → List ℕ = λ n. response_header c.args.opcode c.args.status c.args.opaque c.args.cas c.args.datatype (length c.args.extras.now) (length c.args.key.now) n in
    laid_over c.args.at c.args.out.now.bytes _ _ _ _ _ c.args.extras.now c.args.key.now
    (c.header_of-header.ensures ∙ ap Header (left_behind _ c.args.at (length c.args.extras.now) (length c.args.key.now) c.args.out.now.bytes len)) refl c.requires.room
    c.put_over.ensures.bytes c.put_over-2.ensures.bytes c.put_over-3.ensures.bytes
