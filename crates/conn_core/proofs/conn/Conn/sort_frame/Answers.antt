use Rattle.std.proofs.Common.{◌≡◌, ◌∙◌, ◌++◌, ℕ, List, Ok, sym, ap, rules}
use Rattle.mcbp_frame.specs.Frames.{frame_data}
use Rattle.mcbp_ops.specs.declared.op.OpData.TheVariants as ops
use Rattle.mcbp_ops.specs.Ops.{op_of}
use Rattle.conn_core.proofs.ActLemmas.{hello_text}
use Rattle.conn_core.proofs.conn.Conn.sort_frame.Goals as goal

pub returns-in-Hello-clause-text : goal.returns-in-Hello-clause-text
returns-in-Hello-clause-text c =
    let is : Ok (ops.Hello c.in-Hello.codes.now) ≡ op_of (frame_data c.args.frame.now) = search rules in
    c.put_granted.ensures.bytes
    ∙ ap (λ (l : List ℕ). c.args.self.now.out.bytes ++ l) (sym (hello_text c.args.vbuckets (frame_data c.args.frame.now) c.in-Hello.codes.now c.asks_seqno.result is c.asks_seqno.ensures))
