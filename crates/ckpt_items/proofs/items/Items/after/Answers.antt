use Rattle.std.proofs.Common.{arith}
use Rattle.ckpt_items.proofs.CallLemmas.{after_some, after_none}
use Rattle.ckpt_items.proofs.items.Items.after.Goals as goal

pub returns-then-index-len : goal.returns-then-index-len
returns-then-index-len c =
    after_some c.self.inside.pool c.self.inside.items.items c.self.inside.closed c.args.self.now c.self.view_is c.args.seqno c.up_to-index.result c.index.result.now (omega (arith, c.self.inside.items.ok.0)) c.index.ensures c.up_to-index.ensures.before c.up_to-index.ensures.behind

pub returns-else-index-len : goal.returns-else-index-len
returns-else-index-len c =
    after_none c.self.inside.pool c.self.inside.items.items c.self.inside.closed c.args.self.now c.self.view_is c.args.seqno c.up_to-index.result (omega (arith, c.self.inside.items.ok.0)) c.up_to-index.ensures.before
