use Rattle.std.proofs.Common.{arith}
use Rattle.ckpt_items.proofs.CallLemmas.{no_place}
use Rattle.ckpt_items.proofs.search.place.Goals as goal

pub returns-else-index-seqno : goal.returns-else-index-seqno
returns-else-index-seqno c =
    no_place c.args.items.now.items c.args.seqno c.below-place.result c.index.result.now c.requires c.below-place.ensures.before c.below-place.ensures.behind c.index.ensures (λ same. omega arith)
