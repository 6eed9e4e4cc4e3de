use Rattle.std.proofs.Common.{ap, sym}
use Rattle.std.specs.Option.{option_map}
use Rattle.ckpt_items.specs.declared.data.ItemData.{ItemData}
use Rattle.ckpt_items.proofs.CallLemmas.{item_some, item_none}
use Rattle.ckpt_items.proofs.items.Items.meta.Goals as goal

pub returns-in-Some : goal.returns-in-Some
returns-in-Some c =
    sym (ap (option_map (λ (i : ItemData). i.meta)) (item_some c.self.inside.pool c.self.inside.items.items c.self.inside.closed c.args.self.now c.self.view_is c.args.seqno c.in-Some.index c.index.result.now c.self.invariant.rising c.in-Some.ensures.0 c.in-Some.ensures.1 c.index.ensures))

pub returns-in-None : goal.returns-in-None
returns-in-None c = sym (ap (option_map (λ (i : ItemData). i.meta)) (item_none c.self.inside.pool c.self.inside.items.items c.self.inside.closed c.args.self.now c.self.view_is c.args.seqno c.in-None.ensures))
