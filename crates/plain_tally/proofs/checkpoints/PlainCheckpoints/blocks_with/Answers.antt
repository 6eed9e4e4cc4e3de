use Rattle.std.proofs.Common.{rules, ◌++◌, [], ◌∷◌}
use Rattle.ep_model.specs.Checkpoints.{but_item}
use Rattle.plain_tally.specs.Items.{item_data}
use Rattle.plain_tally.proofs.TallyLemmas.{kept-more}
use Rattle.plain_tally.proofs.RoomLemmas.{with-all}
use Rattle.plain_tally.proofs.checkpoints.PlainCheckpoints.blocks_with.Goals as goal

pub loop-index-preserved : goal.loop-index-preserved
loop-index-preserved c =
    kept-more c.args.self.now c.self.inside.closed.items c.self.inside.last c.index.result.now (but_item c.args.item.now.key.items c.args.self.now.last.items ++ item_data c.args.item.now ∷ []) c.loop-index.index c.args.number c.loop-index.total c.blocks_above.result c.saturating_add-total.result
    c.self.view_is (search rules) (search rules) (search rules) (search rules) c.loop-index.invariant

pub returns : goal.returns
returns c = with-all c.args.most c.args.number c.args.item.now c.args.self.now c.self.inside.closed.items c.self.inside.last c.loop-index.index c.loop-index.total c.self.view_is (search rules) c.loop-index.invariant
