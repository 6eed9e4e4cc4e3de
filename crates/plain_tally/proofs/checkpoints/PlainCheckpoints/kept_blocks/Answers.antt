use Rattle.std.proofs.Common.{rules, ◌≡◌, ap, sym, refl, ◌∙◌, arith}
use Rattle.ep_model.specs.declared.data.CheckpointsData.{CheckpointsData}
use Rattle.plain_tally.specs.Items.{checkpoints_data}
use Rattle.plain_tally.proofs.TallyLemmas.{kept-more}
use Rattle.plain_tally.proofs.checkpoints.PlainCheckpoints.kept_blocks.Goals as goal

pub loop-index-preserved : goal.loop-index-preserved
loop-index-preserved c =
    kept-more c.args.self.now c.self.inside.closed.items c.self.inside.last c.index.result.now c.args.self.now.last.items c.loop-index.index c.args.number c.loop-index.total c.blocks_above.result c.saturating_add-total.result
    c.self.view_is (search rules) (search rules) (search rules) (search rules) c.loop-index.invariant
