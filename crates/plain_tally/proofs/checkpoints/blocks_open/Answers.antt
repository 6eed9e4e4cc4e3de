use Rattle.std.proofs.Common.{rules}
use Rattle.plain_tally.specs.Items.{items_data}
use Rattle.plain_tally.proofs.RoomLemmas.{with-first}
use Rattle.plain_tally.proofs.checkpoints.blocks_open.Goals as goal

pub returns : goal.returns
returns c = with-first c.args.item.now (items_data c.args.items.now) c.args.number c.cost.result c.blocks_but.result c.saturating_add.result c.cost.ensures (search rules) c.saturating_add.ensures
