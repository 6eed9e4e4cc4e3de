use Rattle.std.proofs.Common.{◌≡◌, ◌-◌, ◌^◌, ◌++◌, [], ◌∷◌, min, take}
use Rattle.ep_model.specs.Mutations.{above}
use Rattle.ep_model.specs.Checkpoints.{all_items, but_item, item_blocks}
use Rattle.plain_tally.specs.Items.{item_data}
use Rattle.plain_tally.proofs.checkpoints.PlainCheckpoints.blocks_with.Given as goal

abbrev pub invariant-loop-index : goal.invariant-loop-index
invariant-loop-index l = l.total ≡ min (item_blocks (above l.number (all_items (take l.index l.self.closed) ++ (but_item l.item.key.items l.self.last.items ++ item_data l.item ∷ [])))) (2 ^ 64 - 1)
