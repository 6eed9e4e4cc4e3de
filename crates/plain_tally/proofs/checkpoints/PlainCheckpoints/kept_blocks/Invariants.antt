use Rattle.std.proofs.Common.{◌≡◌, ◌-◌, ◌^◌, ◌++◌, min, take}
use Rattle.ep_model.specs.Mutations.{above}
use Rattle.ep_model.specs.Checkpoints.{all_items, item_blocks}
use Rattle.plain_tally.proofs.checkpoints.PlainCheckpoints.kept_blocks.Given as goal

abbrev pub invariant-loop-index : goal.invariant-loop-index
invariant-loop-index l = l.total ≡ min (item_blocks (above l.number (all_items (take l.index l.self.closed) ++ l.self.last.items))) (2 ^ 64 - 1)
