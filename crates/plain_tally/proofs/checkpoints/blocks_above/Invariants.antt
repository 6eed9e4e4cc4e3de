use Rattle.std.proofs.Common.{◌≡◌, ◌-◌, ◌^◌, min, take}
use Rattle.std.specs.Prelude.{sum_by}
use Rattle.plain_tally.specs.Items.{kept_cost}
use Rattle.plain_tally.proofs.checkpoints.blocks_above.Given as goal

abbrev pub invariant-loop-index : goal.invariant-loop-index
invariant-loop-index l = l.total ≡ min (sum_by (kept_cost l.number) (take l.index l.items)) (2 ^ 64 - 1)
