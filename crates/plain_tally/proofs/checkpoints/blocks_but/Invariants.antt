use Rattle.std.proofs.Common.{◌≡◌, ◌-◌, ◌^◌, min, take}
use Rattle.std.specs.Prelude.{sum_by}
use Rattle.plain_tally.specs.Items.{other_cost}
use Rattle.plain_tally.proofs.checkpoints.blocks_but.Given as goal

abbrev pub invariant-loop-index : goal.invariant-loop-index
invariant-loop-index l = l.total ≡ min (sum_by (other_cost l.number l.key) (take l.index l.items)) (2 ^ 64 - 1)
