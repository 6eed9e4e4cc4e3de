use Rattle.std.proofs.Common.{◌≡◌, ◌-◌, ◌^◌, min, take}
use Rattle.std.specs.Prelude.{sum_by}
use Rattle.plain_tally.specs.Items.{pinned_cost}
use Rattle.plain_tally.proofs.documents.pinned.Given as goal

abbrev pub invariant-loop-index : goal.invariant-loop-index
invariant-loop-index l = l.total ≡ min (sum_by (pinned_cost l.eviction l.stripes l.stripe l.mark l.key) (take l.index l.documents)) (2 ^ 64 - 1)
