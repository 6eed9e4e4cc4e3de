use Rattle.std.proofs.Common.{◌≡◌}
use Rattle.value_pool.specs.Layout.{beyond}
use Rattle.value_pool.proofs.region.beyond.Given as goal

abbrev pub invariant-loop-step : goal.invariant-loop-step
invariant-loop-step l = l.block ≡ beyond l.links l._step l.first
