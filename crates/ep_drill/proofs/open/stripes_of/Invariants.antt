use Rattle.std.proofs.Common.{◌≡◌}
use Rattle.ep_drill.specs.Opens.{bare_stripes}
use Rattle.ep_drill.proofs.open.stripes_of.Given as goal

abbrev pub invariant-loop-stripe : goal.invariant-loop-stripe
invariant-loop-stripe l = l.parts.items ≡ bare_stripes l.stripe
