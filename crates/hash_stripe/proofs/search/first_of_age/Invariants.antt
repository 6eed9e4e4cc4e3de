use Rattle.std.proofs.Common.{◌≡◌, ◌<◌, ℕ, false}
use Rattle.hash_stripe.specs.Nodes.{at, is_victim}
use Rattle.hash_stripe.proofs.search.first_of_age.Given as goal

abbrev pub invariant-loop-slot : goal.invariant-loop-slot
invariant-loop-slot l = (k : ℕ) → k < l.slot → is_victim l.mark l.key l.age (at l.table k) ≡ false
