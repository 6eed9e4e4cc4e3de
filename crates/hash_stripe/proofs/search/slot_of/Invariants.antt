use Rattle.std.proofs.Common.{◌≡◌, ◌<◌, ℕ, false}
use Rattle.hash_stripe.specs.Nodes.{at, is_keyed}
use Rattle.hash_stripe.proofs.search.slot_of.Given as goal

abbrev pub invariant-loop-slot : goal.invariant-loop-slot
invariant-loop-slot l = (k : ℕ) → k < l.slot → is_keyed l.key (at l.table k) ≡ false
