use Rattle.std.proofs.Common.{ℕ, subst}
use Rattle.std.specs.Prelude.{Option}
use Rattle.hash_stripe.specs.Stripes.{IsStripe}
use Rattle.hash_stripe.proofs.CallLemmas.{key-fits}
use Rattle.hash_stripe.proofs.stripe.Stripe.free.Goals as goal

pub returns-clause-keys : goal.returns-clause-keys
returns-clause-keys c = λ (slot : Option ℕ). key-fits c.args.self.now slot (subst IsStripe c.self.view_is c.self.invariant)
