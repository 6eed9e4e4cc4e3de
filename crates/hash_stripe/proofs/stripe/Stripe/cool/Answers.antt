use Rattle.std.specs.Prelude.{map}
use Rattle.hash_stripe.specs.Nodes.{cooled}
use Rattle.hash_stripe.proofs.StripeLemmas.{stripe-cooled}
use Rattle.hash_stripe.proofs.CallLemmas.{stripe-with}
use Rattle.hash_stripe.proofs.stripe.Stripe.cool.Goals as goal

pub invariant_of-self : goal.invariant_of-self
invariant_of-self c = stripe-with (record { index = c.self.inside.index; stripes = c.self.inside.stripes; eviction = c.self.inside.eviction; slots = c.self.inside.table; mark = c.self.inside.mark; state = c.self.inside.state; opened = c.self.inside.opened }) c.cool.new.table (map cooled c.self.inside.table) c.cool.ensures (stripe-cooled (record { index = c.self.inside.index; stripes = c.self.inside.stripes; eviction = c.self.inside.eviction; slots = c.self.inside.table; mark = c.self.inside.mark; state = c.self.inside.state; opened = c.self.inside.opened }) c.self.invariant)
