use Rattle.hash_stripe.proofs.CallLemmas.{stripe-heated}
use Rattle.hash_stripe.proofs.stripe.Stripe.heat.Goals as goal

pub invariant_of-self : goal.invariant_of-self
invariant_of-self c = stripe-heated (record { index = c.self.inside.index; stripes = c.self.inside.stripes; eviction = c.self.inside.eviction; slots = c.self.inside.table; mark = c.self.inside.mark; state = c.self.inside.state; opened = c.self.inside.opened }) c.heat.new.self c.in-Some.slot c.self.invariant (c.slot_of.ensures.within c.in-Some.slot c.in-Some.is) c.heat.ensures
