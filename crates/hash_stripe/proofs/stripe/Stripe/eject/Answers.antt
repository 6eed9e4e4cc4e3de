use Rattle.hash_stripe.proofs.CallLemmas.{stripe-eject}
use Rattle.hash_stripe.proofs.stripe.Stripe.eject.Goals as goal

pub invariant_of-self : goal.invariant_of-self
invariant_of-self c =
    stripe-eject (record { index = c.self.inside.index; stripes = c.self.inside.stripes; eviction = c.self.inside.eviction; slots = c.self.inside.table; mark = c.self.inside.mark; state = c.self.inside.state; opened = c.self.inside.opened }) c.args.self.now c.args.key.now c.eject.new.table c.slot_of.result c.in-Some.slot c.self.view_is c.self.invariant c.slot_of.ensures.slot c.in-Some.is (c.slot_of.ensures.within c.in-Some.slot c.in-Some.is) c.requires c.eject.ensures
