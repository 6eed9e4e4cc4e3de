use Rattle.std.proofs.Common.{rules}
use Rattle.hash_stripe.proofs.CallLemmas.{stripe-marked}
use Rattle.hash_stripe.proofs.stripe.Stripe.mark.Goals as goal

pub invariant_of-self : goal.invariant_of-self
invariant_of-self c =
    let marked = stripe-marked (record { index = c.self.inside.index; stripes = c.self.inside.stripes; eviction = c.self.inside.eviction; slots = c.self.inside.table; mark = c.self.inside.mark; state = c.self.inside.state; opened = c.self.inside.opened }) c.args.self.now c.args.number c.self.view_is c.self.invariant c.requires in
    search rules
