use Rattle.hash_stripe.proofs.StripeLemmas.{keyed-slots}
use Rattle.hash_stripe.proofs.CallLemmas.{stripe-put}
use Rattle.hash_stripe.proofs.stripe.Stripe.place.Goals as goal

pub put-requires-clause-keyed : goal.put-requires-clause-keyed
put-requires-clause-keyed c = keyed-slots c.self.inside.index c.self.inside.stripes c.self.inside.eviction c.self.inside.mark c.self.inside.table c.self.invariant.nodes

pub invariant_of-self : goal.invariant_of-self
invariant_of-self c =
    stripe-put (record { index = c.self.inside.index; stripes = c.self.inside.stripes; eviction = c.self.inside.eviction; slots = c.self.inside.table; mark = c.self.inside.mark; state = c.self.inside.state; opened = c.self.inside.opened }) c.args.self.now c.args.key.now c.args.meta c.args.value.now c.put.new.table c.self.view_is c.self.invariant c.requires.key c.requires.home c.requires.value c.requires.len c.requires.tombstone c.requires.fits c.put.ensures
