use Rattle.hash_stripe.proofs.CallLemmas.{key-sound}
use Rattle.hash_stripe.proofs.stripe.Stripe.look.Goals as goal

pub returns-in-None-clause-sound : goal.returns-in-None-clause-sound
returns-in-None-clause-sound c = key-sound (record { index = c.self.inside.index; stripes = c.self.inside.stripes; eviction = c.self.inside.eviction; slots = c.self.inside.table; mark = c.self.inside.mark; state = c.self.inside.state; opened = c.self.inside.opened }) c.args.self.now c.args.key.now c.self.view_is c.self.invariant

pub returns-in-Some-clause-sound : goal.returns-in-Some-clause-sound
returns-in-Some-clause-sound c = key-sound (record { index = c.self.inside.index; stripes = c.self.inside.stripes; eviction = c.self.inside.eviction; slots = c.self.inside.table; mark = c.self.inside.mark; state = c.self.inside.state; opened = c.self.inside.opened }) c.args.self.now c.args.key.now c.self.view_is c.self.invariant
