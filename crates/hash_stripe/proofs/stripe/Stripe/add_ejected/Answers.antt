use Rattle.std.proofs.Common.{arith}
use Rattle.std.specs.Prelude.{None}
use Rattle.hash_stripe.specs.Nodes.{node_blocks}
use Rattle.hash_stripe.proofs.StripeLemmas.{keyed-slots}
use Rattle.hash_stripe.proofs.CallLemmas.{absent-slot, added-fits, stripe-added}
use Rattle.hash_stripe.proofs.stripe.Stripe.add_ejected.Goals as goal

pub put_ejected-requires-clause-absent : goal.put_ejected-requires-clause-absent
put_ejected-requires-clause-absent c = absent-slot (record { index = c.self.inside.index; stripes = c.self.inside.stripes; eviction = c.self.inside.eviction; slots = c.self.inside.table; mark = c.self.inside.mark; state = c.self.inside.state; opened = c.self.inside.opened }) c.args.self.now c.args.key.now c.self.view_is c.requires.absent

pub put_ejected-requires-clause-keyed : goal.put_ejected-requires-clause-keyed
put_ejected-requires-clause-keyed c = keyed-slots c.self.inside.index c.self.inside.stripes c.self.inside.eviction c.self.inside.mark c.self.inside.table c.self.invariant.nodes

pub invariant_of-self : goal.invariant_of-self
invariant_of-self c =
    stripe-added (record { index = c.self.inside.index; stripes = c.self.inside.stripes; eviction = c.self.inside.eviction; slots = c.self.inside.table; mark = c.self.inside.mark; state = c.self.inside.state; opened = c.self.inside.opened }) c.args.self.now c.args.key.now c.args.meta c.put_ejected.new.table 0 c.free-free.result c.self.view_is c.self.invariant c.requires.key c.requires.home c.requires.eviction c.requires.stored c.requires.live c.requires.len c.requires.absent c.free-free.ensures.free (omega arith) c.put_ejected.ensures

pub returns-clause-fits : goal.returns-clause-fits
returns-clause-fits c =
    added-fits (record { index = c.self.inside.index; stripes = c.self.inside.stripes; eviction = c.self.inside.eviction; slots = c.self.inside.table; mark = c.self.inside.mark; state = c.self.inside.state; opened = c.self.inside.opened }) c.args.self.now c.args.key.now c.free-free.result (node_blocks (record { key = c.args.key.now; meta = c.args.meta; value = None; age = 0 })) c.self.view_is c.requires.absent c.free-free.ensures.free (omega arith)
