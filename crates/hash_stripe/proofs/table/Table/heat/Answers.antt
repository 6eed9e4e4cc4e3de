use Rattle.std.proofs.Common.{refl}
use Rattle.hash_stripe.specs.Nodes.{heated}
use Rattle.hash_stripe.proofs.TableLemmas.{set-aged, none-changed}
use Rattle.hash_stripe.proofs.table.Table.heat.Goals as goal

pub invariant_of-self : goal.invariant_of-self
invariant_of-self c = (set-aged c.self.inside.pool c.self.inside.slots c.swap.new.self c.swap-in-Some.new.self c.args.self.now c.args.slot (λ age. 0) c.in-Some.node c.heated.result c.self.invariant c.self.view_is c.in-Some.ensures.old c.swap.ensures.new c.heated.ensures c.swap-in-Some.ensures.new).kept

pub invariant_of-self-in-None : goal.invariant_of-self-in-None
invariant_of-self-in-None c = (none-changed c.self.inside.pool c.self.inside.slots c.swap.new.self c.args.self.now c.args.slot heated refl c.self.invariant c.self.view_is c.in-None.ensures.old c.swap.ensures.new).kept

pub returns-in-Some : goal.returns-in-Some
returns-in-Some c = (set-aged c.self.inside.pool c.self.inside.slots c.swap.new.self c.swap-in-Some.new.self c.args.self.now c.args.slot (λ age. 0) c.in-Some.node c.heated.result c.self.invariant c.self.view_is c.in-Some.ensures.old c.swap.ensures.new c.heated.ensures c.swap-in-Some.ensures.new).view

pub returns-in-None : goal.returns-in-None
returns-in-None c = (none-changed c.self.inside.pool c.self.inside.slots c.swap.new.self c.args.self.now c.args.slot heated refl c.self.invariant c.self.view_is c.in-None.ensures.old c.swap.ensures.new).view
