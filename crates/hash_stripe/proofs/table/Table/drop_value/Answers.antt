use Rattle.std.proofs.Common.{refl}
use Rattle.hash_stripe.specs.Looks.{without_value}
use Rattle.hash_stripe.proofs.TableLemmas.{set-dropped, none-changed}
use Rattle.hash_stripe.proofs.table.Table.drop_value.Goals as goal

pub invariant_of-self : goal.invariant_of-self
invariant_of-self c = (set-dropped c.self.inside.pool c.take_value-node.new.pool c.self.inside.slots c.swap.new.self c.swap-in-Some.new.self c.args.self.now c.args.slot c.in-Some.node c.take_value-node.result c.self.invariant c.self.view_is c.in-Some.ensures.old c.swap.ensures.new c.take_value-node.ensures.pool c.take_value-node.ensures.node c.swap-in-Some.ensures.new).kept

pub invariant_of-self-in-None : goal.invariant_of-self-in-None
invariant_of-self-in-None c = (none-changed c.self.inside.pool c.self.inside.slots c.swap.new.self c.args.self.now c.args.slot without_value refl c.self.invariant c.self.view_is c.in-None.ensures.old c.swap.ensures.new).kept

pub returns-in-Some : goal.returns-in-Some
returns-in-Some c = (set-dropped c.self.inside.pool c.take_value-node.new.pool c.self.inside.slots c.swap.new.self c.swap-in-Some.new.self c.args.self.now c.args.slot c.in-Some.node c.take_value-node.result c.self.invariant c.self.view_is c.in-Some.ensures.old c.swap.ensures.new c.take_value-node.ensures.pool c.take_value-node.ensures.node c.swap-in-Some.ensures.new).view

pub returns-in-None : goal.returns-in-None
returns-in-None c = (none-changed c.self.inside.pool c.self.inside.slots c.swap.new.self c.args.self.now c.args.slot without_value refl c.self.invariant c.self.view_is c.in-None.ensures.old c.swap.ensures.new).view
