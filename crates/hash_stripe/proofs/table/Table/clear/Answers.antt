use Rattle.std.proofs.Common.{refl}
use Rattle.std.specs.Prelude.{None}
use Rattle.hash_stripe.specs.Nodes.{Slot}
use Rattle.hash_stripe.proofs.TableLemmas.{set-cleared, none-changed}
use Rattle.hash_stripe.proofs.table.Table.clear.Goals as goal

pub invariant_of-self : goal.invariant_of-self
invariant_of-self c = (set-cleared c.self.inside.pool c.take_value-key.new.pool c.take_back.new.self c.self.inside.slots c.swap.new.self c.args.self.now c.args.slot c.in-Some.node c.take_value-key.result c.self.invariant c.self.view_is c.in-Some.ensures.old c.swap.ensures.new c.take_value-key.ensures.pool c.take_value-key.ensures.node c.take_back.ensures).kept

pub invariant_of-self-in-None : goal.invariant_of-self-in-None
invariant_of-self-in-None c = (none-changed c.self.inside.pool c.self.inside.slots c.swap.new.self c.args.self.now c.args.slot (λ (x : Slot). None) refl c.self.invariant c.self.view_is c.in-None.ensures.old c.swap.ensures.new).kept

pub returns-in-Some : goal.returns-in-Some
returns-in-Some c = (set-cleared c.self.inside.pool c.take_value-key.new.pool c.take_back.new.self c.self.inside.slots c.swap.new.self c.args.self.now c.args.slot c.in-Some.node c.take_value-key.result c.self.invariant c.self.view_is c.in-Some.ensures.old c.swap.ensures.new c.take_value-key.ensures.pool c.take_value-key.ensures.node c.take_back.ensures).view

pub returns-in-None : goal.returns-in-None
returns-in-None c = (none-changed c.self.inside.pool c.self.inside.slots c.swap.new.self c.args.self.now c.args.slot (λ (x : Slot). None) refl c.self.invariant c.self.view_is c.in-None.ensures.old c.swap.ensures.new).view
