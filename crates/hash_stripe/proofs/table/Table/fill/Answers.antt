use Rattle.hash_stripe.proofs.TableLemmas.{set-filled}
use Rattle.hash_stripe.proofs.table.Table.fill.Goals as goal

pub invariant_of-self : goal.invariant_of-self
invariant_of-self c = (set-filled c.self.inside.pool c.put-key.new.pool c.put-value.new.pool c.self.inside.slots c.swap.new.self c.args.self.now c.args.slot c.swap.result c.args.key.now c.args.value.now c.put-key.result c.put-value.result c.args.meta c.self.invariant c.self.view_is c.swap.ensures.old c.requires.empty c.put-key.ensures c.put-value.ensures c.swap.ensures.new).kept

pub returns : goal.returns
returns c = (set-filled c.self.inside.pool c.put-key.new.pool c.put-value.new.pool c.self.inside.slots c.swap.new.self c.args.self.now c.args.slot c.swap.result c.args.key.now c.args.value.now c.put-key.result c.put-value.result c.args.meta c.self.invariant c.self.view_is c.swap.ensures.old c.requires.empty c.put-key.ensures c.put-value.ensures c.swap.ensures.new).view
