use Rattle.hash_stripe.proofs.TableLemmas.{set-bare}
use Rattle.hash_stripe.proofs.table.Table.fill_ejected.Goals as goal

pub invariant_of-self : goal.invariant_of-self
invariant_of-self c = (set-bare c.self.inside.pool c.put.new.pool c.self.inside.slots c.swap.new.self c.args.self.now c.args.slot c.swap.result c.args.key.now c.put.result c.args.meta c.self.invariant c.self.view_is c.swap.ensures.old c.requires.empty c.put.ensures c.swap.ensures.new).kept

pub returns : goal.returns
returns c = (set-bare c.self.inside.pool c.put.new.pool c.self.inside.slots c.swap.new.self c.args.self.now c.args.slot c.swap.result c.args.key.now c.put.result c.args.meta c.self.invariant c.self.view_is c.swap.ensures.old c.requires.empty c.put.ensures c.swap.ensures.new).view
