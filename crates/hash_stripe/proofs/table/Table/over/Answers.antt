use Rattle.hash_stripe.proofs.TableLemmas.{table-new}
use Rattle.hash_stripe.proofs.table.Table.over.Goals as goal

pub invariant_of-result : goal.invariant_of-result
invariant_of-result c = (table-new c.args.pool c.args.slots c.args.blocks c.requires.few c.requires.pool c.requires.slots).kept

pub returns : goal.returns
returns c = (table-new c.args.pool c.args.slots c.args.blocks c.requires.few c.requires.pool c.requires.slots).view
