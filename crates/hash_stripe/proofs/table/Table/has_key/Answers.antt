use Rattle.hash_stripe.proofs.TableLemmas.{keyed}
use Rattle.hash_stripe.proofs.table.Table.has_key.Goals as goal

pub returns-in-Some : goal.returns-in-Some
returns-in-Some c =
    keyed c.self.inside.pool.texts c.self.inside.slots c.args.self.now c.args.slot c.node.result c.in-Some.node c.args.key.now c.equals.result c.self.view_is c.node.ensures c.in-Some.is c.equals.ensures
