use Rattle.std.proofs.Common.{ap, ◌∙◌}
use Rattle.hash_stripe.specs.Nodes.{first_empty}
use Rattle.hash_stripe.proofs.TableLemmas.{none-empty}
use Rattle.hash_stripe.proofs.table.Table.first_empty.Goals as goal

pub returns-clause-slot : goal.returns-clause-slot
returns-clause-slot c = c.first_empty.ensures.slot ∙ none-empty c.self.inside.pool.texts c.self.inside.slots 0 ∙ ap first_empty c.self.view_is
