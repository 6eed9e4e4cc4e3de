use Rattle.std.proofs.Common.{ap, ◌∙◌, take, ◌∷◌, rules}
use Rattle.failover_table.proofs.TableLemmas.{added}
use Rattle.failover_table.proofs.table.Failovers.add.Goals as goal

pub returns : goal.returns
returns c =
    let done =
    added 24 c.self.inside.entries c.copy_within.new.self c.self.inside.count c.min-self-inside.result (c.args.uuid, c.args.seqno)
    c.self.invariant.1 c.self.invariant.0 (search rules) (search rules)
    ∙ ap (λ l. (c.args.uuid, c.args.seqno) ∷ take 24 l) c.self.view_is in
    search rules
