use Rattle.std.proofs.Common.{rules}
use Rattle.std.proofs.lemmas.Fn.{filter_same}
use Rattle.plain_tally.proofs.TallyLemmas.{forget-kept}
use Rattle.plain_tally.proofs.checkpoints.forget.Goals as goal

pub returns-clause-items : goal.returns-clause-items
returns-clause-items c =
    forget-kept c.args.items.now.items c.retain.new.self.items c.args.key.now
    (filter_same _ _ _ (λ x b f' k. search rules) _ _ c.retain.ensures.filtered)
