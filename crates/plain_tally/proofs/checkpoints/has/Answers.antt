use Rattle.std.proofs.Common.{◌∙◌, ap, Option, ℕ}
use Rattle.std.specs.Prelude.{is_some}
use Rattle.plain_tally.proofs.TallyLemmas.{has-position}
use Rattle.plain_tally.proofs.checkpoints.has.Goals as goal

pub returns : goal.returns
returns c = c.is_some.ensures ∙ ap (λ (o : Option ℕ). is_some o) c.position_of.ensures ∙ has-position c.args.items.now c.args.key.now 0
