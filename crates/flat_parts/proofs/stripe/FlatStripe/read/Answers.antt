use Rattle.std.proofs.Common.{List, ℕ, ◌++◌, sym, ap, ◌∙◌}
use Rattle.flat_parts.proofs.ShowLemmas.{read-shows, ok_here}
use Rattle.flat_parts.proofs.stripe.FlatStripe.read.Goals as goal

pub returns-in-None-clause-value : goal.returns-in-None-clause-value
returns-in-None-clause-value c =
    ok_here c.wait.result
    (c.look.ensures.value ∙ ap (λ (shown : List ℕ). c.args.value.now.bytes ++ shown) (sym (read-shows c.args.self.now c.args.prior c.args.key.now c.args.now)))
