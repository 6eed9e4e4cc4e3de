use Rattle.std.proofs.Common.{sym, refl, ap, ◌∙◌, ℕ, get_or}
use Rattle.value_pool.specs.Layout.{beyond}
use Rattle.value_pool.proofs.WalkLemmas.{beyond-more}
use Rattle.value_pool.proofs.region.beyond.Goals as goal

pub loop-step-preserved : goal.loop-step-preserved
loop-step-preserved c =
    ap (λ (b : ℕ). get_or c.args.links.now b 0) c.loop-step.invariant
    ∙ sym (beyond-more c.args.links.now c.loop-step._step c.args.first)

pub loop-step-init : goal.loop-step-init
unfolding beyond
loop-step-init c = refl
