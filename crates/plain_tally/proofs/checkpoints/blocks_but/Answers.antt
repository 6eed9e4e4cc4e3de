use Rattle.std.proofs.Common.{ap, ◌∙◌, ◌-◌, ◌^◌, min, arith}
use Rattle.plain_tally.specs.Items.{other_cost}
use Rattle.plain_tally.proofs.TallyLemmas.{summed-all, others-summed}
use Rattle.plain_tally.proofs.checkpoints.blocks_but.Goals as goal

pub returns : goal.returns
returns c =
    summed-all (other_cost c.args.number c.args.key.now) c.args.items.now c.loop-index.index c.loop-index.total (omega (arith, c.loop-index.auto.index-end, c.loop-index-test.false)) c.loop-index.invariant
    ∙ ap (λ n. min n (2 ^ 64 - 1)) (others-summed c.args.items.now c.args.number c.args.key.now)
