use Rattle.std.proofs.Common.{ap, ◌∙◌, ◌-◌, ◌^◌, min, arith}
use Rattle.plain_tally.specs.Items.{pinned_cost}
use Rattle.plain_tally.proofs.TallyLemmas.{summed-all, pinned-summed}
use Rattle.plain_tally.proofs.documents.pinned.Goals as goal

pub returns : goal.returns
returns c =
    summed-all (pinned_cost c.args.eviction c.args.stripes c.args.stripe c.args.mark c.args.key.now) c.args.documents.now c.loop-index.index c.loop-index.total (omega (arith, c.loop-index.auto.index-end, c.loop-index-test.false)) c.loop-index.invariant
    ∙ ap (λ n. min n (2 ^ 64 - 1)) (pinned-summed c.args.documents.now c.args.eviction c.args.stripes c.args.stripe c.args.mark c.args.key.now)
