use Rattle.std.proofs.Common.{arith}
use Rattle.ep_drill.proofs.OpenLemmas.{stripe_given}
use Rattle.ep_drill.proofs.open.give_stripes.Goals as goal

pub give-requires-clause-stands : goal.give-requires-clause-stands
give-requires-clause-stands g c =
    let l = c.loop-stripe in
    let here = c.loop-stripe-test.true in
    let all = c.requires.stripes in
    stripe_given (g.S.Stage.front c.args.stage.now) (g.S.Stage.front l.stage) l.stripe c.new-part.result c.open.new.self c.requires.opened l.invariant.front (omega arith) c.new-part.ensures c.open.ensures
