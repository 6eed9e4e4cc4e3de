use Rattle.std.proofs.Common.{rules}
use Rattle.plain_tally.proofs.RoomLemmas.{world-pinned}
use Rattle.plain_tally.proofs.world.PlainWorld.pinned.Goals as goal

pub returns : goal.returns
returns c =
    let w = c.self.inside in
    world-pinned c.args.self.now w.eviction w.stripes w.fit w.state w.documents.items w.high w.maxcas w.persisted c.stripe_of-stripe.result c.args.mark c.pinned.result c.args.key.now c.self.view_is c.self.invariant.1 c.stripe_of-stripe.ensures.stripe (search rules)
