use Rattle.std.proofs.Common.{refl}
use Rattle.mcbp_frame.proofs.HeldBytesLemmas.{held-after_frame}
use Rattle.mcbp_frame.proofs.feeder.Feeder.next.Goals as goal

pub returns-in-Frame : goal.returns-in-Frame
returns-in-Frame c =
    let given = rw c.deref.ensures.value at c.in-Frame.ensures in
    let b = c.self.inside in
    let after = held-after_frame b.buffer.items b.start b.end b.at c.in-Frame.frame c.self.invariant.0 c.self.invariant.1 given in
    rw (c.in-Frame.is, c.place_behind-self-inside.ensures, ← c.self.view_is) ((refl, λ _. tt, after), record { gives = given; after = tt })
