use Rattle.vb_front.proofs.OpenedLemmas.{stripe_ejected}
use Rattle.vb_front.proofs.tests.opened.eject_at.Goals as goal

pub give_all-requires-clause-stripe : goal.give_all-requires-clause-stripe
give_all-requires-clause-stripe g c =
    let t = c.take_all in let x = c.in-Some.parts.stripe in let r = c.room_for-made in
    stripe_ejected (g.S.Stage.front t.new.stage) _ _ x r.new.self c.free-free.ensures.sound r.ensures.ejects c.in-Some.ensures.stripe r.ensures.rest
