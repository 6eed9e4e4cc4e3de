use Rattle.vb_front.proofs.ServedLemmas.{untold_first}
use Rattle.vb_front.proofs.tests.served.mark.Goals as goal

pub mark_at-requires-clause-untold : goal.mark_at-requires-clause-untold
mark_at-requires-clause-untold c =
    untold_first c.args.world.now c.reserve.new.self c.stage-stage.result.world.now c.reserve.new.self.event_room c.reserve.new.self.byte_room c.stage-stage.result.vb
    c.reserve.ensures.same c.stage-stage.ensures.world c.stage-stage.ensures.vb
    c.args.config.now c.requires.opened
