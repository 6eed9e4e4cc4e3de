use Rattle.std.proofs.Common.{rules, subst}
use Rattle.ep_model.specs.declared.data.FrontData.{FrontData}
use Rattle.vb_world.specs.World.{front_in}
use Rattle.hold_stage.specs.Priors.{PriorStands}
use Rattle.vb_front.proofs.ServedLemmas.{untold_first, failed_first, prior_failed}
use Rattle.vb_front.proofs.tests.served.fail.Goals as goal

pub fail_at-requires-clause-untold : goal.fail_at-requires-clause-untold
fail_at-requires-clause-untold c =
    untold_first c.args.world.now c.reserve.new.self c.stage-stage.result.world.now c.reserve.new.self.event_room c.reserve.new.self.byte_room c.stage-stage.result.vb
    c.reserve.ensures.same c.stage-stage.ensures.world c.stage-stage.ensures.vb
    c.args.config.now c.requires.opened

pub returns-clause-priors : goal.returns-clause-priors
returns-clause-priors c = λ is call h.
    let front = failed_first c.args.world.now c.reserve.new.self c.stage-stage.result.world.now c.reserve.new.self.event_room c.reserve.new.self.byte_room c.stage-stage.result.vb
    c.reserve.ensures.same c.stage-stage.ensures.world c.stage-stage.ensures.vb
    c.fail_at.new.stage.world.now c.fail_at.new.stage.vb c.stage-stage.result.caller c.fail_at.ensures.stays.fixed c.args.ticket c.args.fault (c.fail_at.ensures.front is) in
    let m : PriorStands (front_in c.fail_at.new.stage.world.now 0) 7 call c.args.ticket =
    prior_failed (front_in c.args.world.now 0) (front_in c.fail_at.new.stage.world.now 0) 7 c.args.fault call c.args.ticket c.args.ticket front h in
    subst (λ (f : FrontData). PriorStands f 7 call c.args.ticket) (search rules) m
