use Rattle.std.proofs.Common.{rules, refl, subst}
use Rattle.ep_model.specs.declared.data.FrontData.{FrontData}
use Rattle.ep_model.specs.History.{call_data}
use Rattle.vb_world.specs.World.{front_in}
use Rattle.hold_stage.specs.Priors.{PriorStands}
use Rattle.vb_front.specs.Opened.{IsLater}
use Rattle.vb_front.proofs.ServedLemmas.{tried_later, tried_asked}
use Rattle.vb_front.proofs.tests.served.tried.Goals as goal

pub returns-clause-later : goal.returns-clause-later
returns-clause-later g c =
    let t = c.try_call.ensures.tries in
    let m : IsLater (front_in c.args.world.now 0) (front_in c.try_call.new.stage.world.now 0) =
    tried_later c.args.world.now c.reserve.new.self c.stage-stage.result.world.now c.reserve.new.self.event_room c.reserve.new.self.byte_room c.stage-stage.result.vb
    c.reserve.ensures.same c.stage-stage.ensures.world c.stage-stage.ensures.vb
    c.try_call.new.stage.world.now c.try_call.new.stage.vb c.stage-stage.result.caller c.try_call.ensures.stays.fixed (call_data c.args.call.now) c.args.now c.args.prior c.try_call.new.value.bytes t.came (t.alone refl) in
    subst (λ (f : FrontData). IsLater (front_in c.args.world.now 0) f) (search rules) m

pub returns-clause-asked : goal.returns-clause-asked
returns-clause-asked g c = λ ticket is.
    let t = c.try_call.ensures.tries in
    let m : PriorStands (front_in c.try_call.new.stage.world.now 0) 7 (call_data c.args.call.now) ticket =
    tried_asked c.args.world.now c.reserve.new.self c.stage-stage.result.world.now c.reserve.new.self.event_room c.reserve.new.self.byte_room c.stage-stage.result.vb
    c.reserve.ensures.same c.stage-stage.ensures.world c.stage-stage.ensures.vb
    c.try_call.new.stage.world.now c.try_call.new.stage.vb c.stage-stage.result.caller c.try_call.ensures.stays.fixed (call_data c.args.call.now) c.args.now c.args.prior c.try_call.new.value.bytes t.came (t.alone refl)
    t.stripe c.try_call.result ticket c.stage-stage.ensures.caller t.is (let same = is in cc) c.requires.prior in
    subst (λ (f : FrontData). PriorStands f 7 (call_data c.args.call.now) ticket) (search rules) m
