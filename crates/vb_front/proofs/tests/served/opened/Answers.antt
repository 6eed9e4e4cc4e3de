use Rattle.std.proofs.Common.{rules, refl, subst}
use Rattle.vb_world.specs.declared.data.WorldData.{WorldData}
use Rattle.vb_front.specs.declared.part.Part.{Part}
use Rattle.vb_front.specs.Opened.{IsOpened}
use Rattle.vb_front.proofs.ServedLemmas.{opened_first}
use Rattle.vb_front.proofs.tests.served.opened.Goals as goal

pub returns-clause-opened : goal.returns-clause-opened
returns-clause-opened c =
    let done = c.if-not-open_at.ensures in
    let m : IsOpened c.args.config.now c.open_at.new.stage.world.now =
    opened_first c.in-Ok.world c.reserve.new.self c.stage-stage.result.world.now c.reserve.new.self.event_room c.reserve.new.self.byte_room c.stage-stage.result.vb
    c.reserve.ensures.same c.stage-stage.ensures.world c.stage-stage.ensures.vb
    c.open_at.new.stage.world.now c.open_at.new.stage.vb c.stage-stage.result.caller done.stays.fixed
    c.args.config.now c.open_at.new.stage.caller c.stage-stage.ensures.caller done.stays.number c.requires.only c.in-Ok.ensures.layout (done.free refl) (done.front refl) in
    subst (λ (w : WorldData Part). IsOpened c.args.config.now w) (search rules) m
