use Rattle.std.proofs.Common.{rules, ◌≡◌}
use Rattle.ep_model.specs.declared.data.CallData.TheVariants.{Get as GetData}
use Rattle.ep_drill.proofs.WorkedLemmas.{tried_at}
use Rattle.ep_drill.proofs.worked.get_at.Goals as goal

-- src/worked.rt
pub returns-clause-ok : goal.returns-clause-ok
returns-clause-ok c =
    let same : GetData c.deref.result.now ≡ GetData c.args.key.now.bytes.items = search rules in
    let m = (tried_at c.args.config.now c.args.world.now c.reserve.new.self c.stage-stage.result.world.now c.try_get-step.new.stage.world.now c.args.vb c.stage-stage.result.vb c.try_get-step.new.stage.vb c.reserve.new.self.event_room c.reserve.new.self.byte_room c.args.number
    c.stage-stage.result.caller c.args.now (GetData c.args.key.now.bytes.items) (GetData c.deref.result.now) c.args.prior c.try_get-step.new.value.bytes c.try_get-step.result c.requires.ready c.requires.vb c.reserve.ensures.same c.stage-stage.ensures.world c.stage-stage.ensures.vb c.stage-stage.ensures.caller same
    c.try_get-step.ensures.stays.fixed c.try_get-step.ensures.home c.try_get-step.ensures.front c.try_get-step.ensures.err c.try_get-step.ensures.parts).0 in
    search rules

pub returns-clause-err : goal.returns-clause-err
returns-clause-err c =
    let same : GetData c.deref.result.now ≡ GetData c.args.key.now.bytes.items = search rules in
    let m = (tried_at c.args.config.now c.args.world.now c.reserve.new.self c.stage-stage.result.world.now c.try_get-step.new.stage.world.now c.args.vb c.stage-stage.result.vb c.try_get-step.new.stage.vb c.reserve.new.self.event_room c.reserve.new.self.byte_room c.args.number
    c.stage-stage.result.caller c.args.now (GetData c.args.key.now.bytes.items) (GetData c.deref.result.now) c.args.prior c.try_get-step.new.value.bytes c.try_get-step.result c.requires.ready c.requires.vb c.reserve.ensures.same c.stage-stage.ensures.world c.stage-stage.ensures.vb c.stage-stage.ensures.caller same
    c.try_get-step.ensures.stays.fixed c.try_get-step.ensures.home c.try_get-step.ensures.front c.try_get-step.ensures.err c.try_get-step.ensures.parts).1 in
    search rules
