use Rattle.std.proofs.Common.{rules, ◌≡◌, []}
use Rattle.ep_model.specs.declared.call.StoreKind.TheVariants.{Set as SetKind}
use Rattle.ep_model.specs.declared.data.CallData.TheVariants.{Store as StoreData}
use Rattle.ep_drill.proofs.WorkedLemmas.{tried_at}
use Rattle.ep_drill.proofs.worked.set_at.Goals as goal

-- src/worked.rt
pub returns-clause-ok : goal.returns-clause-ok
returns-clause-ok c =
    let same : StoreData SetKind c.deref.result.now c.deref-2.result.now c.args.call.now.flags c.args.call.now.expiration c.args.call.now.cas ≡ StoreData SetKind c.args.call.now.key.bytes.items c.args.call.now.value.items c.args.call.now.flags c.args.call.now.expiration c.args.call.now.cas = search rules in
    let m = (tried_at c.args.config.now c.args.world.now c.reserve.new.self c.stage-stage.result.world.now c.try_set-step.new.stage.world.now c.args.vb c.stage-stage.result.vb c.try_set-step.new.stage.vb c.reserve.new.self.event_room c.reserve.new.self.byte_room c.args.number
    c.stage-stage.result.caller c.args.now (StoreData SetKind c.args.call.now.key.bytes.items c.args.call.now.value.items c.args.call.now.flags c.args.call.now.expiration c.args.call.now.cas) (StoreData SetKind c.deref.result.now c.deref-2.result.now c.args.call.now.flags c.args.call.now.expiration c.args.call.now.cas) c.args.prior [] c.try_set-step.result c.requires.ready c.requires.vb c.reserve.ensures.same c.stage-stage.ensures.world c.stage-stage.ensures.vb c.stage-stage.ensures.caller same
    c.try_set-step.ensures.stays.fixed c.try_set-step.ensures.home c.try_set-step.ensures.front c.try_set-step.ensures.err c.try_set-step.ensures.parts).0 in
    search rules

pub returns-clause-err : goal.returns-clause-err
returns-clause-err c =
    let same : StoreData SetKind c.deref.result.now c.deref-2.result.now c.args.call.now.flags c.args.call.now.expiration c.args.call.now.cas ≡ StoreData SetKind c.args.call.now.key.bytes.items c.args.call.now.value.items c.args.call.now.flags c.args.call.now.expiration c.args.call.now.cas = search rules in
    let m = (tried_at c.args.config.now c.args.world.now c.reserve.new.self c.stage-stage.result.world.now c.try_set-step.new.stage.world.now c.args.vb c.stage-stage.result.vb c.try_set-step.new.stage.vb c.reserve.new.self.event_room c.reserve.new.self.byte_room c.args.number
    c.stage-stage.result.caller c.args.now (StoreData SetKind c.args.call.now.key.bytes.items c.args.call.now.value.items c.args.call.now.flags c.args.call.now.expiration c.args.call.now.cas) (StoreData SetKind c.deref.result.now c.deref-2.result.now c.args.call.now.flags c.args.call.now.expiration c.args.call.now.cas) c.args.prior [] c.try_set-step.result c.requires.ready c.requires.vb c.reserve.ensures.same c.stage-stage.ensures.world c.stage-stage.ensures.vb c.stage-stage.ensures.caller same
    c.try_set-step.ensures.stays.fixed c.try_set-step.ensures.home c.try_set-step.ensures.front c.try_set-step.ensures.err c.try_set-step.ensures.parts).1 in
    search rules
