use Rattle.std.proofs.Common.{refl}
use Rattle.vb_world.specs.Buckets.{world_data}
use Rattle.vb_world.proofs.TurnLemmas.{slot_fits, took, missed}
use Rattle.vb_world.proofs.world.World.take.Goals as goal

pub take_at-requires : goal.take_at-requires
take_at-requires g c =
    let i = c.self.inside in
    slot_fits g.P.Stands.stands (world_data i.config i.log i.buckets.items i.losses) c.args.self.now c.args.part i.buckets.items c.from.result c.slot_of-slot.result c.self.invariant.1 c.self.view_is refl c.requires c.slot_of-slot.ensures.slot

pub invariant_of-self : goal.invariant_of-self
invariant_of-self g c =
    let i = c.self.inside in
    (c.self.invariant.0, took g.P.Stands.stands (world_data i.config i.log i.buckets.items i.losses) c.args.self.now c.args.vb c.args.caller c.args.part c.from.result c.slot_of-slot.result c.in-Some.value _ c.self.invariant.1 c.self.view_is c.requires c.from.ensures c.slot_of-slot.ensures.slot c.in-Some.ensures.taken c.in-Some.ensures.out)

pub invariant_of-self-in-None : goal.invariant_of-self-in-None
invariant_of-self-in-None g c =
    let i = c.self.inside in
    (c.self.invariant.0, missed g.P.Stands.stands (world_data i.config i.log i.buckets.items i.losses) _ _ c.self.invariant.1 c.in-None.ensures.same)

pub returns-in-Some-clause-sound : goal.returns-in-Some-clause-sound
returns-in-Some-clause-sound g c =
    let i = c.self.inside in
    took g.P.Stands.stands (world_data i.config i.log i.buckets.items i.losses) c.args.self.now c.args.vb c.args.caller c.args.part c.from.result c.slot_of-slot.result c.in-Some.value _ c.self.invariant.1 c.self.view_is c.requires c.from.ensures c.slot_of-slot.ensures.slot c.in-Some.ensures.taken c.in-Some.ensures.out

pub returns-in-None-clause-sound : goal.returns-in-None-clause-sound
returns-in-None-clause-sound g c =
    let i = c.self.inside in
    missed g.P.Stands.stands (world_data i.config i.log i.buckets.items i.losses) _ _ c.self.invariant.1 c.in-None.ensures.same
