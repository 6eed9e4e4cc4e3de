use Rattle.vb_world.specs.Buckets.{world_data}
use Rattle.vb_world.proofs.TurnLemmas.{gave}
use Rattle.vb_world.proofs.world.World.give.Goals as goal

pub invariant_of-self : goal.invariant_of-self
invariant_of-self g c =
    let i = c.self.inside in
    (c.self.invariant.0, gave g.P.Stands.stands (world_data i.config i.log i.buckets.items i.losses) c.args.self.now c.args.vb c.args.part c.from.result c.slot_of-slot.result c.args.value _ c.self.invariant.1 c.self.view_is c.requires.vb c.requires.there c.requires.stands c.from.ensures c.slot_of-slot.ensures.slot c.put_at.ensures)

pub returns-clause-sound : goal.returns-clause-sound
returns-clause-sound g c =
    let i = c.self.inside in
    gave g.P.Stands.stands (world_data i.config i.log i.buckets.items i.losses) c.args.self.now c.args.vb c.args.part c.from.result c.slot_of-slot.result c.args.value _ c.self.invariant.1 c.self.view_is c.requires.vb c.requires.there c.requires.stands c.from.ensures c.slot_of-slot.ensures.slot c.put_at.ensures
