use Rattle.std.proofs.Common.{refl}
use Rattle.vb_world.specs.declared.data.WorldData.{WorldData}
use Rattle.vb_world.specs.Buckets.{world_data}
use Rattle.vb_world.proofs.BucketLemmas.{begun_in}
use Rattle.vb_world.proofs.TurnLemmas.{began, begun_world, is_there}
use Rattle.hold_stage.proofs.StartLemmas.{legal_begun}
use Rattle.vb_world.proofs.world.World.begin.Goals as goal

pub invariant_of-self : goal.invariant_of-self
invariant_of-self g c =
    let i = c.self.inside in
    let w : WorldData g.row.P.Denot = world_data i.config i.log i.buckets.items i.losses in
    let within = is_there g.P.Stands.stands w c.args.self.now c.args.vb c.from.result i.buckets.items c.self.view_is refl c.from.ensures c.requires.vb in (
      c.self.invariant.0,
      began g.P.Stands.stands w c.args.self.now c.args.vb c.from.result g.B.Beginning.start _ legal_begun c.self.invariant.1 c.self.view_is c.requires.vb c.requires.none c.requires.away c.from.ensures
          (begun_in i.buckets.items c.from.result c.index_mut-bucket.result.now c.at-bucket.result g.B.Beginning.start within c.index_mut-bucket.ensures.value c.at-bucket.ensures),
    )

pub returns-clause-begun : goal.returns-clause-begun
returns-clause-begun g c =
    let i = c.self.inside in
    let w : WorldData g.row.P.Denot = world_data i.config i.log i.buckets.items i.losses in
    let within = is_there g.P.Stands.stands w c.args.self.now c.args.vb c.from.result i.buckets.items c.self.view_is refl c.from.ensures c.requires.vb in
    begun_world g.P.Stands.stands w c.args.self.now c.args.vb c.from.result g.B.Beginning.start _ c.self.view_is c.from.ensures
    (begun_in i.buckets.items c.from.result c.index_mut-bucket.result.now c.at-bucket.result g.B.Beginning.start within c.index_mut-bucket.ensures.value c.at-bucket.ensures)

pub returns-clause-sound : goal.returns-clause-sound
returns-clause-sound g c =
    let i = c.self.inside in
    let w : WorldData g.row.P.Denot = world_data i.config i.log i.buckets.items i.losses in
    let within = is_there g.P.Stands.stands w c.args.self.now c.args.vb c.from.result i.buckets.items c.self.view_is refl c.from.ensures c.requires.vb in
    began g.P.Stands.stands w c.args.self.now c.args.vb c.from.result g.B.Beginning.start _ legal_begun c.self.invariant.1 c.self.view_is c.requires.vb c.requires.none c.requires.away c.from.ensures
    (begun_in i.buckets.items c.from.result c.index_mut-bucket.result.now c.at-bucket.result g.B.Beginning.start within c.index_mut-bucket.ensures.value c.at-bucket.ensures)
