use Rattle.vb_world.specs.Buckets.{bucket_data, world_data}
use Rattle.vb_world.proofs.TurnLemmas.{added}
use Rattle.vb_world.proofs.BucketLemmas.{pushed_data}
use Rattle.vb_world.proofs.world.World.add.Goals as goal

pub invariant_of-self-2 : goal.invariant_of-self-2
invariant_of-self-2 g c =
    let i = c.self.inside in
    (c.self.invariant.0, added g.P.Stands.stands (world_data i.config i.log i.buckets.items i.losses) c.args.self.now c.args.parts.items (bucket_data c.in_ok-bucket.bucket) _ c.self.invariant.1 c.self.view_is c.requires.room c.requires.parts c.requires.stand c.in_ok-bucket.ensures (pushed_data i.buckets.items c.in_ok-bucket.bucket _ c.in_ok-push.ensures.items))

pub returns-clause-sound : goal.returns-clause-sound
returns-clause-sound g c =
    let i = c.self.inside in
    added g.P.Stands.stands (world_data i.config i.log i.buckets.items i.losses) c.args.self.now c.args.parts.items (bucket_data c.in_ok-bucket.bucket) _ c.self.invariant.1 c.self.view_is c.requires.room c.requires.parts c.requires.stand c.in_ok-bucket.ensures (pushed_data i.buckets.items c.in_ok-bucket.bucket _ c.in_ok-push.ensures.items)
