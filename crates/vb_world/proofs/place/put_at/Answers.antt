use Rattle.std.proofs.Common.{rules}
use Rattle.vb_world.proofs.BucketLemmas.{put_in}
use Rattle.vb_world.proofs.place.put_at.Goals as goal

pub returns : goal.returns
returns g c =
    let done = put_in c.args.buckets.now.items c.args.index c.args.slot c.index_mut-bucket.result.now c.args.place c.requires.index c.index_mut-bucket.ensures.value in
    search rules
