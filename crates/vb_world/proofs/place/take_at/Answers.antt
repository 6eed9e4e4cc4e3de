use Rattle.std.proofs.Common.{refl}
use Rattle.std.proofs.lemmas.Option.{slice_get_read}
use Rattle.vb_world.specs.declared.place.Place.TheVariants.{Out as OutWith}
use Rattle.vb_world.proofs.BucketLemmas.{taken_at, left_at}
use Rattle.vb_world.proofs.place.take_at.Goals as goal

pub returns-clause-out : goal.returns-clause-out
returns-clause-out g c =
    let found = slice_get_read c.args.buckets.now.items c.args.buckets.now.len c.args.index c.in_ok-bucket.bucket.now c.args.buckets.now.ok.0 (c.in_ok-bucket.ensures.variant.0 refl) c.in_ok-bucket.ensures.value in
    taken_at c.args.buckets.now.items c.args.index c.args.slot c.in_ok-bucket.bucket.now c.deref_mut.result.now c.take_place.new.places (OutWith c.args.caller) c.take_place.result found c.deref_mut.ensures.value c.take_place.auto.places c.take_place.ensures.out

pub returns-clause-same : goal.returns-clause-same
returns-clause-same g c =
    let found = slice_get_read c.args.buckets.now.items c.args.buckets.now.len c.args.index c.in_ok-bucket.bucket.now c.args.buckets.now.ok.0 (c.in_ok-bucket.ensures.variant.0 refl) c.in_ok-bucket.ensures.value in
    left_at c.args.buckets.now.items c.args.index c.in_ok-bucket.bucket.now c.deref_mut.result.now c.take_place.new.places c.take_place.result found c.deref_mut.ensures.value c.take_place.auto.places c.take_place.ensures.same
