-- A write of the places of a vBucket of memory, as clauses see it.
use Rattle.std.proofs.Common.{◌≡◌, ℕ, ◌<◌, List, [], ◌∷◌, ◌++◌, length, map, slice_get, slice_set, slice_index_or, Option, Some, None, OnSome, IfNone, refl, sym, ap, ◌∙◌}
use Rattle.std.specs.Vec.{with_items, with_item}
use Rattle.std.proofs.lemmas.List.{with_items_is, map-append}
use Rattle.std.proofs.lemmas.Option.{slice_get_read}
use Rattle.ep_model.specs.declared.data.StartData.{StartData}
use Rattle.vb_world.specs.declared.origin.Origin.{Origin}
use Rattle.vb_world.specs.declared.place.Bucket.{Bucket}
use Rattle.vb_world.specs.declared.place.Place.{Place}
use Rattle.vb_world.specs.declared.data.BucketData.{BucketData}
use Rattle.vb_world.specs.Buckets.{bucket_data}
use Rattle.vb_world.specs.World.{changed_at, put_place, put_start}
use Rattle.vb_world.proofs.ListLemmas.{map-set_changed, map-set_kept}

module _ {P : Type 0} where
  -- the vBucket with these places
  abbrev pub placed : Bucket P → List (Place P) → Bucket P
  placed bucket places = record { origin = bucket.origin; places = with_items bucket.places places }

  placed_data : (bucket : Bucket P) (places : List (Place P)) → length places ≡ length bucket.places.items → bucket_data (placed bucket places) ≡ record (bucket_data bucket) { places = places }
  placed_data bucket places e = ap (λ (ys : List (Place P)). record (bucket_data bucket) { places = ys }) (with_items_is bucket.places places (e ∙ sym bucket.places.ok.0))

  pub taken_at : {X : Type 0} (buckets : List (Bucket P)) (i slot : ℕ) (bucket : Bucket P) (old places : List (Place P)) (place : Place P) (result : Option X)
      → slice_get buckets i ≡ Some bucket → old ≡ bucket.places.items → length places ≡ length old → OnSome result (places ≡ slice_set old slot place)
      → OnSome result (map bucket_data (slice_set buckets i (placed bucket places)) ≡ changed_at (put_place slot place) (map bucket_data buckets) i)
  taken_at buckets i slot bucket old places place None found was same written = tt
  taken_at buckets i slot bucket old places place (Some x) found was same written =
      map-set_changed bucket_data (put_place slot place) buckets i (placed bucket places) (λ b e.
      let is : b ≡ bucket = cc in
      placed_data bucket places (same ∙ ap length was) ∙ (ap (λ (ys : List (Place P)). record (bucket_data bucket) { places = ys }) (written ∙ ap (λ (ys : List (Place P)). slice_set ys slot place) was) ∙ ap (λ (y : Bucket P). put_place slot place (bucket_data y)) (sym is)))

  pub left_at : {X : Type 0} (buckets : List (Bucket P)) (i : ℕ) (bucket : Bucket P) (old places : List (Place P)) (result : Option X)
      → slice_get buckets i ≡ Some bucket → old ≡ bucket.places.items → length places ≡ length old → IfNone result (places ≡ old)
      → IfNone result (map bucket_data (slice_set buckets i (placed bucket places)) ≡ map bucket_data buckets)
  left_at buckets i bucket old places None found was same left =
      map-set_kept bucket_data buckets i (placed bucket places) (λ b e.
      let is : b ≡ bucket = cc in
      placed_data bucket places (same ∙ ap length was) ∙ (ap (λ (ys : List (Place P)). record (bucket_data bucket) { places = ys }) (left ∙ was) ∙ ap (λ (y : Bucket P). bucket_data y) (sym is)))
  left_at buckets i bucket old places (Some x) found was same left = tt

  -- a place was written
  pub put_in : (buckets : List (Bucket P)) (i slot : ℕ) (bucket : Bucket P) (place : Place P) → i < length buckets → bucket ≡ slice_index_or buckets i bucket
      → map bucket_data (slice_set buckets i (record { origin = bucket.origin; places = with_item bucket.places slot place })) ≡ changed_at (put_place slot place) (map bucket_data buckets) i
  put_in buckets i slot bucket place within is =
      map-set_changed bucket_data (put_place slot place) buckets i _ (λ b e.
      let same : bucket ≡ b = cc (slice_get_read buckets (length buckets) i bucket refl within is, e) in
      ap (λ (y : Bucket P). put_place slot place (bucket_data y)) same)

  -- a start was put
  pub begun_in : (buckets : List (Bucket P)) (i : ℕ) (bucket : Bucket P) (origin : Origin) (start : StartData) → i < length buckets → bucket ≡ slice_index_or buckets i bucket → origin.start ≡ Some start
      → map bucket_data (slice_set buckets i (record { origin = origin; places = bucket.places })) ≡ changed_at (put_start start) (map bucket_data buckets) i
  begun_in buckets i bucket origin start within is put =
      map-set_changed bucket_data (put_start start) buckets i _ (λ b e.
      let same : bucket ≡ b = cc (slice_get_read buckets (length buckets) i bucket refl within is, e) in
      let here : BucketData P = bucket_data (record { origin = origin; places = bucket.places }) in
      let put_here : here ≡ put_start start (bucket_data bucket) = ap (λ (o : Option StartData). record { start = o; places = bucket.places.items }) put in
      ◌∙◌ {b = put_start start (bucket_data bucket)} put_here (ap (λ (y : Bucket P). put_start start (bucket_data y)) same))

  -- a vBucket was pushed
  pub pushed_data : (buckets : List (Bucket P)) (bucket : Bucket P) (new : List (Bucket P)) → new ≡ buckets ++ bucket ∷ [] → map bucket_data new ≡ map bucket_data buckets ++ bucket_data bucket ∷ []
  pushed_data buckets bucket new e = ap (λ (bs : List (Bucket P)). map bucket_data bs) e ∙ map-append bucket_data buckets (bucket ∷ [])
