-- The ways in which the calls of a world change it, out of what the functions below them say.
use Rattle.std.proofs.Common.{◌≡◌, ℕ, ◌+◌, ◌<◌, true, List, [], ◌∷◌, ◌++◌, length, map, slice_get, Some, None, Result, Ok, Err, IsOk, OnOk, sym, ap, ◌∙◌, subst, arith}
use Rattle.std.specs.Option.{option_map}
use Rattle.std.proofs.lemmas.Option.{slice_get-map}
use Rattle.std.proofs.lemmas.List.{length-map}
use Rattle.ep_model.specs.declared.config.Config.{Config}
use Rattle.ep_model.specs.Config.{config_fault}
use Rattle.ep_model.specs.declared.event.PartName.{PartName}
use Rattle.ep_model.specs.declared.data.EventData.{EventData}
use Rattle.ep_model.specs.declared.data.FrontData.{FrontData}
use Rattle.ep_model.specs.declared.data.StartData.{StartData}
use Rattle.ep_model.specs.Legal.{May}
use Rattle.hold_stage.specs.Touches.{there, touches}
use Rattle.hold_stage.specs.Laws.{LegalBegun}
use Rattle.vb_world.specs.declared.place.Place.TheVariants.{Home, Out}
use Rattle.vb_world.specs.declared.place.Bucket.{Bucket}
use Rattle.vb_world.specs.declared.data.BucketData.{BucketData}
use Rattle.vb_world.specs.declared.data.WorldData.{WorldData}
use Rattle.vb_world.specs.Buckets.{bucket_data}
use Rattle.vb_world.specs.World.{slot_of, home_of, place_at, part_in, front_in, changed_at, put_place, put_start, bucket_of, with_origin, no_buckets, StandBare, Sound}
use Rattle.vb_world.proofs.ListLemmas.{all-get}
use Rattle.hold_stage.proofs.SlotLemmas.{slot_within}
use Rattle.vb_world.proofs.PlaceLemmas.{home_within, part_there}
use Rattle.vb_world.proofs.SoundLemmas.{sound_placed, sound_beside, sound_begun, sound_noted, sound_pushed, sound_empty, TouchesLaw}

module _ {P : Type 0} (stands : PartName → FrontData → P → Type 0) where
  -- a part's place is one of its vBucket
  pub slot_fits : (w old : WorldData P) (part : PartName) (buckets : List (Bucket P)) (n slot : ℕ) → Sound stands w → w ≡ old → w.buckets ≡ map bucket_data buckets
      → there old.config part ≡ true → slot ≡ slot_of w.config part → (bucket : Bucket P) → slice_get buckets n ≡ Some bucket → slot < length bucket.places.items
  slot_fits w old part buckets n slot s is are here at bucket e =
      let found : slice_get w.buckets n ≡ Some (bucket_data bucket) = ap (λ (bs : List (BucketData P)). slice_get bs n) are ∙ (slice_get-map bucket_data buckets n ∙ ap (option_map bucket_data) e) in
      let shape : length bucket.places.items ≡ w.config.stripes + 2 = all-get (λ (b : BucketData P). length b.places ≡ w.config.stripes + 2) w.buckets n (bucket_data bucket) s.shapes found in
      let low : slot_of w.config part < w.config.stripes + 2 = slot_within w.config part (ap (λ (d : WorldData P). there d.config part) is ∙ here) in
      omega arith

  -- a part was taken out
  pub took : (w old : WorldData P) (vb caller : ℕ) (part : PartName) (n slot : ℕ) (x : P) (buckets : List (BucketData P)) → Sound stands w → w ≡ old → there old.config part ≡ true
      → n ≡ vb → slot ≡ slot_of w.config part → Some x ≡ home_of (place_at (slice_get w.buckets n) slot) → buckets ≡ changed_at (put_place slot (Out caller)) w.buckets n
      → Sound stands (record w { buckets = buckets })
  took w old vb caller part n slot x buckets s is here at of had changed =
      let there_w : there w.config part ≡ true = ap (λ (d : WorldData P). there d.config part) is ∙ here in
      let part_is : part_in w n part ≡ Some x = part_there w n part there_w ∙ (ap (λ (k : ℕ). home_of (place_at (slice_get w.buckets n) k)) (sym of) ∙ sym had) in
      let within : n < length w.buckets = (home_within w n part x part_is).0 in
      let e : buckets ≡ changed_at (put_place (slot_of w.config part) (Out caller)) w.buckets n = changed ∙ ap (λ (k : ℕ). changed_at (put_place k (Out caller)) w.buckets n) of in
      subst (λ (bs : List (BucketData P)). Sound stands (record w { buckets = bs })) (sym e)
      (sound_placed stands w n part (Out caller) s there_w within (λ y h. absurd (cc)))

  -- a part was missed
  pub missed : (w : WorldData P) (losses : ℕ) (buckets : List (BucketData P)) → Sound stands w → buckets ≡ w.buckets → Sound stands (record w { buckets = buckets; losses = losses })
  missed w losses buckets s e =
      subst (λ (bs : List (BucketData P)). Sound stands (record w { buckets = bs; losses = losses })) (sym e) (sound_beside stands w losses w.event_room w.byte_room s)

  -- a part was given back
  pub gave : (w old : WorldData P) (vb : ℕ) (part : PartName) (n slot : ℕ) (x : P) (buckets : List (BucketData P)) → Sound stands w → w ≡ old
      → vb < length old.buckets → there old.config part ≡ true → stands part (front_in old vb) x
      → n ≡ vb → slot ≡ slot_of w.config part → buckets ≡ changed_at (put_place slot (Home x)) w.buckets n → Sound stands (record w { buckets = buckets })
  gave w old vb part n slot x buckets s is within here stand at of changed =
      let there_w : there w.config part ≡ true = ap (λ (d : WorldData P). there d.config part) is ∙ here in
      let k : length w.buckets ≡ length old.buckets = ap (λ (d : WorldData P). length d.buckets) is in
      let e : buckets ≡ changed_at (put_place (slot_of w.config part) (Home x)) w.buckets vb =
      changed ∙ (ap (λ (m : ℕ). changed_at (put_place m (Home x)) w.buckets n) of ∙ ap (λ (m : ℕ). changed_at (put_place (slot_of w.config part) (Home x)) w.buckets m) at) in
      let stand_w : stands part (front_in w vb) x = subst (λ (d : WorldData P). stands part (front_in d vb) x) (sym is) stand in
      subst (λ (bs : List (BucketData P)). Sound stands (record w { buckets = bs })) (sym e)
      (sound_placed stands w vb part (Home x) s there_w (omega arith) (λ y h. let same : x ≡ y = cc in subst (λ (z : P). stands part (front_in w vb) z) same stand_w))

  -- a start was put
  pub began : (w old : WorldData P) (vb n : ℕ) (start : StartData) (buckets : List (BucketData P)) → LegalBegun → Sound stands w → w ≡ old
      → vb < length old.buckets → (front_in old vb).start ≡ None → ((p : PartName) → part_in old vb p ≡ None)
      → n ≡ vb → buckets ≡ changed_at (put_start start) w.buckets n → Sound stands (record w { buckets = buckets })
  began w old vb n start buckets law s is within bare away at changed =
      let k : length w.buckets ≡ length old.buckets = ap (λ (d : WorldData P). length d.buckets) is in
      subst (λ (bs : List (BucketData P)). Sound stands (record w { buckets = bs })) (sym (changed ∙ ap (λ (m : ℕ). changed_at (put_start start) w.buckets m) at))
      (sound_begun stands w vb start law s (omega arith) (ap (λ (d : WorldData P). (front_in d vb).start) is ∙ bare) (λ p. ap (λ (d : WorldData P). part_in d vb p) is ∙ away p))

  -- an event was noted
  pub noted_so : {T E : Type 0} (w old : WorldData P) (vb : ℕ) (event : EventData) (history : List (ℕ × EventData)) (events bytes : ℕ) (result : Result T E) → TouchesLaw stands → Sound stands w → w ≡ old
      → vb < length old.buckets → ((p : PartName) → touches (front_in old vb) event p ≡ true → part_in old vb p ≡ None) → May (front_in old vb) event
      → IsOk result → OnOk result (history ≡ w.history ++ (vb, event) ∷ []) → Sound stands (record w { history = history; event_room = events; byte_room = bytes })
  noted_so w old vb event history events bytes (Err e) keeps s is within away may ok noted = absurd (cc)
  noted_so w old vb event history events bytes (Ok x) keeps s is within away may ok noted =
      let k : length w.buckets ≡ length old.buckets = ap (λ (d : WorldData P). length d.buckets) is in
      let away_w : (p : PartName) → touches (front_in w vb) event p ≡ true → part_in w vb p ≡ None =
      λ p h. ap (λ (d : WorldData P). part_in d vb p) is ∙ away p (ap (λ (d : WorldData P). touches (front_in d vb) event p) (sym is) ∙ h) in
      let may_w : May (front_in w vb) event = subst (λ (d : WorldData P). May (front_in d vb) event) (sym is) may in
      subst (λ (h : List (ℕ × EventData)). Sound stands (record w { history = h; event_room = events; byte_room = bytes })) (sym noted)
      (sound_noted stands w vb event events bytes keeps s (omega arith) may_w away_w)

  -- a vBucket was added
  pub added : (w old : WorldData P) (parts : List P) (bucket : BucketData P) (buckets : List (BucketData P)) → Sound stands w → w ≡ old
      → length old.buckets < old.config.vbuckets → length parts ≡ old.config.stripes + 2 → StandBare stands old.config (length old.buckets) parts
      → bucket ≡ bucket_of parts → buckets ≡ w.buckets ++ bucket ∷ [] → Sound stands (record w { buckets = buckets })
  added w old parts bucket buckets s is room shape bare made pushed =
      let e : buckets ≡ w.buckets ++ bucket_of parts ∷ [] = pushed ∙ ap (λ (b : BucketData P). w.buckets ++ b ∷ []) made in
      subst (λ (bs : List (BucketData P)). Sound stands (record w { buckets = bs })) (sym e)
      (sound_pushed stands w parts s (subst (λ (d : WorldData P). length d.buckets < d.config.vbuckets) (sym is) room)
      (shape ∙ ap (λ (d : WorldData P). d.config.stripes + 2) (sym is)) (subst (λ (d : WorldData P). StandBare stands d.config (length d.buckets) parts) (sym is) bare))

  -- the vBucket whose start is put is there
  pub is_there : (w old : WorldData P) (vb n : ℕ) (buckets : List (Bucket P)) → w ≡ old → w.buckets ≡ map bucket_data buckets → n ≡ vb → vb < length old.buckets → n < length buckets
  is_there w old vb n buckets is are at within =
      let k : length w.buckets ≡ length old.buckets = ap (λ (d : WorldData P). length d.buckets) is in
      let m : length w.buckets ≡ length buckets = ap length are ∙ length-map buckets bucket_data in
      omega arith

  -- and its world is the old one with that start
  pub begun_world : (w old : WorldData P) (vb n : ℕ) (start : StartData) (buckets : List (BucketData P)) → w ≡ old → n ≡ vb → buckets ≡ changed_at (put_start start) w.buckets n
      → record w { buckets = buckets } ≡ with_origin old vb start
  begun_world w old vb n start buckets is at changed =
      ap (λ (bs : List (BucketData P)). record w { buckets = bs }) (changed ∙ ap (λ (m : ℕ). changed_at (put_start start) w.buckets m) at) ∙ ap (λ (d : WorldData P). with_origin d vb start) is

  -- a world was made
  pub made : (config : Config) (history : List (ℕ × EventData)) (buckets : List (BucketData P)) (losses events bytes : ℕ) → config_fault config ≡ None → history ≡ [] → buckets ≡ []
      → Sound stands (record { config = config; history = history; buckets = buckets; losses = losses; event_room = events; byte_room = bytes })
  made config history buckets losses events bytes fine bare empty =
      subst (λ (h : List (ℕ × EventData)). Sound stands (record { config = config; history = h; buckets = buckets; losses = losses; event_room = events; byte_room = bytes })) (sym bare)
      (subst (λ (bs : List (BucketData P)). Sound stands (record { config = config; history = []; buckets = bs; losses = losses; event_room = events; byte_room = bytes })) (sym empty)
      (sound_beside stands (no_buckets config) losses events bytes (sound_empty stands config fine)))
