-- What a world is: where the parts of its vBuckets are, and what is known of their histories.
use Rattle.std.specs.Prelude.{◌≡◌, ℕ, zero, suc, ◌+◌, ◌-◌, ◌^◌, min, ◌<◌, ◌≤◌, Bool, false, not, ◌==◌, if◌then◌else◌, List, [], ◌∷◌, ◌++◌, length, map, filter, take, drop, slice_get, slice_set, Option, Some, None}
use Rattle.std.specs.List.{AllByRecursion}
use Rattle.ep_model.specs.declared.config.Config.{Config}
use Rattle.ep_model.specs.declared.event.PartName.{PartName}
use Rattle.ep_model.specs.declared.data.EventData.{EventData}
use Rattle.ep_model.specs.declared.data.FrontData.{FrontData}
use Rattle.ep_model.specs.declared.data.StartData.{StartData}
use Rattle.ep_model.specs.Legal.{IsLegal}
use Rattle.hold_stage.specs.Touches.{there}
pub use Rattle.hold_stage.specs.Slots.{slot_of, name_of, bare_front, StandBare}
use Rattle.vb_world.specs.declared.place.Place.{Place}
use Rattle.vb_world.specs.declared.place.Place.TheVariants.{Home, Out}
use Rattle.vb_world.specs.declared.data.BucketData.{BucketData}
use Rattle.vb_world.specs.declared.data.WorldData.{WorldData}
use Rattle.vb_world.specs.declared.data.FixedData.{FixedData}
use Rattle.vb_world.specs.History.{events_of}

abbrev pub start_of : {P : Type 0} → Option (BucketData P) → Option StartData
start_of None = None
start_of (Some bucket) = bucket.start

-- what is known of the history of a vBucket
abbrev pub front_in : {P : Type 0} → WorldData P → ℕ → FrontData
front_in world id = record { config = world.config; id = id; start = start_of (slice_get world.buckets id); events = events_of id world.history }

abbrev pub place_at : {P : Type 0} → Option (BucketData P) → ℕ → Option (Place P)
place_at None slot = None
place_at (Some bucket) slot = slice_get bucket.places slot

-- where a part of a vBucket is
abbrev pub place_in : {P : Type 0} → WorldData P → ℕ → PartName → Option (Place P)
place_in world id part = if there world.config part then place_at (slice_get world.buckets id) (slot_of world.config part) else None

abbrev pub home_of : {P : Type 0} → Option (Place P) → Option P
home_of None = None
home_of (Some (Home part)) = Some part
home_of (Some (Out caller)) = None

-- a part of a vBucket that is at home
abbrev pub part_in : {P : Type 0} → WorldData P → ℕ → PartName → Option P
part_in world id part = home_of (place_in world id part)

abbrev pub is_out_with : {P : Type 0} → ℕ → Option (Place P) → Bool
is_out_with caller None = false
is_out_with caller (Some (Home part)) = false
is_out_with caller (Some (Out other)) = other == caller

-- the part is out with this caller
abbrev pub has_out : {P : Type 0} → WorldData P → ℕ → ℕ → PartName → Bool
has_out world id caller part = is_out_with caller (place_in world id part)

-- the list with one element changed
abbrev pub changed_at : {A : Type 0} → (A → A) → List A → ℕ → List A
changed_at f [] n = []
changed_at f (x ∷ xs) zero = f x ∷ xs
changed_at f (x ∷ xs) (suc n) = x ∷ changed_at f xs n

abbrev pub put_place : {P : Type 0} → ℕ → Place P → BucketData P → BucketData P
put_place slot place bucket = record bucket { places = slice_set bucket.places slot place }

abbrev pub put_start : {P : Type 0} → StartData → BucketData P → BucketData P
put_start start bucket = record bucket { start = Some start }

-- the ways in which a world changes: where a part is, a start, a part that was missed, and a vBucket more
abbrev pub with_place : {P : Type 0} → WorldData P → ℕ → PartName → Place P → WorldData P
with_place world id part place = record world { buckets = changed_at (put_place (slot_of world.config part) place) world.buckets id }

abbrev pub with_origin : {P : Type 0} → WorldData P → ℕ → StartData → WorldData P
with_origin world id start = record world { buckets = changed_at (put_start start) world.buckets id }

abbrev pub with_loss : {P : Type 0} → WorldData P → WorldData P
with_loss world = record world { losses = min (world.losses + 1) (2 ^ 64 - 1) }

abbrev pub bucket_of : {P : Type 0} → List P → BucketData P
bucket_of parts = record { start = None; places = map Home parts }

abbrev pub with_bucket : {P : Type 0} → WorldData P → List P → WorldData P
with_bucket world parts = record world { buckets = world.buckets ++ bucket_of parts ∷ [] }

abbrev pub no_buckets : {P : Type 0} → Config → WorldData P
no_buckets config = record { config = config; history = []; buckets = []; losses = 0; event_room = 0; byte_room = 0 }

-- What is true of every world.
pub record Sound {P : Type 0} (stands : PartName → FrontData → P → Type 0) (world : WorldData P) : Type 0 where
  pub least : 0 < world.config.stripes
  pub most : world.config.stripes ≤ 64
  pub count : length world.buckets ≤ world.config.vbuckets
  pub shapes : AllByRecursion (λ (bucket : BucketData P). length bucket.places ≡ world.config.stripes + 2) world.buckets
  pub below : AllByRecursion (λ (pair : ℕ × EventData). pair.0 < length world.buckets) world.history
  pub legal : (id : ℕ) → IsLegal (front_in world id)
  pub stand : (id : ℕ) (part : PartName) (x : P) → part_in world id part ≡ Some x → stands part (front_in world id) x

-- what no call at a stage of this vBucket changes
abbrev pub fixed_in : {P : Type 0} → WorldData P → ℕ → FixedData P
fixed_in world vb = record {
  vb = vb;
  config = world.config;
  before = take vb world.buckets;
  behind = drop (vb + 1) world.buckets;
  elsewhere = filter (λ (pair : ℕ × EventData). not (pair.0 == vb)) world.history;
}
