-- What a world of memory stands for.
use Rattle.std.specs.Prelude.{ℕ, List, map}
use Rattle.ep_model.specs.declared.config.Config.{Config}
use Rattle.vb_world.specs.declared.event_log.EventLog.{EventLog}
use Rattle.vb_world.specs.declared.place.Bucket.{Bucket}
use Rattle.vb_world.specs.declared.data.BucketData.{BucketData}
use Rattle.vb_world.specs.declared.data.WorldData.{WorldData}
use Rattle.vb_world.specs.EventLog.{pairs_of, event_room, byte_room}

abbrev pub bucket_data : {P : Type 0} → Bucket P → BucketData P
bucket_data bucket = record { start = bucket.origin.start; places = bucket.places.items }

abbrev pub world_data : {P : Type 0} → Config → EventLog → List (Bucket P) → ℕ → WorldData P
world_data config log buckets losses = record {
  config = config;
  history = pairs_of log;
  buckets = map bucket_data buckets;
  losses = losses;
  event_room = event_room log;
  byte_room = byte_room log;
}
