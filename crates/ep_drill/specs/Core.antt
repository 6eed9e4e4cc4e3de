-- What is true of a core between two steps, and how a step moves it.
use Rattle.std.specs.Prelude.{◌≡◌, ◌≢◌, ◌⊎◌, ℕ, ◌-◌, ◌^◌, min, ◌<◌, ◌≤◌, true, false, List, map, ◌++◌, length, slice_get, Option, Some, None, IsSome, IfSome}
use Rattle.std.specs.Option.{option_map}
use Rattle.std.specs.List.{AllByRecursion}
use Rattle.ep_model.specs.declared.config.Config.{Config}
use Rattle.ep_model.specs.declared.config.Eviction.TheVariants.{Value}
use Rattle.ep_model.specs.declared.data.CallData.{CallData}
use Rattle.ep_model.specs.declared.data.EventData.{EventData}
use Rattle.ep_model.specs.declared.data.FrontData.{FrontData}
use Rattle.ep_model.specs.declared.event.Ticket.{Ticket}
use Rattle.ep_model.specs.Config.{config_fault}
use Rattle.ep_model.specs.Limits.{event_bytes}
use Rattle.ep_model.specs.Front.{world_of}
use Rattle.hold_stage.specs.Touches.{is_call, touches_call}
use Rattle.kv_keeper.specs.declared.data.BatchData.{BatchData}
use Rattle.vb_world.specs.declared.data.WorldData.{WorldData}
use Rattle.vb_world.specs.World.{front_in, part_in, Sound}
use Rattle.ep_drill.specs.declared.part.Part.{Part}
use Rattle.ep_drill.specs.declared.bench.Bench.{Bench}
use Rattle.ep_drill.specs.declared.data.BenchData.{BenchData}
use Rattle.ep_drill.specs.declared.data.CallerData.{CallerData}
use Rattle.ep_drill.specs.declared.data.CoreData.{CoreData}
use Rattle.ep_drill.specs.declared.data.FetchedData.{FetchedData}
use Rattle.ep_drill.specs.declared.data.FoundData.TheVariants as founds
use Rattle.ep_model.specs.declared.event.PartName.{PartName}
use Rattle.ep_drill.specs.Parts.{part_stands}
use Rattle.flat_parts.specs.declared.data.Step.{Step}
use Rattle.ep_drill.specs.declared.owned.Caller.{Caller}
use Rattle.hold_stage.specs.Went.{with_noted}
use Rattle.ep_drill.specs.Calls.{event_of, AreHome}
use Rattle.hold_stage.specs.Stays.{KeptBut}
use Rattle.ep_drill.specs.Callers.{CallerStands, caller_data, next_of, after_step}
use Rattle.ep_drill.specs.Fetches.{fetched_data}
use Rattle.ep_drill.specs.Stands.{DeskStands, BatchStands, FetchedStands}
use Rattle.ep_drill.specs.Tries.{CallComesTo, NeedsMemory}

abbrev pub bench_data : {K : Type 0} → Bench K → BenchData
bench_data bench = record { desk = bench.desk; batch = bench.batch; reads = map (option_map fetched_data) bench.reads.items }

-- A vBucket's desk, batch and reads stand for its history, whose start is told, and its store tells what it holds. All that its store is known to hold is noted, failed reads
-- have numbers of their own, and no batch is left over once a commit failed.
pub record BenchStands (f : FrontData) (bench : BenchData) : Type 0 where
  pub opened : (world_of f).opened ≡ true
  pub told : (world_of f).told ≡ true
  pub desk : DeskStands f bench.desk
  pub tells : IsSome bench.desk.keeper.content
  pub known : bench.desk.stored ≡ bench.desk.noted
  pub batch : IfSome bench.batch (λ b. BatchStands f bench.desk.stored b)
  pub sure : IfSome bench.batch (λ _. bench.desk.doubt ≡ None)
  pub count : length bench.reads ≡ f.config.stripes
  pub reads : (stripe : ℕ) (r : FetchedData) → slice_get bench.reads stripe ≡ Some (Some r) → FetchedStands f r × (r.ticket.stripe ≡ stripe)
  pub faults : (stripe : ℕ) (r : FetchedData) (fault : ℕ) → slice_get bench.reads stripe ≡ Some (Some r) → r.found ≡ founds.Failed fault → (1 ≤ fault) × (fault ≤ bench.desk.read_faults)
  pub apart : (a b : ℕ) (r q : FetchedData) (x y : ℕ) → a ≢ b → slice_get bench.reads a ≡ Some (Some r) → slice_get bench.reads b ≡ Some (Some q) → r.found ≡ founds.Failed x → q.found ≡ founds.Failed y → x ≢ y

-- a core's vBuckets are there, opened, and their parts at home
pub record Ready (config : Config) (world : WorldData Part) : Type 0 where
  pub fault : config_fault config ≡ None
  pub eviction : config.eviction ≡ Value
  pub layout : world.config ≡ config
  pub count : length world.buckets ≡ config.vbuckets
  pub home : (vb : ℕ) → vb < config.vbuckets → AreHome config (part_in world vb)

-- One vBucket's history got an event more, or none, and the others' none; all parts are at home again, those of the others as
-- they were.
pub record Moved (config : Config) (vb : ℕ) (event : Option EventData) (old new : WorldData Part) : Type 0 where
  pub ready : Ready config new
  pub front : front_in new vb ≡ with_noted (front_in old vb) event
  pub others : (u : ℕ) → u ≢ vb → front_in new u ≡ front_in old u
  pub apart : (u : ℕ) → u ≢ vb → (p : PartName) → part_in new u p ≡ part_in old u p

-- the same, by an event that isn't a call's
pub record Worked (config : Config) (vb : ℕ) (old new : WorldData Part) : Type 0 where
  pub event : Option EventData
  pub moved : Moved config vb event old new
  pub quiet : IfSome event (λ e. is_call e ≡ false)

-- the history has no room for one event more
abbrev pub LacksEventRoom : WorldData Part → Type 0
LacksEventRoom world = world.event_room ≡ 0

-- or not for one of a call, with as many bytes as it may take
abbrev pub LacksCallRoom : WorldData Part → Type 0
LacksCallRoom world = (world.event_room < 1) ⊎ (world.byte_room < event_bytes)

-- Memory may be wanting for a call: where the history has no room for its event, or where the call takes memory itself.
abbrev pub MayWant : Config → WorldData Part → ℕ × CallData → ℕ → Option Ticket → Type 0
MayWant config world call now prior = LacksCallRoom world ⊎ NeedsMemory config (part_in world call.0) call.1 now prior

-- a caller has a next call, and memory may be wanting for it
abbrev pub NextMayWant : Config → WorldData Part → CallerData → ℕ → Type 0
NextMayWant config world caller now = (call : ℕ × CallData) × (next_of caller ≡ Some call) × MayWant config world call now caller.prior

-- nothing happened, but that there may be room for more
pub record Rested (config : Config) (old new : WorldData Part) : Type 0 where
  pub ready : Ready config new
  pub fronts : (u : ℕ) → front_in new u ≡ front_in old u
  pub parts : (u : ℕ) (p : PartName) → part_in new u p ≡ part_in old u p

-- A caller's next call came to this, and its event is noted where it has one; or there is no next call, and nothing happened.
abbrev pub CallerTurned : Config → ℕ → ℕ → WorldData Part → WorldData Part → CallerData → CallerData → List ℕ → Option Step → Type 0
CallerTurned config number now old new caller after value None = (new ≡ old) × (after ≡ caller) × (next_of caller ≡ None)
CallerTurned config number now old new caller after value (Some step) =
    (call : ℕ × CallData) × (next_of caller ≡ Some call) × Moved config call.0 (event_of number call.1 now caller.prior value step) old new × (after ≡ after_step step caller)
    × CallComesTo config (part_in old call.0) (part_in new call.0) call.1 now caller.prior step
    × KeptBut config (touches_call config call.1) (part_in old call.0) (part_in new call.0)

-- the call is on a vBucket that there is
abbrev pub IsOn : Config → ℕ × CallData → Type 0
IsOn config call = call.0 < config.vbuckets

-- Each vBucket's history is legal, each part stands for it, and so do its desk, batch and reads; and each caller's answered
-- calls stand in the histories in order, each once.
pub record Interleaves (core : CoreData) : Type 0 where
  pub ready : Ready core.config core.world
  pub sound : Sound part_stands core.world
  pub count : length core.benches ≡ core.config.vbuckets
  pub benches : (vb : ℕ) (bench : BenchData) → slice_get core.benches vb ≡ Some bench → BenchStands (front_in core.world vb) bench
  pub callers : (number : ℕ) (caller : CallerData) → slice_get core.callers number ≡ Some caller → CallerStands (front_in core.world) number caller
  pub loaded : (number : ℕ) (caller : CallerData) → slice_get core.callers number ≡ Some caller → AllByRecursion (IsOn core.config) caller.calls

-- how many documents a batch that is left has
abbrev pub count_of : Option BatchData → ℕ
count_of None = 0
count_of (Some batch) = min (length batch.rows) (2 ^ 32 - 1)

abbrev pub core_data : {K : Type 0} → Config → WorldData Part → List (Bench K) → List Caller → CoreData
core_data config world benches callers = record { config = config; world = world; benches = map bench_data benches; callers = map caller_data callers }

-- what a caller has to call
abbrev pub calls_of : CallerData → List (ℕ × CallData)
calls_of caller = caller.calls

-- the same history with more events, or none
pub record Continues (f g : FrontData) : Type 0 where
  pub more : List EventData
  pub start : g.start ≡ f.start
  pub events : g.events ≡ f.events ++ more

-- A core goes on: its histories keep what they have, and its callers their calls.
pub record GoesOn (old new : CoreData) : Type 0 where
  pub layout : new.config ≡ old.config
  pub calls : map calls_of new.callers ≡ map calls_of old.callers
  pub grown : (vb : ℕ) → Continues (front_in old.world vb) (front_in new.world vb)
