-- What each kind of work at a vBucket's bench answers, and what it makes of the world and of the bench.
use Rattle.std.specs.Prelude.{◌≡◌, ◌<◌, ℕ, Bool, ◌||◌, List, Option, Some, None, IfSome, slice_get, slice_set, is_some}
use Rattle.ep_model.specs.declared.config.Config.{Config}
use Rattle.ep_model.specs.declared.data.EventData.{EventData}
use Rattle.ep_model.specs.declared.data.EventData.TheVariants as events
use Rattle.ep_model.specs.declared.event.PartName.{PartName}
use Rattle.ep_model.specs.declared.event.PartName.TheVariants.{Stripe}
use Rattle.ep_model.specs.declared.event.Ticket.{Ticket}
use Rattle.ep_model.specs.Front.{world_of}
use Rattle.hold_stage.specs.Touches.{is_stripe, is_queue, is_desk}
use Rattle.kv_keeper.specs.declared.data.BatchData.{BatchData}
use Rattle.kv_keeper.specs.declared.data.DeskData.{DeskData}
use Rattle.vb_world.specs.declared.data.WorldData.{WorldData}
use Rattle.vb_world.specs.World.{front_in, part_in}
use Rattle.ep_drill.specs.declared.choice.Answer.{Answer}
use Rattle.ep_drill.specs.declared.choice.Answer.TheVariants as answers
use Rattle.ep_drill.specs.declared.data.BenchData.{BenchData}
use Rattle.ep_drill.specs.declared.fetch.Merging.{Merging}
use Rattle.ep_drill.specs.declared.fetch.Merging.TheVariants as mergings
use Rattle.ep_drill.specs.declared.fetched.Fetched.{Fetched}
use Rattle.ep_drill.specs.declared.data.FetchedData.{FetchedData}
use Rattle.ep_drill.specs.declared.data.FoundData.{FoundData}
use Rattle.ep_drill.specs.declared.data.FoundData.TheVariants as founds
use Rattle.ep_drill.specs.declared.part.Part.{Part}
use Rattle.ep_drill.specs.declared.store.Flushed.{Flushed}
use Rattle.ep_drill.specs.declared.store.Flushed.TheVariants as flushes
use Rattle.ep_drill.specs.declared.mark.Marking.{Marking}
use Rattle.ep_drill.specs.StoreSide.{IsTaken, IsFlushed}
use Rattle.ep_drill.specs.Fetches.{fetched_data, IsMerged, IsRead, ReadsOldest}
use Rattle.hold_stage.specs.Stays.{KeptBut}
use Rattle.ep_drill.specs.Marks.{marked_by, IsMarked}
use Rattle.ep_drill.specs.Parts.{Becomes}
use Rattle.ep_drill.specs.Core.{Moved, count_of}

-- all is as it was
abbrev pub AllIsLeft : WorldData Part → WorldData Part → BenchData → BenchData → Type 0
AllIsLeft old new bench after = (new ≡ old) × (after ≡ bench)

-- A batch was taken that goes beyond what is stored, in place of one that wasn't committed, or all is stored and there is none.
pub record TookBatch (config : Config) (vb number : ℕ) (old new : WorldData Part) (bench after : BenchData) : Type 0 where
  pub sure : bench.desk.doubt ≡ None
  pub batch : Option BatchData
  pub left : after ≡ record bench { batch = batch }
  pub moved : Moved config vb None old new
  pub kept : (p : PartName) → part_in new vb p ≡ part_in old vb p
  pub taken : IsTaken (front_in old vb) bench.desk.stored batch
  pub above : IfSome batch (λ b. bench.desk.stored < b.to)
  pub count : number ≡ count_of batch

-- Memory was wanting for a batch of what isn't stored. One that wasn't committed is dropped.
pub record WasDropped (config : Config) (vb : ℕ) (old new : WorldData Part) (bench after : BenchData) : Type 0 where
  pub sure : bench.desk.doubt ≡ None
  pub more : (world_of (front_in old vb)).high ≡ (world_of (front_in old vb)).persisted → ⊥
  pub left : after ≡ record bench { batch = None }
  pub moved : Moved config vb None old new
  pub kept : (p : PartName) → part_in new vb p ≡ part_in old vb p

-- no batch is taken where it is in doubt what the store holds
abbrev pub TakesAt : Config → ℕ → Answer → WorldData Part → WorldData Part → BenchData → BenchData → Type 0
TakesAt config vb answers.Nothing old new bench after = ⊥
TakesAt config vb (answers.Tried tried) old new bench after = ⊥
TakesAt config vb (answers.Took number) old new bench after = TookBatch config vb number old new bench after
TakesAt config vb (answers.Flushed (flushes.Stored number)) old new bench after = ⊥
TakesAt config vb (answers.Flushed flushes.Failed) old new bench after = AllIsLeft old new bench after × (bench.desk.doubt ≡ None → ⊥)
TakesAt config vb (answers.Flushed flushes.NoMemory) old new bench after = WasDropped config vb old new bench after
TakesAt config vb (answers.Marked marking) old new bench after = ⊥
TakesAt config vb (answers.Read waited) old new bench after = ⊥
TakesAt config vb (answers.Merged merging) old new bench after = ⊥
TakesAt config vb (answers.Paged paged) old new bench after = ⊥

-- and what is noted
abbrev pub persisted_by : BatchData → Flushed → Option EventData
persisted_by batch (flushes.Stored number) = Some (events.Persisted batch.to)
persisted_by batch flushes.Failed = None
persisted_by batch flushes.NoMemory = None

-- The batch's commit went so, and the batch is used up.
pub record WasFlushed (config : Config) (vb : ℕ) (flushed : Flushed) (old new : WorldData Part) (bench after : BenchData) : Type 0 where
  pub batch : BatchData
  pub desk : DeskData
  pub sure : bench.desk.doubt ≡ None
  pub taken : bench.batch ≡ Some batch
  pub left : after ≡ record bench { desk = desk; batch = None }
  pub moved : Moved config vb (persisted_by batch flushed) old new
  pub kept : KeptBut config (λ p. is_queue p || is_desk p) (part_in old vb) (part_in new vb)
  pub done : IsFlushed (front_in old vb) (front_in new vb) bench.desk desk batch flushed

-- nothing is committed exactly where there is no batch
abbrev pub CommitsAt : Config → ℕ → Answer → WorldData Part → WorldData Part → BenchData → BenchData → Type 0
CommitsAt config vb answers.Nothing old new bench after = AllIsLeft old new bench after × (bench.batch ≡ None)
CommitsAt config vb (answers.Tried tried) old new bench after = ⊥
CommitsAt config vb (answers.Took number) old new bench after = ⊥
CommitsAt config vb (answers.Flushed flushed) old new bench after = WasFlushed config vb flushed old new bench after
CommitsAt config vb (answers.Marked marking) old new bench after = ⊥
CommitsAt config vb (answers.Read waited) old new bench after = ⊥
CommitsAt config vb (answers.Merged merging) old new bench after = ⊥
CommitsAt config vb (answers.Paged paged) old new bench after = ⊥

-- The stripe was told what is stored.
pub record WasMarked (config : Config) (vb stripe : ℕ) (marking : Marking) (old new : WorldData Part) (bench after : BenchData) : Type 0 where
  pub left : after ≡ bench
  pub moved : Moved config vb (marked_by stripe bench.desk.noted marking) old new
  pub says : IsMarked (front_in old vb) (front_in new vb) stripe bench.desk.noted marking
  pub raised : Becomes (part_in old vb (Stripe stripe)) (part_in new vb (Stripe stripe)) (λ x. record x { mark = bench.desk.noted })
  pub kept : KeptBut config (is_stripe stripe) (part_in old vb) (part_in new vb)

abbrev pub MarksAt : Config → ℕ → ℕ → Answer → WorldData Part → WorldData Part → BenchData → BenchData → Type 0
MarksAt config vb stripe answers.Nothing old new bench after = ⊥
MarksAt config vb stripe (answers.Tried tried) old new bench after = ⊥
MarksAt config vb stripe (answers.Took number) old new bench after = ⊥
MarksAt config vb stripe (answers.Flushed flushed) old new bench after = ⊥
MarksAt config vb stripe (answers.Marked marking) old new bench after = WasMarked config vb stripe marking old new bench after
MarksAt config vb stripe (answers.Read waited) old new bench after = ⊥
MarksAt config vb stripe (answers.Merged merging) old new bench after = ⊥
MarksAt config vb stripe (answers.Paged paged) old new bench after = ⊥

-- the reads of the stripes, where this was read for one of them or nothing was
abbrev pub reads_after : List (Option FetchedData) → ℕ → Option Fetched → List (Option FetchedData)
reads_after reads stripe None = reads
reads_after reads stripe (Some fetched) = slice_set reads stripe (Some (fetched_data fetched))

-- The store was read for the oldest call that waits in the stripe, in place of a read that wasn't merged, or none waits.
pub record WasFetched (config : Config) (vb stripe : ℕ) (waited : Bool) (old new : WorldData Part) (bench after : BenchData) : Type 0 where
  pub sure : bench.desk.doubt ≡ None
  pub read : Option Fetched
  pub desk : DeskData
  pub waits : waited ≡ is_some read
  pub oldest : ReadsOldest (part_in old vb (Stripe stripe)) read
  pub left : after ≡ record bench { desk = desk; reads = reads_after bench.reads stripe read }
  pub moved : Moved config vb None old new
  pub kept : (p : PartName) → part_in new vb p ≡ part_in old vb p
  pub stands : IsRead (front_in old vb) stripe bench.desk desk read

-- nothing is read where it is in doubt what the store holds
abbrev pub FetchesAt : Config → ℕ → ℕ → Answer → WorldData Part → WorldData Part → BenchData → BenchData → Type 0
FetchesAt config vb stripe answers.Nothing old new bench after = AllIsLeft old new bench after × (bench.desk.doubt ≡ None → ⊥)
FetchesAt config vb stripe (answers.Tried tried) old new bench after = ⊥
FetchesAt config vb stripe (answers.Took number) old new bench after = ⊥
FetchesAt config vb stripe (answers.Flushed flushed) old new bench after = ⊥
FetchesAt config vb stripe (answers.Marked marking) old new bench after = ⊥
FetchesAt config vb stripe (answers.Read waited) old new bench after = WasFetched config vb stripe waited old new bench after
FetchesAt config vb stripe (answers.Merged merging) old new bench after = ⊥
FetchesAt config vb stripe (answers.Paged paged) old new bench after = ⊥

-- what is noted of a read that failed
abbrev pub failure_of : Ticket → FoundData → Option EventData
failure_of ticket (founds.Row doc) = None
failure_of ticket founds.Absent = None
failure_of ticket (founds.Failed fault) = Some (events.ReadFailed ticket fault)
failure_of ticket founds.NoMemory = None

-- and where reads end so
abbrev pub failed_by : FetchedData → Merging → Option EventData
failed_by fetched mergings.Merged = None
failed_by fetched mergings.Absent = None
failed_by fetched mergings.Stale = None
failed_by fetched mergings.Failed = failure_of fetched.ticket fetched.found
failed_by fetched mergings.NoMemory = None

-- The stripe's read ended so, and isn't there any more.
pub record WasMerged (config : Config) (vb stripe : ℕ) (merging : Merging) (old new : WorldData Part) (bench after : BenchData) : Type 0 where
  pub fetched : FetchedData
  pub read : slice_get bench.reads stripe ≡ Some (Some fetched)
  pub here : fetched.ticket.stripe ≡ stripe
  pub left : after ≡ record bench { reads = slice_set bench.reads stripe None }
  pub moved : Moved config vb (failed_by fetched merging) old new
  pub kept : KeptBut config (is_stripe stripe) (part_in old vb) (part_in new vb)
  pub done : IsMerged (front_in old vb) (front_in new vb) (part_in old vb (Stripe fetched.ticket.stripe)) (part_in new vb (Stripe fetched.ticket.stripe)) fetched merging

-- nothing is merged exactly where the stripe has no read
abbrev pub MergesAt : Config → ℕ → ℕ → Answer → WorldData Part → WorldData Part → BenchData → BenchData → Type 0
MergesAt config vb stripe answers.Nothing old new bench after = AllIsLeft old new bench after × (slice_get bench.reads stripe ≡ Some None)
MergesAt config vb stripe (answers.Tried tried) old new bench after = ⊥
MergesAt config vb stripe (answers.Took number) old new bench after = ⊥
MergesAt config vb stripe (answers.Flushed flushed) old new bench after = ⊥
MergesAt config vb stripe (answers.Marked marking) old new bench after = ⊥
MergesAt config vb stripe (answers.Read waited) old new bench after = ⊥
MergesAt config vb stripe (answers.Merged merging) old new bench after = WasMerged config vb stripe merging old new bench after
MergesAt config vb stripe (answers.Paged paged) old new bench after = ⊥
