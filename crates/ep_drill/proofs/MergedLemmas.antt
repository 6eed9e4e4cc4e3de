-- What a commit and a merge at a bench of a world leave of both.
use Rattle.std.proofs.Common.{◌≡◌, ◌<◌, ℕ, zero, suc, List, [], ◌∷◌, length, map, slice_get, slice_set, slice_index_or, nat_lt, true, false, refl, sym, ap, subst, ◌∙◌, arith}
use Rattle.std.specs.Prelude.{Option, Some, None, IfSome}
use Rattle.std.specs.Option.{option_map}
use Rattle.std.proofs.lemmas.Bool.Decides.{nat_tests}
use Rattle.ep_model.specs.declared.config.Config.{Config}
use Rattle.ep_model.specs.declared.data.EventData.TheVariants as events
use Rattle.ep_model.specs.declared.data.FrontData.{FrontData}
use Rattle.ep_model.specs.declared.event.Ticket.{Ticket}
use Rattle.ep_model.specs.Legal.{IsLegal}
use Rattle.hold_stage.specs.Touches.{is_call}
use Rattle.kv_keeper.specs.declared.data.BatchData.{BatchData}
use Rattle.kv_keeper.specs.declared.data.DeskData.{DeskData}
use Rattle.vb_world.specs.declared.data.FixedData.{FixedData}
use Rattle.vb_world.specs.declared.data.WorldData.{WorldData}
use Rattle.vb_world.specs.World.{front_in, part_in, fixed_in, Sound}
use Rattle.ep_drill.specs.declared.part.Part.{Part}
use Rattle.ep_drill.specs.declared.data.BenchData.{BenchData}
use Rattle.ep_drill.specs.declared.fetch.Merging.{Merging}
use Rattle.ep_drill.specs.declared.fetch.Merging.TheVariants as mergings
use Rattle.ep_drill.specs.declared.fetched.Fetched.{Fetched}
use Rattle.ep_drill.specs.declared.store.Flushed.{Flushed}
use Rattle.ep_drill.specs.declared.store.Flushed.TheVariants as flushes
use Rattle.ep_drill.specs.declared.data.FetchedData.{FetchedData}
use Rattle.ep_drill.specs.declared.data.FoundData.{FoundData}
use Rattle.ep_drill.specs.declared.data.FoundData.TheVariants as founds
use Rattle.ep_drill.specs.Parts.{part_stands}
use Rattle.ep_drill.specs.Calls.{AreHome}
use Rattle.ep_drill.specs.StoreSide.{IsFlushed}
use Rattle.ep_drill.specs.Fetches.{fetched_data, IsMerged}
use Rattle.ep_drill.specs.Stands.{DeskStands, BatchStands, FetchedStands}
use Rattle.ep_drill.specs.Core.{BenchStands, Ready, Moved, Worked}
use Rattle.ep_drill.specs.Works.{persisted_by, failure_of, failed_by}
use Rattle.ep_drill.proofs.BenchLemmas.{bench_committed, bench_merged}
use Rattle.ep_drill.proofs.WorkedLemmas.{moved_with_room, worked_by}

-- what stands at an index of a list that is mapped
pub get_mapped : {A B : Type 0} (g : A → B) (xs : List A) (n : ℕ) (d x : A) → n < length (map g xs) → slice_index_or xs n d ≡ x → slice_get (map g xs) n ≡ Some (g x)
get_mapped g [] n d x there is = absurd (omega arith)
get_mapped g (y ∷ xs) zero d x there is = ap (λ k. Some (g k)) is
get_mapped g (y ∷ xs) (suc n) d x there is = get_mapped g xs n d x (omega arith) is

-- the read that stands for a stripe, where there is one
pub read_at_stripe : (f : FrontData) (bench : BenchData) (reads : List (Option Fetched)) (stripe : ℕ) (found : Option Fetched) (fetched : Fetched) → BenchStands f bench → bench.reads ≡ map (option_map fetched_data) reads
    → stripe < f.config.stripes → found ≡ slice_index_or reads stripe found → found ≡ Some fetched → slice_get bench.reads stripe ≡ Some (Some (fetched_data fetched))
read_at_stripe f bench reads stripe found fetched b same there at is =
    let long : length (map (option_map fetched_data) reads) ≡ f.config.stripes = ap (λ (l : List (Option FetchedData)). length l) (sym same) ∙ b.count in
    ap (λ (l : List (Option FetchedData)). slice_get l stripe) same ∙ get_mapped (option_map fetched_data) reads stripe found (Some fetched) (omega arith) (sym at ∙ is)

-- what a commit notes is no event of a call
persisted_quiet : (batch : BatchData) (flushed : Flushed) → IfSome (persisted_by batch flushed) (λ e. is_call e ≡ false)
unfolding is_call
persisted_quiet batch (flushes.Stored number) = refl
persisted_quiet batch flushes.Failed = tt
persisted_quiet batch flushes.NoMemory = tt

-- nor is a read that failed
failure_quiet : (ticket : Ticket) (found : FoundData) → IfSome (failure_of ticket found) (λ e. is_call e ≡ false)
unfolding is_call
failure_quiet ticket (founds.Row doc) = tt
failure_quiet ticket founds.Absent = tt
failure_quiet ticket (founds.Failed fault) = refl
failure_quiet ticket founds.NoMemory = tt

failed_quiet : (fetched : FetchedData) (merging : Merging) → IfSome (failed_by fetched merging) (λ e. is_call e ≡ false)
failed_quiet fetched mergings.Merged = tt
failed_quiet fetched mergings.Absent = tt
failed_quiet fetched mergings.Stale = tt
failed_quiet fetched mergings.Failed = failure_quiet fetched.ticket fetched.found
failed_quiet fetched mergings.NoMemory = tt

-- no commit failed where a batch is left
pub commit_sure : (f : FrontData) (bench : BenchData) (batch : BatchData) → BenchStands f bench → bench.batch ≡ Some batch → bench.desk.doubt ≡ None
commit_sure f bench batch b is = subst (λ (o : Option BatchData). IfSome o (λ _. bench.desk.doubt ≡ None)) is b.sure

module _ (a r s z : WorldData Part) (vb sv zv n m : ℕ) where
  -- the history where a stage begins
  pub front_begun : r ≡ record a { event_room = n; byte_room = m } → s ≡ r → sv ≡ vb → front_in s sv ≡ front_in a vb
  front_begun room w at = ap (λ k. front_in s k) at ∙ ap (λ (k : WorldData Part). front_in k vb) (w ∙ room)

  -- and where it ends
  front_ended : sv ≡ vb → fixed_in z zv ≡ fixed_in s sv → front_in z zv ≡ front_in z vb
  front_ended at fixed = ap (λ k. front_in z k) (ap (λ (k : FixedData Part). k.vb) fixed ∙ at)

  -- the history before is legal
  legal_begun : r ≡ record a { event_room = n; byte_room = m } → Sound part_stands r → IsLegal (front_in a vb)
  legal_begun room sound = subst IsLegal (ap (λ (k : WorldData Part). front_in k vb) room) (sound.legal vb)

  module _ (config : Config) where
    -- A commit notes that it was done, and else nothing.
    pub flushed_moved : (old now : DeskData) (batch : BatchData) (flushed : Flushed) → Ready config a → vb < config.vbuckets → r ≡ record a { event_room = n; byte_room = m } → s ≡ r → sv ≡ vb
        → fixed_in z zv ≡ fixed_in s sv → AreHome (front_in s sv).config (part_in z zv) → IsFlushed (front_in s sv) (front_in z zv) old now batch flushed → Moved config vb (persisted_by batch flushed) a z
    flushed_moved old now batch (flushes.Stored number) ready within room w at fixed home is =
        let e = Some (events.Persisted batch.to) in
        moved_with_room config a r s z vb sv zv e e n m ready within room w at fixed home is.1 refl
    flushed_moved old now batch flushes.Failed ready within room w at fixed home is =
        moved_with_room config a r s z vb sv zv None None n m ready within room w at fixed home is.0 refl
    flushed_moved old now batch flushes.NoMemory ready within room w at fixed home is =
        moved_with_room config a r s z vb sv zv None None n m ready within room w at fixed home is.0 refl

    -- A commit is work at its vBucket.
    pub flushed_at : (old now : DeskData) (batch : BatchData) (flushed : Flushed) → Ready config a → vb < config.vbuckets → r ≡ record a { event_room = n; byte_room = m } → s ≡ r → sv ≡ vb
        → fixed_in z zv ≡ fixed_in s sv → AreHome (front_in s sv).config (part_in z zv) → IsFlushed (front_in s sv) (front_in z zv) old now batch flushed → Worked config vb a z
    flushed_at old now batch flushed ready within room w at fixed home is =
        worked_by config a z vb (persisted_by batch flushed) (flushed_moved old now batch flushed ready within room w at fixed home is) (persisted_quiet batch flushed)

    -- A merge notes a read that failed, and else nothing.
    pub merged_moved : (part left : Option Part) (fetched : FetchedData) (merging : Merging) → Ready config a → vb < config.vbuckets → r ≡ record a { event_room = n; byte_room = m } → s ≡ r → sv ≡ vb
        → fixed_in z zv ≡ fixed_in s sv → AreHome (front_in s sv).config (part_in z zv) → IsMerged (front_in s sv) (front_in z zv) part left fetched merging → Moved config vb (failed_by fetched merging) a z
    merged_moved part left fetched mergings.Merged ready within room w at fixed home is =
        moved_with_room config a r s z vb sv zv None None n m ready within room w at fixed home is.0 refl
    merged_moved part left fetched mergings.Absent ready within room w at fixed home is =
        moved_with_room config a r s z vb sv zv None None n m ready within room w at fixed home is.0 refl
    merged_moved part left fetched mergings.Stale ready within room w at fixed home is =
        moved_with_room config a r s z vb sv zv None None n m ready within room w at fixed home is.0 refl
    merged_moved part left fetched mergings.Failed ready within room w at fixed home is =
        moved_with_room config a r s z vb sv zv (failure_of fetched.ticket fetched.found) (Some (events.ReadFailed fetched.ticket is.0)) n m ready within room w at fixed home is.2 (sym (ap (λ (found : FoundData). failure_of fetched.ticket found) is.1))
    merged_moved part left fetched mergings.NoMemory ready within room w at fixed home is =
        moved_with_room config a r s z vb sv zv None None n m ready within room w at fixed home is.0 refl

    -- A merge is work at its vBucket.
    pub merged_at : (part left : Option Part) (fetched : FetchedData) (merging : Merging) → Ready config a → vb < config.vbuckets → r ≡ record a { event_room = n; byte_room = m } → s ≡ r → sv ≡ vb
        → fixed_in z zv ≡ fixed_in s sv → AreHome (front_in s sv).config (part_in z zv) → IsMerged (front_in s sv) (front_in z zv) part left fetched merging → Worked config vb a z
    merged_at part left fetched merging ready within room w at fixed home is =
        worked_by config a z vb (failed_by fetched merging) (merged_moved part left fetched merging ready within room w at fixed home is) (failed_quiet fetched merging)

  -- What a commit needs of the bench, where its stage begins.
  pub commit_ready : (bench : BenchData) (batch : BatchData) → r ≡ record a { event_room = n; byte_room = m } → s ≡ r → sv ≡ vb → BenchStands (front_in a vb) bench → bench.batch ≡ Some batch
      → (bench.desk.doubt ≡ None) × DeskStands (front_in s sv) bench.desk × BatchStands (front_in s sv) bench.desk.stored batch
  commit_ready bench batch room w at b is =
      let f = sym (front_begun room w at) in
      let stands : BatchStands (front_in a vb) bench.desk.stored batch = subst (λ (o : Option BatchData). IfSome o (λ k. BatchStands (front_in a vb) bench.desk.stored k)) is b.batch in (
        commit_sure (front_in a vb) bench batch b is,
        subst (λ (h : FrontData). DeskStands h bench.desk) f b.desk,
        subst (λ (h : FrontData). BatchStands h bench.desk.stored batch) f stands,
      )

  -- The bench behind a commit, whose batch isn't there any more.
  pub commit_left : (bench : BenchData) (now : DeskData) (batch : BatchData) (left : Option BatchData) (flushed : Flushed) → r ≡ record a { event_room = n; byte_room = m } → s ≡ r → sv ≡ vb → fixed_in z zv ≡ fixed_in s sv
      → Sound part_stands r → Sound part_stands z → BenchStands (front_in a vb) bench → left ≡ None
      → IsFlushed (front_in s sv) (front_in z zv) bench.desk now batch flushed → BenchStands (front_in z vb) (record { desk = now; batch = left; reads = bench.reads })
  commit_left bench now batch left flushed room w at fixed before after b none flush =
      let from : IsFlushed (front_in a vb) (front_in z zv) bench.desk now batch flushed = subst (λ (h : FrontData). IsFlushed h (front_in z zv) bench.desk now batch flushed) (front_begun room w at) flush in
      let to : IsFlushed (front_in a vb) (front_in z vb) bench.desk now batch flushed = subst (λ (h : FrontData). IsFlushed (front_in a vb) h bench.desk now batch flushed) (front_ended at fixed) from in
      subst (λ (o : Option BatchData). BenchStands (front_in z vb) (record { desk = now; batch = o; reads = bench.reads })) (sym none)
      (bench_committed (front_in a vb) (front_in z vb) bench now batch flushed (legal_begun room before) (after.legal vb) b to)

  -- What a merge needs of the read, where its stage begins.
  pub merge_ready : (config : Config) (bench : BenchData) (stripe : ℕ) (fetched : FetchedData) → Ready config a → stripe < config.stripes → r ≡ record a { event_room = n; byte_room = m } → s ≡ r → sv ≡ vb
      → BenchStands (front_in a vb) bench → slice_get bench.reads stripe ≡ Some (Some fetched) → (nat_lt fetched.ticket.stripe s.config.stripes ≡ true) × FetchedStands (front_in s sv) fetched
  merge_ready config bench stripe fetched ready there room w at b is =
      let h = b.reads stripe fetched is in
      let layout : s.config ≡ config = ap (λ (k : WorldData Part). k.config) (w ∙ room) ∙ ready.layout in
      let same : s.config.stripes ≡ config.stripes = ap (λ (k : Config). k.stripes) layout in
      let here : fetched.ticket.stripe ≡ stripe = h.1 in
      let within : fetched.ticket.stripe < s.config.stripes = omega arith in
      (grind (arith, nat_tests), subst (λ (k : FrontData). FetchedStands k fetched) (sym (front_begun room w at)) h.0)

  -- The bench behind a merge, whose read isn't there any more.
  pub merge_left : (bench : BenchData) (stripe : ℕ) (fetched : FetchedData) (part left : Option Part) (reads : List (Option FetchedData)) (merging : Merging) → r ≡ record a { event_room = n; byte_room = m } → s ≡ r → sv ≡ vb
      → fixed_in z zv ≡ fixed_in s sv → Sound part_stands r → Sound part_stands z → BenchStands (front_in a vb) bench → slice_get bench.reads stripe ≡ Some (Some fetched) → reads ≡ slice_set bench.reads stripe None
      → IsMerged (front_in s sv) (front_in z zv) part left fetched merging → BenchStands (front_in z vb) (record bench { reads = reads })
  merge_left bench stripe fetched part left reads merging room w at fixed before after b is none merge =
      let from : IsMerged (front_in a vb) (front_in z zv) part left fetched merging = subst (λ (h : FrontData). IsMerged h (front_in z zv) part left fetched merging) (front_begun room w at) merge in
      let to : IsMerged (front_in a vb) (front_in z vb) part left fetched merging = subst (λ (h : FrontData). IsMerged (front_in a vb) h part left fetched merging) (front_ended at fixed) from in
      subst (λ (l : List (Option FetchedData)). BenchStands (front_in z vb) (record bench { reads = l })) (sym none)
      (bench_merged (front_in a vb) (front_in z vb) bench stripe fetched part left merging (legal_begun room before) (after.legal vb) b is to)
