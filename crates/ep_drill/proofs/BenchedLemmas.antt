-- What the work at a stage of one vBucket is to the world and to the bench.
use Rattle.std.proofs.Common.{◌≡◌, ◌<◌, ℕ, zero, suc, Bool, true, inl, inr, List, [], ◌∷◌, length, map, slice_get, slice_set, slice_index_or, refl, sym, ap, subst, ◌∙◌, arith}
use Rattle.std.specs.Prelude.{Option, Some, None, IfSome, is_some, ◌||◌, Result, Ok, Err, OkIff}
use Rattle.std.specs.Option.{option_map}
use Rattle.std.proofs.lemmas.List.{map-set}
use Rattle.std.specs.Result.{result_unwrap_or}
use Rattle.std.proofs.lemmas.Bool.{cases_eq}
use Rattle.ep_model.specs.declared.config.Config.{Config}
use Rattle.ep_model.specs.declared.data.FrontData.{FrontData}
use Rattle.ep_model.specs.declared.event.PartName.{PartName}
use Rattle.ep_model.specs.declared.event.PartName.TheVariants.{Stripe}
use Rattle.ep_model.specs.Front.{world_of}
use Rattle.hold_stage.specs.Touches.{there, is_stripe, is_queue, is_desk}
use Rattle.kv_keeper.specs.declared.data.BatchData.{BatchData}
use Rattle.kv_keeper.specs.declared.data.DeskData.{DeskData}
use Rattle.vb_world.specs.declared.data.FixedData.{FixedData}
use Rattle.vb_world.specs.declared.data.WorldData.{WorldData}
use Rattle.vb_world.specs.World.{front_in, part_in, fixed_in}
use Rattle.ep_drill.specs.declared.data.BenchData.{BenchData}
use Rattle.ep_drill.specs.declared.fetch.Merging.{Merging}
use Rattle.ep_drill.specs.declared.fetched.Fetched.{Fetched}
use Rattle.ep_drill.specs.declared.data.FetchedData.{FetchedData}
use Rattle.ep_drill.specs.declared.part.Part.{Part}
use Rattle.ep_drill.specs.declared.store.Flushed.{Flushed}
use Rattle.ep_drill.specs.StoreSide.{IsTaken, IsFlushed}
use Rattle.ep_drill.specs.Calls.{AreHome}
use Rattle.hold_stage.specs.Stays.{KeptBut}
use Rattle.ep_drill.specs.Fetches.{fetched_data, IsMerged, IsRead, ReadsOldest}
use Rattle.ep_drill.specs.Core.{BenchStands, Ready, Moved, Rested, count_of}
use Rattle.ep_drill.specs.Works.{TookBatch, WasDropped, WasFlushed, WasFetched, WasMerged, reads_after}
use Rattle.ep_drill.proofs.MergedLemmas.{get_mapped, flushed_moved, merged_moved}
use Rattle.ep_drill.proofs.ListLemmas.{set_same}
use Rattle.ep_drill.proofs.WorkedLemmas.{moved_still, layout_with_room, kept_at}
use Rattle.ep_drill.proofs.WorldLemmas.{parts_kept}

-- the number of a batch's documents as it is answered
pub count_told : {E : Type 0} (made : Result ℕ E) (count number : ℕ) (batch : BatchData) → count ≡ length batch.rows → OkIff made (count < 4294967296) count → number ≡ result_unwrap_or made 4294967295 → number ≡ count_of (Some batch)
count_told (Ok n) count number batch is made told =
    let fits : count < 4294967296 = made.0 in
    let same : n ≡ count = made.1 in
    let told-so : number ≡ n = told in
    omega arith
count_told (Err e) count number batch is made told =
    let fits : count < 4294967296 → ⊥ = made in
    let told-so : number ≡ 4294967295 = told in
    omega arith

module _ {A : Type 0} where
  -- what is put again at an index takes the place of what was put there
  set_again : (xs : List A) (n : ℕ) (x y : A) → slice_set (slice_set xs n x) n y ≡ slice_set xs n y
  set_again [] n x y = refl
  set_again (k ∷ xs) zero x y = refl
  set_again (k ∷ xs) (suc n) x y = ap (λ (l : List A). k ∷ l) (set_again xs n x y)

-- what was taken out is put back
pub put_again : {A B : Type 0} (g : A → B) (xs ys : List A) (n : ℕ) (x y : A) → ys ≡ slice_set (slice_set xs n x) n y → slice_get (map g xs) n ≡ Some (g y) → map g ys ≡ map g xs
put_again {A = A} g xs ys n x y is here = ap (λ (l : List A). map g l) (is ∙ set_again xs n x y) ∙ map-set g xs n y ∙ set_same (map g xs) n (g y) here

-- a read is there or not
pub is_there : (stripe : ℕ) (reads : List (Option FetchedData)) (fetched : FetchedData) → slice_get reads stripe ≡ Some (Some fetched) → slice_get reads stripe ≡ Some None → ⊥
is_there stripe reads fetched is none = cc

-- a stripe for which nothing was read has no read
pub no_read_at_stripe : (f : FrontData) (bench : BenchData) (reads : List (Option Fetched)) (stripe : ℕ) (found : Option Fetched) → BenchStands f bench → bench.reads ≡ map (option_map fetched_data) reads
    → stripe < f.config.stripes → found ≡ slice_index_or reads stripe found → found ≡ None → slice_get bench.reads stripe ≡ Some None
no_read_at_stripe f bench reads stripe found b same there at is =
    let long : length (map (option_map fetched_data) reads) ≡ f.config.stripes = ap (λ (l : List (Option FetchedData)). length l) (sym same) ∙ b.count in
    ap (λ (l : List (Option FetchedData)). slice_get l stripe) same ∙ get_mapped (option_map fetched_data) reads stripe found None (omega arith) (sym at ∙ is)

-- All that is stored is noted, so a batch of what isn't goes beyond it.
taken_above : (f : FrontData) (bench : BenchData) (batch : Option BatchData) → BenchStands f bench → IsTaken f bench.desk.stored batch → IfSome batch (λ b. bench.desk.stored < b.to)
taken_above f bench None b taken = tt
taken_above f bench (Some batch) b taken = let known = b.known in let noted = b.desk.persisted in let more = taken.0.above in (let goes : bench.desk.stored < batch.to = omega arith in goes)

-- The stage begins at the world `a`, and what is done there notes nothing.
module _ (config : Config) (a s z : WorldData Part) (vb sv zv : ℕ) (ready : Ready config a) (within : vb < config.vbuckets) (w : s ≡ a) (at : sv ≡ vb) (fixed : fixed_in z zv ≡ fixed_in s sv) (home : AreHome (front_in s sv).config (part_in z zv))
    (front : front_in z zv ≡ front_in s sv) where
  here_moved : Moved config vb None a z
  here_moved = moved_still config a s z vb sv zv ready within w at fixed home front

  -- the history and the parts where the stage begins are the vBucket's
  here_front : front_in s sv ≡ front_in a vb
  here_front = ap (λ (k : ℕ). front_in s k) at ∙ ap (λ (k : WorldData Part). front_in k vb) w

  here_part : (p : PartName) → part_in s sv p ≡ part_in a vb p
  here_part p = ap (λ (k : ℕ). part_in s k p) at ∙ ap (λ (k : WorldData Part). part_in k vb p) w

  -- The parts are as they were where those that there are were told as before.
  all_still : ((p : PartName) → there (front_in s sv).config p ≡ true → part_in z zv p ≡ part_in s sv p) → (p : PartName) → part_in z vb p ≡ part_in a vb p
  all_still parts =
      let v : zv ≡ vb = ap (λ (k : FixedData Part). k.vb) fixed ∙ at in
      let begun : s.config ≡ config = ap (λ (k : WorldData Part). k.config) w ∙ ready.layout in
      let told : (p : PartName) → there a.config p ≡ true → part_in z vb p ≡ part_in a vb p =
      λ p is. ap (λ (k : ℕ). part_in z k p) (sym v) ∙ parts p (ap (λ (k : Config). there k p) (begun ∙ sym ready.layout) ∙ is) ∙ here_part p in
      parts_kept a z vb (here_moved.ready.layout ∙ sym ready.layout) told

  -- Then nothing happened.
  pub rested_still : ((p : PartName) → there (front_in s sv).config p ≡ true → part_in z zv p ≡ part_in s sv p) → Rested config a z
  rested_still parts =
      record {
        ready = here_moved.ready;
        fronts = λ u. elim (cases_eq u vb) as (λ _. front_in z u ≡ front_in a u) [
          | inl is ↦ subst (λ (k : ℕ). front_in z k ≡ front_in a k) (sym is) here_moved.front
          | inr differ ↦ here_moved.others u differ
        ];
        parts = λ u p. elim (cases_eq u vb) as (λ _. part_in z u p ≡ part_in a u p) [
          | inl is ↦ subst (λ (k : ℕ). part_in z k p ≡ part_in a k p) (sym is) (all_still parts p)
          | inr differ ↦ here_moved.apart u differ p
        ];
      }

  module _ (bench after : BenchData) (sure : bench.desk.doubt ≡ None) (parts : (p : PartName) → there (front_in s sv).config p ≡ true → part_in z zv p ≡ part_in s sv p) where
    -- a batch was taken, or none is needed
    pub was_taken : (number : ℕ) (taken batch : Option BatchData) → taken ≡ batch → IsTaken (front_in s sv) bench.desk.stored taken → number ≡ count_of batch → after ≡ record bench { batch = batch } → BenchStands (front_in a vb) bench → TookBatch config vb number a z bench after
    was_taken number taken batch same stands count left b =
        let here : IsTaken (front_in s sv) bench.desk.stored batch = subst (λ (o : Option BatchData). IsTaken (front_in s sv) bench.desk.stored o) same stands in
        let there : IsTaken (front_in a vb) bench.desk.stored batch = subst (λ (f : FrontData). IsTaken f bench.desk.stored batch) here_front here in
        record {
          sure = sure;
          batch = batch;
          left = left;
          moved = here_moved;
          kept = all_still parts;
          taken = there;
          above = taken_above (front_in a vb) bench batch b there;
          count = count;
        }

    -- or memory was wanting for one
    pub was_dropped : after ≡ record bench { batch = None } → ((world_of (front_in s sv)).high ≡ (world_of (front_in s sv)).persisted → ⊥) → WasDropped config vb a z bench after
    was_dropped left more = record { sure = sure; more = subst (λ (f : FrontData). (world_of f).high ≡ (world_of f).persisted → ⊥) here_front more; left = left; moved = here_moved; kept = all_still parts }

    -- The store was read for whoever waits first, or nobody does.
    pub was_fetched : (stripe : ℕ) (waited : Bool) (now : DeskData) (shown read : Option Fetched) → shown ≡ read → waited ≡ is_some read → ReadsOldest (part_in s sv (Stripe stripe)) shown
        → after ≡ record bench { desk = now; reads = reads_after bench.reads stripe read } → IsRead (front_in s sv) stripe bench.desk now shown → WasFetched config vb stripe waited a z bench after
    was_fetched stripe waited now shown read same waits oldest left stands =
        record {
          sure = sure;
          read = read;
          desk = now;
          waits = waits;
          oldest = subst (λ (o : Option Part). ReadsOldest o read) (here_part (Stripe stripe)) (subst (λ (o : Option Fetched). ReadsOldest (part_in s sv (Stripe stripe)) o) same oldest);
          left = left;
          moved = here_moved;
          kept = all_still parts;
          stands = subst (λ (f : FrontData). IsRead f stripe bench.desk now read) here_front
              (subst (λ (o : Option Fetched). IsRead (front_in s sv) stripe bench.desk now o) same stands);
        }

-- The stage begins at the world `r`, which is the world `a` with other room.
module _ (config : Config) (a r s z : WorldData Part) (vb sv zv n m : ℕ) (ready : Ready config a) (within : vb < config.vbuckets) (room : r ≡ record a { event_room = n; byte_room = m }) (w : s ≡ r) (at : sv ≡ vb)
    (fixed : fixed_in z zv ≡ fixed_in s sv) (home : AreHome (front_in s sv).config (part_in z zv)) where
  old_front : front_in s sv ≡ front_in a vb
  old_front = ap (λ (k : ℕ). front_in s k) at ∙ ap (λ (k : WorldData Part). front_in k vb) (w ∙ room)

  old_part : (p : PartName) → part_in s sv p ≡ part_in a vb p
  old_part p = ap (λ (k : ℕ). part_in s k p) at ∙ ap (λ (k : WorldData Part). part_in k vb p) (w ∙ room)

  at_end : zv ≡ vb
  at_end = ap (λ (k : FixedData Part). k.vb) fixed ∙ at

  -- a commit went so
  pub was_flushed : (bench after : BenchData) (now : DeskData) (batch : BatchData) (flushed : Flushed) → bench.desk.doubt ≡ None → bench.batch ≡ Some batch → after ≡ record bench { desk = now; batch = None }
      → IsFlushed (front_in s sv) (front_in z zv) bench.desk now batch flushed
      → KeptBut (front_in s sv).config (λ p. is_queue p || is_desk p) (part_in s sv) (part_in z zv) → WasFlushed config vb flushed a z bench after
  was_flushed bench after now batch flushed sure taken left done kept =
      let from : IsFlushed (front_in a vb) (front_in z zv) bench.desk now batch flushed = subst (λ (f : FrontData). IsFlushed f (front_in z zv) bench.desk now batch flushed) old_front done in
      record {
        batch = batch;
        desk = now;
        sure = sure;
        taken = taken;
        left = left;
        moved = flushed_moved a r s z vb sv zv n m config bench.desk now batch flushed ready within room w at fixed home done;
        kept = kept_at config a s z vb sv zv (layout_with_room config a r s n m ready.layout room w) old_part at fixed (λ k p. is_queue p || is_desk p) kept;
        done = subst (λ (k : ℕ). IsFlushed (front_in a vb) (front_in z k) bench.desk now batch flushed) at_end from;
      }

  -- a merge went so
  pub was_merged : (bench after : BenchData) (stripe : ℕ) (fetched : FetchedData) (merging : Merging) → BenchStands (front_in a vb) bench → slice_get bench.reads stripe ≡ Some (Some fetched) → after ≡ record bench { reads = slice_set bench.reads stripe None }
      → IsMerged (front_in s sv) (front_in z zv) (part_in s sv (Stripe fetched.ticket.stripe)) (part_in z zv (Stripe fetched.ticket.stripe)) fetched merging
      → KeptBut (front_in s sv).config (is_stripe fetched.ticket.stripe) (part_in s sv) (part_in z zv) → WasMerged config vb stripe merging a z bench after
  was_merged bench after stripe fetched merging b read left done kept =
      let p : PartName = Stripe fetched.ticket.stripe in
      let from : IsMerged (front_in a vb) (front_in z zv) (part_in s sv p) (part_in z zv p) fetched merging = subst (λ (f : FrontData). IsMerged f (front_in z zv) (part_in s sv p) (part_in z zv p) fetched merging) old_front done in
      let with : IsMerged (front_in a vb) (front_in z zv) (part_in a vb p) (part_in z zv p) fetched merging = subst (λ (o : Option Part). IsMerged (front_in a vb) (front_in z zv) o (part_in z zv p) fetched merging) (old_part p) from in
      record {
        fetched = fetched;
        read = read;
        here = (b.reads stripe fetched read).1;
        left = left;
        kept = subst (λ (k : ℕ). KeptBut config (is_stripe k) (part_in a vb) (part_in z vb)) (b.reads stripe fetched read).1
            (kept_at config a s z vb sv zv (layout_with_room config a r s n m ready.layout room w) old_part at fixed (λ k. is_stripe fetched.ticket.stripe) kept);
        moved = merged_moved a r s z vb sv zv n m config (part_in s sv p) (part_in z zv p) fetched merging ready within room w at fixed home done;
        done = subst (λ (k : ℕ). IsMerged (front_in a vb) (front_in z k) (part_in a vb p) (part_in z k p) fetched merging) at_end with;
      }
