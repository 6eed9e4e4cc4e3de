-- What the work at a stage of one vBucket leaves of its bench.
use Rattle.std.proofs.Common.{◌≡◌, ◌<◌, ℕ, true, false, List, map, refl, sym, ap, subst, ◌∙◌, slice_set, arith}
use Rattle.std.specs.Prelude.{Option, Some, None, IfSome, nat_lt}
use Rattle.std.specs.Option.{option_map}
use Rattle.std.proofs.lemmas.Bool.Decides.{nat_tests}
use Rattle.std.proofs.lemmas.List.{map-set}
use Rattle.ep_model.specs.declared.config.Config.{Config}
use Rattle.ep_model.specs.declared.data.FrontData.{FrontData}
use Rattle.ep_model.specs.declared.event.PartName.{PartName}
use Rattle.ep_model.specs.declared.event.PartName.TheVariants.{Stripe}
use Rattle.ep_model.specs.Legal.{IsLegal}
use Rattle.hold_stage.specs.Touches.{there, is_stripe, is_call, is_desks}
use Rattle.kv_keeper.specs.declared.data.BatchData.{BatchData}
use Rattle.kv_keeper.specs.declared.data.DeskData.{DeskData}
use Rattle.vb_world.specs.declared.data.FixedData.{FixedData}
use Rattle.vb_world.specs.declared.data.WorldData.{WorldData}
use Rattle.vb_world.specs.World.{front_in, part_in, fixed_in, Sound}
use Rattle.ep_drill.specs.declared.data.BenchData.{BenchData}
use Rattle.ep_drill.specs.declared.fetched.Fetched.{Fetched}
use Rattle.ep_drill.specs.declared.data.FetchedData.{FetchedData}
use Rattle.ep_drill.specs.declared.part.Part.{Part}
use Rattle.ep_drill.specs.declared.mark.Marking.{Marking}
use Rattle.ep_drill.specs.declared.mark.Marking.TheVariants as markings
use Rattle.ep_drill.specs.Parts.{part_stands, Becomes}
use Rattle.hold_stage.specs.Went.{with_noted}
use Rattle.ep_drill.specs.Calls.{AreHome}
use Rattle.hold_stage.specs.Stays.{KeptBut}
use Rattle.ep_drill.specs.Marks.{marked_by, IsMarked, HasMarked, MarksPart}
use Rattle.ep_drill.specs.StoreSide.{IsTaken}
use Rattle.ep_drill.specs.Fetches.{fetched_data, IsRead}
use Rattle.ep_drill.specs.Stands.{BatchStands, DeskStands}
use Rattle.ep_drill.specs.Core.{BenchStands, Ready, Moved, Worked}
use Rattle.ep_drill.specs.Works.{WasMarked}
use Rattle.ep_drill.proofs.MarkLemmas.{mark_becomes, mark_home, mark_alone}
use Rattle.ep_drill.proofs.BenchLemmas.{bench_noted, bench_taken, bench_read}
use Rattle.ep_drill.proofs.WorkedLemmas.{moved_with_room, worked_by, begun_with_room, layout_with_room, home_with_room, kept_at}

-- a desk stands for the stage's history, which is the vBucket's
pub desk_begun : (a s : WorldData Part) (vb sv : ℕ) → s ≡ a → sv ≡ vb → (bench : BenchData) → BenchStands (front_in a vb) bench → DeskStands (front_in s sv) bench.desk
desk_begun a s vb sv w at bench b =
    subst (λ (f : FrontData). DeskStands f bench.desk) (sym (ap (λ (k : ℕ). front_in s k) at ∙ ap (λ (k : WorldData Part). front_in k vb) w)) b.desk

-- The stage begins at the world `a`, and what is done there notes nothing.
module _ (a s z : WorldData Part) (vb sv zv : ℕ) (w : s ≡ a) (at : sv ≡ vb) (fixed : fixed_in z zv ≡ fixed_in s sv) (front : front_in z zv ≡ front_in s sv) where
  -- the stage's history is the vBucket's
  pub front_begun : front_in s sv ≡ front_in a vb
  front_begun = ap (λ (k : ℕ). front_in s k) at ∙ ap (λ (k : WorldData Part). front_in k vb) w

  -- and it is the same at the end
  pub front_still : front_in z vb ≡ front_in a vb
  front_still =
      let v : zv ≡ vb = ap (λ (k : FixedData Part). k.vb) fixed ∙ at in
      ap (λ (k : ℕ). front_in z k) (sym v) ∙ front ∙ front_begun

  pub bench_still : (bench : BenchData) → BenchStands (front_in a vb) bench → BenchStands (front_in z vb) bench
  bench_still bench b = subst (λ (f : FrontData). BenchStands f bench) (sym front_still) b

  -- a batch was taken
  pub taken_some : (bench : BenchData) (taken : Option BatchData) (batch : BatchData) → BenchStands (front_in a vb) bench → bench.desk.doubt ≡ None → taken ≡ Some batch → IsTaken (front_in s sv) bench.desk.stored taken
      → BenchStands (front_in z vb) (record bench { batch = Some batch })
  taken_some bench taken batch b sure is stands =
      let here : IsTaken (front_in s sv) bench.desk.stored (Some batch) = subst (λ (o : Option BatchData). IsTaken (front_in s sv) bench.desk.stored o) is stands in
      bench_still (record bench { batch = Some batch }) (bench_taken (front_in a vb) bench (Some batch) b sure (subst (λ (f : FrontData). BatchStands f bench.desk.stored batch) front_begun here.0))

  -- or all was stored
  pub taken_none : (bench : BenchData) → BenchStands (front_in a vb) bench → bench.desk.doubt ≡ None → BenchStands (front_in z vb) (record bench { batch = None })
  taken_none bench b sure = bench_still (record bench { batch = None }) (bench_taken (front_in a vb) bench None b sure tt)

  -- nothing was read, or memory was wanting
  pub read_none : (bench : BenchData) (now : DeskData) → BenchStands (front_in a vb) bench → now ≡ bench.desk → BenchStands (front_in z vb) (record bench { desk = now })
  read_none bench now b is = subst (λ (d : DeskData). BenchStands (front_in z vb) (record bench { desk = d })) (sym is) (bench_still bench b)

  -- A document was read for a stripe. What was read before and isn't merged is dropped.
  pub read_some : (desk now : DeskData) (batch : Option BatchData) (reads : List (Option Fetched)) (read : Option Fetched) (fetched : Fetched) (config : Config) (stripe index : ℕ)
      → BenchStands (front_in a vb) (record { desk = desk; batch = batch; reads = map (option_map fetched_data) reads }) → a.config ≡ config → stripe < config.stripes → index ≡ stripe
      → read ≡ Some fetched → IsRead (front_in s sv) stripe desk now read
      → BenchStands (front_in z vb) (record { desk = now; batch = batch; reads = map (option_map fetched_data) (slice_set reads index (Some fetched)) })
  read_some desk now batch reads read fetched config stripe index b layout there is one stands =
      let before : BenchData = record { desk = desk; batch = batch; reads = map (option_map fetched_data) reads } in
      let within : stripe < a.config.stripes = subst (λ (k : Config). stripe < k.stripes) (sym layout) there in
      let at-stage : IsRead (front_in s sv) stripe desk now (Some fetched) = subst (λ (o : Option Fetched). IsRead (front_in s sv) stripe desk now o) one stands in
      let here : IsRead (front_in a vb) stripe desk now (Some fetched) = subst (λ (f : FrontData). IsRead f stripe desk now (Some fetched)) front_begun at-stage in
      let after = bench_read (front_in a vb) before now stripe (fetched_data fetched) b within here.0 here.1 here.2 in
      let same : slice_set (map (option_map fetched_data) reads) stripe (Some (fetched_data fetched)) ≡ map (option_map fetched_data) (slice_set reads index (Some fetched)) =
      sym (map-set (option_map fetched_data) reads stripe (Some fetched)) ∙ ap (λ (n : ℕ). map (option_map fetched_data) (slice_set reads n (Some fetched))) (sym is) in
      bench_still (record { desk = now; batch = batch; reads = map (option_map fetched_data) (slice_set reads index (Some fetched)) })
      (subst (λ (l : List (Option FetchedData)). BenchStands (front_in a vb) (record { desk = now; batch = batch; reads = l })) same after)

-- where a stripe is told what is stored, that is no event of a call
mark_quiet : (stripe number : ℕ) (marking : Marking) → IfSome (marked_by stripe number marking) (λ e. is_call e ≡ false)
unfolding is_call
mark_quiet stripe number markings.Idle = tt
mark_quiet stripe number (markings.Raised other) = refl
mark_quiet stripe number (markings.Busy busy) = tt

-- and none of the desk's
mark_not_desks : (stripe number : ℕ) (marking : Marking) → IfSome (marked_by stripe number marking) (λ e. is_desks e ≡ false)
unfolding is_desks
mark_not_desks stripe number markings.Idle = tt
mark_not_desks stripe number (markings.Raised other) = refl
mark_not_desks stripe number (markings.Busy busy) = tt

-- The stage begins at the world `r`, which is the world `a` with other room, and a stripe is told there what is stored.
module _ (config : Config) (a r s z : WorldData Part) (vb sv zv n m stripe number before after : ℕ) (marking : Marking) (ready : Ready config a) (within : vb < config.vbuckets) (in-it : stripe < config.stripes)
    (room : r ≡ record a { event_room = n; byte_room = m }) (w : s ≡ r) (at : sv ≡ vb) (fixed : fixed_in z zv ≡ fixed_in s sv) (alone : front_in z zv ≡ with_noted (front_in s sv) (marked_by stripe number marking))
    (has : HasMarked (front_in z zv) stripe number before after marking) (told : MarksPart (part_in s sv (Stripe stripe)) (part_in z zv (Stripe stripe)) number marking)
    (kept : KeptBut (front_in s sv).config (is_stripe stripe) (part_in s sv) (part_in z zv)) where
  begun : (p : PartName) → part_in s sv p ≡ part_in a vb p
  begun = begun_with_room a r s vb sv n m room w at

  layout : s.config ≡ config
  layout = layout_with_room config a r s n m ready.layout room w

  home-before : AreHome s.config (part_in s sv)
  home-before = home_with_room config a r s vb sv n m ready within room w at

  there-is : there s.config (Stripe stripe) ≡ true
  there-is = let t : nat_lt stripe config.stripes ≡ true = grind (arith, nat_tests) in ap (λ (k : Config). nat_lt stripe k.stripes) layout ∙ t

  is-marked : IsMarked (front_in s sv) (front_in z zv) stripe number marking
  is-marked = mark_alone (front_in s sv) (front_in z zv) stripe number before after (part_in s sv (Stripe stripe)) (part_in z zv (Stripe stripe)) marking (home-before (Stripe stripe) there-is) told has alone

  mark_moved : Moved config vb (marked_by stripe number marking) a z
  mark_moved =
      moved_with_room config a r s z vb sv zv (marked_by stripe number marking) (marked_by stripe number marking) n m ready within room w at fixed
      (mark_home s.config stripe number (part_in s sv) (part_in z zv) marking there-is home-before told kept) alone refl

  -- what was told of the history at the end is told of the vBucket's
  mark_told : IsMarked (front_in a vb) (front_in z vb) stripe number marking
  mark_told =
      let front : front_in s sv ≡ front_in a vb =
      ap (λ (k : ℕ). front_in s k) at ∙ ap (λ (k : WorldData Part). front_in k vb) w ∙ ap (λ (k : WorldData Part). front_in k vb) room in
      let v : zv ≡ vb = ap (λ (k : FixedData Part). k.vb) fixed ∙ at in
      subst (λ (f : FrontData). IsMarked f (front_in z vb) stripe number marking) front
      (subst (λ (k : ℕ). IsMarked (front_in s sv) (front_in z k) stripe number marking) v is-marked)

  -- the bench is left as it was
  pub mark_marks : (bench : BenchData) → bench.desk.noted ≡ number → WasMarked config vb stripe marking a z bench bench
  mark_marks bench same =
      let v : zv ≡ vb = ap (λ (k : FixedData Part). k.vb) fixed ∙ at in
      let raised : Becomes (part_in s sv (Stripe stripe)) (part_in z zv (Stripe stripe)) (λ x. record x { mark = number }) =
      mark_becomes stripe number (part_in s sv (Stripe stripe)) (part_in z zv (Stripe stripe)) marking (home-before (Stripe stripe) there-is) told in
      let here : Becomes (part_in a vb (Stripe stripe)) (part_in z zv (Stripe stripe)) (λ x. record x { mark = number }) =
      subst (λ (o : Option Part). Becomes o (part_in z zv (Stripe stripe)) (λ x. record x { mark = number })) (begun (Stripe stripe)) raised in
      let there : Becomes (part_in a vb (Stripe stripe)) (part_in z vb (Stripe stripe)) (λ x. record x { mark = number }) =
      subst (λ (k : ℕ). Becomes (part_in a vb (Stripe stripe)) (part_in z k (Stripe stripe)) (λ x. record x { mark = number })) v here in
      record {
        left = refl;
        moved = subst (λ (k : ℕ). Moved config vb (marked_by stripe k marking) a z) (sym same) mark_moved;
        says = subst (λ (k : ℕ). IsMarked (front_in a vb) (front_in z vb) stripe k marking) (sym same) mark_told;
        raised = subst (λ (k : ℕ). Becomes (part_in a vb (Stripe stripe)) (part_in z vb (Stripe stripe)) (λ x. record x { mark = k })) (sym same) there;
        kept = kept_at config a s z vb sv zv layout begun at fixed (λ k. is_stripe stripe) kept;
      }

  pub mark_worked : Worked config vb a z
  mark_worked = worked_by config a z vb (marked_by stripe number marking) mark_moved (mark_quiet stripe number marking)

  -- the bench stands on
  pub mark_bench : (bench : BenchData) → Sound part_stands r → Sound part_stands z → BenchStands (front_in a vb) bench → BenchStands (front_in z vb) bench
  mark_bench bench first last b =
      let event = marked_by stripe number marking in
      let same : front_in r vb ≡ front_in a vb = ap (λ (k : WorldData Part). front_in k vb) room in
      let old : IsLegal (front_in a vb) = subst (λ (f : FrontData). IsLegal f) same (first.legal vb) in
      let new : IsLegal (with_noted (front_in a vb) event) = subst (λ (f : FrontData). IsLegal f) mark_moved.front (last.legal vb) in
      subst (λ (f : FrontData). BenchStands f bench) (sym mark_moved.front) (bench_noted (front_in a vb) event bench old new (mark_not_desks stripe number marking) b)
