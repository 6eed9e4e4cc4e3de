use Rattle.std.proofs.Common.{rules, ◌≡◌, ◌<◌, Some, None, List, map, slice_index_or, slice_set, refl, sym, ap, subst, ◌∙◌}
use Rattle.std.specs.Prelude.{Option}
use Rattle.std.specs.Option.{option_map}
use Rattle.std.specs.Vec.{with_item}
use Rattle.ep_model.specs.declared.config.Config.{Config}
use Rattle.ep_model.specs.declared.data.FrontData.{FrontData}
use Rattle.ep_model.specs.declared.event.PartName.TheVariants.{Stripe}
use Rattle.vb_world.specs.declared.data.WorldData.{WorldData}
use Rattle.vb_world.specs.World.{front_in, part_in, Sound}
use Rattle.ep_drill.specs.declared.data.FetchedData.{FetchedData}
use Rattle.ep_drill.specs.declared.part.Part.{Part}
use Rattle.ep_drill.specs.declared.fetched.Fetched.{Fetched}
use Rattle.ep_drill.specs.Parts.{part_stands}
use Rattle.ep_drill.specs.Fetches.{fetched_data}
use Rattle.ep_drill.specs.Core.{bench_data, BenchStands, LacksEventRoom, Worked}
use Rattle.ep_drill.specs.Works.{WasMerged}
use Rattle.ep_drill.proofs.WorldLemmas.{room_rests}
use Rattle.ep_drill.proofs.BenchedLemmas.{no_read_at_stripe, put_again, is_there, was_merged}
use Rattle.ep_drill.proofs.ListLemmas.{set_same}
use Rattle.std.proofs.lemmas.List.{map-set}
use Rattle.ep_drill.proofs.MergedLemmas.{read_at_stripe, merged_at, merge_ready, merge_left}
use Rattle.ep_drill.proofs.stored.merge_at.Goals as goal

-- src/stored.rt
pub fetch_merge-merging-requires-clause-there : goal.fetch_merge-merging-requires-clause-there
fetch_merge-merging-requires-clause-there g c =
    let was : c.index_mut.result.now ≡ Some c.in-Some.fetched = sym c.replace.ensures.value ∙ c.in-Some.is in
    let at : c.index_mut.result.now ≡ slice_index_or c.args.bench.now.reads.items c.args.stripe c.index_mut.result.now = search rules in
    let read = read_at_stripe (front_in c.args.world.now c.args.vb) (bench_data c.args.bench.now) c.args.bench.now.reads.items c.args.stripe c.index_mut.result.now c.in-Some.fetched c.requires.bench refl (subst (λ (k : Config). c.args.stripe < k.stripes) (sym c.requires.ready.layout) c.requires.stripe) at was in
    (merge_ready c.args.world.now c.reserve.new.self c.stage-stage.result.world.now c.stage-stage.result.world.now c.args.vb c.stage-stage.result.vb c.stage-stage.result.vb c.reserve.new.self.event_room c.reserve.new.self.byte_room c.args.config.now (bench_data c.args.bench.now) c.args.stripe (fetched_data c.in-Some.fetched)
    c.requires.ready c.requires.stripe c.reserve.ensures.same c.stage-stage.ensures.world c.stage-stage.ensures.vb c.requires.bench read).0

-- src/stored.rt
pub fetch_merge-merging-requires-clause-stands : goal.fetch_merge-merging-requires-clause-stands
fetch_merge-merging-requires-clause-stands g c =
    let was : c.index_mut.result.now ≡ Some c.in-Some.fetched = sym c.replace.ensures.value ∙ c.in-Some.is in
    let at : c.index_mut.result.now ≡ slice_index_or c.args.bench.now.reads.items c.args.stripe c.index_mut.result.now = search rules in
    let read = read_at_stripe (front_in c.args.world.now c.args.vb) (bench_data c.args.bench.now) c.args.bench.now.reads.items c.args.stripe c.index_mut.result.now c.in-Some.fetched c.requires.bench refl (subst (λ (k : Config). c.args.stripe < k.stripes) (sym c.requires.ready.layout) c.requires.stripe) at was in
    (merge_ready c.args.world.now c.reserve.new.self c.stage-stage.result.world.now c.stage-stage.result.world.now c.args.vb c.stage-stage.result.vb c.stage-stage.result.vb c.reserve.new.self.event_room c.reserve.new.self.byte_room c.args.config.now (bench_data c.args.bench.now) c.args.stripe (fetched_data c.in-Some.fetched)
    c.requires.ready c.requires.stripe c.reserve.ensures.same c.stage-stage.ensures.world c.stage-stage.ensures.vb c.requires.bench read).1

-- src/stored.rt
pub returns-clause-worked : goal.returns-clause-worked
returns-clause-worked g c =
    let m : Worked c.args.config.now c.args.vb c.args.world.now c.fetch_merge-merging.new.stage.world.now =
    merged_at c.args.world.now c.reserve.new.self c.stage-stage.result.world.now c.fetch_merge-merging.new.stage.world.now c.args.vb c.stage-stage.result.vb c.fetch_merge-merging.new.stage.vb c.reserve.new.self.event_room c.reserve.new.self.byte_room c.args.config.now
    (part_in c.stage-stage.result.world.now c.stage-stage.result.vb (Stripe c.in-Some.fetched.ticket.stripe)) (part_in c.fetch_merge-merging.new.stage.world.now c.fetch_merge-merging.new.stage.vb (Stripe c.in-Some.fetched.ticket.stripe)) (fetched_data c.in-Some.fetched) c.fetch_merge-merging.result
    c.requires.ready c.requires.vb c.reserve.ensures.same c.stage-stage.ensures.world c.stage-stage.ensures.vb c.fetch_merge-merging.ensures.stays.fixed c.fetch_merge-merging.ensures.home c.fetch_merge-merging.ensures.merged in
    search rules

-- src/stored.rt
pub returns-clause-bench : goal.returns-clause-bench
returns-clause-bench g c =
    let was : c.index_mut.result.now ≡ Some c.in-Some.fetched = sym c.replace.ensures.value ∙ c.in-Some.is in
    let at : c.index_mut.result.now ≡ slice_index_or c.args.bench.now.reads.items c.args.stripe c.index_mut.result.now = search rules in
    let read = read_at_stripe (front_in c.args.world.now c.args.vb) (bench_data c.args.bench.now) c.args.bench.now.reads.items c.args.stripe c.index_mut.result.now c.in-Some.fetched c.requires.bench refl (subst (λ (k : Config). c.args.stripe < k.stripes) (sym c.requires.ready.layout) c.requires.stripe) at was in
    let none : slice_set c.args.bench.now.reads.items c.from.result c.replace.new.dest ≡ slice_set c.args.bench.now.reads.items c.args.stripe None = search rules in
    let gone : map (option_map fetched_data) (slice_set c.args.bench.now.reads.items c.from.result c.replace.new.dest) ≡ slice_set (bench_data c.args.bench.now).reads c.args.stripe None =
    ap (λ (l : List (Option Fetched)). map (option_map fetched_data) l) none ∙ map-set (option_map fetched_data) c.args.bench.now.reads.items c.args.stripe None in
    let sound : Sound part_stands c.fetch_merge-merging.new.stage.world.now = search rules in
    let b : BenchStands (front_in c.fetch_merge-merging.new.stage.world.now c.args.vb) (record { desk = c.args.bench.now.desk; batch = c.args.bench.now.batch; reads = map (option_map fetched_data) (slice_set c.args.bench.now.reads.items c.from.result c.replace.new.dest) }) =
    merge_left c.args.world.now c.reserve.new.self c.stage-stage.result.world.now c.fetch_merge-merging.new.stage.world.now c.args.vb c.stage-stage.result.vb c.fetch_merge-merging.new.stage.vb c.reserve.new.self.event_room c.reserve.new.self.byte_room (bench_data c.args.bench.now) c.args.stripe (fetched_data c.in-Some.fetched)
    (part_in c.stage-stage.result.world.now c.stage-stage.result.vb (Stripe c.in-Some.fetched.ticket.stripe)) (part_in c.fetch_merge-merging.new.stage.world.now c.fetch_merge-merging.new.stage.vb (Stripe c.in-Some.fetched.ticket.stripe))
    (map (option_map fetched_data) (slice_set c.args.bench.now.reads.items c.from.result c.replace.new.dest)) c.fetch_merge-merging.result
    c.reserve.ensures.same c.stage-stage.ensures.world c.stage-stage.ensures.vb c.fetch_merge-merging.ensures.stays.fixed c.reserve.ensures.sound sound c.requires.bench read gone c.fetch_merge-merging.ensures.merged in
    search rules

-- src/stored.rt
pub returns-in_default-clause-ok : goal.returns-in_default-clause-ok
returns-in_default-clause-ok g c =
    let was : c.index_mut.result.now ≡ None = search rules in
    let at : c.index_mut.result.now ≡ slice_index_or c.args.bench.now.reads.items c.args.stripe c.index_mut.result.now = search rules in
    let none = no_read_at_stripe (front_in c.args.world.now c.args.vb) (bench_data c.args.bench.now) c.args.bench.now.reads.items c.args.stripe c.index_mut.result.now c.requires.bench refl (subst (λ (k : Config). c.args.stripe < k.stripes) (sym c.requires.ready.layout) c.requires.stripe) at was in
    let same : slice_set c.args.bench.now.reads.items c.from.result c.replace.new.dest ≡ slice_set c.args.bench.now.reads.items c.args.stripe None = search rules in
    let back : bench_data (record c.args.bench.now { reads = with_item c.args.bench.now.reads c.from.result c.replace.new.dest }) ≡ bench_data c.args.bench.now =
    ap (λ (l : List (Option FetchedData)). record (bench_data c.args.bench.now) { reads = l }) (ap (λ (l : List (Option Fetched)). map (option_map fetched_data) l) same ∙ map-set (option_map fetched_data) c.args.bench.now.reads.items c.args.stripe None ∙ set_same (bench_data c.args.bench.now).reads c.args.stripe None none) in
    ((refl, back), none)

-- src/stored.rt
pub returns-then-is_err-clause-err : goal.returns-then-is_err-clause-err
returns-then-is_err-clause-err g c =
    let was : c.index_mut.result.now ≡ Some c.in-Some.fetched = sym c.replace.ensures.value ∙ c.in-Some.is in
    let at : c.index_mut.result.now ≡ slice_index_or c.args.bench.now.reads.items c.args.stripe c.index_mut.result.now = search rules in
    let read = read_at_stripe (front_in c.args.world.now c.args.vb) (bench_data c.args.bench.now) c.args.bench.now.reads.items c.args.stripe c.index_mut.result.now c.in-Some.fetched c.requires.bench refl (subst (λ (k : Config). c.args.stripe < k.stripes) (sym c.requires.ready.layout) c.requires.stripe) at was in
    let same : slice_set (slice_set c.args.bench.now.reads.items c.from.result c.replace.new.dest) c.from-then-is_err.result (Some c.in-Some.fetched) ≡ slice_set (slice_set c.args.bench.now.reads.items c.args.stripe c.replace.new.dest) c.args.stripe (Some c.in-Some.fetched) = search rules in (
      room_rests c.args.config.now c.args.world.now c.reserve.new.self c.reserve.new.self.event_room c.reserve.new.self.byte_room c.requires.ready c.reserve.ensures.same,
      ap (λ (l : List (Option FetchedData)). record (bench_data c.args.bench.now) { reads = l }) (put_again (option_map fetched_data) c.args.bench.now.reads.items (slice_set (slice_set c.args.bench.now.reads.items c.from.result c.replace.new.dest) c.from-then-is_err.result (Some c.in-Some.fetched)) c.args.stripe c.replace.new.dest (Some c.in-Some.fetched) same read),
      λ none. is_there c.args.stripe (bench_data c.args.bench.now).reads (fetched_data c.in-Some.fetched) read none,
      (let lacks : LacksEventRoom c.args.world.now = search rules in lacks),
    )

-- src/stored.rt
pub returns-then-is_err-clause-bench : goal.returns-then-is_err-clause-bench
returns-then-is_err-clause-bench g c =
    let was : c.index_mut.result.now ≡ Some c.in-Some.fetched = sym c.replace.ensures.value ∙ c.in-Some.is in
    let at : c.index_mut.result.now ≡ slice_index_or c.args.bench.now.reads.items c.args.stripe c.index_mut.result.now = search rules in
    let read = read_at_stripe (front_in c.args.world.now c.args.vb) (bench_data c.args.bench.now) c.args.bench.now.reads.items c.args.stripe c.index_mut.result.now c.in-Some.fetched c.requires.bench refl (subst (λ (k : Config). c.args.stripe < k.stripes) (sym c.requires.ready.layout) c.requires.stripe) at was in
    let same : slice_set (slice_set c.args.bench.now.reads.items c.from.result c.replace.new.dest) c.from-then-is_err.result (Some c.in-Some.fetched) ≡ slice_set (slice_set c.args.bench.now.reads.items c.args.stripe c.replace.new.dest) c.args.stripe (Some c.in-Some.fetched) = search rules in
    let back = put_again (option_map fetched_data) c.args.bench.now.reads.items (slice_set (slice_set c.args.bench.now.reads.items c.from.result c.replace.new.dest) c.from-then-is_err.result (Some c.in-Some.fetched)) c.args.stripe c.replace.new.dest (Some c.in-Some.fetched) same read in
    let front : front_in c.reserve.new.self c.args.vb ≡ front_in c.args.world.now c.args.vb = ap (λ (k : WorldData Part). front_in k c.args.vb) c.reserve.ensures.same in
    subst (λ (l : List (Option FetchedData)). BenchStands (front_in c.reserve.new.self c.args.vb) (record (bench_data c.args.bench.now) { reads = l })) (sym back)
    (subst (λ (f : FrontData). BenchStands f (bench_data c.args.bench.now)) (sym front) c.requires.bench)

-- src/stored.rt
pub returns-clause-ok : goal.returns-clause-ok
returns-clause-ok g c =
    let was : c.index_mut.result.now ≡ Some c.in-Some.fetched = sym c.replace.ensures.value ∙ c.in-Some.is in
    let at : c.index_mut.result.now ≡ slice_index_or c.args.bench.now.reads.items c.args.stripe c.index_mut.result.now = search rules in
    let read = read_at_stripe (front_in c.args.world.now c.args.vb) (bench_data c.args.bench.now) c.args.bench.now.reads.items c.args.stripe c.index_mut.result.now c.in-Some.fetched c.requires.bench refl (subst (λ (k : Config). c.args.stripe < k.stripes) (sym c.requires.ready.layout) c.requires.stripe) at was in
    let none : slice_set c.args.bench.now.reads.items c.from.result c.replace.new.dest ≡ slice_set c.args.bench.now.reads.items c.args.stripe None = search rules in
    let gone : map (option_map fetched_data) (slice_set c.args.bench.now.reads.items c.from.result c.replace.new.dest) ≡ slice_set (bench_data c.args.bench.now).reads c.args.stripe None =
    ap (λ (l : List (Option Fetched)). map (option_map fetched_data) l) none ∙ map-set (option_map fetched_data) c.args.bench.now.reads.items c.args.stripe None in
    let f : WasMerged c.args.config.now c.args.vb c.args.stripe c.fetch_merge-merging.result c.args.world.now c.fetch_merge-merging.new.stage.world.now (bench_data c.args.bench.now) (bench_data (record c.args.bench.now { reads = with_item c.args.bench.now.reads c.from.result c.replace.new.dest })) =
    was_merged c.args.config.now c.args.world.now c.reserve.new.self c.stage-stage.result.world.now c.fetch_merge-merging.new.stage.world.now c.args.vb c.stage-stage.result.vb c.fetch_merge-merging.new.stage.vb c.reserve.new.self.event_room c.reserve.new.self.byte_room
    c.requires.ready c.requires.vb c.reserve.ensures.same c.stage-stage.ensures.world c.stage-stage.ensures.vb c.fetch_merge-merging.ensures.stays.fixed c.fetch_merge-merging.ensures.home
    (bench_data c.args.bench.now) (bench_data (record c.args.bench.now { reads = with_item c.args.bench.now.reads c.from.result c.replace.new.dest })) c.args.stripe (fetched_data c.in-Some.fetched) c.fetch_merge-merging.result c.requires.bench read
    (ap (λ (l : List (Option FetchedData)). record (bench_data c.args.bench.now) { reads = l }) gone) c.fetch_merge-merging.ensures.merged c.fetch_merge-merging.ensures.kept in
    search rules
