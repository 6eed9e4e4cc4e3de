use Rattle.std.proofs.Common.{rules, ◌≡◌, ℕ, true, false, List, map, slice_set, refl, ap, subst, ◌∙◌, Some, None}
use Rattle.std.specs.Prelude.{Option}
use Rattle.std.specs.Option.{option_map}
use Rattle.std.specs.Vec.{with_item}
use Rattle.ep_model.specs.declared.data.FrontData.{FrontData}
use Rattle.ep_model.specs.declared.event.PartName.TheVariants.{Stripe}
use Rattle.kv_keeper.specs.declared.data.DeskData.{DeskData}
use Rattle.vb_world.specs.World.{front_in, part_in}
use Rattle.ep_drill.specs.declared.fetched.Fetched.{Fetched}
use Rattle.ep_drill.specs.declared.data.FetchedData.{FetchedData}
use Rattle.ep_drill.specs.Fetches.{fetched_data, HasWaiting, IsRead}
use Rattle.ep_drill.specs.Core.{bench_data, BenchStands, Moved, Rested}
use Rattle.ep_drill.specs.Works.{WasFetched}
use Rattle.std.proofs.lemmas.List.{map-set}
use Rattle.ep_drill.proofs.BenchedLemmas.{rested_still, was_fetched}
use Rattle.ep_drill.proofs.WorkedLemmas.{moved_still}
use Rattle.ep_drill.proofs.StoredLemmas.{read_some, read_none}
use Rattle.ep_drill.proofs.stored.read_sure.Goals as goal

-- src/stored.rt
pub returns-in-Ok-Some-clause-moved : goal.returns-in-Ok-Some-clause-moved
returns-in-Ok-Some-clause-moved g c =
    let m : Moved c.args.config.now c.args.vb None c.args.world.now c.fetch_read-read.new.stage.world.now =
    moved_still c.args.config.now c.args.world.now c.stage-stage.result.world.now c.fetch_read-read.new.stage.world.now c.args.vb c.stage-stage.result.vb c.fetch_read-read.new.stage.vb c.requires.ready c.requires.vb c.stage-stage.ensures.world
    c.stage-stage.ensures.vb c.fetch_read-read.ensures.stays.fixed c.fetch_read-read.ensures.home c.fetch_read-read.ensures.front in
    search rules

-- src/stored.rt
pub returns-in-Ok-Some-clause-bench : goal.returns-in-Ok-Some-clause-bench
returns-in-Ok-Some-clause-bench g c =
    let b : BenchStands (front_in c.fetch_read-read.new.stage.world.now c.args.vb) (bench_data (record c.args.bench.now { desk = c.fetch_read-read.new.desk; reads = with_item c.args.bench.now.reads c.from.result (Some c.in-Ok-Some.fetched) })) =
    read_some c.args.world.now c.stage-stage.result.world.now c.fetch_read-read.new.stage.world.now c.args.vb c.stage-stage.result.vb c.fetch_read-read.new.stage.vb c.stage-stage.ensures.world c.stage-stage.ensures.vb c.fetch_read-read.ensures.stays.fixed c.fetch_read-read.ensures.front
    c.args.bench.now.desk c.fetch_read-read.new.desk c.args.bench.now.batch c.args.bench.now.reads.items c.in-Ok-Some.field-0 c.in-Ok-Some.fetched c.args.config.now c.args.stripe c.from.result c.requires.bench c.requires.ready.layout
    c.requires.stripe c.from.ensures c.in-Ok-Some.field-0-is c.in-Ok-Some.ensures.read in
    subst (λ (f : FrontData). BenchStands f (bench_data (record c.args.bench.now { desk = c.fetch_read-read.new.desk; reads = with_item c.args.bench.now.reads c.from.result (Some c.in-Ok-Some.fetched) }))) (search rules) b

-- src/stored.rt
pub returns-in-Ok-None-clause-moved : goal.returns-in-Ok-None-clause-moved
returns-in-Ok-None-clause-moved g c =
    let m : Moved c.args.config.now c.args.vb None c.args.world.now c.fetch_read-read.new.stage.world.now =
    moved_still c.args.config.now c.args.world.now c.stage-stage.result.world.now c.fetch_read-read.new.stage.world.now c.args.vb c.stage-stage.result.vb c.fetch_read-read.new.stage.vb c.requires.ready c.requires.vb c.stage-stage.ensures.world
    c.stage-stage.ensures.vb c.fetch_read-read.ensures.stays.fixed c.fetch_read-read.ensures.home c.fetch_read-read.ensures.front in
    search rules

-- src/stored.rt
pub returns-in-Ok-None-clause-bench : goal.returns-in-Ok-None-clause-bench
returns-in-Ok-None-clause-bench g c =
    let unread : c.fetch_read-read.new.desk ≡ c.args.bench.now.desk = subst (λ (o : Option Fetched). IsRead (front_in c.stage-stage.result.world.now c.stage-stage.result.vb) c.args.stripe c.args.bench.now.desk c.fetch_read-read.new.desk o) c.in-Ok-None.field-0-is c.in-Ok-None.ensures.read in
    let b : BenchStands (front_in c.fetch_read-read.new.stage.world.now c.args.vb) (bench_data (record c.args.bench.now { desk = c.fetch_read-read.new.desk })) =
    read_none c.args.world.now c.stage-stage.result.world.now c.fetch_read-read.new.stage.world.now c.args.vb c.stage-stage.result.vb c.fetch_read-read.new.stage.vb c.stage-stage.ensures.world c.stage-stage.ensures.vb c.fetch_read-read.ensures.stays.fixed c.fetch_read-read.ensures.front
    (bench_data c.args.bench.now) c.fetch_read-read.new.desk c.requires.bench unread in
    subst (λ (f : FrontData). BenchStands f (bench_data (record c.args.bench.now { desk = c.fetch_read-read.new.desk }))) (search rules) b

-- src/stored.rt
pub returns-in-Err-clause-moved : goal.returns-in-Err-clause-moved
returns-in-Err-clause-moved g c =
    let m : Moved c.args.config.now c.args.vb None c.args.world.now c.fetch_read-read.new.stage.world.now =
    moved_still c.args.config.now c.args.world.now c.stage-stage.result.world.now c.fetch_read-read.new.stage.world.now c.args.vb c.stage-stage.result.vb c.fetch_read-read.new.stage.vb c.requires.ready c.requires.vb c.stage-stage.ensures.world
    c.stage-stage.ensures.vb c.fetch_read-read.ensures.stays.fixed c.fetch_read-read.ensures.home c.fetch_read-read.ensures.front in
    search rules

-- src/stored.rt
pub returns-in-Err-clause-bench : goal.returns-in-Err-clause-bench
returns-in-Err-clause-bench g c =
    let b : BenchStands (front_in c.fetch_read-read.new.stage.world.now c.args.vb) (bench_data (record c.args.bench.now { desk = c.fetch_read-read.new.desk })) =
    read_none c.args.world.now c.stage-stage.result.world.now c.fetch_read-read.new.stage.world.now c.args.vb c.stage-stage.result.vb c.fetch_read-read.new.stage.vb c.stage-stage.ensures.world c.stage-stage.ensures.vb c.fetch_read-read.ensures.stays.fixed c.fetch_read-read.ensures.front
    (bench_data c.args.bench.now) c.fetch_read-read.new.desk c.requires.bench c.in-Err.ensures.err.0 in
    subst (λ (f : FrontData). BenchStands f (bench_data (record c.args.bench.now { desk = c.fetch_read-read.new.desk }))) (search rules) b

-- src/stored.rt
pub returns-in-Ok-Some-clause-ok : goal.returns-in-Ok-Some-clause-ok
returns-in-Ok-Some-clause-ok g c =
    let same : map (option_map fetched_data) (slice_set c.args.bench.now.reads.items c.from.result (Some c.in-Ok-Some.fetched)) ≡ slice_set (bench_data c.args.bench.now).reads c.args.stripe (Some (fetched_data c.in-Ok-Some.fetched)) =
    ap (λ (k : ℕ). map (option_map fetched_data) (slice_set c.args.bench.now.reads.items k (Some c.in-Ok-Some.fetched))) c.from.ensures ∙ map-set (option_map fetched_data) c.args.bench.now.reads.items c.args.stripe (Some c.in-Ok-Some.fetched) in
    let f : WasFetched c.args.config.now c.args.vb c.args.stripe true c.args.world.now c.fetch_read-read.new.stage.world.now (bench_data c.args.bench.now) (bench_data (record c.args.bench.now { desk = c.fetch_read-read.new.desk; reads = with_item c.args.bench.now.reads c.from.result (Some c.in-Ok-Some.fetched) })) =
    was_fetched c.args.config.now c.args.world.now c.stage-stage.result.world.now c.fetch_read-read.new.stage.world.now c.args.vb c.stage-stage.result.vb c.fetch_read-read.new.stage.vb c.requires.ready c.requires.vb c.stage-stage.ensures.world c.stage-stage.ensures.vb
    c.fetch_read-read.ensures.stays.fixed c.fetch_read-read.ensures.home c.fetch_read-read.ensures.front
    (bench_data c.args.bench.now) (bench_data (record c.args.bench.now { desk = c.fetch_read-read.new.desk; reads = with_item c.args.bench.now.reads c.from.result (Some c.in-Ok-Some.fetched) })) c.requires.sure c.fetch_read-read.ensures.parts c.args.stripe true c.fetch_read-read.new.desk c.in-Ok-Some.field-0 (Some c.in-Ok-Some.fetched) c.in-Ok-Some.field-0-is refl c.in-Ok-Some.ensures.oldest
    (ap (λ (l : List (Option FetchedData)). record (bench_data c.args.bench.now) { desk = c.fetch_read-read.new.desk; reads = l }) same) c.in-Ok-Some.ensures.read in
    search rules

-- src/stored.rt
pub returns-in-Ok-None-clause-ok : goal.returns-in-Ok-None-clause-ok
returns-in-Ok-None-clause-ok g c =
    let f : WasFetched c.args.config.now c.args.vb c.args.stripe false c.args.world.now c.fetch_read-read.new.stage.world.now (bench_data c.args.bench.now) (bench_data (record c.args.bench.now { desk = c.fetch_read-read.new.desk })) =
    was_fetched c.args.config.now c.args.world.now c.stage-stage.result.world.now c.fetch_read-read.new.stage.world.now c.args.vb c.stage-stage.result.vb c.fetch_read-read.new.stage.vb c.requires.ready c.requires.vb c.stage-stage.ensures.world c.stage-stage.ensures.vb
    c.fetch_read-read.ensures.stays.fixed c.fetch_read-read.ensures.home c.fetch_read-read.ensures.front
    (bench_data c.args.bench.now) (bench_data (record c.args.bench.now { desk = c.fetch_read-read.new.desk })) c.requires.sure c.fetch_read-read.ensures.parts c.args.stripe false c.fetch_read-read.new.desk c.in-Ok-None.field-0 None c.in-Ok-None.field-0-is refl c.in-Ok-None.ensures.oldest
    refl c.in-Ok-None.ensures.read in
    search rules

-- src/stored.rt
pub returns-in-Err-clause-err : goal.returns-in-Err-clause-err
returns-in-Err-clause-err g c =
    let r : Rested c.args.config.now c.args.world.now c.fetch_read-read.new.stage.world.now =
    rested_still c.args.config.now c.args.world.now c.stage-stage.result.world.now c.fetch_read-read.new.stage.world.now c.args.vb c.stage-stage.result.vb c.fetch_read-read.new.stage.vb c.requires.ready c.requires.vb c.stage-stage.ensures.world c.stage-stage.ensures.vb
    c.fetch_read-read.ensures.stays.fixed c.fetch_read-read.ensures.home c.fetch_read-read.ensures.front c.fetch_read-read.ensures.parts in
    let waits : HasWaiting (part_in c.args.world.now c.args.vb (Stripe c.args.stripe)) = search rules in
    (search rules, ap (λ (d : DeskData). record (bench_data c.args.bench.now) { desk = d }) c.in-Err.ensures.err.0, c.requires.sure, waits)
