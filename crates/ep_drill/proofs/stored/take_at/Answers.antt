use Rattle.std.proofs.Common.{rules, ◌≡◌, refl, subst, Some, None}
use Rattle.ep_model.specs.declared.data.FrontData.{FrontData}
use Rattle.vb_world.specs.World.{front_in}
use Rattle.ep_drill.specs.Core.{bench_data, BenchStands, Moved, count_of}
use Rattle.ep_drill.proofs.WorkedLemmas.{moved_still}
use Rattle.ep_drill.specs.Works.{TookBatch, WasDropped}
use Rattle.ep_drill.proofs.BenchedLemmas.{count_told, was_taken, was_dropped}
use Rattle.ep_drill.specs.Stands.{DeskStands}
use Rattle.ep_drill.proofs.StoredLemmas.{desk_begun, taken_some, taken_none}
use Rattle.ep_drill.proofs.stored.take_at.Goals as goal

-- src/stored.rt
pub returns-in-Ok-Some-clause-moved : goal.returns-in-Ok-Some-clause-moved
returns-in-Ok-Some-clause-moved g c =
    let m : Moved c.args.config.now c.args.vb None c.args.world.now c.take_batch-taken.new.stage.world.now =
    moved_still c.args.config.now c.args.world.now c.stage-stage.result.world.now c.take_batch-taken.new.stage.world.now c.args.vb c.stage-stage.result.vb c.take_batch-taken.new.stage.vb c.requires.ready c.requires.vb c.stage-stage.ensures.world
    c.stage-stage.ensures.vb c.take_batch-taken.ensures.stays.fixed c.take_batch-taken.ensures.home c.take_batch-taken.ensures.front in
    search rules

-- src/stored.rt
pub returns-in-Ok-Some-clause-bench : goal.returns-in-Ok-Some-clause-bench
returns-in-Ok-Some-clause-bench g c =
    let sure : c.args.bench.now.desk.doubt ≡ None = search rules in
    let stands : DeskStands (front_in c.stage-stage.result.world.now c.stage-stage.result.vb) c.args.bench.now.desk =
    desk_begun c.args.world.now c.stage-stage.result.world.now c.args.vb c.stage-stage.result.vb c.stage-stage.ensures.world c.stage-stage.ensures.vb (bench_data c.args.bench.now) c.requires.bench in
    let b : BenchStands (front_in c.take_batch-taken.new.stage.world.now c.args.vb) (bench_data (record c.args.bench.now { batch = Some c.in-Ok-Some.batch })) =
    taken_some c.args.world.now c.stage-stage.result.world.now c.take_batch-taken.new.stage.world.now c.args.vb c.stage-stage.result.vb c.take_batch-taken.new.stage.vb c.stage-stage.ensures.world c.stage-stage.ensures.vb
    c.take_batch-taken.ensures.stays.fixed c.take_batch-taken.ensures.front (bench_data c.args.bench.now) c.in-Ok-Some.field-0 c.in-Ok-Some.batch c.requires.bench sure c.in-Ok-Some.field-0-is (c.in-Ok-Some.ensures.taken c.args.bench.now.desk stands) in
    search rules

-- src/stored.rt
pub returns-in-Ok-None-clause-moved : goal.returns-in-Ok-None-clause-moved
returns-in-Ok-None-clause-moved g c =
    let m : Moved c.args.config.now c.args.vb None c.args.world.now c.take_batch-taken.new.stage.world.now =
    moved_still c.args.config.now c.args.world.now c.stage-stage.result.world.now c.take_batch-taken.new.stage.world.now c.args.vb c.stage-stage.result.vb c.take_batch-taken.new.stage.vb c.requires.ready c.requires.vb c.stage-stage.ensures.world
    c.stage-stage.ensures.vb c.take_batch-taken.ensures.stays.fixed c.take_batch-taken.ensures.home c.take_batch-taken.ensures.front in
    search rules

-- src/stored.rt
pub returns-in-Ok-None-clause-bench : goal.returns-in-Ok-None-clause-bench
returns-in-Ok-None-clause-bench g c =
    let sure : c.args.bench.now.desk.doubt ≡ None = search rules in
    let b : BenchStands (front_in c.take_batch-taken.new.stage.world.now c.args.vb) (bench_data (record c.args.bench.now { batch = None })) =
    taken_none c.args.world.now c.stage-stage.result.world.now c.take_batch-taken.new.stage.world.now c.args.vb c.stage-stage.result.vb c.take_batch-taken.new.stage.vb c.stage-stage.ensures.world c.stage-stage.ensures.vb
    c.take_batch-taken.ensures.stays.fixed c.take_batch-taken.ensures.front (bench_data c.args.bench.now) c.requires.bench sure in
    subst (λ (f : FrontData). BenchStands f (bench_data (record c.args.bench.now { batch = None }))) (search rules) b

-- src/stored.rt
pub returns-in-Err-clause-moved : goal.returns-in-Err-clause-moved
returns-in-Err-clause-moved g c =
    let m : Moved c.args.config.now c.args.vb None c.args.world.now c.take_batch-taken.new.stage.world.now =
    moved_still c.args.config.now c.args.world.now c.stage-stage.result.world.now c.take_batch-taken.new.stage.world.now c.args.vb c.stage-stage.result.vb c.take_batch-taken.new.stage.vb c.requires.ready c.requires.vb c.stage-stage.ensures.world
    c.stage-stage.ensures.vb c.take_batch-taken.ensures.stays.fixed c.take_batch-taken.ensures.home c.take_batch-taken.ensures.front in
    search rules

-- src/stored.rt
pub returns-in-Ok-Some-clause-taken : goal.returns-in-Ok-Some-clause-taken
returns-in-Ok-Some-clause-taken g c =
    let sure : c.args.bench.now.desk.doubt ≡ None = search rules in
    let stands : DeskStands (front_in c.stage-stage.result.world.now c.stage-stage.result.vb) c.args.bench.now.desk =
    desk_begun c.args.world.now c.stage-stage.result.world.now c.args.vb c.stage-stage.result.vb c.stage-stage.ensures.world c.stage-stage.ensures.vb (bench_data c.args.bench.now) c.requires.bench in
    let rows : c.unwrap_or.result ≡ count_of (Some c.in-Ok-Some.batch) = count_told c.try_from.result c.count-count-in-Ok-Some.result c.unwrap_or.result c.in-Ok-Some.batch c.count-count-in-Ok-Some.ensures.count c.try_from.ensures c.unwrap_or.ensures in
    let t : TookBatch c.args.config.now c.args.vb c.unwrap_or.result c.args.world.now c.take_batch-taken.new.stage.world.now (bench_data c.args.bench.now) (bench_data (record c.args.bench.now { batch = Some c.in-Ok-Some.batch })) =
    was_taken c.args.config.now c.args.world.now c.stage-stage.result.world.now c.take_batch-taken.new.stage.world.now c.args.vb c.stage-stage.result.vb c.take_batch-taken.new.stage.vb c.requires.ready c.requires.vb c.stage-stage.ensures.world c.stage-stage.ensures.vb
    c.take_batch-taken.ensures.stays.fixed c.take_batch-taken.ensures.home c.take_batch-taken.ensures.front
    (bench_data c.args.bench.now) (bench_data (record c.args.bench.now { batch = Some c.in-Ok-Some.batch })) sure c.take_batch-taken.ensures.parts c.unwrap_or.result c.in-Ok-Some.field-0 (Some c.in-Ok-Some.batch) c.in-Ok-Some.field-0-is (c.in-Ok-Some.ensures.taken c.args.bench.now.desk stands) rows refl c.requires.bench in
    search rules

-- src/stored.rt
pub returns-in-Ok-None-clause-taken : goal.returns-in-Ok-None-clause-taken
returns-in-Ok-None-clause-taken g c =
    let sure : c.args.bench.now.desk.doubt ≡ None = search rules in
    let stands : DeskStands (front_in c.stage-stage.result.world.now c.stage-stage.result.vb) c.args.bench.now.desk =
    desk_begun c.args.world.now c.stage-stage.result.world.now c.args.vb c.stage-stage.result.vb c.stage-stage.ensures.world c.stage-stage.ensures.vb (bench_data c.args.bench.now) c.requires.bench in
    let t : TookBatch c.args.config.now c.args.vb 0 c.args.world.now c.take_batch-taken.new.stage.world.now (bench_data c.args.bench.now) (bench_data (record c.args.bench.now { batch = None })) =
    was_taken c.args.config.now c.args.world.now c.stage-stage.result.world.now c.take_batch-taken.new.stage.world.now c.args.vb c.stage-stage.result.vb c.take_batch-taken.new.stage.vb c.requires.ready c.requires.vb c.stage-stage.ensures.world c.stage-stage.ensures.vb
    c.take_batch-taken.ensures.stays.fixed c.take_batch-taken.ensures.home c.take_batch-taken.ensures.front
    (bench_data c.args.bench.now) (bench_data (record c.args.bench.now { batch = None })) sure c.take_batch-taken.ensures.parts 0 c.in-Ok-None.field-0 None c.in-Ok-None.field-0-is (c.in-Ok-None.ensures.taken c.args.bench.now.desk stands) refl refl c.requires.bench in
    search rules

-- src/stored.rt
pub returns-in-Err-clause-taken : goal.returns-in-Err-clause-taken
returns-in-Err-clause-taken g c =
    let sure : c.args.bench.now.desk.doubt ≡ None = search rules in
    let t : WasDropped c.args.config.now c.args.vb c.args.world.now c.take_batch-taken.new.stage.world.now (bench_data c.args.bench.now) (bench_data (record c.args.bench.now { batch = None })) =
    was_dropped c.args.config.now c.args.world.now c.stage-stage.result.world.now c.take_batch-taken.new.stage.world.now c.args.vb c.stage-stage.result.vb c.take_batch-taken.new.stage.vb c.requires.ready c.requires.vb c.stage-stage.ensures.world c.stage-stage.ensures.vb
    c.take_batch-taken.ensures.stays.fixed c.take_batch-taken.ensures.home c.take_batch-taken.ensures.front
    (bench_data c.args.bench.now) (bench_data (record c.args.bench.now { batch = None })) sure c.take_batch-taken.ensures.parts refl c.in-Err.ensures.err in
    search rules

-- src/stored.rt
pub returns-in-Err-clause-bench : goal.returns-in-Err-clause-bench
returns-in-Err-clause-bench g c =
    let sure : c.args.bench.now.desk.doubt ≡ None = search rules in
    let b : BenchStands (front_in c.take_batch-taken.new.stage.world.now c.args.vb) (bench_data (record c.args.bench.now { batch = None })) =
    taken_none c.args.world.now c.stage-stage.result.world.now c.take_batch-taken.new.stage.world.now c.args.vb c.stage-stage.result.vb c.take_batch-taken.new.stage.vb c.stage-stage.ensures.world c.stage-stage.ensures.vb
    c.take_batch-taken.ensures.stays.fixed c.take_batch-taken.ensures.front (bench_data c.args.bench.now) c.requires.bench sure in
    subst (λ (f : FrontData). BenchStands f (bench_data (record c.args.bench.now { batch = None }))) (search rules) b
