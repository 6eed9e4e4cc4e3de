use Rattle.std.proofs.Common.{rules, ◌≡◌, Some, sym, ap, ◌∙◌}
use Rattle.std.specs.Prelude.{Option}
use Rattle.kv_keeper.specs.declared.data.BatchData.{BatchData}
use Rattle.vb_world.specs.World.{front_in, Sound}
use Rattle.ep_drill.specs.Parts.{part_stands}
use Rattle.ep_drill.specs.Core.{bench_data, BenchStands, Worked}
use Rattle.ep_drill.specs.Works.{WasFlushed}
use Rattle.ep_drill.proofs.BenchedLemmas.{was_flushed}
use Rattle.ep_drill.proofs.MergedLemmas.{flushed_at, commit_ready, commit_sure, commit_left}
use Rattle.ep_drill.proofs.stored.commit_at.Goals as goal

-- src/stored.rt
pub commit_batch-flushed-requires-clause-sure : goal.commit_batch-flushed-requires-clause-sure
commit_batch-flushed-requires-clause-sure g c =
    let is : (bench_data c.args.bench.now).batch ≡ Some c.in-Some.batch = sym c.replace.ensures.value ∙ c.in-Some.is in
    (commit_ready c.args.world.now c.reserve.new.self c.stage-stage.result.world.now c.stage-stage.result.world.now c.args.vb c.stage-stage.result.vb c.stage-stage.result.vb c.reserve.new.self.event_room c.reserve.new.self.byte_room (bench_data c.args.bench.now) c.in-Some.batch
    c.reserve.ensures.same c.stage-stage.ensures.world c.stage-stage.ensures.vb c.requires.bench is).0

-- src/stored.rt
pub commit_batch-flushed-requires-clause-desk : goal.commit_batch-flushed-requires-clause-desk
commit_batch-flushed-requires-clause-desk g c =
    let is : (bench_data c.args.bench.now).batch ≡ Some c.in-Some.batch = sym c.replace.ensures.value ∙ c.in-Some.is in
    (commit_ready c.args.world.now c.reserve.new.self c.stage-stage.result.world.now c.stage-stage.result.world.now c.args.vb c.stage-stage.result.vb c.stage-stage.result.vb c.reserve.new.self.event_room c.reserve.new.self.byte_room (bench_data c.args.bench.now) c.in-Some.batch
    c.reserve.ensures.same c.stage-stage.ensures.world c.stage-stage.ensures.vb c.requires.bench is).1

-- src/stored.rt
pub commit_batch-flushed-requires-clause-batch : goal.commit_batch-flushed-requires-clause-batch
commit_batch-flushed-requires-clause-batch g c =
    let is : (bench_data c.args.bench.now).batch ≡ Some c.in-Some.batch = sym c.replace.ensures.value ∙ c.in-Some.is in
    (commit_ready c.args.world.now c.reserve.new.self c.stage-stage.result.world.now c.stage-stage.result.world.now c.args.vb c.stage-stage.result.vb c.stage-stage.result.vb c.reserve.new.self.event_room c.reserve.new.self.byte_room (bench_data c.args.bench.now) c.in-Some.batch
    c.reserve.ensures.same c.stage-stage.ensures.world c.stage-stage.ensures.vb c.requires.bench is).2

-- src/stored.rt
pub returns-clause-worked : goal.returns-clause-worked
returns-clause-worked g c =
    let m : Worked c.args.config.now c.args.vb c.args.world.now c.commit_batch-flushed.new.stage.world.now =
    flushed_at c.args.world.now c.reserve.new.self c.stage-stage.result.world.now c.commit_batch-flushed.new.stage.world.now c.args.vb c.stage-stage.result.vb c.commit_batch-flushed.new.stage.vb c.reserve.new.self.event_room c.reserve.new.self.byte_room c.args.config.now c.args.bench.now.desk c.commit_batch-flushed.new.desk c.in-Some.batch c.commit_batch-flushed.result
    c.requires.ready c.requires.vb c.reserve.ensures.same c.stage-stage.ensures.world c.stage-stage.ensures.vb c.commit_batch-flushed.ensures.stays.fixed c.commit_batch-flushed.ensures.home c.commit_batch-flushed.ensures.flushed in
    search rules

-- src/stored.rt
pub returns-clause-bench : goal.returns-clause-bench
returns-clause-bench g c =
    let sound : Sound part_stands c.commit_batch-flushed.new.stage.world.now = search rules in
    let b : BenchStands (front_in c.commit_batch-flushed.new.stage.world.now c.args.vb) (record { desk = c.commit_batch-flushed.new.desk; batch = c.replace.new.dest; reads = (bench_data c.args.bench.now).reads }) =
    commit_left c.args.world.now c.reserve.new.self c.stage-stage.result.world.now c.commit_batch-flushed.new.stage.world.now c.args.vb c.stage-stage.result.vb c.commit_batch-flushed.new.stage.vb c.reserve.new.self.event_room c.reserve.new.self.byte_room (bench_data c.args.bench.now) c.commit_batch-flushed.new.desk c.in-Some.batch c.replace.new.dest c.commit_batch-flushed.result
    c.reserve.ensures.same c.stage-stage.ensures.world c.stage-stage.ensures.vb c.commit_batch-flushed.ensures.stays.fixed c.reserve.ensures.sound sound c.requires.bench c.replace.ensures.after c.commit_batch-flushed.ensures.flushed in
    search rules

-- src/stored.rt
pub returns-clause-ok : goal.returns-clause-ok
returns-clause-ok g c =
    let is : (bench_data c.args.bench.now).batch ≡ Some c.in-Some.batch = sym c.replace.ensures.value ∙ c.in-Some.is in
    let f : WasFlushed c.args.config.now c.args.vb c.commit_batch-flushed.result c.args.world.now c.commit_batch-flushed.new.stage.world.now (bench_data c.args.bench.now) (record { desk = c.commit_batch-flushed.new.desk; batch = c.replace.new.dest; reads = (bench_data c.args.bench.now).reads }) =
    was_flushed c.args.config.now c.args.world.now c.reserve.new.self c.stage-stage.result.world.now c.commit_batch-flushed.new.stage.world.now c.args.vb c.stage-stage.result.vb c.commit_batch-flushed.new.stage.vb c.reserve.new.self.event_room c.reserve.new.self.byte_room
    c.requires.ready c.requires.vb c.reserve.ensures.same c.stage-stage.ensures.world c.stage-stage.ensures.vb c.commit_batch-flushed.ensures.stays.fixed c.commit_batch-flushed.ensures.home
    (bench_data c.args.bench.now) (record { desk = c.commit_batch-flushed.new.desk; batch = c.replace.new.dest; reads = (bench_data c.args.bench.now).reads }) c.commit_batch-flushed.new.desk c.in-Some.batch c.commit_batch-flushed.result (commit_sure (front_in c.args.world.now c.args.vb) (bench_data c.args.bench.now) c.in-Some.batch c.requires.bench is) is (ap (λ (o : Option BatchData). record (bench_data c.args.bench.now) { desk = c.commit_batch-flushed.new.desk; batch = o }) c.replace.ensures.after) c.commit_batch-flushed.ensures.flushed c.commit_batch-flushed.ensures.kept in
    search rules
