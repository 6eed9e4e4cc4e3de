use Rattle.std.proofs.Common.{rules, refl, subst}
use Rattle.ep_model.specs.declared.event.PartName.TheVariants.{Stripe}
use Rattle.ep_model.specs.declared.data.FrontData.{FrontData}
use Rattle.vb_world.specs.World.{front_in, Sound}
use Rattle.ep_drill.specs.Parts.{part_stands}
use Rattle.ep_drill.specs.Core.{bench_data, BenchStands, Worked}
use Rattle.ep_drill.specs.Works.{WasMarked}
use Rattle.ep_drill.proofs.WorldLemmas.{free_at}
use Rattle.ep_drill.proofs.WorkedLemmas.{home_with_room}
use Rattle.ep_drill.proofs.StoredLemmas.{mark_marks, mark_worked, mark_bench}
use Rattle.ep_drill.proofs.worked.mark_at.Goals as goal

-- src/worked.rt
pub mark_once-marking-requires-clause-free : goal.mark_once-marking-requires-clause-free
mark_once-marking-requires-clause-free g c =
    free_at c.stage-stage.result.world.now c.stage-stage.result.vb c.stage-stage.result.caller
    (home_with_room c.args.config.now c.args.world.now c.reserve.new.self c.stage-stage.result.world.now c.args.vb c.stage-stage.result.vb c.reserve.new.self.event_room c.reserve.new.self.byte_room
    c.requires.ready c.requires.vb c.reserve.ensures.same c.stage-stage.ensures.world c.stage-stage.ensures.vb) (Stripe c.args.stripe)

-- src/worked.rt
pub returns-clause-ok : goal.returns-clause-ok
returns-clause-ok g c =
    let m : WasMarked c.args.config.now c.args.vb c.args.stripe c.mark_once-marking.result c.args.world.now c.mark_once-marking.new.stage.world.now (bench_data c.args.bench.now) (bench_data c.args.bench.now) =
    mark_marks c.args.config.now c.args.world.now c.reserve.new.self c.stage-stage.result.world.now c.mark_once-marking.new.stage.world.now c.args.vb c.stage-stage.result.vb c.mark_once-marking.new.stage.vb c.reserve.new.self.event_room c.reserve.new.self.byte_room
    c.args.stripe c.args.bench.now.desk.noted _ _ c.mark_once-marking.result c.requires.ready c.requires.vb c.requires.stripe c.reserve.ensures.same c.stage-stage.ensures.world c.stage-stage.ensures.vb c.mark_once-marking.ensures.stays.fixed
    (c.mark_once-marking.ensures.alone refl) c.mark_once-marking.ensures.marked (c.mark_once-marking.ensures.becomes refl) (c.mark_once-marking.ensures.kept refl)
    (bench_data c.args.bench.now) refl in
    search rules

-- src/worked.rt
pub returns-clause-worked : goal.returns-clause-worked
returns-clause-worked g c =
    let m : Worked c.args.config.now c.args.vb c.args.world.now c.mark_once-marking.new.stage.world.now =
    mark_worked c.args.config.now c.args.world.now c.reserve.new.self c.stage-stage.result.world.now c.mark_once-marking.new.stage.world.now c.args.vb c.stage-stage.result.vb c.mark_once-marking.new.stage.vb c.reserve.new.self.event_room c.reserve.new.self.byte_room
    c.args.stripe c.args.bench.now.desk.noted _ _ c.mark_once-marking.result c.requires.ready c.requires.vb c.requires.stripe c.reserve.ensures.same c.stage-stage.ensures.world c.stage-stage.ensures.vb c.mark_once-marking.ensures.stays.fixed
    (c.mark_once-marking.ensures.alone refl) c.mark_once-marking.ensures.marked (c.mark_once-marking.ensures.becomes refl) (c.mark_once-marking.ensures.kept refl) in
    search rules

-- src/worked.rt
pub returns-clause-bench : goal.returns-clause-bench
returns-clause-bench g c =
    let sound : Sound part_stands c.mark_once-marking.new.stage.world.now = search rules in
    let b : BenchStands (front_in c.mark_once-marking.new.stage.world.now c.args.vb) (bench_data c.args.bench.now) =
    mark_bench c.args.config.now c.args.world.now c.reserve.new.self c.stage-stage.result.world.now c.mark_once-marking.new.stage.world.now c.args.vb c.stage-stage.result.vb c.mark_once-marking.new.stage.vb c.reserve.new.self.event_room c.reserve.new.self.byte_room
    c.args.stripe c.args.bench.now.desk.noted _ _ c.mark_once-marking.result c.requires.ready c.requires.vb c.requires.stripe c.reserve.ensures.same c.stage-stage.ensures.world c.stage-stage.ensures.vb c.mark_once-marking.ensures.stays.fixed
    (c.mark_once-marking.ensures.alone refl) c.mark_once-marking.ensures.marked (c.mark_once-marking.ensures.becomes refl) (c.mark_once-marking.ensures.kept refl)
    (bench_data c.args.bench.now) c.reserve.ensures.sound sound c.requires.bench in
    subst (λ (f : FrontData). BenchStands f (bench_data c.args.bench.now)) (search rules) b
