use Rattle.std.proofs.Common.{rules, ◌≡◌, ◌<◌, Some, ℕ, slice_get, sym, subst}
use Rattle.ep_drill.specs.Core.{bench_data, core_data, Interleaves, GoesOn, BenchStands, Worked}
use Rattle.vb_world.specs.World.{front_in}
use Rattle.ep_drill.specs.declared.data.CoreData.{CoreData}
use Rattle.ep_drill.proofs.EngineLemmas.{lent_from, bench_of, benched_world}
use Rattle.ep_drill.specs.Stepped.{IsNowhere}
use Rattle.ep_drill.specs.Works.{MarksAt}
use Rattle.ep_drill.proofs.SteppedLemmas.{stayed_ok, mark_err}
use Rattle.ep_drill.proofs.engine.Core.mark.Goals as goal

-- src/engine.rt
pub mark_at-requires-clause-bench : goal.mark_at-requires-clause-bench
mark_at-requires-clause-bench g c =
    let i : Interleaves (core_data c.self.inside.config c.self.inside.world c.self.inside.benches.items c.self.inside.callers.items) = c.self.invariant.0 in
    let at : slice_get c.self.inside.benches.items c.from.result ≡ Some c.in-Some.bench.now =
    lent_from c.self.inside.benches.items c.deref.result.now c.from.result c.in-Some.bench.now c.deref.ensures.value c.in-Some.ensures.lookup.3.0 c.in-Some.ensures.lookup.1 in
    let same : c.from.result ≡ c.args.vb = search rules in
    subst (λ (k : ℕ). BenchStands (front_in c.self.inside.world k) (bench_data c.in-Some.bench.now)) same
    (bench_of c.self.inside.config c.self.inside.world c.self.inside.benches.items c.self.inside.callers.items c.from.result c.in-Some.bench.now i at).0

-- src/engine.rt
pub invariant_of-self : goal.invariant_of-self
invariant_of-self g c =
    let i : Interleaves (core_data c.self.inside.config c.self.inside.world c.self.inside.benches.items c.self.inside.callers.items) = c.self.invariant.0 in
    let at : slice_get c.self.inside.benches.items c.from.result ≡ Some c.in-Some.bench.now =
    lent_from c.self.inside.benches.items c.deref.result.now c.from.result c.in-Some.bench.now c.deref.ensures.value c.in-Some.ensures.lookup.3.0 c.in-Some.ensures.lookup.1 in
    let same : c.from.result ≡ c.args.vb = search rules in
    let m = benched_world c.self.inside.config c.self.inside.world c.mark_at.new.world c.self.inside.benches.items c.self.inside.callers.items c.from.result c.in-Some.bench.now i at
    (subst (λ (k : ℕ). Worked c.self.inside.config k c.self.inside.world c.mark_at.new.world) (sym same) c.mark_at.ensures.worked) c.mark_at.ensures.sound (subst (λ (k : ℕ). BenchStands (front_in c.mark_at.new.world k) (bench_data c.in-Some.bench.now)) (sym same) c.mark_at.ensures.bench) in
    (m.0, c.self.invariant.1)

-- src/engine.rt
pub returns-clause-interleaves : goal.returns-clause-interleaves
returns-clause-interleaves g c =
    let i : Interleaves (core_data c.self.inside.config c.self.inside.world c.self.inside.benches.items c.self.inside.callers.items) = c.self.invariant.0 in
    let at : slice_get c.self.inside.benches.items c.from.result ≡ Some c.in-Some.bench.now =
    lent_from c.self.inside.benches.items c.deref.result.now c.from.result c.in-Some.bench.now c.deref.ensures.value c.in-Some.ensures.lookup.3.0 c.in-Some.ensures.lookup.1 in
    let same : c.from.result ≡ c.args.vb = search rules in
    let m = benched_world c.self.inside.config c.self.inside.world c.mark_at.new.world c.self.inside.benches.items c.self.inside.callers.items c.from.result c.in-Some.bench.now i at
    (subst (λ (k : ℕ). Worked c.self.inside.config k c.self.inside.world c.mark_at.new.world) (sym same) c.mark_at.ensures.worked) c.mark_at.ensures.sound (subst (λ (k : ℕ). BenchStands (front_in c.mark_at.new.world k) (bench_data c.in-Some.bench.now)) (sym same) c.mark_at.ensures.bench) in
    m.0

-- src/engine.rt
pub returns-clause-goes_on : goal.returns-clause-goes_on
returns-clause-goes_on g c =
    let i : Interleaves (core_data c.self.inside.config c.self.inside.world c.self.inside.benches.items c.self.inside.callers.items) = c.self.invariant.0 in
    let at : slice_get c.self.inside.benches.items c.from.result ≡ Some c.in-Some.bench.now =
    lent_from c.self.inside.benches.items c.deref.result.now c.from.result c.in-Some.bench.now c.deref.ensures.value c.in-Some.ensures.lookup.3.0 c.in-Some.ensures.lookup.1 in
    let same : c.from.result ≡ c.args.vb = search rules in
    let m = benched_world c.self.inside.config c.self.inside.world c.mark_at.new.world c.self.inside.benches.items c.self.inside.callers.items c.from.result c.in-Some.bench.now i at
    (subst (λ (k : ℕ). Worked c.self.inside.config k c.self.inside.world c.mark_at.new.world) (sym same) c.mark_at.ensures.worked) c.mark_at.ensures.sound (subst (λ (k : ℕ). BenchStands (front_in c.mark_at.new.world k) (bench_data c.in-Some.bench.now)) (sym same) c.mark_at.ensures.bench) in
    subst (λ (s : CoreData). GoesOn s (core_data c.self.inside.config c.mark_at.new.world c.self.inside.benches.items c.self.inside.callers.items)) c.self.view_is m.1

pub returns-clause-marked : goal.returns-clause-marked
returns-clause-marked g c =
    let at : slice_get c.self.inside.benches.items c.from.result ≡ Some c.in-Some.bench.now =
    lent_from c.self.inside.benches.items c.deref.result.now c.from.result c.in-Some.bench.now c.deref.ensures.value c.in-Some.ensures.lookup.3.0 c.in-Some.ensures.lookup.1 in
    stayed_ok c.args.self.now c.self.inside.config c.self.inside.world c.mark_at.new.world c.self.inside.benches.items c.self.inside.callers.items c.from.result c.args.vb c.in-Some.bench.now c.self.view_is (search rules) at
    (λ o. IsNowhere o c.args.vb c.args.stripe) (λ k. MarksAt k c.args.vb c.args.stripe) c.mark_at.result c.mark_at.ensures.ok

pub returns-clause-err : goal.returns-clause-err
returns-clause-err g c =
    let i : Interleaves (core_data c.self.inside.config c.self.inside.world c.self.inside.benches.items c.self.inside.callers.items) = c.self.invariant.0 in
    let at : slice_get c.self.inside.benches.items c.from.result ≡ Some c.in-Some.bench.now =
    lent_from c.self.inside.benches.items c.deref.result.now c.from.result c.in-Some.bench.now c.deref.ensures.value c.in-Some.ensures.lookup.3.0 c.in-Some.ensures.lookup.1 in
    let same : c.from.result ≡ c.args.vb = search rules in
    let within : c.args.vb < c.self.inside.config.vbuckets = subst (λ (k : ℕ). k < c.self.inside.config.vbuckets) same
    (bench_of c.self.inside.config c.self.inside.world c.self.inside.benches.items c.self.inside.callers.items c.from.result c.in-Some.bench.now i at).1 in
    mark_err c.args.self.now c.self.inside.config c.self.inside.world c.mark_at.new.world c.self.inside.benches.items c.self.inside.callers.items c.args.vb c.args.stripe c.mark_at.result c.self.view_is within (search rules) c.mark_at.ensures.err
