use Rattle.std.proofs.Common.{rules, ◌≡◌, Some, None, ℕ, slice_set, slice_get, sym, subst}
use Rattle.ep_drill.specs.Core.{bench_data, core_data, Interleaves, GoesOn, BenchStands, Worked}
use Rattle.vb_world.specs.World.{front_in}
use Rattle.ep_drill.specs.declared.data.CoreData.{CoreData}
use Rattle.ep_drill.proofs.EngineLemmas.{lent_at, bench_of, benched_core, bench_back, stays_on}
use Rattle.ep_drill.specs.declared.data.BenchData.{BenchData}
use Rattle.ep_drill.specs.Stepped.{IsNowhere}
use Rattle.ep_drill.specs.Works.{MergesAt}
use Rattle.ep_drill.proofs.SteppedLemmas.{benched_ok, merge_err}
use Rattle.ep_drill.proofs.engine.Core.merge.Goals as goal

-- src/engine.rt
pub merge_at-requires-clause-bench : goal.merge_at-requires-clause-bench
merge_at-requires-clause-bench g c =
    let i : Interleaves (core_data c.self.inside.config c.self.inside.world c.self.inside.benches.items c.self.inside.callers.items) = c.self.invariant.0 in
    let at : slice_get c.self.inside.benches.items c.from.result ≡ Some c.in-Some.bench.now =
    lent_at c.self.inside.benches.items c.from.result c.in-Some.bench.now c.in-Some.ensures.item.3.0 c.in-Some.ensures.value in
    let same : c.from.result ≡ c.args.vb = search rules in
    subst (λ (k : ℕ). BenchStands (front_in c.self.inside.world k) (bench_data c.in-Some.bench.now)) same
    (bench_of c.self.inside.config c.self.inside.world c.self.inside.benches.items c.self.inside.callers.items c.from.result c.in-Some.bench.now i at).0

-- src/engine.rt
pub invariant_of-self-2 : goal.invariant_of-self-2
invariant_of-self-2 g c =
    let i : Interleaves (core_data c.self.inside.config c.self.inside.world c.self.inside.benches.items c.self.inside.callers.items) = c.self.invariant.0 in
    let at : slice_get c.self.inside.benches.items c.from.result ≡ Some c.in-Some.bench.now =
    lent_at c.self.inside.benches.items c.from.result c.in-Some.bench.now c.in-Some.ensures.item.3.0 c.in-Some.ensures.value in
    let same : c.from.result ≡ c.args.vb = search rules in
    let m = benched_core c.self.inside.config c.self.inside.world c.merge_at.new.world c.self.inside.benches.items c.self.inside.callers.items c.from.result c.in-Some.bench.now c.merge_at.new.bench i at
    (subst (λ (k : ℕ). Worked c.self.inside.config k c.self.inside.world c.merge_at.new.world) (sym same) c.merge_at.ensures.worked) c.merge_at.ensures.sound (subst (λ (k : ℕ). BenchStands (front_in c.merge_at.new.world k) (bench_data c.merge_at.new.bench)) (sym same) c.merge_at.ensures.bench) in
    (m.0, c.self.invariant.1)

-- src/engine.rt
pub returns-clause-interleaves : goal.returns-clause-interleaves
returns-clause-interleaves g c =
    let i : Interleaves (core_data c.self.inside.config c.self.inside.world c.self.inside.benches.items c.self.inside.callers.items) = c.self.invariant.0 in
    let at : slice_get c.self.inside.benches.items c.from.result ≡ Some c.in-Some.bench.now =
    lent_at c.self.inside.benches.items c.from.result c.in-Some.bench.now c.in-Some.ensures.item.3.0 c.in-Some.ensures.value in
    let same : c.from.result ≡ c.args.vb = search rules in
    let m = benched_core c.self.inside.config c.self.inside.world c.merge_at.new.world c.self.inside.benches.items c.self.inside.callers.items c.from.result c.in-Some.bench.now c.merge_at.new.bench i at
    (subst (λ (k : ℕ). Worked c.self.inside.config k c.self.inside.world c.merge_at.new.world) (sym same) c.merge_at.ensures.worked) c.merge_at.ensures.sound (subst (λ (k : ℕ). BenchStands (front_in c.merge_at.new.world k) (bench_data c.merge_at.new.bench)) (sym same) c.merge_at.ensures.bench) in
    m.0

-- src/engine.rt
pub returns-clause-goes_on : goal.returns-clause-goes_on
returns-clause-goes_on g c =
    let i : Interleaves (core_data c.self.inside.config c.self.inside.world c.self.inside.benches.items c.self.inside.callers.items) = c.self.invariant.0 in
    let at : slice_get c.self.inside.benches.items c.from.result ≡ Some c.in-Some.bench.now =
    lent_at c.self.inside.benches.items c.from.result c.in-Some.bench.now c.in-Some.ensures.item.3.0 c.in-Some.ensures.value in
    let same : c.from.result ≡ c.args.vb = search rules in
    let m = benched_core c.self.inside.config c.self.inside.world c.merge_at.new.world c.self.inside.benches.items c.self.inside.callers.items c.from.result c.in-Some.bench.now c.merge_at.new.bench i at
    (subst (λ (k : ℕ). Worked c.self.inside.config k c.self.inside.world c.merge_at.new.world) (sym same) c.merge_at.ensures.worked) c.merge_at.ensures.sound (subst (λ (k : ℕ). BenchStands (front_in c.merge_at.new.world k) (bench_data c.merge_at.new.bench)) (sym same) c.merge_at.ensures.bench) in
    subst (λ (s : CoreData). GoesOn s (core_data c.self.inside.config c.merge_at.new.world (slice_set c.self.inside.benches.items c.from.result c.merge_at.new.bench) c.self.inside.callers.items)) c.self.view_is m.1

pub returns-clause-merged : goal.returns-clause-merged
returns-clause-merged g c =
    let at : slice_get c.self.inside.benches.items c.from.result ≡ Some c.in-Some.bench.now =
    lent_at c.self.inside.benches.items c.from.result c.in-Some.bench.now c.in-Some.ensures.item.3.0 c.in-Some.ensures.value in
    benched_ok c.args.self.now c.self.inside.config c.self.inside.world c.merge_at.new.world c.self.inside.benches.items c.self.inside.callers.items c.from.result c.args.vb c.in-Some.bench.now c.self.view_is (search rules) at
    c.merge_at.new.bench (λ o. IsNowhere o c.args.vb c.args.stripe) (λ k. MergesAt k c.args.vb c.args.stripe) c.merge_at.result c.merge_at.ensures.ok

pub returns-clause-err : goal.returns-clause-err
returns-clause-err g c =
    let at : slice_get c.self.inside.benches.items c.from.result ≡ Some c.in-Some.bench.now =
    lent_at c.self.inside.benches.items c.from.result c.in-Some.bench.now c.in-Some.ensures.item.3.0 c.in-Some.ensures.value in
    merge_err c.args.self.now c.self.inside.config c.self.inside.world c.merge_at.new.world c.self.inside.benches.items c.self.inside.callers.items c.from.result c.args.vb c.in-Some.bench.now c.self.view_is (search rules) at
    c.merge_at.new.bench c.args.stripe (λ (b : BenchData). slice_get b.reads c.args.stripe ≡ Some None → ⊥) c.merge_at.result (search rules) c.merge_at.ensures.err

pub returns-in_default-clause-goes_on : goal.returns-in_default-clause-goes_on
returns-in_default-clause-goes_on g c = stays_on _ _ (search rules)

pub returns-then-stripe-self-clause-goes_on : goal.returns-then-stripe-self-clause-goes_on
returns-then-stripe-self-clause-goes_on g c =
    let o = c.self.inside in
    bench_back c.args.self.now o.config o.world o.benches.items o.callers.items c.from.result c.in-Some.bench.now c.self.view_is c.in-Some.ensures.item.3.0 c.in-Some.ensures.value
