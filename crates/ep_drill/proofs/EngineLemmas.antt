-- What a step at a vBucket's bench makes of a core: it interleaves still, and goes on.
use Rattle.std.proofs.Common.{◌≡◌, ◌<◌, ℕ, inl, inr, List, [], ◌∷◌, length, map, slice_get, slice_set, slice_index_or, refl, sym, ap, subst, ◌∙◌}
use Rattle.std.specs.Prelude.{Option, Some, None}
use Rattle.std.specs.Option.{option_map}
use Rattle.std.proofs.lemmas.Bool.{cases_eq}
use Rattle.std.proofs.lemmas.List.{append-nil, map-set}
use Rattle.std.proofs.lemmas.Option.{slice_get-get_or, slice_get-map, slice_get_within}
use Rattle.vb_world.proofs.ListLemmas.{map-set_kept}
use Rattle.ep_model.specs.declared.config.Config.{Config}
use Rattle.ep_model.specs.declared.data.EventData.{EventData}
use Rattle.ep_model.specs.declared.data.FrontData.{FrontData}
use Rattle.vb_world.specs.declared.data.WorldData.{WorldData}
use Rattle.vb_world.specs.World.{front_in, Sound}
use Rattle.ep_drill.specs.declared.part.Part.{Part}
use Rattle.ep_drill.specs.declared.bench.Bench.{Bench}
use Rattle.ep_drill.specs.declared.owned.Caller.{Caller}
use Rattle.ep_drill.specs.declared.data.BenchData.{BenchData}
use Rattle.ep_drill.specs.declared.data.CoreData.{CoreData}
use Rattle.ep_drill.specs.Parts.{part_stands}
use Rattle.hold_stage.specs.Went.{with_noted}
use Rattle.ep_drill.specs.Core.{bench_data, core_data, BenchStands, Moved, Worked, Interleaves, Continues, GoesOn}
use Rattle.ep_drill.proofs.ListLemmas.{set_same}
use Rattle.ep_drill.proofs.WorkedLemmas.{worked_by}
use Rattle.ep_drill.proofs.CoreLemmas.{core_worked, core_rested}

-- what was lent out of a list stands there
pub lent_at : {A : Type 0} (xs : List A) (i : ℕ) (x : A) → i < length xs → x ≡ slice_index_or xs i x → slice_get xs i ≡ Some x
lent_at xs i x within is = slice_get-get_or xs i x within ∙ ap Some (sym is)

-- the same of another name of the list
pub lent_from : {A : Type 0} (xs ys : List A) (i : ℕ) (x : A) → ys ≡ xs → i < length ys → x ≡ slice_index_or ys i x → slice_get xs i ≡ Some x
lent_from xs ys i x same within is = ap (λ l. slice_get l i) (sym same) ∙ lent_at ys i x within is

-- a history with an event more, or with none, is the same one continued
continued : (f : FrontData) (event : Option EventData) → Continues f (with_noted f event)
continued f None = record { more = []; start = refl; events = sym (append-nil f.events) }
continued f (Some event) = record { more = event ∷ []; start = refl; events = refl }

-- where one vBucket's history got an event more, or none, each is continued
pub moved_continues : (config : Config) (vb : ℕ) (event : Option EventData) (w z : WorldData Part) → Moved config vb event w z → (u : ℕ) → Continues (front_in w u) (front_in z u)
moved_continues config vb event w z moved u =
    elim (cases_eq u vb) as (λ _. Continues (front_in w u) (front_in z u)) [
      | inl is ↦
          let here : front_in z u ≡ with_noted (front_in w u) event = subst (λ (k : ℕ). front_in z k ≡ with_noted (front_in w k) event) (sym is) moved.front in
          subst (λ (f : FrontData). Continues (front_in w u) f) (sym here) (continued (front_in w u) event)
      | inr differ ↦ subst (λ (f : FrontData). Continues (front_in w u) f) (sym (moved.others u differ)) (continued (front_in w u) None)
    ]

-- the bench that stands in the list, as plain data
pub bench_at : {K : Type 0} (benches : List (Bench K)) (vb : ℕ) (bench : Bench K) → slice_get benches vb ≡ Some bench → slice_get (map bench_data benches) vb ≡ Some (bench_data bench)
bench_at benches vb bench at = slice_get-map bench_data benches vb ∙ ap (λ o. option_map bench_data o) at

-- What a step at a bench may rely on: the bench stands, and its vBucket is there.
pub bench_of : {K : Type 0} (config : Config) (w : WorldData Part) (benches : List (Bench K)) (callers : List Caller) (vb : ℕ) (bench : Bench K) → Interleaves (core_data config w benches callers) → slice_get benches vb ≡ Some bench
    → BenchStands (front_in w vb) (bench_data bench) × (vb < config.vbuckets)
bench_of config w benches callers vb bench i at =
    let there : slice_get (map bench_data benches) vb ≡ Some (bench_data bench) = bench_at benches vb bench at in
    (i.benches vb (bench_data bench) there, subst (λ (n : ℕ). vb < n) i.count (slice_get_within (map bench_data benches) vb (bench_data bench) there))

-- A step at a vBucket's bench was made, which stands in its place now.
pub benched_core : {K : Type 0} (config : Config) (w z : WorldData Part) (benches : List (Bench K)) (callers : List Caller) (vb : ℕ) (bench after : Bench K) → Interleaves (core_data config w benches callers) → slice_get benches vb ≡ Some bench
    → Worked config vb w z → Sound part_stands z → BenchStands (front_in z vb) (bench_data after)
    → Interleaves (core_data config z (slice_set benches vb after) callers) × GoesOn (core_data config w benches callers) (core_data config z (slice_set benches vb after) callers)
benched_core config w z benches callers vb bench after i at worked sound stands =
    let laid : map bench_data (slice_set benches vb after) ≡ slice_set (map bench_data benches) vb (bench_data after) = map-set bench_data benches vb after in
    let old : CoreData = core_data config w benches callers in (
      subst (λ (l : List BenchData). Interleaves (record old { world = z; benches = l })) (sym laid) (core_worked old z vb (bench_data after) i worked sound stands),
      record { layout = refl; calls = refl; grown = moved_continues config vb worked.event w z worked.moved },
    )

-- One that notes nothing.
pub benched_still : {K : Type 0} (config : Config) (w z : WorldData Part) (benches : List (Bench K)) (callers : List Caller) (vb : ℕ) (bench after : Bench K) → Interleaves (core_data config w benches callers) → slice_get benches vb ≡ Some bench
    → Moved config vb None w z → Sound part_stands z → BenchStands (front_in z vb) (bench_data after)
    → Interleaves (core_data config z (slice_set benches vb after) callers) × GoesOn (core_data config w benches callers) (core_data config z (slice_set benches vb after) callers)
benched_still config w z benches callers vb bench after i at moved = benched_core config w z benches callers vb bench after i at (worked_by config w z vb None moved tt)

-- One that leaves the bench as it is.
pub benched_world : {K : Type 0} (config : Config) (w z : WorldData Part) (benches : List (Bench K)) (callers : List Caller) (vb : ℕ) (bench : Bench K) → Interleaves (core_data config w benches callers) → slice_get benches vb ≡ Some bench
    → Worked config vb w z → Sound part_stands z → BenchStands (front_in z vb) (bench_data bench)
    → Interleaves (core_data config z benches callers) × GoesOn (core_data config w benches callers) (core_data config z benches callers)
benched_world config w z benches callers vb bench i at worked sound stands =
    let kept : map bench_data (slice_set benches vb bench) ≡ map bench_data benches =
    map-set_kept bench_data benches vb bench (λ x is. let e : bench ≡ x = cc in ap bench_data e) in
    let m = benched_core config w z benches callers vb bench bench i at worked sound stands in
    let old : CoreData = core_data config w benches callers in (
      subst (λ (l : List BenchData). Interleaves (record old { world = z; benches = l })) kept m.0,
      subst (λ (l : List BenchData). GoesOn old (record old { world = z; benches = l })) kept m.1,
    )

-- Nothing was noted, and no bench changed.
pub rested_world : {K : Type 0} (config : Config) (w z : WorldData Part) (benches : List (Bench K)) (callers : List Caller) (vb : ℕ) → Interleaves (core_data config w benches callers) → Moved config vb None w z → Sound part_stands z
    → Interleaves (core_data config z benches callers) × GoesOn (core_data config w benches callers) (core_data config z benches callers)
rested_world config w z benches callers vb i moved sound =
    (core_rested (core_data config w benches callers) z vb i moved sound, record { layout = refl; calls = refl; grown = moved_continues config vb None w z moved })

-- nothing happened
pub core_stays : (core : CoreData) → GoesOn core core
core_stays core = record { layout = refl; calls = refl; grown = λ u. continued (front_in core.world u) None }

-- nor did a core that is seen to be the same
pub stays_on : (old new : CoreData) → new ≡ old → GoesOn old new
stays_on old new is = subst (λ (o : CoreData). GoesOn old o) (sym is) (core_stays old)

-- nor did one whose bench was lent out and is back
pub bench_back : {K : Type 0} (old : CoreData) (config : Config) (w : WorldData Part) (benches : List (Bench K)) (callers : List Caller) (place : ℕ) (bench : Bench K) → core_data config w benches callers ≡ old → place < length benches → bench ≡ slice_index_or benches place bench
    → GoesOn old (core_data config w (slice_set benches place bench) callers)
bench_back old config w benches callers place bench is within at =
    stays_on old (core_data config w (slice_set benches place bench) callers) (ap (λ l. core_data config w l callers) (set_same benches place bench (lent_at benches place bench within at)) ∙ is)
