-- What a step at a vBucket's bench is to its core, and what lists of steps do.
use Rattle.std.proofs.Common.{◌≡◌, ◌<◌, inl, inr, ℕ, ◌+◌, List, [], ◌∷◌, ◌++◌, take, get_or, length, map, slice_get, slice_set, refl, sym, ap, subst, ◌∙◌}
use Rattle.std.specs.Prelude.{Some, None, Result, Ok, Err, IfOk, OnErr}
use Rattle.std.proofs.lemmas.List.{map-set, take_more}
use Rattle.std.proofs.lemmas.Option.{slice_get-get_or}
use Rattle.vb_world.proofs.ListLemmas.{map-set_kept}
use Rattle.ep_model.specs.declared.config.Config.{Config}
use Rattle.ep_model.specs.declared.event.PartName.TheVariants.{Stripe}
use Rattle.hold_stage.specs.Touches.{is_stripe}
use Rattle.vb_world.specs.declared.data.WorldData.{WorldData}
use Rattle.vb_world.specs.World.{part_in}
use Rattle.ep_drill.specs.declared.part.Part.{Part}
use Rattle.ep_drill.specs.declared.bench.Bench.{Bench}
use Rattle.ep_drill.specs.declared.owned.Caller.{Caller}
use Rattle.ep_drill.specs.declared.choice.Answer.{Answer}
use Rattle.ep_drill.specs.declared.choice.StepChoice.{StepChoice}
use Rattle.ep_drill.specs.declared.data.BenchData.{BenchData}
use Rattle.ep_drill.specs.declared.data.CoreData.{CoreData}
use Rattle.ep_drill.specs.declared.store.Paged.{Paged}
use Rattle.ep_drill.specs.StoreSide.{IsPaged}
use Rattle.hold_stage.specs.Stays.{KeptBut}
use Rattle.ep_drill.specs.Core.{bench_data, core_data, Moved, Rested, Interleaves, GoesOn, LacksEventRoom}
use Rattle.ep_drill.specs.Fetches.{HasWaiting}
use Rattle.ep_drill.specs.Stepped.{AtBench, BenchIs, IsBenched, WasPaged, Ran, RanSome, Spares, Stepped, TakesMemory}
use Rattle.ep_drill.proofs.EngineLemmas.{bench_at}
use Rattle.ep_drill.proofs.ListLemmas.{set_same}

-- a core's history has no room for one event more
lacks_room : {K : Type 0} (old : CoreData) (config : Config) (w : WorldData Part) (benches : List (Bench K)) (callers : List Caller) → core_data config w benches callers ≡ old → LacksEventRoom w → LacksEventRoom old.world
lacks_room old config w benches callers is lacks = subst (λ (o : CoreData). LacksEventRoom o.world) is lacks

-- A step was made at the bench that stands at a place, which is the vBucket's number.
module _ {K : Type 0} (old : CoreData) (config : Config) (w z : WorldData Part) (benches : List (Bench K)) (callers : List Caller) (place vb : ℕ) (bench : Bench K) (is : core_data config w benches callers ≡ old) (here : place ≡ vb) (at : slice_get benches place ≡ Some bench) where
  found_first : slice_get (map bench_data benches) vb ≡ Some (bench_data bench)
  found_first = subst (λ (k : ℕ). slice_get (map bench_data benches) k ≡ Some (bench_data bench)) here (bench_at benches place bench at)

  -- it left this bench
  pub benched_at : (after : Bench K) (missing : CoreData → Type 0) (P : Config → Answer → WorldData Part → WorldData Part → BenchData → BenchData → Type 0) (answer : Answer) → P config answer w z (bench_data bench) (bench_data after)
      → IsBenched old (core_data config z (slice_set benches place after) callers) vb (missing old) (P old.config) answer
  benched_at after missing P answer worked =
      let first : CoreData = core_data config w benches callers in
      let last : CoreData = core_data config z (slice_set benches place after) callers in
      let laid : map bench_data (slice_set benches place after) ≡ slice_set (map bench_data benches) vb (bench_data after) =
      map-set bench_data benches place after ∙ ap (λ (k : ℕ). slice_set (map bench_data benches) k (bench_data after)) here in
      let left : last ≡ record first { world = z; benches = slice_set (map bench_data benches) vb (bench_data after) } = ap (λ (l : List BenchData). record first { world = z; benches = l }) laid in
      let done : AtBench first last vb (P config answer) = record { bench = bench_data bench; after = bench_data after; found = found_first; left = left; worked = worked } in
      subst (λ (o : CoreData). IsBenched o last vb (missing o) (P o.config) answer) is (inr done)

  pub benched_ok : {E : Type 0} (after : Bench K) (missing : CoreData → Type 0) (P : Config → Answer → WorldData Part → WorldData Part → BenchData → BenchData → Type 0) (result : Result Answer E)
      → IfOk result (λ answer. P config answer w z (bench_data bench) (bench_data after)) → IfOk result (IsBenched old (core_data config z (slice_set benches place after) callers) vb (missing old) (P old.config))
  benched_ok after missing P (Ok answer) worked = benched_at after missing P answer worked
  benched_ok after missing P (Err e) worked = tt

  -- or the same bench
  pub stayed_ok : {E : Type 0} (missing : CoreData → Type 0) (P : Config → Answer → WorldData Part → WorldData Part → BenchData → BenchData → Type 0) (result : Result Answer E)
      → IfOk result (λ answer. P config answer w z (bench_data bench) (bench_data bench)) → IfOk result (IsBenched old (core_data config z benches callers) vb (missing old) (P old.config))
  stayed_ok missing P result worked =
      subst (λ (l : List (Bench K)). IfOk result (IsBenched old (core_data config z l callers) vb (missing old) (P old.config))) (set_same benches place bench at) (benched_ok bench missing P result worked)

  -- for want of memory it left the bench as it was
  spared_first : (after : Bench K) → Rested config w z → bench_data after ≡ bench_data bench → Spares (core_data config w benches callers) (core_data config z (slice_set benches place after) callers)
  spared_first after rested same =
      let first : CoreData = core_data config w benches callers in
      let kept : map bench_data (slice_set benches place after) ≡ map bench_data benches = map-set_kept bench_data benches place after (λ x found. let e : bench ≡ x = cc in same ∙ ap bench_data e) in
      record { left = ap (λ (l : List BenchData). record first { world = z; benches = l }) kept; rested = rested }

  pub spared_at : (after : Bench K) → Rested config w z → bench_data after ≡ bench_data bench → Spares old (core_data config z (slice_set benches place after) callers)
  spared_at after rested same = subst (λ (o : CoreData). Spares o (core_data config z (slice_set benches place after) callers)) is (spared_first after rested same)

  pub bench_is : (Q : BenchData → Type 0) → Q (bench_data bench) → BenchIs old vb Q
  bench_is Q holds = subst (λ (o : CoreData). BenchIs o vb Q) is (bench_data bench, found_first, holds)

  pub benched_err : {E : Type 0} (after : Bench K) (Q : BenchData → Type 0) (result : Result Answer E) → OnErr result (Rested config w z × (bench_data after ≡ bench_data bench) × Q (bench_data bench) × LacksEventRoom w)
      → OnErr result (Spares old (core_data config z (slice_set benches place after) callers) × BenchIs old vb Q × LacksEventRoom old.world)
  benched_err after Q (Ok answer) err = tt
  benched_err after Q (Err e) err = (spared_at after err.0 err.1, bench_is Q err.2, lacks_room old config w benches callers is err.3)

  -- the same for a merge, whose stripe is there
  pub merge_err : {E : Type 0} (after : Bench K) (stripe : ℕ) (Q : BenchData → Type 0) (result : Result Answer E) → stripe < config.stripes → OnErr result (Rested config w z × (bench_data after ≡ bench_data bench) × Q (bench_data bench) × LacksEventRoom w)
      → OnErr result (Spares old (core_data config z (slice_set benches place after) callers) × (stripe < old.config.stripes) × BenchIs old vb Q × LacksEventRoom old.world)
  merge_err after stripe Q (Ok answer) there err = tt
  merge_err after stripe Q (Err e) there err = (spared_at after err.0 err.1, subst (λ (o : CoreData). stripe < o.config.stripes) is there, bench_is Q err.2, lacks_room old config w benches callers is err.3)

  -- and for a read
  pub read_err : {E : Type 0} (after : Bench K) (stripe : ℕ) (result : Result Answer E)
      → OnErr result (Rested config w z × (bench_data after ≡ bench_data bench) × ((bench_data bench).desk.doubt ≡ None) × HasWaiting (part_in w vb (Stripe stripe)))
      → OnErr result (Spares old (core_data config z (slice_set benches place after) callers) × BenchIs old vb (λ b. b.desk.doubt ≡ None) × HasWaiting (part_in old.world vb (Stripe stripe)))
  read_err after stripe (Ok answer) err = tt
  read_err after stripe (Err e) err =
      (spared_at after err.0 err.1, bench_is (λ b. b.desk.doubt ≡ None) err.2, subst (λ (o : CoreData). HasWaiting (part_in o.world vb (Stripe stripe))) is err.3)

-- For want of memory no bench was touched.
pub spared_world : {K : Type 0} (old : CoreData) (config : Config) (w z : WorldData Part) (benches : List (Bench K)) (callers : List Caller) → core_data config w benches callers ≡ old → Rested config w z → Spares old (core_data config z benches callers)
spared_world old config w z benches callers is rested =
    subst (λ (o : CoreData). Spares o (core_data config z benches callers)) is (record { left = refl; rested = rested })

pub mark_err : {K : Type 0} {E : Type 0} (old : CoreData) (config : Config) (w z : WorldData Part) (benches : List (Bench K)) (callers : List Caller) (vb stripe : ℕ) (result : Result Answer E) → core_data config w benches callers ≡ old → vb < config.vbuckets
    → stripe < config.stripes → OnErr result (Rested config w z × LacksEventRoom w) → OnErr result (Spares old (core_data config z benches callers) × (vb < old.config.vbuckets) × (stripe < old.config.stripes) × LacksEventRoom old.world)
mark_err old config w z benches callers vb stripe (Ok answer) is low within err = tt
mark_err old config w z benches callers vb stripe (Err e) is low within err =
    let layout : config ≡ old.config = ap (λ (o : CoreData). o.config) is in
    (spared_world old config w z benches callers is err.0, subst (λ (k : Config). vb < k.vbuckets) layout low, subst (λ (k : Config). stripe < k.stripes) layout within, lacks_room old config w benches callers is err.1)

-- the pager was at a stripe
pub paged_at : {K : Type 0} (old : CoreData) (config : Config) (w z : WorldData Part) (benches : List (Bench K)) (callers : List Caller) (vb stripe : ℕ) (paged : Paged) → core_data config w benches callers ≡ old → Moved config vb None w z
    → IsPaged (part_in w vb (Stripe stripe)) (part_in z vb (Stripe stripe)) paged → KeptBut config (is_stripe stripe) (part_in w vb) (part_in z vb) → WasPaged old (core_data config z benches callers) vb stripe paged
paged_at old config w z benches callers vb stripe paged is moved done kept =
    subst (λ (o : CoreData). WasPaged o (core_data config z benches callers) vb stripe paged) is (record { left = refl; moved = moved; done = done; kept = kept })

-- one step more
pub ran_more : (old last new : CoreData) (steps : List StepChoice) (said : List Answer) (choice : StepChoice) (answer : Answer) → Ran old last steps said → Stepped last new choice answer → GoesOn last new → Interleaves new
    → Ran old new (steps ++ choice ∷ []) (said ++ answer ∷ [])
ran_more old last new [] [] choice answer ran stepped goes i =
    (new, subst (λ (o : CoreData). Stepped o new choice answer) ran stepped, subst (λ (o : CoreData). GoesOn o new) ran goes, i, refl)
ran_more old last new [] (a ∷ said) choice answer ran stepped goes i = absurd ran
ran_more old last new (s ∷ steps) [] choice answer ran stepped goes i = absurd ran
ran_more old last new (s ∷ steps) (a ∷ said) choice answer ran stepped goes i =
    (ran.0, ran.1, ran.2, ran.3, ran_more ran.0 last new steps said choice answer ran.4 stepped goes i)

-- so many steps of a list, and one more
pub ran_next : (old last new : CoreData) (steps : List StepChoice) (said : List Answer) (n : ℕ) (other : StepChoice) (answer : Answer) → n < length steps → Ran old last (take n steps) said → Stepped last new (get_or steps n other) answer
    → GoesOn last new → Interleaves new → Ran old new (take (n + 1) steps) (said ++ answer ∷ [])
ran_next old last new steps said n other answer within ran stepped goes i =
    subst (λ (l : List StepChoice). Ran old new l (said ++ answer ∷ [])) (sym (take_more steps n other within)) (ran_more old last new (take n steps) said (get_or steps n other) answer ran stepped goes i)

-- So many were made, and the next wanted memory.
pub ran_some : (old last new : CoreData) (steps : List StepChoice) (said : List Answer) (n : ℕ) (other : StepChoice) → n < length steps → Ran old last (take n steps) said → Spares last new × TakesMemory last (get_or steps n other)
    → RanSome old new steps
ran_some old last new steps said n other within ran err =
    record { made = n; said = said; last = last; ran = ran; wanting = inr (get_or steps n other, slice_get-get_or steps n other within, err.1); spares = err.0 }

-- no step was made
ran_nothing : (old new : CoreData) (steps : List StepChoice) → new ≡ old → Ran old new (take 0 steps) []
ran_nothing old new [] is = is
ran_nothing old new (choice ∷ steps) is = is

-- and none answered
pub ran_said : (core : CoreData) (said : List Answer) → said ≡ [] → Ran core core [] said
ran_said core [] is = refl
ran_said core (answer ∷ said) is = absurd (cc)

spares_same : (core : CoreData) → Interleaves core → Spares core core
spares_same core i = record { left = refl; rested = record { ready = i.ready; fronts = λ u. refl; parts = λ u p. refl } }

-- and for the first one memory was wanting
pub ran_none : (old new : CoreData) (steps : List StepChoice) → new ≡ old → Interleaves new → RanSome old new steps
ran_none old new steps is i =
    record { made = 0; said = []; last = new; ran = ran_nothing old new steps is; wanting = inl refl; spares = spares_same new i }
