-- What is true of a core stays so over each step: of a caller, of the work at a vBucket, and where a call is loaded.
use Rattle.std.proofs.Common.{◌≡◌, ◌≢◌, ◌<◌, ◌≤◌, ℕ, zero, suc, Bool, true, false, ◌⊎◌, inl, inr, List, [], ◌∷◌, ◌++◌, length, map, filter, slice_get, slice_set, refl, sym, ap, subst, ◌∙◌, cond, arith}
use Rattle.std.specs.Prelude.{Option, Some, None, IfSome, ◌==◌}
use Rattle.std.specs.List.{AllByRecursion}
use Rattle.std.proofs.lemmas.Bool.{cases_eq, ne_eqb}
use Rattle.std.proofs.lemmas.Bool.Decides.{leb_tells}
use Rattle.std.proofs.lemmas.List.{length-set}
use Rattle.std.proofs.lemmas.Option.{slice_get_within}
use Rattle.ep_model.specs.declared.config.Config.{Config}
use Rattle.ep_model.specs.declared.event.Ticket.{Ticket}
use Rattle.ep_model.specs.declared.data.CallData.{CallData}
use Rattle.ep_model.specs.declared.data.EventData.{EventData}
use Rattle.ep_model.specs.declared.data.EventData.TheVariants as events
use Rattle.ep_model.specs.declared.data.FrontData.{FrontData}
use Rattle.ep_model.specs.Front.{empty_start}
use Rattle.ep_model.specs.Legal.{IsLegal}
use Rattle.hold_stage.specs.Touches.{is_call, is_desks}
use Rattle.kv_keeper.specs.declared.data.BatchData.{BatchData}
use Rattle.kv_keeper.specs.declared.data.DeskData.{DeskData}
use Rattle.kv_keeper.specs.Desk.{new_desk}
use Rattle.kv_keeper.specs.Content.{KeeperData, empty_content}
use Rattle.vb_world.specs.declared.data.WorldData.{WorldData}
use Rattle.vb_world.specs.History.{events_of}
use Rattle.vb_world.specs.World.{front_in, Sound}
use Rattle.vb_world.proofs.ListLemmas.{all-get, all-push}
use Rattle.ep_drill.specs.declared.part.Part.{Part}
use Rattle.ep_drill.specs.declared.data.BenchData.{BenchData}
use Rattle.ep_drill.specs.declared.data.CallerData.{CallerData}
use Rattle.ep_drill.specs.declared.data.CoreData.{CoreData}
use Rattle.ep_drill.specs.declared.data.FetchedData.{FetchedData}
use Rattle.flat_parts.specs.declared.data.Step.{Step}
use Rattle.flat_parts.specs.declared.data.Step.TheVariants as steps
use Rattle.ep_drill.specs.Parts.{part_stands}
use Rattle.hold_stage.specs.Went.{with_noted}
use Rattle.ep_drill.specs.Calls.{event_of}
use Rattle.hold_stage.specs.Priors.{PriorsStand, is_prior}
use Rattle.ep_drill.specs.Callers.{answered_by, answered_in, next_of, NextStands, CallerStands, after_step}
use Rattle.ep_drill.specs.Core.{BenchStands, Ready, Moved, Worked, IsOn, Interleaves}
use Rattle.ep_drill.proofs.BenchLemmas.{bench_noted, bench_new}
use Rattle.ep_drill.proofs.CallerLemmas.{quiet_answers, others_answer, caller_keeps, caller_steps, caller_loads, caller_new}

-- What stands in a list with one element replaced is the new one, at its place, or stood there before.
set_cases : {A : Type 0} (xs : List A) (i j : ℕ) (x y : A) → slice_get (slice_set xs i x) j ≡ Some y → ((j ≡ i) × (y ≡ x)) ⊎ ((j ≢ i) × (slice_get xs j ≡ Some y))
set_cases [] i j x y is = absurd (cc)
set_cases (z ∷ xs) zero zero x y is = inl (refl, (let e : y ≡ x = cc in e))
set_cases (z ∷ xs) zero (suc j) x y is = inr ((λ e. absurd (omega arith)), is)
set_cases (z ∷ xs) (suc i) zero x y is = inr ((λ e. absurd (omega arith)), is)
set_cases (z ∷ xs) (suc i) (suc j) x y is = elim (set_cases xs i j x y is) [ inl h ↦ inl (ap suc h.0, h.1) | inr h ↦ inr ((λ e. h.0 (let same : j ≡ i = omega arith in same)), h.1) ]

-- what a call came to is no event of the desk
call_not_desks : (number now : ℕ) (call : CallData) (prior : Option Ticket) (value : List ℕ) (step : Step) → IfSome (event_of number call now prior value step) (λ e. is_desks e ≡ false)
unfolding is_desks
call_not_desks number now call prior value (steps.Done reply) = refl
call_not_desks number now call prior value (steps.Refused cause) = refl
call_not_desks number now call prior value (steps.Fetch ticket) =
    elim (is_prior prior ticket) as (λ b. IfSome (cond b None (Some (events.Asked ticket number call))) (λ e. is_desks e ≡ false)) [
      | true ↦ tt
      | false ↦ refl
    ]
call_not_desks number now call prior value steps.FetchFull = tt

-- an event of no call, or none, answers no call
none_answered : (number : ℕ) (event : Option EventData) → IfSome event (λ e. is_call e ≡ false) → IfSome event (λ e. answered_by number e ≡ [])
none_answered number None quiet = tt
none_answered number (Some event) quiet = quiet_answers number event quiet

-- a step takes no call from a caller and gives it none
pub calls_same : (step : Step) (caller : CallerData) → (after_step step caller).calls ≡ caller.calls
calls_same (steps.Done reply) caller = refl
calls_same (steps.Refused cause) caller = refl
calls_same (steps.Fetch ticket) caller = refl
calls_same steps.FetchFull caller = refl

-- One vBucket's history got an event more, or none.
module _ (core : CoreData) (world : WorldData Part) (vb : ℕ) (event : Option EventData) (i : Interleaves core) (moved : Moved core.config vb event core.world world) (sound : Sound part_stands world) where
  -- where that event isn't the desk's each bench stands on
  bench_moved : IfSome event (λ e. is_desks e ≡ false) → (u : ℕ) (bench : BenchData) → slice_get core.benches u ≡ Some bench → BenchStands (front_in world u) bench
  bench_moved test u bench at =
      elim (cases_eq u vb) as (λ _. BenchStands (front_in world u) bench) [
        | inl is ↦
            let here : front_in world u ≡ with_noted (front_in core.world u) event = subst (λ (k : ℕ). front_in world k ≡ with_noted (front_in core.world k) event) (sym is) moved.front in
            subst (λ (f : FrontData). BenchStands f bench) (sym here)
            (bench_noted (front_in core.world u) event bench (i.sound.legal u) (subst (λ (f : FrontData). IsLegal f) here (sound.legal u)) test (i.benches u bench at))
        | inr differ ↦ subst (λ (f : FrontData). BenchStands f bench) (sym (moved.others u differ)) (i.benches u bench at)
      ]

  -- and each caller of which it answers no call
  caller_moved : (number : ℕ) (caller : CallerData) → IfSome event (λ e. answered_by number e ≡ []) → slice_get core.callers number ≡ Some caller → CallerStands (front_in world) number caller
  caller_moved number caller none at = caller_keeps (front_in core.world) (front_in world) vb number event caller moved.front moved.others none (i.callers number caller at)

-- a call was tried
pub core_tried : (core : CoreData) (world : WorldData Part) (number now vb : ℕ) (caller : CallerData) (call : CallData) (value : List ℕ) (step : Step) → Interleaves core
    → slice_get core.callers number ≡ Some caller → next_of caller ≡ Some (vb, call) → Moved core.config vb (event_of number call now caller.prior value step) core.world world → Sound part_stands world
    → Interleaves (record core { world = world; callers = slice_set core.callers number (after_step step caller) })
core_tried core world number now vb caller call value step i at next moved sound =
    let event : Option EventData = event_of number call now caller.prior value step in
    let after : CallerStands (front_in world) number (after_step step caller) =
    caller_steps (front_in core.world) (front_in world) number now vb call value step caller next moved.front moved.others (i.callers number caller at) in
    let on : AllByRecursion (IsOn core.config) (after_step step caller).calls = subst (λ (l : List (ℕ × CallData)). AllByRecursion (IsOn core.config) l) (sym (calls_same step caller)) (i.loaded number caller at) in
    record {
      ready = moved.ready;
      sound = sound;
      count = i.count;
      benches = bench_moved core world vb event i moved sound (call_not_desks number now call caller.prior value step);
      callers = λ j other is. elim (set_cases core.callers number j (after_step step caller) other is) [
        | inl h ↦ subst (λ (k : ℕ). CallerStands (front_in world) k other) (sym h.0) (subst (λ (c : CallerData). CallerStands (front_in world) number c) (sym h.1) after)
        | inr h ↦ caller_moved core world vb event i moved sound j other (others_answer number j now call caller.prior value step (λ e. h.0 (sym e))) h.1
      ];
      loaded = λ j other is. elim (set_cases core.callers number j (after_step step caller) other is) [
        | inl h ↦ subst (λ (c : CallerData). AllByRecursion (IsOn core.config) c.calls) (sym h.1) on
        | inr h ↦ i.loaded j other h.1
      ];
    }

-- a step was made at a vBucket's bench
pub core_worked : (core : CoreData) (world : WorldData Part) (vb : ℕ) (bench : BenchData) → Interleaves core → Worked core.config vb core.world world → Sound part_stands world → BenchStands (front_in world vb) bench
    → Interleaves (record core { world = world; benches = slice_set core.benches vb bench })
core_worked core world vb bench i worked sound stands =
    let moved : Moved core.config vb worked.event core.world world = worked.moved in
    record {
      ready = moved.ready;
      sound = sound;
      count = length-set core.benches vb bench ∙ i.count;
      benches = λ u other is. elim (set_cases core.benches vb u bench other is) [
        | inl h ↦ subst (λ (k : ℕ). BenchStands (front_in world k) other) (sym h.0) (subst (λ (b : BenchData). BenchStands (front_in world vb) b) (sym h.1) stands)
        | inr h ↦ subst (λ (f : FrontData). BenchStands f other) (sym (moved.others u h.0)) (i.benches u other h.1)
      ];
      callers = λ number caller at. caller_moved core world vb worked.event i moved sound number caller (none_answered number worked.event worked.quiet) at;
      loaded = i.loaded;
    }

-- an event that is neither a call's nor the desk's was noted, or none was
pub core_marked : (core : CoreData) (world : WorldData Part) (vb : ℕ) → Interleaves core → (event : Option EventData) → Moved core.config vb event core.world world
    → IfSome event (λ e. is_call e ≡ false) → IfSome event (λ e. is_desks e ≡ false) → Sound part_stands world → Interleaves (record core { world = world })
core_marked core world vb i event moved quiet test sound =
    record {
      ready = moved.ready;
      sound = sound;
      count = i.count;
      benches = bench_moved core world vb event i moved sound test;
      callers = λ number caller at. caller_moved core world vb event i moved sound number caller (none_answered number event quiet) at;
      loaded = i.loaded;
    }

-- nothing was noted
pub core_rested : (core : CoreData) (world : WorldData Part) (vb : ℕ) → Interleaves core → Moved core.config vb None core.world world → Sound part_stands world → Interleaves (record core { world = world })
core_rested core world vb i moved sound = core_marked core world vb i None moved tt tt sound

-- a caller got a call more to do
pub core_loaded : (core : CoreData) (number : ℕ) (caller : CallerData) (call : ℕ × CallData) → Interleaves core → slice_get core.callers number ≡ Some caller → call.0 < core.config.vbuckets
    → Interleaves (record core { callers = slice_set core.callers number (record caller { calls = caller.calls ++ call ∷ [] }) })
core_loaded core number caller call i at on =
    let more : CallerData = record caller { calls = caller.calls ++ call ∷ [] } in
    let after : CallerStands (front_in core.world) number more = caller_loads (front_in core.world) number caller call (i.callers number caller at) in
    let all : AllByRecursion (IsOn core.config) more.calls = all-push (IsOn core.config) caller.calls call (i.loaded number caller at) on in
    record {
      ready = i.ready;
      sound = i.sound;
      count = i.count;
      benches = i.benches;
      callers = λ j other is. elim (set_cases core.callers number j more other is) [
        | inl h ↦ subst (λ (k : ℕ). CallerStands (front_in core.world) k other) (sym h.0) (subst (λ (c : CallerData). CallerStands (front_in core.world) number c) (sym h.1) after)
        | inr h ↦ i.callers j other h.1
      ];
      loaded = λ j other is. elim (set_cases core.callers number j more other is) [
        | inl h ↦ subst (λ (c : CallerData). AllByRecursion (IsOn core.config) c.calls) (sym h.1) all
        | inr h ↦ i.loaded j other h.1
      ];
    }

-- what a caller's next call may rely on
pub prior_of : (core : CoreData) (number vb : ℕ) (caller : CallerData) (call : CallData) → Interleaves core → slice_get core.callers number ≡ Some caller → next_of caller ≡ Some (vb, call)
    → PriorsStand (front_in core.world vb) number call caller.prior × (vb < core.config.vbuckets)
prior_of core number vb caller call i at next = (
  subst (λ (o : Option (ℕ × CallData)). NextStands (front_in core.world) number caller.prior o) next (i.callers number caller at).next,
  all-get (IsOn core.config) caller.calls caller.answered (vb, call) (i.loaded number caller at) next,
)

-- the events of these pairs with one more in front, as the test of that one says
abbrev picked : Bool → ℕ × EventData → List (ℕ × EventData) → List EventData
picked b p rest = map (λ (q : ℕ × EventData). q.1) (cond b (p ∷ rest) rest)

-- from some vBucket on none has an event
events_none : (n id : ℕ) (pairs : List (ℕ × EventData)) → AllByRecursion (λ (pair : ℕ × EventData). pair.0 < n) pairs → n ≤ id → events_of id pairs ≡ []
events_none n id [] all past = refl
events_none n id (p ∷ pairs) all past =
    let low = all.0 in
    let apart : (p.0 == id) ≡ false = ne_eqb p.0 id (λ e. absurd (omega arith)) in
    ap (λ (b : Bool). picked b p (filter (λ (q : ℕ × EventData). q.0 == id) pairs)) apart ∙ events_none n id pairs all.1 past

-- the front of a vBucket that was opened with nothing
abbrev opened_front : Config → ℕ → FrontData
opened_front config vb = record { config = config; id = vb; start = Some empty_start; events = events.Opened ∷ [] }

-- A bench over an empty store, with no batch and no read.
abbrev IsFreshBench : Config → BenchData → Type 0
IsFreshBench config bench = (keeper : KeeperData) × (bench.desk ≡ new_desk keeper) × (keeper.content ≡ Some empty_content) × (keeper.sure ≡ true) × (bench.batch ≡ None) × (length bench.reads ≡ config.stripes)
    × ((stripe : ℕ) (r : FetchedData) → slice_get bench.reads stripe ≡ Some (Some r) → ⊥)

fresh_stands : (config : Config) (f : FrontData) (vb : ℕ) (bench : BenchData) → f ≡ opened_front config vb → IsFreshBench config bench → BenchStands f bench
fresh_stands config f vb bench is fresh =
    let made : BenchStands f (record { desk = new_desk fresh.0; batch = None; reads = bench.reads }) =
    bench_new f fresh.0 bench.reads (ap (λ (g : FrontData). g.start) is) (ap (λ (g : FrontData). g.events) is) fresh.2 fresh.3 (fresh.5 ∙ sym (ap (λ (g : FrontData). g.config.stripes) is)) fresh.6 in
    subst (λ (o : Option BatchData). BenchStands f (record { desk = bench.desk; batch = o; reads = bench.reads })) (sym fresh.4)
    (subst (λ (d : DeskData). BenchStands f (record { desk = d; batch = None; reads = bench.reads })) (sym fresh.1) made)

-- a new core, whose vBuckets were just opened with nothing and whose callers have no calls
pub core_new : (config : Config) (world : WorldData Part) (benches : List BenchData) (callers : List CallerData) → Ready config world → Sound part_stands world → length benches ≡ config.vbuckets
    → ((vb : ℕ) → vb < config.vbuckets → front_in world vb ≡ record { config = config; id = vb; start = Some empty_start; events = events.Opened ∷ [] })
    → ((vb : ℕ) (bench : BenchData) → slice_get benches vb ≡ Some bench → (keeper : KeeperData) × (bench.desk ≡ new_desk keeper) × (keeper.content ≡ Some empty_content) × (keeper.sure ≡ true) × (bench.batch ≡ None) × (length bench.reads ≡ config.stripes)
    × ((stripe : ℕ) (r : FetchedData) → slice_get bench.reads stripe ≡ Some (Some r) → ⊥))
    → ((number : ℕ) (caller : CallerData) → slice_get callers number ≡ Some caller → caller ≡ record { calls = []; answered = 0; prior = None })
    → Interleaves (record { config = config; world = world; benches = benches; callers = callers })
core_new config world benches callers ready sound count opened fresh idle =
    let silent : (number vb : ℕ) → answered_in number (events_of vb world.history) ≡ [] = λ number vb. elim (leb_tells config.vbuckets vb) as (λ _. answered_in number (events_of vb world.history) ≡ []) [
      | inl past ↦
          let from = past.1 in
          ap (λ (l : List EventData). answered_in number l) (events_none (length world.buckets) vb world.history sound.below (let c = ready.count in omega arith))
      | inr there ↦ ap (λ (f : FrontData). answered_in number f.events) (opened vb there.1)
    ] in
    record {
      ready = ready;
      sound = sound;
      count = count;
      benches = λ vb bench at. fresh_stands config (front_in world vb) vb bench (opened vb (let within = slice_get_within benches vb bench at in omega arith)) (fresh vb bench at);
      callers = λ number caller at. subst (λ (c : CallerData). CallerStands (front_in world) number c) (sym (idle number caller at)) (caller_new (front_in world) number (silent number));
      loaded = λ number caller at. subst (λ (c : CallerData). AllByRecursion (IsOn config) c.calls) (sym (idle number caller at)) tt;
    }
