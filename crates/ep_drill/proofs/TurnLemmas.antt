-- A core goes on from step to step: what a caller's turn leaves of it, and what many steps do.
use Rattle.std.proofs.Common.{◌≡◌, ◌<◌, ◌≤◌, ℕ, zero, suc, inl, inr, List, [], ◌∷◌, ◌++◌, length, map, slice_get, slice_set, refl, sym, ap, subst, ◌∙◌, arith}
use Rattle.std.specs.Prelude.{Option, Some, None, IsSome, Result, Ok, Err, IfOk, OnErr}
use Rattle.std.specs.Option.{option_map}
use Rattle.std.specs.List.{AllByRecursion}
use Rattle.std.proofs.lemmas.Bool.{cases_eq}
use Rattle.std.proofs.lemmas.List.{append-nil, append_assoc, map-set}
use Rattle.std.proofs.lemmas.Option.{slice_get-map, slice_get_past}
use Rattle.vb_world.proofs.ListLemmas.{map-set_kept}
use Rattle.ep_drill.proofs.ListLemmas.{set_same}
use Rattle.ep_model.specs.Limits.{end_of_moments, IsMoment}
use Rattle.ep_model.specs.declared.config.Config.{Config}
use Rattle.ep_model.specs.declared.data.CallData.{CallData}
use Rattle.ep_model.specs.declared.data.EventData.{EventData}
use Rattle.ep_model.specs.declared.data.FrontData.{FrontData}
use Rattle.vb_world.specs.declared.data.WorldData.{WorldData}
use Rattle.vb_world.specs.World.{front_in, part_in, Sound}
use Rattle.ep_drill.specs.declared.part.Part.{Part}
use Rattle.ep_drill.specs.declared.bench.Bench.{Bench}
use Rattle.ep_drill.specs.declared.owned.Caller.{Caller}
use Rattle.ep_drill.specs.declared.owned.Loaded.{Loaded}
use Rattle.ep_drill.specs.declared.data.CallerData.{CallerData}
use Rattle.ep_drill.specs.declared.data.CoreData.{CoreData}
use Rattle.flat_parts.specs.declared.data.Step.{Step}
use Rattle.ep_drill.specs.Parts.{part_stands}
use Rattle.hold_stage.specs.Went.{with_noted}
use Rattle.ep_drill.specs.Calls.{event_of}
use Rattle.ep_drill.specs.Callers.{CallerStands, caller_data, loaded_data, next_of, after_step, tried_of}
use Rattle.ep_drill.specs.Core.{IsOn, NextMayWant, Ready, Moved, Rested, CallerTurned, Interleaves, Continues, GoesOn, calls_of, core_data}
use Rattle.ep_drill.specs.Stepped.{WasTried, IsFronted, IsIdle, Spares, TurnTakes, answer_of}
use Rattle.ep_drill.specs.Stepped.IsIdle.{NoCaller, NoCall, NoMoment}
use Rattle.ep_drill.proofs.CoreLemmas.{core_tried, core_rested, calls_same}

-- a history with an event more, or with none, goes on
noted_goes_on : (f g : FrontData) (event : Option EventData) → g ≡ with_noted f event → Continues f g
noted_goes_on f g None is = record { more = []; start = ap (λ (k : FrontData). k.start) is; events = ap (λ (k : FrontData). k.events) is ∙ sym (append-nil f.events) }
noted_goes_on f g (Some event) is = record { more = event ∷ []; start = ap (λ (k : FrontData). k.start) is; events = ap (λ (k : FrontData). k.events) is }

-- where one vBucket's history got an event more, or none, each goes on
pub moved_goes_on : (config : Config) (vb : ℕ) (event : Option EventData) (old new : WorldData Part) → Moved config vb event old new → (u : ℕ) → Continues (front_in old u) (front_in new u)
moved_goes_on config vb event old new moved u =
    elim (cases_eq u vb) as (λ _. Continues (front_in old u) (front_in new u)) [
      | inl is ↦ noted_goes_on (front_in old u) (front_in new u) event (subst (λ (k : ℕ). front_in new k ≡ with_noted (front_in old k) event) (sym is) moved.front)
      | inr differ ↦ noted_goes_on (front_in old u) (front_in new u) None (moved.others u differ)
    ]

-- a core goes on where nothing happens
pub goes_on_refl : (core : CoreData) → GoesOn core core
goes_on_refl core = record { layout = refl; calls = refl; grown = λ vb. noted_goes_on (front_in core.world vb) (front_in core.world vb) None refl }

-- and over two steps where it does over each
pub goes_on_then : (a b c : CoreData) → GoesOn a b → GoesOn b c → GoesOn a c
goes_on_then a b c first second =
    record {
      layout = second.layout ∙ first.layout;
      calls = second.calls ∙ first.calls;
      grown = λ vb.
          let x : Continues (front_in a.world vb) (front_in b.world vb) = first.grown vb in
          let y : Continues (front_in b.world vb) (front_in c.world vb) = second.grown vb in
          record {
            more = x.more ++ y.more;
            start = y.start ∙ x.start;
            events = y.events ∙ ap (λ (l : List EventData). l ++ y.more) x.events ∙ append_assoc (front_in a.world vb).events x.more y.more;
          };
    }

-- callers have the same calls where one is replaced by one with its calls
pub calls_set : (xs : List CallerData) (i : ℕ) (x y : CallerData) → slice_get xs i ≡ Some x → y.calls ≡ x.calls → map calls_of (slice_set xs i y) ≡ map calls_of xs
calls_set [] i x y is same = refl
calls_set (z ∷ xs) zero x y is same = let e : z ≡ x = cc in ap (λ (l : List (ℕ × CallData)). l ∷ map calls_of xs) (same ∙ sym (ap (λ (k : CallerData). k.calls) e))
calls_set (z ∷ xs) (suc i) x y is same = ap (λ (l : List (List (ℕ × CallData))). z.calls ∷ l) (calls_set xs i x y is same)

-- what stands in a list stands in the list of what is told of each
pub get_told : {A B : Type 0} (f : A → B) (xs : List A) (i : ℕ) (x : A) → slice_get xs i ≡ Some x → slice_get (map f xs) i ≡ Some (f x)
get_told f xs i x is = slice_get-map f xs i ∙ ap (λ o. option_map f o) is

-- A core in which a caller's next call was tried.
module _ (core : CoreData) (z : WorldData Part) (number : ℕ) (caller after : CallerData) (i : Interleaves core) (at : slice_get core.callers number ≡ Some caller) (sound : Sound part_stands z) where
  abbrev Goes : Type 0
  Goes = Interleaves (record core { world = z; callers = slice_set core.callers number after }) × GoesOn core (record core { world = z; callers = slice_set core.callers number after })

  turned_rested : (vb : ℕ) → Moved core.config vb None core.world z → after ≡ caller → Goes
  turned_rested vb moved same =
      let list : slice_set core.callers number after ≡ core.callers = ap (λ (c : CallerData). slice_set core.callers number c) same ∙ set_same core.callers number caller at in (
        subst (λ (l : List CallerData). Interleaves (record core { world = z; callers = l })) (sym list) (core_rested core z vb i moved sound),
        record { layout = refl; calls = ap (λ (l : List CallerData). map calls_of l) list; grown = moved_goes_on core.config vb None core.world z moved },
      )

  turned_none : z ≡ core.world → after ≡ caller → Goes
  turned_none world same =
      turned_rested 0 (record { ready = subst (λ (k : WorldData Part). Ready core.config k) (sym world) i.ready; front = ap (λ (k : WorldData Part). front_in k 0) world; others = λ u differ. ap (λ (k : WorldData Part). front_in k u) world; apart = λ u differ p. ap (λ (k : WorldData Part). part_in k u p) world }) same

  turned_err : Rested core.config core.world z → after ≡ caller → Goes
  turned_err rested same = turned_rested 0 (record { ready = rested.ready; front = rested.fronts 0; others = λ u differ. rested.fronts u; apart = λ u differ p. rested.parts u p }) same

  turned_some : (now : ℕ) (value : List ℕ) (step : Step) → CallerTurned core.config number now core.world z caller after value (Some step) → Goes
  turned_some now value step turned =
      let same : after ≡ after_step step caller = turned.3 in (
        subst (λ (c : CallerData). Interleaves (record core { world = z; callers = slice_set core.callers number c })) (sym same)
            (core_tried core z number now turned.0.0 caller turned.0.1 value step i at turned.1 turned.2 sound),
        record {
          layout = refl;
          calls = calls_set core.callers number caller after at (ap (λ (c : CallerData). c.calls) same ∙ calls_same step caller);
          grown = moved_goes_on core.config turned.0.0 (event_of number turned.0.1 now caller.prior value step) core.world z turned.2;
        },
      )

  turned_data : {E : Type 0} (now : ℕ) (value : List ℕ) (result : Result (Option Step) E) → IfOk result (CallerTurned core.config number now core.world z caller after value)
      → OnErr result (Rested core.config core.world z × (after ≡ caller) × IsSome (next_of caller)) → Goes
  turned_data now value (Ok None) ok err = turned_none ok.0 ok.1
  turned_data now value (Ok (Some step)) ok err = turned_some now value step ok
  turned_data now value (Err e) ok err = turned_err err.0 err.1

-- A caller's turn: the core is as it should be, and goes on.
pub turned_core : {K : Type 0} {E : Type 0} (config : Config) (w z : WorldData Part) (benches : List (Bench K)) (callers : List Caller) (number now : ℕ) (caller after : Caller) (value : List ℕ) (result : Result (Option Step) E)
    → Interleaves (core_data config w benches callers) → slice_get callers number ≡ Some caller → IfOk result (CallerTurned config number now w z (caller_data caller) (caller_data after) value)
    → OnErr result (Rested config w z × (caller_data after ≡ caller_data caller) × IsSome (next_of (caller_data caller))) → Sound part_stands z
    → Interleaves (core_data config z benches (slice_set callers number after)) × GoesOn (core_data config w benches callers) (core_data config z benches (slice_set callers number after))
turned_core config w z benches callers number now caller after value result i at ok err sound =
    let core : CoreData = core_data config w benches callers in
    let told : slice_set (map caller_data callers) number (caller_data after) ≡ map caller_data (slice_set callers number after) = sym (map-set caller_data callers number after) in
    subst (λ (l : List CallerData). Interleaves (record core { world = z; callers = l }) × GoesOn core (record core { world = z; callers = l })) told
    (turned_data core z number (caller_data caller) (caller_data after) i (get_told caller_data callers number caller at) sound now value result ok err)

-- The same as a function has it: the caller stands at a place that is its number, and the core before is told by its fields.
pub turned_at : {K : Type 0} {E : Type 0} (old : CoreData) (config : Config) (w z : WorldData Part) (benches : List (Bench K)) (callers : List Caller) (place number told now : ℕ) (caller after : Caller) (value : List ℕ)
    (result : Result (Option Step) E) → core_data config w benches callers ≡ old → place ≡ told → number ≡ told
    → Interleaves (core_data config w benches callers) → slice_get callers place ≡ Some caller → IfOk result (CallerTurned config number now w z (caller_data caller) (caller_data after) value)
    → OnErr result (Rested config w z × (caller_data after ≡ caller_data caller) × IsSome (next_of (caller_data caller))) → Sound part_stands z
    → Interleaves (core_data config z benches (slice_set callers place after)) × GoesOn old (core_data config z benches (slice_set callers place after))
turned_at old config w z benches callers place number told now caller after value result is here its i at ok err sound =
    let same : place ≡ number = here ∙ sym its in
    subst (λ (o : CoreData). Interleaves (core_data config z benches (slice_set callers place after)) × GoesOn o (core_data config z benches (slice_set callers place after))) is
    (subst (λ (k : ℕ). Interleaves (core_data config z benches (slice_set callers k after)) × GoesOn (core_data config w benches callers) (core_data config z benches (slice_set callers k after))) (sym same)
    (turned_core config w z benches callers number now caller after value result i (subst (λ (k : ℕ). slice_get callers k ≡ Some caller) same at) ok err sound))

-- what a core keeps of the caller whose turn it is
pub caller_of : {K : Type 0} (config : Config) (w : WorldData Part) (benches : List (Bench K)) (callers : List Caller) (place number told : ℕ) (caller : Caller) → place ≡ told → number ≡ told
    → Interleaves (core_data config w benches callers) → slice_get callers place ≡ Some caller → CallerStands (front_in w) number (caller_data caller) × AllByRecursion (IsOn config) (caller_data caller).calls
caller_of config w benches callers place number told caller here its i at =
    let stands : CallerStands (front_in w) place (caller_data caller) = i.callers place (caller_data caller) (get_told caller_data callers place caller at) in
    (subst (λ (k : ℕ). CallerStands (front_in w) k (caller_data caller)) (here ∙ sym its) stands, i.loaded place (caller_data caller) (get_told caller_data callers place caller at))

-- where nothing was done, the core is as it should be and goes on
pub kept_still : (core old : CoreData) → core ≡ old → Interleaves core → Interleaves old × GoesOn old old
kept_still core old is i = (subst (λ (k : CoreData). Interleaves k) is i, goes_on_refl old)

-- the callers are told as before where one is put back as it was
callers_kept : (callers : List Caller) (place : ℕ) (caller after : Caller) → slice_get callers place ≡ Some caller → caller_data after ≡ caller_data caller → map caller_data (slice_set callers place after) ≡ map caller_data callers
callers_kept callers place caller after at same = map-set_kept caller_data callers place after (λ x found. let e : caller ≡ x = cc in same ∙ ap caller_data e)

-- where a caller that a core has was told to be at a place, it is there
caller_told : {K : Type 0} (old : CoreData) (config : Config) (w : WorldData Part) (benches : List (Bench K)) (callers : List Caller) (place told : ℕ) (caller : Caller) → core_data config w benches callers ≡ old → place ≡ told
    → slice_get callers place ≡ Some caller → slice_get old.callers told ≡ Some (caller_data caller)
caller_told old config w benches callers place told caller is here at =
    subst (λ (k : ℕ). slice_get old.callers k ≡ Some (caller_data caller)) here
    (subst (λ (o : CoreData). slice_get o.callers place ≡ Some (caller_data caller)) is (get_told caller_data callers place caller at))

-- what a core answers of a caller's turn
pub fronted_at : {K : Type 0} {E : Type 0} (old : CoreData) (config : Config) (w z : WorldData Part) (benches : List (Bench K)) (callers : List Caller) (place number told now : ℕ) (caller after : Caller) (value : List ℕ)
    (result : Result (Option Step) E) → core_data config w benches callers ≡ old → place ≡ told → number ≡ told → slice_get callers place ≡ Some caller → IsMoment now
    → IfOk result (CallerTurned config number now w z (caller_data caller) (caller_data after) value) → IfOk (answer_of result) (IsFronted old (core_data config z benches (slice_set callers place after)) told now)
fronted_at old config w z benches callers place number told now caller after value (Err e) is here its at early ok = tt
fronted_at old config w z benches callers place number told now caller after value (Ok None) is here its at early ok =
    let first : CoreData = core_data config w benches callers in
    let kept : map caller_data (slice_set callers place after) ≡ map caller_data callers = callers_kept callers place caller after at ok.1 in
    let same : core_data config z benches (slice_set callers place after) ≡ first =
    ap (λ (l : List CallerData). record first { world = z; callers = l }) kept ∙ ap (λ (k : WorldData Part). record first { world = k }) ok.0 in (
      same ∙ is,
      NoCall (caller_data caller) (caller_told old config w benches callers place told caller is here at) ok.2,
    )
fronted_at old config w z benches callers place number told now caller after value (Ok (Some step)) is here its at early ok =
    let first : CoreData = core_data config w benches callers in
    let last : CoreData = core_data config z benches (slice_set callers place after) in
    let list : last.callers ≡ slice_set first.callers told (after_step step (caller_data caller)) =
    map-set caller_data callers place after ∙ ap (λ (k : ℕ). slice_set first.callers k (caller_data after)) here ∙ ap (λ (y : CallerData). slice_set first.callers told y) ok.3 in
    let tried : WasTried first last told now (tried_of step) = record {
      caller = caller_data caller;
      call = ok.0;
      step = step;
      value = value;
      moment = early;
      before = subst (λ (k : ℕ). slice_get first.callers k ≡ Some (caller_data caller)) here (get_told caller_data callers place caller at);
      next = ok.1;
      says = refl;
      moved = subst (λ (k : ℕ). Moved config ok.0.0 (event_of k ok.0.1 now caller.prior value step) w z) its ok.2;
      comes = ok.4;
      kept = ok.5;
      left = ap (λ (l : List CallerData). record first { world = z; callers = l }) list;
    } in
    subst (λ (o : CoreData). WasTried o last told now (tried_of step)) is tried

-- over plain numbers, so that the power isn't counted out
not_before : (m n : ℕ) → m ≤ n → n < m → ⊥
not_before m n late early = absurd (omega arith)

-- a caller that has a call to do at a moment of a step isn't idle
not_idle : (old : CoreData) (number now : ℕ) (caller : CallerData) → slice_get old.callers number ≡ Some caller → IsSome (next_of caller) → IsMoment now → IsIdle old number now → ⊥
not_idle old number now caller at some early (NoCaller none) = absurd (cc)
not_idle old number now caller at some early (NoCall other found none) =
    let same : caller ≡ other = cc in
    let gone = subst (λ (o : Option (ℕ × CallData)). IsSome o) (ap next_of same ∙ none) some in
    absurd (cc)
not_idle old number now caller at some early (NoMoment late) = not_before end_of_moments now late early

-- Where memory was wanting for a caller's turn nothing has changed, and there was a call to do, which may want it.
pub front_spared : {K : Type 0} {E : Type 0} (old : CoreData) (config : Config) (w z : WorldData Part) (benches : List (Bench K)) (callers : List Caller) (place told now : ℕ) (caller after : Caller) (result : Result (Option Step) E)
    → core_data config w benches callers ≡ old → place ≡ told → slice_get callers place ≡ Some caller → IsMoment now
    → OnErr result (Rested config w z × (caller_data after ≡ caller_data caller) × IsSome (next_of (caller_data caller))) → OnErr result (NextMayWant config w (caller_data caller) now)
    → OnErr (answer_of result) (Spares old (core_data config z benches (slice_set callers place after)) × TurnTakes old told now)
front_spared old config w z benches callers place told now caller after (Ok None) is here at early err wants = tt
front_spared old config w z benches callers place told now caller after (Ok (Some step)) is here at early err wants = tt
front_spared old config w z benches callers place told now caller after (Err e) is here at early err wants =
    let found : slice_get old.callers told ≡ Some (caller_data caller) = caller_told old config w benches callers place told caller is here at in
    let first : CoreData = core_data config w benches callers in
    let last : CoreData = core_data config z benches (slice_set callers place after) in
    let spared : Spares first last = record {
      left = ap (λ (l : List CallerData). record first { world = z; callers = l }) (callers_kept callers place caller after at err.1);
      rested = err.0;
    } in
    let takes : TurnTakes old told now = (
      not_idle old told now (caller_data caller) found err.2 early,
      (caller_data caller, found, subst (λ (o : CoreData). NextMayWant o.config o.world (caller_data caller) now) is wants),
    ) in
    (subst (λ (o : CoreData). Spares o last) is spared, takes)

-- a caller whose list has a call at the place of its next one has a next call
pub is_next : (caller : Caller) (loaded : Loaded) → slice_get caller.calls.items caller.answered ≡ Some loaded → IsSome (next_of (caller_data caller))
is_next caller loaded at = subst (λ (o : Option (ℕ × CallData)). IsSome o) (sym (get_told loaded_data caller.calls.items caller.answered loaded at)) refl

-- there is no caller behind the last one
pub no_caller : {K : Type 0} (old : CoreData) (config : Config) (w : WorldData Part) (benches : List (Bench K)) (callers : List Caller) (place number count : ℕ) → core_data config w benches callers ≡ old → place ≡ number → count ≡ length callers → (place < count → ⊥)
    → slice_get old.callers number ≡ None
no_caller old config w benches callers place number count is here all late =
    let beyond : length callers ≤ place = omega arith in
    subst (λ k. slice_get old.callers k ≡ None) here
    (subst (λ (o : CoreData). slice_get o.callers place ≡ None) is (slice_get-map caller_data callers place ∙ ap (λ o. option_map caller_data o) (slice_get_past callers place beyond)))

-- a core goes on whose caller was lent out and is back
pub caller_back : {K : Type 0} (old : CoreData) (config : Config) (w : WorldData Part) (benches : List (Bench K)) (callers : List Caller) (place : ℕ) (caller : Caller) → core_data config w benches callers ≡ old → slice_get callers place ≡ Some caller
    → GoesOn old (core_data config w benches (slice_set callers place caller))
caller_back old config w benches callers place caller is at =
    subst (λ (l : List Caller). GoesOn old (core_data config w benches l)) (sym (set_same callers place caller at)) (subst (λ (o : CoreData). GoesOn old o) (sym is) (goes_on_refl old))
