-- What a step of a core answers and does, and what lists of steps do.
use Rattle.std.specs.Prelude.{◌≡◌, ◌⊎◌, ℕ, ◌<◌, ◌≤◌, List, [], ◌∷◌, take, slice_get, slice_set, Option, Some, None, IsSome, Result, Ok, Err}
use Rattle.ep_model.specs.Limits.{end_of_moments}
use Rattle.ep_model.specs.declared.data.CallData.{CallData}
use Rattle.ep_model.specs.declared.event.PartName.TheVariants.{Stripe}
use Rattle.hold_stage.specs.Touches.{is_stripe, touches_call}
use Rattle.vb_world.specs.declared.data.WorldData.{WorldData}
use Rattle.vb_world.specs.World.{part_in}
use Rattle.ep_drill.specs.declared.choice.Answer.{Answer}
use Rattle.ep_drill.specs.declared.choice.Answer.TheVariants as answers
use Rattle.ep_drill.specs.declared.choice.StepChoice.{StepChoice}
use Rattle.ep_drill.specs.declared.choice.StepChoice.TheVariants as choices
use Rattle.ep_drill.specs.declared.choice.Tried.{Tried}
use Rattle.ep_drill.specs.declared.data.BenchData.{BenchData}
use Rattle.ep_drill.specs.declared.data.CallerData.{CallerData}
use Rattle.ep_drill.specs.declared.data.CoreData.{CoreData}
use Rattle.flat_parts.specs.declared.data.Step.{Step}
use Rattle.ep_drill.specs.declared.part.Part.{Part}
use Rattle.ep_drill.specs.declared.store.Paged.{Paged}
use Rattle.ep_drill.specs.StoreSide.{IsPaged}
use Rattle.ep_drill.specs.Calls.{event_of}
use Rattle.hold_stage.specs.Stays.{KeptBut}
use Rattle.ep_drill.specs.Callers.{next_of, after_step, tried_of}
use Rattle.ep_drill.specs.Fetches.{HasWaiting}
use Rattle.ep_drill.specs.Tries.{CallComesTo}
use Rattle.ep_drill.specs.Core.{Moved, Rested, Interleaves, GoesOn, LacksEventRoom, NextMayWant}
use Rattle.ep_drill.specs.Works.{TakesAt, CommitsAt, MarksAt, FetchesAt, MergesAt}

-- A caller's next call was tried at a moment of a step, with this answer, and its event is noted where it has one. Nothing else changed.
pub record WasTried (old new : CoreData) (number now : ℕ) (tried : Tried) : Type 0 where
  pub caller : CallerData
  pub call : ℕ × CallData
  pub step : Step
  pub value : List ℕ
  pub moment : now < end_of_moments
  pub before : slice_get old.callers number ≡ Some caller
  pub next : next_of caller ≡ Some call
  pub says : tried ≡ tried_of step
  pub moved : Moved old.config call.0 (event_of number call.1 now caller.prior value step) old.world new.world
  pub comes : CallComesTo old.config (part_in old.world call.0) (part_in new.world call.0) call.1 now caller.prior step
  pub kept : KeptBut old.config (touches_call old.config call.1) (part_in old.world call.0) (part_in new.world call.0)
  pub left : new ≡ record old { world = new.world; callers = slice_set old.callers number (after_step step caller) }

-- there is no such caller, its calls are all answered, or the moment is none of a step
pub data IsIdle (old : CoreData) (number now : ℕ) : Type 0 where
  NoCaller : slice_get old.callers number ≡ None → IsIdle old number now
  NoCall : (caller : CallerData) → slice_get old.callers number ≡ Some caller → next_of caller ≡ None → IsIdle old number now
  NoMoment : end_of_moments ≤ now → IsIdle old number now

-- what a caller's turn answers
abbrev pub IsFronted : CoreData → CoreData → ℕ → ℕ → Answer → Type 0
IsFronted old new number now answers.Nothing = (new ≡ old) × IsIdle old number now
IsFronted old new number now (answers.Tried tried) = WasTried old new number now tried
IsFronted old new number now (answers.Took count) = ⊥
IsFronted old new number now (answers.Flushed flushed) = ⊥
IsFronted old new number now (answers.Marked marking) = ⊥
IsFronted old new number now (answers.Read waited) = ⊥
IsFronted old new number now (answers.Merged merging) = ⊥
IsFronted old new number now (answers.Paged paged) = ⊥

-- the answer of what a caller's turn came to
abbrev pub answer_of : {E : Type 0} → Result (Option Step) E → Result Answer E
answer_of (Ok (Some step)) = Ok (answers.Tried (tried_of step))
answer_of (Ok None) = Ok answers.Nothing
answer_of (Err e) = Err e

-- there is no such vBucket, or no such stripe
abbrev pub IsNoBucket : CoreData → ℕ → Type 0
IsNoBucket core vb = core.config.vbuckets ≤ vb

abbrev pub IsNowhere : CoreData → ℕ → ℕ → Type 0
IsNowhere core vb stripe = (core.config.vbuckets ≤ vb) ⊎ (core.config.stripes ≤ stripe)

-- A vBucket's bench was worked at, which made this of the world and of the bench, and nothing else changed.
pub record AtBench (old new : CoreData) (vb : ℕ) (P : WorldData Part → WorldData Part → BenchData → BenchData → Type 0) : Type 0 where
  pub bench : BenchData
  pub after : BenchData
  pub found : slice_get old.benches vb ≡ Some bench
  pub left : new ≡ record old { world = new.world; benches = slice_set old.benches vb after }
  pub worked : P old.world new.world bench after

-- What work at a vBucket's bench answers, and does. Where there is no place for it nothing is answered, and nothing done.
abbrev pub IsBenched : CoreData → CoreData → ℕ → Type 0 → (Answer → WorldData Part → WorldData Part → BenchData → BenchData → Type 0) → Answer → Type 0
IsBenched old new vb missing P answer = ((answer ≡ answers.Nothing) × (new ≡ old) × missing) ⊎ AtBench old new vb (P answer)

-- The pager ejected what it can of a stripe, and nothing else changed.
pub record WasPaged (old new : CoreData) (vb stripe : ℕ) (paged : Paged) : Type 0 where
  pub left : new ≡ record old { world = new.world }
  pub moved : Moved old.config vb None old.world new.world
  pub done : IsPaged (part_in old.world vb (Stripe stripe)) (part_in new.world vb (Stripe stripe)) paged
  pub kept : KeptBut old.config (is_stripe stripe) (part_in old.world vb) (part_in new.world vb)

-- what a page step answers: nothing exactly where there is no such stripe
abbrev pub IsPagedAt : CoreData → CoreData → ℕ → ℕ → Answer → Type 0
IsPagedAt old new vb stripe answers.Nothing = (new ≡ old) × IsNowhere old vb stripe
IsPagedAt old new vb stripe (answers.Tried tried) = ⊥
IsPagedAt old new vb stripe (answers.Took count) = ⊥
IsPagedAt old new vb stripe (answers.Flushed flushed) = ⊥
IsPagedAt old new vb stripe (answers.Marked marking) = ⊥
IsPagedAt old new vb stripe (answers.Read waited) = ⊥
IsPagedAt old new vb stripe (answers.Merged merging) = ⊥
IsPagedAt old new vb stripe (answers.Paged paged) = WasPaged old new vb stripe paged

-- what a step answers and does
abbrev pub Stepped : CoreData → CoreData → StepChoice → Answer → Type 0
Stepped old new (choices.Warm vb) answer = (answer ≡ answers.Nothing) × (new ≡ old)
Stepped old new (choices.Front caller now) answer = IsFronted old new caller now answer
Stepped old new (choices.TakeBatch vb) answer = IsBenched old new vb (IsNoBucket old vb) (TakesAt old.config vb) answer
Stepped old new (choices.Commit vb) answer = IsBenched old new vb (IsNoBucket old vb) (CommitsAt old.config vb) answer
Stepped old new (choices.Mark vb stripe) answer = IsBenched old new vb (IsNowhere old vb stripe) (MarksAt old.config vb stripe) answer
Stepped old new (choices.Read vb stripe) answer = IsBenched old new vb (IsNowhere old vb stripe) (FetchesAt old.config vb stripe) answer
Stepped old new (choices.Merge vb stripe) answer = IsBenched old new vb (IsNowhere old vb stripe) (MergesAt old.config vb stripe) answer
Stepped old new (choices.Page vb stripe) answer = IsPagedAt old new vb stripe answer
Stepped old new (choices.Expire vb stripe now) answer = (answer ≡ answers.Nothing) × (new ≡ old)

-- A step did nothing for want of memory: all parts and histories are as they were, and so is all else.
pub record Spares (old new : CoreData) : Type 0 where
  pub left : new ≡ record old { world = new.world }
  pub rested : Rested old.config old.world new.world

-- the bench of a vBucket is one of this kind
abbrev pub BenchIs : CoreData → ℕ → (BenchData → Type 0) → Type 0
BenchIs core vb P = (bench : BenchData) × (slice_get core.benches vb ≡ Some bench) × P bench

-- a caller's turn for whose call memory may be wanting
abbrev pub TurnTakes : CoreData → ℕ → ℕ → Type 0
TurnTakes core number now =
    (IsIdle core number now → ⊥)
    × ((caller : CallerData) × (slice_get core.callers number ≡ Some caller) × NextMayWant core.config core.world caller now)

-- A step for which memory may be wanting: there is something to do for it, and no room is at hand for the event of a commit, a mark
-- or a merge. A call wants it for its event, for a place, or for a document.
abbrev pub TakesMemory : CoreData → StepChoice → Type 0
TakesMemory core (choices.Warm vb) = ⊥
TakesMemory core (choices.Front caller now) = TurnTakes core caller now
TakesMemory core (choices.TakeBatch vb) = ⊥
TakesMemory core (choices.Commit vb) = BenchIs core vb (λ bench. IsSome bench.batch) × LacksEventRoom core.world
TakesMemory core (choices.Mark vb stripe) = (vb < core.config.vbuckets) × (stripe < core.config.stripes) × LacksEventRoom core.world
TakesMemory core (choices.Read vb stripe) = BenchIs core vb (λ bench. bench.desk.doubt ≡ None) × HasWaiting (part_in core.world vb (Stripe stripe))
TakesMemory core (choices.Merge vb stripe) = (stripe < core.config.stripes) × BenchIs core vb (λ bench. slice_get bench.reads stripe ≡ Some None → ⊥) × LacksEventRoom core.world
TakesMemory core (choices.Page vb stripe) = ⊥
TakesMemory core (choices.Expire vb stripe now) = ⊥

-- These steps were made one behind the other, with these answers, and the core was as it should be after each.
abbrev pub Ran : CoreData → CoreData → List StepChoice → List Answer → Type 0
Ran old new [] [] = new ≡ old
Ran old new [] (answer ∷ said) = ⊥
Ran old new (choice ∷ steps) [] = ⊥
Ran old new (choice ∷ steps) (answer ∷ said) =
    (next : CoreData) × Stepped old next choice answer × GoesOn old next × Interleaves next × Ran next new steps said

-- Memory was wanting before the first of these steps, or for the one behind the first so many.
abbrev pub IsWanting : CoreData → List StepChoice → ℕ → Type 0
IsWanting core steps made = (made ≡ 0) ⊎ ((choice : StepChoice) × (slice_get steps made ≡ Some choice) × TakesMemory core choice)

-- Some of these steps were made, from the first on, and then memory was wanting.
pub record RanSome (old new : CoreData) (steps : List StepChoice) : Type 0 where
  pub made : ℕ
  pub said : List Answer
  pub last : CoreData
  pub ran : Ran old last (take made steps) said
  pub wanting : IsWanting last steps made
  pub spares : Spares last new
