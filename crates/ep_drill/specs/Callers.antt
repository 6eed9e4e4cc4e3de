-- A caller's calls, and which of them a history has answered.
use Rattle.std.specs.Prelude.{◌≡◌, ℕ, ◌+◌, ◌≤◌, ◌==◌, if◌then◌else◌, List, [], ◌∷◌, ◌++◌, length, map, take, slice_get, Option, Some, None}
use Rattle.ep_model.specs.declared.call.StoreKind.TheVariants.{Set as SetKind}
use Rattle.ep_model.specs.declared.data.CallData.{CallData}
use Rattle.ep_model.specs.declared.data.CallData.TheVariants as calls
use Rattle.ep_model.specs.declared.data.EventData.{EventData}
use Rattle.ep_model.specs.declared.data.EventData.TheVariants as events
use Rattle.ep_model.specs.declared.data.FrontData.{FrontData}
use Rattle.ep_model.specs.declared.call.Reply.{Reply}
use Rattle.ep_model.specs.declared.event.Cause.{Cause}
use Rattle.ep_model.specs.declared.event.Ticket.{Ticket}
use Rattle.ep_model.specs.Statuses.{status_of}
use Rattle.ep_model.specs.Answer.{bare_reply}
use Rattle.ep_drill.specs.declared.choice.Tried.{Tried}
use Rattle.ep_drill.specs.declared.choice.Tried.TheVariants as tries
use Rattle.ep_drill.specs.declared.data.CallerData.{CallerData}
use Rattle.flat_parts.specs.declared.data.Step.{Step}
use Rattle.flat_parts.specs.declared.data.Step.TheVariants as steps
use Rattle.ep_drill.specs.declared.owned.OwnedCall.{OwnedCall}
use Rattle.ep_drill.specs.declared.owned.OwnedCall.TheVariants as owned
use Rattle.ep_drill.specs.declared.owned.Loaded.{Loaded}
use Rattle.ep_drill.specs.declared.owned.Caller.{Caller}
use Rattle.hold_stage.specs.Priors.{PriorsStand}

-- a call without where its bytes lie
abbrev pub owned_data : OwnedCall → CallData
owned_data (owned.Get key) = calls.Get key.bytes.items
owned_data (owned.Set s) = calls.Store SetKind s.key.bytes.items s.value.items s.flags s.expiration s.cas

abbrev pub loaded_data : Loaded → ℕ × CallData
loaded_data loaded = (loaded.vb, owned_data loaded.call)

abbrev pub caller_data : Caller → CallerData
caller_data caller = record { calls = map loaded_data caller.calls.items; answered = caller.answered; prior = caller.prior }

-- the call that an event answers or refuses, where it is this caller's
abbrev pub answered_by : ℕ → EventData → List CallData
answered_by caller (events.Called other call now reply value) = if other == caller then call ∷ [] else []
answered_by caller (events.Refused other call now cause) = if other == caller then call ∷ [] else []
answered_by caller (events.Expired key now) = []
answered_by caller (events.Persisted number) = []
answered_by caller (events.Marked stripe number) = []
answered_by caller (events.Asked ticket other call) = []
answered_by caller (events.ReadFailed ticket fault) = []
answered_by caller events.Opened = []

-- a caller's answered calls of a history, in order
abbrev pub answered_in : ℕ → List EventData → List CallData
answered_in caller [] = []
answered_in caller (event ∷ list) = answered_by caller event ++ answered_in caller list

-- those of some calls that are on a vBucket
abbrev pub calls_on : ℕ → List (ℕ × CallData) → List CallData
calls_on vb [] = []
calls_on vb (call ∷ list) = if call.0 == vb then call.1 ∷ calls_on vb list else calls_on vb list

-- the first call that isn't answered
abbrev pub next_of : CallerData → Option (ℕ × CallData)
next_of caller = slice_get caller.calls caller.answered

-- where the next call waits, it asked there
abbrev pub NextStands : (ℕ → FrontData) → ℕ → Option Ticket → Option (ℕ × CallData) → Type 0
NextStands fronts number prior None = prior ≡ None
NextStands fronts number prior (Some next) = PriorsStand (fronts next.0) number next.1 prior

-- A caller's answered calls stand in the histories of their vBuckets, in order, each once, and nothing else of it.
pub record CallerStands (fronts : ℕ → FrontData) (number : ℕ) (caller : CallerData) : Type 0 where
  pub within : caller.answered ≤ length caller.calls
  pub done : (vb : ℕ) → answered_in number (fronts vb).events ≡ calls_on vb (take caller.answered caller.calls)
  pub next : NextStands fronts number caller.prior (next_of caller)

-- a caller after a call came to this
abbrev pub after_step : Step → CallerData → CallerData
after_step (steps.Done reply) caller = record caller { answered = caller.answered + 1; prior = None }
after_step (steps.Refused cause) caller = record caller { answered = caller.answered + 1; prior = None }
after_step (steps.Fetch ticket) caller = record caller { prior = Some ticket }
after_step steps.FetchFull caller = caller

-- what a caller is told of a refusal
abbrev pub refusal : Cause → Reply
refusal cause = bare_reply (status_of cause)

-- what a caller is told of what its call came to
abbrev pub tried_of : Step → Tried
tried_of (steps.Done reply) = tries.Done reply
tried_of (steps.Refused cause) = tries.Done (refusal cause)
tried_of (steps.Fetch ticket) = tries.Fetch ticket
tried_of steps.FetchFull = tries.FetchFull
