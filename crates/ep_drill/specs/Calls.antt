-- What a call notes of what it came to, and how a stage is between two calls.
use Rattle.std.specs.Prelude.{◌≡◌, ℕ, ◌≤◌, Bool, true, false, ◌==◌, ◌&&◌, if◌then◌else◌, List, Option, Some, None, IsSome}
use Rattle.ep_model.specs.declared.event.PartName.{PartName}
use Rattle.ep_model.specs.declared.event.Ticket.{Ticket}
use Rattle.ep_model.specs.declared.config.Config.{Config}
use Rattle.ep_model.specs.declared.data.CallData.{CallData}
use Rattle.ep_model.specs.declared.data.EventData.{EventData}
use Rattle.ep_model.specs.declared.data.EventData.TheVariants as events
use Rattle.hold_stage.specs.Touches.{there}
use Rattle.hold_stage.specs.Priors.{is_prior}
use Rattle.flat_parts.specs.declared.data.Step.{Step}
use Rattle.flat_parts.specs.declared.data.Step.TheVariants as steps

-- the event of what a call came to: none where it waits on, or can't
abbrev pub event_of : ℕ → CallData → ℕ → Option Ticket → List ℕ → Step → Option EventData
event_of caller call now prior value (steps.Done reply) = Some (events.Called caller call now reply value)
event_of caller call now prior value (steps.Refused cause) = Some (events.Refused caller call now cause)
event_of caller call now prior value (steps.Fetch ticket) = if is_prior prior ticket then None else Some (events.Asked ticket caller call)
event_of caller call now prior value steps.FetchFull = None

-- a vBucket's parts are all at home
abbrev pub AreHome : {P : Type 0} → Config → (PartName → Option P) → Type 0
AreHome config tells = (p : PartName) → there config p ≡ true → IsSome (tells p)
