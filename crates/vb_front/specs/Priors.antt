-- A ticket at which a call has asked before, and the event that a call on held parts notes.
use Rattle.std.specs.Prelude.{ℕ, if◌then◌else◌, List, [], Option, Some, None}
use Rattle.std.specs.Option.{unwrap_or}
use Rattle.ep_model.specs.declared.event.Ticket.{Ticket}
use Rattle.ep_model.specs.declared.data.CallData.{CallData}
use Rattle.ep_model.specs.declared.data.EventData.{EventData}
use Rattle.ep_model.specs.declared.data.EventData.TheVariants as events
use Rattle.ep_model.specs.declared.data.FrontData.{FrontData}
use Rattle.ep_model.specs.Calls.{key_of}
use Rattle.ep_model.specs.Front.{with_event}
use Rattle.ep_model.specs.Legal.{May}
use Rattle.hold_stage.specs.Priors.{is_prior}
use Rattle.vb_front.specs.declared.step.Step.{Step}
use Rattle.vb_front.specs.declared.step.Step.TheVariants as steps

-- the key of a call, and of one without a key nothing
abbrev pub key_in : CallData → List ℕ
key_in call = unwrap_or (key_of call) []

-- What a call notes: that it was answered or refused, or that it asked. One that waits on at its ticket, or can't wait, notes
-- nothing.
abbrev pub event_of : ℕ → CallData → ℕ → Option Ticket → Step → List ℕ → Option EventData
event_of caller call now prior (steps.Done reply) value = Some (events.Called caller call now reply value)
event_of caller call now prior (steps.Refused cause) value = Some (events.Refused caller call now cause)
event_of caller call now prior (steps.Fetch ticket) value = if is_prior prior ticket then None else Some (events.Asked ticket caller call)
event_of caller call now prior steps.FetchFull value = None

-- The event may happen behind the front, and behind it this stands; where there is none it stands as it is.
abbrev pub IsNext : FrontData → Option EventData → (FrontData → Type 0) → Type 0
IsNext f None stands = stands f
IsNext f (Some event) stands = May f event × stands (with_event f event)
