-- A ticket at which a call has asked before.
use Rattle.std.specs.Prelude.{◌≡◌, ℕ, Bool, false, ◌==◌, ◌&&◌, List, ◌∷◌, ◌++◌, Option, Some, None}
use Rattle.std.specs.List.{AllByRecursion}
use Rattle.ep_model.specs.declared.event.Ticket.{Ticket}
use Rattle.ep_model.specs.declared.data.CallData.{CallData}
use Rattle.ep_model.specs.declared.data.EventData.{EventData}
use Rattle.ep_model.specs.declared.data.EventData.TheVariants as events
use Rattle.ep_model.specs.declared.data.FrontData.{FrontData}
use Rattle.ep_model.specs.Legal.{IsSilent}

-- The caller's call asked at this ticket, and no call of the caller was answered since.
pub record PriorStands (f : FrontData) (caller : ℕ) (call : CallData) (ticket : Ticket) : Type 0 where
  pub before : List EventData
  pub later : List EventData
  pub asked : f.events ≡ before ++ events.Asked ticket caller call ∷ later
  pub silent : AllByRecursion (IsSilent caller) later

abbrev pub PriorsStand : FrontData → ℕ → CallData → Option Ticket → Type 0
PriorsStand f caller call None = Unit {0}
PriorsStand f caller call (Some ticket) = PriorStands f caller call ticket

-- the ticket is the one that the call had
abbrev pub is_prior : Option Ticket → Ticket → Bool
is_prior None ticket = false
is_prior (Some prior) ticket = prior.number == ticket.number && prior.stripe == ticket.stripe
