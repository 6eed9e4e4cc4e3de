-- What a Get on its stripe comes to, and what it leaves of the stripe.
use Rattle.std.specs.Prelude.{◌≡◌, ◌⊎◌, ℕ, ◌+◌, ◌<◌, ◌≤◌, true, false, if◌then◌else◌, List, [], length, Option, Some, None}
use Rattle.ep_model.specs.declared.call.Reply.{Reply}
use Rattle.ep_model.specs.declared.call.VbState.TheVariants.{Active}
use Rattle.ep_model.specs.declared.config.Eviction.{Eviction}
use Rattle.ep_model.specs.declared.config.Eviction.TheVariants.{Value, Full}
use Rattle.ep_model.specs.declared.event.Cause.{Cause}
use Rattle.ep_model.specs.declared.event.Cause.TheVariants as causes
use Rattle.ep_model.specs.declared.event.Ticket.{Ticket}
use Rattle.ep_model.specs.declared.data.CallData.TheVariants.{Get}
use Rattle.ep_model.specs.declared.data.FrontData.{FrontData}
use Rattle.ep_model.specs.World.{live_of}
use Rattle.ep_model.specs.Refusals.{state_refusal}
use Rattle.ep_model.specs.Answer.{Answer, refused, answer_get}
use Rattle.ep_model.specs.Quota.{is_short}
use Rattle.ep_model.specs.Front.{world_of}
use Rattle.ep_model.specs.Legal.{IsServing, IsLegal}
use Rattle.hash_stripe.specs.Nodes.{Slot, node_at, heated, others_pinned}
use Rattle.hash_stripe.specs.Stripes.{StripeData, at_key}
use Rattle.fetch_book.specs.declared.place.Outcome.{Outcome}
use Rattle.fetch_book.specs.declared.place.Outcome.TheVariants as outcomes
use Rattle.fetch_book.specs.Places.{place_at}
use Rattle.fetch_book.specs.Books.{BookData, is_full, next_ticket, asked, outcome_of}
use Rattle.vb_front.specs.declared.part.StripePart.{StripePart}
use Rattle.vb_front.specs.declared.step.Step.{Step}
use Rattle.vb_front.specs.declared.step.Step.TheVariants as steps
use Rattle.vb_front.specs.declared.wait.Meaning.{Meaning}
use Rattle.vb_front.specs.declared.wait.Meaning.TheVariants as waits
use Rattle.vb_front.specs.Stands.{StripeStands}
use Rattle.vb_front.specs.Priors.{event_of, IsNext}
use Rattle.hold_stage.specs.Priors.{PriorsStand}
use Rattle.vb_front.specs.Waits.{Memory, Known, Away, memory_of, prior_outcome, waited, release, ask_step, ask_book}

-- what it comes to, the value of its answer, and the stripe
pub record Read : Type 0 where
  pub step : Step
  pub value : List ℕ
  pub part : StripePart

-- answered or refused, and its place is free
abbrev pub read_done : StripePart → Option Ticket → Answer → Read
read_done part prior a = record { step = steps.Done a.reply; value = a.value; part = record part { book = release part.book prior } }

abbrev pub read_refused : StripePart → Option Ticket → Cause → Read
read_refused part prior cause = record { step = steps.Refused cause; value = []; part = record part { book = release part.book prior } }

-- its old place is free before it asks for a new one
abbrev pub read_asks : StripePart → BookData → List ℕ → Read
read_asks part book key = record { step = ask_step book; value = []; part = record part { book = ask_book book key } }

-- it needs what isn't in memory
abbrev pub read_waits : StripePart → Option Ticket → List ℕ → Meaning → Read
read_waits part prior key (waits.Waits ticket) = record { step = steps.Fetch ticket; value = []; part = part }
read_waits part prior key waits.Asks = read_asks part (release part.book prior) key
read_waits part prior key waits.Absent = read_done part prior (answer_get None)
read_waits part prior key (waits.Refused cause) = read_refused part prior cause

-- the document's node is noted as used
abbrev pub with_heated : StripePart → List ℕ → StripePart
with_heated part key = record part { table = record part.table { slots = at_key heated part.table.slots key } }

abbrev pub read_memory : StripePart → Option Ticket → List ℕ → ℕ → Memory → Read
read_memory part prior key now (Known doc) = read_done (with_heated part key) prior (answer_get (live_of doc now))
read_memory part prior key now Away = read_waits part prior key (waited part.table part.book key prior)

-- a vBucket that isn't active refuses calls on keys
abbrev pub read_active : StripePart → Option Ticket → List ℕ → ℕ → Option ℕ → Read
read_active part prior key now None = read_memory part prior key now (memory_of part.table key)
read_active part prior key now (Some status) = read_done part prior (refused status)

abbrev pub read_step : StripePart → Option Ticket → List ℕ → ℕ → Read
read_step part prior key now =
    if part.table.opened then read_active part prior key now (state_refusal part.table.state true) else
    read_refused part prior causes.Warming

-- it is still the same stripe of as many
pub record KeepsStripe (old new : StripePart) : Type 0 where
  pub index : new.table.index ≡ old.table.index
  pub stripes : new.table.stripes ≡ old.table.stripes

-- Whatever history the stripe stood for, what the Get came to is legal behind it, and what it left stands behind that.
abbrev pub ReadIsLegal : StripePart → List ℕ → ℕ → Option Ticket → Read → Type 0
ReadIsLegal old key now prior r =
    (f : FrontData) (stripe caller : ℕ) → IsLegal f → StripeStands f stripe old → PriorsStand f caller (Get key) prior
    → IsNext f (event_of caller (Get key) now prior r.step r.value) (λ g. StripeStands g stripe r.part)

-- the value isn't in memory, or under full eviction nothing is
abbrev pub IsAwayFrom : Slot → Eviction → Type 0
IsAwayFrom None Value = ⊥
IsAwayFrom None Full = Unit {0}
IsAwayFrom (Some node) eviction = node.value ≡ None

-- a Get in an active vBucket that has opened needs what isn't in memory
pub record NeedsAway (part : StripePart) (key : List ℕ) : Type 0 where
  pub opened : part.table.opened ≡ true
  pub active : part.table.state ≡ Active
  pub away : IsAwayFrom (node_at part.table.slots key) part.table.eviction

-- the call has a place at this ticket, with this outcome
pub record HasPlaceWith (book : BookData) (prior : Option Ticket) (ticket : Ticket) (outcome : Outcome) : Type 0 where
  pub prior_is : prior ≡ Some ticket
  pub outcome_is : outcome_of (place_at book.places ticket) ≡ Some outcome

-- It has none, or one that doesn't serve it: the document was put back, or has room now.
abbrev pub IsUnserved : StripeData → List ℕ → Option Outcome → Type 0
IsUnserved s key None = Unit {0}
IsUnserved s key (Some outcomes.Waiting) = ⊥
IsUnserved s key (Some outcomes.Merged) = Unit {0}
IsUnserved s key (Some outcomes.Absent) = ⊥
IsUnserved s key (Some (outcomes.Failed fault)) = ⊥
IsUnserved s key (Some outcomes.NoMemory) = ⊥
IsUnserved s key (Some (outcomes.NoRoom blocks)) = others_pinned s.eviction s.mark key s.slots + blocks ≤ length s.slots

-- it is answered at once, or the store has no live document
pub record IsDone (old : StripePart) (key : List ℕ) (prior : Option Ticket) : Type 0 where
  pub opened : old.table.opened ≡ true
  pub absent : NeedsAway old key → prior_outcome old.book prior ≡ Some outcomes.Absent

pub record IsFailed (old : StripePart) (key : List ℕ) (prior : Option Ticket) (ticket : Ticket) : Type 0 where
  pub needs : NeedsAway old key
  pub fault : ℕ
  pub place : HasPlaceWith old.book prior ticket (outcomes.Failed fault)

pub record IsWithoutMemory (old : StripePart) (key : List ℕ) (prior : Option Ticket) (ticket : Ticket) : Type 0 where
  pub needs : NeedsAway old key
  pub place : HasPlaceWith old.book prior ticket outcomes.NoMemory

pub record IsWithoutRoom (old : StripePart) (key : List ℕ) (prior : Option Ticket) : Type 0 where
  pub needs : NeedsAway old key
  pub blocks : ℕ
  pub outcome : prior_outcome old.book prior ≡ Some (outcomes.NoRoom blocks)
  pub full : length old.table.slots < others_pinned old.table.eviction old.table.mark key old.table.slots + blocks

-- a place that waits is answered again
pub record WaitsOn (old : StripePart) (key : List ℕ) (prior : Option Ticket) (ticket : Ticket) (new : BookData) : Type 0 where
  pub needs : NeedsAway old key
  pub place : HasPlaceWith old.book prior ticket outcomes.Waiting
  pub book : new ≡ old.book

-- The call asks at the next ticket, where a place is free once its own is.
pub record AsksAnew (old : StripePart) (key : List ℕ) (prior : Option Ticket) (ticket : Ticket) (new : BookData) : Type 0 where
  pub needs : NeedsAway old key
  pub unserved : IsUnserved old.table key (prior_outcome old.book prior)
  pub free : is_full (release old.book prior) ≡ false
  pub next : ticket ≡ next_ticket (release old.book prior)
  pub book : new ≡ asked (release old.book prior) key

-- It can't ask, for none is free even then.
pub record CannotAsk (old : StripePart) (key : List ℕ) (prior : Option Ticket) : Type 0 where
  pub needs : NeedsAway old key
  pub unserved : IsUnserved old.table key (prior_outcome old.book prior)
  pub full : is_full (release old.book prior) ≡ true

-- When a Get comes to what.
abbrev pub ReadComesTo : StripePart → List ℕ → Option Ticket → Step → BookData → Type 0
ReadComesTo old key prior (steps.Done reply) new = IsDone old key prior
ReadComesTo old key prior (steps.Refused causes.Warming) new = old.table.opened ≡ false
ReadComesTo old key prior (steps.Refused causes.Quota) new = IsWithoutRoom old key prior
ReadComesTo old key prior (steps.Refused (causes.Store ticket)) new = IsFailed old key prior ticket
ReadComesTo old key prior (steps.Refused (causes.Memory ticket)) new = IsWithoutMemory old key prior ticket
ReadComesTo old key prior (steps.Fetch ticket) new = WaitsOn old key prior ticket new ⊎ AsksAnew old key prior ticket new
ReadComesTo old key prior steps.FetchFull new = CannotAsk old key prior

-- All but one that waits frees its old place.
abbrev pub IsFreed : StripePart → Option Ticket → Step → BookData → Type 0
IsFreed old prior (steps.Done reply) new = new ≡ release old.book prior
IsFreed old prior (steps.Refused cause) new = new ≡ release old.book prior
IsFreed old prior (steps.Fetch ticket) new = Unit {0}
IsFreed old prior steps.FetchFull new = new ≡ release old.book prior

-- The condition of the step to which a Get comes holds. No two of the conditions meet (`Ways`), so it comes to each step exactly
-- where the step's own condition holds.
pub record ReadIsExact (old : StripePart) (key : List ℕ) (prior : Option Ticket) (r : Read) : Type 0 where
  pub comes : ReadComesTo old key prior r.step r.part.book
  pub freed : IsFreed old prior r.step r.part.book

-- Where documents are known and the vBucket serves, a Get that is answered had room. So where there is none it isn't answered, and it is refused for
-- want of room only there, as `ReadIsLegal` says.
abbrev pub AnsweredGetHasRoom : StripePart → List ℕ → ℕ → Option Ticket → Read → Type 0
AnsweredGetHasRoom old key now prior r =
    (f : FrontData) (stripe caller : ℕ) (reply : Reply) → IsLegal f → StripeStands f stripe old → PriorsStand f caller (Get key) prior
    → (world_of f).told ≡ true → IsServing (world_of f) → r.step ≡ steps.Done reply → is_short f key (Get key) now ≡ false
