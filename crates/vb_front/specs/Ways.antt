-- That no two of the conditions meet under which a call on held parts comes to a step, and where want of room is one.
use Rattle.std.specs.Prelude.{◌≡◌, ℕ, Bool, true, false, List, Option, Some, None}
use Rattle.ep_model.specs.declared.call.Reply.{Reply}
use Rattle.ep_model.specs.declared.event.Cause.TheVariants as causes
use Rattle.ep_model.specs.declared.event.PartName.{PartName}
use Rattle.ep_model.specs.declared.event.Ticket.{Ticket}
use Rattle.ep_model.specs.declared.data.CallData.{CallData}
use Rattle.ep_model.specs.declared.data.FrontData.{FrontData}
use Rattle.ep_model.specs.Calls.{key_of, written_key}
use Rattle.ep_model.specs.Front.{world_of}
use Rattle.ep_model.specs.Quota.{is_short}
use Rattle.ep_model.specs.Legal.{IsServing, IsLegal}
use Rattle.fetch_book.specs.Books.{BookData}
use Rattle.ckpt_manager.specs.declared.data.QueueData.{QueueData}
use Rattle.vb_front.specs.declared.part.StripePart.{StripePart}
use Rattle.vb_front.specs.declared.step.Step.{Step}
use Rattle.vb_front.specs.declared.step.Step.TheVariants as steps
use Rattle.vb_front.specs.Stands.{StripeStands, QueueStands}
use Rattle.vb_front.specs.Priors.{key_in}
use Rattle.hold_stage.specs.Priors.{PriorsStand}
use Rattle.vb_front.specs.Reads.{read_step, ReadComesTo, WaitsOn, AsksAnew}
use Rattle.vb_front.specs.Writes.{Write, write_step, WriteIsLegal, AnsweredHasRoom}
use Rattle.vb_front.specs.Tries.{Writes}
use Rattle.vb_front.specs.WriteSteps.{LacksDoc, WriteComesTo, WriteIsExact, PutsWithoutRoom, IsWithoutRoomFor, Waits, Asks}

-- which step it is, with its cause and its ticket, and none where it is answered, whatever the reply
abbrev pub way_of : Step → Option Step
way_of (steps.Done reply) = None
way_of (steps.Refused cause) = Some (steps.Refused cause)
way_of (steps.Fetch ticket) = Some (steps.Fetch ticket)
way_of steps.FetchFull = Some steps.FetchFull

-- Two steps of which each has its condition for a Get are the same, but for the reply of an answer.
abbrev pub ReadStepsAreApart : Type 0
ReadStepsAreApart = (old : StripePart) (key : List ℕ) (prior : Option Ticket) (one other : Step) (book left : BookData)
    → ReadComesTo old key prior one book → ReadComesTo old key prior other left → way_of one ≡ way_of other

-- So a Get comes to the step whose condition holds.
abbrev pub ReadFollowsItsCondition : Type 0
ReadFollowsItsCondition = (old : StripePart) (key : List ℕ) (prior : Option Ticket) (now : ℕ) (step : Step) (book : BookData)
    → ReadComesTo old key prior step book → way_of (read_step old prior key now).step ≡ way_of step

-- Nor does one ask anew where it waits on.
abbrev pub WaitingReadsAskNothing : Type 0
WaitingReadsAskNothing = (old : StripePart) (key : List ℕ) (prior : Option Ticket) (one other : Ticket) (book left : BookData)
    → WaitsOn old key prior one book → AsksAnew old key prior other left → ⊥

-- The same of a call that may put a document.
abbrev pub WriteStepsAreApart : Type 0
WriteStepsAreApart = (part : StripePart) (q : QueueData) (call : CallData) (key : List ℕ) (now : ℕ) (prior : Option Ticket)
    → (one other : Step) (book left : BookData) → WriteComesTo part q call key now prior one book
    → WriteComesTo part q call key now prior other left → way_of one ≡ way_of other

abbrev pub WriteFollowsItsCondition : Type 0
WriteFollowsItsCondition = (part : StripePart) (q : QueueData) (call : CallData) (key : List ℕ) (now : ℕ) (prior : Option Ticket)
    → (step : Step) (book : BookData) → written_key call ≡ Some key → WriteComesTo part q call key now prior step book
    → way_of (write_step part q prior call key now).step ≡ way_of step

abbrev pub WaitingWritesAskNothing : Type 0
WaitingWritesAskNothing = (part : StripePart) (call : CallData) (key : List ℕ) (prior : Option Ticket) (one other : Ticket) (book left : BookData)
    → Waits part call key prior one book → Asks part call key prior other left → ⊥

-- A call lacks room for one reason: for the document that it needs, or for the one that it puts.
abbrev pub RoomLacksForOne : Type 0
RoomLacksForOne = (part : StripePart) (q : QueueData) (call : CallData) (key : List ℕ) (now : ℕ) (prior : Option Ticket)
    → IsWithoutRoomFor part q call key prior → PutsWithoutRoom part q call key now prior → ⊥

-- Of a call that lacks nothing, want of room comes exactly where the history has none, where documents are known and the
-- vBucket serves. That is so of whatever has the clauses of `write`. A call that lacks what it needs comes to Quota only there, and isn't answered there.
abbrev pub QuotaIsWantOfRoom : Type 0
QuotaIsWantOfRoom = (part new : StripePart) (q after : QueueData) (call : CallData) (key : List ℕ) (now : ℕ) (prior : Option Ticket)
    → (w : Write) → WriteIsExact part q call key now prior w → AnsweredHasRoom part q call key now prior w
    → WriteIsLegal part q call key now prior w new after → (f : FrontData) (stripe caller : ℕ) → IsLegal f
    → StripeStands f stripe part → QueueStands f q → PriorsStand f caller call prior → (world_of f).told ≡ true
    → IsServing (world_of f) → key_of call ≡ Some key → (LacksDoc part call key → ⊥)
    → (w.step ≡ steps.Refused causes.Quota → is_short f key call now ≡ true)
    × (is_short f key call now ≡ true → w.step ≡ steps.Refused causes.Quota)

-- What want of room is to a call at a stage that may put a document, over the history as it was right before its event, where
-- documents are known.
-- `refused`: the call comes to Quota only where there is no room;
-- `answered`: where the vBucket serves, one that is answered had room;
-- `lacking`: and one that lacks nothing else comes to Quota where there is none.
pub record RoomDecides (f : FrontData) (part : StripePart) (call : CallData) (key : List ℕ) (now : ℕ) (step : Step) : Type 0 where
  pub refused : step ≡ steps.Refused causes.Quota → is_short f key call now ≡ true
  pub answered : IsServing (world_of f) → (reply : Reply) → step ≡ steps.Done reply → is_short f key call now ≡ false
  pub lacking : IsServing (world_of f) → (LacksDoc part call key → ⊥) → is_short f key call now ≡ true → step ≡ steps.Refused causes.Quota

abbrev pub TriedQuotaIsWantOfRoom : Type 0
TriedQuotaIsWantOfRoom = (f g : FrontData) (held : PartName → Bool) (caller : ℕ) (desk : Bool) (stripe : ℕ) (prior : Option Ticket) (call : CallData)
    → (now : ℕ) (value : List ℕ) (step : Step) → (w : Writes f g held caller desk stripe prior call now value step)
    → PriorsStand f caller call prior → (world_of w.behind.between).told ≡ true → key_of call ≡ Some (key_in call)
    → RoomDecides w.behind.between w.part call (key_in call) now step
