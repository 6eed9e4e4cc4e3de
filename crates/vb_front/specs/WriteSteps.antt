-- When a call that may put a document comes to what, apart from the definition that computes it.
use Rattle.std.specs.Prelude.{◌≡◌, ◌⊎◌, ℕ, ◌+◌, ◌<◌, true, false, ◌&&◌, if◌then◌else◌, List, length, Option, Some, None, IsSome}
use Rattle.ep_model.specs.declared.call.VbState.TheVariants.{Active}
use Rattle.ep_model.specs.declared.event.Cause.TheVariants as causes
use Rattle.ep_model.specs.declared.event.Ticket.{Ticket}
use Rattle.ep_model.specs.declared.data.CallData.{CallData}
use Rattle.ep_model.specs.World.{Doc, live_of}
use Rattle.ep_model.specs.Needs.{needs, own_refusal}
use Rattle.ep_model.specs.Answer.{Puts}
use Rattle.hash_stripe.specs.Nodes.{node_at, others_pinned}
use Rattle.hash_stripe.specs.Stripes.{found}
use Rattle.fetch_book.specs.declared.place.Outcome.{Outcome}
use Rattle.fetch_book.specs.declared.place.Outcome.TheVariants as outcomes
use Rattle.fetch_book.specs.Books.{BookData, is_full, next_ticket, asked}
use Rattle.ckpt_manager.specs.declared.data.QueueData.{QueueData}
use Rattle.vb_front.specs.declared.part.StripePart.{StripePart}
use Rattle.vb_front.specs.declared.step.Step.{Step}
use Rattle.vb_front.specs.declared.step.Step.TheVariants as steps
use Rattle.vb_front.specs.Waits.{prior_outcome, release}
use Rattle.vb_front.specs.Reads.{HasPlaceWith, IsUnserved}
use Rattle.vb_front.specs.Writes.{shown_world, seen_meta, shown_doc, text_at, is_away, row_of, lacks_room, Write, forget, DocumentChange, Stays, Clears, Places}

-- a call in an active vBucket that has opened needs what memory lacks
pub record LacksDoc (part : StripePart) (call : CallData) (key : List ℕ) : Type 0 where
  pub opened : part.table.opened ≡ true
  pub active : part.table.state ≡ Active
  pub needed : needs part.table.eviction call ≡ true
  pub away : is_away part.table.eviction (found (node_at part.table.slots key)) ≡ true

-- the old document has no room in memory, whatever else is ejected
pub record IsCrowded (part : StripePart) (key : List ℕ) (blocks : ℕ) : Type 0 where
  pub full : length part.table.slots < others_pinned part.table.eviction part.table.mark key part.table.slots + blocks

-- What it lacks it needs no more: the store has no document, or what it is to store is too large by itself.
abbrev pub NeedsNoMore : StripePart → QueueData → CallData → List ℕ → Option Outcome → Type 0
NeedsNoMore part q call key None = ⊥
NeedsNoMore part q call key (Some outcomes.Waiting) = ⊥
NeedsNoMore part q call key (Some outcomes.Merged) = ⊥
NeedsNoMore part q call key (Some outcomes.Absent) = Unit {0}
NeedsNoMore part q call key (Some (outcomes.Failed fault)) = ⊥
NeedsNoMore part q call key (Some outcomes.NoMemory) = ⊥
NeedsNoMore part q call key (Some (outcomes.NoRoom blocks)) = IsCrowded part key blocks × IsSome (own_refusal (shown_world part.table q).fit call)

-- the document over which it is answered
abbrev pub doc_for : StripePart → CallData → List ℕ → Option Doc
doc_for part call key =
    if needs part.table.eviction call && is_away part.table.eviction (found (node_at part.table.slots key)) then None else
    shown_doc (text_at part.table key) (seen_meta (found (node_at part.table.slots key)))

-- It puts a document that has no room.
pub record PutsWithoutRoom (part : StripePart) (q : QueueData) (call : CallData) (key : List ℕ) (now : ℕ) (prior : Option Ticket) : Type 0 where
  pub opened : part.table.opened ≡ true
  pub active : part.table.state ≡ Active
  pub served : LacksDoc part call key → NeedsNoMore part q call key (prior_outcome part.book prior)
  pub doc : Doc
  pub puts : (row_of (shown_world part.table q) call now (live_of (doc_for part call key) now)).effect ≡ Puts key doc
  pub full : lacks_room part.table q key (length doc.value) ≡ true

-- It is answered once it lacks nothing, or what it lacks it needs no more; what it puts then has room.
pub record IsAnswered (part : StripePart) (q : QueueData) (call : CallData) (key : List ℕ) (now : ℕ) (prior : Option Ticket) : Type 0 where
  pub opened : part.table.opened ≡ true
  pub served : LacksDoc part call key → NeedsNoMore part q call key (prior_outcome part.book prior)
  pub room : PutsWithoutRoom part q call key now prior → ⊥

-- The document that it lacks has no room, and it isn't refused for its own.
pub record IsWithoutRoomFor (part : StripePart) (q : QueueData) (call : CallData) (key : List ℕ) (prior : Option Ticket) : Type 0 where
  pub lacks : LacksDoc part call key
  pub blocks : ℕ
  pub outcome : prior_outcome part.book prior ≡ Some (outcomes.NoRoom blocks)
  pub crowded : IsCrowded part key blocks
  pub own : own_refusal (shown_world part.table q).fit call ≡ None

-- the read that it waited for failed, or wanted memory
pub record HasFailed (part : StripePart) (call : CallData) (key : List ℕ) (prior : Option Ticket) (ticket : Ticket) : Type 0 where
  pub lacks : LacksDoc part call key
  pub fault : ℕ
  pub place : HasPlaceWith part.book prior ticket (outcomes.Failed fault)

pub record HasNoMemory (part : StripePart) (call : CallData) (key : List ℕ) (prior : Option Ticket) (ticket : Ticket) : Type 0 where
  pub lacks : LacksDoc part call key
  pub place : HasPlaceWith part.book prior ticket outcomes.NoMemory

-- a place that waits is answered again
pub record Waits (part : StripePart) (call : CallData) (key : List ℕ) (prior : Option Ticket) (ticket : Ticket) (new : BookData) : Type 0 where
  pub lacks : LacksDoc part call key
  pub place : HasPlaceWith part.book prior ticket outcomes.Waiting
  pub book : new ≡ part.book

-- It asks at the next ticket, where a place is free once its own is.
pub record Asks (part : StripePart) (call : CallData) (key : List ℕ) (prior : Option Ticket) (ticket : Ticket) (new : BookData) : Type 0 where
  pub lacks : LacksDoc part call key
  pub unserved : IsUnserved part.table key (prior_outcome part.book prior)
  pub free : is_full (release part.book prior) ≡ false
  pub next : ticket ≡ next_ticket (release part.book prior)
  pub book : new ≡ asked (release part.book prior) key

-- It can't ask, for none is free even then.
pub record FindsNoPlace (part : StripePart) (call : CallData) (key : List ℕ) (prior : Option Ticket) : Type 0 where
  pub lacks : LacksDoc part call key
  pub unserved : IsUnserved part.table key (prior_outcome part.book prior)
  pub full : is_full (release part.book prior) ≡ true

-- When it comes to what.
abbrev pub WriteComesTo : StripePart → QueueData → CallData → List ℕ → ℕ → Option Ticket → Step → BookData → Type 0
WriteComesTo part q call key now prior (steps.Done reply) new = IsAnswered part q call key now prior
WriteComesTo part q call key now prior (steps.Refused causes.Warming) new = part.table.opened ≡ false
WriteComesTo part q call key now prior (steps.Refused causes.Quota) new = IsWithoutRoomFor part q call key prior ⊎ PutsWithoutRoom part q call key now prior
WriteComesTo part q call key now prior (steps.Refused (causes.Store ticket)) new = HasFailed part call key prior ticket
WriteComesTo part q call key now prior (steps.Refused (causes.Memory ticket)) new = HasNoMemory part call key prior ticket
WriteComesTo part q call key now prior (steps.Fetch ticket) new = Waits part call key prior ticket new ⊎ Asks part call key prior ticket new
WriteComesTo part q call key now prior steps.FetchFull new = FindsNoPlace part call key prior

-- All but one that waits frees its old place, and one that puts a document all places of its key.
abbrev pub WriteFrees : StripePart → Option Ticket → Step → DocumentChange → BookData → Type 0
WriteFrees part prior (steps.Done reply) Stays new = new ≡ release part.book prior
WriteFrees part prior (steps.Done reply) (Clears key len) new = ⊥
WriteFrees part prior (steps.Done reply) (Places key doc) new = new ≡ forget (release part.book prior) key
WriteFrees part prior (steps.Refused cause) change new = new ≡ release part.book prior
WriteFrees part prior (steps.Fetch ticket) change new = Unit {0}
WriteFrees part prior steps.FetchFull change new = new ≡ release part.book prior

-- The condition of the step to which a call comes holds. No two of the conditions meet (`Ways`), so it comes to each step
-- exactly where the step's own condition holds.
pub record WriteIsExact (part : StripePart) (q : QueueData) (call : CallData) (key : List ℕ) (now : ℕ) (prior : Option Ticket) (w : Write) : Type 0 where
  pub comes : WriteComesTo part q call key now prior w.step w.book
  pub freed : WriteFrees part prior w.step w.change w.book
