-- Which events may stand where: the causes of a refusal, and what is legal.
use Rattle.std.specs.Prelude.{◌≡◌, ◌≢◌, ℕ, ◌<◌, ◌≤◌, true, false, List, [], ◌∷◌, ◌++◌, Option, Some, None, IsSome}
use Rattle.std.specs.List.{AllByRecursion}
use Rattle.std.specs.FinMap as map
use Rattle.ep_model.specs.declared.call.VbState.TheVariants.{Active}
use Rattle.ep_model.specs.declared.call.Reply.{Reply}
use Rattle.ep_model.specs.declared.config.Eviction.{Eviction}
use Rattle.ep_model.specs.declared.config.Eviction.TheVariants.{Value, Full}
use Rattle.ep_model.specs.declared.event.Cause.{Cause}
use Rattle.ep_model.specs.declared.event.Cause.TheVariants as causes
use Rattle.ep_model.specs.declared.event.Ticket.{Ticket}
use Rattle.ep_model.specs.declared.data.CallData.{CallData}
use Rattle.ep_model.specs.declared.data.EventData.{EventData}
use Rattle.ep_model.specs.declared.data.EventData.TheVariants.{Called, Refused, Expired, Persisted, Marked, Asked, ReadFailed, Opened}
use Rattle.ep_model.specs.declared.data.FrontData.{FrontData}
use Rattle.ep_model.specs.Stripes.{stripe_of}
use Rattle.ep_model.specs.World.{Doc, World, secs, last_seqno}
use Rattle.ep_model.specs.Answer.{answer}
use Rattle.ep_model.specs.Calls.{key_of, has_key}
use Rattle.ep_model.specs.Needs.{needs}
use Rattle.ep_model.specs.Quota.{is_short}
use Rattle.ep_model.specs.Front.{world_of, with_event, marked}

-- calls on keys are served
pub record IsServing (w : World) : Type 0 where
  pub opened : w.opened ≡ true
  pub active : w.state ≡ Active

-- the event answers no call of this caller
abbrev pub IsSilent : ℕ → EventData → Type 0
IsSilent caller (Called other call now reply value) = other ≢ caller
IsSilent caller (Refused other call now cause) = other ≢ caller
IsSilent caller event = Unit {0}

-- the event refuses no call for what became of this ticket
abbrev pub IsUnused : Ticket → EventData → Type 0
IsUnused ticket (Refused caller call now cause) = (cause ≢ causes.Store ticket) × (cause ≢ causes.Memory ticket)
IsUnused ticket event = Unit {0}

-- a ticket that the event asked in this stripe is below this one
abbrev pub IsBelow : Ticket → EventData → Type 0
IsBelow ticket (Asked other caller call) = other.stripe ≡ ticket.stripe → other.number < ticket.number
IsBelow ticket event = Unit {0}

-- the event is no failed read of this number
abbrev pub IsNoFault : ℕ → EventData → Type 0
IsNoFault fault (ReadFailed ticket other) = other ≢ fault
IsNoFault fault event = Unit {0}

-- The caller asked at this ticket with this call, and no call of it was answered since; nor was any refused for
-- what became of the ticket.
pub record WaitsAt (events : List EventData) (ticket : Ticket) (caller : ℕ) (call : CallData) : Type 0 where
  pub before : List EventData
  pub later : List EventData
  pub asked : events ≡ before ++ Asked ticket caller call ∷ later
  pub silent : AllByRecursion (IsSilent caller) later
  pub unused : AllByRecursion (IsUnused ticket) events

-- A read for the ticket failed. That is legal only behind the event that asked at it, and no two ask at one ticket.
pub record HasFailedRead (events : List EventData) (ticket : Ticket) (fault : ℕ) : Type 0 where
  pub before : List EventData
  pub later : List EventData
  pub failed : events ≡ before ++ ReadFailed ticket fault ∷ later

-- somebody asked at the ticket
pub record HasAsked (events : List EventData) (ticket : Ticket) : Type 0 where
  pub before : List EventData
  pub later : List EventData
  pub caller : ℕ
  pub call : CallData
  pub asked : events ≡ before ++ Asked ticket caller call ∷ later

-- The store failed at the read that this very call waited for.
pub record IsStoreCause (f : FrontData) (ticket : Ticket) (caller : ℕ) (call : CallData) : Type 0 where
  pub serving : IsServing (world_of f)
  pub keyed : has_key call ≡ true
  pub waits : WaitsAt f.events ticket caller call
  pub fault : ℕ
  pub failed : HasFailedRead f.events ticket fault

-- Memory was wanting at the read that this very call waited for.
pub record IsMemoryCause (f : FrontData) (ticket : Ticket) (caller : ℕ) (call : CallData) : Type 0 where
  pub serving : IsServing (world_of f)
  pub keyed : has_key call ≡ true
  pub waits : WaitsAt f.events ticket caller call

-- What isn't stored yet leaves no room for what the call needs, as far as the documents are known.
pub record IsQuotaCause (f : FrontData) (call : CallData) (now : ℕ) : Type 0 where
  pub serving : IsServing (world_of f)
  pub key : List ℕ
  pub keyed : key_of call ≡ Some key
  pub short : (world_of f).told ≡ true → is_short f key call now ≡ true

-- Why a call may be refused for now. A call without a key is refused before the vBucket opens alone.
abbrev pub Caused : FrontData → ℕ → CallData → ℕ → Cause → Type 0
Caused f caller call now causes.Quota = IsQuotaCause f call now
Caused f caller call now causes.Warming = (world_of f).opened ≡ false
Caused f caller call now (causes.Store ticket) = IsStoreCause f ticket caller call
Caused f caller call now (causes.Memory ticket) = IsMemoryCause f ticket caller call

-- a call is answered as the world says, as far as its documents are known
pub record MayCall (w : World) (call : CallData) (now : ℕ) (reply : Reply) (value : List ℕ) : Type 0 where
  pub opened : w.opened ≡ true
  pub reply_is : w.told ≡ true → reply ≡ (answer w call now).reply
  pub value_is : w.told ≡ true → value ≡ (answer w call now).value

-- the document of the key stands, and is expired
pub record IsExpired (w : World) (key : List ℕ) (now : ℕ) : Type 0 where
  pub doc : Doc
  pub found : map.get w.docs key ≡ Some doc
  pub stands : doc.deleted ≡ false
  pub ends : doc.expiry ≢ 0
  pub past : doc.expiry ≤ secs now

-- a document is replaced by a tombstone once it is expired
pub record MayExpire (w : World) (key : List ℕ) (now : ℕ) : Type 0 where
  pub serving : IsServing w
  pub room : w.high < last_seqno
  pub expired : w.told ≡ true → IsExpired w key now

-- what was stored goes on, and never beyond the last mutation
pub record MayPersist (w : World) (number : ℕ) : Type 0 where
  pub opened : w.opened ≡ true
  pub above : w.persisted < number
  pub within : number ≤ w.high

pub record MayMark (f : FrontData) (stripe number : ℕ) : Type 0 where
  pub opened : (world_of f).opened ≡ true
  pub above : marked f stripe < number
  pub stored : number ≤ (world_of f).persisted

-- The value of this document, or under full eviction the document, may be away from memory.
abbrev pub IsAway : Eviction → ℕ → Option Doc → Type 0
IsAway Value mark None = ⊥
IsAway Value mark (Some doc) = (doc.seqno ≤ mark) × (doc.deleted ≡ false)
IsAway Full mark None = Unit {0}
IsAway Full mark (Some doc) = doc.seqno ≤ mark

-- a call that needs what isn't in memory asks for it, at a ticket above the stripe's earlier ones
pub record MayAsk (f : FrontData) (ticket : Ticket) (call : CallData) : Type 0 where
  pub serving : IsServing (world_of f)
  pub needed : needs f.config.eviction call ≡ true
  pub key : List ℕ
  pub keyed : key_of call ≡ Some key
  pub here : ticket.stripe ≡ stripe_of key f.config.stripes
  pub above : AllByRecursion (IsBelow ticket) f.events
  pub away : (world_of f).told ≡ true → IsAway f.config.eviction (marked f ticket.stripe) (map.get (world_of f).docs key)

-- a failed read is noted once, of a ticket that was asked
pub record MayFail (f : FrontData) (ticket : Ticket) (fault : ℕ) : Type 0 where
  pub asked : HasAsked f.events ticket
  pub once : AllByRecursion (IsNoFault fault) f.events

-- a vBucket with a start opens once
pub record MayOpen (f : FrontData) : Type 0 where
  pub put : IsSome f.start
  pub unopened : (world_of f).opened ≡ false

-- what may happen after a front
unfoldable pub May : FrontData → EventData → Type 0
May f (Called caller call now reply value) = MayCall (world_of f) call now reply value
May f (Refused caller call now cause) = Caused f caller call now cause
May f (Expired key now) = MayExpire (world_of f) key now
May f (Persisted number) = MayPersist (world_of f) number
May f (Marked stripe number) = MayMark f stripe number
May f (Asked ticket caller call) = MayAsk f ticket call
May f (ReadFailed ticket fault) = MayFail f ticket fault
May f Opened = MayOpen f

-- each of these events may happen after the front and those before it
unfoldable pub AreLegal : FrontData → List EventData → Type 0
AreLegal f [] = Unit {0}
AreLegal f (event ∷ events) = May f event × AreLegal (with_event f event) events

-- each event of a front may happen after those before it
unfoldable pub IsLegal : FrontData → Type 0
IsLegal f = AreLegal (record f { events = [] }) f.events
