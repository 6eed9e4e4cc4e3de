-- How a log in memory stands for events: their bytes lie in it one behind the other, and each event says where.
use Rattle.std.specs.Prelude.{◌≡◌, ℕ, ◌+◌, ◌-◌, ◌≤◌, List, ◌++◌, length, take, drop, map, vec_len, vec_capacity}
use Rattle.std.specs.List.{AllByRecursion}
use Rattle.ep_model.specs.declared.data.CallData.{CallData}
use Rattle.ep_model.specs.declared.data.CallData.TheVariants as calls
use Rattle.ep_model.specs.declared.data.EventData.{EventData}
use Rattle.ep_model.specs.declared.data.EventData.TheVariants as events
use Rattle.vb_world.specs.declared.event_log.Span.{Span}
use Rattle.vb_world.specs.declared.event_log.KeptCall.{KeptCall}
use Rattle.vb_world.specs.declared.event_log.KeptCall.TheVariants as kept
use Rattle.vb_world.specs.declared.event_log.KeptEvent.{KeptEvent}
use Rattle.vb_world.specs.declared.event_log.KeptEvent.TheVariants.{Called, Refused, Expired, Persisted, Marked, Asked, ReadFailed, Opened}
use Rattle.vb_world.specs.declared.event_log.EventLog.{EventLog}

-- the bytes of a span
abbrev pub spanned : List ℕ → Span → List ℕ
spanned bytes s = take s.len (drop s.from bytes)

abbrev pub call_in : List ℕ → KeptCall → CallData
call_in bytes (kept.Get key) = calls.Get (spanned bytes key)
call_in bytes (kept.Store kind key value flags expiration cas) = calls.Store kind (spanned bytes key) (spanned bytes value) flags expiration cas
call_in bytes (kept.Join front key value cas) = calls.Join front (spanned bytes key) (spanned bytes value) cas
call_in bytes (kept.Count down key delta initial expiration cas) = calls.Count down (spanned bytes key) delta initial expiration cas
call_in bytes (kept.Delete key cas) = calls.Delete (spanned bytes key) cas
call_in bytes (kept.Touch key expiration fetch) = calls.Touch (spanned bytes key) expiration fetch
call_in bytes (kept.Observe uuid) = calls.Observe uuid
call_in bytes kept.Failovers = calls.Failovers
call_in bytes (kept.SetState state) = calls.SetState state
call_in bytes kept.GetState = calls.GetState

abbrev pub event_in : List ℕ → KeptEvent → EventData
event_in bytes (Called caller call now reply value) = events.Called caller (call_in bytes call) now reply (spanned bytes value)
event_in bytes (Refused caller call now cause) = events.Refused caller (call_in bytes call) now cause
event_in bytes (Expired key now) = events.Expired (spanned bytes key) now
event_in bytes (Persisted number) = events.Persisted number
event_in bytes (Marked stripe number) = events.Marked stripe number
event_in bytes (Asked ticket caller call) = events.Asked ticket caller (call_in bytes call)
event_in bytes (ReadFailed ticket fault) = events.ReadFailed ticket fault
event_in bytes Opened = events.Opened

-- an event with its vBucket
abbrev pub pair_in : List ℕ → ℕ × KeptEvent → ℕ × EventData
pair_in bytes p = (p.0, event_in bytes p.1)

abbrev pub pairs_in : List ℕ → List (ℕ × KeptEvent) → List (ℕ × EventData)
pairs_in bytes pairs = map (pair_in bytes) pairs

-- the events of a log in order, each with its vBucket
abbrev pub pairs_of : EventLog → List (ℕ × EventData)
pairs_of log = pairs_in log.bytes.items log.events.items

-- it lies within so many bytes
abbrev pub IsInside : ℕ → Span → Type 0
IsInside n s = s.from + s.len ≤ n

abbrev pub IsCallInside : ℕ → KeptCall → Type 0
IsCallInside n (kept.Get key) = IsInside n key
IsCallInside n (kept.Store kind key value flags expiration cas) = IsInside n key × IsInside n value
IsCallInside n (kept.Join front key value cas) = IsInside n key × IsInside n value
IsCallInside n (kept.Count down key delta initial expiration cas) = IsInside n key
IsCallInside n (kept.Delete key cas) = IsInside n key
IsCallInside n (kept.Touch key expiration fetch) = IsInside n key
IsCallInside n (kept.Observe uuid) = Unit {0}
IsCallInside n kept.Failovers = Unit {0}
IsCallInside n (kept.SetState state) = Unit {0}
IsCallInside n kept.GetState = Unit {0}

abbrev pub IsEventInside : ℕ → KeptEvent → Type 0
IsEventInside n (Called caller call now reply value) = IsCallInside n call × IsInside n value
IsEventInside n (Refused caller call now cause) = IsCallInside n call
IsEventInside n (Expired key now) = IsInside n key
IsEventInside n (Persisted number) = Unit {0}
IsEventInside n (Marked stripe number) = Unit {0}
IsEventInside n (Asked ticket caller call) = IsCallInside n call
IsEventInside n (ReadFailed ticket fault) = Unit {0}
IsEventInside n Opened = Unit {0}

abbrev pub AreInside : ℕ → List (ℕ × KeptEvent) → Type 0
AreInside n pairs = AllByRecursion (λ (p : ℕ × KeptEvent). IsEventInside n p.1) pairs

-- whatever an event of the log says lies in it
abbrev pub HasAllBytes : EventLog → Type 0
HasAllBytes log = AreInside (length log.bytes.items) log.events.items

-- how many more events, and how many more bytes of them, the log takes without growing
abbrev pub event_room : EventLog → ℕ
event_room log = vec_capacity log.events - vec_len log.events

abbrev pub byte_room : EventLog → ℕ
byte_room log = vec_capacity log.bytes - vec_len log.bytes

-- new is old with bytes behind it
abbrev pub Extends : List ℕ → List ℕ → Type 0
Extends old new = (more : List ℕ) × (new ≡ old ++ more)

-- a call that was kept behind the old bytes stands for these data
pub record KeepsCall (old new : List ℕ) (call : KeptCall) (data_ : CallData) : Type 0 where
  pub extends : Extends old new
  pub inside : IsCallInside (length new) call
  pub same : call_in new call ≡ data_
