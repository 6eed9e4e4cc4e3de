-- Histories of one vBucket: lists of events after a start, and the worlds that they leave.
use Rattle.std.specs.Prelude.{ℕ, true, false, ◌==◌, if◌then◌else◌, List, [], ◌∷◌, Option, Some, None}
use Rattle.ep_model.specs.declared.call.Call.{Call}
use Rattle.ep_model.specs.declared.call.Call.TheVariants as calls
use Rattle.ep_model.specs.declared.event.Event.{Event}
use Rattle.ep_model.specs.declared.event.Event.TheVariants as events
use Rattle.ep_model.specs.declared.data.CallData.{CallData}
use Rattle.ep_model.specs.declared.data.CallData.TheVariants.{Get, Store, Join, Count, Delete, Touch, Observe, Failovers, SetState, GetState}
use Rattle.ep_model.specs.declared.data.EventData.{EventData}
use Rattle.ep_model.specs.declared.data.EventData.TheVariants.{Called, Refused, Expired, Persisted, Marked, Asked, ReadFailed, Opened}
use Rattle.ep_model.specs.declared.call.Reply.{Reply}
use Rattle.ep_model.specs.Statuses.{success}
use Rattle.ep_model.specs.Calls.{written_key}
use Rattle.ep_model.specs.World.{World, next_doc, tombstone}
use Rattle.ep_model.specs.Answer.{Effect, Nothing, Puts, Sets, answer, apply}

-- a call and an event without where their bytes lie
abbrev pub call_data : Call → CallData
call_data (calls.Get key) = Get key.now
call_data (calls.Store kind key value flags expiration cas) = Store kind key.now value.now flags expiration cas
call_data (calls.Join front key value cas) = Join front key.now value.now cas
call_data (calls.Count down key delta initial expiration cas) = Count down key.now delta initial expiration cas
call_data (calls.Delete key cas) = Delete key.now cas
call_data (calls.Touch key expiration fetch) = Touch key.now expiration fetch
call_data (calls.Observe uuid) = Observe uuid
call_data calls.Failovers = Failovers
call_data (calls.SetState state) = SetState state
call_data calls.GetState = GetState

abbrev pub event_data : Event → EventData
event_data (events.Called caller call now reply value) = Called caller (call_data call) now reply value.now
event_data (events.Refused caller call now cause) = Refused caller (call_data call) now cause
event_data (events.Expired key now) = Expired key.now now
event_data (events.Persisted number) = Persisted number
event_data (events.Marked stripe number) = Marked stripe number
event_data (events.Asked ticket caller call) = Asked ticket caller (call_data call)
event_data (events.ReadFailed ticket fault) = ReadFailed ticket fault
event_data events.Opened = Opened

-- What a call did by its reply alone: a call that may write put a document of which no more is known than its key and
-- its numbers exactly where its reply has a number, and a state was set exactly with success.
abbrev pub seen_put : World → ℕ → ℕ → Option (List ℕ) → Effect
seen_put w now seqno None = Nothing
seen_put w now seqno (Some key) = if seqno == 0 then Nothing else Puts key (next_doc w [] 0 0 false now)

abbrev pub seen_effect : World → CallData → ℕ → Reply → Effect
seen_effect w (SetState state) now reply = if reply.status == success then Sets state else Nothing
seen_effect w call now reply = seen_put w now reply.seqno (written_key call)

-- What a call did that was answered so: what its answer says where the documents are known.
unfoldable pub call_effect : World → CallData → ℕ → Reply → Effect
call_effect w call now reply = if w.told then (answer w call now).effect else seen_effect w call now reply

-- what an event does to a world's documents and its state
abbrev pub effect_of : World → EventData → Effect
effect_of w (Called caller call now reply value) = call_effect w call now reply
effect_of w (Expired key now) = Puts key (tombstone w now)
effect_of w event = Nothing

-- and how far it says that the vBucket is: what is stored, and that it is open
abbrev pub advanced : World → EventData → World
advanced w (Persisted number) = record w { persisted = number }
advanced w Opened = record w { opened = true }
advanced w event = w

-- the world after one more event
abbrev pub step : World → EventData → World
step w event = advanced (apply w (effect_of w event)) event

-- the world after a start and these events
abbrev pub after : World → List EventData → World
after start [] = start
after start (event ∷ history) = after (step start event) history

-- the first world whose greatest number is this one, or the last where none is
abbrev pub upto : World → List EventData → ℕ → World
upto w [] number = w
upto w (event ∷ history) number = if w.high == number then w else upto (step w event) history number
