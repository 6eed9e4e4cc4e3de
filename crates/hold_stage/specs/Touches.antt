-- Which parts of its vBucket an event touches, whose it is, and what it is told by.
use Rattle.std.specs.Prelude.{ℕ, ◌+◌, Bool, true, false, ◌==◌, ◌||◌, nat_lt, List, length, Option, Some, None}
use Rattle.ep_model.specs.declared.config.Config.{Config}
use Rattle.ep_model.specs.declared.event.PartName.{PartName}
use Rattle.ep_model.specs.declared.event.PartName.TheVariants.{Stripe, Queue, Desk}
use Rattle.ep_model.specs.declared.data.CallData.{CallData}
use Rattle.ep_model.specs.declared.data.CallData.TheVariants as calls
use Rattle.ep_model.specs.declared.data.EventData.{EventData}
use Rattle.ep_model.specs.declared.data.EventData.TheVariants.{Called, Refused, Expired, Persisted, Marked, Asked, ReadFailed, Opened}
use Rattle.ep_model.specs.declared.data.FrontData.{FrontData}
use Rattle.ep_model.specs.Stripes.{stripe_of}
use Rattle.ep_model.specs.Calls.{key_of}

-- which parts a vBucket has: its stripes, one queue and one desk
abbrev pub there : Config → PartName → Bool
there config (Stripe stripe) = nat_lt stripe config.stripes
there config Queue = true
there config Desk = true

abbrev pub is_stripe : ℕ → PartName → Bool
is_stripe stripe (Stripe other) = other == stripe
is_stripe stripe Queue = false
is_stripe stripe Desk = false

-- a stripe that the vBucket has
abbrev pub is_any_stripe : Config → PartName → Bool
is_any_stripe config (Stripe other) = nat_lt other config.stripes
is_any_stripe config Queue = false
is_any_stripe config Desk = false

abbrev pub is_queue : PartName → Bool
is_queue (Stripe stripe) = false
is_queue Queue = true
is_queue Desk = false

abbrev pub is_desk : PartName → Bool
is_desk (Stripe stripe) = false
is_desk Queue = false
is_desk Desk = true

abbrev pub same_part : PartName → PartName → Bool
same_part (Stripe stripe) other = is_stripe stripe other
same_part Queue other = is_queue other
same_part Desk other = is_desk other

-- the stripe of a key
abbrev pub holds_key : Config → List ℕ → PartName → Bool
holds_key config key part = is_stripe (stripe_of key config.stripes) part

-- what the answer or the refusal of a call touches: a Get its stripe alone, so that it never waits for a write
abbrev pub touches_call : Config → CallData → PartName → Bool
touches_call config (calls.Get key) part = holds_key config key part
touches_call config (calls.Store kind key value flags expiration cas) part = holds_key config key part || is_queue part
touches_call config (calls.Join front key value cas) part = holds_key config key part || is_queue part
touches_call config (calls.Count down key delta initial expiration cas) part = holds_key config key part || is_queue part
touches_call config (calls.Delete key cas) part = holds_key config key part || is_queue part
touches_call config (calls.Touch key expiration fetch) part = holds_key config key part || is_queue part
touches_call config (calls.Observe uuid) part = is_queue part
touches_call config calls.Failovers part = is_queue part
touches_call config (calls.SetState state) part = is_any_stripe config part || is_queue part
touches_call config calls.GetState part = is_queue part

-- What an event behind this front touches.
unfoldable pub touches : FrontData → EventData → PartName → Bool
touches f (Called caller call now reply value) part = touches_call f.config call part
touches f (Refused caller call now cause) part = touches_call f.config call part
touches f (Expired key now) part = holds_key f.config key part || is_queue part
touches f (Persisted number) part = is_queue part || is_desk part
touches f (Marked stripe number) part = is_stripe stripe part
touches f (Asked ticket caller call) part = is_stripe ticket.stripe part
touches f (ReadFailed ticket fault) part = is_stripe ticket.stripe part || is_desk part
touches f Opened part = is_any_stripe f.config part || (is_queue part || is_desk part)

-- the event is of this caller
unfoldable pub is_of : ℕ → EventData → Bool
is_of caller (Called other call now reply value) = other == caller
is_of caller (Refused other call now cause) = other == caller
is_of caller (Asked ticket other call) = other == caller
is_of caller event = false

-- the event is of some caller
unfoldable pub is_call : EventData → Bool
is_call (Called caller call now reply value) = true
is_call (Refused caller call now cause) = true
is_call (Asked ticket caller call) = true
is_call event = false

-- only who has the desk notes the event
unfoldable pub is_desks : EventData → Bool
is_desks (Persisted number) = true
is_desks (ReadFailed ticket fault) = true
is_desks Opened = true
is_desks event = false

abbrev pub key_length : Option (List ℕ) → ℕ
key_length None = 0
key_length (Some key) = length key

-- how many bytes of keys and values the call has
abbrev pub bytes_of_call : CallData → ℕ
bytes_of_call (calls.Store kind key value flags expiration cas) = length key + length value
bytes_of_call (calls.Join front key value cas) = length key + length value
bytes_of_call call = key_length (key_of call)

-- and the event
abbrev pub bytes_of : EventData → ℕ
bytes_of (Called caller call now reply value) = bytes_of_call call + length value
bytes_of (Refused caller call now cause) = bytes_of_call call
bytes_of (Expired key now) = length key
bytes_of (Asked ticket caller call) = bytes_of_call call
bytes_of event = 0
