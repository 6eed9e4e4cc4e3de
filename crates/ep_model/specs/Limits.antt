-- What a call, a document and a moment may be.
use Rattle.std.specs.Prelude.{ℕ, ◌+◌, ◌≤◌, ◌<◌, ◌^◌, List, length}
use Rattle.ep_model.specs.declared.data.CallData.{CallData}
use Rattle.ep_model.specs.declared.data.CallData.TheVariants.{Get, Store, Join, Count, Delete, Touch}

-- the greatest lengths of a key and of a value in bytes
abbrev pub max_key : ℕ
max_key = 250

abbrev pub max_value : ℕ
max_value = 1048576

-- the room of a value with its key
abbrev pub value_room : ℕ
value_room = max_value + max_key

-- the greatest number of bytes in an event: those of a key and of one value, which a call has or is answered
abbrev pub event_bytes : ℕ
event_bytes = value_room

abbrev pub IsKey : List ℕ → Type 0
IsKey key = (1 ≤ length key) × (length key ≤ max_key)

abbrev pub IsValue : List ℕ → Type 0
IsValue value = length value ≤ max_value

-- the first number of nanoseconds since 1970 that is no moment any more
abbrev pub end_of_moments : ℕ
end_of_moments = 2 ^ 62

-- a moment in nanoseconds since 1970 at which a call may be made
abbrev pub IsMoment : ℕ → Type 0
IsMoment now = now < end_of_moments

-- the key and the value of a call are within their limits
abbrev pub IsWithin : CallData → Type 0
IsWithin (Get key) = IsKey key
IsWithin (Store kind key value flags expiration cas) = IsKey key × IsValue value
IsWithin (Join front key value cas) = IsKey key × IsValue value
IsWithin (Count down key delta initial expiration cas) = IsKey key
IsWithin (Delete key cas) = IsKey key
IsWithin (Touch key expiration fetch) = IsKey key
IsWithin call = Unit {0}
