-- What a call on a form in memory answers and leaves.
use Rattle.std.specs.Prelude.{ℕ, ◌+◌, ◌-◌, ◌^◌, min, max, nat_lt, nat_le, ◌==◌, ◌||◌, Bool, true, false, if◌then◌else◌, List, [], ◌∷◌, ◌++◌, length, take, drop, slice_index}
use Rattle.std.specs.List.{list_any}
use Rattle.ep_edge.specs.declared.data.FailuresData.{FailuresData}
use Rattle.ep_edge.specs.declared.data.SourceData.{SourceData}
use Rattle.ep_edge.specs.declared.data.SinkData.{SinkData}
use Rattle.ep_edge.specs.declared.source.Got.{Got}
use Rattle.ep_edge.specs.declared.source.Got.TheVariants.{Bytes, End, Failed}
use Rattle.ep_model.specs.Counts.{raised}
use Rattle.ep_edge.specs.declared.sink.Put.{Put}
use Rattle.ep_edge.specs.declared.sink.Put.TheVariants as put

-- these calls fail, and none was made yet
abbrev pub none_made : List ℕ → FailuresData
none_made numbers = record { numbers = numbers; next = 0 }

-- whether the next call fails
abbrev pub is_failing : FailuresData → Bool
is_failing failures = list_any (λ number. number == failures.next) failures.numbers

-- one call later
abbrev pub after_call : FailuresData → FailuresData
after_call failures = record failures { next = min (failures.next + 1) (2 ^ 64) }

-- the most bytes that the next read gives under these bounds, in a buffer with so much room
abbrev pub read_limit : List ℕ → ℕ → ℕ
read_limit [] room = room
read_limit (piece ∷ pieces) room = min room (max piece 1)

-- the bytes that the next read gives, if it doesn't fail
abbrev pub next_piece : SourceData → ℕ → List ℕ
next_piece source room = take (read_limit source.pieces room) source.left

-- what a read answers that gives these bytes
abbrev pub got_of : List ℕ → Got
got_of [] = End
got_of (byte ∷ bytes) = Bytes (length bytes + 1)

abbrev pub is_nil : List ℕ → Bool
is_nil [] = true
is_nil (byte ∷ bytes) = false

-- what the next read answers
abbrev pub read_answer : SourceData → ℕ → Got
read_answer source room = if is_failing source.failures then Failed else got_of (next_piece source room)

-- the buffer after the next read
abbrev pub read_buffer : SourceData → List ℕ → List ℕ
read_buffer source into =
    if is_failing source.failures then into else
    next_piece source (length into) ++ drop (length (next_piece source (length into))) into

-- a source after a read that failed
abbrev pub after_failed_read : SourceData → SourceData
after_failed_read source = record source { left_before = source.left; ended_before = source.ended; failures = after_call source.failures; faults = raised source.faults }

-- a source after a read that didn't fail
abbrev pub after_good_read : SourceData → ℕ → SourceData
after_good_read source room = record source {
  left = drop (read_limit source.pieces room) source.left;
  left_before = source.left;
  pieces = drop 1 source.pieces;
  failures = after_call source.failures;
  ended = source.ended || is_nil (next_piece source room);
  ended_before = source.ended;
}

-- a source after its next read
abbrev pub after_read : SourceData → ℕ → SourceData
after_read source room =
    if is_failing source.failures then after_failed_read source else after_good_read source room

-- whether these bytes are written whole
abbrev pub is_written : SinkData → List ℕ → Bool
is_written sink bytes = if is_failing sink.failures then false else nat_le (length bytes) sink.spare

-- those of these bytes that are written
abbrev pub written_front : SinkData → List ℕ → List ℕ
written_front sink bytes = if is_failing sink.failures then [] else take sink.spare bytes

-- what a write answers
abbrev pub write_answer : SinkData → List ℕ → Put
write_answer sink bytes = if is_written sink bytes then put.Done else put.Failed

-- a sink after a write
abbrev pub after_write : SinkData → List ℕ → SinkData
after_write sink bytes = record {
  held = sink.held ++ written_front sink bytes;
  held_before = sink.held;
  spare = sink.spare - length (written_front sink bytes);
  failures = after_call sink.failures;
  faults = if is_written sink bytes then sink.faults else raised sink.faults;
  faults_before = sink.faults;
  offered = length bytes;
}

-- the moment that the k-th next call gives, where these are to come and the last of them is repeated
abbrev pub moment_at : List ℕ → ℕ → ℕ
moment_at moments k = slice_index moments (min k (length moments - 1))

-- the moments to come one call later
abbrev pub later : List ℕ → List ℕ
later moments = if nat_lt 1 (length moments) then drop 1 moments else moments
