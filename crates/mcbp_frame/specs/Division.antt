-- The division of a text into frames and a rest. It knows no buffer and no pieces.
use Rattle.std.specs.Prelude.{◌≡◌, ◌≢◌, ℕ, ◌<◌, ◌≤◌, List, ◌++◌, length, slice_index}
use Rattle.std.specs.List.{AllByRecursion, concat}
use Rattle.mcbp_frame.specs.Header.{request_magic, header_length, max_body}
use Rattle.mcbp_frame.specs.Frames.{body_length, frame_length, IsFrame}

-- The text is these frames and then the rest, which doesn't begin with a frame.
pub record Divides (text : List ℕ) (frames : List (List ℕ)) (rest : List ℕ) : Type 0 where
  pub whole : text ≡ concat frames ++ rest
  pub each : AllByRecursion IsFrame frames
  pub over : (frame more : List ℕ) → IsFrame frame → rest ≡ frame ++ more → ⊥

-- it begins with another byte than a request
pub record HasBadMagic (rest : List ℕ) : Type 0 where
  pub some : 0 < length rest
  pub magic : slice_index rest 0 ≢ request_magic

-- its header says a body that is too long
pub record IsTooLong (rest : List ℕ) : Type 0 where
  pub magic : slice_index rest 0 ≡ request_magic
  pub header : header_length ≤ length rest
  pub body : max_body < body_length rest

-- It ends before the frame does that it begins: a proper front of a frame, nothing among them.
pub record IsPartial (rest : List ℕ) : Type 0 where
  pub magic : 0 < length rest → slice_index rest 0 ≡ request_magic
  pub body : header_length ≤ length rest → body_length rest ≤ max_body
  pub short : header_length ≤ length rest → length rest < frame_length rest
