-- The frame that some bytes begin with.
use Rattle.std.proofs.Common.{◌≡◌, ℕ, ◌+◌, ◌-◌, ◌≤◌, List, length, take, drop, slice_index, refl, ◌∙◌, arith}
use Rattle.std.proofs.lemmas.List.{drop-take, get_or-take, length-take-le}
use Rattle.byteorder.specs.Endian.{big_number}
use Rattle.byteorder.specs.Numbers.{big_from-take}
use Rattle.mcbp_frame.specs.Header.{request_magic, header_length, max_body}
use Rattle.mcbp_frame.specs.Frames.{body_length, IsFrame}

-- a number that ends before place n reads the same among the first n bytes
pub big_number-drop-take : (k i n : ℕ) (bytes : List ℕ) → i + k ≤ n → big_number k (drop i (take n bytes)) ≡ big_number k (drop i bytes)
big_number-drop-take k i n bytes h =
    let split : n ≡ i + (n - i) = omega arith in
    rw (split, drop-take i (n - i) bytes) (big_from-take 0 k (n - i) (drop i bytes) (omega arith))

-- the first bytes say the same body length, where they hold the header
pub body_length-take : (n : ℕ) (bytes : List ℕ) → header_length ≤ n → body_length (take n bytes) ≡ body_length bytes
body_length-take n bytes h = big_number-drop-take 4 8 n bytes (omega arith)

-- what the header says is a frame, where it is there whole
pub IsFrame-take : (bytes : List ℕ) (n : ℕ) → n ≡ body_length bytes → slice_index bytes 0 ≡ request_magic → n ≤ max_body → header_length + n ≤ length bytes → IsFrame (take (header_length + n) bytes)
IsFrame-take bytes n is magic within whole =
    let said = body_length-take (header_length + n) bytes (omega arith) in
    let long = length-take-le (header_length + n) bytes whole in
    record {
      magic = get_or-take (header_length + n) bytes 0 0 (omega arith) ∙ magic;
      header = rw long (omega arith);
      body = rw (said, ← is) within;
      whole = long ∙ rw (said, ← is) refl;
    }
