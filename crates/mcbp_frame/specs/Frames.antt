-- A request frame of the memcached binary protocol: 24 bytes of header, and a body whose length stands in the
-- header. Numbers are big-endian.
use Rattle.std.specs.Prelude.{◌≡◌, ℕ, ◌+◌, ◌≤◌, List, length, drop, slice_index}
use Rattle.byteorder.specs.Endian.{big_number}
use Rattle.mcbp_frame.specs.declared.frame.Frame.{Frame}
use Rattle.mcbp_frame.specs.declared.frame.FrameData.{FrameData}
use Rattle.mcbp_frame.specs.Header.{request_magic, header_length, max_body}

-- the body length that 24 bytes of header say
abbrev pub body_length : List ℕ → ℕ
body_length bytes = big_number 4 (drop 8 bytes)

-- the length of the frame that begins with 24 bytes of header
abbrev pub frame_length : List ℕ → ℕ
frame_length bytes = header_length + body_length bytes

-- these bytes are one frame
pub record IsFrame (bytes : List ℕ) : Type 0 where
  pub magic : slice_index bytes 0 ≡ request_magic
  pub header : header_length ≤ length bytes
  pub body : body_length bytes ≤ max_body
  pub whole : length bytes ≡ frame_length bytes

-- what a frame's bytes say
abbrev pub frame_at : List ℕ → ℕ → FrameData
frame_at bytes at = record {
  opcode = slice_index bytes 1;
  key_len = big_number 2 (drop 2 bytes);
  extras_len = slice_index bytes 4;
  datatype = slice_index bytes 5;
  vbucket = big_number 2 (drop 6 bytes);
  opaque = big_number 4 (drop 12 bytes);
  cas = big_number 8 (drop 16 bytes);
  body = drop 24 bytes;
  at = at;
}

-- a frame without where its body lies
abbrev pub frame_data : Frame → FrameData
frame_data f = record { opcode = f.opcode; key_len = f.key_len; extras_len = f.extras_len; datatype = f.datatype; vbucket = f.vbucket; opaque = f.opaque; cas = f.cas; body = f.body.now; at = f.at }
