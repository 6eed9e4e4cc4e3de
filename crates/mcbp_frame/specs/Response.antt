-- A response frame of the memcached binary protocol.
use Rattle.std.specs.Prelude.{ℕ, ◌+◌, List, [], ◌∷◌, ◌++◌, length}
use Rattle.byteorder.specs.Endian.{big_bytes}
use Rattle.mcbp_frame.specs.Header.{response_magic}

-- the header of a response whose extras, key and value are so long: 24 bytes
abbrev pub response_header : ℕ → ℕ → ℕ → ℕ → ℕ → ℕ → ℕ → ℕ → List ℕ
response_header opcode status opaque cas datatype extras_len key_len value_len =
    (response_magic ∷ opcode ∷ []) ++ big_bytes 2 key_len
    ++ (extras_len ∷ datatype ∷ []) ++ big_bytes 2 status
    ++ big_bytes 4 (extras_len + key_len + value_len)
    ++ big_bytes 4 opaque ++ big_bytes 8 cas

-- A header, and a body of the extras, the key and the value in this order.
abbrev pub response : ℕ → ℕ → ℕ → ℕ → ℕ → List ℕ → List ℕ → List ℕ → List ℕ
response opcode status opaque cas datatype extras key value =
    response_header opcode status opaque cas datatype (length extras) (length key) (length value)
    ++ extras ++ key ++ value
