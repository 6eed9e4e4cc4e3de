-- Which stripe of a vBucket a key belongs to.
use Rattle.std.specs.Prelude.{ℕ, ◌*◌, ◌%◌, ◌^◌, List, fold, bit_xor}

-- the 32-bit FNV-1a hash
abbrev pub fnv_1a : List ℕ → ℕ
fnv_1a bytes = fold (λ hash byte. (bit_xor hash byte * 16777619) % 2 ^ 32) 2166136261 bytes

-- the stripe of a key among so many
unfoldable pub stripe_of : List ℕ → ℕ → ℕ
stripe_of key stripes = fnv_1a key % stripes
