-- A pool as its callers see it: which bytes the chains hold, and how many blocks are free.
use Rattle.std.specs.Prelude.{◌≡◌, ℕ, ◌+◌, ◌/◌, ◌<◌, ◌≢◌, List, [], length, replicate, slice_index_or, slice_set}
use Rattle.std.specs.List.{sum_by}

-- `texts` has a place for each block. Where a chain begins at that block, its bytes stand there, and else none. So a
-- chain is the number of its first block. The chain of no byte has no block; its number is that of the blocks, where
-- no block is, so every pool has it.
pub record Held : Type 0 where
  pub texts : List (List ℕ)
  pub free : ℕ

-- the blocks that so many bytes take
abbrev pub blocks_of : ℕ → ℕ
blocks_of n = (n + 127) / 128

-- the bytes of a chain
abbrev pub bytes_at : Held → ℕ → List ℕ
bytes_at p chain = slice_index_or p.texts chain []

-- the blocks of all chains
abbrev pub taken_blocks : List (List ℕ) → ℕ
taken_blocks texts = sum_by (λ t. blocks_of (length t)) texts

-- a pool whose blocks are all free
abbrev pub all_free : ℕ → Held
all_free blocks = record { texts = replicate blocks []; free = blocks }

-- what a pool becomes when a chain of these bytes is put: it is a chain that the pool didn't have, but for the one of
-- no byte
pub record Puts (old new : Held) (chain : ℕ) (bytes : List ℕ) : Type 0 where
  pub texts : new.texts ≡ slice_set old.texts chain bytes
  pub free : new.free + blocks_of (length bytes) ≡ old.free
  pub fresh : bytes_at old chain ≡ []
  pub within : bytes ≢ [] → chain < length old.texts
  pub empty : bytes ≡ [] → chain ≡ length old.texts

-- what a pool becomes when a chain is taken back
pub record TakesBack (old new : Held) (chain : ℕ) : Type 0 where
  pub texts : new.texts ≡ slice_set old.texts chain []
  pub free : new.free ≡ old.free + blocks_of (length (bytes_at old chain))
