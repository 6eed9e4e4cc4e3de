-- How a pool lies in its blocks. A link leads from a block to the next one of its chain, or of the free blocks.
use Rattle.std.specs.Prelude.{◌≡◌, ℕ, zero, suc, ◌+◌, ◌-◌, ◌<◌, ◌≤◌, List, [], ◌∷◌, ◌++◌, length, take, drop, cond, eqb, slice_index_or, slice_set}
use Rattle.std.specs.List.{sum_by}
use Rattle.value_pool.specs.Pools.{Held, blocks_of}

-- the numbers of so many blocks from one on
unfoldable pub walk : List ℕ → ℕ → ℕ → List ℕ
walk links zero block = []
walk links (suc k) block = block ∷ walk links k (slice_index_or links block 0)

-- the block that is so many behind
unfoldable pub beyond : List ℕ → ℕ → ℕ → ℕ
beyond links zero block = block
beyond links (suc k) block = beyond links k (slice_index_or links block 0)

-- the first bytes that lie in so many blocks from one on
unfoldable pub text : List (List ℕ) → List ℕ → ℕ → ℕ → ℕ → List ℕ
text region links zero len block = []
text region links (suc k) len block =
    take len (slice_index_or region block []) ++ text region links k (len - 128) (slice_index_or links block 0)

-- the bytes of the chains, of which `lens` has the length at their first block, from a block on
unfoldable pub texts_from : List (List ℕ) → List ℕ → List ℕ → ℕ → List (List ℕ)
texts_from region links [] block = []
texts_from region links (len ∷ lens) block =
    text region links (blocks_of len) len block ∷ texts_from region links lens (suc block)

abbrev pub held_of : List (List ℕ) → List ℕ → List ℕ → ℕ → Held
held_of region links lens free = record { texts = texts_from region links lens 0; free = free }

-- how often a block stands in a list
unfoldable pub times : ℕ → List ℕ → ℕ
times b [] = 0
times b (x ∷ xs) = cond (eqb b x) 1 0 + times b xs

-- how often a block stands in the chains from a block on
unfoldable pub chained : ℕ → List ℕ → List ℕ → ℕ → ℕ
chained b links [] block = 0
chained b links (len ∷ lens) block = times b (walk links (blocks_of len) block) + chained b links lens (suc block)

-- so many blocks from one on are there
pub record IsRoad (region : List (List ℕ)) (links : List ℕ) (k block : ℕ) : Type 0 where
  pub links_len : length links ≡ length region
  pub whole : (b : ℕ) → b < length region → length (slice_index_or region b []) ≡ 128
  pub within : (b : ℕ) → length region ≤ b → times b (walk links k block) ≡ 0

-- free blocks and chains have each block once
pub record IsParted (region : List (List ℕ)) (links lens : List ℕ) (first free : ℕ) : Type 0 where
  pub links_len : length links ≡ length region
  pub lens_len : length lens ≡ length region
  pub few : length region ≤ 16777216
  pub whole : (b : ℕ) → b < length region → length (slice_index_or region b []) ≡ 128
  pub once : (b : ℕ) → times b (walk links free first) + chained b links lens 0 ≤ 1
  pub within : (b : ℕ) → length region ≤ b → times b (walk links free first) + chained b links lens 0 ≡ 0
  pub sizes : free + sum_by blocks_of lens ≡ length region

-- a piece in place of a block's first bytes
abbrev pub laid : List ℕ → List ℕ → List ℕ
laid piece old = piece ++ drop (length piece) old

-- the region after so many blocks from one on got the bytes
unfoldable pub written : List (List ℕ) → List ℕ → ℕ → ℕ → List ℕ → List (List ℕ)
written region links zero block bytes = region
written region links (suc k) block bytes =
    written (slice_set region block (laid (take 128 bytes) (slice_index_or region block []))) links k (slice_index_or links block 0) (drop 128 bytes)
