-- The chains that one caller owns.
use Rattle.std.specs.Prelude.{◌≡◌, ◌≢◌, ℕ, ◌+◌, ◌<◌, List, [], ◌∷◌, length, slice_index_or, slice_set}
use Rattle.std.specs.List.{sum_by}
use Rattle.value_pool.specs.Pools.{Held, blocks_of}

-- the chains are in a pool with these texts, each with its bytes; no two that have bytes are the same, and the others
-- are the chain of no byte
unfoldable pub AreIn : List (List ℕ) → List (ℕ × List ℕ) → Type 0
AreIn texts [] = Unit {0}
AreIn texts (x ∷ xs) =
    (slice_index_or texts x.0 [] ≡ x.1) × ((x.0 < length texts → x.1 ≢ []) × AreIn (slice_set texts x.0 []) xs)

-- they are all that the pool has
pub record Owns (pool : Held) (chains : List (ℕ × List ℕ)) : Type 0 where
  pub are_in : AreIn pool.texts chains
  pub all : pool.free + sum_by (λ x. blocks_of (length x.1)) chains ≡ length pool.texts
