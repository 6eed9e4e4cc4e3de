-- How nodes lie in a pool: their keys and values are chains of it.
use Rattle.std.specs.Prelude.{◌≡◌, ℕ, ◌+◌, ◌<◌, ◌≤◌, List, [], ◌∷◌, length, map, cond, nat_eq, slice_index_or, Option, Some, None}
use Rattle.std.specs.Option.{option_map}
use Rattle.ep_model.specs.Config.{max_blocks}
use Rattle.value_pool.specs.Pools.{Held, blocks_of}
use Rattle.stored_value.specs.declared.node.Node.{Node}
use Rattle.hash_stripe.specs.Nodes.{NodeData, Slot, sum_of, used}

-- what a place has: nothing, or a node whose key and value are chains
abbrev pub NodePlace : Type 0
NodePlace = Option (Node ℕ)

-- the bytes of a chain
abbrev pub text : List (List ℕ) → ℕ → List ℕ
text texts chain = slice_index_or texts chain []

abbrev pub node_of : List (List ℕ) → Node ℕ → NodeData
node_of texts node = record { key = text texts node.key; meta = node.meta; value = option_map (text texts) node.value; age = node.age }

abbrev pub slot_in : List (List ℕ) → NodePlace → Slot
slot_in texts None = None
slot_in texts (Some node) = Some (node_of texts node)

abbrev pub slots_of : List (List ℕ) → List NodePlace → List Slot
slots_of texts places = map (slot_in texts) places

-- the chains of a node, its value's first
abbrev pub value_chains : Option ℕ → List ℕ → List ℕ
value_chains None chains = chains
value_chains (Some chain) chains = chain ∷ chains

abbrev pub place_chains : NodePlace → List ℕ
place_chains None = []
place_chains (Some node) = value_chains node.value (node.key ∷ [])

-- how often a chain is in a list, and in the places
abbrev pub times : ℕ → List ℕ → ℕ
times chain chains = sum_of (λ c. cond (nat_eq c chain) 1 0) chains

abbrev pub held_times : ℕ → List NodePlace → ℕ
held_times chain places = sum_of (λ place. times chain (place_chains place)) places

-- a chain of no byte is past the last block
abbrev pub IsWhole : List (List ℕ) → ℕ → Type 0
IsWhole texts chain = text texts chain ≡ [] → length texts ≤ chain

abbrev pub AreWhole : List (List ℕ) → List ℕ → Type 0
AreWhole texts [] = Unit {0}
AreWhole texts (chain ∷ chains) = IsWhole texts chain × AreWhole texts chains

abbrev pub EachWhole : List (List ℕ) → List NodePlace → Type 0
EachWhole texts [] = Unit {0}
EachWhole texts (place ∷ places) = AreWhole texts (place_chains place) × EachWhole texts places

abbrev pub chain_blocks : List (List ℕ) → List ℕ → ℕ
chain_blocks texts chains = sum_of (λ c. blocks_of (length (text texts c))) chains

-- A pool has just the chains of the nodes in the places and some loose ones, each once, and all its other blocks are
-- free. It has a block for each place.
pub record IsKept (pool : Held) (places : List NodePlace) (loose : List ℕ) : Type 0 where
  pub size : length pool.texts ≡ length places
  pub few : length places ≤ max_blocks
  pub exact : pool.free + (used (slots_of pool.texts places) + chain_blocks pool.texts loose) ≡ length places
  pub whole : EachWhole pool.texts places
  pub loose_whole : AreWhole pool.texts loose
  pub apart : (chain : ℕ) → chain < length pool.texts → held_times chain places + times chain loose ≤ 1
