-- What a flat stripe holds, as lists: nodes by their keys, and places by the numbers of their tickets.
use Rattle.std.specs.Prelude.{ℕ, ◌+◌, Bool, true, false, not, ◌==◌, ◌&&◌, nat_le, if◌then◌else◌, List, [], ◌∷◌, length, map, filter, Option, Some, None}
use Rattle.std.specs.Str.{bytes_eq}
use Rattle.ep_model.specs.declared.event.Ticket.{Ticket}
use Rattle.ep_model.specs.World.{Doc, meta_of, blocks}
use Rattle.flat_parts.specs.declared.data.NodeData.{NodeData}
use Rattle.flat_parts.specs.declared.data.Outcome.{Outcome}
use Rattle.flat_parts.specs.declared.data.Outcome.TheVariants.{Waiting, Merged, Absent, Failed, NoMemory}
use Rattle.flat_parts.specs.declared.data.PlaceData.{PlaceData}

-- a node of a document whose value is resident
abbrev pub node_of : List ℕ → Doc → NodeData
node_of key doc = record { key = key; meta = meta_of doc; value = Some doc.value }

-- the node of a key, the first if there were two
abbrev pub node_at : List NodeData → List ℕ → Option NodeData
node_at [] key = None
node_at (node ∷ nodes) key = if bytes_eq node.key key then Some node else node_at nodes key

-- the nodes with this one in place of its key's
abbrev pub put_node : List NodeData → NodeData → List NodeData
put_node [] node = node ∷ []
put_node (first ∷ nodes) node = if bytes_eq first.key node.key then node ∷ nodes else first ∷ put_node nodes node

-- a value that is resident, stored and not deleted can be ejected
abbrev pub has_value : Option (List ℕ) → Bool
has_value None = false
has_value (Some value) = true

abbrev pub is_ejectable : ℕ → NodeData → Bool
is_ejectable mark node = has_value node.value && (nat_le node.meta.seqno mark && not node.meta.deleted)

abbrev pub ejected : ℕ → NodeData → NodeData
ejected mark node = if is_ejectable mark node then record node { value = None } else node

-- the blocks that a node takes: those of its key, and of its value where that is resident
abbrev pub value_blocks : Option (List ℕ) → ℕ
value_blocks None = 0
value_blocks (Some value) = blocks (length value)

abbrev pub node_blocks : NodeData → ℕ
node_blocks node = blocks (length node.key) + value_blocks node.value

-- what became of the read with this number, where its place still stands
abbrev pub outcome_at : List PlaceData → ℕ → Option Outcome
outcome_at [] number = None
outcome_at (place ∷ places) number = if place.number == number then Some place.outcome else outcome_at places number

-- the first place whose read still waits
abbrev pub is_waiting_outcome : Outcome → Bool
is_waiting_outcome Waiting = true
is_waiting_outcome Merged = false
is_waiting_outcome Absent = false
is_waiting_outcome (Failed fault) = false
is_waiting_outcome NoMemory = false

abbrev pub first_waiting : List PlaceData → Option PlaceData
first_waiting [] = None
first_waiting (place ∷ places) = if is_waiting_outcome place.outcome then Some place else first_waiting places

abbrev pub is_not_numbered : ℕ → PlaceData → Bool
is_not_numbered number place = not (place.number == number)

-- without the place of this ticket
abbrev pub released : List PlaceData → Option Ticket → List PlaceData
released places None = places
released places (Some ticket) = filter (is_not_numbered ticket.number) places

-- without the places of this key
abbrev pub forgotten : List PlaceData → List ℕ → List PlaceData
forgotten places key = filter (λ (place : PlaceData). not (bytes_eq place.key key)) places

-- with this outcome at the place of this number
abbrev pub settle_place : ℕ → Outcome → PlaceData → PlaceData
settle_place number outcome place = if place.number == number then record place { outcome = outcome } else place

abbrev pub settled : List PlaceData → ℕ → Outcome → List PlaceData
settled places number outcome = map (settle_place number outcome) places
