-- What the flat lists are as plain data.
use Rattle.std.specs.Prelude.{ℕ, ◌≤◌, ◌^◌, Bool, List, length, map, Option, Some, None, Vec}
use Rattle.std.specs.Option.{option_map}
use Rattle.std.specs.List.{position_from}
use Rattle.std.specs.Str.{bytes_eq}
use Rattle.std.specs.declared.alloc.Global.{Global}
use Rattle.ep_model.specs.declared.call.VbState.{VbState}
use Rattle.ep_model.specs.World.{Doc, doc_from}
use Rattle.flat_parts.specs.declared.data.NodeData.{NodeData}
use Rattle.flat_parts.specs.declared.data.PlaceData.{PlaceData}
use Rattle.flat_parts.specs.declared.data.StripeData.{StripeData}
use Rattle.flat_parts.specs.declared.data.QueueData.{QueueData}
use Rattle.flat_parts.specs.declared.node.Node.{Node}
use Rattle.flat_parts.specs.declared.node.Residency.{Residency}
use Rattle.flat_parts.specs.declared.node.Residency.TheVariants.{Nothing, Ejected, Resident}
use Rattle.flat_parts.specs.declared.place.Place.{Place}
use Rattle.flat_parts.specs.declared.queue.Item.{Item}

abbrev pub node_data : Node → NodeData
node_data node = record { key = node.key.items; meta = node.meta; value = option_map (λ (v : Vec ℕ Global). v.items) node.value }

abbrev pub place_data : Place → PlaceData
place_data place = record { number = place.number; key = place.key.items; outcome = place.outcome }

abbrev pub item_data : Item → List ℕ × Doc
item_data item = (item.key.items, doc_from item.document.meta item.document.value.items)

abbrev pub nodes_data : List Node → List NodeData
nodes_data nodes = map node_data nodes

abbrev pub places_data : List Place → List PlaceData
places_data places = map place_data places

abbrev pub items_data : List Item → List (List ℕ × Doc)
items_data items = map item_data items

abbrev pub stripe_data : ℕ → List Node → ℕ → VbState → Bool → List Place → ℕ → StripeData
stripe_data index nodes mark state opened places next = record {
  index = index;
  nodes = nodes_data nodes;
  mark = mark;
  state = state;
  opened = opened;
  places = places_data places;
  next = next;
}

abbrev pub queue_data : List Item → ℕ → ℕ → ℕ → VbState → Bool → ℕ → QueueData
queue_data items high maxcas persisted state opened uuid = record {
  items = items_data items;
  high = high;
  maxcas = maxcas;
  persisted = persisted;
  state = state;
  opened = opened;
  uuid = uuid;
}

-- a stripe has few places, and its numbers don't run out
pub record HasFewPlaces (places : List Place) (next : ℕ) : Type 0 where
  pub few : length places ≤ 64
  pub numbers : next ≤ 2 ^ 56

-- where the first node of a key stands
abbrev pub place_of : List Node → List ℕ → Option ℕ
place_of nodes key = position_from (λ (node : Node). bytes_eq node.key.items key) 0 nodes

-- what memory has under a key, as its metadata
abbrev pub found_value : NodeData → Option (List ℕ) → Residency
found_value node None = Ejected node.meta
found_value node (Some value) = Resident node.meta

abbrev pub found_of : Option NodeData → Residency
found_of None = Nothing
found_of (Some node) = found_value node node.value
