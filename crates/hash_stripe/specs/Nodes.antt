-- What memory has of documents, as lists of slots that are empty or hold a node.
use Rattle.std.specs.Prelude.{ℕ, zero, suc, ◌+◌, ◌<◌, ◌≤◌, ◌≡◌, ◌⊎◌, Bool, true, false, not, ◌==◌, ◌&&◌, ◌||◌, nat_le, if◌then◌else◌, List, [], ◌∷◌, length, slice_index_or, slice_set, Option, Some, None}
use Rattle.std.specs.List.{position_from}
use Rattle.std.specs.Option.{is_some, is_none}
use Rattle.std.specs.Str.{bytes_eq}
use Rattle.ep_model.specs.declared.call.Meta.{Meta}
use Rattle.ep_model.specs.declared.config.Eviction.{Eviction}
use Rattle.ep_model.specs.declared.config.Eviction.TheVariants as evictions
use Rattle.ep_model.specs.World.{blocks}
use Rattle.stored_value.specs.Ages.{older}

-- a document's key, its metadata, its value where that is resident, and how long ago it was used
pub record NodeData : Type 0 where
  pub key : List ℕ
  pub meta : Meta
  pub value : Option (List ℕ)
  pub age : ℕ

-- the sum of what each element counts
abbrev pub sum_of : {X : Type 0} → (X → ℕ) → List X → ℕ
sum_of count [] = 0
sum_of count (x ∷ xs) = count x + sum_of count xs

abbrev pub Slot : Type 0
Slot = Option NodeData

-- the blocks that a node takes: those of its key, and of its value where that is resident
abbrev pub value_blocks : Option (List ℕ) → ℕ
value_blocks None = 0
value_blocks (Some value) = blocks (length value)

abbrev pub node_blocks : NodeData → ℕ
node_blocks node = blocks (length node.key) + value_blocks node.value

abbrev pub slot_blocks : Slot → ℕ
slot_blocks None = 0
slot_blocks (Some node) = node_blocks node

-- the blocks that all nodes take
abbrev pub used : List Slot → ℕ
used slots = sum_of slot_blocks slots

abbrev pub is_keyed : List ℕ → Slot → Bool
is_keyed key None = false
is_keyed key (Some node) = bytes_eq node.key key

-- what is in a slot, and past the last one nothing
abbrev pub at : List Slot → ℕ → Slot
at slots slot = slice_index_or slots slot None

-- where the node of a key stands
abbrev pub slot_of : List Slot → List ℕ → Option ℕ
slot_of slots key = position_from (is_keyed key) 0 slots

abbrev pub node_in : List Slot → Option ℕ → Slot
node_in slots None = None
node_in slots (Some slot) = at slots slot

-- the node of a key
abbrev pub node_at : List Slot → List ℕ → Slot
node_at slots key = node_in slots (slot_of slots key)

-- the first empty slot
abbrev pub first_empty : List Slot → Option ℕ
first_empty slots = position_from is_none 0 slots

-- the blocks of the nodes of other keys
abbrev pub others_blocks : List ℕ → List Slot → ℕ
others_blocks key slots = sum_of (λ (slot : Slot). if is_keyed key slot then 0 else slot_blocks slot) slots

-- all mutations up to `mark` are stored, so this document is clean
abbrev pub is_clean : ℕ → NodeData → Bool
is_clean mark node = nat_le node.meta.seqno mark

abbrev pub is_full_eviction : Eviction → Bool
is_full_eviction evictions.Value = false
is_full_eviction evictions.Full = true

-- a clean node with a value, or a clean tombstone
abbrev pub is_ejectable : ℕ → NodeData → Bool
is_ejectable mark node = is_clean mark node && (is_some node.value || node.meta.deleted)

abbrev pub is_ejectable_slot : ℕ → Slot → Bool
is_ejectable_slot mark None = false
is_ejectable_slot mark (Some node) = is_ejectable mark node

-- what is left of a node that is ejected: under full eviction and of a tombstone nothing, else the node without value
abbrev pub ejected : Eviction → NodeData → Slot
ejected eviction node = if is_full_eviction eviction || node.meta.deleted then None else Some (record node { value = None })

abbrev pub eject_slot : Eviction → Slot → Slot
eject_slot eviction None = None
eject_slot eviction (Some node) = ejected eviction node

-- The blocks of a node that no ejecting frees: all of one that isn't clean, under value eviction a clean one's key unless
-- it is a tombstone, and else none.
abbrev pub pinned_blocks : Eviction → ℕ → NodeData → ℕ
pinned_blocks eviction mark node =
    if is_clean mark node then (if is_full_eviction eviction || node.meta.deleted then 0 else blocks (length node.key)) else node_blocks node

abbrev pub slot_pinned : Eviction → ℕ → Slot → ℕ
slot_pinned eviction mark None = 0
slot_pinned eviction mark (Some node) = pinned_blocks eviction mark node

-- the pinned blocks of the nodes of other keys
abbrev pub others_pinned : Eviction → ℕ → List ℕ → List Slot → ℕ
others_pinned eviction mark key slots = sum_of (λ (slot : Slot). if is_keyed key slot then 0 else slot_pinned eviction mark slot) slots

-- a document of another key that may be ejected, of this age
abbrev pub is_victim : ℕ → List ℕ → ℕ → Slot → Bool
is_victim mark key age None = false
is_victim mark key age (Some node) = is_ejectable mark node && (not (bytes_eq node.key key) && node.age == age)

abbrev pub first_of_age : ℕ → List ℕ → ℕ → List Slot → Option ℕ
first_of_age mark key age slots = position_from (is_victim mark key age) 0 slots

abbrev pub or_else : Option ℕ → Option ℕ → Option ℕ
or_else None other = other
or_else (Some slot) other = Some slot

-- which document of another key is ejected next: the one of the greatest age, and of those the one in the least slot
abbrev pub victim : ℕ → List ℕ → List Slot → Option ℕ
victim mark key slots =
    or_else (first_of_age mark key 3 slots) (or_else (first_of_age mark key 2 slots) (or_else (first_of_age mark key 1 slots) (first_of_age mark key 0 slots)))

-- the slots after the document in one is ejected
abbrev pub eject_at : Eviction → List Slot → ℕ → List Slot
eject_at eviction slots slot = slice_set slots slot (eject_slot eviction (at slots slot))

-- So many documents of other keys are ejected, one after the other, each the next, and each while `need` blocks don't fit
-- beside what the others take. All else stands.
abbrev pub Ejects : Eviction → ℕ → List ℕ → ℕ → ℕ → List Slot → List Slot → Type 0
Ejects eviction mark key need zero old new = new ≡ old
Ejects eviction mark key need (suc n) old new =
    (slot : ℕ) × (victim mark key old ≡ Some slot) × (length old < others_blocks key old + need)
    × Ejects eviction mark key need n (eject_at eviction old slot) new

-- some are
pub record EjectsOthers (eviction : Eviction) (mark : ℕ) (key : List ℕ) (need : ℕ) (old new : List Slot) : Type 0 where
  pub count : ℕ
  pub chain : Ejects eviction mark key need count old new

-- What ejecting for a key leaves of a slot: all of it, or what is left of a clean document of another key.
abbrev pub IsLeft : Eviction → ℕ → List ℕ → Slot → Slot → Type 0
IsLeft eviction mark key old new =
    (new ≡ old) ⊎ ((is_ejectable_slot mark old ≡ true) × (is_keyed key old ≡ false) × (new ≡ eject_slot eviction old))

-- with another age, one that is used, and one older
abbrev pub aged : (ℕ → ℕ) → Slot → Slot
aged by None = None
aged by (Some node) = Some (record node { age = by node.age })

abbrev pub heated : Slot → Slot
heated slot = aged (λ age. 0) slot

abbrev pub cooled : Slot → Slot
cooled slot = aged older slot

-- with this node in its key's slot, or where it has none in the first empty one
abbrev pub slot_for : List Slot → List ℕ → Option ℕ
slot_for slots key = or_else (slot_of slots key) (first_empty slots)

abbrev pub with_slot : List Slot → Option ℕ → Slot → List Slot
with_slot slots None content = slots
with_slot slots (Some slot) content = slice_set slots slot content

abbrev pub placed : List Slot → NodeData → List Slot
placed slots node = with_slot slots (slot_for slots node.key) (Some node)

-- how many nodes have a value, and how many don't
abbrev pub is_resident : Slot → Bool
is_resident None = false
is_resident (Some node) = is_some node.value

abbrev pub is_ejected : Slot → Bool
is_ejected None = false
is_ejected (Some node) = not (is_some node.value)

-- some documents of other keys are ejected, and then this one is put, which fits
pub record Restores (eviction : Eviction) (mark : ℕ) (need : ℕ) (node : NodeData) (old new : List Slot) : Type 0 where
  pub room : List Slot
  pub ejects : EjectsOthers eviction mark node.key need old room
  pub fits : others_blocks node.key room + need ≤ length room
  pub puts : new ≡ placed room node
