-- A stripe as plain data.
use Rattle.std.specs.Prelude.{◌≡◌, ℕ, ◌+◌, ◌-◌, ◌<◌, ◌≤◌, Bool, true, false, List, [], ◌∷◌, length, slice_set, Option, Some, None}
use Rattle.std.specs.List.{list_any}
use Rattle.std.specs.Option.{is_some}
use Rattle.ep_model.specs.declared.call.Meta.{Meta}
use Rattle.ep_model.specs.declared.call.VbState.{VbState}
use Rattle.ep_model.specs.declared.config.Eviction.{Eviction}
use Rattle.ep_model.specs.Config.{max_blocks}
use Rattle.ep_model.specs.Limits.{max_value, IsKey, IsValue}
use Rattle.ep_model.specs.Stripes.{stripe_of}
use Rattle.hash_stripe.specs.declared.found.Found.{Found}
use Rattle.hash_stripe.specs.declared.found.Found.TheVariants.{Nothing, Ejected, Resident}
use Rattle.hash_stripe.specs.Nodes.{NodeData, Slot, used, at, is_keyed, is_clean, is_full_eviction, others_blocks, slot_of}

-- The stripe `index` of so many, and what it has of its documents, in as many slots as it has blocks. All mutations of
-- its documents up to `mark` are stored.
pub record StripeData : Type 0 where
  pub index : ℕ
  pub stripes : ℕ
  pub eviction : Eviction
  pub slots : List Slot
  pub mark : ℕ
  pub state : VbState
  pub opened : Bool

-- the blocks that no node takes
abbrev pub free_of : StripeData → ℕ
free_of s = length s.slots - used s.slots

-- so many blocks fit beside the nodes of other keys
abbrev pub Fits : List ℕ → ℕ → List Slot → Type 0
Fits key need slots = others_blocks key slots + need ≤ length slots

-- A value is within the limit, and as long as its document's metadata says; a tombstone's is empty. The metadata says
-- that of a value which isn't there too.
abbrev pub IsValueOf : Meta → Option (List ℕ) → Type 0
IsValueOf meta None = (meta.deleted ≡ false) × (meta.len ≤ max_value)
IsValueOf meta (Some value) = IsValue value × (meta.len ≡ length value) × (meta.deleted ≡ true → value ≡ [])

-- What is so of each node: its key is of this stripe, and one without a value is clean and there under value eviction
-- alone.
pub record IsNode (index stripes : ℕ) (eviction : Eviction) (mark : ℕ) (node : NodeData) : Type 0 where
  pub key : IsKey node.key
  pub home : stripe_of node.key stripes ≡ index
  pub value : IsValueOf node.meta node.value
  pub ejected : is_some node.value ≡ false → (is_clean mark node ≡ true) × (is_full_eviction eviction ≡ false)
  pub age : node.age ≤ 3

abbrev pub IsSlot : ℕ → ℕ → Eviction → ℕ → Slot → Type 0
IsSlot index stripes eviction mark None = Unit {0}
IsSlot index stripes eviction mark (Some node) = IsNode index stripes eviction mark node

abbrev pub AreSlots : ℕ → ℕ → Eviction → ℕ → List Slot → Type 0
AreSlots index stripes eviction mark [] = Unit {0}
AreSlots index stripes eviction mark (slot ∷ slots) = IsSlot index stripes eviction mark slot × AreSlots index stripes eviction mark slots

-- no two nodes have one key
abbrev pub has_key : List ℕ → List Slot → Bool
has_key key slots = list_any (is_keyed key) slots

abbrev pub IsApart : Slot → List Slot → Type 0
IsApart None slots = Unit {0}
IsApart (Some node) slots = has_key node.key slots ≡ false

abbrev pub AreApart : List Slot → Type 0
AreApart [] = Unit {0}
AreApart (slot ∷ slots) = IsApart slot slots × AreApart slots

-- what is so of every stripe
pub record IsStripe (s : StripeData) : Type 0 where
  pub place : s.index < s.stripes
  pub few : length s.slots ≤ max_blocks
  pub room : used s.slots ≤ length s.slots
  pub nodes : AreSlots s.index s.stripes s.eviction s.mark s.slots
  pub apart : AreApart s.slots

-- what memory has under a key
abbrev pub found_value : Meta → Option (List ℕ) → Found
found_value meta None = Ejected meta
found_value meta (Some value) = Resident meta

abbrev pub found : Slot → Found
found None = Nothing
found (Some node) = found_value node.meta node.value

abbrev pub key_of : Slot → List ℕ
key_of None = []
key_of (Some node) = node.key

abbrev pub key_len_of : Slot → Option ℕ
key_len_of None = None
key_len_of (Some node) = Some (length node.key)

abbrev pub meta_of : Slot → Option Meta
meta_of None = None
meta_of (Some node) = Some node.meta

abbrev pub age_of : Slot → Option ℕ
age_of None = None
age_of (Some node) = Some node.age

abbrev pub resident_value : Slot → Option (List ℕ)
resident_value None = None
resident_value (Some node) = node.value

abbrev pub text_of : Option (List ℕ) → List ℕ
text_of None = []
text_of (Some text) = text

-- with another node in the slot of a key, where it has one
abbrev pub at_slot : (Slot → Slot) → List Slot → Option ℕ → List Slot
at_slot change slots None = slots
at_slot change slots (Some slot) = slice_set slots slot (change (at slots slot))

abbrev pub at_key : (Slot → Slot) → List Slot → List ℕ → List Slot
at_key change slots key = at_slot change slots (slot_of slots key)

-- there is no node, or one without a value and with this metadata
abbrev pub IsAwayOf : Meta → Slot → Type 0
IsAwayOf meta None = Unit {0}
IsAwayOf meta (Some node) = (node.value ≡ None) × (node.meta ≡ meta)

-- What is so of a slot that shows this, as far as other calls ask for it: the value may be read, put back, or the metadata
-- added. It doesn't say what the slot shows: an empty one is away of all metadata, and of a value only the length is said.
-- Beside `found slot`, which tells the rest, it is exact.
abbrev pub IsShown : Found → Slot → Type 0
IsShown Nothing slot = slot ≡ None
IsShown (Ejected meta) slot = IsAwayOf meta slot
IsShown (Resident meta) slot = (is_some (resident_value slot) ≡ true) × (length (text_of (resident_value slot)) ≡ meta.len)

-- no node's key is empty
abbrev pub IsKeyed : Slot → Type 0
IsKeyed None = Unit {0}
IsKeyed (Some node) = 1 ≤ length node.key

abbrev pub AreKeyed : List Slot → Type 0
AreKeyed [] = Unit {0}
AreKeyed (slot ∷ slots) = IsKeyed slot × AreKeyed slots
