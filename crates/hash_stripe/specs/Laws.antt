-- What calls leave of each slot, and under each key.
use Rattle.std.specs.Prelude.{ℕ, ◌≡◌, ◌≢◌, ◌<◌, ◌≤◌, ◌+◌, List, length, map, count_by, Some, None}
use Rattle.ep_model.specs.declared.config.Eviction.{Eviction}
use Rattle.hash_stripe.specs.Nodes.{NodeData, Slot, at, node_at, node_blocks, others_blocks, others_pinned, victim, EjectsOthers, IsLeft, Restores, placed, eject_slot, heated, cooled, is_resident, is_ejected}
use Rattle.hash_stripe.specs.Stripes.{StripeData, IsStripe, Fits, free_of, at_key}

-- Ejecting for a key leaves each slot as it was, but those out of which a clean document of another key was ejected.
abbrev pub EjectingIsSlotwise : Type 0
EjectingIsSlotwise =
    (eviction : Eviction) (mark : ℕ) (key : List ℕ) (need : ℕ) (old new : List Slot) → EjectsOthers eviction mark key need old new
    → (slot : ℕ) → IsLeft eviction mark key (at old slot) (at new slot)

-- So it leaves under each key what was there, or what ejecting leaves of a clean document of another key.
abbrev pub EjectingIsKeywise : Type 0
EjectingIsKeywise =
    (s : StripeData) (key : List ℕ) (need : ℕ) (new : List Slot) → IsStripe s → EjectsOthers s.eviction s.mark key need s.slots new
    → (other : List ℕ) → IsLeft s.eviction s.mark key (node_at s.slots other) (node_at new other)

-- under a key is this, and under all others what was there
pub record IsChanged (old new : List Slot) (key : List ℕ) (slot : Slot) : Type 0 where
  pub there : node_at new key ≡ slot
  pub rest : (other : List ℕ) → other ≢ key → node_at new other ≡ node_at old other

-- A node that fits is put under its key.
abbrev pub PlacingIsKeywise : Type 0
PlacingIsKeywise =
    (s : StripeData) (node : NodeData) → IsStripe s → 1 ≤ length node.key → Fits node.key (node_blocks node) s.slots
    → IsChanged s.slots (placed s.slots node) node.key (Some node)

-- So it is where a document is put back, and all other keys have what ejecting left.
pub record IsRestored (s : StripeData) (node : NodeData) (new : List Slot) : Type 0 where
  pub there : node_at new node.key ≡ Some node
  pub rest : (other : List ℕ) → other ≢ node.key → IsLeft s.eviction s.mark node.key (node_at s.slots other) (node_at new other)

abbrev pub RestoringIsKeywise : Type 0
RestoringIsKeywise =
    (s : StripeData) (node : NodeData) (new : List Slot) → IsStripe s → 1 ≤ length node.key
    → Restores s.eviction s.mark (node_blocks node) node s.slots new → IsRestored s node new

-- The node of a key is used, or its document ejected.
abbrev pub HeatingIsKeywise : Type 0
HeatingIsKeywise =
    (s : StripeData) (key : List ℕ) → IsStripe s → IsChanged s.slots (at_key heated s.slots key) key (heated (node_at s.slots key))

abbrev pub DroppingIsKeywise : Type 0
DroppingIsKeywise =
    (s : StripeData) (key : List ℕ) → IsStripe s
    → IsChanged s.slots (at_key (eject_slot s.eviction) s.slots key) key (eject_slot s.eviction (node_at s.slots key))

-- All nodes are one older.
abbrev pub CoolingIsKeywise : Type 0
CoolingIsKeywise = (s : StripeData) (key : List ℕ) → IsStripe s → node_at (map cooled s.slots) key ≡ cooled (node_at s.slots key)

-- The node in a slot is its key's.
abbrev pub SlotsAreKeywise : Type 0
SlotsAreKeywise =
    (s : StripeData) (slot : ℕ) (node : NodeData) → IsStripe s → at s.slots slot ≡ Some node
    → node_at s.slots node.key ≡ Some node

-- this node of a key stands in a slot
pub record HasSlot (slots : List Slot) (key : List ℕ) (node : NodeData) : Type 0 where
  pub slot : ℕ
  pub within : slot < length slots
  pub there : at slots slot ≡ Some node
  pub keyed : node.key ≡ key

-- Each key's node stands in some slot.
abbrev pub KeysHaveSlots : Type 0
KeysHaveSlots = (slots : List Slot) (key : List ℕ) (node : NodeData) → node_at slots key ≡ Some node → HasSlot slots key node

-- Nodes of one key stand in one slot.
abbrev pub SlotsAreApart : Type 0
SlotsAreApart =
    (s : StripeData) (one other : ℕ) (node twin : NodeData) → IsStripe s → at s.slots one ≡ Some node → at s.slots other ≡ Some twin
    → node.key ≡ twin.key → one ≡ other

-- as many slots, and the blocks of other keys that no ejecting frees
pub record KeepsPinned (eviction : Eviction) (mark : ℕ) (key : List ℕ) (old new : List Slot) : Type 0 where
  pub slots : length new ≡ length old
  pub pinned : others_pinned eviction mark key new ≡ others_pinned eviction mark key old

-- Ejecting for a key keeps these.
abbrev pub EjectingKeepsPinned : Type 0
EjectingKeepsPinned =
    (eviction : Eviction) (mark : ℕ) (key : List ℕ) (need : ℕ) (old new : List Slot) → EjectsOthers eviction mark key need old new
    → KeepsPinned eviction mark key old new

-- Where none is left to eject, the others take these blocks alone.
abbrev pub EjectingLeavesPinned : Type 0
EjectingLeavesPinned =
    (s : StripeData) (key : List ℕ) (need : ℕ) (new : List Slot) → IsStripe s → EjectsOthers s.eviction s.mark key need s.slots new
    → victim s.mark key new ≡ None → others_blocks key new ≡ others_pinned s.eviction s.mark key s.slots

-- Each node takes a block at least.
abbrev pub NodesTakeBlocks : Type 0
NodesTakeBlocks =
    (s : StripeData) → IsStripe s
    → count_by is_resident s.slots + count_by is_ejected s.slots + free_of s ≤ length s.slots
