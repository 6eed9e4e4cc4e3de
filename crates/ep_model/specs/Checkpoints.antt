-- The checkpoints into which a history puts its mutations, after kv_engine.
use Rattle.std.specs.Prelude.{ℕ, ◌+◌, Bool, not, nat_le, if◌then◌else◌, List, [], ◌∷◌, ◌++◌, length, filter, sum_by, Option, Some, None}
use Rattle.std.specs.List.{list_any}
use Rattle.std.specs.Str.{bytes_eq}
use Rattle.ep_model.specs.declared.data.CheckpointData.{CheckpointData}
use Rattle.ep_model.specs.declared.data.CheckpointsData.{CheckpointsData}
use Rattle.ep_model.specs.declared.data.EventData.{EventData}
use Rattle.ep_model.specs.declared.data.EventData.TheVariants.{Persisted}
use Rattle.ep_model.specs.declared.data.FrontData.{FrontData}
use Rattle.ep_model.specs.World.{Item, World, doc_blocks}
use Rattle.ep_model.specs.History.{step}
use Rattle.ep_model.specs.Mutations.{mutation_of, above}
use Rattle.ep_model.specs.Front.{begun, world_of}

-- items of different keys, the oldest first
abbrev pub Checkpoint : Type 0
Checkpoint = CheckpointData

-- the closed checkpoints, the oldest first, and the one into which mutations go
abbrev pub Checkpoints : Type 0
Checkpoints = CheckpointsData

abbrev pub first_checkpoints : Checkpoints
first_checkpoints = record { closed = []; last = record { id = 1; items = [] } }

-- the next checkpoint is opened with these items
abbrev pub then_opened : Checkpoints → List Item → Checkpoints
then_opened c items = record { closed = c.closed ++ c.last ∷ []; last = record { id = c.last.id + 1; items = items } }

-- the open checkpoint is closed where it isn't empty
abbrev pub closed_at : List Item → Checkpoints → Checkpoints
closed_at [] c = c
closed_at (item ∷ items) c = then_opened c []

abbrev pub has_item : List ℕ → List Item → Bool
has_item key items = list_any (λ (item : Item). bytes_eq item.0 key) items

abbrev pub but_item : List ℕ → List Item → List Item
but_item key items = filter (λ (item : Item). not (bytes_eq item.0 key)) items

-- A mutation goes last into the open checkpoint, in place of an older one of its key. Where the checkpoint has as many
-- keys as it may, and not this one, the next is opened.
abbrev pub queued : ℕ → Item → Checkpoints → Checkpoints
queued most item c =
    if has_item item.0 c.last.items then record c { last = record c.last { items = but_item item.0 c.last.items ++ item ∷ [] } } else
    if nat_le most (length c.last.items) then then_opened c (item ∷ []) else
    record c { last = record c.last { items = c.last.items ++ item ∷ [] } }

abbrev pub queued_if : ℕ → Option Item → Checkpoints → Checkpoints
queued_if most None c = c
queued_if most (Some item) c = queued most item c

-- one event further: what is stored closes the open checkpoint, so that that never holds an item which is stored
abbrev pub cut_after : ℕ → World → Checkpoints → EventData → Checkpoints
cut_after most w c (Persisted number) = closed_at c.last.items c
cut_after most w c event = queued_if most (mutation_of w event) c

abbrev pub cut_in : ℕ → World → Checkpoints → List EventData → Checkpoints
cut_in most w c [] = c
cut_in most w c (event ∷ events) = cut_in most (step w event) (cut_after most w c event) events

-- the checkpoints of a history
unfoldable pub cut : FrontData → Checkpoints
cut f = cut_in f.config.ckpt_max (begun f) first_checkpoints f.events

abbrev pub all_items : List Checkpoint → List Item
all_items [] = []
all_items (c ∷ checkpoints) = c.items ++ all_items checkpoints

-- the items of all checkpoints above a number, the oldest first
abbrev pub items_above : ℕ → Checkpoints → List Item
items_above number c = above number (all_items c.closed ++ c.last.items)

-- the items that aren't stored
abbrev pub kept : FrontData → List Item
kept f = items_above (world_of f).persisted (cut f)

abbrev pub item_blocks : List Item → ℕ
item_blocks items = sum_by (λ (item : Item). doc_blocks item.0 item.1) items
