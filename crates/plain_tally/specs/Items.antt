-- Items and checkpoints as plain data.
use Rattle.std.specs.Prelude.{ℕ, nat_lt, not, if◌then◌else◌, List, map}
use Rattle.std.specs.Str.{bytes_eq}
use Rattle.ep_model.specs.declared.config.Eviction.{Eviction}
use Rattle.ep_model.specs.declared.data.CheckpointData.{CheckpointData}
use Rattle.ep_model.specs.declared.data.CheckpointsData.{CheckpointsData}
use Rattle.ep_model.specs.World.{Item, blank_doc, doc_blocks}
use Rattle.ep_model.specs.Quota.{is_other, pinned_blocks}
use Rattle.plain_tally.specs.declared.item.PlainItem.{PlainItem}
use Rattle.plain_tally.specs.declared.checkpoints.PlainCheckpoint.{PlainCheckpoint}

abbrev pub item_data : PlainItem → Item
item_data item = (
  item.key.items,
  record blank_doc {
    value = item.value.items;
    flags = item.flags;
    expiry = item.expiry;
    cas = item.cas;
    seqno = item.seqno;
    deleted = item.deleted;
  },
)

abbrev pub items_data : List PlainItem → List Item
items_data items = map item_data items

abbrev pub checkpoint_data : PlainCheckpoint → CheckpointData
checkpoint_data c = record { id = c.id; items = items_data c.items.items }

abbrev pub checkpoints_data : List PlainCheckpoint → PlainCheckpoint → CheckpointsData
checkpoints_data closed last = record { closed = map checkpoint_data closed; last = checkpoint_data last }

-- what an item counts for in a stripe
abbrev pub pinned_cost : Eviction → ℕ → ℕ → ℕ → List ℕ → PlainItem → ℕ
pinned_cost eviction stripes stripe mark key item =
    if is_other stripes stripe key item.key.items then pinned_blocks eviction mark item.key.items (item_data item).1 else 0

-- and where it is kept
abbrev pub kept_cost : ℕ → PlainItem → ℕ
kept_cost number item = if nat_lt number item.seqno then doc_blocks item.key.items (item_data item).1 else 0

-- where this key's count for nothing
abbrev pub other_cost : ℕ → List ℕ → PlainItem → ℕ
other_cost number key item = if not (bytes_eq item.key.items key) then kept_cost number item else 0
