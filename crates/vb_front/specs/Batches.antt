-- What a flusher reads from a queue.
use Rattle.std.specs.Prelude.{◌≡◌, ℕ, ◌≤◌, true, List, map}
use Rattle.std.specs.Option.{option_map}
use Rattle.ep_model.specs.declared.data.FrontData.{FrontData}
use Rattle.ep_model.specs.World.{Item, doc_from}
use Rattle.ep_model.specs.Mutations.{above}
use Rattle.ep_model.specs.Front.{world_of}
use Rattle.hold_stage.specs.Histories.{puts_of, last_of, IsBatchAbove}
use Rattle.hold_stage.specs.Numbers.{numbers_of}
use Rattle.ckpt_items.specs.declared.data.ItemData.{ItemData}
use Rattle.ckpt_manager.specs.declared.data.QueueData.{QueueData}
use Rattle.ckpt_manager.specs.Queue.{held, items_above}
use Rattle.ckpt_manager.specs.Sound.{IsSoundQueue}
use Rattle.vb_front.specs.Stands.{QueueStands}

-- a held item's document under its key
abbrev pub item_of : ItemData → Item
item_of held = (held.key, doc_from held.meta held.value)

-- what a walk through a queue meets behind a number
abbrev pub read_behind : QueueData → ℕ → List Item
read_behind q number = map item_of (items_above number (held q))

-- A queue that stands holds the last mutation of each key behind any number that isn't below what is stored, so that what is
-- read there, laid over what a store holds, gives what there is.
abbrev pub QueuesHoldBatches : Type 0
QueuesHoldBatches = (f : FrontData) (q : QueueData) (number : ℕ) → (world_of f).told ≡ true → IsSoundQueue q → QueueStands f q
    → (world_of f).persisted ≤ number → IsBatchAbove f number (read_behind q number)

-- Where no documents are known the numbers of each key's last mutation are read.
abbrev pub QueuesHoldNumbers : Type 0
QueuesHoldNumbers = (f : FrontData) (q : QueueData) (number : ℕ) → IsSoundQueue q → QueueStands f q
    → (world_of f).persisted ≤ number → (key : List ℕ)
    → option_map numbers_of (last_of key (read_behind q number)) ≡ option_map numbers_of (last_of key (above number (puts_of f)))
