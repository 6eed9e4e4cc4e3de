-- Items as plain data.
use Rattle.std.specs.Prelude.{ℕ, ◌≡◌, ◌<◌, ◌+◌, ◌-◌, length, Bool, not, ◌==◌, nat_lt, List, [], ◌++◌, filter, Option, None, Some}
use Rattle.std.specs.Option.{option_map}
use Rattle.std.specs.List.{find, sum_by, AllPairs}
use Rattle.std.specs.Str.{bytes_eq}
use Rattle.ep_model.specs.Limits.{IsKey, IsValue}
use Rattle.ep_model.specs.World.{blocks}
use Rattle.ckpt_items.specs.declared.data.ItemData.{ItemData}
use Rattle.ckpt_items.specs.declared.data.ItemsData.{ItemsData}

-- all items, in order
abbrev pub all_items : ItemsData → List ItemData
all_items items = items.closed ++ items.last

abbrev pub item_blocks : ItemData → ℕ
item_blocks item = blocks (length item.key) + blocks (length item.value)

-- the blocks of some items
abbrev pub blocks_of : List ItemData → ℕ
blocks_of items = sum_by item_blocks items

-- the blocks that no item has
abbrev pub free_of : ItemsData → ℕ
free_of items = items.blocks - blocks_of (all_items items)

-- the key and the value are within their limits, and the metadata tell the value's length
pub record IsFit (item : ItemData) : Type 0 where
  pub key : IsKey item.key
  pub value : IsValue item.value
  pub len : item.meta.len ≡ length item.value

-- each number is below those of the items behind
abbrev pub AreRising : List ItemData → Type 0
AreRising items = AllPairs (λ (i j : ItemData). i.meta.seqno < j.meta.seqno) items

abbrev pub is_of : List ℕ → ItemData → Bool
is_of key item = bytes_eq item.key key

abbrev pub is_above : ℕ → ItemData → Bool
is_above n item = nat_lt n item.meta.seqno

abbrev pub has_number : ℕ → ItemData → Bool
has_number n item = item.meta.seqno == n

abbrev pub number_of : Option ItemData → Option ℕ
number_of item = option_map (λ (i : ItemData). i.meta.seqno) item

-- the items but for the one of a number
abbrev pub without_number : List ItemData → ℕ → List ItemData
without_number items n = filter (λ (i : ItemData). not (i.meta.seqno == n)) items

abbrev pub key_of : Option ItemData → List ℕ
key_of None = []
key_of (Some item) = item.key

abbrev pub value_of : Option ItemData → List ℕ
value_of None = []
value_of (Some item) = item.value

-- the item of a number
abbrev pub item_at : ItemsData → ℕ → Option ItemData
item_at items n = find (has_number n) (all_items items)
