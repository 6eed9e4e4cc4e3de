-- How items lie in a pool.
use Rattle.std.specs.Prelude.{◌≡◌, ◌≢◌, ℕ, ◌<◌, ◌≤◌, Option, MatchOption, List, [], ◌∷◌, length, take, drop, map, slice_index_or, All}
use Rattle.value_pool.specs.Pools.{Held, bytes_at}
use Rattle.value_pool.specs.Owned.{Owns}
use Rattle.ckpt_items.specs.declared.item.Item.{Item}
use Rattle.ckpt_items.specs.declared.data.ItemData.{ItemData}
use Rattle.ckpt_items.specs.declared.data.ItemsData.{ItemsData}
use Rattle.ckpt_items.specs.Items.{IsFit}

abbrev pub data_of : Held → Item → ItemData
data_of pool item = record { key = bytes_at pool item.key; meta = item.meta; value = bytes_at pool item.value }

abbrev pub datas : Held → List Item → List ItemData
datas pool items = map (data_of pool) items

-- the first so many items are those of closed checkpoints
abbrev pub items_data : Held → List Item → ℕ → ItemsData
items_data pool items closed =
    record { closed = take closed (datas pool items); last = drop closed (datas pool items); blocks = length pool.texts }

-- each item's chains, with the bytes that they hold
unfoldable pub chains_of : List Item → List ItemData → List (ℕ × List ℕ)
chains_of [] ds = []
chains_of (x ∷ xs) [] = []
chains_of (x ∷ xs) (d ∷ ds) = (x.key, d.key) ∷ (x.value, d.value) ∷ chains_of xs ds

-- the numbers rise
abbrev pub IsRising : List Item → Type 0
IsRising items =
    (i j : ℕ) (d : Item) → i < j → j < length items → (slice_index_or items i d).meta.seqno < (slice_index_or items j d).meta.seqno

-- the place of the item with this number, where there is one
abbrev pub IsPlace : List Item → ℕ → Option ℕ → Type 0
IsPlace items n place =
    MatchOption place ((k : ℕ) (d : Item) → k < length items → (slice_index_or items k d).meta.seqno ≢ n)
    (λ i. (i < length items) × ((d : Item) → (slice_index_or items i d).meta.seqno ≡ n))

-- the items' chains are all that the pool has, and there is room for an item of each block
pub record IsStored (pool : Held) (items : List Item) (closed capacity : ℕ) : Type 0 where
  pub owns : Owns pool (chains_of items (datas pool items))
  pub bound : closed ≤ length items
  pub room : length pool.texts ≤ capacity
  pub few : length pool.texts ≤ 16777216
  pub fit : All IsFit (datas pool items)
  pub rising : IsRising items
