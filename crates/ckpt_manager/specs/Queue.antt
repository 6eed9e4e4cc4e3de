-- What the calls of a queue do to its checkpoints.
use Rattle.std.specs.Prelude.{ℕ, ◌≡◌, ◌≤◌, ◌<◌, ◌+◌, ◌-◌, min, max, Bool, false, not, nat_le, ◌==◌, ◌&&◌, if◌then◌else◌, List, [], ◌∷◌, ◌++◌, length, take, drop, filter, All, Option, Some, None, MatchOption, is_none}
use Rattle.std.specs.List.{find}
use Rattle.ep_model.specs.World.{blocks}
use Rattle.ep_model.specs.declared.call.Meta.{Meta}
use Rattle.ep_model.specs.declared.call.VbState.TheVariants.{Active}
use Rattle.ckpt_items.specs.declared.data.ItemData.{ItemData}
use Rattle.ckpt_items.specs.Items.{blocks_of, is_of, is_above}
use Rattle.ckpt_manager.specs.declared.data.QueueData.{QueueData}

-- all items, in the order of their numbers
abbrev pub held : QueueData → List ItemData
held q = q.closed ++ q.last

-- how many blocks no item takes
abbrev pub free_blocks : QueueData → ℕ
free_blocks q = q.blocks - blocks_of (held q)

abbrev pub items_above : ℕ → List ItemData → List ItemData
items_above n items = filter (is_above n) items

-- the items of other keys
abbrev pub without_key : List ItemData → List ℕ → List ItemData
without_key items key = filter (λ (i : ItemData). not (is_of key i)) items

-- the items that the store doesn't have
abbrev pub kept : QueueData → List ItemData
kept q = items_above q.persisted (held q)

-- the open checkpoint is closed, and the next one is open at once
abbrev pub closed : QueueData → QueueData
closed q = record q { closed = held q; last = []; id = q.id + 1 }

-- the open checkpoint holds as many keys as it may, and not this one
abbrev pub is_full_of_others : QueueData → List ℕ → Bool
is_full_of_others q key = nat_le q.ckpt_max (length q.last) && is_none (find (is_of key) q.last)

-- a mutation that takes a sequence number
abbrev pub item_of : List ℕ → Meta → List ℕ → ℕ → ItemData
item_of key meta value n = record { key = key; meta = record meta { seqno = n }; value = value }

-- the key's item of the open checkpoint goes
abbrev pub thinned : QueueData → List ℕ → QueueData
thinned q key = record q { last = without_key q.last key }

-- Place is made for a mutation: a checkpoint that is full of other keys is closed, and else an older item of the key in
-- the open checkpoint goes.
abbrev pub cleared : QueueData → List ℕ → QueueData
cleared q key = if is_full_of_others q key then closed q else thinned q key

-- the mutation takes the next number, last in the open checkpoint
abbrev pub put_last : QueueData → List ℕ → Meta → List ℕ → QueueData
put_last q key meta value = record q { last = q.last ++ item_of key meta value (q.high + 1) ∷ []; high = q.high + 1; maxcas = meta.cas }

abbrev pub queued : QueueData → List ℕ → Meta → List ℕ → QueueData
queued q key meta value = put_last (cleared q key) key meta value

-- the blocks of the kept items once this one is queued, a value being so many bytes long
abbrev pub kept_with : QueueData → List ℕ → ℕ → ℕ
kept_with q key len =
    blocks_of (items_above q.persisted q.closed) + blocks_of (items_above q.persisted (without_key q.last key)) + (blocks (length key) + blocks len)

-- the blocks of the item that this one takes the place of
abbrev pub replaced_blocks : QueueData → List ℕ → ℕ
replaced_blocks q key = blocks_of (filter (is_of key) q.last)

-- there are blocks for an item of this key with so many bytes of value, those of the item of which it takes the place
-- among them
abbrev pub CanHold : QueueData → List ℕ → ℕ → Type 0
CanHold q key len = blocks (length key) + blocks len ≤ free_blocks q + replaced_blocks q key

-- the least of some positions and n
abbrev pub lowest : ℕ → List (ℕ × ℕ) → ℕ
lowest n [] = n
lowest n (c ∷ cs) = min c.1 (lowest n cs)

-- the position that every cursor has reached: the persistence cursor, its backup and the named ones
abbrev pub least_cursor : QueueData → ℕ
least_cursor q = lowest (min q.persisted q.cursor) q.named

-- some items of closed checkpoints that every cursor has passed went
pub record Expelled (old new : QueueData) : Type 0 where
  pub count : ℕ
  pub passed : All (λ (i : ItemData). i.meta.seqno ≤ least_cursor old) (take count old.closed)
  pub after : new ≡ record old { closed = drop count old.closed }

-- no more went than had to: with fewer of them gone there is no room for an item of this key with so many bytes of value
abbrev pub NoneTooMany : QueueData → QueueData → List ℕ → ℕ → Type 0
NoneTooMany old new key len = (count : ℕ) → count + length new.closed < length old.closed
    → CanHold (record old { closed = drop count old.closed }) key len → ⊥

-- every cursor has passed none of the items
abbrev pub NonePassed : QueueData → Type 0
NonePassed q = All (λ (i : ItemData). least_cursor q < i.meta.seqno) (held q)

-- the oldest item goes, which every cursor has passed
pub record ExpelsOne (old new : QueueData) : Type 0 where
  pub some : 0 < length old.closed
  pub passed : All (λ (i : ItemData). i.meta.seqno ≤ least_cursor old) (take 1 old.closed)
  pub after : new ≡ record old { closed = drop 1 old.closed }

-- some cursor stands below all items
pub record ExpelsNone (old new : QueueData) : Type 0 where
  pub same : new ≡ old
  pub ahead : NonePassed old

abbrev pub closed_if_any : QueueData → QueueData
closed_if_any q = if length q.last == 0 then q else closed q

-- All up to this number is stored: the backup moves there, the persistence cursor too where it stands below, and an open
-- checkpoint that isn't empty is closed.
abbrev pub moved_up : QueueData → ℕ → QueueData
moved_up q n = record q { cursor = max q.cursor n; persisted = n }

abbrev pub stored : QueueData → ℕ → QueueData
stored q n = moved_up (closed_if_any q) n

-- a queue that begins with what a store holds
abbrev pub begun : QueueData → ℕ → ℕ → List (ℕ × ℕ) → QueueData
begun q high maxcas table =
    record q { id = 1; cursor = high; persisted = high; high = high; maxcas = maxcas; table = table; state = Active; opened = false }

-- a queue without items
abbrev pub fresh : ℕ → ℕ → QueueData
fresh most ckpt_max = record {
  closed = [];
  last = [];
  id = 1;
  blocks = most;
  ckpt_max = ckpt_max;
  cursor = 0;
  persisted = 0;
  named = [];
  high = 0;
  maxcas = 0;
  table = [];
  state = Active;
  opened = false;
}

-- the later of two, where it is there
abbrev pub later_of : Option ItemData → Option ItemData → Option ItemData
later_of None earlier = earlier
later_of (Some later) earlier = Some later

-- the last item of a key
abbrev pub last_of : List ℕ → List ItemData → Option ItemData
last_of key [] = None
last_of key (i ∷ is) = later_of (last_of key is) (if is_of key i then Some i else None)

-- the last item of a key above a number: what a batch taken there holds of the key
abbrev pub last_above : QueueData → ℕ → List ℕ → Option ItemData
last_above q n key = last_of key (items_above n (held q))

-- What is last of a key above a number that was reached: this item, and of other keys what was.
abbrev pub LastIs : QueueData → QueueData → ItemData → Type 0
LastIs old new item =
    (n : ℕ) (k : List ℕ) → n ≤ old.high → last_above new n k ≡ (if is_of k item then Some item else last_above old n k)

-- What is last of a key above a number that every cursor has reached stays.
abbrev pub LastStays : QueueData → QueueData → Type 0
LastStays old new = (n : ℕ) (k : List ℕ) → least_cursor old ≤ n → last_above new n k ≡ last_above old n k

-- what a read of the next item above n gives: nothing, or the number of the item behind which the others are read
abbrev pub ReadsOn : ℕ → List ItemData → Option ℕ → Type 0
ReadsOn n items next =
    MatchOption next (items_above n items ≡ []) (λ m. (i : ItemData) × (i.meta.seqno ≡ m) × (items_above n items ≡ i ∷ items_above m items))
