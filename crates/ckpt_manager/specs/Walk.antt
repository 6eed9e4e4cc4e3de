-- How a batch is read: the items above a number, met one after the other.
use Rattle.std.specs.Prelude.{ℕ, ◌≡◌, ◌<◌, List, [], ◌∷◌, ◌++◌, map, Some, None}
use Rattle.std.specs.List.{find}
use Rattle.ckpt_items.specs.declared.data.ItemData.{ItemData}
use Rattle.ckpt_items.specs.Items.{IsFit, has_number}
use Rattle.ckpt_manager.specs.declared.data.QueueData.{QueueData}
use Rattle.ckpt_manager.specs.Queue.{held, items_above, last_of, last_above, ReadsOn}
use Rattle.ckpt_manager.specs.Sound.{IsSoundQueue}

-- the item is the next one above n, and m is its number
pub record Meets (q : QueueData) (n m : ℕ) (item : ItemData) : Type 0 where
  pub above : n < m
  pub number : item.meta.seqno ≡ m
  pub there : find (has_number m) (held q) ≡ Some item
  pub fit : IsFit item
  pub rest : items_above n (held q) ≡ item ∷ items_above m (held q)

-- From n on these items were met under these numbers, and `at` is the last number.
abbrev pub HasWalked : QueueData → ℕ → List (ℕ × ItemData) → ℕ → Type 0
HasWalked q n [] at = at ≡ n
HasWalked q n (x ∷ xs) at = Meets q n x.0 x.1 × HasWalked q x.0 xs at

abbrev pub items_met : List (ℕ × ItemData) → List ItemData
items_met met = map (λ (x : ℕ × ItemData). x.1) met

-- a walk, and one item more
abbrev pub WalksOn : QueueData → ℕ → ℕ → List (ℕ × ItemData) → ℕ → Type 0
WalksOn q n at met m = (item : ItemData) × (Meets q at m item × HasWalked q n (met ++ (m, item) ∷ []) m)

-- Each read that gives a number makes the walk one item longer.
abbrev pub ReadsGoOn : Type 0
ReadsGoOn = (q : QueueData) (n at m : ℕ) (met : List (ℕ × ItemData)) → IsSoundQueue q → HasWalked q n met at
    → ReadsOn at (held q) (Some m) → WalksOn q n at met m

-- a walk has met all items above n, and so of each key the last one last
pub record MeetsAll (q : QueueData) (n : ℕ) (met : List (ℕ × ItemData)) : Type 0 where
  pub all : items_met met ≡ items_above n (held q)
  pub last : (key : List ℕ) → last_of key (items_met met) ≡ last_above q n key

-- Where a read gives nothing, the walk has met all.
abbrev pub ReadsMeetAll : Type 0
ReadsMeetAll = (q : QueueData) (n at : ℕ) (met : List (ℕ × ItemData)) → HasWalked q n met at → ReadsOn at (held q) None → MeetsAll q n met
