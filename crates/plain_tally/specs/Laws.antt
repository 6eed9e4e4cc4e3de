-- Laws of what is counted.
use Rattle.std.specs.Prelude.{◌≡◌, ℕ, ◌&&◌, Bool, true, not, List, [], ◌∷◌, filter}
use Rattle.std.specs.FinMap as finmap
use Rattle.ep_model.specs.World.{World, Item}
use Rattle.ep_model.specs.Checkpoints.{has_item}
use Rattle.ep_model.specs.Quota.{is_other, pinned_sum, pinned}

-- no two have one key
abbrev pub are_distinct : List Item → Bool
are_distinct [] = true
are_distinct (entry ∷ entries) = not (has_item entry.0 entries) && are_distinct entries

abbrev pub PinnedOfList : Type 0
PinnedOfList = (w : World) (entries : List Item) (stripe mark : ℕ) (key : List ℕ) → are_distinct entries ≡ true → w.docs ≡ finmap.from_entries entries
    → pinned w stripe mark key ≡ pinned_sum w.eviction mark (filter (λ (entry : Item). is_other w.stripes stripe key entry.0) entries)
