-- Slots that hold something.
use Rattle.std.specs.Prelude.{◌≡◌, ℕ, ◌<◌, List, length, Option, Some}
use mathlib.Core.Option.{some}
use lib.ListN.{get_elem?}

-- each slot holds a part
abbrev pub AreFilled : {P : Type 0} → List (Option P) → Type 0
AreFilled {P} slots = (k : ℕ) → k < length slots → (x : P) × (get_elem? slots k ≡ some (Some x))
