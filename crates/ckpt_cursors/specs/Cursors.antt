-- Named positions: pairs of a name and a position, in the order in which they were put.
use Rattle.std.specs.Prelude.{ℕ, ◌==◌, not, nat_le, if◌then◌else◌, List, [], ◌∷◌, Option, Some, None, filter}
use Rattle.std.specs.Option.{option_map}
use Rattle.std.specs.List.{find}

abbrev pub Positions : Type 0
Positions = List (ℕ × ℕ)

abbrev pub position_of : Positions → ℕ → Option ℕ
position_of cs name = option_map (λ (c : ℕ × ℕ). c.1) (find (λ (c : ℕ × ℕ). c.0 == name) cs)

abbrev pub without : Positions → ℕ → Positions
without cs name = filter (λ (c : ℕ × ℕ). not (c.0 == name)) cs

-- whichever stands lower, and of two at one position the first
abbrev pub lower_of : ℕ × ℕ → Option (ℕ × ℕ) → ℕ × ℕ
lower_of c None = c
lower_of c (Some d) = if nat_le c.1 d.1 then c else d

-- the first of those at the least position
abbrev pub first_least : Positions → Option (ℕ × ℕ)
first_least [] = None
first_least (c ∷ cs) = Some (lower_of c (first_least cs))

abbrev pub least_of : Positions → Option ℕ
least_of cs = option_map (λ (c : ℕ × ℕ). c.1) (first_least cs)

abbrev without_some : Positions → Option (ℕ × ℕ) → Positions
without_some cs None = cs
without_some cs (Some c) = without cs c.0

-- the first of those at the least position went
abbrev pub without_least : Positions → Positions
without_least cs = without_some cs (first_least cs)

-- the lower of the lowest so far, where there is one, and another
abbrev pub still_least : Option (ℕ × ℕ) → ℕ × ℕ → ℕ × ℕ
still_least None d = d
still_least (Some c) d = if nat_le c.1 d.1 then c else d
