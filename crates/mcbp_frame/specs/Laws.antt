-- The laws of the division: each text divides in exactly one way, and its rest is of exactly one kind.
use Rattle.std.specs.Prelude.{◌≡◌, ◌⊎◌, ◌++◌, ℕ, List}
use Rattle.mcbp_frame.specs.Division.{Divides, HasBadMagic, IsTooLong, IsPartial}

-- what divides a text is unique
abbrev pub OneDivision : Type 0
OneDivision = (text : List ℕ) (frames frames' : List (List ℕ)) (rest rest' : List ℕ) → Divides text frames rest → Divides text frames' rest' → (frames ≡ frames') × (rest ≡ rest')

-- each text has frames and a rest
abbrev pub SomeDivision : Type 0
SomeDivision = (text : List ℕ) → (frames : List (List ℕ)) × (rest : List ℕ) × Divides text frames rest

-- the kinds of a rest, which say why it begins with no frame
abbrev pub IsRest : List ℕ → Type 0
IsRest rest = IsPartial rest ⊎ (HasBadMagic rest ⊎ IsTooLong rest)

-- what is left over is of one of the three kinds
abbrev pub RestIsOfAKind : Type 0
RestIsOfAKind = (text : List ℕ) (frames : List (List ℕ)) (rest : List ℕ) → Divides text frames rest → IsRest rest

-- no rest is of two kinds
abbrev pub KindsAreApart : Type 0
KindsAreApart = (rest : List ℕ) → (IsPartial rest → HasBadMagic rest → ⊥) × (IsPartial rest → IsTooLong rest → ⊥) × (HasBadMagic rest → IsTooLong rest → ⊥)

-- A division goes on as more bytes come: the frames stay, and the rest with the new bytes divides into those that follow.
abbrev pub DivisionGoesOn : Type 0
DivisionGoesOn = (text more : List ℕ) (frames later : List (List ℕ)) (rest rest' : List ℕ) → Divides text frames rest → Divides (rest ++ more) later rest' → Divides (text ++ more) (frames ++ later) rest'
