-- How long ago a document was used.
use Rattle.std.specs.Prelude.{ℕ, ◌+◌, min}

-- one older, at most 3
abbrev pub older : ℕ → ℕ
older age = min (age + 1) 3
