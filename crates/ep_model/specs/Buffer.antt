-- What a buffer's bytes become.
use Rattle.std.specs.Prelude.{ℕ, ◌+◌, List, ◌++◌, length, take, drop}

-- bytes put over those that stand from a place on
abbrev pub put_over : ℕ → List ℕ → List ℕ → List ℕ
put_over at bytes old = take at old ++ bytes ++ drop (at + length bytes) old
