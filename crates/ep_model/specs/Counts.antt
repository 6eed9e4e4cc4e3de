-- Counts of failures. A count that stands at 2^64 - 1 stays there.
use Rattle.std.specs.Prelude.{◌≡◌, ℕ, ◌+◌, ◌-◌, ◌^◌, ◌≤◌, min}

-- a count after one more
abbrev pub raised : ℕ → ℕ
raised count = min (count + 1) (2 ^ 64 - 1)

-- a count rose, or stands where it can't rise any more
abbrev pub Rose : ℕ → ℕ → Type 0
Rose old new = min (old + 1) (2 ^ 64 - 1) ≤ new

-- it rose by one
abbrev pub RoseByOne : ℕ → ℕ → Type 0
RoseByOne old new = new ≡ raised old
