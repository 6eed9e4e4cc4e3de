-- What a call on the outside does to what the object tells.
use Rattle.std.specs.Prelude.{◌≡◌, ℕ, ◌+◌, ◌-◌, ◌^◌, ◌≤◌, Bool, true, false, min, List, [], ◌++◌, take, Option, Some, None, IfSome}
use Rattle.ep_model.specs.Counts.{raised}
use Rattle.ep_edge.specs.declared.source.Got.{Got}
use Rattle.ep_edge.specs.declared.source.Got.TheVariants.{Bytes, End, Failed}
use Rattle.ep_edge.specs.declared.sink.Put.{Put}
use Rattle.ep_edge.specs.declared.sink.Put.TheVariants as put

-- only a failed read is a fault
abbrev pub read_faults : Got → ℕ → ℕ
read_faults (Bytes n) faults = faults
read_faults End faults = faults
read_faults Failed faults = raised faults

-- only a failed write is a fault
abbrev pub write_faults : Put → ℕ → ℕ
write_faults put.Done faults = faults
write_faults put.Failed faults = raised faults

-- the bytes that a read gave, out of its buffer
abbrev pub bytes_read : Got → List ℕ → List ℕ
bytes_read (Bytes n) into = take n into
bytes_read End into = []
bytes_read Failed into = []

abbrev pub is_end : Got → Bool
is_end (Bytes n) = false
is_end End = true
is_end Failed = false

-- these bytes were taken from the front of what was left, where that is told
abbrev pub TakesBytes : Option (List ℕ) → Option (List ℕ) → List ℕ → Type 0
TakesBytes None new bytes = new ≡ None
TakesBytes (Some left) new bytes = (rest : List ℕ) × (left ≡ bytes ++ rest) × (new ≡ Some rest)

-- nothing is left, where that is told
abbrev pub IsEmptied : Option (List ℕ) → Type 0
IsEmptied left = IfSome left (λ bytes. bytes ≡ [])

-- these bytes were put behind what was held, where that is told
abbrev pub Appends : Option (List ℕ) → Option (List ℕ) → List ℕ → Type 0
Appends None new bytes = new ≡ None
Appends (Some held) new bytes = new ≡ Some (held ++ bytes)

-- the same of some front of these bytes
abbrev pub AppendsFront : Option (List ℕ) → Option (List ℕ) → List ℕ → Type 0
AppendsFront old new bytes = (front rest : List ℕ) × (bytes ≡ front ++ rest) × Appends old new front

-- what a sink held and how often it had failed as a write began, and how many bytes that was to write
pub record Offer : Type 0 where
  pub held_before : Option (List ℕ)
  pub faults_before : ℕ
  pub count : ℕ

abbrev pub offer : Option (List ℕ) → ℕ → ℕ → Offer
offer held faults count = record { held_before = held; faults_before = faults; count = count }
