-- A piece of the stream that a feeder read from a source.
use Rattle.std.specs.Prelude.{◌≡◌, ℕ, List, ◌++◌, length, Option}
use Rattle.ep_edge.specs.declared.source.Got.{Got}
use Rattle.ep_edge.specs.declared.source.Got.TheVariants.{Bytes, End, Failed}
use Rattle.ep_edge.specs.Edge.{TakesBytes}

-- how many bytes a read gave
abbrev pub count_of : Got → ℕ
count_of (Bytes n) = n
count_of End = 0
count_of Failed = 0

-- what a read took from the source stands behind what was held
pub record Feeds (got : Got) (old new : List ℕ) (left now : Option (List ℕ)) : Type 0 where
  pub piece : List ℕ
  pub fed : new ≡ old ++ piece
  pub takes : TakesBytes left now piece
  pub count : length piece ≡ count_of got
