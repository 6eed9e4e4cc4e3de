-- What source, sink and clock tell at one moment of the program.
use Rattle.std.specs.Prelude.{◌≡◌, ℕ, Bool, List, Option}
use Rattle.ep_edge.specs.Edge.{Offer}

pub record Outside : Type 0 where
  -- the bytes that the source has left and had left as its last read began, whether it has answered its end and had
  -- as its last read began, and how often it failed
  pub left : Option (List ℕ)
  pub left_before : Option (List ℕ)
  pub has_ended : Bool
  pub ended_before : Bool
  pub read_faults : ℕ
  -- the bytes that the sink holds, what it held and how often it had failed as its last write began and how long that
  -- was, and how often it failed
  pub held : Option (List ℕ)
  pub last_offer : Offer
  pub write_faults : ℕ
  -- the moment that the k-th next call of the clock gives
  pub moment : ℕ → Option ℕ

-- what they tell, put together
abbrev pub outside : Option (List ℕ) → Option (List ℕ) → Bool → Bool → ℕ → Option (List ℕ) → Offer → ℕ → (ℕ → Option ℕ) → Outside
outside left left_before has_ended ended_before read_faults held last_offer write_faults moment = record { left = left; left_before = left_before; has_ended = has_ended; ended_before = ended_before; read_faults = read_faults; held = held; last_offer = last_offer; write_faults = write_faults; moment = moment }

-- what the source told as its last read began is what it tells at this moment
pub record BeganAt (mid now : Outside) : Type 0 where
  pub left : now.left_before ≡ mid.left
  pub ended : now.ended_before ≡ mid.has_ended

-- it wasn't read in between
pub record IsReadNoMore (mid now : Outside) : Type 0 where
  pub left : now.left_before ≡ mid.left_before
  pub ended : now.ended_before ≡ mid.ended_before
