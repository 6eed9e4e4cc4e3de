-- A failover table: pairs of a uuid and a sequence number, newest first.
use Rattle.std.specs.Prelude.{ℕ, List, ◌∷◌, take}

-- the pair goes first, and of more than 25 the oldest goes
abbrev pub with_entry : List (ℕ × ℕ) → ℕ → ℕ → List (ℕ × ℕ)
with_entry entries uuid seqno = take 25 ((uuid, seqno) ∷ entries)
