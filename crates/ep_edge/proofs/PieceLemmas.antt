-- What a read takes and a write puts, over lists.
use Rattle.std.proofs.Common.{◌≡◌, ◌≤◌, ℕ, ◌+◌, ◌-◌, min, Bool, false, ◌||◌, List, ◌++◌, length, take, drop, Option, Some, sym, ap, ◌∙◌, subst}
use Rattle.std.proofs.lemmas.List.{drop_min, drop-drop, take_rest, take-append-drop}
use Rattle.std.proofs.Math.Seq.{take-add}
use Rattle.std.proofs.KnownBytes.{Appends-trans}
use Rattle.std.specs.Io.KnownBytes.{Appends}
use Rattle.ep_edge.specs.Edge.{AppendsFront}
use Rattle.ep_edge.specs.declared.data.FailuresData.{FailuresData}
use Rattle.ep_edge.specs.declared.data.SourceData.{SourceData}
use Rattle.ep_edge.specs.Memory.{is_failing, after_call, read_limit, next_piece, is_nil, after_read}

-- a source after a read that gives a piece, by its fields
pub after_piece : (source : SourceData) (room : ℕ) (left left_before pieces : List ℕ) (failures : FailuresData) (ended ended_before : Bool) (faults : ℕ) →
    is_failing source.failures ≡ false → left ≡ drop (read_limit source.pieces room) source.left → left_before ≡ source.left →
    pieces ≡ drop 1 source.pieces → failures ≡ after_call source.failures →
    ended ≡ (source.ended || is_nil (next_piece source room)) → ended_before ≡ source.ended → faults ≡ source.faults →
    ◌≡◌ {A = SourceData}
    (record { left = left; left_before = left_before; pieces = pieces; failures = failures; ended = ended; ended_before = ended_before; faults = faults })
    (after_read source room)
after_piece source room left left_before pieces failures ended ended_before faults good e_left e_before e_pieces e_failures e_ended e_ended_before e_faults =
    rw (good, e_left, e_before, e_pieces, e_failures, e_ended, e_ended_before, e_faults)

-- a count of used pieces that stops at their number
pub drop-used : (pieces : List ℕ) (used : ℕ) → used ≤ length pieces →
    drop (min (used + 1) (length pieces)) pieces ≡ drop 1 (drop used pieces)
drop-used pieces used h = drop_min (used + 1) pieces ∙ sym (drop-drop 1 used pieces)

-- a front of the bytes was appended
pub appends_front : (old new bytes : List ℕ) (count : ℕ) → new ≡ old ++ take count bytes →
    AppendsFront (Some old) (Some new) bytes
appends_front old new bytes count e = (take count bytes, drop count bytes, sym (take-append-drop count bytes), ap Some e)

-- two writes, the second of which goes on where the first stopped
pub appends_more : (old middle new : Option (List ℕ)) (bytes : List ℕ) (written count : ℕ) →
    Appends old middle (take written bytes) →
    Appends middle new (take count (take (length bytes - written) (drop written bytes))) →
    Appends old new (take (written + count) bytes)
appends_more old middle new bytes written count first second =
    subst (Appends old new) (sym (take-add written count bytes))
    (Appends-trans old middle new (take written bytes) (take count (drop written bytes)) first
    (subst (λ (rest : List ℕ). Appends middle new (take count rest)) (take_rest bytes written) second))
