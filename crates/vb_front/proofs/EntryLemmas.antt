-- A failover table in bytes, as it is written entry by entry.
use Rattle.std.proofs.Common.{◌≡◌, ℕ, ◌+◌, ◌*◌, suc, zero, List, [], ◌∷◌, ◌++◌, length, take, refl, sym, ap, ◌∙◌, arith, append_assoc, length-append}
use Rattle.std.specs.Prelude.{Some, slice_get}
use Rattle.std.specs.Int.{w64, to_be_bytes}
use Rattle.ep_model.specs.declared.data.OutData.{OutData}
use Rattle.ep_model.specs.Answer.{failover_bytes}

-- The first entries are written, each in 16 bytes.
pub record HasEntries (table : List (ℕ × ℕ)) (count : ℕ) (value start : OutData) : Type 0 where
  pub bytes : value.bytes ≡ start.bytes ++ failover_bytes (take count table)
  pub spare : value.spare + 16 * count ≡ start.spare
  pub room : value.spare + length value.bytes ≡ start.spare + length start.bytes

abbrev entry_bytes : ℕ × ℕ → List ℕ
entry_bytes entry = to_be_bytes w64 entry.0 ++ to_be_bytes w64 entry.1

bytes_more : (table : List (ℕ × ℕ)) (index : ℕ) (entry : ℕ × ℕ) → slice_get table index ≡ Some entry → failover_bytes (take (suc index) table) ≡ failover_bytes (take index table) ++ entry_bytes entry
bytes_more [] index entry is = absurd (cc)
bytes_more (x ∷ table) zero entry is = let e : x ≡ entry = cc in ap entry_bytes e
bytes_more (x ∷ table) (suc index) entry is =
    ap (λ (l : List ℕ). to_be_bytes w64 x.0 ++ to_be_bytes w64 x.1 ++ l) (bytes_more table index entry is)

-- none is, before the first
pub no_entries : (table : List (ℕ × ℕ)) (value : OutData) → HasEntries table 0 value value
no_entries table value = record { bytes = sym (append-none value.bytes); spare = omega arith; room = refl }
  where
    append-none : (xs : List ℕ) → xs ++ [] ≡ xs
    append-none [] = refl
    append-none (x ∷ xs) = ap (λ (l : List ℕ). x ∷ l) (append-none xs)

-- and one more
pub entries_more : (table : List (ℕ × ℕ)) (index uuid seqno : ℕ) (value more start : OutData) → slice_get table index ≡ Some (uuid, seqno) → HasEntries table index value start
    → more.bytes ≡ value.bytes ++ (to_be_bytes w64 uuid ++ to_be_bytes w64 seqno) → more.spare + 16 ≡ value.spare → HasEntries table (index + 1) more start
entries_more table index uuid seqno value more start is h bytes spare =
    let up : index + 1 ≡ suc index = omega arith in
    let s = h.spare in let r = h.room in
    let long : length more.bytes ≡ length value.bytes + 16 = ap (λ (l : List ℕ). length l) bytes ∙ length-append value.bytes (to_be_bytes w64 uuid ++ to_be_bytes w64 seqno) in
    record {
      bytes = bytes ∙ ap (λ (l : List ℕ). l ++ entry_bytes (uuid, seqno)) h.bytes
          ∙ append_assoc start.bytes (failover_bytes (take index table)) (entry_bytes (uuid, seqno))
          ∙ ap (λ (l : List ℕ). start.bytes ++ l) (sym (bytes_more table index (uuid, seqno) is))
          ∙ ap (λ n. start.bytes ++ failover_bytes (take n table)) (sym up);
      spare = omega arith;
      room = omega arith;
    }

-- what was pushed in two pieces
pub two_pushed : (old first second x y u v : List ℕ) → first ≡ old ++ x → second ≡ first ++ y → x ≡ u → y ≡ v → second ≡ old ++ (u ++ v)
two_pushed old first second x y u v a b c d =
    b ∙ ap (λ (l : List ℕ). l ++ y) a ∙ append_assoc old x y ∙ ap (λ (l : List ℕ). old ++ (l ++ y)) c ∙ ap (λ (l : List ℕ). old ++ (u ++ l)) d
