-- Rows in memory as documents under their keys: what a scan for a key finds, and what a row leaves that is put
-- over the first of its key or pushed where there is none.
use Rattle.std.proofs.Common.{◌≡◌, ◌<◌, ℕ, suc, zero, ◌+◌, Bool, true, false, cond, List, [], ◌∷◌, ◌++◌, length, get_or, take, refl, sym, ap, subst, ◌∙◌, arith}
use Rattle.std.proofs.Math.ListN.{set}
use Rattle.std.proofs.lemmas.Cmp.{eq_by_cmp_equiv}
use Rattle.std.specs.Prelude.{Option, Some, None, slice_get}
use Rattle.std.proofs.lemmas.Option.{slice_get_read}
use Rattle.std.specs.Option.{option_map}
use Rattle.std.specs.Ordering.{nat_cmp, eq_by_cmp}
use Rattle.std.specs.Cmp.Lexicographic.{slice_cmp, nat_list_cmp_total, texts_ties}
use Rattle.std.specs.FinMap.{get, get-from_entries}
use Rattle.std.specs.FinMap.Entries.{find}
use Rattle.std.specs.List.{position_from}
use Rattle.std.specs.Str.{bytes_eq}
use Rattle.ep_model.specs.World.{Doc, Item}
use Rattle.kv_keeper.specs.declared.row.Row.{Row}
use Rattle.std.proofs.lemmas.List.{map_push, map_more}
use Rattle.kv_keeper.specs.declared.data.BatchData.{BatchData}
use Rattle.kv_keeper.specs.declared.keeper.StoreState.{StoreState}
use Rattle.kv_keeper.specs.Batch.{AreDistinct, AreWithin, laid, with_row}
use Rattle.ep_model.specs.Counts.{raised}
use Rattle.kv_keeper.specs.Memory.{MemoryData, is_failing, after_get}
use Rattle.kv_keeper.proofs.BatchLemmas.{laid-push, docs_of-with_row}
use Rattle.kv_keeper.specs.Rows.{row_doc, entry_of, entries_of, docs_of, place_of, memory_of}

-- a row's key and value are within their limits
pub rows-within : (rows : List Row) → AreWithin (entries_of rows)
rows-within [] = tt
rows-within (row ∷ rows) = ((row.keyed, row.fits), rows-within rows)

-- the first row of a key stands at this index
abbrev IsFirstAt : List Row → List ℕ → ℕ → Type 0
IsFirstAt [] key k = ⊥
IsFirstAt (row ∷ rows) key zero = bytes_eq row.key.items key ≡ true
IsFirstAt (row ∷ rows) key (suc k) = (bytes_eq row.key.items key ≡ false) × IsFirstAt rows key k

-- a scan that ends at an index ends at the first row of the key
first : (rows : List Row) (key : List ℕ) (n m : ℕ) → position_from (λ (row : Row). bytes_eq row.key.items key) n rows ≡ Some m → (k : ℕ) × (n + k ≡ m) × IsFirstAt rows key k
first [] key n m e = absurd (cc)
first (row ∷ rows) key n m e =
    elim (bytes_eq row.key.items key) as (λ b. bytes_eq row.key.items key ≡ b → cond b (Some n) (position_from (λ (row : Row). bytes_eq row.key.items key) (n + 1) rows) ≡ Some m → (k : ℕ) × (n + k ≡ m) × IsFirstAt (row ∷ rows) key k) [
      | true ↦ λ is e. (0, (let same : n ≡ m = cc in omega arith), is)
      | false ↦ λ is e. let r = first rows key (n + 1) m e in (suc r.0, omega arith, (is, r.2))
    ] refl e

-- a row in place of the first of its key
put-at : (rows : List Row) (new : Row) (k : ℕ) → IsFirstAt rows new.key.items k → entries_of (set rows k new) ≡ with_row (entries_of rows) new.key.items (row_doc new)
put-at [] new k at = absurd at
put-at (row ∷ rows) new zero at =
    sym (ap (λ b. cond b (entry_of new ∷ entries_of rows) (entry_of row ∷ with_row (entries_of rows) new.key.items (row_doc new))) at)
put-at (row ∷ rows) new (suc k) at =
    ap (λ entries. entry_of row ∷ entries) (put-at rows new k at.1)
    ∙ sym (ap (λ b. cond b (entry_of new ∷ entries_of rows) (entry_of row ∷ with_row (entries_of rows) new.key.items (row_doc new))) at.0)

pub put-place : (rows : List Row) (new : Row) (m : ℕ) → place_of rows new.key.items ≡ Some m → entries_of (set rows m new) ≡ with_row (entries_of rows) new.key.items (row_doc new)
put-place rows new m e =
    let r = first rows new.key.items 0 m e in
    let same : r.0 ≡ m = omega arith in
    ap (λ k. entries_of (set rows k new)) (sym same) ∙ put-at rows new r.0 r.2

-- a row behind the others, where its key has none
put-behind : (rows : List Row) (new : Row) (n : ℕ) → position_from (λ (row : Row). bytes_eq row.key.items new.key.items) n rows ≡ None → entries_of (rows ++ new ∷ []) ≡ with_row (entries_of rows) new.key.items (row_doc new)
put-behind [] new n e = refl
put-behind (row ∷ rows) new n e =
    elim (bytes_eq row.key.items new.key.items) as (λ b. cond b (Some n) (position_from (λ (row : Row). bytes_eq row.key.items new.key.items) (n + 1) rows) ≡ None → entries_of ((row ∷ rows) ++ new ∷ []) ≡ cond b (entry_of new ∷ entries_of rows) (entry_of row ∷ with_row (entries_of rows) new.key.items (row_doc new))) [
      | true ↦ λ e. absurd (cc)
      | false ↦ λ e. ap (λ entries. entry_of row ∷ entries) (put-behind rows new (n + 1) e)
    ] e

pub put-end : (rows : List Row) (new : Row) → place_of rows new.key.items ≡ None → entries_of (rows ++ new ∷ []) ≡ with_row (entries_of rows) new.key.items (row_doc new)
put-end rows new e = put-behind rows new 0 e

-- what a scan of the entries has under a key
abbrev scanned : List Row → List ℕ → Option Doc
scanned rows key = find (slice_cmp nat_cmp) key (entries_of rows)

-- keys tie, in either order, where their bytes are equal
tie : (x y : List ℕ) → bytes_eq x y ≡ eq_by_cmp (slice_cmp nat_cmp) y x
tie x y = texts_ties x y ∙ (eq_by_cmp_equiv nat_list_cmp_total).symm x y

-- where a scan finds no place, the key has no document
missing : (rows : List Row) (key : List ℕ) (n : ℕ) → position_from (λ (row : Row). bytes_eq row.key.items key) n rows ≡ None → scanned rows key ≡ None
missing [] key n e = refl
missing (row ∷ rows) key n e =
    elim (bytes_eq row.key.items key) as (λ b. bytes_eq row.key.items key ≡ b → cond b (Some n) (position_from (λ (row : Row). bytes_eq row.key.items key) (n + 1) rows) ≡ None → scanned (row ∷ rows) key ≡ None) [
      | true ↦ λ is e. absurd (cc)
      | false ↦ λ is e. ap (λ b. cond b (Some (row_doc row)) (scanned rows key)) (sym (tie row.key.items key) ∙ is) ∙ missing rows key (n + 1) e
    ] refl e

-- where the first row of a key stands, there stands what a scan has
found : (rows : List Row) (key : List ℕ) (k : ℕ) → IsFirstAt rows key k → scanned rows key ≡ option_map row_doc (slice_get rows k)
found [] key k at = absurd at
found (row ∷ rows) key zero at = ap (λ b. cond b (Some (row_doc row)) (scanned rows key)) (sym (tie row.key.items key) ∙ at)
found (row ∷ rows) key (suc k) at = ap (λ b. cond b (Some (row_doc row)) (scanned rows key)) (sym (tie row.key.items key) ∙ at.0) ∙ found rows key k at.1

-- what the map has under a key is what a scan has
get-docs_of : (rows : List Row) (q : List ℕ) → get (docs_of (entries_of rows)) q ≡ scanned rows q
get-docs_of rows q = get-from_entries nat_list_cmp_total (entries_of rows) q

-- a key that has no place has no document
pub get-missing : (rows : List Row) (key : List ℕ) → place_of rows key ≡ None → None ≡ get (docs_of (entries_of rows)) key
get-missing rows key e = sym (get-docs_of rows key ∙ missing rows key 0 e)

-- the row at the place of a key has the key's document
pub get-found : (rows : List Row) (key : List ℕ) (m : ℕ) (row : Row) → place_of rows key ≡ Some m → m < length rows → row ≡ get_or rows m row → Some (row_doc row) ≡ get (docs_of (entries_of rows)) key
get-found rows key m row e within is =
    let r = first rows key 0 m e in
    let same : r.0 ≡ m = omega arith in
    sym (get-docs_of rows key ∙ found rows key r.0 r.2 ∙ ap (λ k. option_map row_doc (slice_get rows k)) same ∙ ap (option_map row_doc) (slice_get_read rows (length rows) m row refl within is))

-- the last row was laid, and the rest is still to be
pub lay-last : (more rest : List Row) (row : Row) (old new : List Row) → more ≡ rest ++ row ∷ [] → entries_of new ≡ with_row (entries_of old) row.key.items (row_doc row) → laid (entries_of rest) (docs_of (entries_of new)) ≡ laid (entries_of more) (docs_of (entries_of old))
lay-last more rest row old new more-is new-is =
    ap (λ (entries : List Item). laid (entries_of rest) (docs_of entries)) new-is
    ∙ ap (laid (entries_of rest)) (docs_of-with_row (entries_of old) row.key.items (row_doc row))
    ∙ sym (laid-push (entries_of rest) (entry_of row) (docs_of (entries_of old)))
    ∙ sym (ap (λ (entries : List Item). laid entries (docs_of (entries_of old))) (ap (λ (rows : List Row). entries_of rows) more-is ∙ map_push entry_of rest row))

-- one more row was copied
pub copied-more : (rows copies : List Row) (i : ℕ) (row copy : Row) → i < length rows → row ≡ get_or rows i row → entries_of copies ≡ entries_of (take i rows) → copy.key.items ≡ row.key.items → row_doc copy ≡ row_doc row → entries_of (copies ++ copy ∷ []) ≡ entries_of (take (i + 1) rows)
copied-more rows copies i row copy within is before key-is doc-is =
    map_push entry_of copies copy
    ∙ ap (λ (entries : List Item). entries ++ entry_of copy ∷ []) before
    ∙ ap (λ (key : List ℕ). entries_of (take i rows) ++ (key, row_doc copy) ∷ []) key-is
    ∙ ap (λ (doc : Doc). entries_of (take i rows) ++ (row.key.items, doc) ∷ []) doc-is
    ∙ ap (λ (r : Row). entries_of (take i rows) ++ entry_of r ∷ []) is
    ∙ sym (map_more entry_of rows i row within)

-- the place of a key that a scan of this list gave, as another name of the list and of the key
pub placed : (rows l : List Row) (key k : List ℕ) (place o : Option ℕ) → l ≡ rows → k ≡ key → place ≡ place_of l k → place ≡ o → place_of rows key ≡ o
placed rows l key k place o rows-is key-is place-is is =
    sym (ap (λ (xs : List Row). place_of xs key) rows-is) ∙ sym (ap (place_of l) key-is) ∙ sym place-is ∙ is

-- the rows of a batch of which this was seen are within their limits, and of distinct keys
pub batch-within : (batch : BatchData) (rows : List Row) (to maxcas : ℕ) → ◌≡◌ {A = BatchData} (record { rows = entries_of rows; to = to; maxcas = maxcas }) batch → AreWithin batch.rows
batch-within batch rows to maxcas is = subst (λ (b : BatchData). AreWithin b.rows) is (rows-within rows)

pub batch-distinct : (batch : BatchData) (rows : List Row) (to maxcas : ℕ) → ◌≡◌ {A = BatchData} (record { rows = entries_of rows; to = to; maxcas = maxcas }) batch → AreDistinct (entries_of rows) → AreDistinct batch.rows
batch-distinct batch rows to maxcas is h = subst (λ (b : BatchData). AreDistinct b.rows) is h

-- the rows of a batch to which one was added
pub added : (batch : BatchData) (rows reserved new : List Row) (to maxcas : ℕ) (row : Row) (key : List ℕ) (doc : Doc) → ◌≡◌ {A = BatchData} (record { rows = entries_of rows; to = to; maxcas = maxcas }) batch → reserved ≡ rows → entries_of new ≡ with_row (entries_of reserved) row.key.items (row_doc row) → row.key.items ≡ key → row_doc row ≡ doc → entries_of new ≡ with_row batch.rows key doc
added batch rows reserved new to maxcas row key doc is reserved-is new-is key-is doc-is =
    new-is
    ∙ ap (λ (xs : List Row). with_row (entries_of xs) row.key.items (row_doc row)) reserved-is
    ∙ ap (λ (k : List ℕ). with_row (entries_of rows) k (row_doc row)) key-is
    ∙ ap (λ (d : Doc). with_row (entries_of rows) key d) doc-is
    ∙ ap (λ (b : BatchData). with_row b.rows key doc) is

-- a store in memory after a read that didn't fail
pub after-good : (memory : MemoryData) (rows : List Row) (state : StoreState) (gets next : ℕ) (fails : List ℕ) (faults : ℕ) → memory_of rows state gets fails faults ≡ memory → is_failing memory ≡ false → next ≡ raised gets → memory_of rows state next fails faults ≡ after_get memory
after-good memory rows state gets next fails faults is good next-is =
    ap (λ (n : ℕ). memory_of rows state n fails faults) next-is
    ∙ ap (λ (b : Bool). record (memory_of rows state (raised gets) fails faults) { faults = cond b (raised faults) faults }) (sym (ap is_failing is ∙ good))
    ∙ ap after_get is
