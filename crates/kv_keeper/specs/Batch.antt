-- The rows of a batch, and what they make of documents that they are laid over.
use Rattle.std.specs.Prelude.{◌≡◌, ℕ, Bool, false, if◌then◌else◌, ⊤, List, [], ◌∷◌, slice_index_or}
use Rattle.std.specs.FinMap as map
use Rattle.std.specs.List.{AllByRecursion, list_any}
use Rattle.std.specs.Str.{bytes_eq}
use Rattle.ep_model.specs.Limits.{IsKey, IsValue}
use Rattle.ep_model.specs.World.{Doc, Docs, Item, blank_doc}
use Rattle.kv_keeper.specs.declared.data.BatchData.{BatchData}

-- no rows yet
abbrev pub empty_batch : ℕ → ℕ → BatchData
empty_batch to maxcas = record { rows = []; to = to; maxcas = maxcas }

-- whether one of the rows is the key's
abbrev pub has_row : List Item → List ℕ → Bool
has_row rows key = list_any (λ row. bytes_eq row.0 key) rows

-- the rows with this one in place of the key's, or behind them where the key has none
abbrev pub with_row : List Item → List ℕ → Doc → List Item
with_row [] key doc = (key, doc) ∷ []
with_row (row ∷ rows) key doc = if bytes_eq row.0 key then (key, doc) ∷ rows else row ∷ with_row rows key doc

-- the row at an index below their number
abbrev pub row_at : List Item → ℕ → Item
row_at rows index = slice_index_or rows index ([], blank_doc)

-- no two rows are of one key
abbrev pub AreDistinct : List Item → Type 0
AreDistinct [] = ⊤
AreDistinct (row ∷ rows) = (has_row rows row.0 ≡ false) × AreDistinct rows

-- each row's key and value are within their limits
abbrev pub AreWithin : List Item → Type 0
AreWithin rows = AllByRecursion (λ row. IsKey row.0 × IsValue row.1.value) rows

-- the documents with each row's in place of its key's
abbrev pub laid : List Item → Docs → Docs
laid [] docs = docs
laid (row ∷ rows) docs = map.insert (laid rows docs) row.0 row.1
