-- What rows in memory stand for.
use Rattle.std.specs.Prelude.{ℕ, List, map, Option}
use Rattle.std.specs.FinMap as finmap
use Rattle.std.specs.List.{position_from}
use Rattle.std.specs.Str.{bytes_eq}
use Rattle.ep_model.specs.World.{Doc, Docs, Item}
use Rattle.kv_keeper.specs.declared.row.Row.{Row}
use Rattle.kv_keeper.specs.declared.keeper.StoreState.{StoreState}
use Rattle.ep_model.specs.World.{doc_from}
use Rattle.kv_keeper.specs.Memory.{MemoryData}

-- a row's document without where its bytes lie
abbrev pub row_doc : Row → Doc
row_doc row = doc_from row.meta row.value.items

abbrev pub entry_of : Row → Item
entry_of row = (row.key.items, row_doc row)

abbrev pub entries_of : List Row → List Item
entries_of rows = map entry_of rows

-- the documents by their keys; of two under one key the first counts
abbrev pub docs_of : List Item → Docs
docs_of entries = finmap.from_entries entries

-- where the first row of a key stands
abbrev pub place_of : List Row → List ℕ → Option ℕ
place_of rows key = position_from (λ (row : Row). bytes_eq row.key.items key) 0 rows

-- the store in memory of these rows
abbrev pub memory_of : List Row → StoreState → ℕ → List ℕ → ℕ → MemoryData
memory_of rows state gets fails faults = record {
  content = record { docs = docs_of (entries_of rows); version = state.version; high = state.high; maxcas = state.maxcas };
  gets = gets;
  fails = fails;
  faults = faults;
}
