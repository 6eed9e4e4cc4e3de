-- What is known of mutations whether documents are known or not: their keys, numbers and CAS.
use Rattle.std.specs.Prelude.{◌≡◌, ℕ, List, map}
use Rattle.std.specs.Option.{option_map}
use Rattle.std.specs.FinMap.{get}
use Rattle.ep_model.specs.World.{Doc, Docs, Item}

-- the numbers of a document
pub record Numbers : Type 0 where
  pub seqno : ℕ
  pub cas : ℕ

abbrev pub numbers_of : Doc → Numbers
numbers_of doc = record { seqno = doc.seqno; cas = doc.cas }

-- a mutation's key and numbers
abbrev pub numbered : Item → List ℕ × Numbers
numbered item = (item.0, numbers_of item.1)

-- those of mutations, in order
abbrev pub all_numbered : List Item → List (List ℕ × Numbers)
all_numbered items = map numbered items

-- the documents have the same numbers under each key
abbrev pub HaveSameNumbers : Docs → Docs → Type 0
HaveSameNumbers a b = (key : List ℕ) → option_map numbers_of (get a key) ≡ option_map numbers_of (get b key)
