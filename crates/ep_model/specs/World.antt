-- The world of a vBucket: its documents and numbers, apart from how memory and a store hold them.
use Rattle.std.specs.Prelude.{ℕ, ◌+◌, ◌-◌, ◌/◌, ◌%◌, ◌^◌, Bool, true, false, not, nat_lt, nat_le, ◌==◌, ◌&&◌, ◌||◌, if◌then◌else◌, min, max, List, [], ◌∷◌, length, Option, Some, None}
use Rattle.std.specs.Ordering.{nat_cmp}
use Rattle.std.specs.Cmp.Lexicographic.{slice_cmp}
use Rattle.std.specs.FinMap as map
use Rattle.std.specs.FinMap.{FinMap}
use Rattle.ep_model.specs.declared.call.Meta.{Meta}
use Rattle.ep_model.specs.declared.call.VbState.{VbState}
use Rattle.ep_model.specs.declared.config.Eviction.{Eviction}
use Rattle.ep_model.specs.declared.config.Eviction.TheVariants.{Value}
use Rattle.ep_model.specs.declared.data.DocData.{DocData}
use Rattle.ep_model.specs.declared.call.VbState.TheVariants.{Active}

-- a document, or where it was deleted what is left of it
abbrev pub Doc : Type 0
Doc = DocData

abbrev pub Docs : Type 0
Docs = FinMap (slice_cmp nat_cmp) Doc

-- a document under its key
abbrev pub Item : Type 0
Item = List ℕ × Doc

-- a document of which nothing is known yet
abbrev pub blank_doc : Doc
blank_doc = record { value = []; flags = 0; expiry = 0; cas = 0; seqno = 0; deleted = false }

-- what stands of a document beside its value, and a document of that and a value
abbrev pub meta_of : Doc → Meta
meta_of doc = record { flags = doc.flags; expiry = doc.expiry; cas = doc.cas; seqno = doc.seqno; deleted = doc.deleted; len = length doc.value }

abbrev pub doc_from : Meta → List ℕ → Doc
doc_from meta value = record blank_doc { value = value; flags = meta.flags; expiry = meta.expiry; cas = meta.cas; seqno = meta.seqno; deleted = meta.deleted }

-- `id` is the vBucket's, `failovers` pairs of a uuid and a sequence number, newest first. What the bucket's layout
-- fixes is the number of `stripes`, the `eviction`, and as `fit` the number of blocks that a document may take at
-- most. `told` says whether the documents are known: a store that doesn't tell its content gives a start that isn't
-- told, and then the events alone say what they did.
pub record World : Type 0 where
  pub id : ℕ
  pub docs : Docs
  pub high : ℕ
  pub maxcas : ℕ
  pub state : VbState
  pub failovers : List (ℕ × ℕ)
  pub persisted : ℕ
  pub opened : Bool
  pub told : Bool
  pub stripes : ℕ
  pub eviction : Eviction
  pub fit : ℕ

-- told and active, of one stripe under value eviction, and nothing else yet
abbrev pub empty_world : ℕ → ℕ → World
empty_world id fit = record {
  id = id;
  docs = map.empty;
  high = 0;
  maxcas = 0;
  state = Active;
  failovers = [];
  persisted = 0;
  opened = false;
  told = true;
  stripes = 1;
  eviction = Value;
  fit = fit;
}

-- a moment's seconds since 1970
abbrev pub secs : ℕ → ℕ
secs now = now / 1000000000

-- not deleted, and not expired: a document is expired from the second of its expiry on
abbrev pub is_live : Doc → ℕ → Bool
is_live doc now = not doc.deleted && (doc.expiry == 0 || nat_lt (secs now) doc.expiry)

abbrev pub live_of : Option Doc → ℕ → Option Doc
live_of None now = None
live_of (Some doc) now = if is_live doc now then Some doc else None

-- the live document of a key
abbrev pub live : World → List ℕ → ℕ → Option Doc
live w key now = live_of (map.get w.docs key) now

-- The CAS of the next mutation, after kv_engine's hybrid clock: the moment without its low 16 bits, or one
-- more than the greatest CAS so far.
abbrev pub stamp : World → ℕ → ℕ
stamp w now = max (w.maxcas + 1) (now - now % 65536)

-- What is stored for a request's expiration: up to 30 days it counts from now.
abbrev pub stored_expiry : ℕ → ℕ → ℕ
stored_expiry expiration now =
    if expiration == 0 then 0 else
    if nat_le expiration 2592000 then min (secs now + expiration) 4294967295 else expiration

-- how many blocks of 128 bytes n bytes take
abbrev pub blocks : ℕ → ℕ
blocks n = (n + 127) / 128

-- how many a document takes under its key
abbrev pub doc_blocks : List ℕ → Doc → ℕ
doc_blocks key doc = blocks (length key) + blocks (length doc.value)

-- the greatest sequence number
abbrev pub last_seqno : ℕ
last_seqno = 2 ^ 48 - 1

-- the uuid of the newest failover entry, 0 where there is none
abbrev pub uuid_of : List (ℕ × ℕ) → ℕ
uuid_of [] = 0
uuid_of (entry ∷ older) = entry.0

-- a document that takes the next CAS and the next sequence number
abbrev pub next_doc : World → List ℕ → ℕ → ℕ → Bool → ℕ → Doc
next_doc w value flags expiry deleted now = record blank_doc { value = value; flags = flags; expiry = expiry; cas = stamp w now; seqno = w.high + 1; deleted = deleted }

-- what is left of a document that is deleted or removed
abbrev pub tombstone : World → ℕ → Doc
tombstone w now = next_doc w [] 0 0 true now

-- the world with this document in place of the key's, which the greatest numbers now belong to
abbrev pub put : World → List ℕ → Doc → World
put w key doc = record w { docs = map.insert w.docs key doc; high = doc.seqno; maxcas = doc.cas }
