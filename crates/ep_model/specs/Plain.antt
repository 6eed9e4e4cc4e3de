-- What the plain map's documents stand for.
use Rattle.std.specs.Prelude.{◌≡◌, ◌≢◌, ℕ, ◌+◌, ◌≤◌, ◌<◌, ◌^◌, true, List, [], ◌++◌, length, map, Vec, Option, Some, None, Result, Ok, Err}
use Rattle.std.specs.FinMap as finmap
use Rattle.std.specs.Global.{Global}
use Rattle.ep_model.specs.declared.call.VbState.{VbState}
use Rattle.ep_model.specs.declared.call.Reply.{Reply}
use Rattle.ep_model.specs.declared.data.OutData.{OutData}
use Rattle.ep_model.specs.declared.document.Document.{Document}
use Rattle.ep_model.specs.declared.memory.NoMemory.{NoMemory}
use Rattle.ep_model.specs.Limits.{end_of_moments}
use Rattle.ep_model.specs.World.{Doc, Docs, World, blank_doc, empty_world}
use Rattle.ep_model.specs.Answer.{Answer, Nothing, apply}

-- a document without where its bytes lie
abbrev pub document_data : Document → Doc
document_data d = record blank_doc { value = d.value.items; flags = d.flags; expiry = d.expiry; cas = d.cas; seqno = d.seqno; deleted = d.deleted }

-- a document under its key
abbrev pub entry_data : Vec ℕ Global × Document → List ℕ × Doc
entry_data e = (e.0.items, document_data e.1)

-- the documents by their keys
abbrev pub plain_docs : List (Vec ℕ Global × Document) → Docs
plain_docs entries = finmap.from_entries (map entry_data entries)

-- the world of a vBucket that is open, without failovers and with nothing stored
abbrev pub plain_world : ℕ → ℕ → VbState → List (Vec ℕ Global × Document) → ℕ → ℕ → World
plain_world id fit state entries high maxcas = record (empty_world id fit) {
  docs = plain_docs entries;
  high = high;
  maxcas = maxcas;
  state = state;
  opened = true;
}

-- the numbers leave room for the next ones
pub record IsSound (high maxcas : ℕ) : Type 0 where
  pub numbers : high < 2 ^ 48
  pub stamps : maxcas ≤ end_of_moments + high

-- the value of a document, or nothing
abbrev pub value_of : Option Doc → List ℕ
value_of None = []
value_of (Some doc) = doc.value

-- What a call without a value leaves of a world. With a reply all is as the answer says. Without one nothing has
-- changed, and something was to be kept.
abbrev pub Does : Answer → World → World → Result Reply NoMemory → Type 0
Does a old new (Ok reply) = (reply ≡ a.reply) × (a.value ≡ []) × (new ≡ apply old a.effect)
Does a old new (Err e) = (new ≡ old) × (a.effect ≢ Nothing)

-- The same of a call whose value goes into a buffer, which keeps its room.
abbrev pub Serves : Answer → World → World → OutData → OutData → Result Reply NoMemory → Type 0
Serves a old new out more (Ok reply) = (reply ≡ a.reply) × (more.bytes ≡ out.bytes ++ a.value) × (new ≡ apply old a.effect) × (more.spare + length more.bytes ≡ out.spare + length out.bytes)
Serves a old new out more (Err e) = (new ≡ old) × (more ≡ out) × (a.effect ≢ Nothing)
