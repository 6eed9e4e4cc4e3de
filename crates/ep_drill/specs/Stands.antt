-- What the parts are to a history.
use Rattle.std.specs.Prelude.{◌≡◌, ◌⊎◌, ℕ, ◌≤◌, ◌<◌, true, false, nat_lt, List, [], ◌∷◌, ◌++◌, Option, Some, None, IsSome, IfSome, is_none}
use Rattle.std.specs.List.{AllByRecursion}
use Rattle.std.specs.FinMap as map
use Rattle.ep_model.specs.declared.event.Ticket.{Ticket}
use Rattle.ep_model.specs.declared.data.CallData.{CallData}
use Rattle.ep_model.specs.declared.data.EventData.{EventData}
use Rattle.ep_model.specs.declared.data.EventData.TheVariants as events
use Rattle.ep_model.specs.declared.data.FrontData.{FrontData}
use Rattle.ep_model.specs.World.{Doc, meta_of, uuid_of}
use Rattle.ep_model.specs.Stripes.{stripe_of}
use Rattle.ep_model.specs.History.{upto}
use Rattle.ep_model.specs.Calls.{key_of}
use Rattle.ep_model.specs.Front.{begun, world_of, marked}
use Rattle.ep_model.specs.Legal.{IsSilent, IsUnused, IsBelow, IsNoFault, HasAsked, HasFailedRead}
use Rattle.ep_model.specs.Mutations.{mutations, above}
use Rattle.hold_stage.specs.Waits.{is_waiting, IsNoRead, IsAbsent, IsFaultWithin}
use Rattle.flat_parts.specs.declared.data.NodeData.{NodeData}
use Rattle.flat_parts.specs.declared.data.Outcome.{Outcome}
use Rattle.flat_parts.specs.declared.data.Outcome.TheVariants.{Waiting, Merged, Absent, Failed, NoMemory}
use Rattle.flat_parts.specs.declared.data.PlaceData.{PlaceData}
use Rattle.flat_parts.specs.declared.data.StripeData.{StripeData}
use Rattle.flat_parts.specs.declared.data.QueueData.{QueueData}
use Rattle.ep_drill.specs.declared.data.FetchedData.{FetchedData}
use Rattle.ep_drill.specs.declared.data.FoundData.{FoundData}
use Rattle.ep_drill.specs.declared.data.FoundData.TheVariants as founds
use Rattle.kv_keeper.specs.declared.data.BatchData.{BatchData}
use Rattle.kv_keeper.specs.Batch.{laid}
use Rattle.kv_keeper.specs.declared.data.DeskData.{DeskData}
use Rattle.kv_keeper.specs.Content.{Content, KeeperData}
use Rattle.flat_parts.specs.Nodes.{node_at}
use Rattle.hold_stage.specs.Numbers.{all_numbered, HaveSameNumbers}

-- A resident value is the document's. A value may be away only where the stripe knows that it is stored, and where the
-- document isn't deleted.
abbrev pub ValueStands : ℕ → Doc → Option (List ℕ) → Type 0
ValueStands mark doc None = (doc.seqno ≤ mark) × (doc.deleted ≡ false)
ValueStands mark doc (Some value) = value ≡ doc.value

-- a key's node has the metadata of its document, which is one of this stripe
pub record NodeStands (f : FrontData) (stripe : ℕ) (key : List ℕ) (node : NodeData) : Type 0 where
  pub doc : Doc
  pub found : map.get (world_of f).docs key ≡ Some doc
  pub here : stripe_of key f.config.stripes ≡ stripe
  pub meta : node.meta ≡ meta_of doc
  pub value : ValueStands (marked f stripe) doc node.value

-- under value eviction memory has nothing of a document only where it is deleted and stored, or where there is none
abbrev pub MayBeGone : ℕ → Option Doc → Type 0
MayBeGone mark None = Unit {0}
MayBeGone mark (Some doc) = (doc.seqno ≤ mark) × (doc.deleted ≡ true)

-- what became of a read is what the history says
abbrev pub OutcomeStands : FrontData → Ticket → List ℕ → Outcome → Type 0
OutcomeStands f ticket key Waiting = AllByRecursion (IsNoRead ticket) f.events
OutcomeStands f ticket key Merged = Unit {0}
OutcomeStands f ticket key Absent = IsAbsent (map.get (world_of f).docs key)
OutcomeStands f ticket key (Failed fault) = HasFailedRead f.events ticket fault
OutcomeStands f ticket key NoMemory = Unit {0}

abbrev pub ticket_of : ℕ → ℕ → Ticket
ticket_of stripe number = record { stripe = stripe; number = number }

-- Each place was asked for, its document hasn't changed since, and no call was refused for what became of it.
pub record PlaceStands (f : FrontData) (stripe : ℕ) (place : PlaceData) : Type 0 where
  pub here : stripe_of place.key f.config.stripes ≡ stripe
  pub waiting : is_waiting f (ticket_of stripe place.number) place.key ≡ true
  pub unused : AllByRecursion (IsUnused (ticket_of stripe place.number)) f.events
  pub outcome : OutcomeStands f (ticket_of stripe place.number) place.key place.outcome

-- a stripe stands for a history
pub record StripeStands (f : FrontData) (stripe : ℕ) (x : StripeData) : Type 0 where
  pub there : nat_lt stripe f.config.stripes ≡ true
  pub index : x.index ≡ stripe
  pub nodes : (key : List ℕ) (node : NodeData) → node_at x.nodes key ≡ Some node → NodeStands f stripe key node
  pub gone : (world_of f).opened ≡ true → (key : List ℕ) → stripe_of key f.config.stripes ≡ stripe → node_at x.nodes key ≡ None → MayBeGone (marked f stripe) (map.get (world_of f).docs key)
  pub mark : x.mark ≡ marked f stripe
  pub state : x.state ≡ (world_of f).state
  pub opened : x.opened ≡ (world_of f).opened
  pub places : AllByRecursion (PlaceStands f stripe) x.places
  pub next : AllByRecursion (IsBelow (ticket_of stripe x.next)) f.events
  pub closed : (world_of f).opened ≡ false → x.places ≡ []
  pub is_told : (world_of f).told ≡ true

-- A queue stands for a history: it holds all mutations above the persisted number, each once and in order, so that nothing that
-- isn't stored is lost. `numbers` says so of their keys, numbers and CAS, and `items` of all of them where documents are known.
pub record QueueStands (f : FrontData) (q : QueueData) : Type 0 where
  pub numbers : all_numbered q.items ≡ all_numbered (above (world_of f).persisted (mutations (begun f) f.events))
  pub items : (world_of f).told ≡ true → q.items ≡ above (world_of f).persisted (mutations (begun f) f.events)
  pub high : q.high ≡ (world_of f).high
  pub maxcas : q.maxcas ≡ (world_of f).maxcas
  pub persisted : q.persisted ≡ (world_of f).persisted
  pub state : q.state ≡ (world_of f).state
  pub opened : q.opened ≡ (world_of f).opened
  pub uuid : q.uuid ≡ uuid_of (world_of f).failovers

-- a store holds what the history had put at one of its numbers, as far as its documents are known
pub record HoldsAt (f : FrontData) (content : Content) (number : ℕ) : Type 0 where
  pub docs : (world_of f).told ≡ true → content.docs ≡ (upto (begun f) f.events number).docs
  pub version : content.version ≡ 1
  pub high : content.high ≡ number
  pub maxcas : content.maxcas ≡ (upto (begun f) f.events number).maxcas

-- so does one that tells what it holds
abbrev pub HoldsIfTelling : FrontData → Option Content → ℕ → Type 0
HoldsIfTelling f content number = IfSome content (λ c. HoldsAt f c number)

-- Where a commit failed, one of the two contents that may be the true one is so at the number up to which the store was known
-- before, and the other at the one in doubt.
abbrev pub ContentStands : FrontData → KeeperData → ℕ → Option ℕ → Type 0
ContentStands f keeper stored None = HoldsIfTelling f keeper.content stored
ContentStands f keeper stored (Some doubt) =
    (stored ≤ doubt) × (doubt ≤ (world_of f).high)
    × ((HoldsIfTelling f keeper.content stored × HoldsIfTelling f keeper.second doubt) ⊎ (HoldsIfTelling f keeper.content doubt × HoldsIfTelling f keeper.second stored))

-- A desk stands for a history.
-- `low`: its store is known to hold no less than is told to be stored;
-- `top`, `holds`: once there is a start, no more than there is, and that is what the history had put;
-- `persisted`: what was noted is what is told to be stored;
-- `faults`: each failed read that was told is among those that were counted;
-- `sure`: the store is sure of what it holds exactly where no number is in doubt;
-- `tells`, `both`: once there is a start, a told one is told by a store that tells what it holds, and both contents that may be
-- the true one where that is in doubt.
pub record DeskStands (f : FrontData) (desk : DeskData) : Type 0 where
  pub low : (world_of f).persisted ≤ desk.stored
  pub top : IsSome f.start → desk.stored ≤ (world_of f).high
  pub holds : IsSome f.start → ContentStands f desk.keeper desk.stored desk.doubt
  pub persisted : desk.noted ≡ (world_of f).persisted
  pub faults : AllByRecursion (IsFaultWithin desk.read_faults) f.events
  pub sure : desk.keeper.sure ≡ is_none desk.doubt
  pub tells : IsSome f.start → (world_of f).told ≡ true → IsSome desk.keeper.content
  pub both : IsSome f.start → (world_of f).told ≡ true → IfSome desk.doubt (λ _. IsSome desk.keeper.second)

-- A batch stands between its taking and its commit: laid over what the history had put up to the store's number it gives what
-- the history had put at the batch's. `numbers` says so of each key's number and CAS, and `docs` of all of the documents where
-- they are known.
pub record BatchStands (f : FrontData) (stored : ℕ) (batch : BatchData) : Type 0 where
  pub above : (world_of f).persisted < batch.to
  pub low : stored ≤ batch.to
  pub top : batch.to ≤ (world_of f).high
  pub numbers : HaveSameNumbers (laid batch.rows (upto (begun f) f.events stored).docs) (upto (begun f) f.events batch.to).docs
  pub docs : (world_of f).told ≡ true → laid batch.rows (upto (begun f) f.events stored).docs ≡ (upto (begun f) f.events batch.to).docs
  pub maxcas : batch.maxcas ≡ (upto (begun f) f.events batch.to).maxcas

-- What was read is the document of whoever still waits at the ticket, as far as documents are known, and a failure is told by no
-- event yet.
abbrev pub FoundStands : FrontData → Ticket → FoundData → Type 0
FoundStands f ticket (founds.Row doc) = (world_of f).told ≡ true → (key : List ℕ) → is_waiting f ticket key ≡ true → map.get (world_of f).docs key ≡ Some doc
FoundStands f ticket founds.Absent = (world_of f).told ≡ true → (key : List ℕ) → is_waiting f ticket key ≡ true → IsAbsent (map.get (world_of f).docs key)
FoundStands f ticket (founds.Failed fault) = AllByRecursion (IsNoFault fault) f.events
FoundStands f ticket founds.NoMemory = Unit {0}

-- a read stands between the look at the store and its merge
pub record FetchedStands (f : FrontData) (fetched : FetchedData) : Type 0 where
  pub asked : HasAsked f.events fetched.ticket
  pub keyed : key_of asked.call ≡ Some fetched.key
  pub found : FoundStands f fetched.ticket fetched.found
