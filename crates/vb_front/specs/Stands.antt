-- What the parts of a vBucket are to a history. What a record says as long as the start's documents are known stands under
-- `shown`, and all else always, also before a start is put and before the vBucket opens.
use Rattle.std.specs.Prelude.{◌≡◌, ℕ, ◌≤◌, true, false, nat_lt, List, [], ◌∷◌, length, All, take, drop, Option, Some, None}
use Rattle.std.specs.List.{AllByRecursion}
use Rattle.std.specs.FinMap as map
use Rattle.ep_model.specs.declared.config.Eviction.{Eviction}
use Rattle.ep_model.specs.declared.config.Eviction.TheVariants.{Value, Full}
use Rattle.ep_model.specs.declared.event.Ticket.{Ticket}
use Rattle.ep_model.specs.declared.data.FrontData.{FrontData}
use Rattle.ep_model.specs.World.{Doc, meta_of, doc_from, doc_blocks, Item}
use Rattle.ep_model.specs.Stripes.{stripe_of}
use Rattle.ep_model.specs.Front.{world_of, marked}
use Rattle.ep_model.specs.Legal.{IsUnused, IsBelow, HasFailedRead}
use Rattle.ep_model.specs.Checkpoints.{cut, all_items}
use Rattle.hold_stage.specs.Waits.{is_waiting, IsNoRead, IsAbsent}
use Rattle.hash_stripe.specs.Nodes.{NodeData, node_at}
use Rattle.hash_stripe.specs.Stripes.{StripeData}
use Rattle.fetch_book.specs.declared.place.Outcome.{Outcome}
use Rattle.fetch_book.specs.declared.place.Outcome.TheVariants.{Waiting, Merged, Absent, Failed, NoMemory, NoRoom}
use Rattle.fetch_book.specs.declared.place.Place.{Place}
use Rattle.fetch_book.specs.Books.{BookData, next_ticket}
use Rattle.ckpt_items.specs.declared.data.ItemData.{ItemData}
use Rattle.ckpt_manager.specs.declared.data.QueueData.{QueueData}
use Rattle.ckpt_manager.specs.Queue.{least_cursor}
use Rattle.vb_front.specs.declared.part.StripePart.{StripePart}

-- a value that is in memory is the document's
abbrev pub IsShownValue : Doc → Option (List ℕ) → Type 0
IsShownValue doc None = Unit {0}
IsShownValue doc (Some value) = value ≡ doc.value

-- a value that isn't is stored, of a document that isn't deleted
abbrev pub IsAwayBelow : ℕ → NodeData → Option (List ℕ) → Type 0
IsAwayBelow mark node None = (node.meta.seqno ≤ mark) × (node.meta.deleted ≡ false)
IsAwayBelow mark node (Some value) = Unit {0}

-- What a key's node is, whether documents are known or not.
-- `here`: the key is one of this stripe's;
-- `away`: a value isn't in memory only where it is stored.
pub record NodeStands (f : FrontData) (stripe : ℕ) (key : List ℕ) (node : NodeData) : Type 0 where
  pub here : stripe_of key f.config.stripes ≡ stripe
  pub away : IsAwayBelow (marked f stripe) node node.value

-- a key's node has the metadata of the key's document, and that one's value or none
pub record NodeShows (f : FrontData) (key : List ℕ) (node : NodeData) : Type 0 where
  pub doc : Doc
  pub found : map.get (world_of f).docs key ≡ Some doc
  pub meta : node.meta ≡ meta_of doc
  pub value : IsShownValue doc node.value

-- A document of which memory has nothing is stored, and under value eviction deleted.
abbrev pub IsGone : Eviction → ℕ → Option Doc → Type 0
IsGone eviction mark None = Unit {0}
IsGone Value mark (Some doc) = (doc.seqno ≤ mark) × (doc.deleted ≡ true)
IsGone Full mark (Some doc) = doc.seqno ≤ mark

-- Memory shows the documents: `nodes` each node its key's; `gone` once the vBucket has opened, a key of the stripe without a
-- node has no document but a stored one.
pub record TableShows (f : FrontData) (stripe : ℕ) (s : StripeData) : Type 0 where
  pub nodes : (key : List ℕ) (node : NodeData) → node_at s.slots key ≡ Some node → NodeShows f key node
  pub gone : (world_of f).opened ≡ true → (key : List ℕ) → stripe_of key f.config.stripes ≡ stripe
      → node_at s.slots key ≡ None
      → IsGone f.config.eviction (marked f stripe) (map.get (world_of f).docs key)

-- Memory of a stripe.
-- `index`, `stripes`, `eviction`: it is this stripe, of as many as the layout says, under its eviction;
-- `blocks`: it has as many blocks, of which those are free that no node takes;
-- `mark`: its mark is the number of the last Marked;
-- `state`, `opened`: the vBucket's state, and whether it has opened;
-- `nodes`: what each node is;
-- `shown`: where documents are known it shows them.
pub record TableStands (f : FrontData) (stripe : ℕ) (s : StripeData) : Type 0 where
  pub index : s.index ≡ stripe
  pub stripes : s.stripes ≡ f.config.stripes
  pub eviction : s.eviction ≡ f.config.eviction
  pub blocks : length s.slots ≡ f.config.blocks
  pub mark : s.mark ≡ marked f stripe
  pub state : s.state ≡ (world_of f).state
  pub opened : s.opened ≡ (world_of f).opened
  pub nodes : (key : List ℕ) (node : NodeData) → node_at s.slots key ≡ Some node → NodeStands f stripe key node
  pub shown : (world_of f).told ≡ true → TableShows f stripe s

-- what became of a read is what the history tells of it
abbrev pub OutcomeStands : FrontData → Ticket → Outcome → Type 0
OutcomeStands f ticket Waiting = AllByRecursion (IsNoRead ticket) f.events
OutcomeStands f ticket Merged = Unit {0}
OutcomeStands f ticket Absent = Unit {0}
OutcomeStands f ticket (Failed fault) = HasFailedRead f.events ticket fault
OutcomeStands f ticket NoMemory = Unit {0}
OutcomeStands f ticket (NoRoom blocks) = Unit {0}

-- the document takes so many blocks, and isn't deleted
abbrev pub IsOfBlocks : List ℕ → ℕ → Option Doc → Type 0
IsOfBlocks key blocks None = ⊥
IsOfBlocks key blocks (Some doc) = (doc.deleted ≡ false) × (blocks ≡ doc_blocks key doc)

-- and what was found in the store is what there is
abbrev pub OutcomeShows : FrontData → List ℕ → Outcome → Type 0
OutcomeShows f key Waiting = Unit {0}
OutcomeShows f key Merged = Unit {0}
OutcomeShows f key Absent = IsAbsent (map.get (world_of f).docs key)
OutcomeShows f key (Failed fault) = Unit {0}
OutcomeShows f key NoMemory = Unit {0}
OutcomeShows f key (NoRoom blocks) = IsOfBlocks key blocks (map.get (world_of f).docs key)

-- A place in use.
-- `home`, `here`: its ticket and its key are of this stripe;
-- `waiting`: a call asked for the key at the ticket, and no mutation of the key stands after that;
-- `unused`: no call was refused for what became of the read;
-- `outcome`, `shown`: what became of it is so, and where documents are known it is of the key's document.
pub record PlaceStands (f : FrontData) (stripe : ℕ) (place : Place) : Type 0 where
  pub home : place.ticket.stripe ≡ stripe
  pub here : stripe_of place.key f.config.stripes ≡ stripe
  pub waiting : is_waiting f place.ticket place.key ≡ true
  pub unused : AllByRecursion (IsUnused place.ticket) f.events
  pub outcome : OutcomeStands f place.ticket place.outcome
  pub shown : (world_of f).told ≡ true → OutcomeShows f place.key place.outcome

-- The places of a stripe.
-- `home`: they are this stripe's;
-- `next`: the next ticket is above all that were asked;
-- `closed`: before the vBucket has opened there is no place;
-- `places`: what each place is.
pub record BookStands (f : FrontData) (stripe : ℕ) (book : BookData) : Type 0 where
  pub home : book.stripe ≡ stripe
  pub next : AllByRecursion (IsBelow (next_ticket book)) f.events
  pub closed : (world_of f).opened ≡ false → book.places ≡ []
  pub places : AllByRecursion (PlaceStands f stripe) book.places

-- A stripe stands for a history: the vBucket has it, and its memory and its places stand.
pub record StripeStands (f : FrontData) (stripe : ℕ) (x : StripePart) : Type 0 where
  pub there : nat_lt stripe f.config.stripes ≡ true
  pub table : TableStands f stripe x.table
  pub book : BookStands f stripe x.book

-- an item that is held of a mutation: `key`, `number` and `cas` always, `shown` its document where documents are known
pub record IsItem (f : FrontData) (held : ItemData) (item : Item) : Type 0 where
  pub key : held.key ≡ item.0
  pub number : held.meta.seqno ≡ item.1.seqno
  pub cas : held.meta.cas ≡ item.1.cas
  pub shown : (world_of f).told ≡ true → doc_from held.meta held.value ≡ item.1

-- these items are held, each once and in order
abbrev pub AreItems : FrontData → List ItemData → List Item → Type 0
AreItems f [] [] = Unit {0}
AreItems f [] (item ∷ items) = ⊥
AreItems f (x ∷ held) [] = ⊥
AreItems f (x ∷ held) (item ∷ items) = IsItem f x item × AreItems f held items

-- every cursor has passed the item
abbrev pub IsPassed : QueueData → Item → Type 0
IsPassed q item = item.1.seqno ≤ least_cursor q

-- A queue stands for a history.
-- `blocks`, `ckpt_max`: it has as many blocks as the layout says, and as many keys in a checkpoint at most;
-- `high`, `maxcas`, `persisted`, `table`, `state`, `opened`: the vBucket's numbers, its failover table and its state;
-- `id`: the open checkpoint's id;
-- `behind`, `ahead`: the flusher has read no less than what is persisted, and no more than there is;
-- `named`: no named cursor is ahead of all mutations;
-- `expelled`, `passed`: so many of the oldest items of closed checkpoints are gone, and every cursor has passed them;
-- `closed`, `last`: the others are held, and those of the open checkpoint.
pub record QueueStands (f : FrontData) (q : QueueData) : Type 0 where
  pub blocks : q.blocks ≡ f.config.ckpt_blocks
  pub ckpt_max : q.ckpt_max ≡ f.config.ckpt_max
  pub high : q.high ≡ (world_of f).high
  pub maxcas : q.maxcas ≡ (world_of f).maxcas
  pub persisted : q.persisted ≡ (world_of f).persisted
  pub table : q.table ≡ (world_of f).failovers
  pub state : q.state ≡ (world_of f).state
  pub opened : q.opened ≡ (world_of f).opened
  pub id : q.id ≡ (cut f).last.id
  pub behind : (world_of f).persisted ≤ q.cursor
  pub ahead : q.cursor ≤ (world_of f).high
  pub named : All (λ (c : ℕ × ℕ). c.1 ≤ (world_of f).high) q.named
  pub expelled : ℕ
  pub passed : AllByRecursion (IsPassed q) (take expelled (all_items (cut f).closed))
  pub closed : AreItems f q.closed (drop expelled (all_items (cut f).closed))
  pub last : AreItems f q.last (cut f).last.items
