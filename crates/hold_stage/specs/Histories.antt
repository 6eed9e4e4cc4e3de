-- What is true of every legal history, whether its documents are known or not.
use Rattle.std.specs.Prelude.{◌≡◌, ℕ, ◌+◌, ◌<◌, ◌≤◌, Bool, true, false, if◌then◌else◌, List, [], ◌∷◌, ◌++◌, length, Option, Some, None}
use Rattle.std.specs.List.{AllByRecursion}
use Rattle.std.specs.Option.{option_or}
use Rattle.std.specs.Str.{bytes_eq}
use Rattle.std.specs.FinMap as map
use Rattle.ep_model.specs.declared.event.Ticket.{Ticket}
use Rattle.ep_model.specs.declared.data.CallData.{CallData}
use Rattle.ep_model.specs.declared.data.EventData.{EventData}
use Rattle.ep_model.specs.declared.data.EventData.TheVariants.{Asked}
use Rattle.ep_model.specs.declared.data.FrontData.{FrontData}
use Rattle.ep_model.specs.World.{Doc, World, Item}
use Rattle.ep_model.specs.History.{upto}
use Rattle.ep_model.specs.Mutations.{mutations, above, laid_on}
use Rattle.ep_model.specs.Front.{begun, started, world_of, with_event, with_events, marked}
use Rattle.ep_model.specs.Legal.{IsNoFault, IsLegal}
use Rattle.ep_model.specs.Checkpoints.{cut, kept}
use Rattle.hold_stage.specs.Touches.{is_desks}

-- what a front has put, and its world at a number
abbrev pub puts_of : FrontData → List Item
puts_of f = mutations (begun f) f.events

abbrev pub world_at : FrontData → ℕ → World
world_at f number = upto (begun f) f.events number

-- a number that the history reached since its start
pub record IsReached (f : FrontData) (number : ℕ) : Type 0 where
  pub low : (started f.start).high ≤ number
  pub top : number ≤ (world_of f).high

-- No two asks have one ticket.
abbrev pub TicketsDiffer : Type 0
TicketsDiffer = (f : FrontData) (ticket : Ticket) (b c : ℕ) (x y : CallData) (before other later rest : List EventData) → IsLegal f
    → f.events ≡ before ++ Asked ticket b x ∷ later → f.events ≡ other ++ Asked ticket c y ∷ rest → before ≡ other

-- What is marked is stored, what is stored was put, and all of the start is.
pub record IsBounded (f : FrontData) : Type 0 where
  pub start : (started f.start).high ≤ (world_of f).persisted
  pub stored : (world_of f).persisted ≤ (world_of f).high
  pub marks : (stripe : ℕ) → marked f stripe ≤ (world_of f).persisted

abbrev pub LegalIsBounded : Type 0
LegalIsBounded = (f : FrontData) → IsLegal f → IsBounded f

-- None of these numbers falls.
pub record HasRisen (f g : FrontData) : Type 0 where
  pub high : (world_of f).high ≤ (world_of g).high
  pub stored : (world_of f).persisted ≤ (world_of g).persisted
  pub marks : (stripe : ℕ) → marked f stripe ≤ marked g stripe

abbrev pub NumbersRise : Type 0
NumbersRise = (f : FrontData) (more : List EventData) → IsLegal (with_events f more) → HasRisen f (with_events f more)

-- Before it opens a legal history has what it starts with: nothing is put, and nothing more is stored.
abbrev pub UnopenedIsStart : Type 0
UnopenedIsStart = (f : FrontData) → IsLegal f → (world_of f).opened ≡ false
    → ((world_of f).high ≡ (started f.start).high) × ((world_of f).persisted ≡ (started f.start).high)

-- Mutations are numbered one after the other, without gaps.
abbrev pub AreNumbered : ℕ → List Item → Type 0
AreNumbered number [] = Unit {0}
AreNumbered number (item ∷ items) = (item.1.seqno ≡ number + 1) × AreNumbered (number + 1) items

abbrev pub MutationsAreNumbered : Type 0
MutationsAreNumbered = (f : FrontData) → AreNumbered (started f.start).high (puts_of f) × ((world_of f).high ≡ (started f.start).high + length (puts_of f))

-- What was there at a number stays.
abbrev pub UptoStays : Type 0
UptoStays = (f : FrontData) (more : List EventData) (number : ℕ) → IsReached f number → world_at (with_events f more) number ≡ world_at f number

-- A document numbered up to a number was there at that number, and where there is none there was none.
abbrev pub DocsStay : Type 0
DocsStay = (f : FrontData) (number : ℕ) (key : List ℕ) (doc : Doc) → map.get (world_of f).docs key ≡ Some doc → doc.seqno ≤ number → map.get (world_at f number).docs key ≡ Some doc

abbrev pub NoDocsStay : Type 0
NoDocsStay = (f : FrontData) (number : ℕ) (key : List ℕ) → map.get (world_of f).docs key ≡ None → map.get (world_at f number).docs key ≡ None

-- the last document of a key among these
abbrev pub last_of : List ℕ → List Item → Option Doc
last_of key [] = None
last_of key (item ∷ items) = option_or (last_of key items) (if bytes_eq item.0 key then Some item.1 else None)

-- these have the last mutation of each key that was changed above a number
abbrev pub IsBatchAbove : FrontData → ℕ → List Item → Type 0
IsBatchAbove f number items = (key : List ℕ) → last_of key items ≡ last_of key (above number (puts_of f))

-- The last mutations of all keys that were changed above a number, laid over what there was at that number or at any
-- later one, give what there is.
abbrev pub BatchLaw : Type 0
BatchLaw = (f : FrontData) (number stored : ℕ) (items : List Item) → IsReached f number → number ≤ stored → stored ≤ (world_of f).high → IsBatchAbove f number items
    → laid_on (world_at f stored).docs items ≡ (world_of f).docs

-- a world's documents are within its greatest numbers
abbrev pub HasNumbersWithin : World → Type 0
HasNumbersWithin w = (key : List ℕ) (doc : Doc) → map.get w.docs key ≡ Some doc → (doc.seqno ≤ w.high) × (doc.cas ≤ w.maxcas)

abbrev pub NumbersStayWithin : Type 0
NumbersStayWithin = (f : FrontData) → HasNumbersWithin (begun f) → HasNumbersWithin (world_of f)

-- Others leave what only who has the desk notes: what is stored, what was there at each number, and the failed reads.
pub record LeavesDesk (f : FrontData) (event : EventData) : Type 0 where
  pub stored : (world_of (with_event f event)).persisted ≡ (world_of f).persisted
  pub at_number : (number : ℕ) → IsReached f number → world_at (with_event f event) number ≡ world_at f number
  pub reached : (number : ℕ) → IsReached f number → IsReached (with_event f event) number
  pub no_fault : (fault : ℕ) → IsNoFault fault event

abbrev pub OthersLeaveDesk : Type 0
OthersLeaveDesk = (f : FrontData) (event : EventData) → is_desks event ≡ false → LeavesDesk f event

-- The open checkpoint holds nothing that is stored.
abbrev pub OpenIsUnstored : Type 0
OpenIsUnstored = (f : FrontData) → IsLegal f → AllByRecursion (λ (item : Item). (world_of f).persisted < item.1.seqno) (cut f).last.items

-- What is kept of a key last is its last mutation that isn't stored.
abbrev pub KeptAreLast : Type 0
KeptAreLast = (f : FrontData) → IsBatchAbove f (world_of f).persisted (kept f)
