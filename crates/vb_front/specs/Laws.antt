-- What is true of all parts, desks and batches that stand for a history.
use Rattle.std.specs.Prelude.{◌≡◌, ℕ, ◌<◌, ◌≤◌, true, false, replicate, [], Option, None}
use Rattle.ep_model.specs.declared.call.VbState.TheVariants.{Active}
use Rattle.ep_model.specs.declared.config.Config.{Config}
use Rattle.ep_model.specs.declared.data.CallData.{CallData}
use Rattle.ep_model.specs.declared.data.EventData.{EventData}
use Rattle.ep_model.specs.declared.data.EventData.TheVariants.{Persisted, ReadFailed}
use Rattle.ep_model.specs.declared.data.FrontData.{FrontData}
use Rattle.ep_model.specs.declared.data.StartData.{StartData}
use Rattle.ep_model.specs.declared.event.Ticket.{Ticket}
use Rattle.ep_model.specs.Front.{started, world_of, with_event}
use Rattle.ep_model.specs.Legal.{IsLegal}
use Rattle.hold_stage.specs.Touches.{is_desks, is_of}
use Rattle.ckpt_manager.specs.declared.data.QueueData.{QueueData}
use Rattle.ckpt_manager.specs.Queue.{fresh, begun}
use Rattle.kv_keeper.specs.declared.data.BatchData.{BatchData}
use Rattle.kv_keeper.specs.declared.data.DeskData.{DeskData}
use Rattle.kv_keeper.specs.Content.{KeeperData}
use Rattle.kv_keeper.specs.Desk.{new_desk}
use Rattle.vb_front.specs.declared.part.StripePart.{StripePart}
use Rattle.vb_front.specs.Stands.{StripeStands, QueueStands}
use Rattle.vb_front.specs.Desks.{DeskStands, BatchStands}
use Rattle.hold_stage.specs.Priors.{PriorStands}

-- nothing has happened yet behind a start, or before one is put
abbrev pub unbegun : Config → ℕ → Option StartData → FrontData
unbegun config id start = record { config = config; id = id; start = start; events = [] }

-- a stripe of this number that has nothing, all of which is stored up to a mark
abbrev pub empty_stripe : Config → ℕ → ℕ → StripePart
empty_stripe config stripe mark = record {
  table = record { index = stripe; stripes = config.stripes; eviction = config.eviction; slots = replicate config.blocks None; mark = mark; state = Active; opened = false };
  book = record { stripe = stripe; next = 1; places = [] };
}

-- a queue that has nothing behind a start
abbrev pub empty_queue : Config → StartData → QueueData
empty_queue config s = begun (fresh config.ckpt_blocks config.ckpt_max) s.high s.maxcas s.failovers

-- Parts that have nothing stand for a history in which nothing happened: before a start is put, and behind any start, whether
-- its documents are known or not.
abbrev pub EmptyStripesStand : Type 0
EmptyStripesStand = (config : Config) (id stripe : ℕ) (start : Option StartData) → stripe < config.stripes
    → StripeStands (unbegun config id start) stripe (empty_stripe config stripe (started start).high)

abbrev pub EmptyQueuesStand : Type 0
EmptyQueuesStand = (config : Config) (id : ℕ) (start : Option StartData)
    → QueueStands (unbegun config id start) (empty_queue config (started start))

-- A desk that was just made over a store of which no commit failed stands before a start is put, whatever that holds.
abbrev pub NewDesksStand : Type 0
NewDesksStand = (config : Config) (id : ℕ) (keeper : KeeperData) → keeper.sure ≡ true
    → DeskStands (unbegun config id None) (new_desk keeper)

-- A desk, and a batch that waits for its commit, stand on while others note events that aren't the desk's.
abbrev pub DesksStandOn : Type 0
DesksStandOn = (f : FrontData) (event : EventData) (desk : DeskData) → IsLegal f → is_desks event ≡ false
    → DeskStands f desk → DeskStands (with_event f event) desk

abbrev pub BatchesStandOn : Type 0
BatchesStandOn = (f : FrontData) (event : EventData) (desk : DeskData) (batch : BatchData) → IsLegal f
    → is_desks event ≡ false → DeskStands f desk → BatchStands f desk batch
    → BatchStands (with_event f event) desk batch

-- Whoever notes an event, a batch stands on as long as less than its number is told to be stored.
abbrev pub BatchesStandAbove : Type 0
BatchesStandAbove = (f : FrontData) (event : EventData) (desk : DeskData) (batch : BatchData) → IsLegal f
    → (world_of (with_event f event)).persisted < batch.to → DeskStands f desk → BatchStands f desk batch
    → BatchStands (with_event f event) desk batch

-- A desk that tells what is stored, and notes that it did.
abbrev pub DesksStore : Type 0
DesksStore = (f : FrontData) (desk : DeskData) → IsLegal f → DeskStands f desk
    → DeskStands (with_event f (Persisted desk.stored)) (record desk { noted = desk.stored })

-- A desk that tells of a failed read, which is among those that it counted.
abbrev pub DesksFail : Type 0
DesksFail = (f : FrontData) (desk : DeskData) (ticket : Ticket) (fault : ℕ) → IsLegal f → 1 ≤ fault
    → fault ≤ desk.read_faults → DeskStands f desk → DeskStands (with_event f (ReadFailed ticket fault)) desk

-- A call that asked waits on while others note events.
abbrev pub PriorsStandOn : Type 0
PriorsStandOn = (f : FrontData) (event : EventData) (caller : ℕ) (call : CallData) (ticket : Ticket)
    → is_of caller event ≡ false → PriorStands f caller call ticket
    → PriorStands (with_event f event) caller call ticket
