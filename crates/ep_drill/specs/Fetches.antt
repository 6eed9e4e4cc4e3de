-- What reads of the store find, and how they end.
use Rattle.std.specs.Prelude.{◌≡◌, ℕ, ◌+◌, ◌-◌, ◌^◌, ◌≤◌, ◌⊎◌, Bool, true, false, List, [], Option, Some, None, IsSome, Vec, vec_len, vec_capacity}
use Rattle.std.specs.FinMap as map
use Rattle.std.specs.declared.alloc.Global.{Global}
use Rattle.ep_model.specs.declared.call.Meta.{Meta}
use Rattle.ep_model.specs.Limits.{IsKey, max_value}
use Rattle.ep_model.specs.World.{Doc, doc_from}
use Rattle.ep_model.specs.declared.data.EventData.TheVariants as events
use Rattle.ep_model.specs.declared.data.FrontData.{FrontData}
use Rattle.ep_model.specs.declared.event.Ticket.{Ticket}
use Rattle.ep_model.specs.Front.{with_event}
use Rattle.kv_keeper.specs.declared.data.DeskData.{DeskData}
use Rattle.kv_keeper.specs.Content.{Content}
use Rattle.kv_keeper.specs.Desk.{after_failed_read}
use Rattle.ep_drill.specs.declared.data.FetchedData.{FetchedData}
use Rattle.ep_drill.specs.declared.data.FoundData.{FoundData}
use Rattle.ep_drill.specs.declared.data.FoundData.TheVariants as founds
use Rattle.ep_drill.specs.declared.fetched.Fetched.{Fetched}
use Rattle.ep_drill.specs.declared.fetched.ReadFound.{ReadFound}
use Rattle.ep_drill.specs.declared.fetched.ReadFound.TheVariants as found
use Rattle.ep_drill.specs.declared.fetch.Merging.{Merging}
use Rattle.ep_drill.specs.declared.fetch.Merging.TheVariants as mergings
use Rattle.ep_drill.specs.declared.part.Part.{Part}
use Rattle.ep_drill.specs.declared.part.Part.TheVariants as parts
use Rattle.flat_parts.specs.declared.data.NodeData.{NodeData}
use Rattle.flat_parts.specs.declared.data.Outcome.{Outcome}
use Rattle.flat_parts.specs.declared.data.Outcome.TheVariants as outcomes
use Rattle.flat_parts.specs.declared.data.PlaceData.{PlaceData}
use Rattle.flat_parts.specs.declared.data.StripeData.{StripeData}
use Rattle.flat_parts.specs.Nodes.{node_at, first_waiting, outcome_at, settled}
use Rattle.flat_parts.specs.Steps.{restored}
use Rattle.ep_drill.specs.Stands.{FetchedStands}
use Rattle.ep_drill.specs.Parts.{Becomes}

-- what was read, without where its bytes lie
abbrev pub found_data : ReadFound → FoundData
found_data (found.Row row) = founds.Row (doc_from row.meta row.value.items)
found_data found.Absent = founds.Absent
found_data (found.Failed fault) = founds.Failed fault
found_data found.NoMemory = founds.NoMemory

abbrev pub fetched_data : Fetched → FetchedData
fetched_data f = record { ticket = f.ticket; key = f.key.items; found = found_data f.found }

-- nothing, with room for any value
abbrev pub IsRoom : Vec ℕ Global → Type 0
IsRoom room = (room.items ≡ []) × (vec_len room ≡ 0) × (max_value ≤ vec_capacity room)

-- a copy of the first place whose read still waits, by its number and its key, with room for the value
abbrev pub IsOldest : Option PlaceData → Option (ℕ × Vec ℕ Global × Vec ℕ Global) → Type 0
IsOldest None None = Unit {0}
IsOldest None (Some copy) = ⊥
IsOldest (Some place) None = ⊥
IsOldest (Some place) (Some copy) = (copy.0 ≡ place.number) × (copy.1.items ≡ place.key) × IsKey copy.1.items × IsRoom copy.2

-- what was read is what the store holds of the key
abbrev pub IsFoundIn : Content → List ℕ → FoundData → Type 0
IsFoundIn content key (founds.Row doc) = map.get content.docs key ≡ Some doc
IsFoundIn content key founds.Absent = map.get content.docs key ≡ None
IsFoundIn content key (founds.Failed fault) = Unit {0}
IsFoundIn content key founds.NoMemory = Unit {0}

-- A value that was read goes back where the key's node has this metadata and its value is away; else nothing changes. It is in
-- memory then, or was before, exactly where that is answered.
abbrev pub IsBack : StripeData → List ℕ → Meta → List ℕ → StripeData → Bool → Type 0
IsBack x key meta value y true =
    (node : NodeData) × (node_at x.nodes key ≡ Some node) × (((node.value ≡ None → ⊥) × (y ≡ x)) ⊎ ((node.value ≡ None) × (node.meta ≡ meta) × (y ≡ restored x key (doc_from meta value))))
IsBack x key meta value y false = (y ≡ x) × ((node : NodeData) → node_at x.nodes key ≡ Some node → (node.value ≡ None) × (node.meta ≡ meta → ⊥))

-- what a read leaves of its stripe
abbrev pub settles : StripeData → ℕ → Outcome → StripeData
settles x number outcome = record x { places = settled x.places number outcome }

-- A read that failed has the number that the desk's count of failed reads has since, one more than before, and the store failed
-- that once. Any other leaves the desk as it was.
abbrev pub Reads : DeskData → DeskData → FoundData → Type 0
Reads old new (founds.Row doc) = new ≡ old
Reads old new founds.Absent = new ≡ old
Reads old new (founds.Failed fault) = (fault ≡ old.read_faults + 1) × (new ≡ after_failed_read old)
Reads old new founds.NoMemory = new ≡ old

-- Memory was wanting for a read that the store was asked for: its reads may want it, or so many of them failed that none is
-- counted any more. The core's own room is taken before.
abbrev pub IsWantingRead : DeskData → Type 0
IsWantingRead desk = (desk.keeper.ample ≡ false) ⊎ (desk.read_faults ≡ 2 ^ 64 - 1)

-- and nothing else answers so
abbrev pub WantsRead : DeskData → FoundData → Type 0
WantsRead desk (founds.Row doc) = Unit {0}
WantsRead desk founds.Absent = Unit {0}
WantsRead desk (founds.Failed fault) = Unit {0}
WantsRead desk founds.NoMemory = IsWantingRead desk

-- a read for whoever waits in the stripe stands; none is made where nobody waits
abbrev pub IsRead : FrontData → ℕ → DeskData → DeskData → Option Fetched → Type 0
IsRead f stripe old new None = new ≡ old
IsRead f stripe old new (Some fetched) = FetchedStands f (fetched_data fetched) × (fetched.ticket.stripe ≡ stripe) × Reads old new (found_data fetched.found) × WantsRead old (found_data fetched.found)

-- the read is that of the oldest place that waits in a stripe; none is made where none waits
abbrev pub IsReadOf : Option PlaceData → Option Fetched → Type 0
IsReadOf None None = Unit {0}
IsReadOf None (Some fetched) = ⊥
IsReadOf (Some place) None = ⊥
IsReadOf (Some place) (Some fetched) = (fetched.ticket.number ≡ place.number) × (fetched.key.items ≡ place.key)

abbrev pub ReadsOldest : Option Part → Option Fetched → Type 0
ReadsOldest None read = ⊥
ReadsOldest (Some (parts.Stripe x)) read = IsReadOf (first_waiting x.places) read
ReadsOldest (Some (parts.Queue q)) read = ⊥
ReadsOldest (Some (parts.Desk d)) read = ⊥

-- some place waits in a stripe
abbrev pub HasWaiting : Option Part → Type 0
HasWaiting None = ⊥
HasWaiting (Some (parts.Stripe x)) = IsSome (first_waiting x.places)
HasWaiting (Some (parts.Queue q)) = ⊥
HasWaiting (Some (parts.Desk d)) = ⊥

-- the place of a ticket still stands in a stripe
abbrev pub TicketHasPlace : Option Part → Ticket → Type 0
TicketHasPlace None ticket = ⊥
TicketHasPlace (Some (parts.Stripe x)) ticket = (outcome_at x.places ticket.number ≡ None) → ⊥
TicketHasPlace (Some (parts.Queue q)) ticket = ⊥
TicketHasPlace (Some (parts.Desk d)) ticket = ⊥

abbrev pub TicketHasNoPlace : Option Part → Ticket → Type 0
TicketHasNoPlace None ticket = ⊥
TicketHasNoPlace (Some (parts.Stripe x)) ticket = outcome_at x.places ticket.number ≡ None
TicketHasNoPlace (Some (parts.Queue q)) ticket = ⊥
TicketHasNoPlace (Some (parts.Desk d)) ticket = ⊥

-- in a stripe the place of a ticket has this outcome
abbrev pub HasOutcome : Option Part → Ticket → Outcome → Type 0
HasOutcome None ticket outcome = ⊥
HasOutcome (Some (parts.Stripe x)) ticket outcome = outcome_at x.places ticket.number ≡ Some outcome
HasOutcome (Some (parts.Queue q)) ticket outcome = ⊥
HasOutcome (Some (parts.Desk d)) ticket outcome = ⊥

-- in a stripe the value of a key is in memory
abbrev pub HasValue : Option Part → List ℕ → Type 0
HasValue None key = ⊥
HasValue (Some (parts.Stripe x)) key = (node : NodeData) × (node_at x.nodes key ≡ Some node) × (node.value ≡ None → ⊥)
HasValue (Some (parts.Queue q)) key = ⊥
HasValue (Some (parts.Desk d)) key = ⊥

-- a document was found
abbrev pub IsRow : FoundData → Type 0
IsRow (founds.Row doc) = Unit {0}
IsRow founds.Absent = ⊥
IsRow (founds.Failed fault) = ⊥
IsRow founds.NoMemory = ⊥

-- a value that was read goes back where the key's node has none
abbrev pub put_back_value : StripeData → List ℕ → Doc → Option (List ℕ) → StripeData
put_back_value x key doc None = restored x key doc
put_back_value x key doc (Some value) = x

abbrev pub put_back_node : StripeData → List ℕ → Doc → Option NodeData → StripeData
put_back_node x key doc None = x
put_back_node x key doc (Some node) = put_back_value x key doc node.value

abbrev pub put_back_found : StripeData → List ℕ → FoundData → StripeData
put_back_found x key (founds.Row doc) = put_back_node x key doc (node_at x.nodes key)
put_back_found x key founds.Absent = x
put_back_found x key (founds.Failed fault) = x
put_back_found x key founds.NoMemory = x

-- A read is stale exactly where nobody waits at its ticket. Else it ends as it says, whoever waits there finds that, and a failure
-- is told. What was read is in memory then, and nothing else changes in the stripe.
abbrev pub IsMerged : FrontData → FrontData → Option Part → Option Part → FetchedData → Merging → Type 0
IsMerged old new part left fetched mergings.Merged = (new ≡ old) × TicketHasPlace part fetched.ticket × HasOutcome left fetched.ticket outcomes.Merged × HasValue left fetched.key × IsRow fetched.found × Becomes part left (λ x. settles (put_back_found x fetched.key fetched.found) fetched.ticket.number outcomes.Merged)
IsMerged old new part left fetched mergings.Absent = (new ≡ old) × TicketHasPlace part fetched.ticket × (fetched.found ≡ founds.Absent) × HasOutcome left fetched.ticket outcomes.Absent × Becomes part left (λ x. settles x fetched.ticket.number outcomes.Absent)
IsMerged old new part left fetched mergings.Stale = (new ≡ old) × (left ≡ part) × TicketHasNoPlace part fetched.ticket
IsMerged old new part left fetched mergings.Failed = (fault : ℕ) × (fetched.found ≡ founds.Failed fault) × (new ≡ with_event old (events.ReadFailed fetched.ticket fault)) × TicketHasPlace part fetched.ticket × HasOutcome left fetched.ticket (outcomes.Failed fault) × Becomes part left (λ x. settles x fetched.ticket.number (outcomes.Failed fault))
IsMerged old new part left fetched mergings.NoMemory = (new ≡ old) × (fetched.found ≡ founds.NoMemory) × TicketHasPlace part fetched.ticket × HasOutcome left fetched.ticket outcomes.NoMemory × Becomes part left (λ x. settles x fetched.ticket.number outcomes.NoMemory)
