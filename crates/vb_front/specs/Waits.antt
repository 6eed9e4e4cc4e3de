-- What a call comes to that needs what isn't in memory.
use Rattle.std.specs.Prelude.{ℕ, ◌+◌, nat_lt, Bool, if◌then◌else◌, List, length, Option, Some, None}
use Rattle.ep_model.specs.declared.config.Eviction.{Eviction}
use Rattle.ep_model.specs.declared.config.Eviction.TheVariants.{Value, Full}
use Rattle.ep_model.specs.declared.event.Cause.TheVariants as causes
use Rattle.ep_model.specs.declared.event.Ticket.{Ticket}
use Rattle.ep_model.specs.World.{Doc, doc_from}
use Rattle.hash_stripe.specs.Nodes.{NodeData, Slot, node_at, others_pinned}
use Rattle.hash_stripe.specs.Stripes.{StripeData}
use Rattle.fetch_book.specs.declared.place.Outcome.{Outcome}
use Rattle.fetch_book.specs.declared.place.Outcome.TheVariants as outcomes
use Rattle.fetch_book.specs.Places.{place_at, released}
use Rattle.fetch_book.specs.Books.{BookData, is_full, next_ticket, asked, outcome_of}
use Rattle.vb_front.specs.declared.step.Step.{Step}
use Rattle.vb_front.specs.declared.step.Step.TheVariants.{Fetch, FetchFull}
use Rattle.vb_front.specs.declared.wait.Meaning.{Meaning}
use Rattle.vb_front.specs.declared.wait.Meaning.TheVariants.{Waits, Asks, Absent, Refused}

-- What memory has of a document: all that a call needs (of a key that has none `Known None`), or not all.
pub data Memory : Type 0 where
  Known : (doc : Option Doc) → Memory
  Away : Memory

abbrev pub value_memory : NodeData → Option (List ℕ) → Memory
value_memory node None = Away
value_memory node (Some value) = Known (Some (doc_from node.meta value))

-- Under value eviction a key without a node has no document, or a deleted one; under full eviction its document may be away.
abbrev pub slot_memory : Eviction → Slot → Memory
slot_memory Value None = Known None
slot_memory Full None = Away
slot_memory eviction (Some node) = value_memory node node.value

abbrev pub memory_of : StripeData → List ℕ → Memory
memory_of s key = slot_memory s.eviction (node_at s.slots key)

-- a document of a key that takes so many blocks has no room, whatever else is ejected
abbrev pub has_no_room : StripeData → List ℕ → ℕ → Bool
has_no_room s key blocks = nat_lt (length s.slots) (others_pinned s.eviction s.mark key s.slots + blocks)

-- what became of the read that the call asked for, where its place still stands
abbrev pub prior_outcome : BookData → Option Ticket → Option Outcome
prior_outcome book None = None
prior_outcome book (Some ticket) = outcome_of (place_at book.places ticket)

-- A place whose document was put back counts as gone, since the call needs what isn't in memory again. So does one whose
-- document had no room and has room now.
abbrev pub waited_at : StripeData → List ℕ → Ticket → Outcome → Meaning
waited_at s key ticket outcomes.Waiting = Waits ticket
waited_at s key ticket outcomes.Merged = Asks
waited_at s key ticket outcomes.Absent = Absent
waited_at s key ticket (outcomes.Failed fault) = Refused (causes.Store ticket)
waited_at s key ticket outcomes.NoMemory = Refused (causes.Memory ticket)
waited_at s key ticket (outcomes.NoRoom blocks) = if has_no_room s key blocks then Refused causes.Quota else Asks

abbrev pub waited_for : StripeData → List ℕ → Option Ticket → Option Outcome → Meaning
waited_for s key None outcome = Asks
waited_for s key (Some ticket) None = Asks
waited_for s key (Some ticket) (Some outcome) = waited_at s key ticket outcome

abbrev pub waited : StripeData → BookData → List ℕ → Option Ticket → Meaning
waited s book key prior = waited_for s key prior (prior_outcome book prior)

-- the place of the call is free again
abbrev pub release : BookData → Option Ticket → BookData
release book None = book
release book (Some ticket) = record book { places = released book.places ticket }

-- a new place is asked for
abbrev pub ask_step : BookData → Step
ask_step book = if is_full book then FetchFull else Fetch (next_ticket book)

abbrev pub ask_book : BookData → List ℕ → BookData
ask_book book key = if is_full book then book else asked book key
