-- What a stripe does, and which events it then stands behind. A call that holds a stripe does one of these.
use Rattle.std.specs.Prelude.{◌≡◌, ℕ, ◌+◌, true, List, [], Option, Some}
use Rattle.ep_model.specs.declared.call.Reply.{Reply}
use Rattle.ep_model.specs.declared.event.Cause.{Cause}
use Rattle.ep_model.specs.declared.event.Cause.TheVariants as causes
use Rattle.ep_model.specs.declared.event.Ticket.{Ticket}
use Rattle.ep_model.specs.declared.data.CallData.{CallData}
use Rattle.ep_model.specs.declared.data.EventData.{EventData}
use Rattle.ep_model.specs.declared.data.EventData.TheVariants.{Called, Refused}
use Rattle.ep_model.specs.declared.data.FrontData.{FrontData}
use Rattle.ep_model.specs.World.{Doc, meta_of, doc_blocks}
use Rattle.ep_model.specs.Stripes.{stripe_of}
use Rattle.ep_model.specs.Calls.{key_of}
use Rattle.ep_model.specs.Limits.{IsKey}
use Rattle.ep_model.specs.Needs.{needs}
use Rattle.ep_model.specs.Mutations.{mutation_of}
use Rattle.ep_model.specs.Front.{world_of, with_event}
use Rattle.ep_model.specs.Legal.{IsServing, IsLegal}
use Rattle.hash_stripe.specs.Nodes.{NodeData, Slot, node_blocks, EjectsOthers, Restores}
use Rattle.hash_stripe.specs.Stripes.{IsStripe}
use Rattle.vb_front.specs.declared.part.StripePart.{StripePart}
use Rattle.vb_front.specs.Stands.{StripeStands}
use Rattle.vb_front.specs.Priors.{event_of, IsNext}
use Rattle.hold_stage.specs.Priors.{PriorsStand}
use Rattle.vb_front.specs.Waits.{Away, memory_of, release, ask_step, ask_book}
use Rattle.vb_front.specs.Reads.{with_heated}
use Rattle.vb_front.specs.Writes.{forget, node_of}
use Rattle.vb_front.specs.Queues.{IsPutBy, PutsNothing}

-- A stripe that takes the node of a document which an event puts: documents of other keys may be ejected for it, and all places
-- of its key go. The node has a value, and where documents are known it is the document's.
abbrev pub StripesTakeMutations : Type 0
StripesTakeMutations = (f : FrontData) (stripe : ℕ) (event : EventData) (x : StripePart) (node : NodeData) (doc : Doc)
    → (value : List ℕ) (slots : List Slot) → mutation_of (world_of f) event ≡ Some (node.key, doc)
    → node.value ≡ Some value → ((world_of f).told ≡ true → (node.meta ≡ meta_of doc) × (value ≡ doc.value))
    → stripe_of node.key f.config.stripes ≡ stripe → IsKey node.key → IsStripe x.table
    → Restores x.table.eviction x.table.mark (node_blocks node) node x.table.slots slots → StripeStands f stripe x
    → StripeStands (with_event f event) stripe
    (record { table = record x.table { slots = slots }; book = forget x.book node.key })

-- And one that takes the document which a call puts.
abbrev pub StripesTakeCalls : Type 0
StripesTakeCalls = (f : FrontData) (stripe caller : ℕ) (call : CallData) (now : ℕ) (reply : Reply) (text : List ℕ)
    → (x : StripePart) (key : List ℕ) (doc : Doc) (slots : List Slot) → doc.seqno ≡ (world_of f).high + 1
    → IsPutBy f call now reply key (meta_of doc) doc.value → stripe_of key f.config.stripes ≡ stripe → IsKey key
    → IsStripe x.table → Restores x.table.eviction x.table.mark (doc_blocks key doc) (node_of key doc) x.table.slots slots
    → StripeStands f stripe x → StripeStands (with_event f (Called caller call now reply text)) stripe
    (record { table = record x.table { slots = slots }; book = forget x.book key })

-- A stripe out of which documents were ejected.
abbrev pub StripesEject : Type 0
StripesEject = (f : FrontData) (stripe : ℕ) (x : StripePart) (key : List ℕ) (need : ℕ) (slots : List Slot)
    → IsStripe x.table → EjectsOthers x.table.eviction x.table.mark key need x.table.slots slots
    → StripeStands f stripe x → StripeStands f stripe (record x { table = record x.table { slots = slots } })

-- A stripe one of whose nodes is noted as used, and one that frees a call's place.
abbrev pub StripesAreUsed : Type 0
StripesAreUsed = (f : FrontData) (stripe : ℕ) (x : StripePart) (key : List ℕ) → IsStripe x.table
    → StripeStands f stripe x → StripeStands f stripe (with_heated x key)

abbrev pub StripesRelease : Type 0
StripesRelease = (f : FrontData) (stripe : ℕ) (x : StripePart) (prior : Option Ticket) → StripeStands f stripe x
    → StripeStands f stripe (record x { book = release x.book prior })

-- A stripe that frees the place of a call which is answered and puts nothing.
abbrev pub StripesStandBehindAnswers : Type 0
StripesStandBehindAnswers = (f : FrontData) (stripe : ℕ) (x : StripePart) (caller : ℕ) (call : CallData) (now : ℕ)
    → (reply : Reply) (text : List ℕ) (prior : Option Ticket) → PutsNothing f call now reply → StripeStands f stripe x
    → StripeStands (with_event f (Called caller call now reply text)) stripe (record x { book = release x.book prior })

-- a cause that names a ticket names the call's own
abbrev pub IsOwnCause : Option Ticket → Cause → Type 0
IsOwnCause prior causes.Quota = Unit {0}
IsOwnCause prior causes.Warming = Unit {0}
IsOwnCause prior (causes.Store ticket) = prior ≡ Some ticket
IsOwnCause prior (causes.Memory ticket) = prior ≡ Some ticket

-- And of one that is refused.
abbrev pub StripesStandBehindRefusals : Type 0
StripesStandBehindRefusals = (f : FrontData) (stripe : ℕ) (x : StripePart) (caller : ℕ) (call : CallData) (now : ℕ)
    → (cause : Cause) (prior : Option Ticket) → IsOwnCause prior cause → StripeStands f stripe x
    → StripeStands (with_event f (Refused caller call now cause)) stripe (record x { book = release x.book prior })

-- A stripe at which a call asks for what it needs and memory lacks: that is legal, and the stripe stands behind it. Where no
-- place is free nothing is noted, and it stands as it is.
abbrev pub StripesAsk : Type 0
StripesAsk = (f : FrontData) (stripe : ℕ) (x : StripePart) (caller : ℕ) (call : CallData) (now : ℕ) (key : List ℕ)
    → (prior : Option Ticket) → IsLegal f → IsServing (world_of f) → key_of call ≡ Some key
    → needs f.config.eviction call ≡ true → stripe_of key f.config.stripes ≡ stripe → memory_of x.table key ≡ Away
    → PriorsStand f caller call prior → StripeStands f stripe x
    → IsNext f (event_of caller call now prior (ask_step x.book) [])
    (λ g. StripeStands g stripe (record x { book = ask_book x.book key }))
