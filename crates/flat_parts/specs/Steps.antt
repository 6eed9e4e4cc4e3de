-- What a call on held parts comes to, and what it leaves of them.
use Rattle.std.specs.Prelude.{ℕ, ◌+◌, ◌^◌, Bool, true, ◌==◌, ◌||◌, nat_le, if◌then◌else◌, List, [], ◌∷◌, ◌++◌, length, map, sum_by, count_by, Option, Some, None}
use Rattle.std.specs.FinMap as finmap
use Rattle.ep_model.specs.declared.call.StoreKind.TheVariants.{Set}
use Rattle.ep_model.specs.declared.event.Cause.{Cause}
use Rattle.ep_model.specs.declared.event.Cause.TheVariants as causes
use Rattle.ep_model.specs.declared.event.Ticket.{Ticket}
use Rattle.ep_model.specs.declared.data.CallData.TheVariants.{Store}
use Rattle.ep_model.specs.World.{Doc, Docs, World, empty_world, live_of, doc_from}
use Rattle.ep_model.specs.Refusals.{state_refusal}
use Rattle.ep_model.specs.Answer.{Effect, Nothing, Puts, Sets, Answer, refused, answer_get, answer}
use Rattle.flat_parts.specs.declared.data.NodeData.{NodeData}
use Rattle.flat_parts.specs.declared.data.Outcome.{Outcome}
use Rattle.flat_parts.specs.declared.data.Outcome.TheVariants.{Waiting, Merged, Absent, Failed, NoMemory}
use Rattle.flat_parts.specs.declared.data.PlaceData.{PlaceData}
use Rattle.flat_parts.specs.declared.data.StripeData.{StripeData}
use Rattle.flat_parts.specs.declared.data.QueueData.{QueueData}
use Rattle.flat_parts.specs.declared.data.ReadData.{ReadData}
use Rattle.flat_parts.specs.declared.data.WriteData.{WriteData}
use Rattle.flat_parts.specs.declared.data.PageData.{PageData}
use Rattle.flat_parts.specs.declared.data.Step.TheVariants.{Done, Refused, Fetch, FetchFull}
use Rattle.flat_parts.specs.Nodes.{node_of, node_at, put_node, ejected, is_ejectable, node_blocks, outcome_at, released, forgotten}

-- a Get that is answered, or refused for now; its place is released
abbrev pub read_done : StripeData → Option Ticket → Answer → ReadData
read_done x prior a = record { step = Done a.reply; value = a.value; stripe = record x { places = released x.places prior } }

abbrev pub read_refused : StripeData → Option Ticket → Cause → ReadData
read_refused x prior cause = record { step = Refused cause; value = []; stripe = record x { places = released x.places prior } }

-- no more reads can be asked for in a stripe
abbrev pub is_full : List PlaceData → ℕ → Bool
is_full places next = nat_le 64 (length places) || nat_le (2 ^ 56) next

-- a place more, with the next number
abbrev pub asked : StripeData → List PlaceData → List ℕ → StripeData
asked x places key = record x { places = places ++ (record { number = x.next; key = key; outcome = Waiting }) ∷ []; next = x.next + 1 }

-- a Get of a value that isn't in memory asks for it, at a new place
abbrev pub read_asks : StripeData → List PlaceData → List ℕ → ReadData
read_asks x places key =
    if is_full places x.next then record { step = FetchFull; value = []; stripe = record x { places = places } } else
    record { step = Fetch (record { stripe = x.index; number = x.next }); value = []; stripe = asked x places key }

-- what became of the read that it asked for before
abbrev pub prior_outcome : StripeData → Option Ticket → Option Outcome
prior_outcome x None = None
prior_outcome x (Some ticket) = if ticket.stripe == x.index then outcome_at x.places ticket.number else None

abbrev pub read_waits : StripeData → Option Ticket → List ℕ → Option Outcome → ReadData
read_waits x None key outcome = read_asks x x.places key
read_waits x (Some ticket) key None = read_asks x (released x.places (Some ticket)) key
read_waits x (Some ticket) key (Some Waiting) = record { step = Fetch ticket; value = []; stripe = x }
read_waits x (Some ticket) key (Some Merged) = read_asks x (released x.places (Some ticket)) key
read_waits x (Some ticket) key (Some Absent) = read_asks x (released x.places (Some ticket)) key
read_waits x (Some ticket) key (Some (Failed fault)) = read_refused x (Some ticket) (causes.Store ticket)
read_waits x (Some ticket) key (Some NoMemory) = read_refused x (Some ticket) (causes.Memory ticket)

abbrev pub read_value : StripeData → Option Ticket → List ℕ → ℕ → NodeData → Option (List ℕ) → ReadData
read_value x prior key now node None = read_waits x prior key (prior_outcome x prior)
read_value x prior key now node (Some value) = read_done x prior (answer_get (live_of (Some (doc_from node.meta value)) now))

abbrev pub read_node : StripeData → Option Ticket → List ℕ → ℕ → Option NodeData → ReadData
read_node x prior key now None = read_done x prior (answer_get None)
read_node x prior key now (Some node) = read_value x prior key now node node.value

abbrev pub read_active : StripeData → Option Ticket → List ℕ → ℕ → Option ℕ → ReadData
read_active x prior key now None = read_node x prior key now (node_at x.nodes key)
read_active x prior key now (Some status) = read_done x prior (refused status)

-- a Get on its stripe
abbrev pub read_step : StripeData → Option Ticket → List ℕ → ℕ → ReadData
read_step x prior key now =
    if x.opened then read_active x prior key now (state_refusal x.state true) else read_refused x prior causes.Warming

-- what parts show of a document: the value may be away, and then is empty here
abbrev pub shown_value : Option (List ℕ) → List ℕ
shown_value None = []
shown_value (Some value) = value

abbrev pub shown_docs : List ℕ → Option NodeData → Docs
shown_docs key None = finmap.empty
shown_docs key (Some node) = finmap.insert finmap.empty key (doc_from node.meta (shown_value node.value))

-- the world as the stripe of a key and the queue show it to a call on the key, with the newest uuid alone of its failovers
abbrev pub shown_world : StripeData → QueueData → ℕ → ℕ → List ℕ → World
shown_world x q id fit key = record (empty_world id fit) {
  docs = shown_docs key (node_at x.nodes key);
  high = q.high;
  maxcas = q.maxcas;
  state = x.state;
  persisted = q.persisted;
  opened = x.opened;
  failovers = (q.uuid, 0) ∷ [];
}

-- the parts after an effect
abbrev pub stripe_after : StripeData → Effect → StripeData
stripe_after x Nothing = x
stripe_after x (Puts key doc) = record x { nodes = put_node x.nodes (node_of key doc); places = forgotten x.places key }
stripe_after x (Sets state) = record x { state = state }

abbrev pub queue_after : QueueData → Effect → QueueData
queue_after q Nothing = q
queue_after q (Puts key doc) = record q { items = q.items ++ (key, doc) ∷ []; high = doc.seqno; maxcas = doc.cas }
queue_after q (Sets state) = record q { state = state }

-- a Set on its stripe and the queue
abbrev pub write_step : StripeData → QueueData → ℕ → Option Ticket → List ℕ → List ℕ → ℕ → ℕ → ℕ → ℕ → WriteData
write_step x q fit prior key value flags expiration cas now =
    let kept = record x { places = released x.places prior } in
    let a = answer (shown_world x q 0 fit key) (Store Set key value flags expiration cas) now in
    if x.opened then record { step = Done a.reply; stripe = stripe_after kept a.effect; queue = queue_after q a.effect } else
    record { step = Refused causes.Warming; stripe = kept; queue = q }

-- the pager ejects all that it can
abbrev pub page_step : StripeData → PageData
page_step x = record {
  used = sum_by node_blocks (map (ejected x.mark) x.nodes);
  ejected = count_by (is_ejectable x.mark) x.nodes;
  stripe = record x { nodes = map (ejected x.mark) x.nodes };
}

-- a value that was read is put back
abbrev pub restored : StripeData → List ℕ → Doc → StripeData
restored x key doc = record x { nodes = put_node x.nodes (node_of key doc) }
