-- What became of a document that somebody waits for.
use Rattle.std.specs.Prelude.{◌≡◌, ◌≤◌, ℕ, Bool, true, false, not, ◌==◌, ◌&&◌, ◌||◌, List, [], ◌∷◌, Option, Some, None}
use Rattle.std.specs.Str.{bytes_eq}
use Rattle.ep_model.specs.declared.event.Ticket.{Ticket}
use Rattle.ep_model.specs.declared.data.EventData.{EventData}
use Rattle.ep_model.specs.declared.data.EventData.TheVariants.{Asked, ReadFailed}
use Rattle.ep_model.specs.declared.data.FrontData.{FrontData}
use Rattle.ep_model.specs.World.{Doc, World}
use Rattle.ep_model.specs.History.{step}
use Rattle.ep_model.specs.Mutations.{mutation_of}
use Rattle.ep_model.specs.Calls.{key_of}
use Rattle.ep_model.specs.Front.{begun}

abbrev pub is_on : List ℕ → Option (List ℕ) → Bool
is_on key None = false
is_on key (Some other) = bytes_eq other key

abbrev pub puts_on : List ℕ → Option (List ℕ × Doc) → Bool
puts_on key None = false
puts_on key (Some p) = bytes_eq p.0 key

-- the event asks for this key at this ticket
abbrev pub is_ask : Ticket → List ℕ → EventData → Bool
is_ask ticket key (Asked other caller call) = (other.stripe == ticket.stripe && other.number == ticket.number) && is_on key (key_of call)
is_ask ticket key event = false

-- whether this key was asked for at this ticket and its document has not changed since, one event further
abbrev pub waits_after : Ticket → List ℕ → Bool → World → EventData → Bool
waits_after ticket key waits w event = is_ask ticket key event || (waits && not (puts_on key (mutation_of w event)))

abbrev pub waits_in : Ticket → List ℕ → Bool → World → List EventData → Bool
waits_in ticket key waits w [] = waits
waits_in ticket key waits w (event ∷ events) = waits_in ticket key (waits_after ticket key waits w event) (step w event) events

-- whether this key was asked for at this ticket and its document has not changed since
unfoldable pub is_waiting : FrontData → Ticket → List ℕ → Bool
is_waiting f ticket key = waits_in ticket key false (begun f) f.events

-- the event is no failed read for the ticket
abbrev pub IsNoRead : Ticket → EventData → Type 0
IsNoRead ticket (ReadFailed other fault) = (other ≡ ticket) → ⊥
IsNoRead ticket event = Unit {0}

-- a failed read has a number up to this one
abbrev pub IsFaultWithin : ℕ → EventData → Type 0
IsFaultWithin faults (ReadFailed ticket fault) = (1 ≤ fault) × (fault ≤ faults)
IsFaultWithin faults event = Unit {0}

-- the key has no live document to come
abbrev pub IsAbsent : Option Doc → Type 0
IsAbsent None = Unit {0}
IsAbsent (Some doc) = doc.deleted ≡ true
