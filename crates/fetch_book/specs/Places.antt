-- Lists of places, in the order in which they were asked for.
use Rattle.std.specs.Prelude.{ℕ, ◌+◌, ◌≤◌, ◌≡◌, Bool, true, false, not, ◌==◌, ◌&&◌, if◌then◌else◌, List, [], ◌∷◌, length, filter, Option}
use Rattle.std.specs.List.{find}
use Rattle.std.specs.Str.{bytes_eq}
use Rattle.ep_model.specs.declared.event.Ticket.{Ticket}
use Rattle.ep_model.specs.Limits.{IsKey}
use Rattle.fetch_book.specs.declared.place.Outcome.{Outcome}
use Rattle.fetch_book.specs.declared.place.Outcome.TheVariants.{Waiting, Merged, Absent, Failed, NoMemory, NoRoom}
use Rattle.fetch_book.specs.declared.place.Place.{Place}

-- the place is this ticket's
abbrev pub is_place_of : Ticket → Place → Bool
is_place_of ticket place = place.ticket.number == ticket.number && place.ticket.stripe == ticket.stripe

-- the read has no outcome yet
abbrev pub is_waiting_outcome : Outcome → Bool
is_waiting_outcome Waiting = true
is_waiting_outcome Merged = false
is_waiting_outcome Absent = false
is_waiting_outcome (Failed fault) = false
is_waiting_outcome NoMemory = false
is_waiting_outcome (NoRoom blocks) = false

abbrev pub is_waiting : Place → Bool
is_waiting place = is_waiting_outcome place.outcome

-- the place of a ticket
abbrev pub place_at : List Place → Ticket → Option Place
place_at places ticket = find (is_place_of ticket) places

-- the first place that waits
abbrev pub first_waiting : List Place → Option Place
first_waiting places = find is_waiting places

-- with this outcome at the ticket's place
abbrev pub settled : List Place → Ticket → Outcome → List Place
settled [] ticket outcome = []
settled (place ∷ places) ticket outcome =
    if is_place_of ticket place then record place { outcome = outcome } ∷ places else place ∷ settled places ticket outcome

-- without the places of a key
abbrev pub is_not_keyed : List ℕ → Place → Bool
is_not_keyed key place = not (bytes_eq place.key key)

abbrev pub forgotten : List Place → List ℕ → List Place
forgotten places key = filter (is_not_keyed key) places

-- without the place of a ticket
abbrev pub is_not_of : Ticket → Place → Bool
is_not_of ticket place = not (is_place_of ticket place)

abbrev pub released : List Place → Ticket → List Place
released places ticket = filter (is_not_of ticket) places

-- The places' tickets are of this stripe, their numbers rise from `low` on and stay below `next`, and their keys are
-- within the limits.
abbrev pub AreAsked : ℕ → ℕ → ℕ → List Place → Type 0
AreAsked stripe low next [] = low ≤ next
AreAsked stripe low next (place ∷ places) =
    (place.ticket.stripe ≡ stripe) × (low ≤ place.ticket.number) × IsKey place.key
    × AreAsked stripe (place.ticket.number + 1) next places
