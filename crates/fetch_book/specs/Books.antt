-- A book as plain data.
use Rattle.std.specs.Prelude.{ℕ, ◌+◌, ◌≤◌, ◌^◌, Bool, ◌==◌, ◌||◌, List, [], ◌∷◌, ◌++◌, length, Option, Some, None}
use Rattle.ep_model.specs.declared.event.Ticket.{Ticket}
use Rattle.fetch_book.specs.declared.place.Outcome.{Outcome}
use Rattle.fetch_book.specs.declared.place.Outcome.TheVariants.{Waiting}
use Rattle.fetch_book.specs.declared.place.Place.{Place}
use Rattle.fetch_book.specs.Places.{AreAsked, first_waiting}

-- the stripe's number, the number of the next ticket, and the places in use, in the order in which they were asked for
pub record BookData : Type 0 where
  pub stripe : ℕ
  pub next : ℕ
  pub places : List Place

-- What is so of every book. No two tickets have one number, for numbers rise and the next one is above all.
pub record IsBook (book : BookData) : Type 0 where
  pub few : length book.places ≤ 64
  pub numbers : book.next ≤ 2 ^ 56
  pub asked : AreAsked book.stripe 1 book.next book.places

-- all places are in use, or the numbers have run out
abbrev pub is_full : BookData → Bool
is_full book = length book.places == 64 || book.next == 2 ^ 56

abbrev pub next_ticket : BookData → Ticket
next_ticket book = record { stripe = book.stripe; number = book.next }

abbrev pub asked_place : BookData → List ℕ → Place
asked_place book key = record { ticket = next_ticket book; key = key; outcome = Waiting }

-- with a waiting place under the next ticket
abbrev pub asked : BookData → List ℕ → BookData
asked book key = record book { next = book.next + 1; places = book.places ++ asked_place book key ∷ [] }

-- the ticket and the key of the place that has waited longest
abbrev pub ticket_of : Option Place → Option Ticket
ticket_of None = None
ticket_of (Some place) = Some place.ticket

abbrev pub key_of : Option Place → List ℕ
key_of None = []
key_of (Some place) = place.key

abbrev pub outcome_of : Option Place → Option Outcome
outcome_of None = None
outcome_of (Some place) = Some place.outcome
