-- Lists of places: what a scan finds, and what a change leaves, as plain data.
use Rattle.std.proofs.Common.{◌≡◌, ◌≤◌, ℕ, true, false, cond, List, [], ◌∷◌, length, refl, sym, ap, ◌∙◌}
use Rattle.std.specs.Prelude.{Option, Some, filter, not, ◌==◌, count_by}
use Rattle.std.specs.Option.{option_map, option_copied}
use Rattle.std.specs.List.{find}
use Rattle.std.specs.Str.{bytes_eq}
use Rattle.std.specs.Borrow.{Bor}
use Rattle.std.proofs.lemmas.List.{length-map}
use Rattle.std.proofs.lemmas.List.Sums.{length-filter}
use Rattle.ep_model.specs.declared.event.Ticket.{Ticket}
use Rattle.flat_parts.specs.declared.data.Outcome.{Outcome}
use Rattle.flat_parts.specs.declared.data.PlaceData.{PlaceData}
use Rattle.flat_parts.specs.declared.place.Place.{Place}
use Rattle.flat_parts.specs.Nodes.{is_waiting_outcome, first_waiting, outcome_at, released, forgotten, settled, settle_place, is_not_numbered}
use Rattle.flat_parts.specs.Flat.{place_data, places_data}
use Rattle.flat_parts.proofs.ListLemmas.{find-map, filter-map, swept, swept-all}

waiting-find : (ds : List PlaceData) → find (λ (d : PlaceData). is_waiting_outcome d.outcome) ds ≡ first_waiting ds
waiting-find [] = refl
waiting-find (d ∷ ds) = ap (cond (is_waiting_outcome d.outcome) (Some d)) (waiting-find ds)

pub oldest-found : (places : List Place) (o : Option (Bor Place)) → option_copied o ≡ find (λ (p : Place). is_waiting_outcome p.outcome) places → option_map place_data (option_copied o) ≡ first_waiting (places_data places)
oldest-found places o is =
    ap (option_map place_data) is
    ∙ find-map place_data (λ (d : PlaceData). is_waiting_outcome d.outcome) places
    ∙ waiting-find (places_data places)

outcome-find : (places : List Place) (number : ℕ) → option_map (λ (p : Place). p.outcome) (find (λ (p : Place). p.number == number) places) ≡ outcome_at (places_data places) number
outcome-find [] number = refl
outcome-find (p ∷ places) number =
    elim (p.number == number) as (λ b. option_map (λ (p : Place). p.outcome) (cond b (Some p) (find (λ (p : Place). p.number == number) places)) ≡ cond b (Some p.outcome) (outcome_at (places_data places) number)) [
      | true ↦ refl
      | false ↦ outcome-find places number
    ]

pub outcome-found : (places : List Place) (number : ℕ) (o : Option Outcome) → o ≡ option_map (λ (p : Place). p.outcome) (find (λ (p : Place). p.number == number) places) → o ≡ outcome_at (places_data places) number
outcome-found places number o is = is ∙ outcome-find places number

pub count-kept : (places : List Place) (ticket : Ticket) (n : ℕ) → n ≡ count_by (λ (p : Place). not (p.number == ticket.number)) places → n ≡ length (released (places_data places) (Some ticket))
count-kept places ticket n is =
    is
    ∙ sym (length-filter (λ (p : Place). not (p.number == ticket.number)) places)
    ∙ sym (length-map (filter (λ (p : Place). not (p.number == ticket.number)) places) place_data)
    ∙ ap length (filter-map place_data (is_not_numbered ticket.number) places)

pub release-kept : (places new : List Place) (number : ℕ) (prior : Option Ticket) (ticket : Ticket) → prior ≡ Some ticket → number ≡ ticket.number → new ≡ filter (λ (p : Place). not (p.number == number)) places → places_data new ≡ released (places_data places) prior
release-kept places new number prior ticket prior-is number-is is =
    ap places_data is
    ∙ filter-map place_data (is_not_numbered number) places
    ∙ ap (λ n. filter (is_not_numbered n) (places_data places)) number-is
    ∙ ap (released (places_data places)) (sym prior-is)

pub forget-kept : (places new : List Place) (key : List ℕ) → new ≡ filter (λ (p : Place). not (bytes_eq p.key.items key)) places → places_data new ≡ forgotten (places_data places) key
forget-kept places new key is =
    ap places_data is
    ∙ filter-map place_data (λ (d : PlaceData). not (bytes_eq d.key key)) places

-- all places were settled
pub settle-all : (places new : List Place) (number n : ℕ) (outcome : Outcome) → places_data new ≡ swept (settle_place number outcome) n (places_data places) → length places ≤ n → places_data new ≡ settled (places_data places) number outcome
settle-all places new number n outcome is all =
    is ∙ swept-all (settle_place number outcome) (places_data places) n (rw (length-map places place_data) all)
