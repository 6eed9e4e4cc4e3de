-- What becomes of places, and of the books that hold them.
use Rattle.std.proofs.Common.{◌≡◌, ◌<◌, ◌≤◌, ℕ, suc, zero, ◌+◌, ◌^◌, Bool, true, false, cond, List, [], ◌∷◌, ◌++◌, length, get_or, refl, sym, ap, subst, ◌∙◌, arith}
use Rattle.std.proofs.Math.ListN.{set}
use Rattle.std.specs.Prelude.{Option, Some, None, filter, is_some}
use Rattle.std.specs.List.{find, position_from}
use Rattle.std.specs.Option.{option_copied}
use Rattle.std.specs.Borrow.{Bor}
use Rattle.std.proofs.lemmas.List.{length_push}
use Rattle.ep_model.specs.Limits.{IsKey}
use Rattle.fetch_book.specs.declared.place.Outcome.{Outcome}
use Rattle.fetch_book.specs.declared.place.Place.{Place}
use Rattle.ep_model.specs.declared.event.Ticket.{Ticket}
use Rattle.fetch_book.specs.Books.{BookData, IsBook, asked_place, key_of}
use Rattle.fetch_book.specs.Places.{is_place_of, is_waiting, place_at, first_waiting, settled, AreAsked}

-- the numbers rise from any lower one too
lower : (stripe low high next : ℕ) (ps : List Place) → low ≤ high → AreAsked stripe high next ps → AreAsked stripe low next ps
lower stripe low high next [] h asked = omega arith
lower stripe low high next (p ∷ ps) h asked = (asked.0, (let high-is = asked.1 in omega arith), asked.2, asked.3)

-- one more place, under the next number
pub asked-more : (stripe low next : ℕ) (ps : List Place) (p : Place) → p.ticket.stripe ≡ stripe → p.ticket.number ≡ next → IsKey p.key → AreAsked stripe low next ps → AreAsked stripe low (next + 1) (ps ++ p ∷ [])
asked-more stripe low next [] p of-stripe numbered keyed asked = (of-stripe, omega arith, keyed, omega arith)
asked-more stripe low next (q ∷ ps) p of-stripe numbered keyed asked =
    (asked.0, asked.1, asked.2, asked-more stripe (q.ticket.number + 1) next ps p of-stripe numbered keyed asked.3)

-- some places fewer
pub asked-filter : (test : Place → Bool) (stripe low next : ℕ) (ps : List Place) → AreAsked stripe low next ps → AreAsked stripe low next (filter test ps)
asked-filter test stripe low next [] asked = asked
asked-filter test stripe low next (p ∷ ps) asked =
    let rest = asked-filter test stripe (p.ticket.number + 1) next ps asked.3 in
    elim (test p) as (λ b. AreAsked stripe low next (cond b (p ∷ filter test ps) (filter test ps))) [
      | true ↦ (asked.0, asked.1, asked.2, rest)
      | false ↦ lower stripe low (p.ticket.number + 1) next (filter test ps) (let h = asked.1 in omega arith) rest
    ]

-- with another outcome at one place
pub asked-settled : (stripe low next : ℕ) (ps : List Place) (ticket : Ticket) (outcome : Outcome) → AreAsked stripe low next ps → AreAsked stripe low next (settled ps ticket outcome)
asked-settled stripe low next [] ticket outcome asked = asked
asked-settled stripe low next (p ∷ ps) ticket outcome asked =
    elim (is_place_of ticket p) as (λ b. AreAsked stripe low next (cond b (record p { outcome = outcome } ∷ ps) (p ∷ settled ps ticket outcome))) [
      | true ↦ asked
      | false ↦ (asked.0, asked.1, asked.2, asked-settled stripe (p.ticket.number + 1) next ps ticket outcome asked.3)
    ]

pub length-settled : (ps : List Place) (ticket : Ticket) (outcome : Outcome) → length (settled ps ticket outcome) ≡ length ps
length-settled [] ticket outcome = refl
length-settled (p ∷ ps) ticket outcome =
    elim (is_place_of ticket p) as (λ b. length (cond b (record p { outcome = outcome } ∷ ps) (p ∷ settled ps ticket outcome)) ≡ length (p ∷ ps)) [
      | true ↦ refl
      | false ↦ ap suc (length-settled ps ticket outcome)
    ]

pub filter-shorter : (test : Place → Bool) (ps : List Place) → length (filter test ps) ≤ length ps
filter-shorter test [] = omega arith
filter-shorter test (p ∷ ps) =
    let rest = filter-shorter test ps in
    elim (test p) as (λ b. length (cond b (p ∷ filter test ps) (filter test ps)) ≤ length (p ∷ ps)) [
      | true ↦ omega arith
      | false ↦ omega arith
    ]

-- the first place of a ticket stands at this index
abbrev pub IsFirstAt : List Place → Ticket → ℕ → Type 0
IsFirstAt [] ticket k = ⊥
IsFirstAt (p ∷ ps) ticket zero = is_place_of ticket p ≡ true
IsFirstAt (p ∷ ps) ticket (suc k) = (is_place_of ticket p ≡ false) × IsFirstAt ps ticket k

first : (ps : List Place) (ticket : Ticket) (n m : ℕ) → position_from (is_place_of ticket) n ps ≡ Some m → (k : ℕ) × (n + k ≡ m) × IsFirstAt ps ticket k
first [] ticket n m e = absurd (cc)
first (p ∷ ps) ticket n m e =
    elim (is_place_of ticket p) as (λ b. is_place_of ticket p ≡ b → cond b (Some n) (position_from (is_place_of ticket) (n + 1) ps) ≡ Some m → (k : ℕ) × (n + k ≡ m) × IsFirstAt (p ∷ ps) ticket k) [
      | true ↦ λ is e. (0, (let same : n ≡ m = cc in omega arith), is)
      | false ↦ λ is e. let r = first ps ticket (n + 1) m e in (suc r.0, omega arith, (is, r.2))
    ] refl e

settle-at : (ps : List Place) (ticket : Ticket) (outcome : Outcome) (k : ℕ) (p : Place) → IsFirstAt ps ticket k → p ≡ get_or ps k p → set ps k (record p { outcome = outcome }) ≡ settled ps ticket outcome
settle-at [] ticket outcome k p at is = absurd at
settle-at (q ∷ ps) ticket outcome zero p at is =
    ap (λ (x : Place). record x { outcome = outcome } ∷ ps) is
    ∙ sym (ap (λ b. cond b (record q { outcome = outcome } ∷ ps) (q ∷ settled ps ticket outcome)) at)
settle-at (q ∷ ps) ticket outcome (suc k) p at is =
    ap (λ (xs : List Place). q ∷ xs) (settle-at ps ticket outcome k p at.1 is)
    ∙ sym (ap (λ b. cond b (record q { outcome = outcome } ∷ ps) (q ∷ settled ps ticket outcome)) at.0)

found-at : (ps : List Place) (ticket : Ticket) (k : ℕ) → IsFirstAt ps ticket k → is_some (place_at ps ticket) ≡ true
found-at [] ticket k at = absurd at
found-at (q ∷ ps) ticket zero at = ap (λ b. is_some (cond b (Some q) (place_at ps ticket))) at
found-at (q ∷ ps) ticket (suc k) at = ap (λ b. is_some (cond b (Some q) (place_at ps ticket))) at.0 ∙ found-at ps ticket k at.1

-- the place that was looked for stands at this index, and gets the outcome
pub settled-there : (ps l : List Place) (ticket : Ticket) (outcome : Outcome) (o : Option ℕ) (k : ℕ) (p : Place) → l ≡ ps → o ≡ position_from (is_place_of ticket) 0 l → o ≡ Some k → p ≡ get_or ps k p → (set ps k (record p { outcome = outcome }) ≡ settled ps ticket outcome) × (true ≡ is_some (place_at ps ticket))
settled-there ps l ticket outcome o k p l-is o-is some is =
    let r = first ps ticket 0 k (ap (position_from (is_place_of ticket) 0) (sym l-is) ∙ sym o-is ∙ some) in
    let same : r.0 ≡ k = omega arith in
    let at = subst (IsFirstAt ps ticket) same r.2 in
    (settle-at ps ticket outcome k p at is, sym (found-at ps ticket k at))

missing : (ps : List Place) (ticket : Ticket) (outcome : Outcome) (n : ℕ) → None ≡ position_from (is_place_of ticket) n ps → (ps ≡ settled ps ticket outcome) × (false ≡ is_some (place_at ps ticket))
missing [] ticket outcome n e = (refl, refl)
missing (p ∷ ps) ticket outcome n e =
    elim (is_place_of ticket p) as (λ b. None ≡ cond b (Some n) (position_from (is_place_of ticket) (n + 1) ps) → (p ∷ ps ≡ cond b (record p { outcome = outcome } ∷ ps) (p ∷ settled ps ticket outcome)) × (false ≡ is_some (cond b (Some p) (place_at ps ticket)))) [
      | true ↦ λ e. absurd (cc)
      | false ↦ λ e. let r = missing ps ticket outcome (n + 1) e in (ap (λ (xs : List Place). p ∷ xs) r.0, r.1)
    ] e

-- there is no place of the ticket
pub settled-nowhere : (ps l : List Place) (ticket : Ticket) (outcome : Outcome) (o : Option ℕ) → l ≡ ps → o ≡ position_from (is_place_of ticket) 0 l → o ≡ None → (ps ≡ settled ps ticket outcome) × (false ≡ is_some (place_at ps ticket))
settled-nowhere ps l ticket outcome o l-is o-is none =
    missing ps ticket outcome 0 (sym none ∙ o-is ∙ ap (position_from (is_place_of ticket) 0) l-is)

injected : (q p : Place) → Some q ≡ Some p → q ≡ p
injected q p e = cc

above : (stripe low next : ℕ) (ps : List Place) (k : ℕ) (d : Place) → k < length ps → AreAsked stripe low next ps → low ≤ (get_or ps k d).ticket.number
above stripe low next [] k d h asked = absurd (omega arith)
above stripe low next (p ∷ ps) zero d h asked = asked.1
above stripe low next (p ∷ ps) (suc k) d h asked =
    let rest = above stripe (p.ticket.number + 1) next ps k d (omega arith) asked.3 in
    let here = asked.1 in
    omega arith

-- the first place that waits has the least number of those that wait
pub first-least : (stripe low next : ℕ) (ps : List Place) (p : Place) → AreAsked stripe low next ps → first_waiting ps ≡ Some p → (k : ℕ) (d : Place) → k < length ps → is_waiting (get_or ps k d) ≡ true → p.ticket.number ≤ (get_or ps k d).ticket.number
first-least stripe low next [] p asked e k d h waits = absurd (omega arith)
first-least stripe low next (q ∷ ps) p asked e zero d h waits =
    let same : q ≡ p = injected q p (sym (ap (λ b. cond b (Some q) (first_waiting ps)) waits) ∙ e) in
    let number = ap (λ (x : Place). x.ticket.number) same in
    omega arith
first-least stripe low next (q ∷ ps) p asked e (suc k) d h waits =
    elim (is_waiting q) as (λ b. cond b (Some q) (first_waiting ps) ≡ Some p → p.ticket.number ≤ (get_or ps k d).ticket.number) [
      | true ↦ λ e.
          let number = ap (λ (x : Place). x.ticket.number) (injected q p e) in
          let rest = above stripe (q.ticket.number + 1) next ps k d (omega arith) asked.3 in
          omega arith
      | false ↦ λ e. first-least stripe (q.ticket.number + 1) next ps p asked.3 e k d (omega arith) waits
    ] e

-- books with fewer places
pub book-filter : (b : BookData) (test : Place → Bool) (new : List Place) → new ≡ filter test b.places → IsBook b → IsBook (record b { places = new })
book-filter b test new is book =
    let kept : IsBook (record b { places = filter test b.places }) = record {
      few = (let shorter = filter-shorter test b.places in let few = book.few in omega arith);
      numbers = book.numbers;
      asked = asked-filter test b.stripe 1 b.next b.places book.asked;
    } in
    subst (λ (ps : List Place). IsBook (record b { places = ps })) (sym is) kept

pub view-filter : (b s : BookData) (test : Place → Bool) (new : List Place) → new ≡ filter test b.places → b ≡ s → record b { places = new } ≡ record s { places = filter test s.places }
view-filter b s test new is same =
    ap (λ (ps : List Place). record b { places = ps }) is ∙ ap (λ (x : BookData). record x { places = filter test x.places }) same

-- with an outcome
pub book-settled : (b : BookData) (ticket : Ticket) (outcome : Outcome) (new : List Place) → new ≡ settled b.places ticket outcome → IsBook b → IsBook (record b { places = new })
book-settled b ticket outcome new is book =
    let kept : IsBook (record b { places = settled b.places ticket outcome }) = record {
      few = (let same = length-settled b.places ticket outcome in let few = book.few in omega arith);
      numbers = book.numbers;
      asked = asked-settled b.stripe 1 b.next b.places ticket outcome book.asked;
    } in
    subst (λ (ps : List Place). IsBook (record b { places = ps })) (sym is) kept

pub view-settled : (b s : BookData) (ticket : Ticket) (outcome : Outcome) (new : List Place) → new ≡ settled b.places ticket outcome → b ≡ s → record b { places = new } ≡ record s { places = settled s.places ticket outcome }
view-settled b s ticket outcome new is same =
    ap (λ (ps : List Place). record b { places = ps }) is ∙ ap (λ (x : BookData). record x { places = settled x.places ticket outcome }) same

-- with a place more
pub book-asked : (b : BookData) (key k : List ℕ) (new : List Place) → k ≡ key → IsKey key → new ≡ b.places ++ asked_place b k ∷ [] → length b.places < 64 → b.next < 2 ^ 56 → IsBook b → IsBook (record { stripe = b.stripe; next = b.next + 1; places = new })
book-asked b key k new k-is keyed is room numbers book =
    let more : IsBook (record { stripe = b.stripe; next = b.next + 1; places = b.places ++ asked_place b k ∷ [] }) = record {
      few = rw length_push (omega arith);
      numbers = omega arith;
      asked = asked-more b.stripe 1 b.next b.places (asked_place b k) refl refl (subst IsKey (sym k-is) keyed) book.asked;
    } in
    subst (λ (ps : List Place). IsBook (record { stripe = b.stripe; next = b.next + 1; places = ps })) (sym is) more

pub book-least : (b s : BookData) (l : List Place) (o : Option (Bor Place)) (p : Bor Place) → b ≡ s → IsBook b → l ≡ b.places → option_copied o ≡ first_waiting l → o ≡ Some p → (k : ℕ) (d : Place) → k < length s.places → is_waiting (get_or s.places k d) ≡ true → p.now.ticket.number ≤ (get_or s.places k d).ticket.number
book-least b s l o p same book l-is o-is some =
    let stands = subst IsBook same book in
    first-least s.stripe 1 s.next s.places p.now stands.asked
    (ap first_waiting (sym (ap (λ (x : BookData). x.places) same)) ∙ ap first_waiting (sym l-is) ∙ sym o-is ∙ ap option_copied some)

key-fits : (stripe low next : ℕ) (ps : List Place) → AreAsked stripe low next ps → length (key_of (first_waiting ps)) ≤ 250
key-fits stripe low next [] asked = omega arith
key-fits stripe low next (p ∷ ps) asked =
    elim (is_waiting p) as (λ b. length (key_of (cond b (Some p) (first_waiting ps))) ≤ 250) [
      | true ↦ asked.2.1
      | false ↦ key-fits stripe (p.ticket.number + 1) next ps asked.3
    ]

-- the key of the place that has waited longest is within the limit
pub book-fits : (b s : BookData) → b ≡ s → IsBook b → length (key_of (first_waiting s.places)) ≤ 250
book-fits b s same book = let stands = subst IsBook same book in key-fits s.stripe 1 s.next s.places stands.asked
