-- What a Get comes to is what its place and memory say.
use Rattle.std.proofs.Common.{◌≡◌, inl, inr, ℕ, ◌+◌, ◌<◌, ◌≤◌, true, false, cond, List, length, refl, sym, ap, subst, arith}
use Rattle.std.specs.Prelude.{Option, Some, None, nat_lt}
use Rattle.std.proofs.lemmas.Bool.Decides.{nat_tests}
use Rattle.ep_model.specs.declared.call.VbState.{VbState}
use Rattle.ep_model.specs.declared.call.VbState.TheVariants.{Active}
use Rattle.ep_model.specs.declared.config.Eviction.{Eviction}
use Rattle.ep_model.specs.declared.config.Eviction.TheVariants.{Value, Full}
use Rattle.ep_model.specs.declared.event.Cause.TheVariants as causes
use Rattle.ep_model.specs.declared.event.Ticket.{Ticket}
use Rattle.ep_model.specs.World.{Doc}
use Rattle.ep_model.specs.Refusals.{state_refusal}
use Rattle.hash_stripe.specs.Nodes.{Slot, node_at, others_pinned}
use Rattle.fetch_book.specs.declared.place.Outcome.{Outcome}
use Rattle.fetch_book.specs.declared.place.Outcome.TheVariants as outcomes
use Rattle.fetch_book.specs.Books.{is_full, next_ticket, asked}
use Rattle.vb_front.specs.declared.part.StripePart.{StripePart}
use Rattle.vb_front.specs.declared.step.Step.TheVariants as steps
use Rattle.vb_front.specs.declared.wait.Meaning.TheVariants as waited
use Rattle.vb_front.specs.Waits.{Memory, Known, Away, value_memory, slot_memory, memory_of, has_no_room, prior_outcome, waited_for, release}
use Rattle.vb_front.specs.Reads.{Read, read_refused, read_asks, read_waits, read_memory, read_active, read_step, IsAwayFrom, NeedsAway, IsUnserved, ReadComesTo, IsFreed, ReadIsExact}
use Rattle.vb_front.proofs.ReadLemmas.{active_is}

-- memory lacks what the node lacks
pub away_from : (slot : Slot) (e : Eviction) → slot_memory e slot ≡ Away → IsAwayFrom slot e
away_from None Value is = absurd (cc)
away_from None Full is = tt
away_from (Some node) e is = elim e as (λ (v : Eviction). slot_memory v (Some node) ≡ Away → node.value ≡ None) [ Value ↦ at node.value refl | Full ↦ at node.value refl ] is
  where
    at : (value : Option (List ℕ)) → node.value ≡ value → value_memory node value ≡ Away → value ≡ None
    at None same away = refl
    at (Some value) same away = absurd (cc)

known_here : (slot : Slot) (e : Eviction) (doc : Option Doc) → slot_memory e slot ≡ Known doc → IsAwayFrom slot e → ⊥
known_here None Value doc is away = away
known_here None Full doc is away = cc
known_here (Some node) e doc is away =
    let none : value_memory node None ≡ Known doc = subst (λ (v : Option (List ℕ)). value_memory node v ≡ Known doc) away (elim e as (λ (v : Eviction). slot_memory v (Some node) ≡ Known doc → value_memory node node.value ≡ Known doc) [ Value ↦ λ h. h | Full ↦ λ h. h ] is) in
    cc

no_room : (a b : ℕ) → nat_lt a b ≡ true → a < b
no_room a b is = grind (arith, nat_tests)

room : (a b : ℕ) → nat_lt a b ≡ false → b ≤ a
room a b is = grind (arith, nat_tests)

module _ (old : StripePart) (key : List ℕ) (now : ℕ) where
  abbrev Exact : Option Ticket → Read → Type 0
  Exact prior r = ReadIsExact old key prior r

  asks : NeedsAway old key → (prior : Option Ticket) → IsUnserved old.table key (prior_outcome old.book prior) → Exact prior (read_asks old (release old.book prior) key)
  asks needs prior unserved = record { comes = comes; freed = freed }
    where
      comes : ReadComesTo old key prior (cond (is_full (release old.book prior)) steps.FetchFull (steps.Fetch (next_ticket (release old.book prior)))) (cond (is_full (release old.book prior)) (release old.book prior) (asked (release old.book prior) key))
      comes = elim (is_full (release old.book prior)) as (λ b. is_full (release old.book prior) ≡ b → ReadComesTo old key prior (cond b steps.FetchFull (steps.Fetch (next_ticket (release old.book prior)))) (cond b (release old.book prior) (asked (release old.book prior) key))) [
        | true ↦ λ is. record { needs = needs; unserved = unserved; full = is }
        | false ↦ λ is. inr (record { needs = needs; unserved = unserved; free = is; next = refl; book = refl })
      ] refl

      freed : IsFreed old prior (cond (is_full (release old.book prior)) steps.FetchFull (steps.Fetch (next_ticket (release old.book prior)))) (cond (is_full (release old.book prior)) (release old.book prior) (asked (release old.book prior) key))
      freed = elim (is_full (release old.book prior)) as (λ b. IsFreed old prior (cond b steps.FetchFull (steps.Fetch (next_ticket (release old.book prior)))) (cond b (release old.book prior) (asked (release old.book prior) key))) [ true ↦ refl | false ↦ tt ]

  waits : NeedsAway old key → (prior : Option Ticket) (outcome : Option Outcome) → prior_outcome old.book prior ≡ outcome
      → Exact prior (read_waits old prior key (waited_for old.table key prior outcome))
  waits needs None outcome is = asks needs None tt
  waits needs (Some ticket) None is = asks needs (Some ticket) (subst (λ (o : Option Outcome). IsUnserved old.table key o) (sym is) tt)
  waits needs (Some ticket) (Some outcomes.Waiting) is = record { comes = inl (record { needs = needs; place = record { prior_is = refl; outcome_is = is }; book = refl }); freed = tt }
  waits needs (Some ticket) (Some outcomes.Merged) is = asks needs (Some ticket) (subst (λ (o : Option Outcome). IsUnserved old.table key o) (sym is) tt)
  waits needs (Some ticket) (Some outcomes.Absent) is = record { comes = record { opened = needs.opened; absent = λ n. is }; freed = refl }
  waits needs (Some ticket) (Some (outcomes.Failed fault)) is = record { comes = record { needs = needs; fault = fault; place = record { prior_is = refl; outcome_is = is } }; freed = refl }
  waits needs (Some ticket) (Some outcomes.NoMemory) is = record { comes = record { needs = needs; place = record { prior_is = refl; outcome_is = is } }; freed = refl }
  waits needs (Some ticket) (Some (outcomes.NoRoom blocks)) is =
      elim (has_no_room old.table key blocks) as (λ b. has_no_room old.table key blocks ≡ b → Exact (Some ticket) (read_waits old (Some ticket) key (cond b (waited.Refused causes.Quota) waited.Asks))) [
        | true ↦ λ full. record {
          comes = record { needs = needs; blocks = blocks; outcome = is; full = no_room (length old.table.slots) (others_pinned old.table.eviction old.table.mark key old.table.slots + blocks) full };
          freed = refl;
        }
        | false ↦ λ fits. asks needs (Some ticket) (subst (λ (o : Option Outcome). IsUnserved old.table key o) (sym is) (room (length old.table.slots) (others_pinned old.table.eviction old.table.mark key old.table.slots + blocks) fits))
      ] refl

  memory : (prior : Option Ticket) (m : Memory) → memory_of old.table key ≡ m → old.table.opened ≡ true → old.table.state ≡ Active → Exact prior (read_memory old prior key now m)
  memory prior (Known doc) is opened active = record {
    comes = record { opened = opened; absent = λ n. absurd (known_here (node_at old.table.slots key) old.table.eviction doc is n.away) };
    freed = refl;
  }
  memory prior Away is opened active =
      waits (record { opened = opened; active = active; away = away_from (node_at old.table.slots key) old.table.eviction is }) prior (prior_outcome old.book prior) refl

  active : (prior : Option Ticket) (refusal : Option ℕ) → state_refusal old.table.state true ≡ refusal → old.table.opened ≡ true → Exact prior (read_active old prior key now refusal)
  active prior None is opened = memory prior (memory_of old.table key) refl opened (active_is old.table.state is)
  active prior (Some status) is opened = record {
    comes = record { opened = opened; absent = λ n. absurd (let e : state_refusal old.table.state true ≡ None = ap (λ (v : VbState). state_refusal v true) n.active in cc) };
    freed = refl;
  }

  pub read_is_exact : (prior : Option Ticket) → ReadIsExact old key prior (read_step old prior key now)
  read_is_exact prior = elim old.table.opened as (λ b. old.table.opened ≡ b → Exact prior (cond b (read_active old prior key now (state_refusal old.table.state true)) (read_refused old prior causes.Warming))) [
    | true ↦ λ is. active prior (state_refusal old.table.state true) refl is
    | false ↦ λ is. record { comes = is; freed = refl }
  ] refl
