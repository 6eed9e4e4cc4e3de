-- No two of the conditions meet under which a call on held parts comes to a step.
use Rattle.std.proofs.Common.{◌≡◌, inl, inr, ℕ, ◌+◌, ◌<◌, ◌≤◌, true, false, cond, List, length, refl, sym, ap, subst, ◌∙◌, arith}
use Rattle.std.specs.Prelude.{Option, Some, None, IsSome, nat_lt, ◌⊎◌}
use Rattle.std.proofs.lemmas.Bool.Decides.{nat_tests}
use Rattle.ep_model.specs.declared.call.VbState.{VbState}
use Rattle.ep_model.specs.declared.call.VbState.TheVariants.{Active}
use Rattle.ep_model.specs.declared.config.Eviction.{Eviction}
use Rattle.ep_model.specs.declared.config.Eviction.TheVariants.{Value, Full}
use Rattle.ep_model.specs.declared.event.Cause.TheVariants as causes
use Rattle.ep_model.specs.declared.event.Ticket.{Ticket}
use Rattle.ep_model.specs.declared.data.CallData.{CallData}
use Rattle.ep_model.specs.declared.data.EventData.TheVariants as events
use Rattle.ep_model.specs.declared.data.FrontData.{FrontData}
use Rattle.ep_model.specs.Refusals.{state_refusal}
use Rattle.ep_model.specs.Calls.{key_of}
use Rattle.ep_model.specs.Front.{world_of}
use Rattle.ep_model.specs.Quota.{is_short}
use Rattle.ep_model.specs.Legal.{IsQuotaCause, IsServing, IsLegal, May}
use Rattle.hash_stripe.specs.Nodes.{Slot, node_at, others_pinned}
use Rattle.hash_stripe.specs.Stripes.{StripeData}
use Rattle.fetch_book.specs.declared.place.Outcome.{Outcome}
use Rattle.fetch_book.specs.declared.place.Outcome.TheVariants as outcomes
use Rattle.fetch_book.specs.Books.{BookData, is_full, next_ticket}
use Rattle.ckpt_manager.specs.declared.data.QueueData.{QueueData}
use Rattle.vb_front.specs.declared.part.StripePart.{StripePart}
use Rattle.vb_front.specs.declared.step.Step.{Step}
use Rattle.vb_front.specs.declared.step.Step.TheVariants as steps
use Rattle.vb_front.specs.declared.wait.Meaning.{Meaning}
use Rattle.vb_front.specs.declared.wait.Meaning.TheVariants as waits
use Rattle.vb_front.specs.Stands.{StripeStands, QueueStands}
use Rattle.vb_front.specs.Priors.{event_of, IsNext}
use Rattle.vb_front.specs.Waits.{Memory, Known, Away, value_memory, slot_memory, memory_of, prior_outcome, waited_at, waited_for, waited, release, ask_step}
use Rattle.vb_front.specs.Reads.{HasPlaceWith, IsUnserved, IsAwayFrom, NeedsAway, IsDone, ReadComesTo, read_refused, read_waits, read_memory, read_active, read_step}
use Rattle.vb_front.specs.Writes.{Write, write_crowded, write_waits, write_step, AnsweredHasRoom}
use Rattle.hold_stage.specs.Priors.{PriorsStand}
use Rattle.vb_front.specs.WriteSteps.{LacksDoc, NeedsNoMore, PutsWithoutRoom, IsWithoutRoomFor, WriteComesTo}
use Rattle.vb_front.specs.Ways.{way_of, ReadStepsAreApart, ReadFollowsItsCondition, WaitingReadsAskNothing, WriteStepsAreApart, WriteFollowsItsCondition, WaitingWritesAskNothing, RoomLacksForOne, QuotaIsWantOfRoom}
use Rattle.vb_front.proofs.ReadLemmas.{active_is}
use Rattle.vb_front.proofs.ExactLemmas.{away_from}
use Rattle.vb_front.proofs.WriteExactLemmas.{write_is_exact}

fits_not : (a b : ℕ) → b ≤ a → nat_lt a b ≡ false
fits_not a b is = grind (arith, nat_tests)

lacks_so : (a b : ℕ) → a < b → nat_lt a b ≡ true
lacks_so a b is = grind (arith, nat_tests)

-- what the call's own place means to it
module _ (s : StripeData) (book : BookData) (key : List ℕ) where
  placed_waits : (prior : Option Ticket) (ticket : Ticket) (outcome : Outcome) → HasPlaceWith book prior ticket outcome → waited s book key prior ≡ waited_at s key ticket outcome
  placed_waits prior ticket outcome h =
      ap (λ (p : Option Ticket). waited s book key p) h.prior_is ∙ ap (waited_for s key (Some ticket)) h.outcome_is

  absent_waits : (prior : Option Ticket) → prior_outcome book prior ≡ Some outcomes.Absent → waited s book key prior ≡ waits.Absent
  absent_waits None is = absurd (cc)
  absent_waits (Some ticket) is = ap (waited_for s key (Some ticket)) is

  crowded_waits : (prior : Option Ticket) (blocks : ℕ) → prior_outcome book prior ≡ Some (outcomes.NoRoom blocks) → length s.slots < others_pinned s.eviction s.mark key s.slots + blocks → waited s book key prior ≡ waits.Refused causes.Quota
  crowded_waits None blocks is full = absurd (cc)
  crowded_waits (Some ticket) blocks is full =
      ap (waited_for s key (Some ticket)) is
      ∙ ap (λ b. cond b (waits.Refused causes.Quota) waits.Asks) (lacks_so (length s.slots) (others_pinned s.eviction s.mark key s.slots + blocks) full)

  unserved_for : (prior : Option Ticket) (outcome : Option Outcome) → IsUnserved s key outcome → waited_for s key prior outcome ≡ waits.Asks
  unserved_for None outcome u = refl
  unserved_for (Some ticket) None u = refl
  unserved_for (Some ticket) (Some outcomes.Waiting) u = absurd u
  unserved_for (Some ticket) (Some outcomes.Merged) u = refl
  unserved_for (Some ticket) (Some outcomes.Absent) u = absurd u
  unserved_for (Some ticket) (Some (outcomes.Failed fault)) u = absurd u
  unserved_for (Some ticket) (Some outcomes.NoMemory) u = absurd u
  unserved_for (Some ticket) (Some (outcomes.NoRoom blocks)) u =
      ap (λ b. cond b (waits.Refused causes.Quota) waits.Asks) (fits_not (length s.slots) (others_pinned s.eviction s.mark key s.slots + blocks) u)

  unserved_waits : (prior : Option Ticket) → IsUnserved s key (prior_outcome book prior) → waited s book key prior ≡ waits.Asks
  unserved_waits prior u = unserved_for prior (prior_outcome book prior) u

  -- a place that waits serves its call
  waiting_serves : (prior : Option Ticket) (ticket : Ticket) → HasPlaceWith book prior ticket outcomes.Waiting → IsUnserved s key (prior_outcome book prior) → ⊥
  waiting_serves prior ticket h u =
      let e = sym (placed_waits prior ticket outcomes.Waiting h) ∙ unserved_waits prior u in cc

-- where it asks
asks_at : (book : BookData) (ticket : Ticket) → is_full book ≡ false → ticket ≡ next_ticket book → ask_step book ≡ steps.Fetch ticket
asks_at book ticket free next = ap (λ b. cond b steps.FetchFull (steps.Fetch (next_ticket book))) free ∙ ap steps.Fetch (sym next)

asks_nowhere : (book : BookData) → is_full book ≡ true → ask_step book ≡ steps.FetchFull
asks_nowhere book full = ap (λ b. cond b steps.FetchFull (steps.Fetch (next_ticket book))) full

-- memory lacks what a Get needs
away_memory : (slot : Slot) (e : Eviction) → IsAwayFrom slot e → slot_memory e slot ≡ Away
away_memory None Value away = absurd away
away_memory None Full away = refl
away_memory (Some node) e away =
    let missing : value_memory node node.value ≡ Away = ap (value_memory node) away in
    elim e as (λ (v : Eviction). slot_memory v (Some node) ≡ Away) [ Value ↦ missing | Full ↦ missing ]

module _ (old : StripePart) (key : List ℕ) (prior : Option Ticket) (now : ℕ) where
  abbrev came : Option Step
  came = way_of (read_step old prior key now).step

  read_opened : old.table.opened ≡ true → came ≡ way_of (read_active old prior key now (state_refusal old.table.state true)).step
  read_opened opened = ap (λ b. way_of (cond b (read_active old prior key now (state_refusal old.table.state true)) (read_refused old prior causes.Warming)).step) opened

  -- it needs what isn't in memory, and its place means this
  read_means : NeedsAway old key → (means : Meaning) → waited old.table old.book key prior ≡ means → came ≡ way_of (read_waits old prior key means).step
  read_means needs means is =
      read_opened needs.opened
      ∙ ap (λ (v : VbState). way_of (read_active old prior key now (state_refusal v true)).step) needs.active
      ∙ ap (λ (m : Memory). way_of (read_memory old prior key now m).step) (away_memory (node_at old.table.slots key) old.table.eviction needs.away)
      ∙ ap (λ (w : Meaning). way_of (read_waits old prior key w).step) is

  read_answers : IsDone old key prior → came ≡ None
  read_answers d = read_opened d.opened ∙ at (state_refusal old.table.state true) refl
    where
      in_memory : old.table.state ≡ Active → (m : Memory) → memory_of old.table key ≡ m → way_of (read_memory old prior key now m).step ≡ None
      in_memory active (Known doc) is = refl
      in_memory active Away is =
          let needs : NeedsAway old key = record { opened = d.opened; active = active; away = away_from (node_at old.table.slots key) old.table.eviction is } in
          ap (λ (w : Meaning). way_of (read_waits old prior key w).step) (absent_waits old.table old.book key prior (d.absent needs))

      at : (refusal : Option ℕ) → state_refusal old.table.state true ≡ refusal → way_of (read_active old prior key now refusal).step ≡ None
      at (Some status) is = refl
      at None is = in_memory (active_is old.table.state is) (memory_of old.table key) refl

  read_follows : (step : Step) (book : BookData) → ReadComesTo old key prior step book → came ≡ way_of step
  read_follows (steps.Done reply) book c = read_answers c
  read_follows (steps.Refused causes.Warming) book c = ap (λ b. way_of (cond b (read_active old prior key now (state_refusal old.table.state true)) (read_refused old prior causes.Warming)).step) c
  read_follows (steps.Refused causes.Quota) book c = read_means c.needs (waits.Refused causes.Quota) (crowded_waits old.table old.book key prior c.blocks c.outcome c.full)
  read_follows (steps.Refused (causes.Store ticket)) book c = read_means c.needs (waits.Refused (causes.Store ticket)) (placed_waits old.table old.book key prior ticket (outcomes.Failed c.fault) c.place)
  read_follows (steps.Refused (causes.Memory ticket)) book c = read_means c.needs (waits.Refused (causes.Memory ticket)) (placed_waits old.table old.book key prior ticket outcomes.NoMemory c.place)
  read_follows (steps.Fetch ticket) book c =
      elim c as (λ _. came ≡ Some (steps.Fetch ticket)) [
        | inl h ↦ read_means h.needs (waits.Waits ticket) (placed_waits old.table old.book key prior ticket outcomes.Waiting h.place)
        | inr h ↦
            read_means h.needs waits.Asks (unserved_waits old.table old.book key prior h.unserved)
            ∙ ap way_of (asks_at (release old.book prior) ticket h.free h.next)
      ]
  read_follows steps.FetchFull book c =
      read_means c.needs waits.Asks (unserved_waits old.table old.book key prior c.unserved)
      ∙ ap way_of (asks_nowhere (release old.book prior) c.full)

pub read_follows_its_condition : ReadFollowsItsCondition
read_follows_its_condition old key prior now step book c = read_follows old key prior now step book c

pub read_steps_are_apart : ReadStepsAreApart
read_steps_are_apart old key prior one other book left c d =
    sym (read_follows old key prior 0 one book c) ∙ read_follows old key prior 0 other left d

pub waiting_reads_ask_nothing : WaitingReadsAskNothing
waiting_reads_ask_nothing old key prior one other book left w a = waiting_serves old.table old.book key prior one w.place a.unserved

-- Why a call that may put a document comes to a step.
-- The vBucket hasn't opened.
record IsShut (part : StripePart) (step : Step) : Type 0 where
  opened : part.table.opened ≡ false
  way : way_of step ≡ Some (steps.Refused causes.Warming)

-- What it lacks it needs no more: it is answered, or has no room for what it puts.
record GoesOn (part : StripePart) (q : QueueData) (call : CallData) (key : List ℕ) (now : ℕ) (prior : Option Ticket) (step : Step) : Type 0 where
  opened : part.table.opened ≡ true
  served : LacksDoc part call key → NeedsNoMore part q call key (prior_outcome part.book prior)
  way : ((way_of step ≡ None) × (PutsWithoutRoom part q call key now prior → ⊥)) ⊎ ((way_of step ≡ Some (steps.Refused causes.Quota)) × PutsWithoutRoom part q call key now prior)

-- It lacks what it needs, and its place says how it goes on.
record IsHeld (part : StripePart) (q : QueueData) (call : CallData) (key : List ℕ) (now : ℕ) (prior : Option Ticket) (step : Step) : Type 0 where
  lacks : LacksDoc part call key
  unserved : NeedsNoMore part q call key (prior_outcome part.book prior) → ⊥
  way : way_of step ≡ way_of (write_waits part q prior call key now (waited part.table part.book key prior)).step

module _ (part : StripePart) (q : QueueData) (call : CallData) (key : List ℕ) (now : ℕ) (prior : Option Ticket) where
  abbrev Serves : Option Outcome → Type 0
  Serves outcome = NeedsNoMore part q call key outcome

  abbrev meant : Meaning → Option Step
  meant w = way_of (write_waits part q prior call key now w).step

  serves_placed : (ticket : Ticket) (outcome : Outcome) → HasPlaceWith part.book prior ticket outcome → Serves (prior_outcome part.book prior) → Serves (Some outcome)
  serves_placed ticket outcome h s = subst (λ (o : Option Outcome). Serves o) (ap (λ (p : Option Ticket). prior_outcome part.book p) h.prior_is ∙ h.outcome_is) s

  serves_unserved : (outcome : Option Outcome) → IsUnserved part.table key outcome → Serves outcome → ⊥
  serves_unserved None u s = s
  serves_unserved (Some outcomes.Waiting) u s = u
  serves_unserved (Some outcomes.Merged) u s = s
  serves_unserved (Some outcomes.Absent) u s = u
  serves_unserved (Some (outcomes.Failed fault)) u s = u
  serves_unserved (Some outcomes.NoMemory) u s = u
  serves_unserved (Some (outcomes.NoRoom blocks)) u s = let full = s.0.full in omega arith

  crowded_serves : (c : IsWithoutRoomFor part q call key prior) → Serves (prior_outcome part.book prior) → ⊥
  crowded_serves c s =
      let t : Serves (Some (outcomes.NoRoom c.blocks)) = subst (λ (o : Option Outcome). Serves o) c.outcome s in
      let some : IsSome {T = ℕ} None = subst (λ (o : Option ℕ). IsSome o) c.own t.1 in
      cc

  held_crowded : IsWithoutRoomFor part q call key prior → IsHeld part q call key now prior (steps.Refused causes.Quota)
  held_crowded c = record {
    lacks = c.lacks;
    unserved = crowded_serves c;
    way = sym (ap meant (crowded_waits part.table part.book key prior c.blocks c.outcome c.crowded.full) ∙ ap (λ (o : Option ℕ). way_of (write_crowded part prior o).step) c.own);
  }

  held_placed : LacksDoc part call key → (ticket : Ticket) (outcome : Outcome) → HasPlaceWith part.book prior ticket outcome → (Serves (Some outcome) → ⊥)
      → (step : Step) → way_of step ≡ meant (waited_at part.table key ticket outcome) → IsHeld part q call key now prior step
  held_placed lacks ticket outcome h none step is = record {
    lacks = lacks;
    unserved = λ s. none (serves_placed ticket outcome h s);
    way = is ∙ sym (ap meant (placed_waits part.table part.book key prior ticket outcome h));
  }

  held_unserved : LacksDoc part call key → IsUnserved part.table key (prior_outcome part.book prior) → (step : Step) → ask_step (release part.book prior) ≡ step
      → IsHeld part q call key now prior step
  held_unserved lacks u step is = record {
    lacks = lacks;
    unserved = serves_unserved (prior_outcome part.book prior) u;
    way = sym (ap meant (unserved_waits part.table part.book key prior u) ∙ ap way_of is);
  }

  why : (step : Step) (book : BookData) → WriteComesTo part q call key now prior step book → IsShut part step ⊎ (GoesOn part q call key now prior step ⊎ IsHeld part q call key now prior step)
  why (steps.Done reply) book c = inr (inl (record { opened = c.opened; served = c.served; way = inl (refl, c.room) }))
  why (steps.Refused causes.Warming) book c = inl (record { opened = c; way = refl })
  why (steps.Refused causes.Quota) book c =
      elim c as (λ _. IsShut part (steps.Refused causes.Quota) ⊎ (GoesOn part q call key now prior (steps.Refused causes.Quota) ⊎ IsHeld part q call key now prior (steps.Refused causes.Quota))) [
        | inl old ↦ inr (inr (held_crowded old))
        | inr room ↦ inr (inl (record { opened = room.opened; served = room.served; way = inr (refl, room) }))
      ]
  why (steps.Refused (causes.Store ticket)) book c = inr (inr (held_placed c.lacks ticket (outcomes.Failed c.fault) c.place (λ s. s) (steps.Refused (causes.Store ticket)) refl))
  why (steps.Refused (causes.Memory ticket)) book c = inr (inr (held_placed c.lacks ticket outcomes.NoMemory c.place (λ s. s) (steps.Refused (causes.Memory ticket)) refl))
  why (steps.Fetch ticket) book c =
      elim c as (λ _. IsShut part (steps.Fetch ticket) ⊎ (GoesOn part q call key now prior (steps.Fetch ticket) ⊎ IsHeld part q call key now prior (steps.Fetch ticket))) [
        | inl on ↦ inr (inr (held_placed on.lacks ticket outcomes.Waiting on.place (λ s. s) (steps.Fetch ticket) refl))
        | inr anew ↦ inr (inr (held_unserved anew.lacks anew.unserved (steps.Fetch ticket) (asks_at (release part.book prior) ticket anew.free anew.next)))
      ]
  why steps.FetchFull book c = inr (inr (held_unserved c.lacks c.unserved steps.FetchFull (asks_nowhere (release part.book prior) c.full)))

  goes_same : (one other : Step) → GoesOn part q call key now prior one → GoesOn part q call key now prior other → way_of one ≡ way_of other
  goes_same one other a b =
      elim a.way as (λ _. way_of one ≡ way_of other) [
        | inl x ↦ elim b.way as (λ _. way_of one ≡ way_of other) [ inl y ↦ x.0 ∙ sym y.0 | inr y ↦ absurd (x.1 y.1) ]
        | inr x ↦ elim b.way as (λ _. way_of one ≡ way_of other) [ inl y ↦ absurd (y.1 x.1) | inr y ↦ x.0 ∙ sym y.0 ]
      ]

  shut_opened : (A : Type 0) → part.table.opened ≡ false → part.table.opened ≡ true → A
  shut_opened A shut opened = absurd (cc)

  same : (one other : Step) → IsShut part one ⊎ (GoesOn part q call key now prior one ⊎ IsHeld part q call key now prior one)
      → IsShut part other ⊎ (GoesOn part q call key now prior other ⊎ IsHeld part q call key now prior other) → way_of one ≡ way_of other
  same one other (inl a) (inl b) = a.way ∙ sym b.way
  same one other (inl a) (inr (inl b)) = shut_opened (way_of one ≡ way_of other) a.opened b.opened
  same one other (inl a) (inr (inr b)) = shut_opened (way_of one ≡ way_of other) a.opened b.lacks.opened
  same one other (inr (inl a)) (inl b) = shut_opened (way_of one ≡ way_of other) b.opened a.opened
  same one other (inr (inl a)) (inr (inl b)) = goes_same one other a b
  same one other (inr (inl a)) (inr (inr b)) = absurd (b.unserved (a.served b.lacks))
  same one other (inr (inr a)) (inl b) = shut_opened (way_of one ≡ way_of other) b.opened a.lacks.opened
  same one other (inr (inr a)) (inr (inl b)) = absurd (a.unserved (b.served a.lacks))
  same one other (inr (inr a)) (inr (inr b)) = a.way ∙ sym b.way

pub write_steps_are_apart : WriteStepsAreApart
write_steps_are_apart part q call key now prior one other book left c d =
    same part q call key now prior one other (why part q call key now prior one book c) (why part q call key now prior other left d)

pub write_follows_its_condition : WriteFollowsItsCondition
write_follows_its_condition part q call key now prior step book written c =
    let w = write_step part q prior call key now in
    write_steps_are_apart part q call key now prior w.step step w.book book (write_is_exact part q call key now written prior).comes c

pub waiting_writes_ask_nothing : WaitingWritesAskNothing
waiting_writes_ask_nothing part call key prior one other book left w a = waiting_serves part.table part.book key prior one w.place a.unserved

pub room_lacks_for_one : RoomLacksForOne
room_lacks_for_one part q call key now prior old room = crowded_serves part q call key now prior old (room.served old.lacks)

-- what is refused for want of room has none in the history
pub quota_wants_room : (f : FrontData) (caller : ℕ) (call : CallData) (key : List ℕ) (now : ℕ) → key_of call ≡ Some key → (world_of f).told ≡ true
    → May f (events.Refused caller call now causes.Quota) → is_short f key call now ≡ true
unfolding May
quota_wants_room f caller call key now keyed told may =
    let cause : IsQuotaCause f call now = may in
    let same : cause.key ≡ key = (let e : Some cause.key ≡ Some key = sym cause.keyed ∙ keyed in cc) in
    subst (λ (k : List ℕ). is_short f k call now ≡ true) same (cause.short told)

-- what lacks nothing but room is refused for it
pub want_is_quota : (part : StripePart) (q : QueueData) (call : CallData) (key : List ℕ) (now : ℕ) (prior : Option Ticket) (w : Write) → WriteComesTo part q call key now prior w.step w.book
    → AnsweredHasRoom part q call key now prior w → (f : FrontData) (stripe caller : ℕ) → IsLegal f → StripeStands f stripe part → QueueStands f q → PriorsStand f caller call prior
    → (world_of f).told ≡ true → IsServing (world_of f) → (LacksDoc part call key → ⊥) → is_short f key call now ≡ true → w.step ≡ steps.Refused causes.Quota
want_is_quota part q call key now prior w comes fits f stripe caller legal s u priors told serving nothing short = at w.step refl comes
  where
    at : (step : Step) → w.step ≡ step → WriteComesTo part q call key now prior step w.book → w.step ≡ steps.Refused causes.Quota
    at (steps.Done reply) is c = absurd (let e = fits f stripe caller reply legal s u priors told serving is in cc)
    at (steps.Refused causes.Warming) is c = absurd (let e = s.table.opened in let o = serving.opened in cc)
    at (steps.Refused causes.Quota) is c = is
    at (steps.Refused (causes.Store ticket)) is c = absurd (nothing c.lacks)
    at (steps.Refused (causes.Memory ticket)) is c = absurd (nothing c.lacks)
    at (steps.Fetch ticket) is c = elim c as (λ _. w.step ≡ steps.Refused causes.Quota) [ inl on ↦ absurd (nothing on.lacks) | inr anew ↦ absurd (nothing anew.lacks) ]
    at steps.FetchFull is c = absurd (nothing c.lacks)

pub quota_is_want_of_room : QuotaIsWantOfRoom
quota_is_want_of_room part new q after call key now prior w exact fits legal f stripe caller is_legal s u priors told serving keyed nothing = (
  λ is. quota_wants_room f caller call key now keyed told
      (subst (λ (t : Step). IsNext f (event_of caller call now prior t w.value) (λ g. StripeStands g stripe new × QueueStands g after)) is (legal f stripe caller is_legal s u priors)).0,
  want_is_quota part q call key now prior w exact.comes fits f stripe caller is_legal s u priors told serving nothing,
)
