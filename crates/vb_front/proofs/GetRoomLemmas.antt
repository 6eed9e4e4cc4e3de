-- A Get that is answered had room, as far as documents are known.
use Rattle.std.proofs.Common.{◌≡◌, ℕ, ◌≤◌, true, false, cond, max, List, refl, sym, ap, ◌∙◌, arith}
use Rattle.std.specs.Prelude.{Option, Some, None}
use Rattle.std.specs.FinMap.{get}
use Rattle.ep_model.specs.declared.call.Reply.{Reply}
use Rattle.ep_model.specs.declared.call.VbState.{VbState}
use Rattle.ep_model.specs.declared.config.Eviction.{Eviction}
use Rattle.ep_model.specs.declared.config.Eviction.TheVariants.{Value, Full}
use Rattle.ep_model.specs.declared.event.Cause.TheVariants as causes
use Rattle.ep_model.specs.declared.event.Ticket.{Ticket}
use Rattle.ep_model.specs.declared.data.CallData.TheVariants.{Get}
use Rattle.ep_model.specs.declared.data.FrontData.{FrontData}
use Rattle.ep_model.specs.World.{Doc, live_of}
use Rattle.ep_model.specs.Limits.{IsKey}
use Rattle.ep_model.specs.Stripes.{stripe_of}
use Rattle.ep_model.specs.Refusals.{state_refusal}
use Rattle.ep_model.specs.Answer.{Answer, Nothing, answer_get, answer}
use Rattle.ep_model.specs.Quota.{old_blocks, is_short}
use Rattle.ep_model.specs.Front.{world_of}
use Rattle.ep_model.specs.Legal.{IsServing, IsLegal}
use Rattle.hash_stripe.specs.Nodes.{Slot, node_at, slot_blocks}
use Rattle.hash_stripe.specs.Stripes.{IsStripe, found, found_value}
use Rattle.fetch_book.specs.declared.place.Outcome.{Outcome}
use Rattle.fetch_book.specs.declared.place.Outcome.TheVariants as outcomes
use Rattle.fetch_book.specs.Books.{BookData, is_full, next_ticket}
use Rattle.vb_front.specs.declared.part.StripePart.{StripePart}
use Rattle.vb_front.specs.declared.step.Step.TheVariants as steps
use Rattle.vb_front.specs.declared.wait.Meaning.TheVariants as waits
use Rattle.vb_front.specs.Stands.{StripeStands}
use Rattle.hold_stage.specs.Priors.{PriorsStand}
use Rattle.vb_front.specs.Waits.{Memory, Known, Away, value_memory, slot_memory, memory_of, has_no_room, prior_outcome, waited_for, release, ask_step}
use Rattle.vb_front.specs.Writes.{is_away}
use Rattle.vb_front.specs.Reads.{Read, read_refused, read_waits, read_memory, read_active, read_step, AnsweredGetHasRoom}
use Rattle.vb_front.proofs.ReadLemmas.{prior_shows, get_active}
use Rattle.vb_front.proofs.RoomLemmas.{absent_stands, own_fits, old_here, short_by}

-- what memory knows isn't away
known_here : (e : Eviction) (slot : Slot) (doc : Option Doc) → slot_memory e slot ≡ Known doc → is_away e (found slot) ≡ false
known_here Value None doc is = refl
known_here Full None doc is = absurd (cc)
known_here e (Some node) doc is = at e node.value is
  where
    at : (v : Eviction) (value : Option (List ℕ)) → value_memory node value ≡ Known doc → is_away v (found_value node.meta value) ≡ false
    at v None is' = absurd (cc)
    at Value (Some text) is' = refl
    at Full (Some text) is' = refl

-- a Get puts nothing
get_nothing : (doc : Option Doc) → (answer_get doc).effect ≡ Nothing
get_nothing None = refl
get_nothing (Some doc) = refl

module _ (f : FrontData) (stripe caller now : ℕ) (key : List ℕ) (keyed : IsKey key) (legal : IsLegal f) (here : stripe_of key f.config.stripes ≡ stripe)
    (old : StripePart) (s : StripeStands f stripe old) (sound : IsStripe old.table) (told : (world_of f).told ≡ true) (serving : IsServing (world_of f)) where
  -- its own document fits where it stands
  fits : old_blocks (world_of f) key (Get key) ≤ slot_blocks (node_at old.table.slots key) → is_short f key (Get key) now ≡ false
  fits le =
      let nothing : (answer (world_of f) (Get key) now).effect ≡ Nothing =
      ap (λ (a : Answer). a.effect) (sym (get_active (world_of f) key now serving.active)) ∙ get_nothing (live_of (get (world_of f).docs key) now) in
      short_by f stripe now (Get key) key here old s sound told serving Nothing nothing
      (own_fits f stripe now (Get key) key here old s sound told serving (max 0 (old_blocks (world_of f) key (Get key))) (omega arith)) refl

  asks : (reply : Reply) (book : BookData) → ask_step book ≡ steps.Done reply → is_short f key (Get key) now ≡ false
  asks reply book asked = elim (is_full book) as (λ b. cond b steps.FetchFull (steps.Fetch (next_ticket book)) ≡ steps.Done reply → is_short f key (Get key) now ≡ false) [ true ↦ λ h. absurd (cc) | false ↦ λ h. absurd (cc) ] asked

  waited_room : (reply : Reply) (prior : Option Ticket) (outcome : Option Outcome) → prior_outcome old.book prior ≡ outcome → PriorsStand f caller (Get key) prior
      → (read_waits old prior key (waited_for old.table key prior outcome)).step ≡ steps.Done reply → is_short f key (Get key) now ≡ false
  waited_room reply None outcome is priors came = asks reply old.book came
  waited_room reply (Some ticket) None is priors came = asks reply (release old.book (Some ticket)) came
  waited_room reply (Some ticket) (Some outcomes.Waiting) is priors came = absurd (cc)
  waited_room reply (Some ticket) (Some outcomes.Merged) is priors came = asks reply (release old.book (Some ticket)) came
  waited_room reply (Some ticket) (Some outcomes.Absent) is priors came =
      let gone = prior_shows f stripe caller (Get key) key old ticket outcomes.Absent legal refl s priors is told in
      let none = absent_stands key (get (world_of f).docs key) gone in
      fits (omega arith)
  waited_room reply (Some ticket) (Some (outcomes.Failed fault)) is priors came = absurd (cc)
  waited_room reply (Some ticket) (Some outcomes.NoMemory) is priors came = absurd (cc)
  waited_room reply (Some ticket) (Some (outcomes.NoRoom blocks)) is priors came =
      elim (has_no_room old.table key blocks) as (λ b. (read_waits old (Some ticket) key (cond b (waits.Refused causes.Quota) waits.Asks)).step ≡ steps.Done reply → is_short f key (Get key) now ≡ false) [
        | true ↦ λ h. absurd (cc)
        | false ↦ λ h. asks reply (release old.book (Some ticket)) h
      ] came

  memory_room : (reply : Reply) (prior : Option Ticket) → PriorsStand f caller (Get key) prior → (m : Memory) → memory_of old.table key ≡ m
      → (read_memory old prior key now m).step ≡ steps.Done reply → is_short f key (Get key) now ≡ false
  memory_room reply prior priors (Known doc) is came =
      fits (old_here f stripe now (Get key) key here old s sound told serving (known_here old.table.eviction (node_at old.table.slots key) doc is))
  memory_room reply prior priors Away is came = waited_room reply prior (prior_outcome old.book prior) refl priors came

-- A Get that is answered had room for what it needs.
pub get_has_room : (old : StripePart) (key : List ℕ) (now : ℕ) (prior : Option Ticket) → IsKey key → IsStripe old.table
    → stripe_of key old.table.stripes ≡ old.table.index → AnsweredGetHasRoom old key now prior (read_step old prior key now)
get_has_room old key now prior keyed sound home f stripe caller reply legal s priors told serving came =
    let here : stripe_of key f.config.stripes ≡ stripe = ap (λ n. stripe_of key n) (sym s.table.stripes) ∙ home ∙ s.table.index in
    let open_is : read_step old prior key now ≡ read_active old prior key now (state_refusal old.table.state true) =
    ap (λ b. cond b (read_active old prior key now (state_refusal old.table.state true)) (read_refused old prior causes.Warming)) (s.table.opened ∙ serving.opened) in
    let none : state_refusal old.table.state true ≡ None = ap (λ (v : VbState). state_refusal v true) (s.table.state ∙ serving.active) in
    let memory_is : read_step old prior key now ≡ read_memory old prior key now (memory_of old.table key) = open_is ∙ ap (λ (o : Option ℕ). read_active old prior key now o) none in
    memory_room f stripe caller now key keyed legal here old s sound told serving reply prior priors (memory_of old.table key) refl (sym (ap (λ (r : Read). r.step) memory_is) ∙ came)
