-- A Get on a stripe that stands: its event is legal, and the stripe stands behind it.
use Rattle.std.proofs.Common.{◌≡◌, ℕ, ◌≤◌, true, false, cond, List, ◌∷◌, ◌++◌, length, refl, sym, ap, subst, ◌∙◌, arith}
use Rattle.std.specs.Prelude.{Option, Some, None, nat_lt, not, is_none, ◌==◌, ◌&&◌, ◌||◌}
use Rattle.std.specs.FinMap.{get}
use Rattle.std.proofs.lemmas.Bool.Decides.{nat_tests}
use Rattle.ep_model.specs.declared.call.VbState.{VbState}
use Rattle.ep_model.specs.declared.call.VbState.TheVariants.{Active, Replica, Pending, Dead}
use Rattle.ep_model.specs.declared.event.Cause.TheVariants as causes
use Rattle.ep_model.specs.declared.event.Ticket.{Ticket}
use Rattle.ep_model.specs.declared.data.CallData.{CallData}
use Rattle.ep_model.specs.declared.data.CallData.TheVariants.{Get}
use Rattle.ep_model.specs.declared.data.EventData.TheVariants.{Asked}
use Rattle.ep_model.specs.declared.data.FrontData.{FrontData}
use Rattle.ep_model.specs.World.{Doc, World, live_of, secs, doc_blocks}
use Rattle.ep_model.specs.World.{blocks as blocks_for}
use Rattle.ep_model.specs.Limits.{IsKey}
use Rattle.ep_model.specs.Stripes.{stripe_of}
use Rattle.ep_model.specs.Calls.{key_of}
use Rattle.ep_model.specs.Needs.{needs, own_refusal}
use Rattle.ep_model.specs.Refusals.{state_refusal}
use Rattle.ep_model.specs.Answer.{Answer, unless, refused, answer_get, answer_row, answer}
use Rattle.ep_model.specs.Mutations.{put_by}
use Rattle.ep_model.specs.Front.{begun, world_of, marked}
use Rattle.ep_model.specs.Quota.{pinned, standing_blocks, need, old_blocks, exceeds, is_overfull, is_short}
use Rattle.ep_model.specs.Legal.{IsServing, IsLegal}
use Rattle.ep_model.proofs.EffectLemmas.{get_done}
use Rattle.hold_stage.proofs.ViewLemmas.{frame_after}
use Rattle.hash_stripe.specs.Stripes.{AreApart, IsStripe}
use Rattle.fetch_book.specs.declared.place.Outcome.{Outcome}
use Rattle.fetch_book.specs.declared.place.Outcome.TheVariants as outcomes
use Rattle.vb_front.specs.declared.part.StripePart.{StripePart}
use Rattle.vb_front.specs.declared.wait.Meaning.{Meaning}
use Rattle.vb_front.specs.declared.wait.Meaning.TheVariants as waited
use Rattle.vb_front.specs.Stands.{IsOfBlocks, OutcomeShows, StripeStands}
use Rattle.hold_stage.specs.Waits.{IsAbsent}
use Rattle.vb_front.specs.Priors.{event_of, IsNext}
use Rattle.hold_stage.specs.Priors.{PriorsStand, PriorStands}
use Rattle.vb_front.specs.Waits.{Memory, Known, Away, memory_of, has_no_room, prior_outcome, waited_for, release}
use Rattle.vb_front.specs.Reads.{KeepsStripe, Read, read_done, read_refused, read_asks, read_waits, with_heated, read_memory, read_active, read_step, ReadIsLegal}
use Rattle.vb_front.proofs.AskLemmas.{ticket_same, other_ticket}
use Rattle.vb_front.proofs.TicketLemmas.{same_key}
use Rattle.vb_front.proofs.WaitLemmas.{memory_known, with_released, done_behind, refused_behind, asks_behind, prior_place, prior_waits, prior_failed}
use Rattle.vb_front.proofs.PinLemmas.{pinned_is}
use Rattle.vb_front.proofs.NodeLemmas.{used_stands}

-- what an outcome says of the key of the call that asked
pub prior_shows : (f : FrontData) (stripe caller : ℕ) (call : CallData) (key : List ℕ) (part : StripePart) (ticket : Ticket) (outcome : Outcome)
    → IsLegal f → key_of call ≡ Some key → StripeStands f stripe part → PriorStands f caller call ticket
    → prior_outcome part.book (Some ticket) ≡ Some outcome → (world_of f).told ≡ true → OutcomeShows f key outcome
prior_shows f stripe caller call key part ticket outcome legal keyed s p is told =
    let found = prior_place f stripe caller call part s ticket outcome is in
    let waits = found.3.waiting in
    let same : found.0.key ≡ key = same_key f found.0.ticket key found.0.key caller call p.before p.later legal waits (p.asked ∙ ap (λ (t : Ticket). p.before ++ Asked t caller call ∷ p.later) (sym found.1)) keyed in
    subst (λ (k : List ℕ). OutcomeShows f k outcome) same (subst (λ (o : Outcome). OutcomeShows f found.0.key o) found.2 (found.3.shown told))

-- a document takes a block at least, which is its key's
pub takes_room : (key : List ℕ) (blocks : ℕ) (o : Option Doc) → IsKey key → IsOfBlocks key blocks o → 1 ≤ blocks
takes_room key blocks None keyed h = absurd h
takes_room key blocks (Some doc) keyed h = let own = own_block (length key) keyed.0 in let is = h.1 in omega arith
  where
    own_block : (n : ℕ) → 1 ≤ n → 1 ≤ blocks_for n
    own_block n some = omega arith

-- where a document that a call needs has no room, the call may be refused
pub no_room_cause : (f : FrontData) (stripe : ℕ) (call : CallData) (now : ℕ) (key : List ℕ) (part : StripePart) (blocks : ℕ)
    → IsKey key → stripe_of key f.config.stripes ≡ stripe → AreApart part.table.slots → (world_of f).opened ≡ true
    → needs f.config.eviction call ≡ true → own_refusal (world_of f).fit call ≡ None → StripeStands f stripe part → OutcomeShows f key (outcomes.NoRoom blocks) → (world_of f).told ≡ true → has_no_room part.table key blocks ≡ true → is_short f key call now ≡ true
no_room_cause f stripe call now key part blocks keyed here apart opened needed own s shows told full =
    let frame = frame_after (begun f) f.events in
    let pins = pinned_is f stripe key part.table s.table (s.table.shown told) opened apart frame.stripes frame.eviction in
    let size = s.table.blocks in
    let stands : standing_blocks key (get (world_of f).docs key) ≡ blocks = standing (get (world_of f).docs key) shows in
    let need_is : old_blocks (world_of f) key call ≡ blocks =
    ap (λ e. cond (needs e call && is_none (own_refusal (world_of f).fit call)) (standing_blocks key (get (world_of f).docs key)) 0) frame.eviction
    ∙ ap (λ b. cond (b && is_none (own_refusal (world_of f).fit call)) (standing_blocks key (get (world_of f).docs key)) 0) needed
    ∙ ap (λ o. cond (is_none o) (standing_blocks key (get (world_of f).docs key)) 0) own ∙ stands in
    let taken : 1 ≤ blocks = takes_room key blocks (get (world_of f).docs key) keyed shows in
    let over : exceeds f.config.blocks (pinned (world_of f) stripe (marked f stripe) key) (need (world_of f) key call now) ≡ true = grind (arith, nat_tests) in
    ap (λ b. b || is_overfull f (put_by (answer (world_of f) call now).effect)) (ap (λ n. exceeds f.config.blocks (pinned (world_of f) n (marked f n) key) (need (world_of f) key call now)) here ∙ over)
  where
    standing : (o : Option Doc) → IsOfBlocks key blocks o → standing_blocks key o ≡ blocks
    standing None h = absurd h
    standing (Some doc) h = ap (λ b. cond b 0 (doc_blocks key doc)) h.0 ∙ sym h.1

pub active_is : (state : VbState) → state_refusal state true ≡ None → state ≡ Active
active_is Active is = refl
active_is Replica is = absurd (cc)
active_is Pending is = absurd (cc)
active_is Dead is = absurd (cc)

-- in an active vBucket a Get shows the live document
pub get_active : (w : World) (key : List ℕ) (now : ℕ) → w.state ≡ Active
    → answer_get (live_of (get w.docs key) now) ≡ answer w (Get key) now
get_active w key now active = sym (ap (λ (v : VbState). unless (state_refusal v true) (answer_get (live_of (get w.docs key) now))) active)

-- and nothing where there is no document but a deleted one
pub absent_live : (now : ℕ) (o : Option Doc) → IsAbsent o → live_of o now ≡ None
absent_live now None h = refl
absent_live now (Some doc) h = ap (λ b. cond (not b && (doc.expiry == 0 || nat_lt (secs now) doc.expiry)) (Some doc) None) h

module _ (f : FrontData) (stripe caller now : ℕ) (key : List ℕ) (keyed : IsKey key) (legal : IsLegal f) (here : stripe_of key f.config.stripes ≡ stripe) where
  -- what a Get left, behind its event
  abbrev Leaves : Option Ticket → Read → Type 0
  Leaves prior r = IsNext f (event_of caller (Get key) now prior r.step r.value) (λ g. StripeStands g stripe r.part)

  done : (part : StripePart) (prior : Option Ticket) (a : Answer) → StripeStands f stripe part
      → (world_of f).opened ≡ true → ((world_of f).told ≡ true → a ≡ answer (world_of f) (Get key) now)
      → Leaves prior (read_done part prior a)
  done part prior a s opened shows =
      done_behind f stripe part s caller (Get key) now prior a.reply a.value (record {
        opened = opened;
        reply_is = λ told. ap (λ (x : Answer). x.reply) (shows told);
        value_is = λ told. ap (λ (x : Answer). x.value) (shows told);
      }) (get_done (world_of f) key now a.reply)

  warming : (part : StripePart) (prior : Option Ticket) → StripeStands f stripe part → (world_of f).opened ≡ false
      → Leaves prior (read_refused part prior causes.Warming)
  warming part prior s shut = refused_behind f stripe part s caller (Get key) now prior causes.Warming shut (λ place left. (λ is. cc, λ is. cc))

  -- a Get of what isn't in memory, by what became of the read that it asked for before
  module _ (part : StripePart) (apart : AreApart part.table.slots) (opened : (world_of f).opened ≡ true) (active : (world_of f).state ≡ Active) (away : memory_of part.table key ≡ Away) (s : StripeStands f stripe part) where
    asks : (prior : Option Ticket) → PriorsStand f caller (Get key) prior
        → Leaves prior (read_asks part (release part.book prior) key)
    asks prior priors = asks_behind f stripe caller now (Get key) key (record part { book = release part.book prior }) legal refl refl here opened active away (with_released f stripe part s prior) prior priors

    serving : IsServing (world_of f)
    serving = record { opened = opened; active = active }

    waits : (prior : Option Ticket) (outcome : Option Outcome) → prior_outcome part.book prior ≡ outcome
        → PriorsStand f caller (Get key) prior
        → Leaves prior (read_waits part prior key (waited_for part.table key prior outcome))
    waits None outcome is priors = asks None priors
    waits (Some ticket) None is priors = asks (Some ticket) priors
    waits (Some ticket) (Some outcomes.Waiting) is priors =
        subst (λ b. IsNext f (cond b None (Some (Asked ticket caller (Get key)))) (λ g. StripeStands g stripe part)) (sym (ticket_same ticket ticket refl)) s
    waits (Some ticket) (Some outcomes.Merged) is priors = asks (Some ticket) priors
    waits (Some ticket) (Some outcomes.Absent) is priors =
        done part (Some ticket) (answer_get None) s opened (λ told.
        ap answer_get (sym (absent_live now (get (world_of f).docs key) (prior_shows f stripe caller (Get key) key part ticket outcomes.Absent legal refl s priors is told)))
        ∙ get_active (world_of f) key now active)
    waits (Some ticket) (Some (outcomes.Failed fault)) is priors =
        refused_behind f stripe part s caller (Get key) now (Some ticket) (causes.Store ticket) (record {
          serving = serving;
          keyed = refl;
          waits = prior_waits f stripe caller (Get key) part s ticket (outcomes.Failed fault) is priors;
          fault = fault;
          failed = prior_failed f stripe caller (Get key) part s ticket fault is;
        }) (λ place left. (λ same. other_ticket ticket place left (let e : ticket ≡ place.ticket = cc in e), λ same. cc))
    waits (Some ticket) (Some outcomes.NoMemory) is priors =
        refused_behind f stripe part s caller (Get key) now (Some ticket) (causes.Memory ticket) (record {
          serving = serving;
          keyed = refl;
          waits = prior_waits f stripe caller (Get key) part s ticket outcomes.NoMemory is priors;
        }) (λ place left. (λ same. cc, λ same. other_ticket ticket place left (let e : ticket ≡ place.ticket = cc in e)))
    waits (Some ticket) (Some (outcomes.NoRoom blocks)) is priors =
        elim (has_no_room part.table key blocks) as (λ b. has_no_room part.table key blocks ≡ b → Leaves (Some ticket) (read_waits part (Some ticket) key (cond b (waited.Refused causes.Quota) waited.Asks))) [
          | true ↦ λ full.
              refused_behind f stripe part s caller (Get key) now (Some ticket) causes.Quota (record {
                serving = serving;
                key = key;
                keyed = refl;
                short = λ told. no_room_cause f stripe (Get key) now key part blocks keyed here apart opened refl refl s (prior_shows f stripe caller (Get key) key part ticket (outcomes.NoRoom blocks) legal refl s priors is told) told full;
              }) (λ place left. (λ same. cc, λ same. cc))
          | false ↦ λ fits. asks (Some ticket) priors
        ] refl

  -- the stripe with the document's node noted as used
  module _ (part : StripePart) (apart : AreApart part.table.slots) (prior : Option Ticket) (priors : PriorsStand f caller (Get key) prior) (s : StripeStands f stripe part) (heats : StripeStands f stripe (with_heated part key)) where
    memory : (m : Memory) → memory_of part.table key ≡ m → (world_of f).opened ≡ true → (world_of f).state ≡ Active
        → Leaves prior (read_memory part prior key now m)
    memory (Known doc) is opened active =
        done (with_heated part key) prior (answer_get (live_of doc now)) heats opened (λ told.
        ap answer_get (sym (memory_known f stripe now key part.table doc s.table (s.table.shown told) opened here is)) ∙ get_active (world_of f) key now active)
    memory Away is opened active = waits part apart opened active is s prior (prior_outcome part.book prior) refl priors

    active : (refusal : Option ℕ) → state_refusal part.table.state true ≡ refusal → (world_of f).opened ≡ true
        → Leaves prior (read_active part prior key now refusal)
    active None is opened = memory (memory_of part.table key) refl opened (active_is (world_of f).state (ap (λ (v : VbState). state_refusal v true) (sym s.table.state) ∙ is))
    active (Some status) is opened =
        done part prior (refused status) s opened (λ told. ap (λ o. unless o (answer_row (world_of f) (Get key) now)) (sym (ap (λ (v : VbState). state_refusal v true) (sym s.table.state) ∙ is)))

    pub read_leaves : Leaves prior (read_step part prior key now)
    read_leaves = elim part.table.opened as (λ b. part.table.opened ≡ b → Leaves prior (cond b (read_active part prior key now (state_refusal part.table.state true)) (read_refused part prior causes.Warming))) [
      | true ↦ λ is. active (state_refusal part.table.state true) refl (sym s.table.opened ∙ is)
      | false ↦ λ is. warming part prior s (sym s.table.opened ∙ is)
    ] refl

-- Whatever history the stripe of its key stood for, what a Get comes to is legal, and it leaves a stripe that stands.
pub read_is_legal : (old : StripePart) (key : List ℕ) (now : ℕ) (prior : Option Ticket) → IsKey key → IsStripe old.table
    → stripe_of key old.table.stripes ≡ old.table.index → ReadIsLegal old key now prior (read_step old prior key now)
read_is_legal old key now prior keyed sound home f stripe caller legal s priors =
    let here : stripe_of key f.config.stripes ≡ stripe = ap (λ n. stripe_of key n) (sym s.table.stripes) ∙ home ∙ s.table.index in
    read_leaves f stripe caller now key keyed legal here old sound.apart prior priors s (used_stands f stripe key old sound s)

-- A Get leaves its stripe that stripe.
keeps_memory : (part : StripePart) (prior : Option Ticket) (key : List ℕ) (now : ℕ) (m : Memory) → KeepsStripe part (read_memory part prior key now m).part
keeps_memory part prior key now (Known doc) = record { index = refl; stripes = refl }
keeps_memory part prior key now Away = at (waited_for part.table key prior (prior_outcome part.book prior))
  where
    at : (w : Meaning) → KeepsStripe part (read_waits part prior key w).part
    at (waited.Waits ticket) = record { index = refl; stripes = refl }
    at waited.Asks = record { index = refl; stripes = refl }
    at waited.Absent = record { index = refl; stripes = refl }
    at (waited.Refused cause) = record { index = refl; stripes = refl }

pub read_keeps : (part : StripePart) (prior : Option Ticket) (key : List ℕ) (now : ℕ) → KeepsStripe part (read_step part prior key now).part
read_keeps part prior key now = elim part.table.opened as (λ b. KeepsStripe part (cond b (read_active part prior key now (state_refusal part.table.state true)) (read_refused part prior causes.Warming)).part) [
  | true ↦ active (state_refusal part.table.state true)
  | false ↦ record { index = refl; stripes = refl }
]
  where
    active : (refusal : Option ℕ) → KeepsStripe part (read_active part prior key now refusal).part
    active None = keeps_memory part prior key now (memory_of part.table key)
    active (Some status) = record { index = refl; stripes = refl }
