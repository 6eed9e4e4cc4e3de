-- A call that is answered had room, as far as documents are known.
use Rattle.std.proofs.Common.{◌≡◌, ℕ, ◌+◌, ◌≤◌, Bool, true, false, not, ◌||◌, cond, max, List, [], ◌∷◌, length, refl, sym, ap, subst, ◌∙◌, arith}
use Rattle.std.specs.Prelude.{Option, Some, None, is_none, ◌==◌, ◌&&◌, nat_lt}
use Rattle.std.specs.FinMap.{get}
use Rattle.std.proofs.lemmas.Slice.Eq.{bytes_eq-Decides}
use Rattle.std.proofs.lemmas.Bool.Decides.{nat_tests}
use Rattle.ep_model.specs.declared.call.Reply.{Reply}
use Rattle.ep_model.specs.declared.call.VbState.{VbState}
use Rattle.ep_model.specs.declared.config.Eviction.{Eviction}
use Rattle.ep_model.specs.declared.config.Eviction.TheVariants.{Value, Full}
use Rattle.ep_model.specs.declared.event.Cause.TheVariants as causes
use Rattle.ep_model.specs.declared.event.Ticket.{Ticket}
use Rattle.ep_model.specs.declared.data.CallData.{CallData}
use Rattle.ep_model.specs.declared.data.FrontData.{FrontData}
use Rattle.ep_model.specs.World.{Doc, blocks, doc_blocks, live_of}
use Rattle.ep_model.specs.Limits.{IsKey}
use Rattle.ep_model.specs.Stripes.{stripe_of}
use Rattle.ep_model.specs.Calls.{key_of, written_key}
use Rattle.ep_model.specs.Needs.{needs, own_refusal}
use Rattle.ep_model.specs.Refusals.{state_refusal}
use Rattle.ep_model.specs.Answer.{Answer, Effect, Nothing, Puts, Sets, answer}
use Rattle.ep_model.specs.Mutations.{put_by}
use Rattle.ep_model.specs.Quota.{pinned, blocks_if, standing_blocks, old_blocks, need, exceeds, stripe_is_full, is_overfull, is_short}
use Rattle.ep_model.specs.Front.{begun, world_of, marked}
use Rattle.ep_model.specs.Legal.{IsServing, IsLegal}
use Rattle.hold_stage.proofs.ViewLemmas.{frame_after, or_left, or_right}
use Rattle.hash_stripe.specs.Nodes.{NodeData, Slot, node_at, value_blocks, node_blocks, slot_blocks, slot_pinned, is_keyed, is_clean, is_full_eviction, others_blocks, others_pinned}
use Rattle.hash_stripe.specs.Nodes as nodes
use Rattle.hash_stripe.specs.Stripes.{IsStripe, found, found_value}
use Rattle.hash_stripe.specs.Nodes.{slot_of}
use Rattle.hash_stripe.proofs.RoomLemmas.{first-slot, split-of}
use Rattle.fetch_book.specs.declared.place.Outcome.{Outcome}
use Rattle.fetch_book.specs.declared.place.Outcome.TheVariants as outcomes
use Rattle.fetch_book.specs.Books.{BookData, is_full, next_ticket}
use Rattle.ckpt_manager.specs.declared.data.QueueData.{QueueData}
use Rattle.ckpt_manager.specs.Queue.{kept_with}
use Rattle.vb_front.specs.declared.part.StripePart.{StripePart}
use Rattle.vb_front.specs.declared.step.Step.TheVariants as steps
use Rattle.vb_front.specs.declared.wait.Meaning.TheVariants as waits
use Rattle.vb_front.specs.Stands.{IsShownValue, IsGone, StripeStands, QueueStands}
use Rattle.hold_stage.specs.Waits.{IsAbsent}
use Rattle.hold_stage.specs.Priors.{PriorsStand}
use Rattle.vb_front.specs.Waits.{has_no_room, prior_outcome, waited_for, waited, release, ask_step}
use Rattle.vb_front.specs.Writes.{shown_world, seen_meta, shown_doc, text_at, is_away, row_of, Stays, Write, lacks_room, write_refused, write_put, write_effect, write_over, write_crowded, write_waits, write_found, write_active, write_step, AnsweredHasRoom}
use Rattle.vb_front.proofs.AskLemmas.{and_left}
use Rattle.vb_front.proofs.PinLemmas.{pinned_is}
use Rattle.vb_front.proofs.KeptLemmas.{short_is_overfull}
use Rattle.vb_front.proofs.ReadLemmas.{prior_shows}
use Rattle.vb_front.proofs.RowEffectLemmas.{IsRowEffect, row_effect}
use Rattle.vb_front.proofs.WriteLemmas.{written_keyed, fit_is, seen_answer, absent_answer, own_answer}

-- what can't be ejected is a part of what there is
node_pins : (e : Eviction) (mark : ℕ) (node : NodeData) → nodes.pinned_blocks e mark node ≤ node_blocks node
node_pins e mark node =
    elim (is_clean mark node) as (λ b. cond b (cond (is_full_eviction e || node.meta.deleted) 0 (blocks (length node.key))) (node_blocks node) ≤ node_blocks node) [
      | true ↦ elim (is_full_eviction e || node.meta.deleted) as (λ b. cond b 0 (blocks (length node.key)) ≤ node_blocks node) [ true ↦ omega arith | false ↦ omega arith ]
      | false ↦ omega arith
    ]

slot_pins : (e : Eviction) (mark : ℕ) (slot : Slot) → slot_pinned e mark slot ≤ slot_blocks slot
slot_pins e mark None = omega arith
slot_pins e mark (Some node) = node_pins e mark node

others_pins : (e : Eviction) (mark : ℕ) (key : List ℕ) (slots : List Slot) → others_pinned e mark key slots ≤ others_blocks key slots
others_pins e mark key [] = omega arith
others_pins e mark key (slot ∷ slots) =
    let rest = others_pins e mark key slots in
    let one = slot_pins e mark slot in
    elim (is_keyed key slot) as (λ b. cond b 0 (slot_pinned e mark slot) + others_pinned e mark key slots ≤ cond b 0 (slot_blocks slot) + others_blocks key slots) [ true ↦ omega arith | false ↦ omega arith ]

-- a test of room
fits_test : (more taken most : ℕ) → taken + more ≤ most → exceeds most taken more ≡ false
fits_test more taken most fits = at (nat_lt most (taken + more)) refl
  where
    and_false : (b : Bool) → (b && false) ≡ false
    and_false true = refl
    and_false false = refl

    at : (b : Bool) → nat_lt most (taken + more) ≡ b → (not (more == 0) && nat_lt most (taken + more)) ≡ false
    at true is = absurd (let e : nat_lt most (taken + more) ≡ false = grind (arith, nat_tests) in cc)
    at false is = ap (λ b. not (more == 0) && b) is ∙ and_false (not (more == 0))

none_test : (taken most : ℕ) → exceeds most taken 0 ≡ false
none_test taken most = refl

-- the node of a key has the key
keyed_at : (slots : List Slot) (key : List ℕ) (node : NodeData) → node_at slots key ≡ Some node → node.key ≡ key
keyed_at slots key node is = at (slot_of slots key) refl is
  where
    at : (o : Option ℕ) → slot_of slots key ≡ o → nodes.node_in slots o ≡ Some node → node.key ≡ key
    at None none there = absurd (cc)
    at (Some i) some there = (bytes_eq-Decides node.key key).0 (ap (is_keyed key) (sym there) ∙ (first-slot (is_keyed key) slots i some).1)

gone_stands : (mark : ℕ) (key : List ℕ) (doc : Option Doc) → IsGone Value mark doc → standing_blocks key doc ≡ 0
gone_stands mark key None gone = refl
gone_stands mark key (Some doc) gone = ap (λ b. cond b 0 (doc_blocks key doc)) gone.1

pub absent_stands : (key : List ℕ) (doc : Option Doc) → IsAbsent doc → standing_blocks key doc ≡ 0
absent_stands key None gone = refl
absent_stands key (Some doc) gone = ap (λ b. cond b 0 (doc_blocks key doc)) gone

some_stands : (key : List ℕ) (doc : Doc) → standing_blocks key (Some doc) ≤ doc_blocks key doc
some_stands key doc = elim doc.deleted as (λ b. cond b 0 (doc_blocks key doc) ≤ doc_blocks key doc) [ true ↦ omega arith | false ↦ omega arith ]

-- an old document that is in memory takes what its node takes
standing_here : (e : Eviction) (mark : ℕ) (key : List ℕ) (doc : Option Doc) (slot : Slot) → is_away e (found slot) ≡ false → (slot ≡ None → IsGone e mark doc)
    → ((node : NodeData) → slot ≡ Some node → (d : Doc) × (doc ≡ Some d) × (node.key ≡ key) × IsShownValue d node.value)
    → standing_blocks key doc ≤ slot_blocks slot
standing_here Value mark key doc None here gone shows = let e = gone_stands mark key doc (gone refl) in omega arith
standing_here Full mark key doc None here gone shows = absurd (cc)
standing_here e mark key doc (Some node) here gone shows =
    let d = shows node refl in
    let same = ap (λ (o : Option Doc). standing_blocks key o) d.1 in
    let some = some_stands key d.0 in
    let there : blocks (length d.0.value) ≡ value_blocks node.value = at e d.0 node.value here d.3 in
    let keys : blocks (length node.key) ≡ blocks (length key) = ap (λ (k : List ℕ). blocks (length k)) d.2 in
    omega arith
  where
    at : (v : Eviction) (d : Doc) (value : Option (List ℕ)) → is_away v (found_value node.meta value) ≡ false → IsShownValue d value → blocks (length d.value) ≡ value_blocks value
    at Value d None here of = absurd (cc)
    at Full d None here of = absurd (cc)
    at v d (Some text) here of = ap (λ (t : List ℕ). blocks (length t)) (sym of)

module _ (f : FrontData) (stripe now : ℕ) (call : CallData) (key : List ℕ) (here : stripe_of key f.config.stripes ≡ stripe)
    (old : StripePart) (s : StripeStands f stripe old) (sound : IsStripe old.table) (told : (world_of f).told ≡ true) (serving : IsServing (world_of f)) where
  pins : pinned (world_of f) stripe (marked f stripe) key ≡ others_pinned old.table.eviction old.table.mark key old.table.slots
  pins = let frame = frame_after (begun f) f.events in pinned_is f stripe key old.table s.table (s.table.shown told) serving.opened sound.apart frame.stripes frame.eviction

  -- what there is of the key fits beside what can't be ejected
  pub own_fits : (n : ℕ) → n ≤ slot_blocks (node_at old.table.slots key) → pinned (world_of f) stripe (marked f stripe) key + n ≤ f.config.blocks
  own_fits n le =
      let p = pins in
      let some = others_pins old.table.eviction old.table.mark key old.table.slots in
      let split = split-of key old.table.slots (slot_of old.table.slots key) refl sound.apart in
      let room = sound.room in
      let size = s.table.blocks in
      omega arith

  same_old : old_blocks (world_of f) key call ≡ cond (needs f.config.eviction call && is_none (own_refusal (world_of f).fit call)) (standing_blocks key (get (world_of f).docs key)) 0
  same_old = ap (λ (e : Eviction). cond (needs e call && is_none (own_refusal (world_of f).fit call)) (standing_blocks key (get (world_of f).docs key)) 0) (frame_after (begun f) f.events).eviction

  -- a call that lacks nothing
  pub old_here : (needs old.table.eviction call && is_away old.table.eviction (found (node_at old.table.slots key))) ≡ false → old_blocks (world_of f) key call ≤ slot_blocks (node_at old.table.slots key)
  old_here has = at (needs f.config.eviction call) refl
    where
      none_le : (n : ℕ) → 0 ≤ n
      none_le n = omega arith

      at : (b : Bool) → needs f.config.eviction call ≡ b → old_blocks (world_of f) key call ≤ slot_blocks (node_at old.table.slots key)
      at false is =
          let e = same_old ∙ ap (λ b. cond (b && is_none (own_refusal (world_of f).fit call)) (standing_blocks key (get (world_of f).docs key)) 0) is in
          omega arith
      at true is =
          let t = s.table.shown told in
          let lacks : is_away f.config.eviction (found (node_at old.table.slots key)) ≡ false =
          ap (λ b. b && is_away f.config.eviction (found (node_at old.table.slots key))) (sym is) ∙ ap (λ (e : Eviction). needs e call && is_away e (found (node_at old.table.slots key))) (sym s.table.eviction) ∙ has in
          let stands = standing_here f.config.eviction (marked f stripe) key (get (world_of f).docs key) (node_at old.table.slots key) lacks (λ none-there. t.gone serving.opened key here none-there)
          (λ node there. let n = t.nodes key node there in (n.doc, n.found, keyed_at old.table.slots key node there, n.value)) in
          let e = same_old ∙ ap (λ b. cond (b && is_none (own_refusal (world_of f).fit call)) (standing_blocks key (get (world_of f).docs key)) 0) is in
          let le : cond (is_none (own_refusal (world_of f).fit call)) (standing_blocks key (get (world_of f).docs key)) 0 ≤ standing_blocks key (get (world_of f).docs key) =
          elim (is_none (own_refusal (world_of f).fit call)) as (λ b. cond b (standing_blocks key (get (world_of f).docs key)) 0 ≤ standing_blocks key (get (world_of f).docs key)) [ true ↦ omega arith | false ↦ omega arith ] in
          omega arith

  -- there is room for what a call needs
  pub short_by : (effect : Effect) → (answer (world_of f) call now).effect ≡ effect → pinned (world_of f) stripe (marked f stripe) key + max (blocks_if (put_by effect)) (old_blocks (world_of f) key call) ≤ f.config.blocks
      → is_overfull f (put_by effect) ≡ false → is_short f key call now ≡ false
  short_by effect is fits free =
      let needed : need (world_of f) key call now ≡ max (blocks_if (put_by effect)) (old_blocks (world_of f) key call) = ap (λ (e : Effect). max (blocks_if (put_by e)) (old_blocks (world_of f) key call)) is in
      let full : stripe_is_full f key call now ≡ false =
      ap (λ n. exceeds f.config.blocks (pinned (world_of f) n (marked f n) key) (need (world_of f) key call now)) here ∙ ap (λ n. exceeds f.config.blocks (pinned (world_of f) stripe (marked f stripe) key) n) needed
      ∙ fits_test (max (blocks_if (put_by effect)) (old_blocks (world_of f) key call)) (pinned (world_of f) stripe (marked f stripe) key) f.config.blocks fits in
      ap (λ b. b || is_overfull f (put_by (answer (world_of f) call now).effect)) full ∙ ap (λ (e : Effect). is_overfull f (put_by e)) is ∙ free

  -- a call that may put a document
  module _ (caller : ℕ) (written : written_key call ≡ Some key) (keyed : IsKey key) (legal : IsLegal f) (q : QueueData) (u : QueueStands f q) where
    -- whoever is answered by an effect or without one
    answered : (prior : Option Ticket) (a : Answer) (effect : Effect) → (answer (world_of f) call now).effect ≡ effect → IsRowEffect (shown_world old.table q) key now a effect
        → old_blocks (world_of f) key call ≤ slot_blocks (node_at old.table.slots key)
        → (reply : Reply) → (write_effect old q prior a effect).step ≡ steps.Done reply → is_short f key call now ≡ false
    answered prior a Nothing is does le reply came = short_by Nothing is (own_fits (max 0 (old_blocks (world_of f) key call)) (omega arith)) refl
    answered prior a (Puts other doc) is does le reply came =
        subst (λ (k : List ℕ). (answer (world_of f) call now).effect ≡ Puts k doc → (write_effect old q prior a (Puts k doc)).step ≡ steps.Done reply → is_short f key call now ≡ false) (sym does.same)
        (λ is' came'. at (lacks_room old.table q key (length doc.value)) refl is' came') is came
      where
        room : (m n : ℕ) → nat_lt m n ≡ false → n ≤ m
        room m n h = grind (arith, nat_tests)

        at : (b : Bool) → lacks_room old.table q key (length doc.value) ≡ b → (answer (world_of f) call now).effect ≡ Puts key doc → (write_put old prior a key doc b).step ≡ steps.Done reply → is_short f key call now ≡ false
        at true lacks is' came' = absurd (cc)
        at false lacks is' came' =
            let own = own_fits (old_blocks (world_of f) key call) le in
            let p = pins in
            let size = s.table.blocks in
            let fits = room (length old.table.slots) (others_pinned old.table.eviction old.table.mark key old.table.slots + doc_blocks key doc) (or_left (has_no_room old.table key (doc_blocks key doc)) (nat_lt q.blocks (kept_with q key (length doc.value))) lacks) in
            let held : nat_lt q.blocks (kept_with q key (length doc.value)) ≡ false = or_right (has_no_room old.table key (doc_blocks key doc)) (nat_lt q.blocks (kept_with q key (length doc.value))) lacks in
            short_by (Puts key doc) is' (omega arith) (short_is_overfull f q key doc told (does.seqno ∙ ap (λ n. n + 1) u.high) u ∙ held)
    answered prior a (Sets state) is does le reply came = absurd does

    over_answered : (prior : Option Ticket) (doc : Option Doc) → row_of (shown_world old.table q) call now (live_of doc now) ≡ answer (world_of f) call now
        → old_blocks (world_of f) key call ≤ slot_blocks (node_at old.table.slots key) → (reply : Reply) → (write_over old q prior call now doc).step ≡ steps.Done reply → is_short f key call now ≡ false
    over_answered prior doc same le reply came =
        let a : Answer = row_of (shown_world old.table q) call now (live_of doc now) in
        answered prior a a.effect (sym (ap (λ (x : Answer). x.effect) same)) (row_effect (shown_world old.table q) call now (live_of doc now) key written) le reply came

    -- a call that lacks what it needs
    waits_answered : (needed : needs old.table.eviction call ≡ true) (prior : Option Ticket) (outcome : Option Outcome) → prior_outcome old.book prior ≡ outcome → PriorsStand f caller call prior
        → (reply : Reply) → (write_waits old q prior call key now (waited_for old.table key prior outcome)).step ≡ steps.Done reply → is_short f key call now ≡ false
    waits_answered needed prior outcome is priors reply came = at prior outcome is priors came
      where
        of_key : key_of call ≡ Some key
        of_key = written_keyed call key written

        asks : (book : BookData) → ask_step book ≡ steps.Done reply → is_short f key call now ≡ false
        asks book asked = elim (is_full book) as (λ b. cond b steps.FetchFull (steps.Fetch (next_ticket book)) ≡ steps.Done reply → is_short f key call now ≡ false) [ true ↦ λ h. absurd (cc) | false ↦ λ h. absurd (cc) ] asked

        crowded : (ticket : Ticket) (own : Option ℕ) → own_refusal (shown_world old.table q).fit call ≡ own → (write_crowded old (Some ticket) own).step ≡ steps.Done reply → is_short f key call now ≡ false
        crowded ticket None own came' = absurd (cc)
        crowded ticket (Some status) own came' =
            let same = own_answer f stripe caller now call key written keyed legal here old q s u (Some ticket) sound serving.opened serving.active status own in
            let large : own_refusal (world_of f).fit call ≡ Some status = ap (λ n. own_refusal n call) (sym (fit_is f stripe caller now call key written keyed legal here old q s u)) ∙ own in
            let none : old_blocks (world_of f) key call ≡ 0 = ap (λ o. cond (needs (world_of f).eviction call && is_none o) (standing_blocks key (get (world_of f).docs key)) 0) large
            ∙ elim (needs (world_of f).eviction call) as (λ b. cond (b && false) (standing_blocks key (get (world_of f).docs key)) 0 ≡ 0) [ true ↦ refl | false ↦ refl ] in
            let fits = own_fits 0 (omega arith) in
            short_by Nothing (ap (λ (x : Answer). x.effect) same) (omega arith) refl

        at : (prior : Option Ticket) (outcome : Option Outcome) → prior_outcome old.book prior ≡ outcome → PriorsStand f caller call prior → (write_waits old q prior call key now (waited_for old.table key prior outcome)).step ≡ steps.Done reply → is_short f key call now ≡ false
        at None outcome is priors came = asks old.book came
        at (Some ticket) None is priors came = asks (release old.book (Some ticket)) came
        at (Some ticket) (Some outcomes.Waiting) is priors came = absurd (cc)
        at (Some ticket) (Some outcomes.Merged) is priors came = asks (release old.book (Some ticket)) came
        at (Some ticket) (Some outcomes.Absent) is priors came =
            let gone = prior_shows f stripe caller call key old ticket outcomes.Absent legal of_key s priors is told in
            let none = absent_stands key (get (world_of f).docs key) gone in
            let le : old_blocks (world_of f) key call ≤ standing_blocks key (get (world_of f).docs key) =
            elim (needs (world_of f).eviction call && is_none (own_refusal (world_of f).fit call)) as (λ b. cond b (standing_blocks key (get (world_of f).docs key)) 0 ≤ standing_blocks key (get (world_of f).docs key)) [ true ↦ omega arith | false ↦ omega arith ] in
            over_answered (Some ticket) None (absent_answer f stripe caller now call key written keyed legal here old q s u serving.active gone) (omega arith) reply came
        at (Some ticket) (Some (outcomes.Failed fault)) is priors came = absurd (cc)
        at (Some ticket) (Some outcomes.NoMemory) is priors came = absurd (cc)
        at (Some ticket) (Some (outcomes.NoRoom blocks)) is priors came =
            elim (has_no_room old.table key blocks) as (λ b. (write_waits old q (Some ticket) call key now (cond b (waits.Refused causes.Quota) waits.Asks)).step ≡ steps.Done reply → is_short f key call now ≡ false) [
              | true ↦ λ h. crowded ticket (own_refusal (shown_world old.table q).fit call) refl h
              | false ↦ λ h. asks (release old.book (Some ticket)) h
            ] came

-- A call that is answered had room for what it needs.
pub write_has_room : (old : StripePart) (q : QueueData) (call : CallData) (key : List ℕ) (now : ℕ) (prior : Option Ticket) → written_key call ≡ Some key → IsKey key → IsStripe old.table
    → stripe_of key old.table.stripes ≡ old.table.index → AnsweredHasRoom old q call key now prior (write_step old q prior call key now)
write_has_room old q call key now prior written keyed sound home f stripe caller reply legal s u priors told serving came =
    let here : stripe_of key f.config.stripes ≡ stripe = ap (λ n. stripe_of key n) (sym s.table.stripes) ∙ home ∙ s.table.index in
    let seen = found (node_at old.table.slots key) in
    let open_is : write_step old q prior call key now ≡ write_active old q prior call key now (state_refusal old.table.state true) =
    ap (λ b. cond b (write_active old q prior call key now (state_refusal old.table.state true)) (write_refused old prior causes.Warming Stays)) (s.table.opened ∙ serving.opened) in
    let none : state_refusal old.table.state true ≡ None = ap (λ (v : VbState). state_refusal v true) (s.table.state ∙ serving.active) in
    let found_is : write_step old q prior call key now ≡ write_found old q prior call key now seen = open_is ∙ ap (λ (o : Option ℕ). write_active old q prior call key now o) none in
    at (needs old.table.eviction call && is_away old.table.eviction seen) refl here (sym (ap (λ (w : Write). w.step) found_is) ∙ came)
  where
    at : (b : Bool) → (needs old.table.eviction call && is_away old.table.eviction (found (node_at old.table.slots key))) ≡ b → stripe_of key f.config.stripes ≡ stripe
        → (cond b (write_waits old q prior call key now (waited old.table old.book key prior)) (write_over old q prior call now (shown_doc (text_at old.table key) (seen_meta (found (node_at old.table.slots key)))))).step ≡ steps.Done reply
        → is_short f key call now ≡ false
    at true lacks here' came' =
        waits_answered f stripe now call key here' old s sound told serving caller written keyed legal q u (and_left (needs old.table.eviction call) (is_away old.table.eviction (found (node_at old.table.slots key))) lacks) prior (prior_outcome old.book prior) refl priors reply came'
    at false has here' came' =
        over_answered f stripe now call key here' old s sound told serving caller written keyed legal q u prior (shown_doc (text_at old.table key) (seen_meta (found (node_at old.table.slots key))))
        (seen_answer f stripe caller now call key written keyed legal here' old q s u serving.opened serving.active has told)
        (old_here f stripe now call key here' old s sound told serving has) reply came'
