-- A call that may put a document, on parts that stand: its event is legal, and the parts that it leaves stand behind it.
use Rattle.std.proofs.Common.{◌≡◌, ◌≢◌, ℕ, ◌+◌, ◌<◌, ◌≤◌, Bool, true, false, ◌||◌, cond, min, List, [], length, refl, sym, ap, subst, ◌∙◌, arith}
use Rattle.std.specs.Prelude.{Option, Some, None, is_some, ◌&&◌, nat_lt}
use Rattle.std.specs.FinMap.{get}
use Rattle.std.proofs.lemmas.List.{length-set}
use Rattle.std.proofs.lemmas.Bool.Decides.{nat_tests}
use Rattle.ep_model.specs.declared.call.VbState.{VbState}
use Rattle.ep_model.specs.declared.call.VbState.TheVariants.{Active}
use Rattle.ep_model.specs.declared.config.Eviction.{Eviction}
use Rattle.ep_model.specs.declared.config.Eviction.TheVariants.{Value, Full}
use Rattle.ep_model.specs.declared.event.Cause.{Cause}
use Rattle.ep_model.specs.declared.event.Cause.TheVariants as causes
use Rattle.ep_model.specs.declared.event.Ticket.{Ticket}
use Rattle.ep_model.specs.declared.data.CallData.{CallData}
use Rattle.ep_model.specs.declared.data.CallData.TheVariants as calls
use Rattle.ep_model.specs.declared.data.EventData.{EventData}
use Rattle.ep_model.specs.declared.data.EventData.TheVariants as events
use Rattle.ep_model.specs.declared.data.FrontData.{FrontData}
use Rattle.ep_model.specs.World.{Doc, World, blocks, doc_blocks, live, live_of, meta_of, doc_from, stamp, empty_world, stored_expiry}
use Rattle.ep_model.specs.Limits.{IsKey, IsWithin}
use Rattle.ep_model.specs.Stripes.{stripe_of}
use Rattle.ep_model.specs.Calls.{key_of, has_key, written_key}
use Rattle.ep_model.specs.Needs.{needs, own_refusal}
use Rattle.ep_model.specs.Refusals.{state_refusal, store_refusal}
use Rattle.ep_model.specs.Answer.{Answer, Effect, Nothing, Puts, Sets, unless, refused, cas_of, stores, answer_row, answer}
use Rattle.ep_model.specs.Mutations.{put_by, mutation_of}
use Rattle.ep_model.specs.Quota.{pinned, blocks_if, need, exceeds, is_overfull, is_short, stripe_is_full}
use Rattle.ep_model.specs.Front.{begun, world_of, with_event, marked}
use Rattle.ep_model.specs.Legal.{IsServing, IsUnused, Caused, MayCall, May, IsLegal}
use Rattle.hold_stage.proofs.ViewLemmas.{frame_after, or_true_left}
use Rattle.hold_stage.proofs.LaterLemmas.{world_step}
use Rattle.hold_stage.proofs.BoundLemmas.{marked_step}
use Rattle.hash_stripe.specs.Nodes.{NodeData, Slot, node_at, slot_for, with_slot, Restores}
use Rattle.hash_stripe.specs.Stripes.{StripeData, IsStripe, found, found_value}
use Rattle.hash_stripe.proofs.KeyLemmas.{restoring-keywise}
use Rattle.fetch_book.specs.declared.place.Outcome.{Outcome}
use Rattle.fetch_book.specs.declared.place.Outcome.TheVariants as outcomes
use Rattle.fetch_book.specs.declared.place.Place.{Place}
use Rattle.fetch_book.specs.Books.{BookData, is_full, next_ticket}
use Rattle.ckpt_manager.specs.declared.data.QueueData.{QueueData}
use Rattle.ckpt_manager.specs.Queue.{item_of, kept_with}
use Rattle.vb_front.specs.declared.part.StripePart.{StripePart}
use Rattle.vb_front.specs.declared.step.Step.{Step}
use Rattle.vb_front.specs.declared.step.Step.TheVariants as steps
use Rattle.vb_front.specs.declared.wait.Meaning.TheVariants as waits
use Rattle.vb_front.specs.Stands.{TableStands, BookStands, StripeStands, QueueStands, OutcomeShows}
use Rattle.vb_front.specs.Priors.{event_of, IsNext}
use Rattle.hold_stage.specs.Priors.{is_prior, PriorsStand}
use Rattle.vb_front.specs.Queues.{IsPutBy, PutsNothing}
use Rattle.vb_front.specs.Waits.{Away, value_memory, slot_memory, has_no_room, prior_outcome, waited_for, waited, release, ask_step, ask_book}
use Rattle.vb_front.specs.Writes.{shown_world, seen_meta, shown_doc, text_at, is_away, row_of, DocumentChange, Stays, Write, forget, write_done, write_refused, lacks_room, write_put, write_effect, write_over, write_crowded, write_waits, write_active, write_step, node_of, LeavesSlots, Queues, Leaves, WriteIsLegal}
use Rattle.vb_front.specs.Reads.{KeepsStripe}
use Rattle.vb_front.proofs.AskLemmas.{and_left, and_right, ticket_same, other_ticket}
use Rattle.vb_front.proofs.CalmLemmas.{calm_asked, queue_calm}
use Rattle.vb_front.proofs.WaitLemmas.{IsLeftBy, with_released, done_behind, refused_behind, asks_behind, prior_waits, prior_failed}
use Rattle.vb_front.proofs.PinLemmas.{pinned_is}
use Rattle.vb_front.proofs.QueueLemmas.{call_puts, puts_world, queue_takes, queue_answers, queue_refuses, queue_expels, nothing_done}
use Rattle.vb_front.proofs.KeptLemmas.{short_is_quota}
use Rattle.vb_front.proofs.ReadLemmas.{prior_shows, no_room_cause, active_is, absent_live}
use Rattle.vb_front.proofs.PutLemmas.{IsPutting, table_put, book_put}
use Rattle.vb_front.proofs.EjectLemmas.{others_length, ejected_table}
use Rattle.vb_front.proofs.SeenLemmas.{numbered, row_numbered, row_is, seen_row}
use Rattle.vb_front.proofs.RowEffectLemmas.{IsPutOf, IsRowEffect, row_effect}

-- what stands behind an event, or where there is none as it is
abbrev Behind : FrontData → Option EventData → (FrontData → Type 0) → Type 0
Behind f None stands = stands f
Behind f (Some event) stands = stands (with_event f event)

next_both : (f : FrontData) (e : Option EventData) (A B : FrontData → Type 0) → IsNext f e A → Behind f e B → IsNext f e (λ g. A g × B g)
next_both f None A B a b = (a, b)
next_both f (Some event) A B a b = (a.0, (a.1, b))

-- calls that write a key
pub written_keyed : (call : CallData) (key : List ℕ) → written_key call ≡ Some key → key_of call ≡ Some key
written_keyed (calls.Get k) key is = absurd (cc)
written_keyed (calls.Store kind k value flags expiration cas) key is = is
written_keyed (calls.Join front k value cas) key is = is
written_keyed (calls.Count down k delta initial expiration cas) key is = is
written_keyed (calls.Delete k cas) key is = is
written_keyed (calls.Touch k expiration fetch) key is = is
written_keyed (calls.Observe uuid) key is = is
written_keyed calls.Failovers key is = is
written_keyed (calls.SetState state) key is = is
written_keyed calls.GetState key is = is

sets_none : (call : CallData) (key : List ℕ) → written_key call ≡ Some key → (state : VbState) → call ≢ calls.SetState state
sets_none call key is state same = let e : None ≡ Some key = sym (ap written_key same) ∙ is in cc

pub within_key : (call : CallData) (key : List ℕ) → written_key call ≡ Some key → IsWithin call → IsKey key
within_key (calls.Get k) key is within = absurd (cc)
within_key (calls.Store kind k value flags expiration cas) key is within = subst IsKey (let e : k ≡ key = cc in e) within.0
within_key (calls.Join front k value cas) key is within = subst IsKey (let e : k ≡ key = cc in e) within.0
within_key (calls.Count down k delta initial expiration cas) key is within = subst IsKey (let e : k ≡ key = cc in e) within
within_key (calls.Delete k cas) key is within = subst IsKey (let e : k ≡ key = cc in e) within
within_key (calls.Touch k expiration fetch) key is within = subst IsKey (let e : k ≡ key = cc in e) within
within_key (calls.Observe uuid) key is within = absurd (cc)
within_key calls.Failovers key is within = absurd (cc)
within_key (calls.SetState state) key is within = absurd (cc)
within_key calls.GetState key is within = absurd (cc)

-- what is refused whatever the document is
own_row : (w : World) (call : CallData) (now status : ℕ) → own_refusal w.fit call ≡ Some status → answer_row w call now ≡ refused status
own_row w (calls.Get k) now status is = absurd (cc)
own_row w (calls.Store kind k value flags expiration cas) now status is = ap (λ o. unless o (unless (store_refusal kind cas (cas_of (live w k now))) (stores w k value flags (stored_expiry expiration now) now))) is
own_row w (calls.Join front k value cas) now status is = absurd (cc)
own_row w (calls.Count down k delta initial expiration cas) now status is = absurd (cc)
own_row w (calls.Delete k cas) now status is = absurd (cc)
own_row w (calls.Touch k expiration fetch) now status is = absurd (cc)
own_row w (calls.Observe uuid) now status is = absurd (cc)
own_row w calls.Failovers now status is = absurd (cc)
own_row w (calls.SetState state) now status is = absurd (cc)
own_row w calls.GetState now status is = absurd (cc)

-- what isn't in memory is away
away_memory : (e : Eviction) (slot : Slot) → is_away e (found slot) ≡ true → slot_memory e slot ≡ Away
away_memory Value None is = absurd (cc)
away_memory Full None is = refl
away_memory Value (Some node) is = at node.value is
  where
    at : (value : Option (List ℕ)) → is_away Value (found_value node.meta value) ≡ true → value_memory node value ≡ Away
    at None is = refl
    at (Some text) is = absurd (cc)
away_memory Full (Some node) is = at node.value is
  where
    at : (value : Option (List ℕ)) → is_away Full (found_value node.meta value) ≡ true → value_memory node value ≡ Away
    at None is = refl
    at (Some text) is = absurd (cc)

-- a placed node leaves as many slots
slot_length : (slots : List Slot) (o : Option ℕ) (content : Slot) → length (with_slot slots o content) ≡ length slots
slot_length slots None content = refl
slot_length slots (Some slot) content = length-set slots slot content

pub restored_length : (e : Eviction) (mark need : ℕ) (node : NodeData) (old new : List Slot) → Restores e mark need node old new → length new ≡ length old
restored_length e mark need node old new r =
    ap length r.puts ∙ slot_length r.room (slot_for r.room node.key) (Some node) ∙ others_length e mark node.key need old r.room r.ejects

-- a document with the number that it takes
pub item_doc : (key : List ℕ) (doc : Doc) (n : ℕ) → doc.seqno ≡ n → doc_from (item_of key (meta_of doc) doc.value n).meta doc.value ≡ doc
item_doc key doc n is = ap (λ m. record doc { seqno = m }) (sym is)

module _ (f : FrontData) (stripe caller now : ℕ) (call : CallData) (key : List ℕ) (written : written_key call ≡ Some key) (keyed : IsKey key) (legal : IsLegal f) (here : stripe_of key f.config.stripes ≡ stripe) where
  pub of_key : key_of call ≡ Some key
  of_key = written_keyed call key written

  of_some : has_key call ≡ true
  of_some = ap (λ (o : Option (List ℕ)). is_some o) of_key

  -- an active vBucket answers by the row
  pub row_answer : (world_of f).state ≡ Active → row_of (world_of f) call now (live (world_of f) key now) ≡ answer (world_of f) call now
  row_answer active =
      row_is (world_of f) call now key written ∙ sym (ap (λ (v : VbState). unless (state_refusal v (has_key call)) (answer_row (world_of f) call now)) active)

  module _ (old : StripePart) (q : QueueData) (s : StripeStands f stripe old) (u : QueueStands f q) where
    pub fit_is : (shown_world old.table q).fit ≡ (world_of f).fit
    fit_is =
        ap (λ n. min n q.blocks) s.table.blocks ∙ ap (λ n. min f.config.blocks n) u.blocks ∙ sym (frame_after (begun f) f.events).fit

    -- the row by the parts' numbers is that by the world's
    shown_row : (doc : Option Doc) → row_of (shown_world old.table q) call now doc ≡ row_of (world_of f) call now doc
    shown_row doc =
        ap (λ n. row_of (numbered n q.high q.maxcas q.table) call now doc) fit_is
        ∙ ap (λ n. row_of (numbered (world_of f).fit n q.maxcas q.table) call now doc) u.high
        ∙ ap (λ n. row_of (numbered (world_of f).fit (world_of f).high n q.table) call now doc) u.maxcas
        ∙ ap (λ (t : List (ℕ × ℕ)). row_of (numbered (world_of f).fit (world_of f).high (world_of f).maxcas t) call now doc) u.table
        ∙ sym (row_numbered (world_of f) call now doc key written)

    -- what memory shows to a call that lacks nothing
    pub seen_answer : (world_of f).opened ≡ true → (world_of f).state ≡ Active → (needs old.table.eviction call && is_away old.table.eviction (found (node_at old.table.slots key))) ≡ false
        → (world_of f).told ≡ true → row_of (shown_world old.table q) call now (live_of (shown_doc (text_at old.table key) (seen_meta (found (node_at old.table.slots key)))) now) ≡ answer (world_of f) call now
    seen_answer opened active has told =
        let t = s.table.shown told in
        shown_row (live_of (shown_doc (text_at old.table key) (seen_meta (found (node_at old.table.slots key)))) now)
        ∙ seen_row (world_of f) f.config.eviction (marked f stripe) call now key (get (world_of f).docs key) (node_at old.table.slots key) written
        (ap (λ (e : Eviction). needs e call && is_away e (found (node_at old.table.slots key))) (sym s.table.eviction) ∙ has)
        (λ none-there. t.gone opened key here none-there)
        (λ node there. let n = t.nodes key node there in (n.doc, n.found, n.meta, n.value))
        ∙ row_answer active

    -- and to one whose document the store doesn't have
    pub absent_answer : (world_of f).state ≡ Active → OutcomeShows f key outcomes.Absent → row_of (shown_world old.table q) call now None ≡ answer (world_of f) call now
    absent_answer active gone =
        shown_row None ∙ ap (λ (o : Option Doc). row_of (world_of f) call now o) (sym (absent_live now (get (world_of f).docs key) gone)) ∙ row_answer active

    -- The parts that are left: of the same memory, with these places.
    same_table : (new : StripeData) (change : DocumentChange) → change ≡ Stays → LeavesSlots old.table change new → new ≡ old.table
    same_table new change is left = let l = subst (λ (a : DocumentChange). LeavesSlots old.table a new) is left in l.rest ∙ ap (λ (x : List Slot). record old.table { slots = x }) l.slots

    part_is : (new : StripePart) (table : StripeData) (book : BookData) → new.table ≡ table → new.book ≡ book → record { table = table; book = book } ≡ new
    part_is new table book t b = sym (ap (λ x. record { table = x; book = new.book }) t ∙ ap (λ x. record { table = table; book = x }) b)

    stays_next : (e : Option EventData) (step : Step) (value : List ℕ) (book : BookData) (new : StripePart) (after : QueueData) → Leaves old q (record { step = step; value = value; book = book; change = Stays }) new after
        → IsNext f e (λ g. StripeStands g stripe (record old { book = book })) → Behind f e (λ g. QueueStands g q)
        → IsNext f e (λ g. StripeStands g stripe new × QueueStands g after)
    stays_next e step value book new after left stands queue =
        next_both f e (λ g. StripeStands g stripe new) (λ g. QueueStands g after)
        (subst (λ (x : StripePart). IsNext f e (λ g. StripeStands g stripe x)) (part_is new old.table book (same_table new.table Stays refl left.table) left.book) stands)
        (subst (λ (x : QueueData). Behind f e (λ g. QueueStands g x)) (sym left.queue) queue)

    -- it is answered without an effect
    done_next : (prior : Option Ticket) (a : Answer) (new : StripePart) (after : QueueData) → (world_of f).opened ≡ true
        → ((world_of f).told ≡ false → a.reply.seqno ≡ 0) → ((world_of f).told ≡ true → (a.reply ≡ (answer (world_of f) call now).reply) × (a.value ≡ (answer (world_of f) call now).value) × ((answer (world_of f) call now).effect ≡ Nothing))
        → Leaves old q (write_done old prior a) new after
        → IsNext f (event_of caller call now prior (write_done old prior a).step (write_done old prior a).value) (λ g. StripeStands g stripe new × QueueStands g after)
    done_next prior a new after opened seen shown left =
        let nothing : PutsNothing f call now a.reply = record { stays = sets_none call key written; seen = seen; shown = λ told. (shown told).2 } in
        stays_next (event_of caller call now prior (steps.Done a.reply) a.value) (steps.Done a.reply) a.value (release old.book prior) new after left
        (done_behind f stripe old s caller call now prior a.reply a.value (record {
          opened = opened;
          reply_is = λ told. (shown told).0;
          value_is = λ told. (shown told).1;
        }) (nothing_done f call now a.reply nothing))
        (queue_answers f caller call now a.reply a.value q nothing u)

    -- it is refused, and nothing is done to the documents
    refused_next : (prior : Option Ticket) (cause : Cause) (new : StripePart) (after : QueueData) → Caused f caller call now cause
        → ((place : Place) → IsLeftBy prior place → IsUnused place.ticket (events.Refused caller call now cause))
        → Leaves old q (write_refused old prior cause Stays) new after
        → IsNext f (event_of caller call now prior (write_refused old prior cause Stays).step (write_refused old prior cause Stays).value) (λ g. StripeStands g stripe new × QueueStands g after)
    refused_next prior cause new after caused unused left =
        stays_next (event_of caller call now prior (steps.Refused cause) []) (steps.Refused cause) [] (release old.book prior) new after left
        (refused_behind f stripe old s caller call now prior cause caused unused)
        (queue_refuses f caller call now cause q u)

    -- the document that a call puts by its answer
    module _ (prior : Option Ticket) (a : Answer) (doc : Doc) (sound : IsStripe old.table) (opened : (world_of f).opened ≡ true) (active : (world_of f).state ≡ Active) (p : IsPutOf (shown_world old.table q) key now a key doc)
        (shown : (world_of f).told ≡ true → a ≡ answer (world_of f) call now) (effect : a.effect ≡ Puts key doc) where
      serving : IsServing (world_of f)
      serving = record { opened = opened; active = active }

      number : doc.seqno ≡ (world_of f).high + 1
      number = p.seqno ∙ ap (λ n. n + 1) u.high

      puts_told : (world_of f).told ≡ true → (answer (world_of f) call now).effect ≡ Puts key doc
      puts_told told = sym (ap (λ (x : Answer). x.effect) (shown told)) ∙ effect

      item_told : (world_of f).told ≡ true → (answer (world_of f) call now).effect ≡ Puts key (doc_from (item_of key (meta_of doc) doc.value ((world_of f).high + 1)).meta doc.value)
      item_told told = puts_told told ∙ ap (λ (d : Doc). Puts key d) (sym (item_doc key doc ((world_of f).high + 1) number))

      put_by_call : IsPutBy f call now a.reply key (meta_of doc) doc.value
      put_by_call = record {
        written = written;
        cas = p.cas ∙ ap (λ n. stamp (record (empty_world 0 0) { maxcas = n }) now) u.maxcas;
        seen = λ untold zero. absurd (let e = p.seen in let n = number in omega arith);
        shown = item_told;
      }

      -- the stripe lacks room
      stripe_short : has_no_room old.table key (doc_blocks key doc) ≡ true → (world_of f).told ≡ true → is_short f key call now ≡ true
      stripe_short full told =
          let frame = frame_after (begun f) f.events in
          let pins = pinned_is f stripe key old.table s.table (s.table.shown told) opened sound.apart frame.stripes frame.eviction in
          let size = s.table.blocks in
          let new : blocks_if (put_by (answer (world_of f) call now).effect) ≡ doc_blocks key doc = ap (λ (e : Effect). blocks_if (put_by e)) (puts_told told) in
          let taken : 1 ≤ doc_blocks key doc = takes_block (length key) keyed.0 (blocks (length doc.value)) in
          let over : exceeds f.config.blocks (pinned (world_of f) stripe (marked f stripe) key) (need (world_of f) key call now) ≡ true = grind (arith, nat_tests) in
          or_true_left (stripe_is_full f key call now) (is_overfull f (put_by (answer (world_of f) call now).effect))
          (ap (λ n. exceeds f.config.blocks (pinned (world_of f) n (marked f n) key) (need (world_of f) key call now)) here ∙ over)
        where
          takes_block : (n : ℕ) → 1 ≤ n → (m : ℕ) → 1 ≤ blocks n + m
          takes_block n some m = omega arith

      quota : lacks_room old.table q key (length doc.value) ≡ true → Caused f caller call now causes.Quota
      quota lacks = at (has_no_room old.table key (doc_blocks key doc)) refl
        where
          lower : (m n : ℕ) → nat_lt m n ≡ true → m < n
          lower m n is = grind (arith, nat_tests)

          at : (b : Bool) → has_no_room old.table key (doc_blocks key doc) ≡ b → Caused f caller call now causes.Quota
          at true full = record { serving = serving; key = key; keyed = of_key; short = stripe_short full }
          at false fits =
              let over : nat_lt q.blocks (kept_with q key (length doc.value)) ≡ true = sym (ap (λ b. b || nat_lt q.blocks (kept_with q key (length doc.value))) fits) ∙ lacks in
              short_is_quota f caller call now q key (meta_of doc) doc.value serving of_key item_told (lower q.blocks (kept_with q key (length doc.value)) over) u

      -- the parts behind a document for which there is no room
      crowded_next : (new : StripePart) (after : QueueData) → lacks_room old.table q key (length doc.value) ≡ true
          → Leaves old q (write_put old prior a key doc true) new after
          → IsNext f (event_of caller call now prior (write_put old prior a key doc true).step (write_put old prior a key doc true).value) (λ g. StripeStands g stripe new × QueueStands g after)
      crowded_next new after lacks left =
          let table : TableStands f stripe new.table = subst (λ (t : StripeData). TableStands f stripe t) (sym left.table.rest) (ejected_table f stripe key (doc_blocks key doc) old.table new.table.slots sound left.table.slots s.table) in
          let part : StripePart = record { table = new.table; book = old.book } in
          let stands : StripeStands f stripe part = record { there = s.there; table = table; book = s.book } in
          let e = event_of caller call now prior (steps.Refused causes.Quota) [] in
          next_both f e (λ g. StripeStands g stripe new) (λ g. QueueStands g after)
          (subst (λ (b : BookData). IsNext f e (λ g. StripeStands g stripe (record { table = new.table; book = b }))) (sym left.book)
          (refused_behind f stripe part stands caller call now prior causes.Quota (quota lacks) (λ place by. (λ is. cc, λ is. cc))))
          (queue_refuses f caller call now causes.Quota after (queue_expels f q after left.queue.expelled u))

      -- the parts behind the document
      abbrev event : EventData
      event = events.Called caller call now a.reply a.value

      done_may : MayCall (world_of f) call now a.reply a.value
      done_may = record {
        opened = opened;
        reply_is = λ told. ap (λ (x : Answer). x.reply) (shown told);
        value_is = λ told. ap (λ (x : Answer). x.value) (shown told);
      }

      put_doc : (d : Doc) × (mutation_of (world_of f) event ≡ Some (key, d)) × ((meta_of doc).cas ≡ d.cas) × ((world_of f).told ≡ true → doc_from (item_of key (meta_of doc) doc.value ((world_of f).high + 1)).meta doc.value ≡ d)
      put_doc = call_puts f caller call now a.reply a.value key (meta_of doc) doc.value put_by_call

      putting : IsPutting f event key put_doc.0
      putting = record {
        world = world_step f event ∙ puts_world (world_of f) event key put_doc.0 put_doc.1;
        puts = put_doc.1;
        mark = λ n. marked_step f event n;
      }

      doc_told : (world_of f).told ≡ true → doc ≡ put_doc.0
      doc_told told = sym (item_doc key doc ((world_of f).high + 1) number) ∙ put_doc.3 told

      put_table : (new : StripeData) → Restores old.table.eviction old.table.mark (doc_blocks key doc) (node_of key doc) old.table.slots new.slots → new ≡ record old.table { slots = new.slots }
          → TableStands (with_event f event) stripe new
      put_table new restores rest =
          let r = restoring-keywise old.table (node_of key doc) new.slots sound keyed.0 restores in
          subst (λ (t : StripeData). TableStands (with_event f event) stripe t) (sym rest)
          (table_put f stripe event key put_doc.0 putting here old.table new.slots (node_of key doc) doc.value refl (record {
            there = r.there;
            left = r.rest;
            size = restored_length old.table.eviction old.table.mark (doc_blocks key doc) (node_of key doc) old.table.slots new.slots restores;
          }) s.table (λ told. (ap meta_of (doc_told told), ap (λ (d : Doc). d.value) (doc_told told))))

      put_book : BookStands (with_event f event) stripe (forget (release old.book prior) key)
      put_book = book_put f stripe event key put_doc.0 putting here (release old.book prior) (λ ticket. (tt, tt)) tt (with_released f stripe old s prior).book

      put_queue : (after : QueueData) → Queues q key doc after → QueueStands (with_event f event) after
      put_queue after left =
          subst (λ (x : QueueData). QueueStands (with_event f event) x) (sym left.after)
          (queue_takes f caller call now a.reply a.value left.room key (meta_of doc) doc.value put_by_call (queue_expels f q left.room left.expelled u))

      put_next : (new : StripePart) (after : QueueData) → Leaves old q (write_put old prior a key doc false) new after
          → IsNext f (event_of caller call now prior (write_put old prior a key doc false).step (write_put old prior a key doc false).value) (λ g. StripeStands g stripe new × QueueStands g after)
      unfolding May
      put_next new after left = (
        done_may,
        (
          record {
            there = s.there;
            table = put_table new.table left.table.slots left.table.rest;
            book = subst (λ (b : BookData). BookStands (with_event f event) stripe b) (sym left.book) put_book;
          },
          put_queue after left.queue,
        ),
      )

      room_next : (new : StripePart) (after : QueueData) (lacks : Bool) → lacks_room old.table q key (length doc.value) ≡ lacks → Leaves old q (write_put old prior a key doc lacks) new after
          → IsNext f (event_of caller call now prior (write_put old prior a key doc lacks).step (write_put old prior a key doc lacks).value) (λ g. StripeStands g stripe new × QueueStands g after)
      room_next new after true is left = crowded_next new after is left
      room_next new after false is left = put_next new after left

    -- what is answered over a document
    module _ (prior : Option Ticket) (sound : IsStripe old.table) (opened : (world_of f).opened ≡ true) (active : (world_of f).state ≡ Active) where
      answer_next : (a : Answer) (effect : Effect) (new : StripePart) (after : QueueData) → a.effect ≡ effect → IsRowEffect (shown_world old.table q) key now a effect
          → ((world_of f).told ≡ true → a ≡ answer (world_of f) call now) → Leaves old q (write_effect old q prior a effect) new after
          → IsNext f (event_of caller call now prior (write_effect old q prior a effect).step (write_effect old q prior a effect).value) (λ g. StripeStands g stripe new × QueueStands g after)
      answer_next a Nothing new after is does shown left =
          done_next prior a new after opened (λ untold. does) (λ told. (
            ap (λ (x : Answer). x.reply) (shown told),
            ap (λ (x : Answer). x.value) (shown told),
            sym (ap (λ (x : Answer). x.effect) (shown told)) ∙ is,
          )) left
      answer_next a (Puts other doc) new after is does shown left =
          subst (λ (k : List ℕ). (a.effect ≡ Puts k doc) → IsPutOf (shown_world old.table q) key now a k doc → Leaves old q (write_effect old q prior a (Puts k doc)) new after
          → IsNext f (event_of caller call now prior (write_effect old q prior a (Puts k doc)).step (write_effect old q prior a (Puts k doc)).value) (λ g. StripeStands g stripe new × QueueStands g after)) (sym does.same)
          (λ is' does' left'. room_next prior a doc sound opened active does' shown is' new after (lacks_room old.table q key (length doc.value)) refl left')
          is does left
      answer_next a (Sets state) new after is does shown left = absurd does

      over_next : (doc : Option Doc) (new : StripePart) (after : QueueData) → ((world_of f).told ≡ true → row_of (shown_world old.table q) call now (live_of doc now) ≡ answer (world_of f) call now)
          → Leaves old q (write_over old q prior call now doc) new after
          → IsNext f (event_of caller call now prior (write_over old q prior call now doc).step (write_over old q prior call now doc).value) (λ g. StripeStands g stripe new × QueueStands g after)
      over_next doc new after shown left =
          let a : Answer = row_of (shown_world old.table q) call now (live_of doc now) in
          answer_next a a.effect new after refl (row_effect (shown_world old.table q) call now (live_of doc now) key written) shown left

      pub own_answer : (status : ℕ) → own_refusal (shown_world old.table q).fit call ≡ Some status → answer (world_of f) call now ≡ refused status
      own_answer status own = sym (row_answer active) ∙ row_is (world_of f) call now key written ∙ own_row (world_of f) call now status (ap (λ n. own_refusal n call) (sym fit_is) ∙ own)

      -- a refusal of its own
      own_next : (status : ℕ) (new : StripePart) (after : QueueData) → own_refusal (shown_world old.table q).fit call ≡ Some status → Leaves old q (write_done old prior (refused status)) new after
          → IsNext f (event_of caller call now prior (steps.Done (refused status).reply) []) (λ g. StripeStands g stripe new × QueueStands g after)
      own_next status new after own left =
          let same = own_answer status own in
          done_next prior (refused status) new after opened (λ untold. refl) (λ told. (
            sym (ap (λ (x : Answer). x.reply) same),
            sym (ap (λ (x : Answer). x.value) same),
            ap (λ (x : Answer). x.effect) same,
          )) left

      -- A call that lacks what it needs, by what became of the read that it asked for before.
      module _ (needed : needs old.table.eviction call ≡ true) (away : is_away old.table.eviction (found (node_at old.table.slots key)) ≡ true) where
        needed_here : needs f.config.eviction call ≡ true
        needed_here = ap (λ (e : Eviction). needs e call) (sym s.table.eviction) ∙ needed

        asked_queue : (ticket : Ticket) → Behind f (event_of caller call now prior (steps.Fetch ticket) []) (λ g. QueueStands g q)
        asked_queue ticket =
            elim (is_prior prior ticket) as (λ b. Behind f (cond b None (Some (events.Asked ticket caller call))) (λ g. QueueStands g q)) [
              | true ↦ u
              | false ↦ queue_calm f (events.Asked ticket caller call) q (calm_asked f ticket caller call) u
            ]

        asks_queue : (book : BookData) → Behind f (event_of caller call now prior (ask_step book) []) (λ g. QueueStands g q)
        asks_queue book =
            elim (is_full book) as (λ b. Behind f (event_of caller call now prior (cond b steps.FetchFull (steps.Fetch (next_ticket book))) []) (λ g. QueueStands g q)) [
              | true ↦ u
              | false ↦ asked_queue (next_ticket book)
            ]

        asks_next : PriorsStand f caller call prior → (new : StripePart) (after : QueueData) → Leaves old q (write_waits old q prior call key now waits.Asks) new after
            → IsNext f (event_of caller call now prior (ask_step (release old.book prior)) []) (λ g. StripeStands g stripe new × QueueStands g after)
        asks_next priors new after left =
            stays_next (event_of caller call now prior (ask_step (release old.book prior)) []) (ask_step (release old.book prior)) [] (ask_book (release old.book prior) key) new after left
            (asks_behind f stripe caller now call key (record old { book = release old.book prior }) legal of_key needed_here here opened active (away_memory old.table.eviction (node_at old.table.slots key) away) (with_released f stripe old s prior) prior priors)
            (asks_queue (release old.book prior))

    -- by what became of the read, for each ticket at which it asked
    module _ (sound : IsStripe old.table) (opened : (world_of f).opened ≡ true) (active : (world_of f).state ≡ Active) (needed : needs old.table.eviction call ≡ true) (away : is_away old.table.eviction (found (node_at old.table.slots key)) ≡ true) where
      served : IsServing (world_of f)
      served = record { opened = opened; active = active }

      -- what such a call comes to, and leaves
      abbrev Goes : Option Ticket → Write → Type 0
      Goes prior w =
          (new : StripePart) (after : QueueData) → Leaves old q w new after
          → IsNext f (event_of caller call now prior w.step w.value) (λ g. StripeStands g stripe new × QueueStands g after)

      no_room_goes : (ticket : Ticket) (blocks : ℕ) → prior_outcome old.book (Some ticket) ≡ Some (outcomes.NoRoom blocks) → PriorsStand f caller call (Some ticket) → has_no_room old.table key blocks ≡ true
          → (own : Option ℕ) → own_refusal (shown_world old.table q).fit call ≡ own → Goes (Some ticket) (write_crowded old (Some ticket) own)
      no_room_goes ticket blocks is priors full None own new after left =
          refused_next (Some ticket) causes.Quota new after (record {
            serving = served;
            key = key;
            keyed = of_key;
            short = λ told. no_room_cause f stripe call now key old blocks keyed here sound.apart opened (ap (λ (e : Eviction). needs e call) (sym s.table.eviction) ∙ needed) (ap (λ n. own_refusal n call) (sym fit_is) ∙ own) s
                (prior_shows f stripe caller call key old ticket (outcomes.NoRoom blocks) legal of_key s priors is told) told full;
          }) (λ place by. (λ same. cc, λ same. cc)) left
      no_room_goes ticket blocks is priors full (Some status) own new after left = own_next (Some ticket) sound opened active status new after own left

      waits_goes : (prior : Option Ticket) (outcome : Option Outcome) → prior_outcome old.book prior ≡ outcome → PriorsStand f caller call prior
          → Goes prior (write_waits old q prior call key now (waited_for old.table key prior outcome))
      waits_goes None outcome is priors new after left = asks_next None sound opened active needed away priors new after left
      waits_goes (Some ticket) None is priors new after left = asks_next (Some ticket) sound opened active needed away priors new after left
      waits_goes (Some ticket) (Some outcomes.Waiting) is priors new after left =
          subst (λ b. IsNext f (cond b None (Some (events.Asked ticket caller call))) (λ g. StripeStands g stripe new × QueueStands g after)) (sym (ticket_same ticket ticket refl))
          (stays_next None (steps.Fetch ticket) [] old.book new after left s u)
      waits_goes (Some ticket) (Some outcomes.Merged) is priors new after left = asks_next (Some ticket) sound opened active needed away priors new after left
      waits_goes (Some ticket) (Some outcomes.Absent) is priors new after left =
          over_next (Some ticket) sound opened active None new after
          (λ told. absent_answer active (prior_shows f stripe caller call key old ticket outcomes.Absent legal of_key s priors is told)) left
      waits_goes (Some ticket) (Some (outcomes.Failed fault)) is priors new after left =
          refused_next (Some ticket) (causes.Store ticket) new after (record {
            serving = served;
            keyed = of_some;
            waits = prior_waits f stripe caller call old s ticket (outcomes.Failed fault) is priors;
            fault = fault;
            failed = prior_failed f stripe caller call old s ticket fault is;
          }) (λ place by. (λ same. other_ticket ticket place by (let e : ticket ≡ place.ticket = cc in e), λ same. cc)) left
      waits_goes (Some ticket) (Some outcomes.NoMemory) is priors new after left =
          refused_next (Some ticket) (causes.Memory ticket) new after (record {
            serving = served;
            keyed = of_some;
            waits = prior_waits f stripe caller call old s ticket outcomes.NoMemory is priors;
          }) (λ place by. (λ same. cc, λ same. other_ticket ticket place by (let e : ticket ≡ place.ticket = cc in e))) left
      waits_goes (Some ticket) (Some (outcomes.NoRoom blocks)) is priors new after left =
          (elim (has_no_room old.table key blocks) as (λ b. has_no_room old.table key blocks ≡ b → Goes (Some ticket) (write_waits old q (Some ticket) call key now (cond b (waits.Refused causes.Quota) waits.Asks))) [
            | true ↦ λ full. no_room_goes ticket blocks is priors full (own_refusal (shown_world old.table q).fit call) refl
            | false ↦ λ fits. asks_next (Some ticket) sound opened active needed away priors
          ]) refl new after left

    -- so it is with the call as a whole
    module _ (sound : IsStripe old.table) (prior : Option Ticket) (priors : PriorsStand f caller call prior) where
      abbrev Next : Write → Type 0
      Next w =
          (new : StripePart) (after : QueueData) → Leaves old q w new after
          → IsNext f (event_of caller call now prior w.step w.value) (λ g. StripeStands g stripe new × QueueStands g after)

      found_goes : (world_of f).opened ≡ true → (world_of f).state ≡ Active → (b : Bool) → (needs old.table.eviction call && is_away old.table.eviction (found (node_at old.table.slots key))) ≡ b
          → Next (cond b (write_waits old q prior call key now (waited old.table old.book key prior)) (write_over old q prior call now (shown_doc (text_at old.table key) (seen_meta (found (node_at old.table.slots key))))))
      found_goes opened active true lacks =
          waits_goes sound opened active (and_left (needs old.table.eviction call) (is_away old.table.eviction (found (node_at old.table.slots key))) lacks) (and_right (needs old.table.eviction call) (is_away old.table.eviction (found (node_at old.table.slots key))) lacks)
          prior (prior_outcome old.book prior) refl priors
      found_goes opened active false has = λ new after left.
          over_next prior sound opened active (shown_doc (text_at old.table key) (seen_meta (found (node_at old.table.slots key)))) new after (seen_answer opened active has) left

      active_goes : (world_of f).opened ≡ true → (refusal : Option ℕ) → state_refusal old.table.state true ≡ refusal → Next (write_active old q prior call key now refusal)
      active_goes opened None is = found_goes opened (active_is (world_of f).state (ap (λ (v : VbState). state_refusal v true) (sym s.table.state) ∙ is)) (needs old.table.eviction call && is_away old.table.eviction (found (node_at old.table.slots key))) refl
      active_goes opened (Some status) is = λ new after left.
          let refuses : state_refusal (world_of f).state (has_key call) ≡ Some status = ap (λ b. state_refusal (world_of f).state b) of_some ∙ ap (λ (v : VbState). state_refusal v true) (sym s.table.state) ∙ is in
          let same : answer (world_of f) call now ≡ refused status = ap (λ o. unless o (answer_row (world_of f) call now)) refuses in
          done_next prior (refused status) new after opened (λ untold. refl) (λ told. (
            sym (ap (λ (x : Answer). x.reply) same),
            sym (ap (λ (x : Answer). x.value) same),
            ap (λ (x : Answer). x.effect) same,
          )) left

      step_goes : Next (write_step old q prior call key now)
      step_goes = elim old.table.opened as (λ b. old.table.opened ≡ b → Next (cond b (write_active old q prior call key now (state_refusal old.table.state true)) (write_refused old prior causes.Warming Stays))) [
        | true ↦ λ is. active_goes (sym s.table.opened ∙ is) (state_refusal old.table.state true) refl
        | false ↦ λ is new after left. refused_next prior causes.Warming new after (sym s.table.opened ∙ is) (λ place by. (λ same. cc, λ same. cc)) left
      ] refl

-- Whatever history the parts stood for, what a call comes to that may put a document is legal, and it leaves parts that stand.
pub write_is_legal : (old : StripePart) (q : QueueData) (call : CallData) (key : List ℕ) (now : ℕ) (prior : Option Ticket) (new : StripePart) (after : QueueData) → written_key call ≡ Some key → IsKey key → IsStripe old.table
    → stripe_of key old.table.stripes ≡ old.table.index → Leaves old q (write_step old q prior call key now) new after → WriteIsLegal old q call key now prior (write_step old q prior call key now) new after
write_is_legal old q call key now prior new after written keyed sound home left f stripe caller legal s u priors =
    let here : stripe_of key f.config.stripes ≡ stripe = ap (λ n. stripe_of key n) (sym s.table.stripes) ∙ home ∙ s.table.index in
    step_goes f stripe caller now call key written keyed legal here old q s u sound prior priors new after left

-- It leaves its stripe that stripe.
pub write_keeps : (old : StripePart) (q : QueueData) (w : Write) (new : StripePart) (after : QueueData) → Leaves old q w new after → KeepsStripe old new
write_keeps old q w new after left = record { index = ap (λ (t : StripeData). t.index) left.table.rest; stripes = ap (λ (t : StripeData). t.stripes) left.table.rest }
