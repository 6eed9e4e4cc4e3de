-- A call that may put a document comes to what its place and memory say.
use Rattle.std.proofs.Common.{◌≡◌, inl, inr, ℕ, ◌+◌, ◌<◌, ◌≤◌, Bool, true, false, cond, List, length, refl, sym, ap, subst, ◌∙◌, arith}
use Rattle.std.specs.Prelude.{Option, Some, None, IsSome, nat_lt, ◌&&◌}
use Rattle.std.proofs.lemmas.Bool.Decides.{nat_tests}
use Rattle.ep_model.specs.declared.call.VbState.{VbState}
use Rattle.ep_model.specs.declared.call.VbState.TheVariants.{Active}
use Rattle.ep_model.specs.declared.event.Cause.TheVariants as causes
use Rattle.ep_model.specs.declared.event.Ticket.{Ticket}
use Rattle.ep_model.specs.declared.data.CallData.{CallData}
use Rattle.ep_model.specs.declared.data.CallData.TheVariants as calls
use Rattle.ep_model.specs.World.{Doc, World, live_of, stored_expiry}
use Rattle.ep_model.specs.Calls.{written_key}
use Rattle.ep_model.specs.Needs.{needs, own_refusal}
use Rattle.ep_model.specs.Refusals.{state_refusal, store_refusal}
use Rattle.ep_model.specs.Answer.{Answer, Effect, Nothing, Puts, Sets, unless, cas_of, stores}
use Rattle.hash_stripe.specs.Nodes.{node_at, others_pinned}
use Rattle.hash_stripe.specs.Stripes.{found}
use Rattle.fetch_book.specs.declared.place.Outcome.{Outcome}
use Rattle.fetch_book.specs.declared.place.Outcome.TheVariants as outcomes
use Rattle.fetch_book.specs.Books.{is_full, next_ticket, asked}
use Rattle.ckpt_manager.specs.declared.data.QueueData.{QueueData}
use Rattle.vb_front.specs.declared.part.StripePart.{StripePart}
use Rattle.vb_front.specs.declared.step.Step.TheVariants as steps
use Rattle.vb_front.specs.declared.wait.Meaning.TheVariants as waits
use Rattle.vb_front.specs.Waits.{has_no_room, prior_outcome, waited_for, waited, release}
use Rattle.vb_front.specs.Reads.{IsUnserved}
use Rattle.vb_front.specs.Writes.{shown_world, seen_meta, shown_doc, text_at, is_away, row_of, Stays, Write, lacks_room, write_refused, write_put, write_effect, write_over, write_crowded, write_waits, write_active, write_step}
use Rattle.vb_front.specs.WriteSteps.{LacksDoc, IsCrowded, NeedsNoMore, doc_for, WriteComesTo, WriteFrees, WriteIsExact}
use Rattle.vb_front.proofs.AskLemmas.{and_left, and_right}
use Rattle.vb_front.proofs.ReadLemmas.{active_is}
use Rattle.vb_front.proofs.RowEffectLemmas.{IsRowEffect, row_effect}

no_room : (a b : ℕ) → nat_lt a b ≡ true → a < b
no_room a b is = grind (arith, nat_tests)

room : (a b : ℕ) → nat_lt a b ≡ false → b ≤ a
room a b is = grind (arith, nat_tests)

-- a call that is refused for its own document puts none
own_effect : (w : World) (call : CallData) (now status : ℕ) (live : Option Doc) → own_refusal w.fit call ≡ Some status → (row_of w call now live).effect ≡ Nothing
own_effect w (calls.Get k) now status live is = absurd (cc)
own_effect w (calls.Store kind k value flags expiration cas) now status live is =
    ap (λ o. (unless o (unless (store_refusal kind cas (cas_of live)) (stores w k value flags (stored_expiry expiration now) now))).effect) is
own_effect w (calls.Join front k value cas) now status live is = absurd (cc)
own_effect w (calls.Count down k delta initial expiration cas) now status live is = absurd (cc)
own_effect w (calls.Delete k cas) now status live is = absurd (cc)
own_effect w (calls.Touch k expiration fetch) now status live is = absurd (cc)
own_effect w (calls.Observe uuid) now status live is = absurd (cc)
own_effect w calls.Failovers now status live is = absurd (cc)
own_effect w (calls.SetState state) now status live is = absurd (cc)
own_effect w calls.GetState now status live is = absurd (cc)

module _ (old : StripePart) (q : QueueData) (call : CallData) (key : List ℕ) (now : ℕ) (written : written_key call ≡ Some key) where
  abbrev Exact : Option Ticket → Write → Type 0
  Exact prior w = WriteIsExact old q call key now prior w

  abbrev Served : Option Ticket → Type 0
  Served prior = LacksDoc old call key → NeedsNoMore old q call key (prior_outcome old.book prior)

  -- it is answered over the document that is meant
  effect_exact : (prior : Option Ticket) → old.table.opened ≡ true → old.table.state ≡ Active → Served prior → (a : Answer) (effect : Effect) → a.effect ≡ effect
      → a ≡ row_of (shown_world old.table q) call now (live_of (doc_for old call key) now) → IsRowEffect (shown_world old.table q) key now a effect
      → Exact prior (write_effect old q prior a effect)
  effect_exact prior opened active served a Nothing is same does = record {
    comes = record { opened = opened; served = served; room = λ l. let e : a.effect ≡ Puts key l.doc = ap (λ (x : Answer). x.effect) same ∙ l.puts in cc };
    freed = refl;
  }
  effect_exact prior opened active served a (Puts other doc) is same does =
      subst (λ (k : List ℕ). a.effect ≡ Puts k doc → Exact prior (write_effect old q prior a (Puts k doc))) (sym does.same) (λ is'. at (lacks_room old.table q key (length doc.value)) refl is') is
    where
      at : (b : Bool) → lacks_room old.table q key (length doc.value) ≡ b → a.effect ≡ Puts key doc → Exact prior (write_put old prior a key doc b)
      at true full is' = record {
        comes = inr (record { opened = opened; active = active; served = served; doc = doc; puts = ap (λ (x : Answer). x.effect) (sym same) ∙ is'; full = full });
        freed = refl;
      }
      at false fits is' = record {
        comes = record {
          opened = opened;
          served = served;
          room = λ l.
              let e : Puts key doc ≡ Puts key l.doc = sym is' ∙ ap (λ (x : Answer). x.effect) same ∙ l.puts in
              let d : doc ≡ l.doc = cc in
              let f : lacks_room old.table q key (length doc.value) ≡ true = ap (λ (x : Doc). lacks_room old.table q key (length x.value)) d ∙ l.full in
              cc;
        };
        freed = refl;
      }
  effect_exact prior opened active served a (Sets state) is same does = absurd does

  over_exact : (prior : Option Ticket) → old.table.opened ≡ true → old.table.state ≡ Active → Served prior → (doc : Option Doc) → doc ≡ doc_for old call key → Exact prior (write_over old q prior call now doc)
  over_exact prior opened active served doc same =
      let a : Answer = row_of (shown_world old.table q) call now (live_of doc now) in
      effect_exact prior opened active served a a.effect refl (ap (λ (o : Option Doc). row_of (shown_world old.table q) call now (live_of o now)) same)
      (row_effect (shown_world old.table q) call now (live_of doc now) key written)

  asks_exact : LacksDoc old call key → (prior : Option Ticket) → IsUnserved old.table key (prior_outcome old.book prior) → Exact prior (write_waits old q prior call key now waits.Asks)
  asks_exact lacks prior unserved = record { comes = comes; freed = freed }
    where
      comes : WriteComesTo old q call key now prior (cond (is_full (release old.book prior)) steps.FetchFull (steps.Fetch (next_ticket (release old.book prior)))) (cond (is_full (release old.book prior)) (release old.book prior) (asked (release old.book prior) key))
      comes = elim (is_full (release old.book prior)) as (λ b. is_full (release old.book prior) ≡ b → WriteComesTo old q call key now prior (cond b steps.FetchFull (steps.Fetch (next_ticket (release old.book prior)))) (cond b (release old.book prior) (asked (release old.book prior) key))) [
        | true ↦ λ is. record { lacks = lacks; unserved = unserved; full = is }
        | false ↦ λ is. inr (record { lacks = lacks; unserved = unserved; free = is; next = refl; book = refl })
      ] refl

      freed : WriteFrees old prior (cond (is_full (release old.book prior)) steps.FetchFull (steps.Fetch (next_ticket (release old.book prior)))) Stays (cond (is_full (release old.book prior)) (release old.book prior) (asked (release old.book prior) key))
      freed = elim (is_full (release old.book prior)) as (λ b. WriteFrees old prior (cond b steps.FetchFull (steps.Fetch (next_ticket (release old.book prior)))) Stays (cond b (release old.book prior) (asked (release old.book prior) key))) [ true ↦ refl | false ↦ tt ]

  -- what it lacks isn't seen
  lacks_none : LacksDoc old call key → None ≡ doc_for old call key
  lacks_none lacks =
      sym (ap (λ b. cond (b && is_away old.table.eviction (found (node_at old.table.slots key))) None (shown_doc (text_at old.table key) (seen_meta (found (node_at old.table.slots key))))) lacks.needed
      ∙ ap (λ b. cond b None (shown_doc (text_at old.table key) (seen_meta (found (node_at old.table.slots key))))) lacks.away)

  crowded_exact : LacksDoc old call key → (ticket : Ticket) (blocks : ℕ) → prior_outcome old.book (Some ticket) ≡ Some (outcomes.NoRoom blocks) → IsCrowded old key blocks
      → (own : Option ℕ) → own_refusal (shown_world old.table q).fit call ≡ own → Exact (Some ticket) (write_crowded old (Some ticket) own)
  crowded_exact lacks ticket blocks is full None own = record { comes = inl (record { lacks = lacks; blocks = blocks; outcome = is; crowded = full; own = own }); freed = refl }
  crowded_exact lacks ticket blocks is full (Some status) own = record {
    comes = record {
      opened = lacks.opened;
      served = λ l. subst (λ (o : Option Outcome). NeedsNoMore old q call key o) (sym is) (full, subst (λ (o : Option ℕ). IsSome o) (sym own) refl);
      room = λ l. let e = own_effect (shown_world old.table q) call now status (live_of (doc_for old call key) now) own in let p = l.puts in cc;
    };
    freed = refl;
  }

  waits_exact : LacksDoc old call key → (prior : Option Ticket) (outcome : Option Outcome) → prior_outcome old.book prior ≡ outcome
      → Exact prior (write_waits old q prior call key now (waited_for old.table key prior outcome))
  waits_exact lacks None outcome is = asks_exact lacks None tt
  waits_exact lacks (Some ticket) None is = asks_exact lacks (Some ticket) (subst (λ (o : Option Outcome). IsUnserved old.table key o) (sym is) tt)
  waits_exact lacks (Some ticket) (Some outcomes.Waiting) is = record { comes = inl (record { lacks = lacks; place = record { prior_is = refl; outcome_is = is }; book = refl }); freed = tt }
  waits_exact lacks (Some ticket) (Some outcomes.Merged) is = asks_exact lacks (Some ticket) (subst (λ (o : Option Outcome). IsUnserved old.table key o) (sym is) tt)
  waits_exact lacks (Some ticket) (Some outcomes.Absent) is =
      over_exact (Some ticket) lacks.opened lacks.active (λ l. subst (λ (o : Option Outcome). NeedsNoMore old q call key o) (sym is) tt) None (lacks_none lacks)
  waits_exact lacks (Some ticket) (Some (outcomes.Failed fault)) is = record { comes = record { lacks = lacks; fault = fault; place = record { prior_is = refl; outcome_is = is } }; freed = refl }
  waits_exact lacks (Some ticket) (Some outcomes.NoMemory) is = record { comes = record { lacks = lacks; place = record { prior_is = refl; outcome_is = is } }; freed = refl }
  waits_exact lacks (Some ticket) (Some (outcomes.NoRoom blocks)) is =
      elim (has_no_room old.table key blocks) as (λ b. has_no_room old.table key blocks ≡ b → Exact (Some ticket) (write_waits old q (Some ticket) call key now (cond b (waits.Refused causes.Quota) waits.Asks))) [
        | true ↦ λ full. crowded_exact lacks ticket blocks is (record { full = no_room (length old.table.slots) (others_pinned old.table.eviction old.table.mark key old.table.slots + blocks) full }) (own_refusal (shown_world old.table q).fit call) refl
        | false ↦ λ fits. asks_exact lacks (Some ticket) (subst (λ (o : Option Outcome). IsUnserved old.table key o) (sym is) (room (length old.table.slots) (others_pinned old.table.eviction old.table.mark key old.table.slots + blocks) fits))
      ] refl

  found_exact : (prior : Option Ticket) → old.table.opened ≡ true → old.table.state ≡ Active → (b : Bool) → (needs old.table.eviction call && is_away old.table.eviction (found (node_at old.table.slots key))) ≡ b
      → Exact prior (cond b (write_waits old q prior call key now (waited old.table old.book key prior)) (write_over old q prior call now (shown_doc (text_at old.table key) (seen_meta (found (node_at old.table.slots key))))))
  found_exact prior opened active true is =
      waits_exact (record {
        opened = opened;
        active = active;
        needed = and_left (needs old.table.eviction call) (is_away old.table.eviction (found (node_at old.table.slots key))) is;
        away = and_right (needs old.table.eviction call) (is_away old.table.eviction (found (node_at old.table.slots key))) is;
      }) prior (prior_outcome old.book prior) refl
  found_exact prior opened active false is =
      over_exact prior opened active (λ l. absurd (let e = ap (λ b. b && is_away old.table.eviction (found (node_at old.table.slots key))) l.needed ∙ l.away in cc)) (shown_doc (text_at old.table key) (seen_meta (found (node_at old.table.slots key))))
      (sym (ap (λ b. cond b None (shown_doc (text_at old.table key) (seen_meta (found (node_at old.table.slots key))))) is))

  active_exact : (prior : Option Ticket) (refusal : Option ℕ) → state_refusal old.table.state true ≡ refusal → old.table.opened ≡ true → Exact prior (write_active old q prior call key now refusal)
  active_exact prior None is opened = found_exact prior opened (active_is old.table.state is) (needs old.table.eviction call && is_away old.table.eviction (found (node_at old.table.slots key))) refl
  active_exact prior (Some status) is opened = record {
    comes = record {
      opened = opened;
      served = λ l. absurd (let e : state_refusal old.table.state true ≡ None = ap (λ (v : VbState). state_refusal v true) l.active in cc);
      room = λ l. let e : state_refusal old.table.state true ≡ None = ap (λ (v : VbState). state_refusal v true) l.active in cc;
    };
    freed = refl;
  }

  pub write_is_exact : (prior : Option Ticket) → WriteIsExact old q call key now prior (write_step old q prior call key now)
  write_is_exact prior = elim old.table.opened as (λ b. old.table.opened ≡ b → Exact prior (cond b (write_active old q prior call key now (state_refusal old.table.state true)) (write_refused old prior causes.Warming Stays))) [
    | true ↦ λ is. active_exact prior (state_refusal old.table.state true) refl is
    | false ↦ λ is. record { comes = is; freed = refl }
  ] refl
