-- A Set on a stripe and a queue that stand: its event is legal, and both stand behind it.
use Rattle.std.proofs.Common.{◌≡◌, ◌≢◌, ◌<◌, ℕ, ◌+◌, Bool, true, false, cond, List, [], ◌∷◌, ◌++◌, length, refl, sym, ap, subst, ◌∙◌, arith, append-nil}
use Rattle.std.specs.Prelude.{Option, Some, None, ◌==◌, ◌||◌, ◌&&◌, not, nat_lt, option_to_list}
use Rattle.std.specs.List.{AllByRecursion}
use Rattle.std.specs.FinMap.{get, get-empty}
use Rattle.std.specs.Str.{bytes_eq}
use Rattle.std.specs.Ordering.{nat_cmp}
use Rattle.std.specs.Cmp.Lexicographic.{slice_cmp}
use Rattle.std.proofs.lemmas.List.{map-append}
use Rattle.std.proofs.lemmas.List.Elements.{filter-append}
use Rattle.std.proofs.lemmas.Slice.Eq.{bytes_eq-Decides}
use Rattle.std.proofs.lemmas.Bool.Decides.{nat_tests}
use Rattle.ep_model.specs.declared.call.Meta.{Meta}
use Rattle.ep_model.specs.declared.call.Reply.{Reply}
use Rattle.ep_model.specs.declared.call.StoreKind.TheVariants.{Set}
use Rattle.ep_model.specs.declared.event.Cause.TheVariants as causes
use Rattle.ep_model.specs.declared.event.Ticket.{Ticket}
use Rattle.ep_model.specs.declared.data.CallData.{CallData}
use Rattle.ep_model.specs.declared.data.CallData.TheVariants as calls
use Rattle.ep_model.specs.declared.data.EventData.{EventData}
use Rattle.ep_model.specs.declared.data.EventData.TheVariants as events
use Rattle.ep_model.specs.declared.data.FrontData.{FrontData}
use Rattle.ep_model.specs.Config.{fit_of}
use Rattle.ep_model.specs.World.{Doc, World, empty_world, live, live_of, is_live, secs, stored_expiry, doc_from, uuid_of}
use Rattle.ep_model.specs.Stripes.{stripe_of}
use Rattle.ep_model.specs.Refusals.{state_refusal, size_refusal, store_refusal, number_refusal}
use Rattle.ep_model.specs.History.{call_effect}
use Rattle.ep_model.specs.Answer.{Effect, Nothing, Puts, Sets, Answer, unless, cas_of, puts, stores, answer, apply}
use Rattle.ep_model.specs.Front.{begun, world_of, with_event, marked}
use Rattle.ep_model.specs.Legal.{IsUnused, IsBelow, May, IsLegal}
use Rattle.ep_model.proofs.ReadBackLemmas.{get-put, get-put_other}
use Rattle.ep_model.specs.Mutations.{put_by, mutation_of, mutations, above}
use Rattle.hold_stage.specs.Waits.{puts_on, IsNoRead, IsAbsent}
use Rattle.ep_model.proofs.EffectLemmas.{IsNext, answer_is_next, call_told}
use Rattle.hold_stage.proofs.ViewLemmas.{frame_after}
use Rattle.hold_stage.proofs.LaterLemmas.{same_told, world_step, all_append}
use Rattle.hold_stage.proofs.BoundLemmas.{marked_step, legal_bounds}
use Rattle.flat_parts.specs.declared.data.NodeData.{NodeData}
use Rattle.flat_parts.specs.declared.data.Outcome.{Outcome}
use Rattle.flat_parts.specs.declared.data.Outcome.TheVariants as outcomes
use Rattle.flat_parts.specs.declared.data.PlaceData.{PlaceData}
use Rattle.flat_parts.specs.declared.data.StripeData.{StripeData}
use Rattle.flat_parts.specs.declared.data.QueueData.{QueueData}
use Rattle.flat_parts.specs.declared.data.WriteData.{WriteData}
use Rattle.flat_parts.specs.declared.data.Step.{Step}
use Rattle.flat_parts.specs.declared.data.Step.TheVariants as steps
use Rattle.flat_parts.specs.Nodes.{node_of, node_at, put_node, released, forgotten}
use Rattle.flat_parts.specs.Steps.{shown_value, shown_docs, shown_world, stripe_after, queue_after, write_step}
use Rattle.hold_stage.specs.Numbers.{Numbers, numbered, all_numbered}
use Rattle.ep_drill.specs.Stands.{ValueStands, NodeStands, MayBeGone, OutcomeStands, ticket_of, PlaceStands, StripeStands, QueueStands}
use Rattle.hold_stage.proofs.ApartLemmas.{has_failed_later, waiting_later, mutations_step, same_table}
use Rattle.ep_drill.proofs.AskLemmas.{with_places}
use Rattle.ep_drill.proofs.ReadLemmas.{all_filter, all_map, IsCalm, places_calm, stripe_calm, released_all, released_none}

-- tests of equal keys, turned round
bytes_eq_sym : (a b : List ℕ) → bytes_eq a b ≡ false → bytes_eq b a ≡ false
bytes_eq_sym a b is =
    elim (bytes_eq b a) as (λ t. bytes_eq b a ≡ t → t ≡ false) [
      | true ↦ λ e. absurd (let s = (bytes_eq-Decides a b).1 (sym ((bytes_eq-Decides b a).0 e)) in cc)
      | false ↦ λ e. refl
    ] refl

pub other_key : (a b : List ℕ) → bytes_eq a b ≡ false → b ≢ a
other_key a b is e = absurd (let s = (bytes_eq-Decides a b).1 (sym e) in cc)

-- what stands under a key once a node was put
pub node_at_put : (nodes : List NodeData) (node : NodeData) (key : List ℕ) → node_at (put_node nodes node) key ≡ cond (bytes_eq node.key key) (Some node) (node_at nodes key)
node_at_put [] node key = refl
node_at_put (first ∷ nodes) node key =
    elim (bytes_eq first.key node.key) as (λ b. bytes_eq first.key node.key ≡ b → node_at (cond b (node ∷ nodes) (first ∷ put_node nodes node)) key ≡ cond (bytes_eq node.key key) (Some node) (node_at (first ∷ nodes) key)) [
      | true ↦ λ is.
          let same : first.key ≡ node.key = (bytes_eq-Decides first.key node.key).0 is in
          over (bytes_eq node.key key) (bytes_eq first.key key) (ap (λ (k : List ℕ). bytes_eq k key) same) node first (node_at nodes key)
      | false ↦ λ is.
          ap (λ (o : Option NodeData). cond (bytes_eq first.key key) (Some first) o) (node_at_put nodes node key)
          ∙ apart (bytes_eq first.key key) (bytes_eq node.key key) (both first.key node.key key is) node first (node_at nodes key)
    ] refl
  where
    over : (a b : Bool) → b ≡ a → (x y : NodeData) (o : Option NodeData) → cond a (Some x) o ≡ cond a (Some x) (cond b (Some y) o)
    over true b is x y o = refl
    over false b is x y o = ap (λ t. cond t (Some y) o) (sym is)

    both : (a b key : List ℕ) → bytes_eq a b ≡ false → bytes_eq a key ≡ true → bytes_eq b key ≡ false
    both a b key differ is = elim (bytes_eq b key) as (λ t. bytes_eq b key ≡ t → t ≡ false) [
      | true ↦ λ e. absurd (let s = (bytes_eq-Decides a b).1 ((bytes_eq-Decides a key).0 is ∙ sym ((bytes_eq-Decides b key).0 e)) in cc)
      | false ↦ λ e. refl
    ] refl

    apart : (a b : Bool) → (a ≡ true → b ≡ false) → (x y : NodeData) (o : Option NodeData) → cond a (Some y) (cond b (Some x) o) ≡ cond b (Some x) (cond a (Some y) o)
    apart true b h x y o = ap (λ t. cond t (Some x) (Some y)) (sym (h refl))
    apart false b h x y o = refl

-- the CAS of a live document is that of its metadata
live_meta : (doc other : Doc) (now : ℕ) → doc.deleted ≡ other.deleted → doc.expiry ≡ other.expiry → doc.cas ≡ other.cas → cas_of (live_of (Some doc) now) ≡ cas_of (live_of (Some other) now)
live_meta doc other now deleted expiry cas =
    ap (λ d. cas_of (cond (not d && (doc.expiry == 0 || nat_lt (secs now) doc.expiry)) (Some doc) None)) deleted
    ∙ ap (λ e. cas_of (cond (not other.deleted && (e == 0 || nat_lt (secs now) e)) (Some doc) None)) expiry
    ∙ at (is_live other now)
  where
    at : (b : Bool) → cas_of (cond b (Some doc) None) ≡ cas_of (cond b (Some other) None)
    at true = ap Some cas
    at false = refl

gone_cas : (mark now : ℕ) (found : Option Doc) → MayBeGone mark found → cas_of (live_of found now) ≡ None
gone_cas mark now None gone = refl
gone_cas mark now (Some doc) gone = ap (λ b. cas_of (cond (not b && (doc.expiry == 0 || nat_lt (secs now) doc.expiry)) (Some doc) None)) gone.1

-- the parts show a Set the CAS that the world has
shown_cas : (f : FrontData) (stripe : ℕ) (x : StripeData) (key : List ℕ) (now : ℕ) (node : Option NodeData) → (world_of f).opened ≡ true → stripe_of key f.config.stripes ≡ stripe → StripeStands f stripe x → node_at x.nodes key ≡ node
    → cas_of (live_of (get (shown_docs key node) key) now) ≡ cas_of (live (world_of f) key now)
shown_cas f stripe x key now None opened here s found = ap (λ (o : Option Doc). cas_of (live_of o now)) (get-empty (slice_cmp nat_cmp) key) ∙ sym (gone_cas (marked f stripe) now (get (world_of f).docs key) (s.gone opened key here found))
shown_cas f stripe x key now (Some node) opened here s found =
    let n = s.nodes key node found in
    let shown = doc_from node.meta (shown_value node.value) in
    ap (λ (o : Option Doc). cas_of (live_of o now)) (get-put (empty_world 0 0) key shown)
    ∙ live_meta shown n.doc now (ap (λ (m : Meta). m.deleted) n.meta) (ap (λ (m : Meta). m.expiry) n.meta) (ap (λ (m : Meta). m.cas) n.meta)
    ∙ ap (λ (o : Option Doc). cas_of (live_of o now)) (sym n.found)

-- a Set is answered by the state, the size, the CAS and the numbers
store_same : (v w : World) (key value : List ℕ) (flags expiration cas now : ℕ) → cas_of (live w key now) ≡ cas_of (live v key now) → w.state ≡ v.state → w.fit ≡ v.fit → w.high ≡ v.high → w.maxcas ≡ v.maxcas → uuid_of w.failovers ≡ uuid_of v.failovers
    → answer w (calls.Store Set key value flags expiration cas) now ≡ answer v (calls.Store Set key value flags expiration cas) now
store_same v w key value flags expiration cas now same state fit high maxcas table =
    ap (λ (c : Option ℕ). unless (state_refusal w.state true) (unless (size_refusal w.fit (length key) (length value)) (unless (store_refusal Set cas c) (stores w key value flags (stored_expiry expiration now) now)))) same
    ∙ rw (state, fit, high, maxcas, table) refl

-- the answer of a Set has no value
unless_value : (refusal : Option ℕ) (a : Answer) → a.value ≡ [] → (unless refusal a).value ≡ []
unless_value None a h = h
unless_value (Some status) a h = refl

store_value : (w : World) (key value : List ℕ) (flags expiration cas now : ℕ) → (answer w (calls.Store Set key value flags expiration cas) now).value ≡ []
store_value w key value flags expiration cas now =
    unless_value (state_refusal w.state true) _ (unless_value (size_refusal w.fit (length key) (length value)) _ (unless_value (store_refusal Set cas (cas_of (live w key now))) _ (unless_value (number_refusal w.high) _ refl)))

pub calm_all : (stripe caller now : ℕ) (call : CallData) (reply : Reply) (value : List ℕ) (places : List PlaceData) → AllByRecursion (IsCalm stripe (events.Called caller call now reply value)) places
calm_all stripe caller now call reply value [] = tt
calm_all stripe caller now call reply value (place ∷ places) = (record { unused = tt; no_read = tt }, calm_all stripe caller now call reply value places)

-- an event that puts nothing and leaves the world leaves a queue
pub queue_same : (f : FrontData) (event : EventData) (q : QueueData) → world_of (with_event f event) ≡ world_of f → mutation_of (world_of f) event ≡ None → QueueStands f q → QueueStands (with_event f event) q
queue_same f event q world puts s =
    let left : above (world_of f).persisted (mutations (begun f) f.events) ≡ above (world_of (with_event f event)).persisted (mutations (begun f) (with_event f event).events) =
    sym (
    ap (λ (w : World). above w.persisted (mutations (begun f) (with_event f event).events)) world
    ∙ ap (λ (l : List (List ℕ × Doc)). above (world_of f).persisted l) (mutations_step f event ∙ ap (λ (p : Option (List ℕ × Doc)). mutations (begun f) f.events ++ option_to_list p) puts ∙ append-nil (mutations (begun f) f.events))
    ) in
    record {
      numbers = s.numbers ∙ ap all_numbered left;
      items = λ told. s.items (sym (same_told f event) ∙ told) ∙ left;
      high = s.high ∙ sym (ap (λ (w : World). w.high) world);
      maxcas = s.maxcas ∙ sym (ap (λ (w : World). w.maxcas) world);
      persisted = s.persisted ∙ sym (ap (λ (w : World). w.persisted) world);
      state = s.state ∙ sym (ap (λ (w : World). w.state) world);
      opened = s.opened ∙ sym (ap (λ (w : World). w.opened) world);
      uuid = s.uuid ∙ sym (ap uuid_of (same_table f event));
    }

-- a document was put under the key, or nothing: the parts stand behind the answered call
module _ (f : FrontData) (stripe caller now : ℕ) (key : List ℕ) (call : CallData) (reply : Reply) (value : List ℕ) (legal : IsLegal f) (here : stripe_of key f.config.stripes ≡ stripe) (opened : (world_of f).opened ≡ true) where
  abbrev event : EventData
  event = events.Called caller call now reply value

  below : (x : StripeData) → AllByRecursion (IsBelow (ticket_of stripe x.next)) f.events → AllByRecursion (IsBelow (ticket_of stripe x.next)) (with_event f event).events
  below x h = all_append (IsBelow (ticket_of stripe x.next)) f.events (event ∷ []) h (tt, tt)

  place_put : (place : PlaceData) (doc : Doc) → world_of (with_event f event) ≡ apply (world_of f) (Puts key doc) → mutation_of (world_of f) event ≡ Some (key, doc) → bytes_eq place.key key ≡ false → PlaceStands f stripe place → PlaceStands (with_event f event) stripe place
  place_put place doc world puts apart h = record {
    here = h.here;
    waiting = waiting_later f (ticket_of stripe place.number) place.key event (ap (puts_on place.key) puts ∙ bytes_eq_sym place.key key apart) h.waiting;
    unused = all_append (IsUnused (ticket_of stripe place.number)) f.events (event ∷ []) h.unused (tt, tt);
    outcome = outcome_put place.outcome h.outcome;
  }
    where
      docs : get (world_of (with_event f event)).docs place.key ≡ get (world_of f).docs place.key
      docs = ap (λ (w : World). get w.docs place.key) world ∙ get-put_other (world_of f) key place.key doc (λ e. absurd (let s = (bytes_eq-Decides place.key key).1 e in cc))

      outcome_put : (outcome : Outcome) → OutcomeStands f (ticket_of stripe place.number) place.key outcome → OutcomeStands (with_event f event) (ticket_of stripe place.number) place.key outcome
      outcome_put outcomes.Waiting o = all_append (IsNoRead (ticket_of stripe place.number)) f.events (event ∷ []) o (tt, tt)
      outcome_put outcomes.Merged o = o
      outcome_put outcomes.Absent o = subst IsAbsent (sym docs) o
      outcome_put (outcomes.Failed fault) o = has_failed_later f (ticket_of stripe place.number) fault event o
      outcome_put outcomes.NoMemory o = o

  places_put : (places : List PlaceData) (doc : Doc) → world_of (with_event f event) ≡ apply (world_of f) (Puts key doc) → mutation_of (world_of f) event ≡ Some (key, doc) → AllByRecursion (PlaceStands f stripe) places → AllByRecursion (PlaceStands (with_event f event) stripe) (forgotten places key)
  places_put places doc world puts h =
      all_map (λ p. PlaceStands f stripe p × (not (bytes_eq p.key key) ≡ true)) (PlaceStands (with_event f event) stripe) (forgotten places key) (λ p q. place_put p doc world puts (not_true (bytes_eq p.key key) q.1) q.0)
      (all_filter (PlaceStands f stripe) (λ (p : PlaceData). not (bytes_eq p.key key)) places h)
    where
      not_true : (b : Bool) → not b ≡ true → b ≡ false
      not_true true is = cc
      not_true false is = refl

  stripe_put : (x : StripeData) (doc : Doc) → world_of (with_event f event) ≡ apply (world_of f) (Puts key doc) → mutation_of (world_of f) event ≡ Some (key, doc) → StripeStands f stripe x → StripeStands (with_event f event) stripe (stripe_after x (Puts key doc))
  stripe_put x doc world puts s = record {
    there = s.there;
    index = s.index;
    nodes = λ k node is. node_put k node (sym (node_at_put x.nodes (node_of key doc) k) ∙ is);
    gone = λ now-open k k-here is. gone_put k k-here (sym (node_at_put x.nodes (node_of key doc) k) ∙ is);
    mark = s.mark ∙ sym mark;
    state = s.state ∙ sym (ap (λ (w : World). w.state) world);
    opened = s.opened ∙ sym (ap (λ (w : World). w.opened) world);
    places = places_put x.places doc world puts s.places;
    next = below x s.next;
    closed = λ shut. absurd (let o = sym (ap (λ (w : World). w.opened) world) ∙ shut in cc);
    is_told = same_told f event ∙ s.is_told;
  }
    where
      mark : marked (with_event f event) stripe ≡ marked f stripe
      mark = marked_step f event stripe

      node_put : (k : List ℕ) (node : NodeData) → cond (bytes_eq key k) (Some (node_of key doc)) (node_at x.nodes k) ≡ Some node → NodeStands (with_event f event) stripe k node
      node_put k node is =
          elim (bytes_eq key k) as (λ b. bytes_eq key k ≡ b → cond b (Some (node_of key doc)) (node_at x.nodes k) ≡ Some node → NodeStands (with_event f event) stripe k node) [
            | true ↦ λ t e.
                let same : key ≡ k = (bytes_eq-Decides key k).0 t in
                let n : node_of key doc ≡ node = cc in
                subst (λ (l : List ℕ). NodeStands (with_event f event) stripe l node) same
                (subst (λ (m : NodeData). NodeStands (with_event f event) stripe key m) n
                (record { doc = doc; found = ap (λ (w : World). get w.docs key) world ∙ get-put (world_of f) key doc; here = here; meta = refl; value = refl }))
            | false ↦ λ t e.
                let n = s.nodes k node e in
                record {
                  doc = n.doc;
                  found = ap (λ (w : World). get w.docs k) world ∙ get-put_other (world_of f) key k doc (other_key key k t) ∙ n.found;
                  here = n.here;
                  meta = n.meta;
                  value = subst (λ m. ValueStands m n.doc node.value) (sym mark) n.value;
                }
          ] refl is

      gone_put : (k : List ℕ) → stripe_of k f.config.stripes ≡ stripe → cond (bytes_eq key k) (Some (node_of key doc)) (node_at x.nodes k) ≡ None → MayBeGone (marked (with_event f event) stripe) (get (world_of (with_event f event)).docs k)
      gone_put k k-here is =
          elim (bytes_eq key k) as (λ b. bytes_eq key k ≡ b → cond b (Some (node_of key doc)) (node_at x.nodes k) ≡ None → MayBeGone (marked (with_event f event) stripe) (get (world_of (with_event f event)).docs k)) [
            | true ↦ λ t e. absurd (cc)
            | false ↦ λ t e.
                subst (λ (o : Option Doc). MayBeGone (marked (with_event f event) stripe) o) (sym (ap (λ (w : World). get w.docs k) world ∙ get-put_other (world_of f) key k doc (other_key key k t)))
                (subst (λ m. MayBeGone m (get (world_of f).docs k)) (sym mark) (s.gone opened k k-here e))
          ] refl is

  queue_put : (q : QueueData) (doc : Doc) → world_of (with_event f event) ≡ apply (world_of f) (Puts key doc) → mutation_of (world_of f) event ≡ Some (key, doc) → doc.seqno ≡ (world_of f).high + 1 → QueueStands f q → QueueStands (with_event f event) (queue_after q (Puts key doc))
  queue_put q doc world puts number s =
      let b = (legal_bounds f legal).stored in
      let over : nat_lt (world_of f).persisted doc.seqno ≡ true = (let h : (world_of f).persisted < doc.seqno = omega arith in grind (arith, nat_tests)) in
      let kept : (world_of (with_event f event)).persisted ≡ (world_of f).persisted = ap (λ (w : World). w.persisted) world in
      let before = above (world_of f).persisted (mutations (begun f) f.events) in
      let more : before ++ (key, doc) ∷ [] ≡ above (world_of (with_event f event)).persisted (mutations (begun f) (with_event f event).events) =
      sym (
      ap (λ n. above n (mutations (begun f) (with_event f event).events)) kept
      ∙ ap (λ (l : List (List ℕ × Doc)). above (world_of f).persisted l) (mutations_step f event ∙ ap (λ (p : Option (List ℕ × Doc)). mutations (begun f) f.events ++ option_to_list p) puts)
      ∙ filter-append (λ (p : List ℕ × Doc). nat_lt (world_of f).persisted p.1.seqno) (mutations (begun f) f.events) ((key, doc) ∷ [])
      ∙ ap (λ t. above (world_of f).persisted (mutations (begun f) f.events) ++ cond t ((key, doc) ∷ []) []) over
      ) in
      record {
        numbers =
            map-append numbered q.items ((key, doc) ∷ [])
            ∙ ap (λ (l : List (List ℕ × Numbers)). l ++ numbered (key, doc) ∷ []) s.numbers
            ∙ sym (map-append numbered before ((key, doc) ∷ []))
            ∙ ap all_numbered more;
        items = λ told. ap (λ (l : List (List ℕ × Doc)). l ++ (key, doc) ∷ []) (s.items (sym (same_told f event) ∙ told)) ∙ more;
        high = sym (ap (λ (w : World). w.high) world);
        maxcas = sym (ap (λ (w : World). w.maxcas) world);
        persisted = s.persisted ∙ sym kept;
        state = s.state ∙ sym (ap (λ (w : World). w.state) world);
        opened = s.opened ∙ sym (ap (λ (w : World). w.opened) world);
        uuid = s.uuid ∙ sym (ap uuid_of (same_table f event));
      }

  -- the parts after the effect of a call on the key
  pub effect_stands : (effect : Effect) (x : StripeData) (q : QueueData) → IsNext (world_of f) key now effect → world_of (with_event f event) ≡ apply (world_of f) effect → mutation_of (world_of f) event ≡ put_by effect
      → StripeStands f stripe x → QueueStands f q → StripeStands (with_event f event) stripe (stripe_after x effect) × QueueStands (with_event f event) (queue_after q effect)
  effect_stands Nothing x q next world puts s t = (
    stripe_calm f stripe event x x.places x.next world refl
        (places_calm f stripe event x.places world puts (calm_all stripe caller now call reply value x.places) s.places) (below x s.next) s.closed s,
    queue_same f event q world puts t,
  )
  effect_stands (Puts other doc) x q next world puts s t =
      subst (λ (k : List ℕ). StripeStands (with_event f event) stripe (stripe_after x (Puts k doc)) × QueueStands (with_event f event) (queue_after q (Puts k doc))) (sym next.0) (
        stripe_put x doc (world ∙ ap (λ (k : List ℕ). apply (world_of f) (Puts k doc)) next.0) (puts ∙ ap (λ (k : List ℕ). Some (k, doc)) next.0) s,
        queue_put q doc (world ∙ ap (λ (k : List ℕ). apply (world_of f) (Puts k doc)) next.0) (puts ∙ ap (λ (k : List ℕ). Some (k, doc)) next.0) next.1.0 t,
      )
  effect_stands (Sets state) x q next world puts s t = absurd next

abbrev pub AfterWrite : FrontData → ℕ → ℕ → CallData → ℕ → Step → StripeData → QueueData → Type 0
AfterWrite f stripe caller call now (steps.Done reply) x q =
    May f (events.Called caller call now reply []) × StripeStands (with_event f (events.Called caller call now reply [])) stripe x × QueueStands (with_event f (events.Called caller call now reply [])) q
AfterWrite f stripe caller call now (steps.Refused cause) x q =
    May f (events.Refused caller call now cause) × StripeStands (with_event f (events.Refused caller call now cause)) stripe x × QueueStands (with_event f (events.Refused caller call now cause)) q
AfterWrite f stripe caller call now (steps.Fetch ticket) x q = ⊥
AfterWrite f stripe caller call now steps.FetchFull x q = ⊥

module _ (f : FrontData) (stripe caller now fit : ℕ) (key value : List ℕ) (flags expiration cas : ℕ) (prior : Option Ticket) (x : StripeData) (q : QueueData) (legal : IsLegal f) (here : stripe_of key f.config.stripes ≡ stripe)
    (fits : fit ≡ fit_of f.config) (s : StripeStands f stripe x) (t : QueueStands f q) where
  abbrev call : CallData
  call = calls.Store Set key value flags expiration cas

  abbrev kept : StripeData
  kept = record x { places = released x.places prior }

  kept_stands : StripeStands f stripe kept
  kept_stands = with_places f stripe x (released x.places prior) (released_all (PlaceStands f stripe) x.places prior s.places) (λ shut. released_none x.places prior (s.closed shut)) s

  abbrev given : Answer
  given = answer (shown_world x q 0 fit key) call now

  given_is : (world_of f).opened ≡ true → answer (world_of f) call now ≡ given
  given_is opened =
      store_same (shown_world x q 0 fit key) (world_of f) key value flags expiration cas now (sym (shown_cas f stripe x key now (node_at x.nodes key) opened here s refl)) (sym s.state)
      ((frame_after (begun f) f.events).fit ∙ sym fits) (sym t.high) (sym t.maxcas) (sym t.uuid)

  write_done : (world_of f).opened ≡ true → AfterWrite f stripe caller call now (steps.Done given.reply) (stripe_after kept given.effect) (queue_after q given.effect)
  unfolding May
  write_done opened =
      let same = given_is opened in
      let event = events.Called caller call now given.reply [] in
      let did : call_effect (world_of f) call now given.reply ≡ given.effect = call_told (world_of f) call now given.reply s.is_told ∙ ap (λ (a : Answer). a.effect) same in
      let stands = effect_stands f stripe caller now key call given.reply [] legal here opened given.effect kept q
      (subst (λ (a : Answer). IsNext (world_of f) key now a.effect) same (answer_is_next (world_of f) call now key refl))
      (world_step f event ∙ ap (λ (e : Effect). apply (world_of f) e) did)
      (ap put_by did) kept_stands t in (
        record { opened = opened; reply_is = λ _. ap (λ (a : Answer). a.reply) (sym same); value_is = λ _. sym (store_value (world_of f) key value flags expiration cas now) },
        stands.0,
        stands.1,
      )

  write_warming : (world_of f).opened ≡ false → AfterWrite f stripe caller call now (steps.Refused causes.Warming) kept q
  unfolding May
  write_warming shut =
      let event = events.Refused caller call now causes.Warming in
      let none : released x.places prior ≡ [] = released_none x.places prior (s.closed shut) in (
        shut,
        stripe_calm f stripe event x (released x.places prior) x.next (world_step f event) refl
            (subst (λ (l : List PlaceData). AllByRecursion (PlaceStands (with_event f event) stripe) l) (sym none) tt)
            (all_append (IsBelow (ticket_of stripe x.next)) f.events (event ∷ []) s.next (tt, tt)) (λ _. none) s,
        queue_same f event q (world_step f event) refl t,
      )

  -- a Set comes to what is legal, and leaves parts that stand
  pub write_stands : (let r = write_step x q fit prior key value flags expiration cas now in AfterWrite f stripe caller call now r.step r.stripe r.queue)
  write_stands =
      elim x.opened as (λ b. x.opened ≡ b →
      (let r : WriteData = cond b (record { step = steps.Done given.reply; stripe = stripe_after kept given.effect; queue = queue_after q given.effect }) (record { step = steps.Refused causes.Warming; stripe = kept; queue = q }) in
      AfterWrite f stripe caller call now r.step r.stripe r.queue)) [
        | true ↦ λ is. write_done (sym s.opened ∙ is)
        | false ↦ λ is. write_warming (sym s.opened ∙ is)
      ] refl
