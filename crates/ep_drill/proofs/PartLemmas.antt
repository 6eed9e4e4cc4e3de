-- What the desk's steps do to parts: marks, ejected values, settled reads and commits.
use Rattle.std.proofs.Common.{◌≡◌, ◌<◌, ◌≤◌, ℕ, Bool, true, false, cond, inl, inr, List, [], ◌∷◌, refl, sym, ap, subst, ◌∙◌, arith, append-nil}
use Rattle.std.specs.Prelude.{Option, Some, None, ◌==◌, ◌&&◌, not, nat_le, map, IsSome, is_none}
use Rattle.std.specs.Option.{option_map}
use Rattle.std.specs.List.{AllByRecursion}
use Rattle.std.specs.FinMap.{get}
use Rattle.std.specs.Str.{bytes_eq}
use Rattle.std.proofs.lemmas.Slice.Eq.{bytes_eq-Decides}
use Rattle.std.proofs.lemmas.Bool.Decides.{Decides-eqb, nat_tests}
use Rattle.ep_model.specs.declared.call.Meta.{Meta}
use Rattle.ep_model.specs.declared.event.Ticket.{Ticket}
use Rattle.ep_model.specs.declared.data.EventData.{EventData}
use Rattle.ep_model.specs.declared.data.EventData.TheVariants as events
use Rattle.ep_model.specs.declared.data.FrontData.{FrontData}
use Rattle.ep_model.specs.World.{Doc, Docs, World, uuid_of}
use Rattle.ep_model.specs.History.{upto}
use Rattle.ep_model.specs.Front.{begun, world_of, with_event, marked}
use Rattle.ep_model.specs.Legal.{IsUnused, IsBelow, IsNoFault, HasAsked, HasFailedRead, May, IsLegal}
use Rattle.ep_model.specs.Mutations.{mutations, above}
use Rattle.hold_stage.proofs.CallerLemmas.{same_is}
use Rattle.hold_stage.proofs.LaterLemmas.{same_told, world_step, all_append}
use Rattle.hold_stage.proofs.BoundLemmas.{legal_bounds, marked_step}
use Rattle.hold_stage.proofs.StoredLemmas.{above_above}
use Rattle.kv_keeper.specs.declared.data.BatchData.{BatchData}
use Rattle.kv_keeper.specs.declared.data.DeskData.{DeskData}
use Rattle.kv_keeper.specs.Content.{Content, KeeperData}
use Rattle.kv_keeper.specs.Kept.{IsDoubtful, all_committed}
use Rattle.ep_drill.specs.StoreSide.{state_for, whole}
use Rattle.kv_keeper.specs.Batch.{laid}
use Rattle.flat_parts.specs.declared.data.NodeData.{NodeData}
use Rattle.flat_parts.specs.declared.data.Outcome.{Outcome}
use Rattle.flat_parts.specs.declared.data.Outcome.TheVariants as outcomes
use Rattle.flat_parts.specs.declared.data.PlaceData.{PlaceData}
use Rattle.flat_parts.specs.declared.data.StripeData.{StripeData}
use Rattle.flat_parts.specs.declared.data.QueueData.{QueueData}
use Rattle.flat_parts.specs.Nodes.{node_of, node_at, has_value, is_ejectable, ejected, settle_place, settled}
use Rattle.flat_parts.specs.Steps.{page_step, restored}
use Rattle.hold_stage.proofs.RisesLemmas.{high_rises, opened_unstored}
use Rattle.hold_stage.specs.Waits.{IsNoRead, IsFaultWithin, IsAbsent}
use Rattle.hold_stage.specs.Numbers.{all_numbered}
use Rattle.ep_drill.specs.Stands.{ValueStands, NodeStands, MayBeGone, OutcomeStands, ticket_of, PlaceStands, StripeStands, QueueStands, HoldsIfTelling, ContentStands, DeskStands, BatchStands}
use Rattle.hold_stage.proofs.ApartLemmas.{has_failed_later, waiting_later, mutations_step, same_table}
use Rattle.ep_drill.proofs.ReadLemmas.{IsCalm, places_calm, stripe_calm}
use Rattle.ep_drill.proofs.AskLemmas.{with_places, ticket_is}
use Rattle.hold_stage.proofs.NumbersLemmas.{above_alike}
use Rattle.ep_drill.proofs.SetLemmas.{node_at_put}
use Rattle.hold_stage.proofs.WaitLemmas.{and_left, and_right, not_true}
use Rattle.ep_drill.proofs.StoreLemmas.{has_start, tells_both, tells_whole, tells_on, upto_step}

-- a stripe is marked
module _ (f : FrontData) (stripe number : ℕ) (x : StripeData) (opened : (world_of f).opened ≡ true) (above-mark : marked f stripe < number) (stored : number ≤ (world_of f).persisted) (s : StripeStands f stripe x) where
  abbrev event : EventData
  event = events.Marked stripe number

  mark : marked (with_event f event) stripe ≡ number
  mark = marked_step f event stripe ∙ ap (λ b. cond b number (marked f stripe)) (same_is stripe)

  raised_value : (doc : Doc) (value : Option (List ℕ)) → ValueStands (marked f stripe) doc value → ValueStands (marked (with_event f event) stripe) doc value
  raised_value doc None h = ((let a = h.0 in let m = mark in omega arith), h.1)
  raised_value doc (Some value) h = h

  raised_gone : (found : Option Doc) → MayBeGone (marked f stripe) found → MayBeGone (marked (with_event f event) stripe) found
  raised_gone None h = h
  raised_gone (Some doc) h = ((let a = h.0 in let m = mark in omega arith), h.1)

  calm_places : (places : List PlaceData) → AllByRecursion (IsCalm stripe event) places
  calm_places [] = tt
  calm_places (place ∷ places) = (record { unused = tt; no_read = tt }, calm_places places)

  pub may_mark : May f event
  unfolding May
  may_mark = record { opened = opened; above = above-mark; stored = stored }

  pub marked_stands : StripeStands (with_event f event) stripe (record x { mark = number })
  marked_stands =
      let same = world_step f event in
      record {
        there = s.there;
        index = s.index;
        nodes = λ key node is.
            let n = s.nodes key node is in
            record { doc = n.doc; found = ap (λ (w : World). get w.docs key) same ∙ n.found; here = n.here; meta = n.meta; value = raised_value n.doc node.value n.value };
        gone = λ now-open key here none-there.
            subst (λ (w : World). MayBeGone (marked (with_event f event) stripe) (get w.docs key)) (sym same) (raised_gone (get (world_of f).docs key) (s.gone opened key here none-there));
        mark = sym mark;
        state = s.state ∙ sym (ap (λ (w : World). w.state) same);
        opened = s.opened ∙ sym (ap (λ (w : World). w.opened) same);
        places = places_calm f stripe event x.places same refl (calm_places x.places) s.places;
        next = all_append (IsBelow (ticket_of stripe x.next)) f.events (event ∷ []) s.next (tt, tt);
        closed = λ shut. s.closed (sym (ap (λ (w : World). w.opened) same) ∙ shut);
        is_told = same_told f event ∙ s.is_told;
      }

-- ejecting keeps keys and metadata
ejected_key : (mark : ℕ) (node : NodeData) → (ejected mark node).key ≡ node.key
ejected_key mark node = elim (is_ejectable mark node) as (λ b. (cond b (record node { value = None }) node).key ≡ node.key) [ true ↦ refl | false ↦ refl ]

node_at_ejected : (level : ℕ) (nodes : List NodeData) (key : List ℕ) → node_at (map (ejected level) nodes) key ≡ option_map (ejected level) (node_at nodes key)
node_at_ejected level [] key = refl
node_at_ejected level (node ∷ nodes) key =
    ap (λ (k : List ℕ). cond (bytes_eq k key) (Some (ejected level node)) (node_at (map (ejected level) nodes) key)) (ejected_key level node)
    ∙ ap (λ (o : Option NodeData). cond (bytes_eq node.key key) (Some (ejected level node)) o) (node_at_ejected level nodes key)
    ∙ at (bytes_eq node.key key)
  where
    at : (b : Bool) → cond b (Some (ejected level node)) (option_map (ejected level) (node_at nodes key)) ≡ option_map (ejected level) (cond b (Some node) (node_at nodes key))
    at true = refl
    at false = refl

ejected_stands : (f : FrontData) (stripe mark : ℕ) (key : List ℕ) (node : NodeData) → mark ≡ marked f stripe → NodeStands f stripe key node → NodeStands f stripe key (ejected mark node)
ejected_stands f stripe mark key node is n =
    elim (is_ejectable mark node) as (λ b. is_ejectable mark node ≡ b → NodeStands f stripe key (cond b (record node { value = None }) node)) [
      | true ↦ λ t.
          let tests = and_right (has_value node.value) (nat_le node.meta.seqno mark && not node.meta.deleted) t in
          let low : node.meta.seqno ≤ mark = (let h = and_left (nat_le node.meta.seqno mark) (not node.meta.deleted) tests in grind (arith, nat_tests)) in
          let stays : node.meta.deleted ≡ false = not_true node.meta.deleted (and_right (nat_le node.meta.seqno mark) (not node.meta.deleted) tests) in
          let number = ap (λ (m : Meta). m.seqno) n.meta in
          record { doc = n.doc; found = n.found; here = n.here; meta = n.meta; value = (omega arith, sym (ap (λ (m : Meta). m.deleted) n.meta) ∙ stays) }
      | false ↦ λ t. n
    ] refl

some_map : (mark : ℕ) (o : Option NodeData) (node : NodeData) → option_map (ejected mark) o ≡ Some node → (old : NodeData) × (o ≡ Some old) × (ejected mark old ≡ node)
some_map mark None node is = absurd (cc)
some_map mark (Some old) node is = (old, refl, (let e : ejected mark old ≡ node = cc in e))

none_map : (mark : ℕ) (o : Option NodeData) → option_map (ejected mark) o ≡ None → o ≡ None
none_map mark None is = refl
none_map mark (Some old) is = absurd (cc)

-- the pager leaves a stripe that stands
pub page_stands : (f : FrontData) (stripe : ℕ) (x : StripeData) → StripeStands f stripe x → StripeStands f stripe (page_step x).stripe
page_stands f stripe x s = record {
  there = s.there;
  index = s.index;
  nodes = λ key node is.
      let o = some_map x.mark (node_at x.nodes key) node (sym (node_at_ejected x.mark x.nodes key) ∙ is) in
      subst (λ (n : NodeData). NodeStands f stripe key n) o.2 (ejected_stands f stripe x.mark key o.0 s.mark (s.nodes key o.0 o.1));
  gone = λ opened key here is. s.gone opened key here (none_map x.mark (node_at x.nodes key) (sym (node_at_ejected x.mark x.nodes key) ∙ is));
  mark = s.mark;
  state = s.state;
  opened = s.opened;
  places = s.places;
  next = s.next;
  closed = s.closed;
  is_told = s.is_told;
}

-- a place whose read was settled
settle_one : (f : FrontData) (stripe number : ℕ) (outcome : Outcome) (place : PlaceData) → (place.number ≡ number → OutcomeStands f (ticket_of stripe place.number) place.key outcome) → PlaceStands f stripe place → PlaceStands f stripe (settle_place number outcome place)
settle_one f stripe number outcome place stands h =
    elim (place.number == number) as (λ b. place.number == number ≡ b → PlaceStands f stripe (cond b (record place { outcome = outcome }) place)) [
      | true ↦ λ t. record { here = h.here; waiting = h.waiting; unused = h.unused; outcome = stands ((Decides-eqb place.number number).0 t) }
      | false ↦ λ t. h
    ] refl

pub settle_all : (f : FrontData) (stripe number : ℕ) (outcome : Outcome) (places : List PlaceData) → ((place : PlaceData) → place.number ≡ number → PlaceStands f stripe place → OutcomeStands f (ticket_of stripe place.number) place.key outcome)
    → AllByRecursion (PlaceStands f stripe) places → AllByRecursion (PlaceStands f stripe) (settled places number outcome)
settle_all f stripe number outcome [] stands h = tt
settle_all f stripe number outcome (place ∷ places) stands h =
    (settle_one f stripe number outcome place (λ is. stands place is h.0) h.0, settle_all f stripe number outcome places stands h.1)

settled_none : (places : List PlaceData) (number : ℕ) (outcome : Outcome) → places ≡ [] → settled places number outcome ≡ []
settled_none places number outcome is = ap (λ (l : List PlaceData). settled l number outcome) is

-- a read is settled by an outcome that the history says already
pub settled_stands : (f : FrontData) (stripe number : ℕ) (outcome : Outcome) (x : StripeData) → ((place : PlaceData) → place.number ≡ number → PlaceStands f stripe place → OutcomeStands f (ticket_of stripe place.number) place.key outcome)
    → StripeStands f stripe x → StripeStands f stripe (record x { places = settled x.places number outcome })
settled_stands f stripe number outcome x stands s =
    with_places f stripe x (settled x.places number outcome) (settle_all f stripe number outcome x.places stands s.places) (λ shut. settled_none x.places number outcome (s.closed shut)) s

-- the store failed at a read: that is told, and the read is settled
module _ (f : FrontData) (stripe fault : ℕ) (ticket : Ticket) (x : StripeData) (here : ticket.stripe ≡ stripe) (asks : HasAsked f.events ticket) (once : AllByRecursion (IsNoFault fault) f.events) (s : StripeStands f stripe x) where
  abbrev failure : EventData
  failure = events.ReadFailed ticket fault

  pub may_fail : May f failure
  unfolding May
  may_fail = record { asked = asks; once = once }

  failed_here : HasFailedRead (with_event f failure).events ticket fault
  failed_here = record { before = f.events; later = []; failed = refl }

  -- what stood of a place but for its outcome
  place_rest : (place : PlaceData) (outcome : Outcome) → PlaceStands f stripe place → OutcomeStands (with_event f failure) (ticket_of stripe place.number) place.key outcome → PlaceStands (with_event f failure) stripe (record place { outcome = outcome })
  place_rest place outcome h stands = record {
    here = h.here;
    waiting = waiting_later f (ticket_of stripe place.number) place.key failure refl h.waiting;
    unused = all_append (IsUnused (ticket_of stripe place.number)) f.events (failure ∷ []) h.unused (tt, tt);
    outcome = stands;
  }

  other_outcome : (place : PlaceData) (outcome : Outcome) → (place.number ≡ ticket.number → ⊥) → OutcomeStands f (ticket_of stripe place.number) place.key outcome → OutcomeStands (with_event f failure) (ticket_of stripe place.number) place.key outcome
  other_outcome place outcomes.Waiting differs h = all_append (IsNoRead (ticket_of stripe place.number)) f.events (failure ∷ []) h ((λ is. differs (ap (λ (t : Ticket). t.number) (sym is))), tt)
  other_outcome place outcomes.Merged differs h = h
  other_outcome place outcomes.Absent differs h = subst (λ (w : World). IsAbsent (get w.docs place.key)) (sym (world_step f failure)) h
  other_outcome place (outcomes.Failed other) differs h = has_failed_later f (ticket_of stripe place.number) other failure h
  other_outcome place outcomes.NoMemory differs h = h

  failed_one : (place : PlaceData) → PlaceStands f stripe place → PlaceStands (with_event f failure) stripe (settle_place ticket.number (outcomes.Failed fault) place)
  failed_one place h =
      elim (place.number == ticket.number) as (λ b. place.number == ticket.number ≡ b → PlaceStands (with_event f failure) stripe (cond b (record place { outcome = outcomes.Failed fault }) place)) [
        | true ↦ λ t.
            let e = ticket_is stripe place.number ticket here ((Decides-eqb place.number ticket.number).0 t) in
            place_rest place (outcomes.Failed fault) h (subst (λ (k : Ticket). HasFailedRead (with_event f failure).events k fault) (sym e) failed_here)
        | false ↦ λ t. place_rest place place.outcome h (other_outcome place place.outcome (λ is. let e = (Decides-eqb place.number ticket.number).1 is in cc) h.outcome)
      ] refl

  failed_all : (places : List PlaceData) → AllByRecursion (PlaceStands f stripe) places → AllByRecursion (PlaceStands (with_event f failure) stripe) (settled places ticket.number (outcomes.Failed fault))
  failed_all [] h = tt
  failed_all (place ∷ places) h = (failed_one place h.0, failed_all places h.1)

  pub failed_stands : StripeStands (with_event f failure) stripe (record x { places = settled x.places ticket.number (outcomes.Failed fault) })
  failed_stands =
      stripe_calm f stripe failure x (settled x.places ticket.number (outcomes.Failed fault)) x.next (world_step f failure) refl (failed_all x.places s.places)
      (all_append (IsBelow (ticket_of stripe x.next)) f.events (failure ∷ []) s.next (tt, tt)) (λ shut. settled_none x.places ticket.number (outcomes.Failed fault) (s.closed shut)) s

-- a value that was read is put back
pub restored_stands : (f : FrontData) (stripe : ℕ) (key : List ℕ) (doc : Doc) (x : StripeData) (node : NodeData) → node_at x.nodes key ≡ Some node → get (world_of f).docs key ≡ Some doc → StripeStands f stripe x → StripeStands f stripe (restored x key doc)
restored_stands f stripe key doc x node found stands s = record {
  there = s.there;
  index = s.index;
  nodes = λ k other is.
      elim (bytes_eq key k) as (λ b. bytes_eq key k ≡ b → cond b (Some (node_of key doc)) (node_at x.nodes k) ≡ Some other → NodeStands f stripe k other) [
        | true ↦ λ t e.
            let same : key ≡ k = (bytes_eq-Decides key k).0 t in
            let n : node_of key doc ≡ other = cc in
            subst (λ (l : List ℕ). NodeStands f stripe l other) same (subst (λ (m : NodeData). NodeStands f stripe key m) n (record { doc = doc; found = stands; here = (s.nodes key node found).here; meta = refl; value = refl }))
        | false ↦ λ t e. s.nodes k other e
      ] refl (sym (node_at_put x.nodes (node_of key doc) k) ∙ is);
  gone = λ opened k here is.
      elim (bytes_eq key k) as (λ b. bytes_eq key k ≡ b → cond b (Some (node_of key doc)) (node_at x.nodes k) ≡ None → MayBeGone (marked f stripe) (get (world_of f).docs k)) [
        | true ↦ λ t e. absurd (cc)
        | false ↦ λ t e. s.gone opened k here e
      ] refl (sym (node_at_put x.nodes (node_of key doc) k) ∙ is);
  mark = s.mark;
  state = s.state;
  opened = s.opened;
  places = s.places;
  next = s.next;
  closed = s.closed;
  is_told = s.is_told;
}

-- a batch was committed: that is told, and the queue keeps what is above it
module _ (f : FrontData) (desk : DeskData) (batch : BatchData) (legal : IsLegal f) (d : DeskStands f desk) (sure : desk.doubt ≡ None) (b : BatchStands f desk.stored batch) where
  abbrev pub success : EventData
  success = events.Persisted batch.to

  pub may_persist : May f success
  unfolding May
  may_persist = record { opened = opened_unstored f legal (let low = b.above in let top = b.top in omega arith); above = b.above; within = b.top }

  persisted_is : (world_of (with_event f success)).persisted ≡ batch.to
  persisted_is = ap (λ (w : World). w.persisted) (world_step f success)

  pub persisted_queue : (q : QueueData) → QueueStands f q → QueueStands (with_event f success) (record q { items = above batch.to q.items; persisted = batch.to })
  persisted_queue q s =
      let same = world_step f success in
      let left : above batch.to (above (world_of f).persisted (mutations (begun f) f.events)) ≡ above (world_of (with_event f success)).persisted (mutations (begun f) (with_event f success).events) =
      above_above (world_of f).persisted batch.to (mutations (begun f) f.events) (let h = b.above in omega arith)
      ∙ sym (ap (λ n. above n (mutations (begun f) (with_event f success).events)) persisted_is ∙ ap (above batch.to) (mutations_step f success ∙ append-nil (mutations (begun f) f.events))) in
      record {
        numbers = above_alike batch.to q.items (above (world_of f).persisted (mutations (begun f) f.events)) s.numbers ∙ ap all_numbered left;
        items = λ told. ap (above batch.to) (s.items (sym (same_told f success) ∙ told)) ∙ left;
        high = s.high ∙ sym (ap (λ (w : World). w.high) same);
        maxcas = s.maxcas ∙ sym (ap (λ (w : World). w.maxcas) same);
        persisted = sym persisted_is;
        state = s.state ∙ sym (ap (λ (w : World). w.state) same);
        opened = s.opened ∙ sym (ap (λ (w : World). w.opened) same);
        uuid = s.uuid ∙ sym (ap uuid_of (same_table f success));
      }

  at_batch : upto (begun f) (with_event f success).events batch.to ≡ upto (begun f) f.events batch.to
  at_batch = let bounds = legal_bounds f legal in let start = bounds.start in let low = b.above in upto_step f success batch.to (omega arith) b.top

  put : IsSome f.start
  put = has_start f legal (opened_unstored f legal (let low = b.above in let top = b.top in omega arith))

  before : ContentStands f desk.keeper desk.stored None
  before = subst (λ (o : Option ℕ). ContentStands f desk.keeper desk.stored o) sure (d.holds put)

  -- what the store told holds the history up to the batch's number, once the batch is in it
  laid_holds : (content : Option Content) → HoldsIfTelling f content desk.stored → HoldsIfTelling f (all_committed content batch (state_for batch)) batch.to
  laid_holds None h = tt
  laid_holds (Some content) h = record { docs = λ told. ap (λ (docs : Docs). laid batch.rows docs) (h.docs told) ∙ b.docs told; version = refl; high = refl; maxcas = b.maxcas }

  telling_on : (content : Option Content) → HoldsIfTelling f content batch.to → HoldsIfTelling (with_event f success) content batch.to
  telling_on None h = tt
  telling_on (Some content) h = record { docs = λ told. h.docs (sym (same_told f success) ∙ told) ∙ ap (λ (w : World). w.docs) (sym at_batch); version = h.version; high = h.high; maxcas = h.maxcas ∙ ap (λ (w : World). w.maxcas) (sym at_batch) }

  pub persisted_desk : DeskStands (with_event f success) (record desk { keeper = record desk.keeper { content = whole desk.keeper batch }; stored = batch.to; noted = batch.to; doubt = None })
  persisted_desk = record {
    low = omega (arith, persisted_is);
    top = λ _. let h = high_rises f success in let t = b.top in omega arith;
    holds = λ _. telling_on (whole desk.keeper batch) (laid_holds desk.keeper.content before);
    persisted = sym persisted_is;
    faults = all_append (IsFaultWithin desk.read_faults) f.events (success ∷ []) d.faults (tt, tt);
    sure = d.sure ∙ ap (λ (o : Option ℕ). is_none o) sure;
    tells = λ _ told. tells_whole desk.keeper.content batch (state_for batch) (d.tells put (sym (same_told f success) ∙ told));
    both = λ _ told. tt;
  }

  -- the commit failed: the store holds what it held, or all of it
  pub doubted_desk : (keeper : KeeperData) → IsDoubtful desk.keeper (whole desk.keeper batch) keeper → DeskStands f (record desk { keeper = keeper; doubt = Some batch.to })
  doubted_desk keeper doubtful =
      let all : HoldsIfTelling f (whole desk.keeper batch) batch.to = laid_holds desk.keeper.content before in
      record {
        low = d.low;
        top = d.top;
        holds = λ _. (
          b.low,
          b.top,
          elim doubtful.which [
            | inl old ↦ inl (subst (λ (o : Option Content). HoldsIfTelling f o desk.stored) (sym old.0) before, subst (λ (o : Option Content). HoldsIfTelling f o batch.to) (sym old.1) all)
            | inr new ↦ inr (subst (λ (o : Option Content). HoldsIfTelling f o batch.to) (sym new.0) all, subst (λ (o : Option Content). HoldsIfTelling f o desk.stored) (sym new.1) before)
          ],
        );
        persisted = d.persisted;
        faults = d.faults;
        sure = doubtful.doubtful;
        tells = λ _ told. tells_on desk.keeper keeper batch (d.tells put told) doubtful;
        both = λ _ told. tells_both desk.keeper keeper batch (d.tells put told) doubtful;
      }
