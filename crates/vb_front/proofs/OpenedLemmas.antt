-- What the store's side leaves of the parts of a vBucket of whose documents nothing is known.
use Rattle.std.proofs.Common.{◌≡◌, inl, inr, ℕ, ◌≤◌, Bool, true, false, List, [], ◌∷◌, length, refl, sym, ap, subst, ◌∙◌, arith}
use Rattle.std.specs.Prelude.{Option, Some, None, Result, Ok, Err, OnOk, OnErr, ◌+◌, drop, if◌then◌else◌}
use Rattle.std.specs.List.{AllByRecursion}
use Rattle.std.specs.Str.{bytes_eq}
use Rattle.std.proofs.lemmas.Slice.Eq.{bytes_eq-Decides}
use Rattle.std.proofs.lemmas.List.{length-set}
use Rattle.ep_model.specs.declared.data.EventData.{EventData}
use Rattle.ep_model.specs.declared.data.EventData.TheVariants.{Persisted, Marked, ReadFailed, Opened}
use Rattle.ep_model.specs.declared.data.FrontData.{FrontData}
use Rattle.ep_model.specs.declared.data.StartData.{StartData}
use Rattle.ep_model.specs.declared.event.Ticket.{Ticket}
use Rattle.ep_model.specs.declared.call.Meta.{Meta}
use Rattle.ep_model.specs.World.{World, Item, blocks}
use Rattle.ep_model.specs.Stripes.{stripe_of}
use Rattle.ep_model.specs.Front.{started, begun, world_of, with_event, with_start, marked}
use Rattle.ep_model.specs.Mutations.{mutation_of}
use Rattle.ep_model.specs.Legal.{IsUnused, IsBelow, HasFailedRead}
use Rattle.ep_model.specs.Checkpoints.{cut, all_items}
use Rattle.hold_stage.specs.Waits.{puts_on, IsNoRead}
use Rattle.hold_stage.proofs.CallerLemmas.{same_is}
use Rattle.hold_stage.proofs.LaterLemmas.{same_told, world_step, all_append}
use Rattle.hold_stage.proofs.BoundLemmas.{marked_step}
use Rattle.hold_stage.proofs.ViewLemmas.{frame_after}
use Rattle.hash_stripe.specs.Nodes.{NodeData, Slot, node_at, node_blocks, is_full_eviction, EjectsOthers, IsLeft, Restores, with_slot, slot_for}
use Rattle.hash_stripe.specs.Stripes.{StripeData, IsStripe}
use Rattle.hash_stripe.proofs.KeyLemmas.{restoring-keywise}
use Rattle.fetch_book.specs.declared.place.Outcome.{Outcome}
use Rattle.fetch_book.specs.declared.place.Outcome.TheVariants as outcomes
use Rattle.fetch_book.specs.declared.place.Place.{Place}
use Rattle.fetch_book.specs.Places.{is_place_of, settled}
use Rattle.fetch_book.specs.Books.{BookData, next_ticket}
use Rattle.ckpt_items.specs.declared.data.ItemData.{ItemData}
use Rattle.ckpt_manager.specs.declared.data.QueueData.{QueueData}
use Rattle.vb_front.specs.declared.part.StripePart.{StripePart}
use Rattle.vb_front.specs.Apart.{failed_later, waiting_later, cut_step}
use Rattle.vb_front.specs.Opened.{unknown_start}
use Rattle.vb_front.specs.Stands.{IsAwayBelow, NodeStands, TableStands, OutcomeStands, PlaceStands, BookStands, StripeStands, AreItems, QueueStands}
use Rattle.vb_front.proofs.AskLemmas.{ticket_is, ticket_same}
use Rattle.vb_front.proofs.CalmLemmas.{IsCalm, table_calm, queue_calm}
use Rattle.vb_front.proofs.EjectLemmas.{others_length, ejected_table}
use Rattle.vb_front.proofs.PutLemmas.{was_clean, left_node}
use Rattle.vb_front.proofs.QueueLemmas.{queue_opens}

-- a vBucket that began so has no documents that are known
pub untold : (f : FrontData) → f.start ≡ Some unknown_start → (world_of f).told ≡ false
untold f is = (frame_after (begun f) f.events).told ∙ ap (λ (o : Option StartData). (started o).told) is

never : {P : Type 0} (f : FrontData) → (world_of f).told ≡ false → (world_of f).told ≡ true → P
never f not is = absurd (let e : false ≡ true = sym not ∙ is in cc)

-- nor has it behind an event
still : (f : FrontData) (event : EventData) → (world_of f).told ≡ false → (world_of (with_event f event)).told ≡ false
still f event not = same_told f event ∙ not

-- The parts of a vBucket in which nothing happened, once it has begun and opened.
abbrev front_with : FrontData → Option StartData → List EventData → FrontData
front_with f start events = record f { start = start; events = events }

is_bare : (f : FrontData) → f.start ≡ None → f.events ≡ [] → f ≡ front_with f None []
is_bare f start events = ap (λ (o : Option StartData). front_with f o f.events) start ∙ ap (λ (l : List EventData). front_with f None l) events

abbrev opens : StripePart → StripePart
opens x = record x { table = record x.table { opened = true } }

abbrev behind : FrontData → FrontData
behind f = with_event (with_start f (Some unknown_start)) Opened

stripe_begins : (f : FrontData) (x : StripePart) → StripeStands (front_with f None []) 0 x → StripeStands (behind (front_with f None [])) 0 (opens x)
stripe_begins f x s =
    let h = s.table in
    let g = behind (front_with f None []) in
    record {
      there = s.there;
      table = record {
        index = h.index;
        stripes = h.stripes;
        eviction = h.eviction;
        blocks = h.blocks;
        mark = h.mark;
        state = h.state;
        opened = refl;
        nodes = λ key node is. let n = h.nodes key node is in record { here = n.here; away = n.away };
        shown = λ told. never g refl told;
      };
      book = record {
        home = s.book.home;
        next = (tt, tt);
        closed = λ shut. s.book.closed refl;
        places = subst (λ (l : List Place). AllByRecursion (PlaceStands g 0) l) (sym (s.book.closed refl)) tt;
      };
    }

pub stripe_opened : (f : FrontData) (x : StripePart) (table : StripeData) → f.start ≡ None → f.events ≡ [] → StripeStands f 0 x → table ≡ record x.table { opened = true } → StripeStands (behind f) 0 (record x { table = table })
stripe_opened f x table start events s is =
    let bare = is_bare f start events in
    subst (λ (t : StripeData). StripeStands (behind f) 0 (record x { table = t })) (sym is)
    (subst (λ (g : FrontData). StripeStands (behind g) 0 (opens x)) (sym bare)
    (stripe_begins f x (subst (λ (g : FrontData). StripeStands g 0 x) bare s)))

-- items of which no more is known
items_untold : (f g : FrontData) → (world_of g).told ≡ false → (held : List ItemData) (items : List Item) → AreItems f held items → AreItems g held items
items_untold f g not [] [] h = tt
items_untold f g not [] (item ∷ items) h = h
items_untold f g not (x ∷ held) [] h = h
items_untold f g not (x ∷ held) (item ∷ items) h =
    (record { key = h.0.key; number = h.0.number; cas = h.0.cas; shown = λ is. never g not is }, items_untold f g not held items h.1)

queue_begins : (f : FrontData) (q : QueueData) → QueueStands (front_with f None []) q → QueueStands (with_start (front_with f None []) (Some unknown_start)) q
unfolding cut
queue_begins f q s =
    let g = with_start (front_with f None []) (Some unknown_start) in
    record {
      blocks = s.blocks;
      ckpt_max = s.ckpt_max;
      high = s.high;
      maxcas = s.maxcas;
      persisted = s.persisted;
      table = s.table;
      state = s.state;
      opened = s.opened;
      id = s.id;
      behind = s.behind;
      ahead = s.ahead;
      named = s.named;
      expelled = s.expelled;
      passed = s.passed;
      closed = items_untold (front_with f None []) g refl q.closed (drop s.expelled (all_items (cut g).closed)) s.closed;
      last = items_untold (front_with f None []) g refl q.last (cut g).last.items s.last;
    }

pub queue_opened : (f : FrontData) (q r : QueueData) → f.start ≡ None → f.events ≡ [] → QueueStands f q → r ≡ record q { opened = true } → QueueStands (behind f) r
queue_opened f q r start events s is =
    let bare = is_bare f start events in
    subst (λ (z : QueueData). QueueStands (behind f) z) (sym is)
    (queue_opens (with_start f (Some unknown_start)) q
    (subst (λ (g : FrontData). QueueStands (with_start g (Some unknown_start)) q) (sym bare)
    (queue_begins f q (subst (λ (g : FrontData). QueueStands g q) bare s))))

-- What became of a read goes on being so.
outcome_later : (f : FrontData) (event : EventData) (ticket : Ticket) (outcome : Outcome) → IsNoRead ticket event → OutcomeStands f ticket outcome → OutcomeStands (with_event f event) ticket outcome
outcome_later f event ticket outcomes.Waiting no_read h = all_append (IsNoRead ticket) f.events (event ∷ []) h (no_read, tt)
outcome_later f event ticket outcomes.Merged no_read h = h
outcome_later f event ticket outcomes.Absent no_read h = h
outcome_later f event ticket (outcomes.Failed fault) no_read h = failed_later f ticket fault event h
outcome_later f event ticket outcomes.NoMemory no_read h = h
outcome_later f event ticket (outcomes.NoRoom blocks) no_read h = h

-- a place behind an event that puts nothing, with what became of its read then
place_behind : (f : FrontData) (event : EventData) (place : Place) (outcome : Outcome) → (world_of f).told ≡ false → mutation_of (world_of f) event ≡ None → IsUnused place.ticket event
    → OutcomeStands (with_event f event) place.ticket outcome → PlaceStands f 0 place → PlaceStands (with_event f event) 0 (record place { outcome = outcome })
place_behind f event place outcome not puts unused stands h = record {
  home = h.home;
  here = h.here;
  waiting = waiting_later f place.ticket place.key event (ap (puts_on place.key) puts) h.waiting;
  unused = all_append (IsUnused place.ticket) f.events (event ∷ []) h.unused (unused, tt);
  outcome = stands;
  shown = λ is. never (with_event f event) (still f event not) is;
}

-- What is told to be stored.
pub desk_persisted : (f : FrontData) (n : ℕ) → (world_of (with_event f (Persisted n))).persisted ≡ n
desk_persisted f n = ap (λ (w : World). w.persisted) (world_step f (Persisted n))

-- A stripe that is told what is stored.
away_above : (low high : ℕ) (node : NodeData) (value : Option (List ℕ)) → low ≤ high → IsAwayBelow low node value → IsAwayBelow high node value
away_above low high node None rises h = ((let a = h.0 in omega arith), h.1)
away_above low high node (Some value) rises h = tt

places_marked : (f : FrontData) (n : ℕ) (places : List Place) → (world_of f).told ≡ false → AllByRecursion (PlaceStands f 0) places → AllByRecursion (PlaceStands (with_event f (Marked 0 n)) 0) places
places_marked f n [] not h = tt
places_marked f n (place ∷ places) not h =
    (place_behind f (Marked 0 n) place place.outcome not refl tt (outcome_later f (Marked 0 n) place.ticket place.outcome tt h.0.outcome) h.0, places_marked f n places not h.1)

pub stripe_marked : (f : FrontData) (n : ℕ) (x : StripePart) (table : StripeData) → (world_of f).told ≡ false → x.table.mark ≤ n → StripeStands f 0 x → table ≡ record x.table { mark = n }
    → StripeStands (with_event f (Marked 0 n)) 0 (record x { table = table })
stripe_marked f n x table not rises s is =
    let h = s.table in
    let g = with_event f (Marked 0 n) in
    let mark : marked g 0 ≡ n = marked_step f (Marked 0 n) 0 ∙ ap (λ b. if b then n else marked f 0) (same_is 0) in
    let same = world_step f (Marked 0 n) in
    subst (λ (t : StripeData). StripeStands g 0 (record x { table = t })) (sym is)
    (record {
      there = s.there;
      table = record {
        index = h.index;
        stripes = h.stripes;
        eviction = h.eviction;
        blocks = h.blocks;
        mark = sym mark;
        state = h.state ∙ sym (ap (λ (w : World). w.state) same);
        opened = h.opened ∙ sym (ap (λ (w : World). w.opened) same);
        nodes = λ key node is.
            let k = h.nodes key node is in
            record {
              here = k.here;
              away = subst (λ m. IsAwayBelow m node node.value) (sym mark) (away_above (marked f 0) n node node.value (let e = h.mark in omega arith) k.away);
            };
        shown = λ told. never g (still f (Marked 0 n) not) told;
      };
      book = record {
        home = s.book.home;
        next = all_append (IsBelow (next_ticket x.book)) f.events (Marked 0 n ∷ []) s.book.next (tt, tt);
        closed = λ shut. s.book.closed (sym (ap (λ (w : World). w.opened) same) ∙ shut);
        places = places_marked f n x.book.places not s.book.places;
      };
    })

-- A read that failed, of the only place.
pub calm_failed : (f : FrontData) (ticket : Ticket) (fault : ℕ) → IsCalm f (ReadFailed ticket fault)
calm_failed f ticket fault = record {
  same = world_step f (ReadFailed ticket fault);
  puts = refl;
  mark = λ stripe. marked_step f (ReadFailed ticket fault) stripe;
  cuts = cut_step f (ReadFailed ticket fault);
}

module _ (f : FrontData) (ticket : Ticket) (fault : ℕ) (not : (world_of f).told ≡ false) where
  abbrev failing : EventData
  failing = ReadFailed ticket fault

  abbrev g : FrontData
  g = with_event f failing

  has_failed : (other : Ticket) → other ≡ ticket → HasFailedRead g.events other fault
  has_failed other is = subst (λ (t : Ticket). HasFailedRead g.events t fault) (sym is) (record { before = f.events; later = []; failed = refl })

  place_failed : (place : Place) (b : Bool) → is_place_of ticket place ≡ b → PlaceStands f 0 place → AllByRecursion (PlaceStands g 0) (if b then record place { outcome = outcomes.Failed fault } ∷ [] else place ∷ [])
  place_failed place true is h =
      (place_behind f failing place (outcomes.Failed fault) not refl tt (has_failed place.ticket (ticket_is place.ticket ticket is)) h, tt)
  place_failed place false is h =
      (place_behind f failing place place.outcome not refl tt (outcome_later f failing place.ticket place.outcome (λ e. absurd (let t = ticket_same place.ticket ticket (sym e) in cc)) h.outcome) h, tt)

  places_failed : (places : List Place) → length places ≡ 1 → AllByRecursion (PlaceStands f 0) places → AllByRecursion (PlaceStands g 0) (settled places ticket (outcomes.Failed fault))
  places_failed [] one h = absurd (omega arith)
  places_failed (place ∷ []) one h = place_failed place (is_place_of ticket place) refl h.0
  places_failed (place ∷ other ∷ places) one h = absurd (omega arith)

  pub stripe_failed : (x : StripePart) (book : BookData) → length x.book.places ≡ 1 → StripeStands f 0 x → book ≡ record x.book { places = settled x.book.places ticket (outcomes.Failed fault) } → StripeStands g 0 (record x { book = book })
  stripe_failed x book one s is =
      let same = world_step f failing in
      subst (λ (b : BookData). StripeStands g 0 (record x { book = b })) (sym is)
      (record {
        there = s.there;
        table = table_calm f 0 failing (calm_failed f ticket fault) x.table s.table;
        book = record {
          home = s.book.home;
          next = all_append (IsBelow (next_ticket x.book)) f.events (failing ∷ []) s.book.next (tt, tt);
          closed = λ shut. absurd (let none = ap length (s.book.closed (sym (ap (λ (w : World). w.opened) same) ∙ shut)) in omega arith);
          places = places_failed x.book.places one s.book.places;
        };
      })

  pub queue_failed : (q : QueueData) → QueueStands f q → QueueStands g q
  queue_failed q s = queue_calm f failing q (calm_failed f ticket fault) s

  pub desk_failed : (n : ℕ) → n ≡ (world_of f).persisted → n ≡ (world_of g).persisted
  desk_failed n is = is ∙ sym (ap (λ (w : World). w.persisted) (world_step f failing))

-- What became of a read is known without an event.
module _ (f : FrontData) (not : (world_of f).told ≡ false) (ticket : Ticket) (outcome : Outcome) (stands : (other : Ticket) → OutcomeStands f other outcome) where
  place_settled : (place : Place) → PlaceStands f 0 place → PlaceStands f 0 (record place { outcome = outcome })
  place_settled place h = record {
    home = h.home;
    here = h.here;
    waiting = h.waiting;
    unused = h.unused;
    outcome = stands place.ticket;
    shown = λ is. never f not is;
  }

  places_settled : (places : List Place) → AllByRecursion (PlaceStands f 0) places → AllByRecursion (PlaceStands f 0) (settled places ticket outcome)
  places_settled [] h = tt
  places_settled (place ∷ places) h =
      elim (is_place_of ticket place) as (λ b. AllByRecursion (PlaceStands f 0) (if b then record place { outcome = outcome } ∷ places else place ∷ settled places ticket outcome)) [
        | true ↦ (place_settled place h.0, h.1)
        | false ↦ (h.0, places_settled places h.1)
      ]

  pub book_settled : (book after : BookData) → after ≡ record book { places = settled book.places ticket outcome } → BookStands f 0 book → BookStands f 0 after
  book_settled book after is h =
      subst (λ (b : BookData). BookStands f 0 b) (sym is)
      (record {
        home = h.home;
        next = h.next;
        closed = λ shut. ap (λ (l : List Place). settled l ticket outcome) (h.closed shut);
        places = places_settled book.places h.places;
      })

-- A stripe out of which documents were ejected for another, and one into which a document was put back.
pub stripe_ejected : (f : FrontData) (key : List ℕ) (need : ℕ) (x : StripePart) (table : StripeData) → IsStripe x.table → EjectsOthers x.table.eviction x.table.mark key need x.table.slots table.slots → StripeStands f 0 x
    → table ≡ record x.table { slots = table.slots } → StripeStands f 0 (record x { table = table })
stripe_ejected f key need x table sound ejects s is =
    subst (λ (t : StripeData). StripeStands f 0 (record x { table = t })) (sym is) (record { there = s.there; table = ejected_table f 0 key need x.table table.slots sound ejects s.table; book = s.book })

slot_length : (slots : List Slot) (o : Option ℕ) (content : Slot) → length (with_slot slots o content) ≡ length slots
slot_length slots None content = refl
slot_length slots (Some slot) content = length-set slots slot content

module _ (f : FrontData) (not : (world_of f).told ≡ false) (s : StripeData) (new : List Slot) (node : NodeData) (value : List ℕ) (sound : IsStripe s) (keyed : 1 ≤ length node.key) (home : stripe_of node.key s.stripes ≡ s.index)
    (valued : node.value ≡ Some value) (restores : Restores s.eviction s.mark (node_blocks node) node s.slots new) (h : TableStands f 0 s) where
  node_left : (key : List ℕ) (n : NodeData) → IsLeft s.eviction s.mark node.key (node_at s.slots key) (node_at new key) → node_at new key ≡ Some n → NodeStands f 0 key n
  node_left key n left is =
      elim left as (λ _. NodeStands f 0 key n) [
        | inl same ↦ h.nodes key n (sym same ∙ is)
        | inr gone ↦
            let c = was_clean s.eviction s.mark (node_at s.slots key) (node_at new key) gone.0 gone.2 in
            let l = left_node (is_full_eviction s.eviction) c.was.meta.deleted c.was n (sym c.left_is ∙ is) in
            let old = h.nodes key c.was c.old_is in
            record {
              here = old.here;
              away = subst (λ (x : NodeData). IsAwayBelow (marked f 0) x x.value) (sym l.2) ((let a = c.low in let b = h.mark in omega arith), l.1);
            }
      ]

  node_back : (key : List ℕ) (n : NodeData) (b : Bool) → bytes_eq key node.key ≡ b → node_at new key ≡ Some n → NodeStands f 0 key n
  node_back key n true test is =
      let r = restoring-keywise s node new sound keyed restores in
      let same : key ≡ node.key = (bytes_eq-Decides key node.key).0 test in
      let e : node ≡ n = (let two : Some node ≡ Some n = sym r.there ∙ sym (ap (node_at new) same) ∙ is in cc) in
      subst (λ (m : NodeData). NodeStands f 0 key m) e
      (record {
        here = ap (λ (k : List ℕ). stripe_of k f.config.stripes) same ∙ sym (ap (stripe_of node.key) h.stripes) ∙ home ∙ h.index;
        away = subst (λ (v : Option (List ℕ)). IsAwayBelow (marked f 0) node v) (sym valued) tt;
      })
  node_back key n false test is =
      let r = restoring-keywise s node new sound keyed restores in
      node_left key n (r.rest key (λ e. absurd (let y = (bytes_eq-Decides key node.key).1 e in cc))) is

  pub table_restored : (t : StripeData) → t ≡ record s { slots = new } → TableStands f 0 t
  table_restored t is =
      subst (λ (u : StripeData). TableStands f 0 u) (sym is)
      (record {
        index = h.index;
        stripes = h.stripes;
        eviction = h.eviction;
        blocks = ap length restores.puts ∙ slot_length restores.room (slot_for restores.room node.key) (Some node) ∙ others_length s.eviction s.mark node.key (node_blocks node) s.slots restores.room restores.ejects ∙ h.blocks;
        mark = h.mark;
        state = h.state;
        opened = h.opened;
        nodes = λ key n is. node_back key n (bytes_eq key node.key) refl is;
        shown = λ told. never f not told;
      })

-- What putting a document back leaves of memory: it is there, or others were ejected for it and it isn't.
pub table_put_back : {T E : Type 0} (f : FrontData) (s t : StripeData) (key : List ℕ) (meta : Meta) (value : List ℕ) (result : Result T E) → (world_of f).told ≡ false → IsStripe s → 1 ≤ length key → stripe_of key s.stripes ≡ s.index
    → OnOk result (Restores s.eviction s.mark (blocks (length key) + blocks (length value)) (record { key = key; meta = meta; value = Some value; age = 0 }) s.slots t.slots)
    → OnErr result (EjectsOthers s.eviction s.mark key (blocks (length key) + blocks (length value)) s.slots t.slots)
    → t ≡ record s { slots = t.slots } → TableStands f 0 s → TableStands f 0 t
table_put_back f s t key meta value (Ok done) not sound keyed home restores ejects rest h =
    table_restored f not s t.slots (record { key = key; meta = meta; value = Some value; age = 0 }) value sound keyed home refl restores h t rest
table_put_back f s t key meta value (Err short) not sound keyed home restores ejects rest h =
    subst (λ (u : StripeData). TableStands f 0 u) (sym rest) (ejected_table f 0 key (blocks (length key) + blocks (length value)) s t.slots sound ejects h)

-- A stripe in which a read was ended at its place.
pub stripe_settled : (f : FrontData) (x y : StripePart) (ticket : Ticket) (outcome : Outcome) → (world_of f).told ≡ false → ((other : Ticket) → OutcomeStands f other outcome) → TableStands f 0 y.table
    → y.book ≡ record x.book { places = settled x.book.places ticket outcome } → StripeStands f 0 x → StripeStands f 0 y
stripe_settled f x y ticket outcome not stands table is s =
    record { there = s.there; table = table; book = book_settled f not ticket outcome stands x.book y.book is s.book }
