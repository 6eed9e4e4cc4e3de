-- An event that doesn't touch a part leaves that the part stands.
use Rattle.std.proofs.Common.{◌≡◌, ℕ, ◌≤◌, true, false, List, [], ◌∷◌, sym, ap, subst, ◌∙◌}
use Rattle.std.specs.Prelude.{Option, Some, nat_lt, All, take, drop}
use Rattle.std.specs.List.{AllByRecursion}
use Rattle.std.specs.FinMap.{get}
use Rattle.ep_model.specs.declared.event.PartName.TheVariants.{Stripe, Queue, Desk}
use Rattle.ep_model.specs.declared.event.Ticket.{Ticket}
use Rattle.ep_model.specs.declared.data.EventData.{EventData}
use Rattle.ep_model.specs.declared.data.FrontData.{FrontData}
use Rattle.ep_model.specs.World.{Doc, World, Item}
use Rattle.ep_model.specs.Stripes.{stripe_of}
use Rattle.ep_model.specs.Front.{world_of, with_event, marked}
use Rattle.ep_model.specs.Legal.{IsUnused, IsBelow, May, IsLegal}
use Rattle.ep_model.specs.Checkpoints.{Checkpoints, cut, all_items}
use Rattle.hold_stage.specs.Waits.{IsNoRead, IsAbsent}
use Rattle.hold_stage.specs.Touches.{touches}
use Rattle.hold_stage.proofs.ViewLemmas.{SameStripe, frame_step, step_mark, step_below}
use Rattle.hold_stage.proofs.LaterLemmas.{same_told, world_step, all_append}
use Rattle.hold_stage.proofs.BoundLemmas.{marked_step}
use Rattle.hash_stripe.specs.Nodes.{NodeData, node_at}
use Rattle.hash_stripe.specs.Stripes.{StripeData}
use Rattle.fetch_book.specs.declared.place.Outcome.{Outcome}
use Rattle.fetch_book.specs.declared.place.Outcome.TheVariants as outcomes
use Rattle.fetch_book.specs.declared.place.Place.{Place}
use Rattle.fetch_book.specs.Books.{BookData, next_ticket}
use Rattle.ckpt_items.specs.declared.data.ItemData.{ItemData}
use Rattle.ckpt_manager.specs.declared.data.QueueData.{QueueData}
use Rattle.vb_front.specs.declared.part.StripePart.{StripePart}
use Rattle.vb_front.specs.Stands.{IsAwayBelow, NodeStands, NodeShows, IsGone, TableShows, TableStands, OutcomeStands, IsOfBlocks, OutcomeShows, PlaceStands, BookStands, StripeStands, IsItem, AreItems, IsPassed, QueueStands}
use Rattle.vb_front.specs.Apart.{put_apart, unused_apart, no_read_apart, failed_later, waiting_later, world_stripe, world_queue, same_cut, world_desk}

-- a stripe whose mark and documents an event leaves
module _ (f : FrontData) (stripe : ℕ) (event : EventData) (there : nat_lt stripe f.config.stripes ≡ true) (apart : touches f event (Stripe stripe) ≡ false) where
  same : SameStripe f.config.stripes stripe (world_of f) (world_of (with_event f event))
  same = world_stripe f stripe event there apart

  told : (world_of (with_event f event)).told ≡ true → (world_of f).told ≡ true
  told is = sym (same_told f event) ∙ is

  mark : marked (with_event f event) stripe ≡ marked f stripe
  mark = marked_step f event stripe ∙ step_mark f stripe (marked f stripe) event apart

  node_keeps : (key : List ℕ) (node : NodeData) → NodeStands f stripe key node
      → NodeStands (with_event f event) stripe key node
  node_keeps key node n = record { here = n.here; away = subst (λ m. IsAwayBelow m node node.value) (sym mark) n.away }

  shows_keeps : (key : List ℕ) (node : NodeData) → stripe_of key f.config.stripes ≡ stripe → NodeShows f key node
      → NodeShows (with_event f event) key node
  shows_keeps key node here n = record { doc = n.doc; found = same.docs key here ∙ n.found; meta = n.meta; value = n.value }

  table_shows : (s : StripeData)
      → ((key : List ℕ) (node : NodeData) → node_at s.slots key ≡ Some node → NodeStands f stripe key node)
      → TableShows f stripe s → TableShows (with_event f event) stripe s
  table_shows s nodes h = record {
    nodes = λ key node is. shows_keeps key node (nodes key node is).here (h.nodes key node is);
    gone = λ opened key here none-there.
        subst (λ (o : Option Doc). IsGone f.config.eviction (marked (with_event f event) stripe) o) (sym (same.docs key here))
        (subst (λ m. IsGone f.config.eviction m (get (world_of f).docs key)) (sym mark) (h.gone (sym same.opened ∙ opened) key here none-there));
  }

  pub table_keeps : (s : StripeData) → TableStands f stripe s → TableStands (with_event f event) stripe s
  table_keeps s h = record {
    index = h.index;
    stripes = h.stripes;
    eviction = h.eviction;
    blocks = h.blocks;
    mark = h.mark ∙ sym mark;
    state = h.state ∙ sym same.state;
    opened = h.opened ∙ sym same.opened;
    nodes = λ key node is. node_keeps key node (h.nodes key node is);
    shown = λ is. table_shows s h.nodes (h.shown (told is));
  }

  outcome_keeps : (ticket : Ticket) (outcome : Outcome) → ticket.stripe ≡ stripe → OutcomeStands f ticket outcome
      → OutcomeStands (with_event f event) ticket outcome
  outcome_keeps ticket outcomes.Waiting home h = all_append (IsNoRead ticket) f.events (event ∷ []) h (no_read_apart f ticket event (ap (λ n. touches f event (Stripe n)) home ∙ apart), tt)
  outcome_keeps ticket outcomes.Merged home h = h
  outcome_keeps ticket outcomes.Absent home h = h
  outcome_keeps ticket (outcomes.Failed fault) home h = failed_later f ticket fault event h
  outcome_keeps ticket outcomes.NoMemory home h = h
  outcome_keeps ticket (outcomes.NoRoom blocks) home h = h

  outcome_shows : (key : List ℕ) (outcome : Outcome) → stripe_of key f.config.stripes ≡ stripe
      → OutcomeShows f key outcome → OutcomeShows (with_event f event) key outcome
  outcome_shows key outcomes.Waiting here h = h
  outcome_shows key outcomes.Merged here h = h
  outcome_shows key outcomes.Absent here h = subst IsAbsent (sym (same.docs key here)) h
  outcome_shows key (outcomes.Failed fault) here h = h
  outcome_shows key outcomes.NoMemory here h = h
  outcome_shows key (outcomes.NoRoom blocks) here h = subst (λ (o : Option Doc). IsOfBlocks key blocks o) (sym (same.docs key here)) h

  place_keeps : IsLegal f → May f event → (place : Place) → PlaceStands f stripe place
      → PlaceStands (with_event f event) stripe place
  place_keeps legal may place h =
      let away : touches f event (Stripe place.ticket.stripe) ≡ false = ap (λ n. touches f event (Stripe n)) h.home ∙ apart in
      record {
        home = h.home;
        here = h.here;
        waiting = waiting_later f place.ticket place.key event (put_apart f stripe (world_of f) event place.key h.here apart) h.waiting;
        unused = all_append (IsUnused place.ticket) f.events (event ∷ []) h.unused (unused_apart f place.ticket event legal may away, tt);
        outcome = outcome_keeps place.ticket place.outcome h.home h.outcome;
        shown = λ is. outcome_shows place.key place.outcome h.here (h.shown (told is));
      }

  places_keep : IsLegal f → May f event → (places : List Place) → AllByRecursion (PlaceStands f stripe) places
      → AllByRecursion (PlaceStands (with_event f event) stripe) places
  places_keep legal may [] h = tt
  places_keep legal may (place ∷ places) h = (place_keeps legal may place h.0, places_keep legal may places h.1)

  pub book_keeps : (book : BookData) → IsLegal f → May f event → BookStands f stripe book
      → BookStands (with_event f event) stripe book
  book_keeps book legal may h = record {
    home = h.home;
    next = all_append (IsBelow (next_ticket book)) f.events (event ∷ []) h.next (step_below f (next_ticket book) event (ap (λ n. touches f event (Stripe n)) h.home ∙ apart), tt);
    closed = λ shut. h.closed (sym same.opened ∙ shut);
    places = places_keep legal may book.places h.places;
  }

-- an event that doesn't touch a stripe leaves that it stands
pub stripe_keeps : (stripe : ℕ) (f : FrontData) (event : EventData) (x : StripePart) → IsLegal f → May f event
    → touches f event (Stripe stripe) ≡ false → StripeStands f stripe x → StripeStands (with_event f event) stripe x
stripe_keeps stripe f event x legal may apart s = record {
  there = s.there;
  table = table_keeps f stripe event s.there apart x.table s.table;
  book = book_keeps f stripe event s.there apart x.book legal may s.book;
}

-- no event changes the failover table
pub same_table : (f : FrontData) (event : EventData)
    → (world_of (with_event f event)).failovers ≡ (world_of f).failovers
same_table f event = ap (λ (w : World). w.failovers) (world_step f event) ∙ (frame_step (world_of f) event).failovers

-- items are what they were
item_keeps : (f : FrontData) (event : EventData) (x : ItemData) (item : Item) → IsItem f x item
    → IsItem (with_event f event) x item
item_keeps f event x item h = record { key = h.key; number = h.number; cas = h.cas; shown = λ is. h.shown (sym (same_told f event) ∙ is) }

pub items_keep : (f : FrontData) (event : EventData) (held : List ItemData) (items : List Item) → AreItems f held items
    → AreItems (with_event f event) held items
items_keep f event [] [] h = tt
items_keep f event [] (item ∷ items) h = h
items_keep f event (x ∷ held) [] h = h
items_keep f event (x ∷ held) (item ∷ items) h = (item_keeps f event x item h.0, items_keep f event held items h.1)

-- an event that doesn't touch the queue leaves that it stands
pub queue_keeps : (f : FrontData) (event : EventData) (q : QueueData) → touches f event Queue ≡ false → QueueStands f q
    → QueueStands (with_event f event) q
queue_keeps f event q apart s =
    let same = world_queue f event apart in
    let cuts : cut (with_event f event) ≡ cut f = same_cut f event apart in
    record {
      blocks = s.blocks;
      ckpt_max = s.ckpt_max;
      high = s.high ∙ sym same.high;
      maxcas = s.maxcas ∙ sym same.maxcas;
      persisted = s.persisted ∙ sym same.persisted;
      table = s.table ∙ sym (same_table f event);
      state = s.state ∙ sym same.state;
      opened = s.opened ∙ sym same.opened;
      id = s.id ∙ sym (ap (λ (c : Checkpoints). c.last.id) cuts);
      behind = subst (λ n. n ≤ q.cursor) (sym same.persisted) s.behind;
      ahead = subst (λ n. q.cursor ≤ n) (sym same.high) s.ahead;
      named = subst (λ n. All (λ (c : ℕ × ℕ). c.1 ≤ n) q.named) (sym same.high) s.named;
      expelled = s.expelled;
      passed = subst (λ (c : Checkpoints). AllByRecursion (IsPassed q) (take s.expelled (all_items c.closed))) (sym cuts) s.passed;
      closed = subst (λ (c : Checkpoints). AreItems (with_event f event) q.closed (drop s.expelled (all_items c.closed))) (sym cuts) (items_keep f event q.closed (drop s.expelled (all_items (cut f).closed)) s.closed);
      last = subst (λ (c : Checkpoints). AreItems (with_event f event) q.last c.last.items) (sym cuts) (items_keep f event q.last (cut f).last.items s.last);
    }

-- an event that doesn't touch the desk leaves what is persisted
pub desk_keeps : (f : FrontData) (event : EventData) (number : ℕ) → touches f event Desk ≡ false
    → number ≡ (world_of f).persisted → number ≡ (world_of (with_event f event)).persisted
desk_keeps f event number apart is = is ∙ sym (world_desk f event apart)
