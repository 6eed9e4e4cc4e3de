-- What a call that puts a document leaves of its stripe: the document's node, others as they were or ejected, and no place of the
-- key.
use Rattle.std.proofs.Common.{◌≡◌, ◌≢◌, inl, inr, ℕ, ◌≤◌, Bool, true, false, cond, List, [], ◌∷◌, length, refl, sym, ap, subst, ◌∙◌, arith}
use Rattle.std.specs.Prelude.{Option, Some, None, ◌||◌}
use Rattle.std.specs.Option.{is_some}
use Rattle.std.specs.List.{AllByRecursion}
use Rattle.std.specs.Str.{bytes_eq}
use Rattle.std.specs.FinMap.{get}
use Rattle.std.proofs.lemmas.Slice.Eq.{bytes_eq-Decides}
use Rattle.std.proofs.lemmas.Bool.Decides.{nat_tests}
use Rattle.ep_model.specs.declared.config.Eviction.{Eviction}
use Rattle.ep_model.specs.declared.config.Eviction.TheVariants.{Value, Full}
use Rattle.ep_model.specs.declared.event.Ticket.{Ticket}
use Rattle.ep_model.specs.declared.data.EventData.{EventData}
use Rattle.ep_model.specs.declared.data.FrontData.{FrontData}
use Rattle.ep_model.specs.World.{Doc, World, meta_of, put}
use Rattle.ep_model.specs.Stripes.{stripe_of}
use Rattle.ep_model.specs.Mutations.{mutation_of}
use Rattle.ep_model.specs.Front.{world_of, with_event, marked}
use Rattle.ep_model.specs.Legal.{IsUnused, IsBelow}
use Rattle.ep_model.proofs.ReadBackLemmas.{get-put, get-put_other}
use Rattle.hold_stage.specs.Waits.{puts_on, IsNoRead, IsAbsent}
use Rattle.hold_stage.proofs.LaterLemmas.{same_told, all_append}
use Rattle.hash_stripe.specs.Nodes.{NodeData, Slot, node_at, is_clean, is_full_eviction, is_ejectable_slot, eject_slot, IsLeft}
use Rattle.hash_stripe.specs.Stripes.{StripeData}
use Rattle.fetch_book.specs.declared.place.Outcome.{Outcome}
use Rattle.fetch_book.specs.declared.place.Outcome.TheVariants as outcomes
use Rattle.fetch_book.specs.declared.place.Place.{Place}
use Rattle.fetch_book.specs.Places.{is_not_keyed, forgotten}
use Rattle.fetch_book.specs.Books.{BookData, next_ticket}
use Rattle.vb_front.specs.Stands.{IsShownValue, IsAwayBelow, NodeStands, NodeShows, IsGone, TableShows, TableStands, OutcomeStands, IsOfBlocks, OutcomeShows, PlaceStands, BookStands}
use Rattle.vb_front.specs.Apart.{failed_later, waiting_later}
use Rattle.vb_front.proofs.AskLemmas.{all_filter, and_left, not_true}

-- an event that puts this document and changes nothing else
pub record IsPutting (f : FrontData) (event : EventData) (key : List ℕ) (doc : Doc) : Type 0 where
  pub world : world_of (with_event f event) ≡ put (world_of f) key doc
  pub puts : mutation_of (world_of f) event ≡ Some (key, doc)
  pub mark : (stripe : ℕ) → marked (with_event f event) stripe ≡ marked f stripe

-- the key's node is this, and each other as it was or ejected
pub record IsWritten (s : StripeData) (new : List Slot) (key : List ℕ) (node : NodeData) : Type 0 where
  pub there : node_at new key ≡ Some node
  pub left : (other : List ℕ) → other ≢ key → IsLeft s.eviction s.mark key (node_at s.slots other) (node_at new other)
  pub size : length new ≡ length s.slots

-- what an ejected document was
pub record WasClean (eviction : Eviction) (mark : ℕ) (old : Slot) (left : Option NodeData) : Type 0 where
  pub was : NodeData
  pub old_is : old ≡ Some was
  pub low : was.meta.seqno ≤ mark
  pub left_is : left ≡ cond (is_full_eviction eviction || was.meta.deleted) None (Some (record was { value = None }))

pub was_clean : (eviction : Eviction) (mark : ℕ) (old new : Slot) → is_ejectable_slot mark old ≡ true → new ≡ eject_slot eviction old → WasClean eviction mark old new
was_clean eviction mark None new test is = absurd (cc)
was_clean eviction mark (Some was) new test is = record {
  was = was;
  old_is = refl;
  low = let t = and_left (is_clean mark was) (is_some was.value || was.meta.deleted) test in grind (arith, nat_tests);
  left_is = is;
}

-- an ejected node that is left
pub left_node : (full deleted : Bool) (was node : NodeData) → cond (full || deleted) None (Some (record was { value = None })) ≡ Some node → (full ≡ false) × (deleted ≡ false) × (node ≡ record was { value = None })
left_node true deleted was node is = absurd (cc)
left_node false true was node is = absurd (cc)
left_node false false was node is = (refl, refl, (let e : record was { value = None } ≡ node = cc in sym e))

pub left_none : (full deleted : Bool) (was : NodeData) → cond (full || deleted) None (Some (record was { value = None })) ≡ None → full ≡ false → deleted ≡ true
left_none full true was is value = refl
left_none full false was is value = absurd (let e = ap (λ b. cond (b || false) None (Some (record was { value = None }))) value in cc)

-- a document that an ejected node was of
pub gone_below : (e : Eviction) (mark : ℕ) (d : Doc) → d.seqno ≤ mark → (is_full_eviction e ≡ false → d.deleted ≡ true) → IsGone e mark (Some d)
gone_below Value mark d low deleted = (low, deleted refl)
gone_below Full mark d low deleted = low

module _ (f : FrontData) (stripe : ℕ) (event : EventData) (key : List ℕ) (doc : Doc) (putting : IsPutting f event key doc) (here : stripe_of key f.config.stripes ≡ stripe) where
  told : (world_of (with_event f event)).told ≡ true → (world_of f).told ≡ true
  told is = sym (same_told f event) ∙ is

  other_doc : (other : List ℕ) → other ≢ key → get (world_of (with_event f event)).docs other ≡ get (world_of f).docs other
  other_doc other differs = ap (λ (w : World). get w.docs other) putting.world ∙ get-put_other (world_of f) key other doc differs

  module _ (s : StripeData) (new : List Slot) (node : NodeData) (value : List ℕ) (resident : node.value ≡ Some value) (w : IsWritten s new key node) (h : TableStands f stripe s)
      (is-doc : (world_of f).told ≡ true → (node.meta ≡ meta_of doc) × (value ≡ doc.value)) where
    mark : marked (with_event f event) stripe ≡ marked f stripe
    mark = putting.mark stripe

    away_at : (level other : ℕ) (n : NodeData) (v : Option (List ℕ)) → other ≡ level → IsAwayBelow level n v → IsAwayBelow other n v
    away_at level other n v same a = subst (λ m. IsAwayBelow m n v) (sym same) a

    own_node : NodeStands (with_event f event) stripe key node
    own_node = record { here = here; away = subst (λ (v : Option (List ℕ)). IsAwayBelow (marked (with_event f event) stripe) node v) (sym resident) tt }

    -- a node of another key
    other_node : (other : List ℕ) (n : NodeData) → other ≢ key → node_at new other ≡ Some n → NodeStands (with_event f event) stripe other n
    other_node other n differs is =
        elim (w.left other differs) as (λ _. NodeStands (with_event f event) stripe other n) [
          | inl same ↦
              let old = h.nodes other n (sym same ∙ is) in
              record { here = old.here; away = away_at (marked f stripe) (marked (with_event f event) stripe) n n.value mark old.away }
          | inr gone ↦
              let c = was_clean s.eviction s.mark (node_at s.slots other) (node_at new other) gone.0 gone.2 in
              let l = left_node (is_full_eviction s.eviction) c.was.meta.deleted c.was n (sym c.left_is ∙ is) in
              let old = h.nodes other c.was c.old_is in
              record {
                here = old.here;
                away = subst (λ (x : NodeData). IsAwayBelow (marked (with_event f event) stripe) x x.value) (sym l.2) ((let a = c.low in let b = h.mark in let d = mark in omega arith), l.1);
              }
        ]

    other_shows : (other : List ℕ) (n : NodeData) → other ≢ key → TableShows f stripe s → node_at new other ≡ Some n → NodeShows (with_event f event) other n
    other_shows other n differs t is =
        elim (w.left other differs) as (λ _. NodeShows (with_event f event) other n) [
          | inl same ↦
              let old = t.nodes other n (sym same ∙ is) in
              record { doc = old.doc; found = other_doc other differs ∙ old.found; meta = old.meta; value = old.value }
          | inr gone ↦
              let c = was_clean s.eviction s.mark (node_at s.slots other) (node_at new other) gone.0 gone.2 in
              let l = left_node (is_full_eviction s.eviction) c.was.meta.deleted c.was n (sym c.left_is ∙ is) in
              let old = t.nodes other c.was c.old_is in
              subst (λ (x : NodeData). NodeShows (with_event f event) other x) (sym l.2) (record { doc = old.doc; found = other_doc other differs ∙ old.found; meta = old.meta; value = tt })
        ]

    other_gone : (other : List ℕ) → other ≢ key → TableShows f stripe s → (world_of f).opened ≡ true → stripe_of other f.config.stripes ≡ stripe → node_at new other ≡ None → IsGone f.config.eviction (marked f stripe) (get (world_of f).docs other)
    other_gone other differs t opened home none =
        elim (w.left other differs) as (λ _. IsGone f.config.eviction (marked f stripe) (get (world_of f).docs other)) [
          | inl same ↦ t.gone opened other home (sym same ∙ none)
          | inr gone ↦
              let c = was_clean s.eviction s.mark (node_at s.slots other) (node_at new other) gone.0 gone.2 in
              let old = t.nodes other c.was c.old_is in
              let low : old.doc.seqno ≤ marked f stripe = (let a = c.low in let b = h.mark in let d = ap (λ m. m.seqno) old.meta in omega arith) in
              let deleted : is_full_eviction f.config.eviction ≡ false → old.doc.deleted ≡ true =
              (λ v. sym (ap (λ m. m.deleted) old.meta) ∙ left_none (is_full_eviction s.eviction) c.was.meta.deleted c.was (sym c.left_is ∙ none) (ap is_full_eviction h.eviction ∙ v)) in
              subst (λ (o : Option Doc). IsGone f.config.eviction (marked f stripe) o) (sym old.found) (gone_below f.config.eviction (marked f stripe) old.doc low deleted)
        ]

    by_key : (P : List ℕ → Type 0) (other : List ℕ) → (other ≡ key → P other) → (other ≢ key → P other) → P other
    by_key P other same differs =
        elim (bytes_eq other key) as (λ b. bytes_eq other key ≡ b → P other) [
          | true ↦ λ t. same ((bytes_eq-Decides other key).0 t)
          | false ↦ λ t. differs (λ e. absurd (let y = (bytes_eq-Decides other key).1 e in cc))
        ] refl

    is_there : (other : List ℕ) (n : NodeData) → other ≡ key → node_at new other ≡ Some n → node ≡ n
    is_there other n same is = let e : Some node ≡ Some n = sym w.there ∙ ap (node_at new) (sym same) ∙ is in cc

    pub table_put : TableStands (with_event f event) stripe (record s { slots = new })
    table_put = record {
      index = h.index;
      stripes = h.stripes;
      eviction = h.eviction;
      blocks = w.size ∙ h.blocks;
      mark = h.mark ∙ sym mark;
      state = h.state ∙ sym (ap (λ (v : World). v.state) putting.world);
      opened = h.opened ∙ sym (ap (λ (v : World). v.opened) putting.world);
      nodes = λ other n is.
          by_key (λ o. NodeStands (with_event f event) stripe o n) other
          (λ same. subst (λ o. NodeStands (with_event f event) stripe o n) (sym same) (subst (λ (x : NodeData). NodeStands (with_event f event) stripe key x) (is_there other n same is) own_node))
          (λ differs. other_node other n differs is);
      shown = λ now_told.
          let before = told now_told in
          let t = h.shown before in
          let d = is-doc before in
          let own : NodeShows (with_event f event) key node = record {
            doc = doc;
            found = ap (λ (v : World). get v.docs key) putting.world ∙ get-put (world_of f) key doc;
            meta = d.0;
            value = subst (λ (v : Option (List ℕ)). IsShownValue doc v) (sym resident) d.1;
          } in
          record {
            nodes = λ other n is.
                by_key (λ o. NodeShows (with_event f event) o n) other
                (λ same. subst (λ o. NodeShows (with_event f event) o n) (sym same) (subst (λ (x : NodeData). NodeShows (with_event f event) key x) (is_there other n same is) own))
                (λ differs. other_shows other n differs t is);
            gone = λ opened other home none.
                by_key (λ o. IsGone f.config.eviction (marked (with_event f event) stripe) (get (world_of (with_event f event)).docs o)) other
                (λ same. absurd (let e : Some node ≡ None = sym w.there ∙ ap (node_at new) (sym same) ∙ none in cc))
                (λ differs.
                subst (λ (o : Option Doc). IsGone f.config.eviction (marked (with_event f event) stripe) o) (sym (other_doc other differs))
                (subst (λ m. IsGone f.config.eviction m (get (world_of f).docs other)) (sym mark) (other_gone other differs t (sym (ap (λ (v : World). v.opened) putting.world) ∙ opened) home none)));
          };
    }

  -- the places of other keys
  outcome_later : (ticket : Ticket) (outcome : Outcome) → IsNoRead ticket event → OutcomeStands f ticket outcome → OutcomeStands (with_event f event) ticket outcome
  outcome_later ticket outcomes.Waiting no_read p = all_append (IsNoRead ticket) f.events (event ∷ []) p (no_read, tt)
  outcome_later ticket outcomes.Merged no_read p = p
  outcome_later ticket outcomes.Absent no_read p = p
  outcome_later ticket (outcomes.Failed fault) no_read p = failed_later f ticket fault event p
  outcome_later ticket outcomes.NoMemory no_read p = p
  outcome_later ticket (outcomes.NoRoom blocks) no_read p = p

  shows_later : (other : List ℕ) (outcome : Outcome) → other ≢ key → OutcomeShows f other outcome → OutcomeShows (with_event f event) other outcome
  shows_later other outcomes.Waiting differs p = p
  shows_later other outcomes.Merged differs p = p
  shows_later other outcomes.Absent differs p = subst IsAbsent (sym (other_doc other differs)) p
  shows_later other (outcomes.Failed fault) differs p = p
  shows_later other outcomes.NoMemory differs p = p
  shows_later other (outcomes.NoRoom blocks) differs p = subst (λ (o : Option Doc). IsOfBlocks other blocks o) (sym (other_doc other differs)) p

  place_later : (place : Place) → IsUnused place.ticket event → IsNoRead place.ticket event → is_not_keyed key place ≡ true → PlaceStands f stripe place → PlaceStands (with_event f event) stripe place
  place_later place unused no_read test p =
      let apart : bytes_eq place.key key ≡ false = not_true (bytes_eq place.key key) test in
      let differs : place.key ≢ key = (λ e. absurd (let y = (bytes_eq-Decides place.key key).1 e in cc)) in
      let turned : bytes_eq key place.key ≡ false = elim (bytes_eq key place.key) as (λ b. bytes_eq key place.key ≡ b → b ≡ false) [ true ↦ λ t. absurd (differs (sym ((bytes_eq-Decides key place.key).0 t))) | false ↦ λ t. refl ] refl in
      record {
        home = p.home;
        here = p.here;
        waiting = waiting_later f place.ticket place.key event (ap (puts_on place.key) putting.puts ∙ turned) p.waiting;
        unused = all_append (IsUnused place.ticket) f.events (event ∷ []) p.unused (unused, tt);
        outcome = outcome_later place.ticket place.outcome no_read p.outcome;
        shown = λ now_told. shows_later place.key place.outcome differs (p.shown (told now_told));
      }

  places_later : (places : List Place) → ((ticket : Ticket) → IsUnused ticket event × IsNoRead ticket event) → AllByRecursion (λ (p : Place). PlaceStands f stripe p × (is_not_keyed key p ≡ true)) places
      → AllByRecursion (PlaceStands (with_event f event) stripe) places
  places_later [] free all = tt
  places_later (place ∷ places) free all = (place_later place (free place.ticket).0 (free place.ticket).1 all.0.1 all.0.0, places_later places free all.1)

  pub book_put : (book : BookData) → ((ticket : Ticket) → IsUnused ticket event × IsNoRead ticket event) → IsBelow (next_ticket book) event → BookStands f stripe book → BookStands (with_event f event) stripe (record book { places = forgotten book.places key })
  book_put book free below b = record {
    home = b.home;
    next = all_append (IsBelow (next_ticket book)) f.events (event ∷ []) b.next (below, tt);
    closed = λ shut. ap (λ (l : List Place). forgotten l key) (b.closed (sym (ap (λ (v : World). v.opened) putting.world) ∙ shut));
    places = places_later (forgotten book.places key) free (all_filter (PlaceStands f stripe) (is_not_keyed key) book.places b.places);
  }
