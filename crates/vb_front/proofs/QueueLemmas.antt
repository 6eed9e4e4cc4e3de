-- What the events that change a queue leave: the queue that did the same stands behind them.
use Rattle.std.proofs.Common.{◌≡◌, ◌≢◌, ℕ, ◌+◌, ◌<◌, ◌≤◌, min, max, suc, zero, true, false, not, ◌||◌, cond, List, [], ◌∷◌, ◌++◌, length, take, drop, refl, sym, ap, subst, ◌∙◌, arith, append_assoc, append-nil}
use Rattle.std.specs.Prelude.{Option, Some, All, ◌==◌, nat_le, is_none}
use Rattle.std.specs.List.{AllByRecursion, find}
use Rattle.std.specs.Str.{bytes_eq}
use Rattle.std.proofs.lemmas.List.Elements.{All-head, All-tail, All-weaker}
use Rattle.std.proofs.lemmas.Bool.Decides.{nat_tests}
use Rattle.ep_model.specs.declared.call.Meta.{Meta}
use Rattle.ep_model.specs.declared.call.Reply.{Reply}
use Rattle.ep_model.specs.declared.call.VbState.{VbState}
use Rattle.ep_model.specs.declared.data.CallData.{CallData}
use Rattle.ep_model.specs.declared.data.CallData.TheVariants as calls
use Rattle.ep_model.specs.declared.data.CheckpointData.{CheckpointData}
use Rattle.ep_model.specs.declared.data.EventData.{EventData}
use Rattle.ep_model.specs.declared.data.EventData.TheVariants.{Called, Refused, Expired, Persisted, Marked, Asked, ReadFailed, Opened}
use Rattle.ep_model.specs.declared.data.FrontData.{FrontData}
use Rattle.ep_model.specs.World.{Doc, World, doc_from, next_doc, put, tombstone, Item}
use Rattle.ep_model.specs.Calls.{written_key}
use Rattle.ep_model.specs.Answer.{Effect, Nothing, Puts, Sets, answer, apply}
use Rattle.ep_model.specs.History.{seen_put, seen_effect, call_effect, step}
use Rattle.ep_model.specs.Mutations.{put_by, mutation_of}
use Rattle.ep_model.specs.Front.{world_of, with_event}
use Rattle.ep_model.specs.Legal.{May}
use Rattle.ep_model.specs.Checkpoints.{Checkpoints, then_opened, closed_at, has_item, but_item, queued, queued_if, cut_after, cut, all_items}
use Rattle.ep_model.proofs.EffectLemmas.{call_told}
use Rattle.hold_stage.proofs.LaterLemmas.{world_step}
use Rattle.hold_stage.proofs.MutationLemmas.{IsNextPut, mutation_is_next}
use Rattle.ckpt_items.specs.declared.data.ItemData.{ItemData}
use Rattle.ckpt_items.specs.Items.{is_of}
use Rattle.ckpt_manager.specs.declared.data.QueueData.{QueueData}
use Rattle.ckpt_manager.specs.Queue.{held, without_key, item_of, closed, thinned, put_last, queued as queue_with, lowest, least_cursor, moved_up, stored}
use Rattle.ckpt_manager.proofs.QueueLemmas.{clear-cases}
use Rattle.vb_front.specs.Stands.{IsItem, AreItems, IsPassed, QueueStands}
use Rattle.vb_front.specs.Apart.{cut_step}
use Rattle.vb_front.specs.Keeps.{items_keep}
use Rattle.vb_front.specs.Queues.{IsPutBy, PutsNothing, QueuesTakeMutations, QueuesTakeCalls, QueuesStandBehindAnswers, QueuesStandBehindRefusals, QueuesSetStates, QueuesOpen, QueuesExpel, QueuesStore, QueuesAreRead, QueuesAreReadAgain}
use Rattle.vb_front.proofs.CalmLemmas.{calm_called, calm_refused, queue_calm}

-- A queue is that of a world with these checkpoints, whose documents are known as those of the front are.
pub record Fits (f : FrontData) (w : World) (c : Checkpoints) (q : QueueData) : Type 0 where
  pub blocks : q.blocks ≡ f.config.ckpt_blocks
  pub ckpt_max : q.ckpt_max ≡ f.config.ckpt_max
  pub high : q.high ≡ w.high
  pub maxcas : q.maxcas ≡ w.maxcas
  pub persisted : q.persisted ≡ w.persisted
  pub table : q.table ≡ w.failovers
  pub state : q.state ≡ w.state
  pub opened : q.opened ≡ w.opened
  pub id : q.id ≡ c.last.id
  pub behind : w.persisted ≤ q.cursor
  pub ahead : q.cursor ≤ w.high
  pub named : All (λ (p : ℕ × ℕ). p.1 ≤ w.high) q.named
  pub expelled : ℕ
  pub passed : AllByRecursion (IsPassed q) (take expelled (all_items c.closed))
  pub closed : AreItems f q.closed (drop expelled (all_items c.closed))
  pub last : AreItems f q.last c.last.items

pub fits_of : (f : FrontData) (q : QueueData) → QueueStands f q → Fits f (world_of f) (cut f) q
fits_of f q s = record {
  blocks = s.blocks;
  ckpt_max = s.ckpt_max;
  high = s.high;
  maxcas = s.maxcas;
  persisted = s.persisted;
  table = s.table;
  state = s.state;
  opened = s.opened;
  id = s.id;
  behind = s.behind;
  ahead = s.ahead;
  named = s.named;
  expelled = s.expelled;
  passed = s.passed;
  closed = s.closed;
  last = s.last;
}

-- so it stands where these are the world and the checkpoints behind an event
stands_behind : (f : FrontData) (event : EventData) (w : World) (c : Checkpoints) (q : QueueData) → world_of (with_event f event) ≡ w → cut (with_event f event) ≡ c → Fits f w c q → QueueStands (with_event f event) q
stands_behind f event w c q world cuts s = record {
  blocks = s.blocks;
  ckpt_max = s.ckpt_max;
  high = s.high ∙ sym (ap (λ (v : World). v.high) world);
  maxcas = s.maxcas ∙ sym (ap (λ (v : World). v.maxcas) world);
  persisted = s.persisted ∙ sym (ap (λ (v : World). v.persisted) world);
  table = s.table ∙ sym (ap (λ (v : World). v.failovers) world);
  state = s.state ∙ sym (ap (λ (v : World). v.state) world);
  opened = s.opened ∙ sym (ap (λ (v : World). v.opened) world);
  id = s.id ∙ sym (ap (λ (d : Checkpoints). d.last.id) cuts);
  behind = subst (λ (v : World). v.persisted ≤ q.cursor) (sym world) s.behind;
  ahead = subst (λ (v : World). q.cursor ≤ v.high) (sym world) s.ahead;
  named = subst (λ (v : World). All (λ (p : ℕ × ℕ). p.1 ≤ v.high) q.named) (sym world) s.named;
  expelled = s.expelled;
  passed = subst (λ (d : Checkpoints). AllByRecursion (IsPassed q) (take s.expelled (all_items d.closed))) (sym cuts) s.passed;
  closed = subst (λ (d : Checkpoints). AreItems (with_event f event) q.closed (drop s.expelled (all_items d.closed))) (sym cuts) (items_keep f event q.closed (drop s.expelled (all_items c.closed)) s.closed);
  last = subst (λ (d : Checkpoints). AreItems (with_event f event) q.last d.last.items) (sym cuts) (items_keep f event q.last c.last.items s.last);
}

-- items that are held, one list behind the other
pub items_append : (f : FrontData) (xs ys : List ItemData) (ds es : List Item) → AreItems f xs ds → AreItems f ys es → AreItems f (xs ++ ys) (ds ++ es)
items_append f [] ys [] es h k = k
items_append f [] ys (a ∷ ds) es h k = absurd h
items_append f (x ∷ xs) ys [] es h k = absurd h
items_append f (x ∷ xs) ys (a ∷ ds) es h k = (h.0, items_append f xs ys ds es h.1 k)

-- but for those of a key
pub items_but : (f : FrontData) (key : List ℕ) (xs : List ItemData) (ds : List Item) → AreItems f xs ds → AreItems f (without_key xs key) (but_item key ds)
items_but f key [] [] h = tt
items_but f key [] (a ∷ ds) h = absurd h
items_but f key (x ∷ xs) [] h = absurd h
items_but f key (x ∷ xs) (a ∷ ds) h =
    let rest = items_but f key xs ds h.1 in
    subst (λ (k : List ℕ). AreItems f (cond (not (bytes_eq k key)) (x ∷ without_key xs key) (without_key xs key)) (but_item key (a ∷ ds))) (sym h.0.key)
    (elim (bytes_eq a.0 key) as (λ b. AreItems f (cond (not b) (x ∷ without_key xs key) (without_key xs key)) (cond (not b) (a ∷ but_item key ds) (but_item key ds))) [
      | true ↦ rest
      | false ↦ (h.0, rest)
    ])

-- whether there is one of a key
items_have : (f : FrontData) (key : List ℕ) (xs : List ItemData) (ds : List Item) → AreItems f xs ds → has_item key ds ≡ not (is_none (find (is_of key) xs))
items_have f key [] [] h = refl
items_have f key [] (a ∷ ds) h = absurd h
items_have f key (x ∷ xs) [] h = absurd h
items_have f key (x ∷ xs) (a ∷ ds) h =
    ap (λ b. bytes_eq a.0 key || b) (items_have f key xs ds h.1)
    ∙ (elim (bytes_eq a.0 key) as (λ b. b || not (is_none (find (is_of key) xs)) ≡ not (is_none (cond b (Some x) (find (is_of key) xs)))) [ true ↦ refl | false ↦ refl ])
    ∙ ap (λ (k : List ℕ). not (is_none (cond (bytes_eq k key) (Some x) (find (is_of key) xs)))) (sym h.0.key)

items_length : (f : FrontData) (xs : List ItemData) (ds : List Item) → AreItems f xs ds → length xs ≡ length ds
items_length f [] [] h = refl
items_length f [] (a ∷ ds) h = absurd h
items_length f (x ∷ xs) [] h = absurd h
items_length f (x ∷ xs) (a ∷ ds) h = ap suc (items_length f xs ds h.1)

pub items_drop : (f : FrontData) (n : ℕ) (xs : List ItemData) (ds : List Item) → AreItems f xs ds → AreItems f (drop n xs) (drop n ds)
items_drop f zero xs ds h = h
items_drop f (suc n) [] [] h = tt
items_drop f (suc n) [] (a ∷ ds) h = absurd h
items_drop f (suc n) (x ∷ xs) [] h = absurd h
items_drop f (suc n) (x ∷ xs) (a ∷ ds) h = items_drop f n xs ds h.1

-- a key that has none
pub but_none : (key : List ℕ) (items : List Item) → has_item key items ≡ false → but_item key items ≡ items
but_none key [] none = refl
but_none key (item ∷ items) none =
    elim (bytes_eq item.0 key) as (λ b. b || has_item key items ≡ false → cond (not b) (item ∷ but_item key items) (but_item key items) ≡ item ∷ items) [
      | true ↦ λ e. absurd (cc)
      | false ↦ λ e. ap (λ (l : List Item). item ∷ l) (but_none key items e)
    ] none

-- the items of a checkpoint more
pub all_items_last : (cs : List CheckpointData) (c : CheckpointData) → all_items (cs ++ c ∷ []) ≡ all_items cs ++ c.items
all_items_last [] c = append-nil c.items
all_items_last (x ∷ cs) c = ap (λ (l : List Item). x.items ++ l) (all_items_last cs c) ∙ sym (append_assoc x.items (all_items cs) c.items)

-- Of the closed items so many of the oldest are gone, and the others held.
record AreClosed (f : FrontData) (P : Item → Type 0) (xs : List ItemData) (ds : List Item) : Type 0 where
  gone : ℕ
  passed : AllByRecursion P (take gone ds)
  held : AreItems f xs (drop gone ds)

-- with more behind them
closed_more : (f : FrontData) (P : Item → Type 0) (n : ℕ) (xs ys : List ItemData) (ds es : List Item) → AllByRecursion P (take n ds) → AreItems f xs (drop n ds) → AreItems f ys es → AreClosed f P (xs ++ ys) (ds ++ es)
closed_more f P zero xs ys ds es p h k = record { gone = 0; passed = tt; held = items_append f xs ys ds es h k }
closed_more f P (suc n) xs ys [] es p h k = record { gone = 0; passed = tt; held = items_append f xs ys [] es h k }
closed_more f P (suc n) xs ys (a ∷ ds) es p h k =
    let rest = closed_more f P n xs ys ds es p.1 h k in
    record { gone = suc rest.gone; passed = (p.0, rest.passed); held = rest.held }

-- the open checkpoint is closed
closed_open : (f : FrontData) (w : World) (c : Checkpoints) (q : QueueData) → Fits f w c q → AreClosed f (IsPassed q) (held q) (all_items (c.closed ++ c.last ∷ []))
closed_open f w c q s =
    subst (AreClosed f (IsPassed q) (held q)) (sym (all_items_last c.closed c.last)) (closed_more f (IsPassed q) s.expelled q.closed q.last (all_items c.closed) c.last.items s.passed s.closed s.last)

-- where a mutation goes in the checkpoints
queued_over : (most : ℕ) (item : Item) (c : Checkpoints) → has_item item.0 c.last.items ≡ true → queued most item c ≡ record c { last = record c.last { items = but_item item.0 c.last.items ++ item ∷ [] } }
queued_over most item c has =
    ap (λ b. cond b (record c { last = record c.last { items = but_item item.0 c.last.items ++ item ∷ [] } }) (cond (nat_le most (length c.last.items)) (then_opened c (item ∷ [])) (record c { last = record c.last { items = c.last.items ++ item ∷ [] } }))) has

queued_next : (most : ℕ) (item : Item) (c : Checkpoints) → has_item item.0 c.last.items ≡ false → queued most item c ≡ cond (nat_le most (length c.last.items)) (then_opened c (item ∷ [])) (record c { last = record c.last { items = c.last.items ++ item ∷ [] } })
queued_next most item c none =
    ap (λ b. cond b (record c { last = record c.last { items = but_item item.0 c.last.items ++ item ∷ [] } }) (cond (nat_le most (length c.last.items)) (then_opened c (item ∷ [])) (record c { last = record c.last { items = c.last.items ++ item ∷ [] } }))) none

least_test : (a b : ℕ) → a ≤ b → nat_le a b ≡ true
least_test a b le = grind (arith, nat_tests)

more_test : (a b : ℕ) → b < a → nat_le a b ≡ false
more_test a b lower = grind (arith, nat_tests)

queued_full : (most : ℕ) (item : Item) (c : Checkpoints) → has_item item.0 c.last.items ≡ false → most ≤ length c.last.items → queued most item c ≡ then_opened c (item ∷ [])
queued_full most item c none full =
    queued_next most item c none
    ∙ ap (λ b. cond b (then_opened c (item ∷ [])) (record c { last = record c.last { items = c.last.items ++ item ∷ [] } })) (least_test most (length c.last.items) full)

queued_free : (most : ℕ) (item : Item) (c : Checkpoints) → has_item item.0 c.last.items ≡ false → length c.last.items < most → queued most item c ≡ record c { last = record c.last { items = but_item item.0 c.last.items ++ item ∷ [] } }
queued_free most item c none free =
    queued_next most item c none
    ∙ ap (λ b. cond b (then_opened c (item ∷ [])) (record c { last = record c.last { items = c.last.items ++ item ∷ [] } })) (more_test most (length c.last.items) free)
    ∙ ap (λ (l : List Item). record c { last = record c.last { items = l ++ item ∷ [] } }) (sym (but_none item.0 c.last.items none))

-- a mutation is put last, in place of an older item of its key, or behind a checkpoint that it closes
module _ (f : FrontData) (w : World) (c : Checkpoints) (q : QueueData) (key : List ℕ) (meta : Meta) (value : List ℕ) (doc : Doc) (s : Fits f w c q) (number : doc.seqno ≡ w.high + 1) (cas : meta.cas ≡ doc.cas)
    (shown : (world_of f).told ≡ true → doc_from (item_of key meta value (q.high + 1)).meta value ≡ doc) where
  next_high : q.high + 1 ≡ doc.seqno
  next_high = let h = s.high in omega arith

  next_item : IsItem f (item_of key meta value (q.high + 1)) (key, doc)
  next_item = record { key = refl; number = next_high; cas = cas; shown = shown }

  named_on : All (λ (p : ℕ × ℕ). p.1 ≤ doc.seqno) q.named
  named_on = All-weaker (λ (p : ℕ × ℕ). p.1 ≤ w.high) (λ (p : ℕ × ℕ). p.1 ≤ doc.seqno) (λ (p : ℕ × ℕ) h. omega arith) q.named s.named

  fits_thinned : Fits f (put w key doc) (record c { last = record c.last { items = but_item key c.last.items ++ (key, doc) ∷ [] } }) (put_last (thinned q key) key meta value)
  fits_thinned = record {
    blocks = s.blocks;
    ckpt_max = s.ckpt_max;
    high = next_high;
    maxcas = cas;
    persisted = s.persisted;
    table = s.table;
    state = s.state;
    opened = s.opened;
    id = s.id;
    behind = s.behind;
    ahead = let a = s.ahead in omega arith;
    named = named_on;
    expelled = s.expelled;
    passed = s.passed;
    closed = s.closed;
    last = items_append f (without_key q.last key) (item_of key meta value (q.high + 1) ∷ []) (but_item key c.last.items) ((key, doc) ∷ []) (items_but f key q.last c.last.items s.last) (next_item, tt);
  }

  fits_closed : Fits f (put w key doc) (then_opened c ((key, doc) ∷ [])) (put_last (closed q) key meta value)
  fits_closed =
      let all = closed_open f w c q s in
      record {
        blocks = s.blocks;
        ckpt_max = s.ckpt_max;
        high = next_high;
        maxcas = cas;
        persisted = s.persisted;
        table = s.table;
        state = s.state;
        opened = s.opened;
        id = ap (λ n. n + 1) s.id;
        behind = s.behind;
        ahead = let a = s.ahead in omega arith;
        named = named_on;
        expelled = all.gone;
        passed = all.passed;
        closed = all.held;
        last = (next_item, tt);
      }

  fits_queued : Fits f (put w key doc) (queued f.config.ckpt_max (key, doc) c) (queue_with q key meta value)
  fits_queued =
      let same = items_length f q.last c.last.items s.last in
      let max_is = s.ckpt_max in
      let has = items_have f key q.last c.last.items s.last in
      clear-cases q key (λ (p : QueueData). Fits f (put w key doc) (queued f.config.ckpt_max (key, doc) c) (put_last p key meta value))
      (λ none full.
      subst (λ (d : Checkpoints). Fits f (put w key doc) d (put_last (closed q) key meta value))
      (sym (queued_full f.config.ckpt_max (key, doc) c (has ∙ ap (λ (o : Option ItemData). not (is_none o)) none) (omega arith))) fits_closed)
      (λ none free.
      subst (λ (d : Checkpoints). Fits f (put w key doc) d (put_last (thinned q key) key meta value))
      (sym (queued_free f.config.ckpt_max (key, doc) c (has ∙ ap (λ (o : Option ItemData). not (is_none o)) none) (omega arith))) fits_thinned)
      (λ j found.
      subst (λ (d : Checkpoints). Fits f (put w key doc) d (put_last (thinned q key) key meta value))
      (sym (queued_over f.config.ckpt_max (key, doc) c (has ∙ ap (λ (o : Option ItemData). not (is_none o)) found))) fits_thinned)

-- an event that puts a document stores nothing
puts_cut : (most : ℕ) (w : World) (c : Checkpoints) (event : EventData) (item : Item) → mutation_of w event ≡ Some item → cut_after most w c event ≡ queued most item c
puts_cut most w c (Called caller call now reply value) item is = ap (λ p. queued_if most p c) is
puts_cut most w c (Refused caller call now cause) item is = absurd (cc)
puts_cut most w c (Expired key now) item is = ap (λ p. queued_if most p c) is
puts_cut most w c (Persisted number) item is = absurd (cc)
puts_cut most w c (Marked stripe number) item is = absurd (cc)
puts_cut most w c (Asked ticket caller call) item is = absurd (cc)
puts_cut most w c (ReadFailed ticket fault) item is = absurd (cc)
puts_cut most w c Opened item is = absurd (cc)

effect_put : (w : World) (effect : Effect) (key : List ℕ) (doc : Doc) → put_by effect ≡ Some (key, doc) → apply w effect ≡ put w key doc
effect_put w Nothing key doc is = absurd (cc)
effect_put w (Puts k d) key doc is = let e : (k, d) ≡ (key, doc) = cc in ap (λ (item : Item). put w item.0 item.1) e
effect_put w (Sets state) key doc is = absurd (cc)

pub puts_world : (w : World) (event : EventData) (key : List ℕ) (doc : Doc) → mutation_of w event ≡ Some (key, doc) → step w event ≡ put w key doc
puts_world w (Called caller call now reply value) key doc is = effect_put w (call_effect w call now reply) key doc is
puts_world w (Refused caller call now cause) key doc is = absurd (cc)
puts_world w (Expired k now) key doc is = effect_put w (Puts k (tombstone w now)) key doc is
puts_world w (Persisted number) key doc is = absurd (cc)
puts_world w (Marked stripe number) key doc is = absurd (cc)
puts_world w (Asked ticket caller call) key doc is = absurd (cc)
puts_world w (ReadFailed ticket fault) key doc is = absurd (cc)
puts_world w Opened key doc is = absurd (cc)

puts_next : (w : World) (event : EventData) (key : List ℕ) (doc : Doc) → mutation_of w event ≡ Some (key, doc) → doc.seqno ≡ w.high + 1
puts_next w event key doc is = (subst (λ (p : Option Item). IsNextPut w p) is (mutation_is_next w event)).0

-- An event that puts a document, and the queue that has taken it: it stands behind the event. The queue's metadata have the
-- document's CAS, and where documents are known all of it.
pub queue_puts : QueuesTakeMutations
queue_puts f event q key meta value doc is cas shown s =
    stands_behind f event (put (world_of f) key doc) (queued f.config.ckpt_max (key, doc) (cut f)) (queue_with q key meta value)
    (world_step f event ∙ puts_world (world_of f) event key doc is)
    (cut_step f event ∙ puts_cut f.config.ckpt_max (world_of f) (cut f) event (key, doc) is)
    (fits_queued f (world_of f) (cut f) q key meta value doc (fits_of f q s) (puts_next (world_of f) event key doc is) cas shown)

-- what a call did that writes a key, as its reply alone tells it
seen_written : (w : World) (call : CallData) (now : ℕ) (reply : Reply) (key : List ℕ) → written_key call ≡ Some key → seen_effect w call now reply ≡ seen_put w now reply.seqno (Some key)
seen_written w (calls.Get k) now reply key is = absurd (cc)
seen_written w (calls.Store kind k value flags expiration cas) now reply key is = ap (λ o. seen_put w now reply.seqno o) is
seen_written w (calls.Join front k value cas) now reply key is = ap (λ o. seen_put w now reply.seqno o) is
seen_written w (calls.Count down k delta initial expiration cas) now reply key is = ap (λ o. seen_put w now reply.seqno o) is
seen_written w (calls.Delete k cas) now reply key is = ap (λ o. seen_put w now reply.seqno o) is
seen_written w (calls.Touch k expiration fetch) now reply key is = ap (λ o. seen_put w now reply.seqno o) is
seen_written w (calls.Observe uuid) now reply key is = absurd (cc)
seen_written w calls.Failovers now reply key is = absurd (cc)
seen_written w (calls.SetState state) now reply key is = absurd (cc)
seen_written w calls.GetState now reply key is = absurd (cc)

no_number : (n : ℕ) → n ≢ 0 → (n == 0) ≡ false
no_number n differ = grind (arith, nat_tests)

untold_effect : (w : World) (call : CallData) (now : ℕ) (reply : Reply) → w.told ≡ false → call_effect w call now reply ≡ seen_effect w call now reply
unfolding call_effect
untold_effect w call now reply untold = ap (λ b. cond b (answer w call now).effect (seen_effect w call now reply)) untold

-- The document that a call puts which was answered so: where documents are known, the one of these metadata and this value.
pub call_puts : (f : FrontData) (caller : ℕ) (call : CallData) (now : ℕ) (reply : Reply) (text key : List ℕ) (meta : Meta) (value : List ℕ) → IsPutBy f call now reply key meta value
    → (doc : Doc) × (mutation_of (world_of f) (Called caller call now reply text) ≡ Some (key, doc)) × (meta.cas ≡ doc.cas) × ((world_of f).told ≡ true → doc_from (item_of key meta value ((world_of f).high + 1)).meta value ≡ doc)
call_puts f caller call now reply text key meta value h =
    elim (world_of f).told as (λ b. (world_of f).told ≡ b → (doc : Doc) × (mutation_of (world_of f) (Called caller call now reply text) ≡ Some (key, doc)) × (meta.cas ≡ doc.cas) × (b ≡ true → doc_from (item_of key meta value ((world_of f).high + 1)).meta value ≡ doc)) [
      | true ↦ λ told. (
        doc_from (item_of key meta value ((world_of f).high + 1)).meta value,
        ap put_by (call_told (world_of f) call now reply told ∙ h.shown told),
        refl,
        λ _. refl,
      )
      | false ↦ λ untold. (
        next_doc (world_of f) [] 0 0 false now,
        ap put_by (untold_effect (world_of f) call now reply untold ∙ seen_written (world_of f) call now reply key h.written
            ∙ ap (λ b. cond b Nothing (Puts key (next_doc (world_of f) [] 0 0 false now))) (no_number reply.seqno (h.seen untold))),
        h.cas,
        λ told. absurd (cc),
      )
    ] refl

-- A call that puts a document, and the queue that took it.
pub queue_takes : QueuesTakeCalls
queue_takes f caller call now reply text q key meta value h s =
    let p = call_puts f caller call now reply text key meta value h in
    queue_puts f (Called caller call now reply text) q key meta value p.0 p.1 p.2
    (λ told. ap (λ n. doc_from (item_of key meta value (n + 1)).meta value) s.high ∙ p.3 told) s

-- a call whose reply has no number did nothing, as far as that tells
seen_nothing : (w : World) (call : CallData) (now : ℕ) (reply : Reply) → reply.seqno ≡ 0 → ((state : VbState) → call ≢ calls.SetState state) → seen_effect w call now reply ≡ Nothing
seen_nothing w (calls.Get k) now reply none stays = refl
seen_nothing w (calls.Store kind k value flags expiration cas) now reply none stays = ap (λ n. seen_put w now n (Some k)) none
seen_nothing w (calls.Join front k value cas) now reply none stays = ap (λ n. seen_put w now n (Some k)) none
seen_nothing w (calls.Count down k delta initial expiration cas) now reply none stays = ap (λ n. seen_put w now n (Some k)) none
seen_nothing w (calls.Delete k cas) now reply none stays = ap (λ n. seen_put w now n (Some k)) none
seen_nothing w (calls.Touch k expiration fetch) now reply none stays = ap (λ n. seen_put w now n (Some k)) none
seen_nothing w (calls.Observe uuid) now reply none stays = refl
seen_nothing w calls.Failovers now reply none stays = refl
seen_nothing w (calls.SetState state) now reply none stays = absurd (stays state refl)
seen_nothing w calls.GetState now reply none stays = refl

-- A call that is answered and puts nothing did nothing.
pub nothing_done : (f : FrontData) (call : CallData) (now : ℕ) (reply : Reply) → PutsNothing f call now reply → call_effect (world_of f) call now reply ≡ Nothing
nothing_done f call now reply h =
    elim (world_of f).told as (λ b. (world_of f).told ≡ b → call_effect (world_of f) call now reply ≡ Nothing) [
      | true ↦ λ told. call_told (world_of f) call now reply told ∙ h.shown told
      | false ↦ λ untold. untold_effect (world_of f) call now reply untold ∙ seen_nothing (world_of f) call now reply (h.seen untold) h.stays
    ] refl

pub queue_answers : QueuesStandBehindAnswers
queue_answers f caller call now reply text q h s = queue_calm f (Called caller call now reply text) q (calm_called f caller call now reply text (nothing_done f call now reply h)) s

pub queue_refuses : QueuesStandBehindRefusals
queue_refuses f caller call now cause q s = queue_calm f (Refused caller call now cause) q (calm_refused f caller call now cause) s

-- what is held up to a number is of items up to it
items_passed : (f : FrontData) (number m : ℕ) (xs : List ItemData) (ds : List Item) → AreItems f xs ds → All (λ (i : ItemData). i.meta.seqno ≤ number) (take m xs) → AllByRecursion (λ (item : Item). item.1.seqno ≤ number) (take m ds)
items_passed f number zero xs ds h p = tt
items_passed f number (suc m) [] [] h p = tt
items_passed f number (suc m) [] (a ∷ ds) h p = absurd h
items_passed f number (suc m) (x ∷ xs) [] h p = tt
items_passed f number (suc m) (x ∷ xs) (a ∷ ds) h p = (
  (let le = All-head (λ (i : ItemData). i.meta.seqno ≤ number) x (take m xs) p in let e = h.0.number in omega arith),
  items_passed f number m xs ds h.1 (All-tail (λ (i : ItemData). i.meta.seqno ≤ number) x (take m xs) p),
)

-- with the oldest of those that are held gone
closed_less : (f : FrontData) (number n m : ℕ) (xs : List ItemData) (ds : List Item) → AllByRecursion (λ (item : Item). item.1.seqno ≤ number) (take n ds) → AreItems f xs (drop n ds)
    → All (λ (i : ItemData). i.meta.seqno ≤ number) (take m xs) → AreClosed f (λ (item : Item). item.1.seqno ≤ number) (drop m xs) ds
closed_less f number zero m xs ds p h q = record { gone = m; passed = items_passed f number m xs ds h q; held = items_drop f m xs ds h }
closed_less f number (suc n) m xs [] p h q = record { gone = m; passed = items_passed f number m xs [] h q; held = items_drop f m xs [] h }
closed_less f number (suc n) m xs (a ∷ ds) p h q =
    let rest = closed_less f number n m xs ds p.1 h q in
    record { gone = suc rest.gone; passed = (p.0, rest.passed); held = rest.held }

-- A queue that drops what every cursor has passed stands on.
pub queue_expels : QueuesExpel
queue_expels f old new e s =
    let left = closed_less f (least_cursor old) s.expelled e.count old.closed (all_items (cut f).closed) s.passed s.closed e.passed in
    subst (λ (q : QueueData). QueueStands f q) (sym e.after) (record {
      blocks = s.blocks;
      ckpt_max = s.ckpt_max;
      high = s.high;
      maxcas = s.maxcas;
      persisted = s.persisted;
      table = s.table;
      state = s.state;
      opened = s.opened;
      id = s.id;
      behind = s.behind;
      ahead = s.ahead;
      named = s.named;
      expelled = left.gone;
      passed = left.passed;
      closed = left.held;
      last = s.last;
    })

-- what every cursor had passed is passed still where the cursors moved up
lowest_rises : (m n : ℕ) (cs : List (ℕ × ℕ)) → m ≤ n → lowest m cs ≤ lowest n cs
lowest_rises m n [] le = le
lowest_rises m n (c ∷ cs) le = let h = lowest_rises m n cs le in omega arith

passed_on : (P Q : Item → Type 0) (ds : List Item) → ((item : Item) → P item → Q item) → AllByRecursion P ds → AllByRecursion Q ds
passed_on P Q [] g h = tt
passed_on P Q (a ∷ ds) g h = (g a h.0, passed_on P Q ds g h.1)

some_test : (n : ℕ) → (suc n == 0) ≡ false
some_test n = grind (arith, nat_tests)

-- All up to a number is stored.
module _ (f : FrontData) (w : World) (c : Checkpoints) (q : QueueData) (number : ℕ) (s : Fits f w c q) (above : w.persisted < number) (within : number ≤ w.high) where
  least_up : (p : QueueData) → p.persisted ≡ q.persisted → p.cursor ≡ q.cursor → p.named ≡ q.named → least_cursor q ≤ least_cursor (moved_up p number)
  least_up p persisted cursor named =
      let a = s.persisted in
      let rise = lowest_rises (min q.persisted q.cursor) (min number (max p.cursor number)) q.named (omega arith) in
      let e = ap (λ (cs : List (ℕ × ℕ)). lowest (min number (max p.cursor number)) cs) named in
      omega arith

  still_passed : (p : QueueData) (ds : List Item) → p.persisted ≡ q.persisted → p.cursor ≡ q.cursor → p.named ≡ q.named → AllByRecursion (IsPassed q) ds → AllByRecursion (IsPassed (moved_up p number)) ds
  still_passed p ds persisted cursor named h =
      passed_on (IsPassed q) (IsPassed (moved_up p number)) ds (λ item le. let up = least_up p persisted cursor named in omega arith) h

  fits_same : Fits f (record w { persisted = number }) c (moved_up q number)
  fits_same = record {
    blocks = s.blocks;
    ckpt_max = s.ckpt_max;
    high = s.high;
    maxcas = s.maxcas;
    persisted = refl;
    table = s.table;
    state = s.state;
    opened = s.opened;
    id = s.id;
    behind = omega arith;
    ahead = let a = s.ahead in omega arith;
    named = s.named;
    expelled = s.expelled;
    passed = still_passed q (take s.expelled (all_items c.closed)) refl refl refl s.passed;
    closed = s.closed;
    last = s.last;
  }

  fits_next : Fits f (record w { persisted = number }) (then_opened c []) (moved_up (closed q) number)
  fits_next =
      let all = closed_open f w c q s in
      record {
        blocks = s.blocks;
        ckpt_max = s.ckpt_max;
        high = s.high;
        maxcas = s.maxcas;
        persisted = refl;
        table = s.table;
        state = s.state;
        opened = s.opened;
        id = ap (λ n. n + 1) s.id;
        behind = omega arith;
        ahead = let a = s.ahead in omega arith;
        named = s.named;
        expelled = all.gone;
        passed = still_passed (closed q) (take all.gone (all_items (c.closed ++ c.last ∷ []))) refl refl refl all.passed;
        closed = all.held;
        last = tt;
      }

  stored_at : (xs : List ItemData) (ds : List Item) → AreItems f xs ds → Fits f (record w { persisted = number }) (closed_at ds c) (moved_up (cond (length xs == 0) q (closed q)) number)
  stored_at [] [] h = fits_same
  stored_at [] (a ∷ ds) h = absurd h
  stored_at (x ∷ xs) [] h = absurd h
  stored_at (x ∷ xs) (a ∷ ds) h = subst (λ b. Fits f (record w { persisted = number }) (then_opened c []) (moved_up (cond b q (closed q)) number)) (sym (some_test (length xs))) fits_next

  fits_stored : Fits f (record w { persisted = number }) (closed_at c.last.items c) (stored q number)
  fits_stored = stored_at q.last c.last.items s.last

-- The flusher: what it stored, and how its cursor moves.
pub queue_stores : QueuesStore
unfolding May
queue_stores f q number may s =
    stands_behind f (Persisted number) (record (world_of f) { persisted = number }) (closed_at (cut f).last.items (cut f)) (stored q number)
    (world_step f (Persisted number)) (cut_step f (Persisted number)) (fits_stored f (world_of f) (cut f) q number (fits_of f q s) may.above may.within)

-- a queue whose flusher reads from elsewhere, where that isn't below what is stored
cursor_moves : (f : FrontData) (q : QueueData) (at : ℕ) → (world_of f).persisted ≤ at → at ≤ (world_of f).high → QueueStands f q → QueueStands f (record q { cursor = at })
cursor_moves f q at low top s = record {
  blocks = s.blocks;
  ckpt_max = s.ckpt_max;
  high = s.high;
  maxcas = s.maxcas;
  persisted = s.persisted;
  table = s.table;
  state = s.state;
  opened = s.opened;
  id = s.id;
  behind = low;
  ahead = top;
  named = s.named;
  expelled = s.expelled;
  passed = passed_on (IsPassed q) (IsPassed (record q { cursor = at })) (take s.expelled (all_items (cut f).closed)) (λ item le.
      let a = s.persisted in let b = s.behind in
      let rise = lowest_rises (min q.persisted q.cursor) (min q.persisted at) q.named (omega arith) in
      omega arith) s.passed;
  closed = s.closed;
  last = s.last;
}

pub queue_advances : QueuesAreRead
queue_advances f q s = cursor_moves f q q.high (let a = s.behind in let b = s.ahead in let e = s.high in omega arith) (let e = s.high in omega arith) s

pub queue_falls_back : QueuesAreReadAgain
queue_falls_back f q s = cursor_moves f q q.persisted (let e = s.persisted in omega arith) (let a = s.behind in let b = s.ahead in let e = s.persisted in omega arith) s

-- The vBucket opens.
pub queue_opens : QueuesOpen
queue_opens f q s =
    stands_behind f Opened (record (world_of f) { opened = true }) (cut f) (record q { opened = true })
    (world_step f Opened) (cut_step f Opened) (record {
      blocks = s.blocks;
      ckpt_max = s.ckpt_max;
      high = s.high;
      maxcas = s.maxcas;
      persisted = s.persisted;
      table = s.table;
      state = s.state;
      opened = refl;
      id = s.id;
      behind = s.behind;
      ahead = s.ahead;
      named = s.named;
      expelled = s.expelled;
      passed = s.passed;
      closed = s.closed;
      last = s.last;
    })

-- Its state is set.
pub queue_sets : QueuesSetStates
queue_sets f caller call now reply text state q is s =
    let event = Called caller call now reply text in
    stands_behind f event (record (world_of f) { state = state }) (cut f) (record q { state = state })
    (world_step f event ∙ ap (λ (e : Effect). apply (world_of f) e) is)
    (cut_step f event ∙ ap (λ (e : Effect). queued_if f.config.ckpt_max (put_by e) (cut f)) is) (record {
      blocks = s.blocks;
      ckpt_max = s.ckpt_max;
      high = s.high;
      maxcas = s.maxcas;
      persisted = s.persisted;
      table = s.table;
      state = refl;
      opened = s.opened;
      id = s.id;
      behind = s.behind;
      ahead = s.ahead;
      named = s.named;
      expelled = s.expelled;
      passed = s.passed;
      closed = s.closed;
      last = s.last;
    })
