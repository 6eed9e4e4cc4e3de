-- What a queue keeps with a mutation more is what the checkpoints of the history keep with it.
use Rattle.std.proofs.Common.{◌≡◌, ℕ, ◌+◌, ◌<◌, ◌≤◌, true, false, cond, List, [], ◌∷◌, ◌++◌, length, take, drop, refl, sym, ap, ◌∙◌, arith, append_assoc}
use Rattle.std.specs.Prelude.{nat_lt, nat_le}
use Rattle.std.specs.List.{AllByRecursion}
use Rattle.std.proofs.lemmas.Bool.Decides.{nat_tests}
use Rattle.std.proofs.lemmas.List.{take-append-drop}
use Rattle.std.proofs.lemmas.List.Elements.{filter-append}
use Rattle.std.proofs.lemmas.List.Sums.{sum_by-append, sum_by-cons}
use Rattle.ep_model.specs.declared.data.FrontData.{FrontData}
use Rattle.ep_model.specs.World.{Doc, blocks, doc_from, doc_blocks, Item}
use Rattle.ep_model.specs.Answer.{Effect}
use Rattle.ep_model.specs.Mutations.{put_by, above}
use Rattle.ep_model.specs.Quota.{stripe_is_full, is_overfull}
use Rattle.ep_model.specs.Front.{world_of}
use Rattle.ep_model.specs.Checkpoints.{Checkpoints, then_opened, has_item, but_item, queued, cut, all_items, items_above, item_blocks}
use Rattle.hold_stage.proofs.ViewLemmas.{or_true_right}
use Rattle.ckpt_items.specs.declared.data.ItemData.{ItemData}
use Rattle.ckpt_items.specs.Items.{blocks_of, item_blocks as blocks_in}
use Rattle.ckpt_manager.specs.declared.data.QueueData.{QueueData}
use Rattle.ckpt_manager.specs.Queue.{items_above as held_above, without_key, item_of, kept_with, least_cursor}
use Rattle.ckpt_manager.proofs.RoomLemmas.{least-le}
use Rattle.vb_front.specs.Stands.{AreItems, IsPassed}
use Rattle.vb_front.specs.Queues.{KeptIsMeasured, ShortIsOverfull, ShortIsQuota}
use Rattle.vb_front.proofs.QueueLemmas.{but_none, all_items_last, items_but}

-- all items, the oldest first
abbrev items_of : Checkpoints → List Item
items_of c = all_items c.closed ++ c.last.items

-- wherever a mutation goes, it stands behind all others but an older one of its key in the open checkpoint
queued_items : (most : ℕ) (item : Item) (c : Checkpoints) → items_of (queued most item c) ≡ all_items c.closed ++ (but_item item.0 c.last.items ++ item ∷ [])
queued_items most item c =
    elim (has_item item.0 c.last.items) as (λ b. has_item item.0 c.last.items ≡ b → items_of (cond b (record c { last = record c.last { items = but_item item.0 c.last.items ++ item ∷ [] } }) (cond (nat_le most (length c.last.items)) (then_opened c (item ∷ [])) (record c { last = record c.last { items = c.last.items ++ item ∷ [] } }))) ≡ all_items c.closed ++ (but_item item.0 c.last.items ++ item ∷ [])) [
      | true ↦ λ has. refl
      | false ↦ λ none.
          (elim (nat_le most (length c.last.items)) as (λ b. items_of (cond b (then_opened c (item ∷ [])) (record c { last = record c.last { items = c.last.items ++ item ∷ [] } })) ≡ all_items c.closed ++ (c.last.items ++ item ∷ [])) [
            | true ↦ ap (λ (l : List Item). l ++ item ∷ []) (all_items_last c.closed c.last) ∙ append_assoc (all_items c.closed) c.last.items (item ∷ [])
            | false ↦ refl
          ])
          ∙ ap (λ (l : List Item). all_items c.closed ++ (l ++ item ∷ [])) (sym (but_none item.0 c.last.items none))
    ] refl

pub above_append : (number : ℕ) (xs ys : List Item) → above number (xs ++ ys) ≡ above number xs ++ above number ys
above_append number xs ys = filter-append (λ (p : Item). nat_lt number p.1.seqno) xs ys

blocks_append : (xs ys : List Item) → item_blocks (xs ++ ys) ≡ item_blocks xs + item_blocks ys
blocks_append xs ys = sum_by-append (λ (item : Item). doc_blocks item.0 item.1) xs ys

above_parts : (number : ℕ) (xs ys : List Item) → item_blocks (above number (xs ++ ys)) ≡ item_blocks (above number xs) + item_blocks (above number ys)
above_parts number xs ys = ap item_blocks (above_append number xs ys) ∙ blocks_append (above number xs) (above number ys)

low_test : (number n : ℕ) → n ≤ number → nat_lt number n ≡ false
low_test number n le = grind (arith, nat_tests)

high_test : (number n : ℕ) → number < n → nat_lt number n ≡ true
high_test number n lower = grind (arith, nat_tests)

-- what every cursor has passed is stored
pub above_passed : (number : ℕ) (q : QueueData) (items : List Item) → least_cursor q ≤ number → AllByRecursion (IsPassed q) items → above number items ≡ []
above_passed number q [] le h = refl
above_passed number q (item ∷ items) le h =
    ap (λ b. cond b (item ∷ above number items) (above number items)) (low_test number item.1.seqno (let p = h.0 in omega arith))
    ∙ above_passed number q items le h.1

-- items that are held take the blocks of their documents
items_blocks : (f : FrontData) (number : ℕ) (xs : List ItemData) (ds : List Item) → (world_of f).told ≡ true → AreItems f xs ds → blocks_of (held_above number xs) ≡ item_blocks (above number ds)
items_blocks f number [] [] told h = refl
items_blocks f number [] (a ∷ ds) told h = absurd h
items_blocks f number (x ∷ xs) [] told h = absurd h
items_blocks f number (x ∷ xs) (a ∷ ds) told h =
    let rest = items_blocks f number xs ds told h.1 in
    let one : blocks_in x ≡ doc_blocks a.0 a.1 =
    ap (λ (k : List ℕ). blocks (length k) + blocks (length x.value)) h.0.key ∙ ap (λ (d : Doc). blocks (length a.0) + blocks (length d.value)) (h.0.shown told) in
    ap (λ n. blocks_of (cond (nat_lt number n) (x ∷ held_above number xs) (held_above number xs))) h.0.number
    ∙ elim (nat_lt number a.1.seqno) as (λ b. blocks_of (cond b (x ∷ held_above number xs) (held_above number xs)) ≡ item_blocks (cond b (a ∷ above number ds) (above number ds))) [
      | true ↦ sum_by-cons blocks_in x (held_above number xs) ∙ ap (λ n. n + blocks_of (held_above number xs)) one ∙ ap (λ n. doc_blocks a.0 a.1 + n) rest
          ∙ sym (sum_by-cons (λ (item : Item). doc_blocks item.0 item.1) a (above number ds))
      | false ↦ rest
    ]

pub kept_is_measured : KeptIsMeasured
kept_is_measured f q key doc told next s =
    let number : ℕ = (world_of f).persisted in
    let ds : List Item = all_items (cut f).closed in
    let open_items : List Item = (cut f).last.items in
    let stored : q.persisted ≡ number = s.persisted in
    let low : least_cursor q ≤ number = (let l = least-le q in omega arith) in
    let behind = s.behind in let ahead = s.ahead in
    let own : item_blocks (above number ((key, doc) ∷ [])) ≡ blocks (length key) + blocks (length doc.value) =
    ap (λ b. item_blocks (cond b ((key, doc) ∷ []) [])) (high_test number doc.seqno (omega arith)) ∙ omega arith in
    let split : item_blocks (above number ds) ≡ item_blocks (above number (take s.expelled ds)) + item_blocks (above number (drop s.expelled ds)) =
    ap (λ (l : List Item). item_blocks (above number l)) (sym (take-append-drop s.expelled ds)) ∙ above_parts number (take s.expelled ds) (drop s.expelled ds) in
    let gone : item_blocks (above number (take s.expelled ds)) ≡ 0 = ap item_blocks (above_passed number q (take s.expelled ds) low s.passed) in
    let closed' : blocks_of (held_above number q.closed) ≡ item_blocks (above number (drop s.expelled ds)) = items_blocks f number q.closed (drop s.expelled ds) told s.closed in
    let last' : blocks_of (held_above number (without_key q.last key)) ≡ item_blocks (above number (but_item key open_items)) =
    items_blocks f number (without_key q.last key) (but_item key open_items) told (items_but f key q.last open_items s.last) in
    let whole : item_blocks (items_above number (queued f.config.ckpt_max (key, doc) (cut f))) ≡ item_blocks (above number ds) + (item_blocks (above number (but_item key open_items)) + item_blocks (above number ((key, doc) ∷ []))) =
    ap (λ (l : List Item). item_blocks (above number l)) (queued_items f.config.ckpt_max (key, doc) (cut f))
    ∙ above_parts number ds (but_item key open_items ++ (key, doc) ∷ [])
    ∙ ap (λ n. item_blocks (above number ds) + n) (above_parts number (but_item key open_items) ((key, doc) ∷ [])) in
    ap (λ n. blocks_of (held_above n q.closed) + blocks_of (held_above n (without_key q.last key)) + (blocks (length key) + blocks (length doc.value))) stored
    ∙ omega (arith, closed', last', own, split, gone, whole)

-- so it has no room exactly where they have none
pub short_is_overfull : ShortIsOverfull
short_is_overfull f q key doc told next s =
    ap (λ n. nat_lt n (item_blocks (items_above (world_of f).persisted (queued f.config.ckpt_max (key, doc) (cut f))))) (sym s.blocks)
    ∙ ap (λ n. nat_lt q.blocks n) (sym (kept_is_measured f q key doc told next s))

-- and a call may be refused there
pub short_is_quota : ShortIsQuota
short_is_quota f caller call now q key meta value serving keyed puts short s = record {
  serving = serving;
  key = key;
  keyed = keyed;
  short = λ told.
      or_true_right (stripe_is_full f key call now) _
      (ap (λ (e : Effect). is_overfull f (put_by e)) (puts told)
      ∙ short_is_overfull f q key (doc_from (item_of key meta value ((world_of f).high + 1)).meta value) told refl s
      ∙ high_test q.blocks (kept_with q key (length value)) short);
}
