-- Sums over lists of items, and that a list of different keys has the sum of its map.
use Rattle.std.proofs.Common.{◌≡◌, ◌≢◌, ◌<◌, ◌≤◌, ◌+◌, ◌-◌, ◌^◌, ℕ, min, Bool, true, false, cond, List, [], ◌∷◌, ◌++◌, length, get_or, take, refl, sym, ap, subst, ◌∙◌, arith, append_assoc, append-nil, zero, suc}
use Rattle.std.specs.Prelude.{Option, Some, None, is_some, nat_lt, T, not, ◌&&◌, ◌||◌, map, filter, sum_by}
use Rattle.std.specs.Ordering.{nat_cmp, eq_by_cmp, is_eq}
use Rattle.std.specs.declared.cmp.Ordering.{Ordering}
use Rattle.std.specs.declared.cmp.Ordering.TheVariants.{Less, Equal, Greater}
use Rattle.std.specs.Cmp.Lexicographic.{slice_cmp, nat_list_cmp_total, texts_ties}
use Rattle.std.specs.List.{list_any, position_from}
use Rattle.std.specs.Str.{bytes_eq}
use Rattle.std.proofs.lemmas.Slice.Eq.{bytes_eq-Decides}
use Rattle.std.specs.FinMap as finmap
use Rattle.std.specs.FinMap.{IsAntisymmetric, get, from_sorted, entries_sorted, entries-from_sorted, entries-insert, get-entries, get-retain_keys, get-from_sorted, get-from_entries, same_map, slice_cmp-IsAntisymmetric, nat_cmp-IsAntisymmetric, is_sorted, find, put, len-entries, len-empty}
use Rattle.std.specs.FinMap.Entries.{by_order, where_key, find-where_key, is_sorted-where_key}
use Rattle.ep_model.specs.World.{Doc, Docs, World, Item}
use Rattle.ep_model.specs.declared.config.Eviction.{Eviction}
use Rattle.ep_model.specs.World.{doc_blocks}
use Rattle.ep_model.specs.Mutations.{above}
use Rattle.ep_model.specs.Checkpoints.{has_item, but_item, all_items, item_blocks}
use Rattle.plain_tally.specs.declared.item.PlainItem.{PlainItem}
use Rattle.ep_model.specs.declared.data.CheckpointData.{CheckpointData}
use Rattle.ep_model.specs.declared.data.CheckpointsData.{CheckpointsData}
use Rattle.plain_tally.specs.declared.checkpoints.PlainCheckpoint.{PlainCheckpoint}
use Rattle.std.proofs.lemmas.List.Elements.{filter-append}
use Rattle.plain_tally.specs.Items.{checkpoint_data, checkpoints_data, item_data, items_data, pinned_cost, kept_cost, other_cost}
use Rattle.ep_model.specs.Quota.{is_other, pinned_blocks, pinned_sum, pinned}
use Rattle.plain_tally.specs.Laws.{are_distinct, PinnedOfList}
use Rattle.std.proofs.lemmas.List.{take_all}
use Rattle.std.proofs.lemmas.List.Sums.{sum_by-cons, sum_by-append, sum_by_more}

-- a sum over those that pass a test
pub sum_by-filter : {X : Type 0} (g : X → ℕ) (p : X → Bool) (xs : List X) → sum_by g (filter p xs) ≡ sum_by (λ x. cond (p x) (g x) 0) xs
sum_by-filter g p [] = refl
sum_by-filter g p (x ∷ xs) =
    elim (p x) as (λ b. p x ≡ b → sum_by g (cond b (x ∷ filter p xs) (filter p xs)) ≡ sum_by (λ x. cond (p x) (g x) 0) (x ∷ xs)) [
      | true ↦ λ is.
          let a = sum_by-cons g x (filter p xs) in
          let b = sum_by-cons (λ x. cond (p x) (g x) 0) x xs in
          let c = ap (λ t. cond t (g x) 0) is in
          let d = sum_by-filter g p xs in omega arith
      | false ↦ λ is.
          let b = sum_by-cons (λ x. cond (p x) (g x) 0) x xs in
          let c = ap (λ t. cond t (g x) 0) is in
          let d = sum_by-filter g p xs in omega arith
    ] refl

pub sum_by-map : {X Y : Type 0} (g : Y → ℕ) (f : X → Y) (xs : List X) → sum_by g (map f xs) ≡ sum_by (λ x. g (f x)) xs
sum_by-map g f [] = refl
sum_by-map g f (x ∷ xs) = sum_by-cons g (f x) (map f xs) ∙ ap (λ n. g (f x) + n) (sum_by-map g f xs) ∙ sym (sum_by-cons (λ x. g (f x)) x xs)

-- one more is counted, and the sum stops at its type's end
pub summed-more : {X : Type 0} (f : X → ℕ) (xs : List X) (i : ℕ) (x : X) (total cost new : ℕ) → i < length xs → x ≡ get_or xs i x → cost ≡ f x → new ≡ min (total + cost) (2 ^ 64 - 1)
    → total ≡ min (sum_by f (take i xs)) (2 ^ 64 - 1) → new ≡ min (sum_by f (take (i + 1) xs)) (2 ^ 64 - 1)
summed-more f xs i x total cost new within at costs adds sums =
    let more = sum_by_more f xs i x within in
    let one : cost ≡ f (get_or xs i x) = costs ∙ ap f at in
    omega arith

-- The entries of a map whose keys pass a test.
antisymmetric : IsAntisymmetric (slice_cmp nat_cmp)
antisymmetric = slice_cmp-IsAntisymmetric nat_cmp-IsAntisymmetric

abbrev kept_by : (List ℕ → Bool) → Docs → List Item
kept_by test docs = where_key (slice_cmp nat_cmp) test (finmap.entries docs)

entries-retain_keys : (docs : Docs) (test : List ℕ → Bool) → finmap.entries (finmap.retain_keys docs test) ≡ filter (λ (entry : Item). test entry.0) (finmap.entries docs)
entries-retain_keys docs test =
    let sorted : T (is_sorted (slice_cmp nat_cmp) (kept_by test docs)) = is_sorted-where_key (slice_cmp nat_cmp) test (finmap.entries docs) (entries_sorted docs) in
    ap (λ (d : Docs). finmap.entries d) (same_map nat_list_cmp_total antisymmetric (finmap.retain_keys docs test) (from_sorted (kept_by test docs)) (λ q.
    get-retain_keys docs test q (λ x is. ap test (sym (antisymmetric q x is)))
    ∙ ap (λ (o : Option Doc). cond (test q) o None) (get-entries docs q)
    ∙ sym (get-from_sorted (slice_cmp nat_cmp) (kept_by test docs) q sorted ∙ find-where_key (slice_cmp nat_cmp) test q (λ x is. ap test (sym (antisymmetric q x is))) (finmap.entries docs))))
    ∙ entries-from_sorted (slice_cmp nat_cmp) (kept_by test docs) sorted

or_first : (a b : Bool) → (a || b) ≡ false → a ≡ false
or_first true b h = h
or_first false b h = refl

or_second : (a b : Bool) → (a || b) ≡ false → b ≡ false
or_second true b h = absurd (cc)
or_second false b h = h

-- A key that no entry has isn't found.
not_found : (entries : List Item) (key : List ℕ) → has_item key entries ≡ false → find (slice_cmp nat_cmp) key entries ≡ None
not_found [] key none = refl
not_found (entry ∷ entries) key none =
    elim (eq_by_cmp (slice_cmp nat_cmp) key entry.0) as (λ b. eq_by_cmp (slice_cmp nat_cmp) key entry.0 ≡ b → cond b (Some entry.1) (find (slice_cmp nat_cmp) key entries) ≡ None) [
      | true ↦ λ is.
          let same : key ≡ entry.0 = (bytes_eq-Decides key entry.0).0 (texts_ties key entry.0 ∙ is) in
          absurd (let t = (bytes_eq-Decides entry.0 key).1 (sym same) in let f = or_first (bytes_eq entry.0 key) _ none in cc)
      | false ↦ λ is. not_found entries key (or_second (bytes_eq entry.0 key) _ none)
    ] refl

-- an entry with a new key adds what it counts for
sum_put : (g : Item → ℕ) (key : List ℕ) (doc : Doc) (entries : List Item) → find (slice_cmp nat_cmp) key entries ≡ None → sum_by g (put (slice_cmp nat_cmp) key doc entries) ≡ g (key, doc) + sum_by g entries
sum_put g key doc [] none = sum_by-cons g (key, doc) []
sum_put g key doc (entry ∷ entries) none =
    elim (slice_cmp nat_cmp key entry.0) as (λ (r : Ordering). slice_cmp nat_cmp key entry.0 ≡ r → sum_by g (by_order r ((key, doc) ∷ entry ∷ entries) ((entry.0, doc) ∷ entries) (entry ∷ put (slice_cmp nat_cmp) key doc entries)) ≡ g (key, doc) + sum_by g (entry ∷ entries)) [
      | Less ↦ λ is. sum_by-cons g (key, doc) (entry ∷ entries)
      | Equal ↦ λ is. absurd (let h : Some entry.1 ≡ None = sym (ap (λ r. cond (is_eq r) (Some entry.1) (find (slice_cmp nat_cmp) key entries)) is) ∙ none in cc)
      | Greater ↦ λ is.
          let rest : find (slice_cmp nat_cmp) key entries ≡ None = sym (ap (λ r. cond (is_eq r) (Some entry.1) (find (slice_cmp nat_cmp) key entries)) is) ∙ none in
          let more = sum_put g key doc entries rest in
          let a = sum_by-cons g entry (put (slice_cmp nat_cmp) key doc entries) in
          let b = sum_by-cons g entry entries in
          omega arith
    ] refl

not_true : (b : Bool) → not b ≡ true → b ≡ false
not_true true is = absurd (cc)
not_true false is = refl

and_first : (a b : Bool) → (a && b) ≡ true → a ≡ true
and_first true b h = refl
and_first false b h = h

and_second : (a b : Bool) → (a && b) ≡ true → b ≡ true
and_second true b h = h
and_second false b h = absurd (cc)

no_entries : (list : List Item) → length list ≡ 0 → list ≡ []
no_entries [] is = refl
no_entries (x ∷ list) is = absurd (omega arith)

entries-empty : finmap.entries (finmap.empty {X = Doc} {R = slice_cmp nat_cmp}) ≡ []
entries-empty = no_entries _ (sym (len-entries (finmap.empty {X = Doc} {R = slice_cmp nat_cmp})) ∙ len-empty (slice_cmp nat_cmp) Doc)

-- so different keys add up
sum_entries : (g : Item → ℕ) (entries : List Item) → are_distinct entries ≡ true → sum_by g (finmap.entries (finmap.from_entries {R = slice_cmp nat_cmp} entries)) ≡ sum_by g entries
sum_entries g [] distinct = ap (sum_by g) (entries-empty)
sum_entries g (entry ∷ entries) distinct =
    let none : has_item entry.0 entries ≡ false = not_true _ (and_first _ (are_distinct entries) distinct) in
    let gone : find (slice_cmp nat_cmp) entry.0 (finmap.entries (finmap.from_entries {R = slice_cmp nat_cmp} entries)) ≡ None =
    sym (get-entries (finmap.from_entries {R = slice_cmp nat_cmp} entries) entry.0) ∙ get-from_entries nat_list_cmp_total entries entry.0 ∙ not_found entries entry.0 none in
    ap (sum_by g) (entries-insert nat_list_cmp_total (finmap.from_entries {R = slice_cmp nat_cmp} entries) entry.0 entry.1)
    ∙ sum_put g entry.0 entry.1 (finmap.entries (finmap.from_entries {R = slice_cmp nat_cmp} entries)) gone
    ∙ ap (λ n. g entry + n) (sum_entries g entries (and_second (not (has_item entry.0 entries)) _ distinct))
    ∙ sym (sum_by-cons g entry entries)

pub pinned_of_list : PinnedOfList
pinned_of_list w entries stripe mark key distinct docs =
    ap (sum_by (λ (entry : Item). pinned_blocks w.eviction mark entry.0 entry.1)) (entries-retain_keys w.docs (is_other w.stripes stripe key))
    ∙ sum_by-filter (λ (entry : Item). pinned_blocks w.eviction mark entry.0 entry.1) (λ (entry : Item). is_other w.stripes stripe key entry.0) (finmap.entries w.docs)
    ∙ ap (λ (d : Docs). sum_by (λ (entry : Item). cond (is_other w.stripes stripe key entry.0) (pinned_blocks w.eviction mark entry.0 entry.1) 0) (finmap.entries d)) docs
    ∙ sum_entries (λ (entry : Item). cond (is_other w.stripes stripe key entry.0) (pinned_blocks w.eviction mark entry.0 entry.1) 0) entries distinct
    ∙ sym (sum_by-filter (λ (entry : Item). pinned_blocks w.eviction mark entry.0 entry.1) (λ (entry : Item). is_other w.stripes stripe key entry.0) entries)

-- all are counted
pub summed-all : {X : Type 0} (f : X → ℕ) (xs : List X) (n total : ℕ) → length xs ≤ n → total ≡ min (sum_by f (take n xs)) (2 ^ 64 - 1) → total ≡ min (sum_by f xs) (2 ^ 64 - 1)
summed-all f xs n total all sums = sums ∙ ap (λ ys. min (sum_by f ys) (2 ^ 64 - 1)) (take_all n xs all)

pub pinned-summed : (items : List PlainItem) (eviction : Eviction) (stripes stripe mark : ℕ) (key : List ℕ) → sum_by (pinned_cost eviction stripes stripe mark key) items ≡ pinned_sum eviction mark (filter (λ (entry : Item). is_other stripes stripe key entry.0) (items_data items))
pinned-summed items eviction stripes stripe mark key = sym (
    sum_by-filter (λ (entry : Item). pinned_blocks eviction mark entry.0 entry.1) (λ (entry : Item). is_other stripes stripe key entry.0) (items_data items)
    ∙ sum_by-map (λ (entry : Item). cond (is_other stripes stripe key entry.0) (pinned_blocks eviction mark entry.0 entry.1) 0) item_data items)

pub kept-summed : (items : List PlainItem) (number : ℕ) → sum_by (kept_cost number) items ≡ item_blocks (above number (items_data items))
kept-summed items number = sym (
    sum_by-filter (λ (entry : Item). doc_blocks entry.0 entry.1) (λ (entry : Item). nat_lt number entry.1.seqno) (items_data items)
    ∙ sum_by-map (λ (entry : Item). cond (nat_lt number entry.1.seqno) (doc_blocks entry.0 entry.1) 0) item_data items)

-- a scan finds a key where it is
pub has-position : (items : List PlainItem) (key : List ℕ) (n : ℕ) → is_some (position_from (λ (item : PlainItem). bytes_eq item.key.items key) n items) ≡ has_item key (items_data items)
has-position [] key n = refl
has-position (item ∷ items) key n =
    elim (bytes_eq item.key.items key) as (λ b. is_some (cond b (Some n) (position_from (λ (item : PlainItem). bytes_eq item.key.items key) (n + 1) items)) ≡ (b || has_item key (items_data items))) [
      | true ↦ refl
      | false ↦ has-position items key (n + 1)
    ]

-- what is left without a key
pub forget-kept : (items new : List PlainItem) (key : List ℕ) → new ≡ filter (λ (item : PlainItem). not (bytes_eq item.key.items key)) items → items_data new ≡ but_item key (items_data items)
forget-kept items new key is = ap items_data is ∙ at items
  where
    at : (items : List PlainItem) → items_data (filter (λ (item : PlainItem). not (bytes_eq item.key.items key)) items) ≡ but_item key (items_data items)
    at [] = refl
    at (item ∷ items) =
        elim (bytes_eq item.key.items key) as (λ b. items_data (cond (not b) (item ∷ filter (λ (item : PlainItem). not (bytes_eq item.key.items key)) items) (filter (λ (item : PlainItem). not (bytes_eq item.key.items key)) items)) ≡ cond (not b) (item_data item ∷ but_item key (items_data items)) (but_item key (items_data items))) [
          | true ↦ at items
          | false ↦ ap (λ (l : List Item). item_data item ∷ l) (at items)
        ]

-- the items of one checkpoint more
pub all-append : (xs ys : List CheckpointData) → all_items (xs ++ ys) ≡ all_items xs ++ all_items ys
all-append [] ys = refl
all-append (x ∷ xs) ys = ap (λ (l : List Item). x.items ++ l) (all-append xs ys) ∙ sym (append_assoc x.items (all_items xs) (all_items ys))

pub blocks-append : (xs ys : List Item) (number : ℕ) → item_blocks (above number (xs ++ ys)) ≡ item_blocks (above number xs) + item_blocks (above number ys)
blocks-append xs ys number =
    ap (λ (l : List Item). item_blocks l) (filter-append (λ (entry : Item). nat_lt number entry.1.seqno) xs ys)
    ∙ sum_by-append (λ (entry : Item). doc_blocks entry.0 entry.1) (above number xs) (above number ys)

map_take_more : (closed : List PlainCheckpoint) (here : PlainCheckpoint) (i : ℕ) → i < length closed → here ≡ get_or closed i here → take (i + 1) (map checkpoint_data closed) ≡ take i (map checkpoint_data closed) ++ checkpoint_data here ∷ []
map_take_more [] here i within at = absurd (omega arith)
map_take_more (c ∷ closed) here zero within at = ap (λ (x : PlainCheckpoint). checkpoint_data x ∷ []) (sym at)
map_take_more (c ∷ closed) here (suc i) within at =
    let n : suc i + 1 ≡ suc (i + 1) = omega arith in
    ap (λ k. take k (checkpoint_data c ∷ map checkpoint_data closed)) n
    ∙ ap (λ (l : List CheckpointData). checkpoint_data c ∷ l) (map_take_more closed here i (omega arith) at)

-- one closed checkpoint more is counted before the rest
pub kept-more : (view : CheckpointsData) (closed : List PlainCheckpoint) (last here : PlainCheckpoint) (rest : List Item) (i number total cost new : ℕ) → checkpoints_data closed last ≡ view → i < length closed → here ≡ get_or closed i here
    → cost ≡ min (item_blocks (above number (items_data here.items.items))) (2 ^ 64 - 1) → new ≡ min (total + cost) (2 ^ 64 - 1)
    → total ≡ min (item_blocks (above number (all_items (take i view.closed) ++ rest))) (2 ^ 64 - 1)
    → new ≡ min (item_blocks (above number (all_items (take (i + 1) view.closed) ++ rest))) (2 ^ 64 - 1)
kept-more view closed last here rest i number total cost new is within at costs adds sums =
    let more : take (i + 1) view.closed ≡ take i view.closed ++ checkpoint_data here ∷ [] =
    ap (λ (v : CheckpointsData). take (i + 1) v.closed) (sym is)
    ∙ map_take_more closed here i within at
    ∙ ap (λ (v : CheckpointsData). take i v.closed ++ checkpoint_data here ∷ []) is in
    let all : all_items (take (i + 1) view.closed) ≡ all_items (take i view.closed) ++ items_data here.items.items =
    ap all_items more ∙ all-append (take i view.closed) (checkpoint_data here ∷ []) ∙ ap (λ (l : List Item). all_items (take i view.closed) ++ l) (append-nil (items_data here.items.items)) in
    let a = ap (λ (l : List Item). item_blocks (above number (l ++ rest))) all in
    let b = blocks-append (all_items (take i view.closed) ++ items_data here.items.items) rest number in
    let c = blocks-append (all_items (take i view.closed)) (items_data here.items.items) number in
    let d = blocks-append (all_items (take i view.closed)) rest number in
    omega arith

pub others-summed : (items : List PlainItem) (number : ℕ) (key : List ℕ) → sum_by (other_cost number key) items ≡ item_blocks (above number (but_item key (items_data items)))
others-summed items number key = sym (
    sum_by-filter (λ (entry : Item). doc_blocks entry.0 entry.1) (λ (entry : Item). nat_lt number entry.1.seqno) (but_item key (items_data items))
    ∙ sum_by-filter (λ (entry : Item). cond (nat_lt number entry.1.seqno) (doc_blocks entry.0 entry.1) 0) (λ (entry : Item). not (bytes_eq entry.0 key)) (items_data items)
    ∙ sum_by-map (λ (entry : Item). cond (not (bytes_eq entry.0 key)) (cond (nat_lt number entry.1.seqno) (doc_blocks entry.0 entry.1) 0) 0) item_data items)
