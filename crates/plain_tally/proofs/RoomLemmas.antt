-- What checkpoints keep with one mutation more, documents put into a list, and the laws of room.
use Rattle.std.proofs.Common.{◌≡◌, ◌≢◌, ◌<◌, ◌≤◌, ◌+◌, ◌-◌, ◌^◌, ℕ, min, Bool, true, false, cond, List, [], ◌∷◌, ◌++◌, length, take, refl, sym, ap, subst, ◌∙◌, arith, append_assoc, append-nil}
use Rattle.std.specs.Prelude.{Option, Some, None, nat_lt, nat_le, not, ◌&&◌, ◌||◌, map, filter, sum_by}
use Rattle.std.specs.Ordering.{nat_cmp, eq_by_cmp}
use Rattle.std.specs.Cmp.Lexicographic.{slice_cmp, nat_list_cmp_total, texts_ties}
use Rattle.std.specs.Str.{bytes_eq}
use Rattle.std.specs.List as lists
use Rattle.std.specs.Option.{option_map}
use Rattle.std.specs.FinMap.{IsAntisymmetric, get, insert, find, from_entries, from_entries_push, get-from_entries, get-insert, same_map, slice_cmp-IsAntisymmetric, nat_cmp-IsAntisymmetric}
use Rattle.std.proofs.lemmas.Slice.Eq.{bytes_eq-Decides}
use Rattle.std.proofs.lemmas.Cmp.{nat_list_eq_equiv}
use Rattle.std.proofs.lemmas.Bool.Decides.{Decides-ltb}
use Rattle.std.proofs.lemmas.List.{take_all}
use Rattle.std.proofs.lemmas.List.Sums.{sum_by-cons}
use Rattle.ep_model.specs.declared.call.VbState.{VbState}
use Rattle.ep_model.specs.declared.config.Eviction.{Eviction}
use Rattle.ep_model.specs.declared.data.CallData.{CallData}
use Rattle.ep_model.specs.declared.data.CheckpointData.{CheckpointData}
use Rattle.ep_model.specs.declared.data.CheckpointsData.{CheckpointsData}
use Rattle.ep_model.specs.declared.data.EventData.{EventData}
use Rattle.ep_model.specs.declared.data.EventData.TheVariants.{Called, Refused, Expired, Persisted, Marked, Asked, ReadFailed, Opened}
use Rattle.ep_model.specs.declared.data.FrontData.{FrontData}
use Rattle.ep_model.specs.World.{Doc, Docs, Item, World, doc_blocks}
use Rattle.ep_model.specs.World.{put as puts_doc}
use Rattle.ep_model.specs.Stripes.{stripe_of}
use Rattle.ep_model.specs.Answer.{Effect, Nothing, Puts, Sets, answer, apply}
use Rattle.ep_model.specs.History.{effect_of, step, after}
use Rattle.ep_model.specs.Mutations.{above, put_by}
use Rattle.ep_model.specs.Front.{begun, world_of, marked}
use Rattle.ep_model.specs.Checkpoints.{Checkpoints, first_checkpoints, queued, cut_after, cut_in, cut, has_item, but_item, all_items, items_above, item_blocks, then_opened}
use Rattle.ep_model.specs.Quota.{is_other, pinned_sum, pinned, need, exceeds, stripe_is_full, is_overfull, is_short}
use Rattle.plain_tally.specs.declared.item.PlainItem.{PlainItem}
use Rattle.plain_tally.specs.declared.checkpoints.PlainCheckpoint.{PlainCheckpoint}
use Rattle.plain_tally.specs.Items.{item_data, items_data, checkpoint_data, checkpoints_data, kept_cost}
use Rattle.plain_tally.specs.Laws.{are_distinct}
use Rattle.plain_tally.specs.Rooms.{world_data, doc_data, stripe_is_full_at, is_overfull_at, ShortAtEnd, CutGrows}
use Rattle.plain_tally.proofs.TallyLemmas.{all-append, blocks-append, pinned_of_list}

-- the blocks of one item, if it is above a number
one-above : (number : ℕ) (item : Item) → item_blocks (above number (item ∷ [])) ≡ cond (nat_lt number item.1.seqno) (doc_blocks item.0 item.1) 0
one-above number item =
    elim (nat_lt number item.1.seqno) as (λ b. item_blocks (cond b (item ∷ []) []) ≡ cond b (doc_blocks item.0 item.1) 0) [
      | true ↦ let e = sum_by-cons (λ (i : Item). doc_blocks i.0 i.1) item [] in omega arith
      | false ↦ refl
    ]

-- before the closed checkpoints are counted
pub with-first : (item : PlainItem) (last : List Item) (number one rest total : ℕ) → one ≡ kept_cost number item → rest ≡ min (item_blocks (above number (but_item item.key.items last))) (2 ^ 64 - 1) → total ≡ min (one + rest) (2 ^ 64 - 1)
    → total ≡ min (item_blocks (above number (but_item item.key.items last ++ item_data item ∷ []))) (2 ^ 64 - 1)
with-first item last number one rest total ones rests sums =
    let a = blocks-append (but_item item.key.items last) (item_data item ∷ []) number in
    let b = one-above number (item_data item) in
    omega arith

-- where a key has no item nothing is dropped
but-none : (key : List ℕ) (items : List Item) → has_item key items ≡ false → but_item key items ≡ items
but-none key [] none = refl
but-none key (item ∷ items) none =
    elim (bytes_eq item.0 key) as (λ b. (b || has_item key items) ≡ false → cond (not b) (item ∷ but_item key items) (but_item key items) ≡ item ∷ items) [
      | true ↦ λ h. absurd (cc)
      | false ↦ λ h. ap (λ (l : List Item). item ∷ l) (but-none key items h)
    ] none

-- what is kept with a mutation more counts for its blocks in place of those that an older item of its key has in the open
-- checkpoint
queued-blocks : (most number : ℕ) (item : Item) (c : Checkpoints) → item_blocks (items_above number (queued most item c)) ≡ item_blocks (above number (all_items c.closed ++ (but_item item.0 c.last.items ++ item ∷ [])))
queued-blocks most number item c =
    elim (has_item item.0 c.last.items) as (λ b. has_item item.0 c.last.items ≡ b → item_blocks (items_above number (cond b (record c { last = record c.last { items = but_item item.0 c.last.items ++ item ∷ [] } }) (cond (nat_le most (length c.last.items)) (then_opened c (item ∷ [])) (record c { last = record c.last { items = c.last.items ++ item ∷ [] } })))) ≡ item_blocks (above number (all_items c.closed ++ (but_item item.0 c.last.items ++ item ∷ [])))) [
      | true ↦ λ is. refl
      | false ↦ λ is.
          let same : but_item item.0 c.last.items ≡ c.last.items = but-none item.0 c.last.items is in
          let goal : item_blocks (above number (all_items c.closed ++ (c.last.items ++ item ∷ []))) ≡ item_blocks (above number (all_items c.closed ++ (but_item item.0 c.last.items ++ item ∷ []))) =
          ap (λ (l : List Item). item_blocks (above number (all_items c.closed ++ (l ++ item ∷ [])))) (sym same) in
          elim (nat_le most (length c.last.items)) as (λ b. item_blocks (items_above number (cond b (then_opened c (item ∷ [])) (record c { last = record c.last { items = c.last.items ++ item ∷ [] } }))) ≡ item_blocks (above number (all_items c.closed ++ (but_item item.0 c.last.items ++ item ∷ [])))) [
            | true ↦
                ap (λ (l : List Item). item_blocks (above number (l ++ item ∷ []))) (all-append c.closed (c.last ∷ []) ∙ ap (λ (l : List Item). all_items c.closed ++ l) (append-nil c.last.items))
                ∙ ap (λ (l : List Item). item_blocks (above number l)) (append_assoc (all_items c.closed) c.last.items (item ∷ []))
                ∙ goal
            | false ↦ goal
          ]
    ] refl

closed-length : (closed : List PlainCheckpoint) → length (map checkpoint_data closed) ≡ length closed
closed-length [] = refl
closed-length (c ∷ closed) = let e = closed-length closed in omega arith

-- once all are counted
pub with-all : (most number : ℕ) (item : PlainItem) (c : Checkpoints) (closed : List PlainCheckpoint) (last : PlainCheckpoint) (n total : ℕ) → checkpoints_data closed last ≡ c → length closed ≤ n
    → total ≡ min (item_blocks (above number (all_items (take n c.closed) ++ (but_item item.key.items c.last.items ++ item_data item ∷ [])))) (2 ^ 64 - 1)
    → total ≡ min (item_blocks (items_above number (queued most (item_data item) c))) (2 ^ 64 - 1)
with-all most number item c closed last n total is all sums =
    let within : length c.closed ≤ n = let a = ap (λ (v : CheckpointsData). length v.closed) is in let b = closed-length closed in omega arith in
    sums
    ∙ ap (λ (l : List CheckpointData). min (item_blocks (above number (all_items l ++ (but_item item.key.items c.last.items ++ item_data item ∷ [])))) (2 ^ 64 - 1)) (take_all n c.closed within)
    ∙ ap (λ k. min k (2 ^ 64 - 1)) (sym (queued-blocks most number (item_data item) c))

-- documents in a list
antisymmetric : IsAntisymmetric (slice_cmp nat_cmp)
antisymmetric = slice_cmp-IsAntisymmetric nat_cmp-IsAntisymmetric

flip : (x y : List ℕ) → bytes_eq x y ≡ false → bytes_eq y x ≡ false
flip x y h = nat_list_eq_equiv.symm y x ∙ h

or_first : (a b : Bool) → (a || b) ≡ false → a ≡ false
or_first true b h = h
or_first false b h = refl

or_second : (a b : Bool) → (a || b) ≡ false → b ≡ false
or_second true b h = absurd (cc)
or_second false b h = h

and_first : (a b : Bool) → (a && b) ≡ true → a ≡ true
and_first true b h = refl
and_first false b h = h

and_second : (a b : Bool) → (a && b) ≡ true → b ≡ true
and_second true b h = h
and_second false b h = absurd (cc)

not_true : (b : Bool) → not b ≡ true → b ≡ false
not_true true is = absurd (cc)
not_true false is = refl

-- what is dropped isn't found
find-but_same : (key : List ℕ) (items : List Item) → find (slice_cmp nat_cmp) key (but_item key items) ≡ None
find-but_same key [] = refl
find-but_same key (item ∷ items) =
    elim (bytes_eq item.0 key) as (λ b. bytes_eq item.0 key ≡ b → find (slice_cmp nat_cmp) key (cond (not b) (item ∷ but_item key items) (but_item key items)) ≡ None) [
      | true ↦ λ is. find-but_same key items
      | false ↦ λ is. ap (λ b. cond b (Some item.1) (find (slice_cmp nat_cmp) key (but_item key items))) (sym (texts_ties key item.0) ∙ flip item.0 key is) ∙ find-but_same key items
    ] refl

-- and all else is
find-but_other : (key q : List ℕ) (items : List Item) → bytes_eq q key ≡ false → find (slice_cmp nat_cmp) q (but_item key items) ≡ find (slice_cmp nat_cmp) q items
find-but_other key q [] other = refl
find-but_other key q (item ∷ items) other =
    elim (bytes_eq item.0 key) as (λ b. bytes_eq item.0 key ≡ b → find (slice_cmp nat_cmp) q (cond (not b) (item ∷ but_item key items) (but_item key items)) ≡ find (slice_cmp nat_cmp) q (item ∷ items)) [
      | true ↦ λ is.
          let same : item.0 ≡ key = (bytes_eq-Decides item.0 key).0 is in
          let apart : bytes_eq q item.0 ≡ false = ap (bytes_eq q) same ∙ other in
          find-but_other key q items other ∙ sym (ap (λ b. cond b (Some item.1) (find (slice_cmp nat_cmp) q items)) (sym (texts_ties q item.0) ∙ apart))
      | false ↦ λ is. ap (λ (o : Option Doc). cond (eq_by_cmp (slice_cmp nat_cmp) q item.0) (Some item.1) o) (find-but_other key q items other)
    ] refl

-- a document pushed behind those of other keys is put
pub docs-put : (items : List Item) (key : List ℕ) (doc : Doc) → from_entries {R = slice_cmp nat_cmp} (but_item key items ++ (key, doc) ∷ []) ≡ insert (from_entries items) key doc
docs-put items key doc =
    from_entries_push nat_list_cmp_total antisymmetric (but_item key items) key doc (find-but_same key items)
    ∙ same_map nat_list_cmp_total antisymmetric _ _ (λ q.
    get-insert nat_list_cmp_total (from_entries (but_item key items)) key doc q
    ∙ at q (eq_by_cmp (slice_cmp nat_cmp) q key) refl
    ∙ sym (get-insert nat_list_cmp_total (from_entries items) key doc q))
  where
    at : (q : List ℕ) (b : Bool) → eq_by_cmp (slice_cmp nat_cmp) q key ≡ b → cond (eq_by_cmp (slice_cmp nat_cmp) q key) (Some doc) (get (from_entries {R = slice_cmp nat_cmp} (but_item key items)) q) ≡ cond (eq_by_cmp (slice_cmp nat_cmp) q key) (Some doc) (get (from_entries {R = slice_cmp nat_cmp} items) q)
    at q true is = ap (λ b. cond b (Some doc) (get (from_entries {R = slice_cmp nat_cmp} (but_item key items)) q)) is ∙ sym (ap (λ b. cond b (Some doc) (get (from_entries {R = slice_cmp nat_cmp} items) q)) is)
    at q false is =
        ap (λ (o : Option Doc). cond (eq_by_cmp (slice_cmp nat_cmp) q key) (Some doc) o)
        (get-from_entries nat_list_cmp_total (but_item key items) q ∙ find-but_other key q items (texts_ties q key ∙ is) ∙ sym (get-from_entries nat_list_cmp_total items q))

has-but : (key q : List ℕ) (items : List Item) → has_item q items ≡ false → has_item q (but_item key items) ≡ false
has-but key q [] none = refl
has-but key q (item ∷ items) none =
    elim (bytes_eq item.0 key) as (λ b. has_item q (cond (not b) (item ∷ but_item key items) (but_item key items)) ≡ false) [
      | true ↦ has-but key q items (or_second (bytes_eq item.0 q) _ none)
      | false ↦ ap (λ b. b || has_item q (but_item key items)) (or_first (bytes_eq item.0 q) _ none) ∙ has-but key q items (or_second (bytes_eq item.0 q) _ none)
    ]

has-push : (q : List ℕ) (items : List Item) (item : Item) → has_item q items ≡ false → bytes_eq item.0 q ≡ false → has_item q (items ++ item ∷ []) ≡ false
has-push q [] item none other = ap (λ b. b || false) other
has-push q (first ∷ items) item none other =
    ap (λ b. b || has_item q (items ++ item ∷ [])) (or_first (bytes_eq first.0 q) _ none) ∙ has-push q items item (or_second (bytes_eq first.0 q) _ none) other

-- keys stay different
pub distinct-put : (items : List Item) (key : List ℕ) (doc : Doc) → are_distinct items ≡ true → are_distinct (but_item key items ++ (key, doc) ∷ []) ≡ true
distinct-put [] key doc h = refl
distinct-put (item ∷ items) key doc h =
    elim (bytes_eq item.0 key) as (λ b. bytes_eq item.0 key ≡ b → are_distinct (cond (not b) (item ∷ but_item key items) (but_item key items) ++ (key, doc) ∷ []) ≡ true) [
      | true ↦ λ is. distinct-put items key doc (and_second (not (has_item item.0 items)) _ h)
      | false ↦ λ is.
          let none : has_item item.0 items ≡ false = not_true _ (and_first _ (are_distinct items) h) in
          let gone : has_item item.0 (but_item key items ++ (key, doc) ∷ []) ≡ false = has-push item.0 (but_item key items) (key, doc) (has-but key item.0 items none) (flip item.0 key is) in
          ap (λ b. not b && are_distinct (but_item key items ++ (key, doc) ∷ [])) gone ∙ distinct-put items key doc (and_second (not (has_item item.0 items)) _ h)
    ] refl

-- laws
apply_stripes : (w : World) (effect : Effect) → (apply w effect).stripes ≡ w.stripes
apply_stripes w Nothing = refl
apply_stripes w (Puts key doc) = refl
apply_stripes w (Sets state) = refl

step_stripes : (w : World) (event : EventData) → (step w event).stripes ≡ w.stripes
step_stripes w (Called caller call now reply value) = apply_stripes w (effect_of w (Called caller call now reply value))
step_stripes w (Refused caller call now cause) = refl
step_stripes w (Expired key now) = refl
step_stripes w (Persisted number) = refl
step_stripes w (Marked stripe number) = refl
step_stripes w (Asked ticket caller call) = refl
step_stripes w (ReadFailed ticket fault) = refl
step_stripes w Opened = refl

after_stripes : (w : World) (events : List EventData) → (after w events).stripes ≡ w.stripes
after_stripes w [] = refl
after_stripes w (event ∷ events) = after_stripes (step w event) events ∙ step_stripes w event

overfull_same : (f : FrontData) (o : Option Item) → is_overfull f o ≡ is_overfull_at f.config.ckpt_blocks f.config.ckpt_max (world_of f).persisted (cut f) o
overfull_same f None = refl
overfull_same f (Some item) = refl

pub short_at_end : ShortAtEnd
short_at_end f key call now =
    ap (λ b. stripe_is_full f key call now || b) (overfull_same f (put_by (answer (world_of f) call now).effect))
    ∙ ap (λ n. exceeds f.config.blocks (pinned (world_of f) (stripe_of key n) (marked f (stripe_of key f.config.stripes)) key) (need (world_of f) key call now) || is_overfull_at f.config.ckpt_blocks f.config.ckpt_max (world_of f).persisted (cut f) (put_by (answer (world_of f) call now).effect)) (sym (after_stripes (begun f) f.events))

cut_more : (most : ℕ) (w : World) (c : Checkpoints) (events : List EventData) (event : EventData) → cut_in most w c (events ++ event ∷ []) ≡ cut_after most (after w events) (cut_in most w c events) event
cut_more most w c [] event = refl
cut_more most w c (first ∷ events) event = cut_more most (step w first) (cut_after most w c first) events event

pub cut_grows : CutGrows
unfolding cut
cut_grows f event = cut_more f.config.ckpt_max (begun f) first_checkpoints f.events event

same_test : (a b : Bool) → (a ≡ true → b ≡ true) → (b ≡ true → a ≡ true) → a ≡ b
same_test true b f g = sym (f refl)
same_test false true f g = g refl
same_test false false f g = refl

-- a sum that stopped at its type's end is still above every smaller number
pub above_stopped : (blocks p q sum : ℕ) → blocks < 2 ^ 32 → sum ≡ min (min p (2 ^ 64 - 1) + q) (2 ^ 64 - 1) → nat_lt blocks sum ≡ nat_lt blocks (p + q)
above_stopped blocks p q sum small is = same_test (nat_lt blocks sum) (nat_lt blocks (p + q))
    (λ t. (Decides-ltb blocks (p + q)).1 (let h : blocks < sum = (Decides-ltb blocks sum).0 t in omega arith))
    (λ t. (Decides-ltb blocks sum).1 (let h : blocks < p + q = (Decides-ltb blocks (p + q)).0 t in omega arith))

-- a vBucket of plain lists
items-push : (items : List PlainItem) (item : PlainItem) → items_data (items ++ item ∷ []) ≡ items_data items ++ item_data item ∷ []
items-push [] item = refl
items-push (first ∷ items) item = ap (λ (l : List Item). item_data first ∷ l) (items-push items item)

chosen : (b : Bool) (item : PlainItem) (rest : Option PlainItem) → option_map doc_data (cond b (Some item) rest) ≡ cond b (Some (doc_data item)) (option_map doc_data rest)
chosen true item rest = refl
chosen false item rest = refl

scanned : (items : List PlainItem) (key : List ℕ) → option_map doc_data (lists.find (λ (item : PlainItem). bytes_eq item.key.items key) items) ≡ find (slice_cmp nat_cmp) key (items_data items)
scanned [] key = refl
scanned (item ∷ items) key =
    chosen (bytes_eq item.key.items key) item (lists.find (λ (item : PlainItem). bytes_eq item.key.items key) items)
    ∙ ap (λ b. cond b (Some (doc_data item)) (option_map doc_data (lists.find (λ (item : PlainItem). bytes_eq item.key.items key) items))) (nat_list_eq_equiv.symm item.key.items key ∙ texts_ties key item.key.items)
    ∙ ap (λ (o : Option Doc). cond (eq_by_cmp (slice_cmp nat_cmp) key item.key.items) (Some (doc_data item)) o) (scanned items key)

-- a scan finds what the map has
pub world-get : (w : World) (eviction : Eviction) (stripes fit : ℕ) (state : VbState) (items : List PlainItem) (high maxcas persisted : ℕ) (key : List ℕ) (o : Option PlainItem) → world_data eviction stripes fit state items high maxcas persisted ≡ w
    → o ≡ lists.find (λ (item : PlainItem). bytes_eq item.key.items key) items → option_map doc_data o ≡ get w.docs key
world-get w eviction stripes fit state items high maxcas persisted key o is found =
    ap (option_map doc_data) found ∙ scanned items key ∙ sym (get-from_entries nat_list_cmp_total (items_data items) key) ∙ ap (λ (v : World). get v.docs key) is

-- what is summed is pinned
pub world-pinned : (w : World) (eviction : Eviction) (stripes fit : ℕ) (state : VbState) (items : List PlainItem) (high maxcas persisted stripe mark total : ℕ) (key : List ℕ) → world_data eviction stripes fit state items high maxcas persisted ≡ w
    → are_distinct (items_data items) ≡ true → stripe ≡ stripe_of key stripes
    → total ≡ min (pinned_sum eviction mark (filter (λ (entry : Item). is_other stripes stripe key entry.0) (items_data items))) (2 ^ 64 - 1)
    → total ≡ min (pinned w (stripe_of key w.stripes) mark key) (2 ^ 64 - 1)
world-pinned w eviction stripes fit state items high maxcas persisted stripe mark total key is distinct here sums =
    sums
    ∙ ap (λ s. min (pinned_sum eviction mark (filter (λ (entry : Item). is_other stripes s key entry.0) (items_data items))) (2 ^ 64 - 1)) here
    ∙ sym (ap (λ n. min n (2 ^ 64 - 1)) (pinned_of_list (world_data eviction stripes fit state items high maxcas persisted) (items_data items) (stripe_of key stripes) mark key distinct refl))
    ∙ ap (λ (v : World). min (pinned v (stripe_of key v.stripes) mark key) (2 ^ 64 - 1)) is

-- what is pushed is put
pub world-put : (w : World) (eviction : Eviction) (stripes fit : ℕ) (state : VbState) (items rest new : List PlainItem) (high maxcas persisted : ℕ) (item : PlainItem) → world_data eviction stripes fit state items high maxcas persisted ≡ w
    → items_data rest ≡ but_item item.key.items (items_data items) → new ≡ rest ++ item ∷ []
    → world_data eviction stripes fit state new item.seqno item.cas persisted ≡ puts_doc w (item_data item).0 (item_data item).1
world-put w eviction stripes fit state items rest new high maxcas persisted item is dropped pushed =
    let all : items_data new ≡ but_item item.key.items (items_data items) ++ item_data item ∷ [] =
    ap items_data pushed ∙ items-push rest item ∙ ap (λ (l : List Item). l ++ item_data item ∷ []) dropped in
    ap (λ (d : Docs). record (world_data eviction stripes fit state items item.seqno item.cas persisted) { docs = d }) (ap (λ (l : List Item). from_entries {R = slice_cmp nat_cmp} l) all ∙ docs-put (items_data items) item.key.items (doc_data item))
    ∙ ap (λ (v : World). puts_doc v (item_data item).0 (item_data item).1) is

pub world-distinct : (items rest new : List PlainItem) (item : PlainItem) → are_distinct (items_data items) ≡ true → items_data rest ≡ but_item item.key.items (items_data items) → new ≡ rest ++ item ∷ [] → are_distinct (items_data new) ≡ true
world-distinct items rest new item distinct dropped pushed =
    ap (λ (l : List Item). are_distinct l) (ap items_data pushed ∙ items-push rest item ∙ ap (λ (l : List Item). l ++ item_data item ∷ []) dropped)
    ∙ distinct-put (items_data items) item.key.items (doc_data item) distinct
