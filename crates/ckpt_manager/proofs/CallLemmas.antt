-- What a call leaves of a queue's fields.
use Rattle.std.proofs.Common.{◌≡◌, ℕ, ◌+◌, ◌-◌, ◌<◌, ◌≤◌, ◌^◌, Bool, true, false, ◌&&◌, cond, List, [], ◌∷◌, ◌++◌, length, take, drop, Option, Some, None, refl, sym, ap, subst, ◌∙◌, arith, length-append}
use Rattle.std.specs.Prelude.{nat_eq, nat_le, All, is_none, IsSome, MatchOption, Result, Ok, Err, is_ok, OnOk}
use Rattle.std.specs.Option.{option_map}
use Rattle.std.specs.List.{find}
use Rattle.std.proofs.lemmas.List.Elements.{All-weaker}
use Rattle.std.proofs.lemmas.Bool.Decides.{nat_tests}
use Rattle.ep_model.specs.Limits.{IsKey, IsValue, end_of_moments}
use Rattle.ep_model.specs.World.{blocks}
use Rattle.ep_model.specs.declared.call.Meta.{Meta}
use Rattle.ckpt_items.specs.declared.data.ItemData.{ItemData}
use Rattle.ckpt_items.specs.declared.data.ItemsData.{ItemsData}
use Rattle.ckpt_items.specs.Items.{all_items, blocks_of, is_of, is_above, has_number, number_of, without_number}
use Rattle.ckpt_manager.specs.declared.data.QueueData.{QueueData}
use Rattle.ckpt_manager.specs.declared.queue.Queue.TheInside.{Inside}
use Rattle.ckpt_manager.specs.Queue.{held, free_blocks, closed, thinned, cleared, put_last, queued, item_of, without_key, kept_with, replaced_blocks, CanHold, least_cursor, ReadsOn, Expelled, ExpelsOne, ExpelsNone}
use Rattle.ckpt_manager.specs.Sound.{RiseAbove, IsSoundQueue}
use Rattle.ckpt_manager.specs.View.{queue_view, CountsKeys}
use Rattle.ckpt_manager.proofs.ItemLemmas.{rise-apart, rise-behind, lower-stay, none-filter, none-found, IsOne, one-found, all-right, all-found, rise-all}
use Rattle.ckpt_manager.proofs.QueueLemmas.{sound-closed, sound-put, IsCleared, is-cleared}
use Rattle.ckpt_manager.proofs.LastLemmas.{reads-on}
use Rattle.ckpt_manager.proofs.RoomLemmas.{IsOldest, oldest-found, ahead-some, ahead-none, sound-dropped, least-le, least-is, fits-kept, short-kept, kept-same, replaced-same, blocks-same, blocks-split}

-- the fields are this queue, and what is true of every queue is true of them
pub record Leaves (a : Inside) (q : QueueData) : Type 0 where
  pub is : queue_view a ≡ q
  pub counted : CountsKeys a

leaves : (a : Inside) (q : QueueData) → queue_view a ≡ q → a.keys ≡ length a.items.last → a.blocks ≡ a.items.blocks → IsSoundQueue q → Leaves a q
leaves a q is count most s = record { is = is; counted = record { count = count; blocks = most; sound = subst IsSoundQueue (sym is) s } }

pub sound-of : (a : Inside) (q : QueueData) → queue_view a ≡ q → CountsKeys a → IsSoundQueue q
sound-of a q is c = subst IsSoundQueue is c.sound

unfoldable items-of : List ItemData → List ItemData → ℕ → ItemsData
items-of closed' last' most = record { closed = closed'; last = last'; blocks = most }

same-items : (i : ItemsData) (closed' last' : List ItemData) (most : ℕ) → i.closed ≡ closed' → i.last ≡ last' → i.blocks ≡ most → i ≡ items-of closed' last' most
unfolding items-of
same-items i closed' last' most e f g =
    ap (λ (c : List ItemData). items-of c i.last i.blocks) e ∙ ap (λ (l : List ItemData). items-of closed' l i.blocks) f
    ∙ ap (λ (m : ℕ). items-of closed' last' m) g

-- what was found has a number

pub some-number : (o : Option ItemData) (n : ℕ) → number_of o ≡ Some n → (j : ItemData) × (o ≡ Some j) × (j.meta.seqno ≡ n)
some-number None n is = absurd (cc)
some-number (Some j) n is = (j, refl, cc)

pub none-number : (o : Option ItemData) → number_of o ≡ None → o ≡ None
none-number None is = refl
none-number (Some j) is = absurd (cc)

lower-not : (a b : ℕ) → a < b → nat_eq a b ≡ false
lower-not a b lower = grind (arith, nat_tests)

equal-self : (a : ℕ) → nat_eq a a ≡ true
equal-self a = grind (arith, nat_tests)

pub found-number : (p : ItemData → Bool) (n : ℕ) (xs : List ItemData) (j : ItemData) → RiseAbove n xs → find p xs ≡ Some j → find (has_number j.meta.seqno) xs ≡ Some j
found-number p n [] j rise is = absurd (cc)
found-number p n (x ∷ xs) j rise is =
    elim (p x) as (λ b. cond b (Some x) (find p xs) ≡ Some j → find (has_number j.meta.seqno) (x ∷ xs) ≡ Some j) [
      | true ↦ λ e. let same : x ≡ j = cc in
          ap (λ (j : ItemData). cond (nat_eq x.meta.seqno j.meta.seqno) (Some x) (find (has_number j.meta.seqno) xs)) (sym same)
          ∙ ap (λ (b : Bool). cond b (Some x) (find (has_number x.meta.seqno) xs)) (equal-self x.meta.seqno) ∙ ap (λ (i : ItemData). Some i) same
      | false ↦ λ e.
          ap (λ (b : Bool). cond b (Some x) (find (has_number j.meta.seqno) xs))
          (lower-not x.meta.seqno j.meta.seqno (all-found (λ (i : ItemData). x.meta.seqno < i.meta.seqno) p xs j (rise-all x.meta.seqno xs rise.1) e))
          ∙ found-number p x.meta.seqno xs j rise.1 e
    ] is

pub found-behind : (p : ItemData → Bool) (n : ℕ) (xs ys : List ItemData) (j : ItemData) → RiseAbove n (xs ++ ys) → find p ys ≡ Some j → find (has_number j.meta.seqno) (xs ++ ys) ≡ Some j
found-behind p n [] ys j rise is = found-number p n ys j rise is
found-behind p n (x ∷ xs) ys j rise is =
    ap (λ (b : Bool). cond b (Some x) (find (has_number j.meta.seqno) (xs ++ ys)))
    (lower-not x.meta.seqno j.meta.seqno (all-found (λ (i : ItemData). x.meta.seqno < i.meta.seqno) p ys j (all-right (λ (i : ItemData). x.meta.seqno < i.meta.seqno) xs ys (rise-all x.meta.seqno (xs ++ ys) rise.1)) is))
    ∙ found-behind p x.meta.seqno xs ys j rise.1 is

-- the item that a look-up in the open checkpoint found stands among all
pub found-stands : (a : Inside) (p : ItemData → Bool) (n : ℕ) → CountsKeys a → number_of (find p a.items.last) ≡ Some n → IsSome (find (has_number n) (all_items a.items))
found-stands a p n c is =
    let j : (j : ItemData) × (find p a.items.last ≡ Some j) × (j.meta.seqno ≡ n) = some-number (find p a.items.last) n is in
    let at : find (has_number j.0.meta.seqno) (all_items a.items) ≡ Some j.0 = found-behind p 0 a.items.closed a.items.last j.0 c.sound.numbers j.1 in
    subst (λ (n : ℕ). IsSome (find (has_number n) (all_items a.items))) j.2 (subst (λ (o : Option ItemData). IsSome o) (sym at) refl)

-- so does the first item
pub first-stands : (a : Inside) (n : ℕ) → CountsKeys a → number_of (find (is_above 0) (all_items a.items)) ≡ Some n → IsSome (find (has_number n) (all_items a.items))
first-stands a n c is =
    let j : (j : ItemData) × (find (is_above 0) (all_items a.items) ≡ Some j) × (j.meta.seqno ≡ n) = some-number (find (is_above 0) (all_items a.items)) n is in
    let at : find (has_number j.0.meta.seqno) (all_items a.items) ≡ Some j.0 = found-number (is_above 0) 0 (all_items a.items) j.0 c.sound.numbers j.1 in
    subst (λ (n : ℕ). IsSome (find (has_number n) (all_items a.items))) j.2 (subst (λ (o : Option ItemData). IsSome o) (sym at) refl)

-- place is made for a mutation

and-false : (b : Bool) → (b && false) ≡ false
and-false true = refl
and-false false = refl

clear-thinned : (q : QueueData) (key : List ℕ) (j : ItemData) → find (is_of key) q.last ≡ Some j → thinned q key ≡ cleared q key
clear-thinned q key j is =
    sym (ap (λ (b : Bool). cond b (closed q) (thinned q key)) (ap (λ (o : Option ItemData). nat_le q.ckpt_max (length q.last) && is_none o) is ∙ and-false (nat_le q.ckpt_max (length q.last))))

pub clear-found : (a : Inside) (q : QueueData) (items : ItemsData) (key : List ℕ) (n : ℕ) → queue_view a ≡ q → CountsKeys a → number_of (find (is_of key) a.items.last) ≡ Some n → items ≡ record a.items { closed = without_number a.items.closed n; last = without_number a.items.last n } → Leaves (record a { items = items; keys = a.keys - 1 }) (cleared q key)
unfolding items-of
clear-found a q items key n view c is left =
    let j : (j : ItemData) × (find (is_of key) a.items.last ≡ Some j) × (j.meta.seqno ≡ n) = some-number (find (is_of key) a.items.last) n is in
    let one : IsOne key a.items.last j.0 = one-found key 0 a.items.last j.0 (rise-behind 0 a.items.closed a.items.last c.sound.numbers) c.sound.keys j.1 in
    let e : items.closed ≡ a.items.closed =
    ap (λ (i : ItemsData). i.closed) left ∙ ap (λ (n : ℕ). without_number a.items.closed n) (sym j.2)
    ∙ lower-stay j.0.meta.seqno a.items.closed (rise-apart 0 (is_of key) a.items.closed a.items.last j.0 c.sound.numbers j.1) in
    let f : items.last ≡ without_key a.items.last key =
    ap (λ (i : ItemsData). i.last) left ∙ ap (λ (n : ℕ). without_number a.items.last n) (sym j.2) ∙ one.dropped in
    let g : items.blocks ≡ a.items.blocks = ap (λ (i : ItemsData). i.blocks) left in
    let made : items ≡ items-of a.items.closed (without_key a.items.last key) a.items.blocks = same-items items a.items.closed (without_key a.items.last key) a.items.blocks e f g in
    let new : queue_view (record a { items = items; keys = a.keys - 1 }) ≡ thinned (queue_view a) key =
    ap (λ (i : ItemsData). queue_view (record a { items = i; keys = a.keys - 1 })) made in
    let count : a.keys - 1 ≡ length items.last = omega (arith, c.count, one.fewer, ap (λ (l : List ItemData). length l) f) in
    let s : IsSoundQueue (cleared q key) = (is-cleared q key (sound-of a q view c)).sound in
    leaves (record a { items = items; keys = a.keys - 1 }) (cleared q key)
    (new ∙ clear-thinned (queue_view a) key j.0 j.1 ∙ ap (λ (q : QueueData). cleared q key) view) count (c.blocks ∙ sym g) s

not-least : (a b : ℕ) → a < b → nat_le b a ≡ false
not-least a b lower = grind (arith, nat_tests)

-- a checkpoint with place and without the key stays as it is
clear-free : (q : QueueData) (key : List ℕ) → IsSoundQueue q → number_of (find (is_of key) q.last) ≡ None → (length q.last ≡ q.ckpt_max → ⊥) → q ≡ cleared q key
clear-free q key s none free =
    let lower : length q.last < q.ckpt_max = omega (arith, s.few, free) in
    let same : thinned q key ≡ q = ap (λ (l : List ItemData). record q { last = l }) (none-filter (is_of key) q.last (none-number (find (is_of key) q.last) none)) in
    sym (ap (λ (b : Bool). cond (b && is_none (find (is_of key) q.last)) (closed q) (thinned q key)) (not-least (length q.last) q.ckpt_max lower) ∙ same)

-- a checkpoint is closed

pub close-all : (a : Inside) (q : QueueData) (items : ItemsData) → queue_view a ≡ q → CountsKeys a → 0 < length q.last → items ≡ record a.items { closed = all_items a.items; last = [] } → Leaves (record a { items = items; keys = 0; id = a.id + 1 }) (closed q)
close-all a q items view c some left =
    let new : queue_view (record a { items = items; keys = 0; id = a.id + 1 }) ≡ closed (queue_view a) = ap (λ (i : ItemsData). queue_view (record a { items = i; keys = 0; id = a.id + 1 })) left in
    let count : 0 ≡ length items.last = sym (ap (λ (i : ItemsData). length i.last) left) in
    leaves (record a { items = items; keys = 0; id = a.id + 1 }) (closed q)
    (new ∙ ap closed view) count (c.blocks ∙ sym (ap (λ (i : ItemsData). i.blocks) left)) (sound-closed q (sound-of a q view c) some)

-- a mutation is put last

length-push : (xs : List ItemData) (i : ItemData) → length (xs ++ i ∷ []) ≡ length xs + 1
length-push xs i = length-append xs (i ∷ [])

pub room-cleared : (q : QueueData) (key : List ℕ) (len : ℕ) → IsSoundQueue q → CanHold q key len → blocks (length key) + blocks len ≤ free_blocks (cleared q key)
room-cleared q key len s room =
    let k : IsCleared q (cleared q key) key = is-cleared q key s in
    omega (arith, s.room, room, k.room, k.blocks)

put-next : (a : Inside) (q : QueueData) (items : ItemsData) (key : List ℕ) (meta : Meta) (value : List ℕ) → queue_view a ≡ cleared q key → CountsKeys a → IsSoundQueue q → IsKey key → IsValue value → CanHold q key (length value) → q.high < 2 ^ 48 - 1 → meta.cas ≤ end_of_moments + q.high + 1 → meta.len ≡ length value → items ≡ record a.items { last = a.items.last ++ item_of key meta value (a.high + 1) ∷ [] } → Leaves (record a { items = items; keys = a.keys + 1; high = a.high + 1; maxcas = meta.cas }) (queued q key meta value)
put-next a q items key meta value view c s is_key is_value room few stamp len left =
    let k : IsCleared q (cleared q key) key = is-cleared q key s in
    let new : queue_view (record a { items = items; keys = a.keys + 1; high = a.high + 1; maxcas = meta.cas }) ≡ put_last (queue_view a) key meta value =
    ap (λ (i : ItemsData). queue_view (record a { items = i; keys = a.keys + 1; high = a.high + 1; maxcas = meta.cas })) left in
    let count : a.keys + 1 ≡ length items.last =
    omega (arith, c.count, ap (λ (i : ItemsData). length i.last) left, length-push a.items.last (item_of key meta value (a.high + 1))) in
    leaves (record a { items = items; keys = a.keys + 1; high = a.high + 1; maxcas = meta.cas }) (queued q key meta value)
    (new ∙ ap (λ (q : QueueData). put_last q key meta value) view) count (c.blocks ∙ sym (ap (λ (i : ItemsData). i.blocks) left))
    (sound-put (cleared q key) key meta value k.sound is_key is_value k.absent k.fewer (omega (arith, few, k.high)) (omega (arith, stamp, k.high)) len (room-cleared q key (length value) s room))

pub put-all : (a : Inside) (q : QueueData) (items : ItemsData) (key : List ℕ) (meta : Meta) (value : List ℕ) (n : ℕ) → n ≡ a.high + 1 → queue_view a ≡ cleared q key → CountsKeys a → IsSoundQueue q → IsKey key → IsValue value → CanHold q key (length value) → q.high < 2 ^ 48 - 1 → meta.cas ≤ end_of_moments + q.high + 1 → meta.len ≡ length value → items ≡ record a.items { last = a.items.last ++ item_of key meta value n ∷ [] } → Leaves (record a { items = items; keys = a.keys + 1; high = n; maxcas = meta.cas }) (queued q key meta value)
put-all a q items key meta value n number view c s is_key is_value room few stamp len left =
    subst (λ (n : ℕ). Leaves (record a { items = items; keys = a.keys + 1; high = n; maxcas = meta.cas }) (queued q key meta value)) (sym number)
    (put-next a q items key meta value view c s is_key is_value room few stamp len
    (subst (λ (n : ℕ). items ≡ record a.items { last = a.items.last ++ item_of key meta value n ∷ [] }) number left))

-- an item goes

one-of : (a : Inside) (q : QueueData) (n : ℕ) → queue_view a ≡ q → n ≤ least_cursor q → IsOldest a.items.closed a.items.last n → ExpelsOne q (record q { closed = drop 1 q.closed })
one-of a q n view le old =
    let closed' : a.items.closed ≡ q.closed = ap (λ (q : QueueData). q.closed) view in
    record {
      some = subst (λ (l : List ItemData). 0 < length l) closed' old.some;
      passed = subst (λ (l : List ItemData). All (λ (i : ItemData). i.meta.seqno ≤ least_cursor q) (take 1 l)) closed'
          (All-weaker (λ (i : ItemData). i.meta.seqno ≤ n) (λ (i : ItemData). i.meta.seqno ≤ least_cursor q) (λ (i : ItemData) h. omega (arith, h, le)) (take 1 a.items.closed) old.passed);
      after = refl;
    }

pub expel-one : (a : Inside) (q : QueueData) (items : ItemsData) (n : ℕ) → queue_view a ≡ q → CountsKeys a → number_of (find (is_above 0) (all_items a.items)) ≡ Some n → n ≤ least_cursor q → items ≡ record a.items { closed = without_number a.items.closed n; last = without_number a.items.last n } → Leaves (record a { items = items }) (record q { closed = drop 1 q.closed }) × ExpelsOne q (record q { closed = drop 1 q.closed })
unfolding items-of
expel-one a q items n view c is le left =
    let s : IsSoundQueue q = sound-of a q view c in
    let low : n ≤ a.persisted = omega (arith, le, least-le q, ap (λ (q : QueueData). q.persisted) view) in
    let old : IsOldest a.items.closed a.items.last n = oldest-found a.items.closed a.items.last a.persisted n c.sound.numbers c.sound.unstored is low in
    let e : items.closed ≡ drop 1 a.items.closed = ap (λ (i : ItemsData). i.closed) left ∙ old.dropped in
    let f : items.last ≡ a.items.last = ap (λ (i : ItemsData). i.last) left ∙ old.stays in
    let g : items.blocks ≡ a.items.blocks = ap (λ (i : ItemsData). i.blocks) left in
    let made : items ≡ items-of (drop 1 a.items.closed) a.items.last a.items.blocks = same-items items (drop 1 a.items.closed) a.items.last a.items.blocks e f g in
    let new : queue_view (record a { items = items }) ≡ record (queue_view a) { closed = drop 1 a.items.closed } =
    ap (λ (i : ItemsData). queue_view (record a { items = i })) made in
    let count : a.keys ≡ length items.last = c.count ∙ ap (λ (l : List ItemData). length l) (sym f) in (
      leaves (record a { items = items }) (record q { closed = drop 1 q.closed }) (new ∙ ap (λ (q : QueueData). record q { closed = drop 1 q.closed }) view) count (c.blocks ∙ sym g) (sound-dropped q 1 s),
      one-of a q n view le old,
    )

pub expel-none : (q : QueueData) → IsSoundQueue q → number_of (find (is_above 0) (held q)) ≡ None → ExpelsNone q q
expel-none q s is = record { same = refl; ahead = ahead-none (held q) (least_cursor q) s.numbers is }

pub expel-later : (q : QueueData) (n : ℕ) → IsSoundQueue q → number_of (find (is_above 0) (held q)) ≡ Some n → least_cursor q < n → ExpelsNone q q
expel-later q n s is lower = record { same = refl; ahead = ahead-some (held q) (least_cursor q) n s.numbers is lower }

-- whether an item fits

pub room-fits : (a b : QueueData) (key : List ℕ) (len : ℕ) → Expelled a b → IsSoundQueue b → blocks (length key) + blocks len ≤ free_blocks b + replaced_blocks a key → CanHold b key len × (kept_with a key len ≤ a.blocks)
room-fits a b key len e s fits =
    let room : CanHold b key len = omega (arith, fits, replaced-same a b key e) in
    (room, omega (arith, fits-kept b key len s room, kept-same a b key len e, blocks-same a b e))

pub room-short : (a b c : QueueData) (key : List ℕ) (len : ℕ) → Expelled a b → IsSoundQueue b → ExpelsNone b c → free_blocks b + replaced_blocks a key < blocks (length key) + blocks len → Expelled a c × (a.blocks < kept_with a key len)
room-short a b c key len e s none short =
    let ahead : All (λ (i : ItemData). b.persisted < i.meta.seqno) (held b) = subst (λ (n : ℕ). All (λ (i : ItemData). n < i.meta.seqno) (held b)) (least-is b s) none.ahead in (
      subst (λ (c : QueueData). Expelled a c) (sym none.same) e,
      omega (arith, short-kept b key len s ahead (omega (arith, short, replaced-same a b key e)), kept-same a b key len e, blocks-same a b e),
    )

-- the blocks of the item that goes

pub replaced-none : (q : QueueData) (key : List ℕ) → number_of (find (is_of key) q.last) ≡ None → 0 ≡ replaced_blocks q key
replaced-none q key is = sym (ap blocks_of (none-found (is_of key) q.last (none-number (find (is_of key) q.last) is)))

pub replaced-some : (q : QueueData) (key : List ℕ) (n : ℕ) (o : Option Meta) → IsSoundQueue q → number_of (find (is_of key) q.last) ≡ Some n → o ≡ option_map (λ (i : ItemData). i.meta) (find (has_number n) (held q)) → MatchOption o ⊥ (λ m. blocks (length key) + blocks m.len ≡ replaced_blocks q key)
replaced-some q key n o s is meta =
    let j : (j : ItemData) × (find (is_of key) q.last ≡ Some j) × (j.meta.seqno ≡ n) = some-number (find (is_of key) q.last) n is in
    let one : IsOne key q.last j.0 = one-found key 0 q.last j.0 (rise-behind 0 q.closed q.last s.numbers) s.keys j.1 in
    let at : find (has_number n) (held q) ≡ Some j.0 = subst (λ (n : ℕ). find (has_number n) (held q) ≡ Some j.0) j.2 (found-behind (is_of key) 0 q.closed q.last j.0 s.numbers j.1) in
    let got : o ≡ Some j.0.meta = meta ∙ ap (λ (o : Option ItemData). option_map (λ (i : ItemData). i.meta) o) at in
    let len : j.0.meta.len ≡ length j.0.value = all-found (λ (i : ItemData). i.meta.len ≡ length i.value) (is_of key) q.last j.0 (all-right (λ (i : ItemData). i.meta.len ≡ length i.value) q.closed q.last s.measured) j.1 in
    subst (λ (o : Option Meta). MatchOption o ⊥ (λ m. blocks (length key) + blocks m.len ≡ replaced_blocks q key)) (sym got)
    (ap (λ (l : ℕ). blocks (length key) + blocks l) len ∙ ap (λ (k : List ℕ). blocks (length k) + blocks (length j.0.value)) (sym one.own) ∙ sym one.blocks)

pub replaced-meta : (a : Inside) (q : QueueData) (key : List ℕ) (n : ℕ) (o : Option Meta) → queue_view a ≡ q → CountsKeys a → number_of (find (is_of key) a.items.last) ≡ Some n → o ≡ option_map (λ (i : ItemData). i.meta) (find (has_number n) (all_items a.items)) → MatchOption o ⊥ (λ m. blocks (length key) + blocks m.len ≡ replaced_blocks q key)
replaced-meta a q key n o view c is meta =
    subst (λ (q : QueueData). MatchOption o ⊥ (λ m. blocks (length key) + blocks m.len ≡ replaced_blocks q key)) view (replaced-some (queue_view a) key n o c.sound is meta)

pub replaced-nothing : (a : Inside) (q : QueueData) (key : List ℕ) → queue_view a ≡ q → number_of (find (is_of key) a.items.last) ≡ None → 0 ≡ replaced_blocks q key
replaced-nothing a q key view is = subst (λ (q : QueueData). 0 ≡ replaced_blocks q key) view (replaced-none (queue_view a) key is)

pub free-fits : (a b : QueueData) (key : List ℕ) → Expelled a b → IsSoundQueue b → free_blocks b + replaced_blocks a key ≤ 16777216
free-fits a b key e s = omega (arith, s.room, s.most, replaced-same a b key e, blocks-split b key)

pub clear-nothing : (a : Inside) (q : QueueData) (key : List ℕ) → queue_view a ≡ q → IsSoundQueue q → number_of (find (is_of key) a.items.last) ≡ None → length q.last < q.ckpt_max → q ≡ cleared q key
clear-nothing a q key view s none fewer =
    clear-free q key s (ap (λ (q : QueueData). number_of (find (is_of key) q.last)) (sym view) ∙ none) (λ (full : length q.last ≡ q.ckpt_max). absurd (omega (arith, full, fewer)))

pub next-of : (a : Inside) (q : QueueData) (n : ℕ) (o : Option ℕ) → queue_view a ≡ q → CountsKeys a → o ≡ number_of (find (is_above n) (all_items a.items)) → ReadsOn n (held q) o
next-of a q n o view c is =
    subst (λ (q : QueueData). ReadsOn n (held q) o) view (subst (λ (o : Option ℕ). ReadsOn n (held (queue_view a)) o) (sym is) (reads-on 0 n (held (queue_view a)) c.sound.numbers))

-- a mutation that has room goes in

pub absent-at : (a : Inside) (q : QueueData) (key : List ℕ) → queue_view a ≡ cleared q key → IsSoundQueue q → find (is_of key) a.items.last ≡ None
absent-at a q key view s = subst (λ (q : QueueData). find (is_of key) q.last ≡ None) (sym view) (is-cleared q key s).absent

pub room-at : (a : Inside) (q : QueueData) (key : List ℕ) (len : ℕ) → queue_view a ≡ cleared q key → IsSoundQueue q → CanHold q key len → blocks (length key) + blocks len ≤ free_blocks (queue_view a)
room-at a q key len view s room = subst (λ (q : QueueData). blocks (length key) + blocks len ≤ free_blocks q) (sym view) (room-cleared q key len s room)

pub ok-here : {T E : Type 0} (r : Result T E) (P : Type 0) → is_ok r ≡ true → OnOk r P → P
ok-here (Ok x) P is on = on
ok-here (Err e) P is on = absurd (cc)

pub later-at : (a : Inside) (q : QueueData) (n : ℕ) → queue_view a ≡ q → CountsKeys a → number_of (find (is_above 0) (all_items a.items)) ≡ Some n → least_cursor q < n → ExpelsNone q q
later-at a q n view c is lower =
    let low : least_cursor (queue_view a) < n = omega (arith, lower, ap least_cursor view) in
    subst (λ (q : QueueData). ExpelsNone q q) view (expel-later (queue_view a) n c.sound is low)
