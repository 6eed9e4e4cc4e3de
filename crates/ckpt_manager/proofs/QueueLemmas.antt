-- What stays true of a queue.
use Rattle.std.proofs.Common.{◌≡◌, ℕ, ◌+◌, ◌-◌, ◌<◌, ◌≤◌, ◌^◌, max, Bool, true, false, not, ◌&&◌, cond, List, [], ◌∷◌, ◌++◌, length, Option, Some, None, refl, sym, ap, subst, arith, append_assoc, length-append}
use Rattle.std.specs.Prelude.{filter, nat_eq, nat_le, All, is_none}
use Rattle.std.specs.List.{find}
use Rattle.std.proofs.lemmas.List.{append-nil}
use Rattle.std.proofs.lemmas.List.Elements.{All-nil, All-append, All-filter, All-push, All-weaker}
use Rattle.std.proofs.lemmas.List.Sums.{sum_by-append, length-filter, count_by-le-length}
use Rattle.std.proofs.lemmas.List.Filters.{sum_by-filter_both}
use Rattle.std.proofs.lemmas.Bool.Decides.{nat_tests}
use Rattle.ep_model.specs.Limits.{IsKey, IsValue, end_of_moments}
use Rattle.ep_model.specs.Plain.{IsSound}
use Rattle.ep_model.specs.World.{blocks}
use Rattle.ep_model.specs.declared.call.Meta.{Meta}
use Rattle.ckpt_items.specs.declared.data.ItemData.{ItemData}
use Rattle.ckpt_items.specs.Items.{blocks_of, item_blocks, is_of}
use Rattle.ckpt_manager.specs.declared.data.QueueData.{QueueData}
use Rattle.ckpt_manager.specs.Queue.{held, free_blocks, closed, thinned, cleared, put_last, item_of, without_key, replaced_blocks, begun, fresh}
use Rattle.ckpt_manager.specs.Sound.{RiseAbove, IsSoundQueue}
use Rattle.ckpt_manager.proofs.ItemLemmas.{rise-last, rise-right, rise-behind, all-left, all-right, none-found, find-gone, own-filter, own-last, one-found}

-- tests

le-true : (a b : ℕ) → nat_le a b ≡ true → a ≤ b
le-true a b e = grind (arith, nat_tests)

le-false : (a b : ℕ) → nat_le a b ≡ false → b < a
le-false a b e = grind (arith, nat_tests)

equal-true : (a b : ℕ) → nat_eq a b ≡ true → a ≡ b
equal-true a b e = grind (arith, nat_tests)

equal-false : (a : ℕ) → nat_eq a 0 ≡ false → 0 < a
equal-false a e = grind (arith, nat_tests)

shorter : (p : ItemData → Bool) (xs : List ItemData) → length (filter p xs) ≤ length xs
shorter p xs = omega (arith, length-filter p xs, count_by-le-length p xs)

-- the key and the value are within their limits
abbrev pub WithinLimits : ItemData → Type 0
WithinLimits i = IsKey i.key × IsValue i.value

-- the open checkpoint is closed

pub sound-closed : (q : QueueData) → IsSoundQueue q → 0 < length q.last → IsSoundQueue (closed q)
sound-closed q s some =
    let same : held q ≡ held (closed q) = sym (append-nil (held q)) in
    record {
      greatest = s.greatest;
      backup = s.backup;
      front = s.front;
      numbers = subst (λ (xs : List ItemData). RiseAbove 0 xs) same s.numbers;
      highest = subst (λ (xs : List ItemData). All (λ (i : ItemData). i.meta.seqno ≤ q.high) xs) same s.highest;
      unstored = All-nil (λ (i : ItemData). q.persisted < i.meta.seqno);
      measured = subst (λ (xs : List ItemData). All (λ (i : ItemData). i.meta.len ≡ length i.value) xs) same s.measured;
      within = subst (λ (xs : List ItemData). All WithinLimits xs) same s.within;
      keys = tt;
      some = s.some;
      bound = s.bound;
      few = omega arith;
      ids = omega (arith, s.ids, some);
      unnamed = s.unnamed;
      room = subst (λ (xs : List ItemData). blocks_of xs ≤ q.blocks) same s.room;
      most = s.most;
    }

-- a key's item went

pub blocks-thinned : (q : QueueData) (key : List ℕ) → blocks_of (held (thinned q key)) + replaced_blocks q key ≡ blocks_of (held q)
blocks-thinned q key =
    let whole : blocks_of (held q) ≡ blocks_of q.closed + blocks_of q.last = sum_by-append item_blocks q.closed q.last in
    let part : blocks_of (held (thinned q key)) ≡ blocks_of q.closed + blocks_of (without_key q.last key) = sum_by-append item_blocks q.closed (without_key q.last key) in
    let both : blocks_of (filter (is_of key) q.last) + blocks_of (without_key q.last key) ≡ blocks_of q.last = sum_by-filter_both (is_of key) (λ (i : ItemData). not (is_of key i)) (λ _. refl) item_blocks q.last in
    omega (arith, whole, part, both)

pub sound-thinned : (q : QueueData) (key : List ℕ) → IsSoundQueue q → IsSoundQueue (thinned q key)
sound-thinned q key s =
    let p : ItemData → Bool = λ i. not (is_of key i) in
    record {
      greatest = s.greatest;
      backup = s.backup;
      front = s.front;
      numbers = rise-right p 0 q.closed q.last s.numbers;
      highest = All-append (λ (i : ItemData). i.meta.seqno ≤ q.high) q.closed (without_key q.last key)
          (all-left (λ (i : ItemData). i.meta.seqno ≤ q.high) q.closed q.last s.highest)
          (All-filter p (λ (i : ItemData). i.meta.seqno ≤ q.high) q.last (all-right (λ (i : ItemData). i.meta.seqno ≤ q.high) q.closed q.last s.highest));
      unstored = All-filter p (λ (i : ItemData). q.persisted < i.meta.seqno) q.last s.unstored;
      measured = All-append (λ (i : ItemData). i.meta.len ≡ length i.value) q.closed (without_key q.last key)
          (all-left (λ (i : ItemData). i.meta.len ≡ length i.value) q.closed q.last s.measured)
          (All-filter p (λ (i : ItemData). i.meta.len ≡ length i.value) q.last (all-right (λ (i : ItemData). i.meta.len ≡ length i.value) q.closed q.last s.measured));
      within = All-append WithinLimits q.closed (without_key q.last key)
          (all-left WithinLimits q.closed q.last s.within)
          (All-filter p WithinLimits q.last (all-right WithinLimits q.closed q.last s.within));
      keys = own-filter p q.last s.keys;
      some = s.some;
      bound = s.bound;
      few = omega (arith, s.few, shorter p q.last);
      ids = omega (arith, s.ids, shorter p q.last);
      unnamed = s.unnamed;
      room = omega (arith, s.room, blocks-thinned q key);
      most = s.most;
    }

-- place is made

clear-pick : (q : QueueData) (key : List ℕ) (P : QueueData → Type 0) → (find (is_of key) q.last ≡ None → q.ckpt_max ≤ length q.last → P (closed q)) → (find (is_of key) q.last ≡ None → length q.last < q.ckpt_max → P (thinned q key)) → ((j : ItemData) → find (is_of key) q.last ≡ Some j → P (thinned q key)) → (o : Option ItemData) (b : Bool) → find (is_of key) q.last ≡ o → nat_le q.ckpt_max (length q.last) ≡ b → P (cond (b && is_none o) (closed q) (thinned q key))
clear-pick q key P full free found None true e f = full e (le-true q.ckpt_max (length q.last) f)
clear-pick q key P full free found None false e f = free e (le-false q.ckpt_max (length q.last) f)
clear-pick q key P full free found (Some j) true e f = found j e
clear-pick q key P full free found (Some j) false e f = found j e

pub clear-cases : (q : QueueData) (key : List ℕ) (P : QueueData → Type 0) → (find (is_of key) q.last ≡ None → q.ckpt_max ≤ length q.last → P (closed q)) → (find (is_of key) q.last ≡ None → length q.last < q.ckpt_max → P (thinned q key)) → ((j : ItemData) → find (is_of key) q.last ≡ Some j → P (thinned q key)) → P (cleared q key)
clear-cases q key P full free found =
    clear-pick q key P full free found (find (is_of key) q.last) (nat_le q.ckpt_max (length q.last)) refl refl

-- a queue with place for a mutation of the key, and what it was before
pub record IsCleared (q p : QueueData) (key : List ℕ) : Type 0 where
  pub sound : IsSoundQueue p
  pub absent : find (is_of key) p.last ≡ None
  pub fewer : length p.last < p.ckpt_max
  pub room : blocks_of (held p) + replaced_blocks q key ≡ blocks_of (held q)
  pub blocks : p.blocks ≡ q.blocks
  pub high : p.high ≡ q.high
  pub maxcas : p.maxcas ≡ q.maxcas

pub is-cleared : (q : QueueData) (key : List ℕ) → IsSoundQueue q → IsCleared q (cleared q key) key
is-cleared q key s =
    clear-cases q key (λ (p : QueueData). IsCleared q p key)
    (λ none full. record {
      sound = sound-closed q s (omega (arith, full, s.some));
      absent = refl;
      fewer = omega (arith, s.some);
      room = omega (arith, ap blocks_of (append-nil (held q)), ap blocks_of (none-found (is_of key) q.last none));
      blocks = refl;
      high = refl;
      maxcas = refl;
    })
    (λ none free. record {
      sound = sound-thinned q key s;
      absent = find-gone (is_of key) q.last;
      fewer = omega (arith, free, shorter (λ i. not (is_of key i)) q.last);
      room = blocks-thinned q key;
      blocks = refl;
      high = refl;
      maxcas = refl;
    })
    (λ j is. record {
      sound = sound-thinned q key s;
      absent = find-gone (is_of key) q.last;
      fewer = omega (arith, s.few, (one-found key 0 q.last j (rise-behind 0 q.closed q.last s.numbers) s.keys is).fewer);
      room = blocks-thinned q key;
      blocks = refl;
      high = refl;
      maxcas = refl;
    })

-- a mutation is put last

pub sound-put : (p : QueueData) (key : List ℕ) (meta : Meta) (value : List ℕ) → IsSoundQueue p → IsKey key → IsValue value → find (is_of key) p.last ≡ None → length p.last < p.ckpt_max → p.high < 2 ^ 48 - 1 → meta.cas ≤ end_of_moments + p.high + 1 → meta.len ≡ length value → blocks (length key) + blocks (length value) ≤ free_blocks p → IsSoundQueue (put_last p key meta value)
sound-put p key meta value s is_key is_value absent fewer few stamp len room =
    let item : ItemData = item_of key meta value (p.high + 1) in
    let same : held p ++ item ∷ [] ≡ held (put_last p key meta value) = append_assoc p.closed p.last (item ∷ []) in
    let sum : blocks_of (held p ++ item ∷ []) ≡ blocks_of (held p) + blocks_of (item ∷ []) = sum_by-append item_blocks (held p) (item ∷ []) in
    record {
      greatest = record { numbers = omega (arith, few); stamps = omega (arith, stamp) };
      backup = s.backup;
      front = omega (arith, s.front);
      numbers = subst (λ (xs : List ItemData). RiseAbove 0 xs) same
          (rise-last 0 (held p) item s.numbers (omega arith) (All-weaker (λ (i : ItemData). i.meta.seqno ≤ p.high) (λ (i : ItemData). i.meta.seqno < p.high + 1) (λ (i : ItemData) h. omega (arith, h)) (held p) s.highest));
      highest = subst (λ (xs : List ItemData). All (λ (i : ItemData). i.meta.seqno ≤ p.high + 1) xs) same
          (All-push (λ (i : ItemData). i.meta.seqno ≤ p.high + 1) (held p) item (All-weaker (λ (i : ItemData). i.meta.seqno ≤ p.high) (λ (i : ItemData). i.meta.seqno ≤ p.high + 1) (λ (i : ItemData) h. omega (arith, h)) (held p) s.highest) (omega arith));
      unstored = All-push (λ (i : ItemData). p.persisted < i.meta.seqno) p.last item s.unstored (omega (arith, s.backup, s.front));
      measured = subst (λ (xs : List ItemData). All (λ (i : ItemData). i.meta.len ≡ length i.value) xs) same
          (All-push (λ (i : ItemData). i.meta.len ≡ length i.value) (held p) item s.measured len);
      within = subst (λ (xs : List ItemData). All WithinLimits xs) same (All-push WithinLimits (held p) item s.within (is_key, is_value));
      keys = own-last p.last item s.keys absent;
      some = s.some;
      bound = s.bound;
      few = omega (arith, fewer, length-append p.last (item ∷ []));
      ids = omega (arith, s.ids, length-append p.last (item ∷ []));
      unnamed = s.unnamed;
      room = subst (λ (xs : List ItemData). blocks_of xs ≤ p.blocks) same (omega (arith, sum, room, s.room));
      most = s.most;
    }

-- cursors move

pub sound-advanced : (q : QueueData) → IsSoundQueue q → IsSoundQueue (record q { cursor = q.high })
sound-advanced q s = record { greatest = s.greatest; backup = omega (arith, s.backup, s.front); front = omega arith; numbers = s.numbers; highest = s.highest; unstored = s.unstored; measured = s.measured; within = s.within; keys = s.keys; some = s.some; bound = s.bound; few = s.few; ids = s.ids; unnamed = s.unnamed; room = s.room; most = s.most }

pub sound-fallen : (q : QueueData) → IsSoundQueue q → IsSoundQueue (record q { cursor = q.persisted })
sound-fallen q s = record { greatest = s.greatest; backup = omega arith; front = omega (arith, s.backup, s.front); numbers = s.numbers; highest = s.highest; unstored = s.unstored; measured = s.measured; within = s.within; keys = s.keys; some = s.some; bound = s.bound; few = s.few; ids = s.ids; unnamed = s.unnamed; room = s.room; most = s.most }

pub sound-stored : (q : QueueData) (n : ℕ) → IsSoundQueue q → q.last ≡ [] → n ≤ q.high → IsSoundQueue (record q { cursor = max q.cursor n; persisted = n })
sound-stored q n s none reached = record {
  greatest = s.greatest;
  backup = omega arith;
  front = omega (arith, s.front, reached);
  numbers = s.numbers;
  highest = s.highest;
  unstored = subst (λ (xs : List ItemData). All (λ (i : ItemData). n < i.meta.seqno) xs) (sym none) (All-nil (λ (i : ItemData). n < i.meta.seqno));
  measured = s.measured;
  within = s.within;
  keys = s.keys;
  some = s.some;
  bound = s.bound;
  few = s.few;
  ids = s.ids;
  unnamed = s.unnamed;
  room = s.room;
  most = s.most;
}

-- a queue begins

append-none : (xs ys : List ItemData) → xs ++ ys ≡ [] → ys ≡ []
append-none [] ys e = e
append-none (x ∷ xs) ys e = absurd (cc)

pub sound-begun : (q : QueueData) (high maxcas : ℕ) (table : List (ℕ × ℕ)) → IsSoundQueue q → held q ≡ [] → IsSound high maxcas → IsSoundQueue (begun q high maxcas table)
sound-begun q high maxcas table s none range =
    let open' : q.last ≡ [] = append-none q.closed q.last none in
    record {
      greatest = range;
      backup = omega arith;
      front = omega arith;
      numbers = s.numbers;
      highest = subst (λ (xs : List ItemData). All (λ (i : ItemData). i.meta.seqno ≤ high) xs) (sym none) (All-nil (λ (i : ItemData). i.meta.seqno ≤ high));
      unstored = subst (λ (xs : List ItemData). All (λ (i : ItemData). high < i.meta.seqno) xs) (sym open') (All-nil (λ (i : ItemData). high < i.meta.seqno));
      measured = s.measured;
      within = s.within;
      keys = s.keys;
      some = s.some;
      bound = s.bound;
      few = s.few;
      ids = omega (arith, ap (λ (xs : List ItemData). length xs) open');
      unnamed = s.unnamed;
      room = s.room;
      most = s.most;
    }

pub sound-fresh : (most ckpt_max : ℕ) → 1 ≤ ckpt_max → ckpt_max ≤ 100000 → most ≤ 16777216 → IsSoundQueue (fresh most ckpt_max)
sound-fresh most ckpt_max some limit bound = record {
  greatest = record { numbers = omega arith; stamps = omega arith };
  backup = omega arith;
  front = omega arith;
  numbers = tt;
  highest = All-nil (λ (i : ItemData). i.meta.seqno ≤ 0);
  unstored = All-nil (λ (i : ItemData). 0 < i.meta.seqno);
  measured = All-nil (λ (i : ItemData). i.meta.len ≡ length i.value);
  within = All-nil WithinLimits;
  keys = tt;
  some = some;
  bound = limit;
  few = omega arith;
  ids = omega arith;
  unnamed = refl;
  room = omega arith;
  most = bound;
}
