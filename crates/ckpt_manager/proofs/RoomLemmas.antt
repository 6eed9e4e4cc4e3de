-- Which items may go, and whether another fits.
use Rattle.std.proofs.Common.{◌≡◌, ℕ, suc, zero, ◌+◌, ◌-◌, ◌<◌, ◌≤◌, min, Bool, true, false, not, cond, List, [], ◌∷◌, ◌++◌, length, take, drop, Some, None, refl, sym, ap, subst, ◌∙◌, arith, append_assoc}
use Rattle.std.specs.Prelude.{filter, nat_eq, nat_lt, All}
use Rattle.std.specs.List.{find}
use Rattle.std.proofs.lemmas.List.{append-nil, drop-drop, length-drop}
use Rattle.std.proofs.lemmas.List.Elements.{All-nil, All-cons, All-append, All-head, All-tail, All-weaker, All-filter, All-drop, filter-append}
use Rattle.std.proofs.lemmas.List.Sums.{sum_by-append, sum_by-cons}
use Rattle.std.proofs.lemmas.List.Filters.{sum_by-filter_both}
use Rattle.std.proofs.lemmas.Bool.Decides.{nat_tests}
use Rattle.ep_model.specs.World.{blocks}
use Rattle.ep_model.specs.declared.call.Meta.{Meta}
use Rattle.ckpt_items.specs.declared.data.ItemData.{ItemData}
use Rattle.ckpt_items.specs.Items.{blocks_of, item_blocks, is_of, is_above, number_of, without_number}
use Rattle.ckpt_manager.specs.declared.data.QueueData.{QueueData}
use Rattle.ckpt_manager.specs.Queue.{held, kept, free_blocks, items_above, closed, thinned, put_last, queued, stored, moved_up, item_of, without_key, kept_with, last_of, last_above, replaced_blocks, CanHold, lowest, least_cursor, Expelled, NoneTooMany, ExpelsOne}
use Rattle.ckpt_manager.specs.Sound.{RiseAbove, IsSoundQueue}
use Rattle.ckpt_manager.proofs.ItemLemmas.{rise-all, rise-weaker, all-left, all-right, filter-all, none-filter, higher-stay}
use Rattle.ckpt_manager.proofs.QueueLemmas.{WithinLimits, clear-cases}

lt-true : (n a : ℕ) → n < a → nat_lt n a ≡ true
lt-true n a lower = grind (arith, nat_tests)

le-not : (n a : ℕ) → a ≤ n → nat_lt n a ≡ false
le-not n a le = grind (arith, nat_tests)

equal-self : (n : ℕ) → not (nat_eq n n) ≡ false
equal-self n = grind (arith, nat_tests)

-- cursors

lowest-le : (n : ℕ) (cs : List (ℕ × ℕ)) → lowest n cs ≤ n
lowest-le n [] = omega arith
lowest-le n (c ∷ cs) = omega (arith, lowest-le n cs)

pub least-le : (q : QueueData) → least_cursor q ≤ q.persisted
least-le q = omega (arith, lowest-le (min q.persisted q.cursor) q.named)

-- no cursor but the flusher's and its backup, which is never ahead
pub least-is : (q : QueueData) → IsSoundQueue q → least_cursor q ≡ q.persisted
least-is q s =
    ap (λ (cs : List (ℕ × ℕ)). lowest (min q.persisted q.cursor) cs) s.unnamed ∙ omega (arith, s.backup)

-- the oldest item

-- the oldest item is the first of a closed checkpoint, and it alone has its number
pub record IsOldest (closed' open' : List ItemData) (n : ℕ) : Type 0 where
  pub some : 0 < length closed'
  pub passed : All (λ (i : ItemData). i.meta.seqno ≤ n) (take 1 closed')
  pub dropped : without_number closed' n ≡ drop 1 closed'
  pub stays : without_number open' n ≡ open'

some-found : (x : ItemData) (xs : List ItemData) (n : ℕ) → 0 < x.meta.seqno → number_of (find (is_above 0) (x ∷ xs)) ≡ Some n → x.meta.seqno ≡ n
some-found x xs n positive is =
    let first : number_of (find (is_above 0) (x ∷ xs)) ≡ Some x.meta.seqno =
    ap (λ (b : Bool). number_of (cond b (Some x) (find (is_above 0) xs))) (lt-true 0 x.meta.seqno positive) in
    cc

none-found : (x : ItemData) (xs : List ItemData) → 0 < x.meta.seqno → number_of (find (is_above 0) (x ∷ xs)) ≡ None → ⊥
none-found x xs positive is =
    let first : number_of (find (is_above 0) (x ∷ xs)) ≡ Some x.meta.seqno =
    ap (λ (b : Bool). number_of (cond b (Some x) (find (is_above 0) xs))) (lt-true 0 x.meta.seqno positive) in
    cc

oldest-of : (x : ItemData) (cs open' : List ItemData) → RiseAbove x.meta.seqno (cs ++ open') → IsOldest (x ∷ cs) open' x.meta.seqno
oldest-of x cs open' rise =
    let n : ℕ = x.meta.seqno in
    let later : All (λ (i : ItemData). n < i.meta.seqno) (cs ++ open') = rise-all n (cs ++ open') rise in
    record {
      some = omega arith;
      passed = All-cons (λ (i : ItemData). i.meta.seqno ≤ n) x [] (omega arith) (All-nil (λ (i : ItemData). i.meta.seqno ≤ n));
      dropped = ap (λ (b : Bool). cond b (x ∷ without_number cs n) (without_number cs n)) (equal-self n)
          ∙ higher-stay n cs (all-left (λ (i : ItemData). n < i.meta.seqno) cs open' later);
      stays = higher-stay n open' (all-right (λ (i : ItemData). n < i.meta.seqno) cs open' later);
    }

pub oldest-found : (closed' open' : List ItemData) (persisted n : ℕ) → RiseAbove 0 (closed' ++ open') → All (λ (i : ItemData). persisted < i.meta.seqno) open' → number_of (find (is_above 0) (closed' ++ open')) ≡ Some n → n ≤ persisted → IsOldest closed' open' n
oldest-found [] [] persisted n rise unstored is le = absurd (cc)
oldest-found [] (y ∷ ys) persisted n rise unstored is le =
    let same : y.meta.seqno ≡ n = some-found y ys n rise.0 is in
    let ahead : persisted < y.meta.seqno = All-head (λ (i : ItemData). persisted < i.meta.seqno) y ys unstored in
    absurd (omega (arith, same, ahead, le))
oldest-found (x ∷ cs) open' persisted n rise unstored is le =
    let same : x.meta.seqno ≡ n = some-found x (cs ++ open') n rise.0 is in
    subst (λ (n : ℕ). IsOldest (x ∷ cs) open' n) same (oldest-of x cs open' rise.1)

pub ahead-some : (xs : List ItemData) (m n : ℕ) → RiseAbove 0 xs → number_of (find (is_above 0) xs) ≡ Some n → m < n → All (λ (i : ItemData). m < i.meta.seqno) xs
ahead-some [] m n rise is lower = All-nil (λ (i : ItemData). m < i.meta.seqno)
ahead-some (x ∷ xs) m n rise is lower =
    let same : x.meta.seqno ≡ n = some-found x xs n rise.0 is in
    rise-all m (x ∷ xs) (omega (arith, same, lower), rise.1)

pub ahead-none : (xs : List ItemData) (m : ℕ) → RiseAbove 0 xs → number_of (find (is_above 0) xs) ≡ None → All (λ (i : ItemData). m < i.meta.seqno) xs
ahead-none [] m rise is = All-nil (λ (i : ItemData). m < i.meta.seqno)
ahead-none (x ∷ xs) m rise is = absurd (none-found x xs rise.0 is)

-- a queue without its oldest item is sound

rise-dropped : (c : ℕ) (n : ℕ) (xs ys : List ItemData) → RiseAbove n (xs ++ ys) → RiseAbove n (drop c xs ++ ys)
rise-dropped zero n xs ys rise = rise
rise-dropped (suc c) n [] ys rise = rise
rise-dropped (suc c) n (x ∷ xs) ys rise =
    rise-weaker n x.meta.seqno (drop c xs ++ ys) (omega (arith, rise.0)) (rise-dropped c x.meta.seqno xs ys rise.1)

all-dropped : (P : ItemData → Type 0) (c : ℕ) (xs ys : List ItemData) → All P (xs ++ ys) → All P (drop c xs ++ ys)
all-dropped P c xs ys all = All-append P (drop c xs) ys (All-drop P c xs (all-left P xs ys all)) (all-right P xs ys all)

blocks-dropped : (c : ℕ) (xs ys : List ItemData) → blocks_of (drop c xs ++ ys) ≤ blocks_of (xs ++ ys)
blocks-dropped zero xs ys = omega arith
blocks-dropped (suc c) [] ys = omega arith
blocks-dropped (suc c) (x ∷ xs) ys =
    let less : blocks_of (drop c xs ++ ys) ≤ item_blocks x + blocks_of (xs ++ ys) = omega (arith, blocks-dropped c xs ys) in
    subst (λ (n : ℕ). blocks_of (drop c xs ++ ys) ≤ n) (sym (sum_by-cons item_blocks x (xs ++ ys))) less

pub sound-dropped : (q : QueueData) (c : ℕ) → IsSoundQueue q → IsSoundQueue (record q { closed = drop c q.closed })
sound-dropped q c s = record {
  greatest = s.greatest;
  backup = s.backup;
  front = s.front;
  numbers = rise-dropped c 0 q.closed q.last s.numbers;
  highest = all-dropped (λ (i : ItemData). i.meta.seqno ≤ q.high) c q.closed q.last s.highest;
  unstored = s.unstored;
  measured = all-dropped (λ (i : ItemData). i.meta.len ≡ length i.value) c q.closed q.last s.measured;
  within = all-dropped WithinLimits c q.closed q.last s.within;
  keys = s.keys;
  some = s.some;
  bound = s.bound;
  few = s.few;
  ids = s.ids;
  unnamed = s.unnamed;
  room = omega (arith, s.room, blocks-dropped c q.closed q.last);
  most = s.most;
}

-- items go one after the other

pub expelled-none : (q : QueueData) → Expelled q q
expelled-none q = record { count = 0; passed = All-nil (λ (i : ItemData). i.meta.seqno ≤ least_cursor q); after = refl }

take-then : (m : ℕ) (P : ItemData → Type 0) (xs : List ItemData) → All P (take m xs) → All P (take 1 (drop m xs)) → All P (take (suc m) xs)
take-then zero P xs front next = next
take-then (suc m) P [] front next = All-nil P
take-then (suc m) P (x ∷ xs) front next =
    All-cons P x (take (suc m) xs) (All-head P x (take m xs) front) (take-then m P xs (All-tail P x (take m xs) front) next)

expelled-next : (a : QueueData) (m : ℕ) (c : QueueData) → All (λ (i : ItemData). i.meta.seqno ≤ least_cursor a) (take m a.closed) → ExpelsOne (record a { closed = drop m a.closed }) c → Expelled a c
expelled-next a m c passed one = record {
  count = suc m;
  passed = take-then m (λ (i : ItemData). i.meta.seqno ≤ least_cursor a) a.closed passed one.passed;
  after = one.after ∙ ap (λ (xs : List ItemData). record a { closed = xs })
      (drop-drop 1 m a.closed ∙ ap (λ (n : ℕ). drop n a.closed) (let e : m + 1 ≡ suc m = omega arith in e));
}

pub expelled-then : (a b c : QueueData) → Expelled a b → ExpelsOne b c → Expelled a c
expelled-then a b c before one =
    expelled-next a before.count c before.passed (subst (λ (b : QueueData). ExpelsOne b c) before.after one)

-- what was too little is not enough with one more gone but for that one
none-count : (a : QueueData) (m : ℕ) (c : QueueData) (key : List ℕ) (len : ℕ) → ExpelsOne (record a { closed = drop m a.closed }) c
    → (CanHold (record a { closed = drop m a.closed }) key len → ⊥) → NoneTooMany a (record a { closed = drop m a.closed }) key len
    → (count : ℕ) → count + length c.closed < length a.closed → CanHold (record a { closed = drop count a.closed }) key len → ⊥
none-count a m c key len one short before count below fits =
    let some : 0 < length (drop m a.closed) = one.some in
    let gone : length c.closed ≡ length (drop m a.closed) - 1 = ap (λ (q : QueueData). length q.closed) one.after ∙ length-drop 1 (drop m a.closed) in
    let left : length (drop m a.closed) ≡ length a.closed - m = length-drop m a.closed in
    elim (nat_lt count m) as (λ b. nat_lt count m ≡ b → ⊥) [
      | true ↦ λ is. before count (let fewer : count < m = grind (arith, nat_tests) in omega (arith, fewer, some, left)) fits
      | false ↦ λ is.
          let same : count ≡ m = let least : m ≤ count = grind (arith, nat_tests) in omega (arith, least, below, gone, left, some) in
          short (subst (λ (n : ℕ). CanHold (record a { closed = drop n a.closed }) key len) same fits)
    ] refl

-- the kept items are those that they were

items_above-passed : (n : ℕ) (xs : List ItemData) → All (λ (i : ItemData). i.meta.seqno ≤ n) xs → items_above n xs ≡ []
items_above-passed n [] passed = refl
items_above-passed n (x ∷ xs) passed =
    ap (λ (b : Bool). cond b (x ∷ items_above n xs) (items_above n xs)) (le-not n x.meta.seqno (All-head (λ (i : ItemData). i.meta.seqno ≤ n) x xs passed))
    ∙ items_above-passed n xs (All-tail (λ (i : ItemData). i.meta.seqno ≤ n) x xs passed)

items_above-dropped : (n c : ℕ) (xs : List ItemData) → All (λ (i : ItemData). i.meta.seqno ≤ n) (take c xs) → items_above n (drop c xs) ≡ items_above n xs
items_above-dropped n zero xs passed = refl
items_above-dropped n (suc c) [] passed = refl
items_above-dropped n (suc c) (x ∷ xs) passed =
    items_above-dropped n c xs (All-tail (λ (i : ItemData). i.meta.seqno ≤ n) x (take c xs) passed)
    ∙ sym (ap (λ (b : Bool). cond b (x ∷ items_above n xs) (items_above n xs)) (le-not n x.meta.seqno (All-head (λ (i : ItemData). i.meta.seqno ≤ n) x (take c xs) passed)))

pub kept-same : (a b : QueueData) (key : List ℕ) (len : ℕ) → Expelled a b → kept_with b key len ≡ kept_with a key len
kept-same a b key len e =
    let passed : All (λ (i : ItemData). i.meta.seqno ≤ a.persisted) (take e.count a.closed) =
    All-weaker (λ (i : ItemData). i.meta.seqno ≤ least_cursor a) (λ (i : ItemData). i.meta.seqno ≤ a.persisted) (λ (i : ItemData) h. omega (arith, h, least-le a)) (take e.count a.closed) e.passed in
    ap (λ (q : QueueData). kept_with q key len) e.after
    ∙ ap (λ (xs : List ItemData). blocks_of xs + blocks_of (items_above a.persisted (without_key a.last key)) + (blocks (length key) + blocks len)) (items_above-dropped a.persisted e.count a.closed passed)

pub replaced-same : (a b : QueueData) (key : List ℕ) → Expelled a b → replaced_blocks b key ≡ replaced_blocks a key
replaced-same a b key e = ap (λ (q : QueueData). replaced_blocks q key) e.after

-- so no more goes than has to
pub none-then : (a b c : QueueData) (key : List ℕ) (len : ℕ) → Expelled a b → ExpelsOne b c
    → free_blocks b + replaced_blocks a key < blocks (length key) + blocks len → NoneTooMany a b key len → NoneTooMany a c key len
none-then a b c key len before one short least =
    let tight : CanHold b key len → ⊥ = λ fits. absurd (omega (arith, short, replaced-same a b key before, fits)) in
    none-count a before.count c key len (subst (λ (b : QueueData). ExpelsOne b c) before.after one)
    (subst (λ (b : QueueData). CanHold b key len → ⊥) before.after tight)
    (subst (λ (b : QueueData). NoneTooMany a b key len) before.after least)

pub blocks-same : (a b : QueueData) → Expelled a b → b.blocks ≡ a.blocks
blocks-same a b e = ap (λ (q : QueueData). q.blocks) e.after

-- whether an item fits

blocks-filter : (p : ItemData → Bool) (xs : List ItemData) → blocks_of (filter p xs) ≤ blocks_of xs
blocks-filter p xs = omega (arith, sum_by-filter_both p (λ (i : ItemData). not (p i)) (λ _. refl) item_blocks xs)

pub blocks-split : (q : QueueData) (key : List ℕ) → blocks_of q.closed + blocks_of (without_key q.last key) + replaced_blocks q key ≡ blocks_of (held q)
blocks-split q key =
    let whole : blocks_of (held q) ≡ blocks_of q.closed + blocks_of q.last = sum_by-append item_blocks q.closed q.last in
    let both : blocks_of (filter (is_of key) q.last) + blocks_of (without_key q.last key) ≡ blocks_of q.last = sum_by-filter_both (is_of key) (λ (i : ItemData). not (is_of key i)) (λ _. refl) item_blocks q.last in
    omega (arith, whole, both)

pub fits-kept : (q : QueueData) (key : List ℕ) (len : ℕ) → IsSoundQueue q → CanHold q key len → kept_with q key len ≤ q.blocks
fits-kept q key len s room =
    omega (arith, s.room, room, blocks-split q key, blocks-filter (is_above q.persisted) q.closed, blocks-filter (is_above q.persisted) (without_key q.last key))

pub short-kept : (q : QueueData) (key : List ℕ) (len : ℕ) → IsSoundQueue q → All (λ (i : ItemData). q.persisted < i.meta.seqno) (held q) → free_blocks q + replaced_blocks q key < blocks (length key) + blocks len → q.blocks < kept_with q key len
short-kept q key len s ahead short =
    let tests : (xs : List ItemData) → All (λ (i : ItemData). q.persisted < i.meta.seqno) xs → items_above q.persisted xs ≡ xs =
    λ (xs : List ItemData) all. filter-all (is_above q.persisted) xs (All-weaker (λ (i : ItemData). q.persisted < i.meta.seqno) (λ (i : ItemData). is_above q.persisted i ≡ true) (λ (i : ItemData) h. lt-true q.persisted i.meta.seqno h) xs all) in
    let closed' : items_above q.persisted q.closed ≡ q.closed = tests q.closed (all-left (λ (i : ItemData). q.persisted < i.meta.seqno) q.closed q.last ahead) in
    let open' : items_above q.persisted (without_key q.last key) ≡ without_key q.last key =
    tests (without_key q.last key) (All-filter (λ (i : ItemData). not (is_of key i)) (λ (i : ItemData). q.persisted < i.meta.seqno) q.last (all-right (λ (i : ItemData). q.persisted < i.meta.seqno) q.closed q.last ahead)) in
    omega (arith, s.room, short, blocks-split q key, ap blocks_of closed', ap blocks_of open')

-- what every cursor above it sees stays, whatever went

pub last-expelled : (a b : QueueData) (n : ℕ) (k : List ℕ) → Expelled a b → least_cursor a ≤ n → last_above b n k ≡ last_above a n k
last-expelled a b n k e low =
    let passed : All (λ (i : ItemData). i.meta.seqno ≤ n) (take e.count a.closed) =
    All-weaker (λ (i : ItemData). i.meta.seqno ≤ least_cursor a) (λ (i : ItemData). i.meta.seqno ≤ n) (λ (i : ItemData) h. omega (arith, h, low)) (take e.count a.closed) e.passed in
    let same : items_above n (drop e.count a.closed ++ a.last) ≡ items_above n (a.closed ++ a.last) =
    filter-append (is_above n) (drop e.count a.closed) a.last
    ∙ ap (λ (xs : List ItemData). xs ++ items_above n a.last) (items_above-dropped n e.count a.closed passed)
    ∙ sym (filter-append (is_above n) a.closed a.last) in
    ap (λ (q : QueueData). last_above q n k) e.after ∙ ap (last_of k) same

-- what the store doesn't have, with a mutation more

kept-pushed : (n : ℕ) (xs : List ItemData) (i : ItemData) → is_above n i ≡ true → blocks_of (items_above n (xs ++ i ∷ [])) ≡ blocks_of (items_above n xs) + item_blocks i
kept-pushed n xs i is =
    let parts : items_above n (xs ++ i ∷ []) ≡ items_above n xs ++ i ∷ [] =
    filter-append (is_above n) xs (i ∷ []) ∙ ap (λ (b : Bool). items_above n xs ++ cond b (i ∷ []) []) is in
    ap blocks_of parts ∙ sum_by-append item_blocks (items_above n xs) (i ∷ []) ∙ omega arith

kept-parts : (n : ℕ) (xs ys : List ItemData) → blocks_of (items_above n (xs ++ ys)) ≡ blocks_of (items_above n xs) + blocks_of (items_above n ys)
kept-parts n xs ys =
    ap blocks_of (filter-append (is_above n) xs ys) ∙ sum_by-append item_blocks (items_above n xs) (items_above n ys)

pub kept-queued : (q : QueueData) (key : List ℕ) (meta : Meta) (value : List ℕ) → IsSoundQueue q → blocks_of (kept (queued q key meta value)) ≡ kept_with q key (length value)
kept-queued q key meta value s =
    let item : ItemData = item_of key meta value (q.high + 1) in
    let is : is_above q.persisted item ≡ true = lt-true q.persisted (q.high + 1) (omega (arith, s.backup, s.front)) in
    let thin : blocks_of (kept (put_last (thinned q key) key meta value)) ≡ kept_with q key (length value) =
    ap (λ (xs : List ItemData). blocks_of (items_above q.persisted xs)) (sym (append_assoc q.closed (without_key q.last key) (item ∷ [])))
    ∙ kept-pushed q.persisted (q.closed ++ without_key q.last key) item is
    ∙ ap (λ (n : ℕ). n + item_blocks item) (kept-parts q.persisted q.closed (without_key q.last key)) in
    let full : find (is_of key) q.last ≡ None → blocks_of (kept (put_last (closed q) key meta value)) ≡ kept_with q key (length value) =
    λ none. kept-pushed q.persisted (held q) item is
    ∙ ap (λ (n : ℕ). n + item_blocks item) (kept-parts q.persisted q.closed q.last
    ∙ ap (λ (xs : List ItemData). blocks_of (items_above q.persisted q.closed) + blocks_of (items_above q.persisted xs)) (sym (none-filter (is_of key) q.last none))) in
    clear-cases q key (λ (p : QueueData). blocks_of (kept (put_last p key meta value)) ≡ kept_with q key (length value))
    (λ none more. full none)
    (λ none less. thin)
    (λ j found. thin)

-- no item goes where a checkpoint is closed

pub held-stored : (q : QueueData) (n : ℕ) → held (stored q n) ≡ held q
held-stored q n =
    elim (nat_eq (length q.last) 0) as (λ b. held (moved_up (cond b q (closed q)) n) ≡ held q) [
      | true ↦ refl
      | false ↦ append-nil (held q)
    ]
