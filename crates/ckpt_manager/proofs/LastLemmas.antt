-- The last item of each key above a number, and how items are read in order.
use Rattle.std.proofs.Common.{◌≡◌, ℕ, ◌+◌, ◌<◌, ◌≤◌, Bool, true, false, not, cond, List, [], ◌∷◌, ◌++◌, Option, Some, None, refl, sym, ap, ◌∙◌, arith, append_assoc}
use Rattle.std.specs.Prelude.{nat_lt}
use Rattle.std.specs.List.{find}
use Rattle.std.specs.Str.{bytes_eq}
use Rattle.std.proofs.lemmas.List.Elements.{filter-append}
use Rattle.std.proofs.lemmas.Bool.Decides.{nat_tests}
use Rattle.ep_model.specs.declared.call.Meta.{Meta}
use Rattle.ckpt_items.specs.declared.data.ItemData.{ItemData}
use Rattle.ckpt_items.specs.Items.{is_of, is_above, number_of}
use Rattle.ckpt_manager.specs.declared.data.QueueData.{QueueData}
use Rattle.ckpt_manager.specs.Queue.{held, items_above, thinned, put_last, queued, item_of, without_key, later_of, last_of, last_above, ReadsOn}
use Rattle.ckpt_manager.specs.Sound.{RiseAbove}
use Rattle.ckpt_manager.proofs.ItemLemmas.{rise-all, all-found, same-key}
use Rattle.ckpt_manager.proofs.QueueLemmas.{clear-cases}

-- the last of two lists

later-none : (o : Option ItemData) → later_of o None ≡ o
later-none None = refl
later-none (Some i) = refl

later-later : (a b c : Option ItemData) → later_of (later_of a b) c ≡ later_of a (later_of b c)
later-later None b c = refl
later-later (Some i) b c = refl

pub last-append : (k : List ℕ) (xs ys : List ItemData) → last_of k (xs ++ ys) ≡ later_of (last_of k ys) (last_of k xs)
last-append k [] ys = sym (later-none (last_of k ys))
last-append k (x ∷ xs) ys =
    let own : Option ItemData = cond (is_of k x) (Some x) None in
    ap (λ (o : Option ItemData). later_of o own) (last-append k xs ys) ∙ later-later (last_of k ys) (last_of k xs) own

-- behind all others: the last of its key, and of no other
pub last-pushed : (n : ℕ) (k : List ℕ) (xs : List ItemData) (i : ItemData) → is_above n i ≡ true → last_of k (items_above n (xs ++ i ∷ [])) ≡ cond (is_of k i) (Some i) (last_of k (items_above n xs))
last-pushed n k xs i is =
    let parts : items_above n (xs ++ i ∷ []) ≡ items_above n xs ++ i ∷ [] =
    filter-append (is_above n) xs (i ∷ []) ∙ ap (λ (b : Bool). items_above n xs ++ cond b (i ∷ []) []) is in
    ap (last_of k) parts ∙ last-append k (items_above n xs) (i ∷ [])
    ∙ elim (is_of k i) as (λ b. later_of (later_of None (cond b (Some i) None)) (last_of k (items_above n xs)) ≡ cond b (Some i) (last_of k (items_above n xs))) [ true ↦ refl | false ↦ refl ]

-- without the items of a key, the last of another is the same

step-of : (n : ℕ) (k : List ℕ) (x : ItemData) (xs ys : List ItemData) → last_of k (items_above n xs) ≡ last_of k (items_above n ys) → last_of k (items_above n (x ∷ xs)) ≡ last_of k (items_above n (x ∷ ys))
step-of n k x xs ys same =
    elim (is_above n x) as (λ b. last_of k (cond b (x ∷ items_above n xs) (items_above n xs)) ≡ last_of k (cond b (x ∷ items_above n ys) (items_above n ys))) [
      | true ↦ ap (λ (o : Option ItemData). later_of o (cond (is_of k x) (Some x) None)) same
      | false ↦ same
    ]

skip-of : (n : ℕ) (k : List ℕ) (x : ItemData) (xs : List ItemData) → is_of k x ≡ false → last_of k (items_above n (x ∷ xs)) ≡ last_of k (items_above n xs)
skip-of n k x xs other =
    elim (is_above n x) as (λ b. last_of k (cond b (x ∷ items_above n xs) (items_above n xs)) ≡ last_of k (items_above n xs)) [
      | true ↦ ap (λ (b : Bool). later_of (last_of k (items_above n xs)) (cond b (Some x) None)) other ∙ later-none (last_of k (items_above n xs))
      | false ↦ refl
    ]

last-thinned : (n : ℕ) (key k : List ℕ) (xs : List ItemData) → bytes_eq key k ≡ false → last_of k (items_above n (without_key xs key)) ≡ last_of k (items_above n xs)
last-thinned n key k [] other = refl
last-thinned n key k (x ∷ xs) other =
    let rest : List ItemData = without_key xs key in
    (elim (is_of key x) as (λ b. is_of key x ≡ b → last_of k (items_above n (cond (not b) (x ∷ rest) rest)) ≡ last_of k (items_above n (x ∷ xs))) [
      | true ↦ λ e. last-thinned n key k xs other ∙ sym (skip-of n k x xs (ap (λ (own : List ℕ). bytes_eq own k) (same-key key x e) ∙ other))
      | false ↦ λ e. step-of n k x rest xs (last-thinned n key k xs other)
    ]) refl

last-right : (n : ℕ) (k : List ℕ) (xs ys zs : List ItemData) → last_of k (items_above n ys) ≡ last_of k (items_above n zs) → last_of k (items_above n (xs ++ ys)) ≡ last_of k (items_above n (xs ++ zs))
last-right n k [] ys zs same = same
last-right n k (x ∷ xs) ys zs same = step-of n k x (xs ++ ys) (xs ++ zs) (last-right n k xs ys zs same)

else-same : (b : Bool) (i x y : Option ItemData) → (b ≡ false → x ≡ y) → cond b i x ≡ cond b i y
else-same true i x y same = refl
else-same false i x y same = same refl

higher : (n high : ℕ) → n ≤ high → nat_lt n (high + 1) ≡ true
higher n high le = grind (arith, nat_tests)

-- What is last of a key above a number that was reached: the mutation that is queued, and of other keys what was.
pub last-queued : (q : QueueData) (key : List ℕ) (meta : Meta) (value : List ℕ) (n : ℕ) (k : List ℕ) → n ≤ q.high → last_above (queued q key meta value) n k ≡ cond (bytes_eq key k) (Some (item_of key meta value (q.high + 1))) (last_above q n k)
last-queued q key meta value n k reached =
    let item : ItemData = item_of key meta value (q.high + 1) in
    let is : is_above n item ≡ true = higher n q.high reached in
    let wanted : Option ItemData = cond (bytes_eq key k) (Some item) (last_above q n k) in
    let thin : last_above (put_last (thinned q key) key meta value) n k ≡ wanted =
    ap (λ (xs : List ItemData). last_of k (items_above n xs)) (sym (append_assoc q.closed (without_key q.last key) (item ∷ [])))
    ∙ last-pushed n k (q.closed ++ without_key q.last key) item is
    ∙ else-same (bytes_eq key k) (Some item) (last_of k (items_above n (q.closed ++ without_key q.last key))) (last_above q n k)
    (λ other. last-right n k q.closed (without_key q.last key) q.last (last-thinned n key k q.last other)) in
    clear-cases q key (λ (p : QueueData). last_above (put_last p key meta value) n k ≡ wanted)
    (λ none full. last-pushed n k (held q) item is)
    (λ none free. thin)
    (λ j found. thin)

-- the items above a number, read one after the other

lower-not : (a b : ℕ) → a < b → nat_lt b a ≡ false
lower-not a b lower = grind (arith, nat_tests)

self-not : (a : ℕ) → nat_lt a a ≡ false
self-not a = grind (arith, nat_tests)

items_above-true : (n a : ℕ) → nat_lt n a ≡ true → n < a
items_above-true n a e = grind (arith, nat_tests)

lt-true : (n a : ℕ) → n < a → nat_lt n a ≡ true
lt-true n a lower = grind (arith, nat_tests)

items_above-all : (m n : ℕ) (xs : List ItemData) → m ≤ n → RiseAbove n xs → items_above m xs ≡ xs
items_above-all m n [] le rise = refl
items_above-all m n (x ∷ xs) le rise =
    ap (λ (b : Bool). cond b (x ∷ items_above m xs) (items_above m xs)) (lt-true m x.meta.seqno (omega (arith, rise.0)))
    ∙ ap (λ (l : List ItemData). x ∷ l) (items_above-all m x.meta.seqno xs (omega (arith, rise.0)) rise.1)

reads-past : (n : ℕ) (x : ItemData) (xs : List ItemData) (o : Option ItemData) → RiseAbove x.meta.seqno xs → find (is_above n) xs ≡ o → is_above n x ≡ false → ReadsOn n xs (number_of o) → ReadsOn n (x ∷ xs) (number_of o)
reads-past n x xs None rise found other reads =
    ap (λ (b : Bool). cond b (x ∷ items_above n xs) (items_above n xs)) other ∙ reads
reads-past n x xs (Some j) rise found other reads =
    let lower : x.meta.seqno < j.meta.seqno = all-found (λ (i : ItemData). x.meta.seqno < i.meta.seqno) (is_above n) xs j (rise-all x.meta.seqno xs rise) found in (
      reads.0,
      reads.1,
      ap (λ (b : Bool). cond b (x ∷ items_above n xs) (items_above n xs)) other ∙ reads.2
          ∙ ap (λ (b : Bool). reads.0 ∷ cond b (x ∷ items_above j.meta.seqno xs) (items_above j.meta.seqno xs)) (sym (lower-not x.meta.seqno j.meta.seqno lower)),
    )

pub reads-on : (lo n : ℕ) (xs : List ItemData) → RiseAbove lo xs → ReadsOn n xs (number_of (find (is_above n) xs))
reads-on lo n [] rise = refl
reads-on lo n (x ∷ xs) rise =
    (elim (is_above n x) as (λ b. is_above n x ≡ b → ReadsOn n (x ∷ xs) (number_of (cond b (Some x) (find (is_above n) xs)))) [
      | true ↦ λ e. (
        x,
        refl,
        ap (λ (b : Bool). cond b (x ∷ items_above n xs) (items_above n xs)) e
            ∙ ap (λ (l : List ItemData). x ∷ l)
            (items_above-all n x.meta.seqno xs (let lower : n < x.meta.seqno = items_above-true n x.meta.seqno e in omega (arith, lower)) rise.1
            ∙ sym (ap (λ (b : Bool). cond b (x ∷ items_above x.meta.seqno xs) (items_above x.meta.seqno xs)) (self-not x.meta.seqno) ∙ items_above-all x.meta.seqno x.meta.seqno xs (omega arith) rise.1)),
      )
      | false ↦ λ e. reads-past n x xs (find (is_above n) xs) rise.1 refl e (reads-on x.meta.seqno n xs rise.1)
    ]) refl
