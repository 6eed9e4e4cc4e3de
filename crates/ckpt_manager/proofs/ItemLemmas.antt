-- Lists of items: rising numbers, one item a key, and what is found in them.
use Rattle.std.proofs.Common.{◌≡◌, ℕ, ◌+◌, ◌<◌, ◌≤◌, Bool, true, false, not, cond, List, [], ◌∷◌, ◌++◌, length, Option, Some, None, refl, sym, ap, subst, ◌∙◌, arith}
use Rattle.std.specs.Prelude.{filter, nat_eq, All}
use Rattle.std.specs.List.{find}
use Rattle.std.specs.Str.{bytes_eq}
use Rattle.std.specs.Option.{option_or}
use Rattle.std.proofs.lemmas.List.Elements.{All-nil, All-cons, All-head, All-tail, All-weaker}
use Rattle.std.proofs.lemmas.List.Folds.{find-append}
use Rattle.std.proofs.lemmas.Slice.Eq.{bytes_eq-Decides}
use Rattle.std.proofs.lemmas.Bool.Decides.{nat_tests}
use Rattle.ckpt_items.specs.declared.data.ItemData.{ItemData}
use Rattle.ckpt_items.specs.Items.{blocks_of, item_blocks, IsFit, is_of, without_number, key_of, value_of}
use Rattle.ckpt_manager.specs.Queue.{without_key}
use Rattle.ckpt_manager.specs.Sound.{RiseAbove, HaveOwnKeys}

abbrev Test : Type 0
Test = ItemData → Bool

-- rising numbers

pub rise-weaker : (m n : ℕ) (xs : List ItemData) → m ≤ n → RiseAbove n xs → RiseAbove m xs
rise-weaker m n [] le rise = tt
rise-weaker m n (x ∷ xs) le rise = (omega (arith, rise.0), rise.1)

pub rise-all : (n : ℕ) (xs : List ItemData) → RiseAbove n xs → All (λ (i : ItemData). n < i.meta.seqno) xs
rise-all n [] rise = All-nil (λ (i : ItemData). n < i.meta.seqno)
rise-all n (x ∷ xs) rise =
    All-cons (λ (i : ItemData). n < i.meta.seqno) x xs rise.0 (rise-all n xs (rise-weaker n x.meta.seqno xs (omega (arith, rise.0)) rise.1))

pub rise-filter : (p : Test) (n : ℕ) (xs : List ItemData) → RiseAbove n xs → RiseAbove n (filter p xs)
rise-filter p n [] rise = tt
rise-filter p n (x ∷ xs) rise =
    elim (p x) as (λ b. RiseAbove n (cond b (x ∷ filter p xs) (filter p xs))) [
      | true ↦ (rise.0, rise-filter p x.meta.seqno xs rise.1)
      | false ↦ rise-weaker n x.meta.seqno (filter p xs) (omega (arith, rise.0)) (rise-filter p x.meta.seqno xs rise.1)
    ]

pub rise-last : (n : ℕ) (xs : List ItemData) (i : ItemData) → RiseAbove n xs → n < i.meta.seqno → All (λ (j : ItemData). j.meta.seqno < i.meta.seqno) xs → RiseAbove n (xs ++ i ∷ [])
rise-last n [] i rise lower below = (lower, tt)
rise-last n (x ∷ xs) i rise lower below =
    (rise.0, rise-last x.meta.seqno xs i rise.1 (All-head (λ (j : ItemData). j.meta.seqno < i.meta.seqno) x xs below) (All-tail (λ (j : ItemData). j.meta.seqno < i.meta.seqno) x xs below))

-- where of two lists that rise the second is thinned out, they still rise
pub rise-right : (p : Test) (n : ℕ) (xs ys : List ItemData) → RiseAbove n (xs ++ ys) → RiseAbove n (xs ++ filter p ys)
rise-right p n [] ys rise = rise-filter p n ys rise
rise-right p n (x ∷ xs) ys rise = (rise.0, rise-right p x.meta.seqno xs ys rise.1)

-- what is true of all elements, by parts

pub all-left : (P : ItemData → Type 0) (xs ys : List ItemData) → All P (xs ++ ys) → All P xs
all-left P [] ys all = All-nil P
all-left P (x ∷ xs) ys all = All-cons P x xs (All-head P x (xs ++ ys) all) (all-left P xs ys (All-tail P x (xs ++ ys) all))

pub all-right : (P : ItemData → Type 0) (xs ys : List ItemData) → All P (xs ++ ys) → All P ys
all-right P [] ys all = all
all-right P (x ∷ xs) ys all = all-right P xs ys (All-tail P x (xs ++ ys) all)

pub all-found : (P : ItemData → Type 0) (p : Test) (xs : List ItemData) (j : ItemData) → All P xs → find p xs ≡ Some j → P j
all-found P p [] j all is = absurd (cc)
all-found P p (x ∷ xs) j all is =
    elim (p x) as (λ b. cond b (Some x) (find p xs) ≡ Some j → P j) [
      | true ↦ λ e. let same : x ≡ j = cc in subst P same (All-head P x xs all)
      | false ↦ λ e. all-found P p xs j (All-tail P x xs all) e
    ] is

-- what is found is within its limits
pub found-key : (p : Test) (xs : List ItemData) → All IsFit xs → length (key_of (find p xs)) ≤ 250
found-key p xs fit =
    (elim (find p xs) as (λ o. find p xs ≡ o → length (key_of o) ≤ 250) [
      | None ↦ λ e. omega arith
      | Some j ↦ λ e. (all-found IsFit p xs j fit e).key.1
    ]) refl

pub found-value : (p : Test) (xs : List ItemData) → All IsFit xs → length (value_of (find p xs)) ≤ 1048576
found-value p xs fit =
    (elim (find p xs) as (λ o. find p xs ≡ o → length (value_of o) ≤ 1048576) [
      | None ↦ λ e. omega arith
      | Some j ↦ λ e. (all-found IsFit p xs j fit e).value
    ]) refl

-- what isn't found

pub find-none : (p : Test) (x : ItemData) (xs : List ItemData) → find p (x ∷ xs) ≡ None → (p x ≡ false) × (find p xs ≡ None)
find-none p x xs none =
    elim (p x) as (λ b. cond b (Some x) (find p xs) ≡ None → (b ≡ false) × (find p xs ≡ None)) [
      | true ↦ λ e. absurd (cc)
      | false ↦ λ e. (refl, e)
    ] none

pub none-filter : (p : Test) (xs : List ItemData) → find p xs ≡ None → filter (λ (i : ItemData). not (p i)) xs ≡ xs
none-filter p [] none = refl
none-filter p (x ∷ xs) none =
    let h : (p x ≡ false) × (find p xs ≡ None) = find-none p x xs none in
    let rest : List ItemData = filter (λ (i : ItemData). not (p i)) xs in
    ap (λ (b : Bool). cond (not b) (x ∷ rest) rest) h.0 ∙ ap (λ (l : List ItemData). x ∷ l) (none-filter p xs h.1)

pub none-found : (p : Test) (xs : List ItemData) → find p xs ≡ None → filter p xs ≡ []
none-found p [] none = refl
none-found p (x ∷ xs) none =
    let h : (p x ≡ false) × (find p xs ≡ None) = find-none p x xs none in
    ap (λ (b : Bool). cond b (x ∷ filter p xs) (filter p xs)) h.0 ∙ none-found p xs h.1

pub find-gone : (p : Test) (xs : List ItemData) → find p (filter (λ (i : ItemData). not (p i)) xs) ≡ None
find-gone p [] = refl
find-gone p (x ∷ xs) =
    let rest : List ItemData = filter (λ (i : ItemData). not (p i)) xs in
    (elim (p x) as (λ b. p x ≡ b → find p (cond (not b) (x ∷ rest) rest) ≡ None) [
      | true ↦ λ e. find-gone p xs
      | false ↦ λ e. ap (λ (b : Bool). cond b (Some x) (find p rest)) e ∙ find-gone p xs
    ]) refl

find-thinned : (p q : Test) (xs : List ItemData) → find q xs ≡ None → find q (filter p xs) ≡ None
find-thinned p q [] none = refl
find-thinned p q (x ∷ xs) none =
    let h : (q x ≡ false) × (find q xs ≡ None) = find-none q x xs none in
    elim (p x) as (λ b. find q (cond b (x ∷ filter p xs) (filter p xs)) ≡ None) [
      | true ↦ ap (λ (b : Bool). cond b (Some x) (find q (filter p xs))) h.0 ∙ find-thinned p q xs h.1
      | false ↦ find-thinned p q xs h.1
    ]

find-pushed : (p : Test) (xs : List ItemData) (i : ItemData) → find p xs ≡ None → p i ≡ false → find p (xs ++ i ∷ []) ≡ None
find-pushed p xs i none other =
    find-append p xs (i ∷ []) ∙ ap (λ (o : Option ItemData). option_or o (cond (p i) (Some i) None)) none
    ∙ ap (λ (b : Bool). cond b (Some i) None) other

-- keys

bytes-turned : (a b : List ℕ) → bytes_eq a b ≡ false → bytes_eq b a ≡ false
bytes-turned a b other =
    (elim (bytes_eq b a) as (λ v. bytes_eq b a ≡ v → v ≡ false) [
      | true ↦ λ e. let yes : bytes_eq a b ≡ true = (bytes_eq-Decides a b).1 (sym ((bytes_eq-Decides b a).0 e)) in absurd (cc)
      | false ↦ λ e. refl
    ]) refl

pub same-key : (key : List ℕ) (i : ItemData) → is_of key i ≡ true → i.key ≡ key
same-key key i e = (bytes_eq-Decides i.key key).0 e

pub own-filter : (p : Test) (xs : List ItemData) → HaveOwnKeys xs → HaveOwnKeys (filter p xs)
own-filter p [] own = tt
own-filter p (x ∷ xs) own =
    elim (p x) as (λ b. HaveOwnKeys (cond b (x ∷ filter p xs) (filter p xs))) [
      | true ↦ (find-thinned p (is_of x.key) xs own.0, own-filter p xs own.1)
      | false ↦ own-filter p xs own.1
    ]

pub own-last : (xs : List ItemData) (i : ItemData) → HaveOwnKeys xs → find (is_of i.key) xs ≡ None → HaveOwnKeys (xs ++ i ∷ [])
own-last [] i own none = (refl, tt)
own-last (x ∷ xs) i own none =
    let h : (is_of i.key x ≡ false) × (find (is_of i.key) xs ≡ None) = find-none (is_of i.key) x xs none in
    (find-pushed (is_of x.key) xs i own.0 (bytes-turned x.key i.key h.0), own-last xs i own.1 h.1)

-- an item is found

pub filter-all : (p : Test) (xs : List ItemData) → All (λ (i : ItemData). p i ≡ true) xs → filter p xs ≡ xs
filter-all p [] all = refl
filter-all p (x ∷ xs) all =
    ap (λ (b : Bool). cond b (x ∷ filter p xs) (filter p xs)) (All-head (λ (i : ItemData). p i ≡ true) x xs all)
    ∙ ap (λ (l : List ItemData). x ∷ l) (filter-all p xs (All-tail (λ (i : ItemData). p i ≡ true) x xs all))

lower-other : (a b : ℕ) → a < b → not (nat_eq a b) ≡ true
lower-other a b lower = grind (arith, nat_tests)

higher-other : (a b : ℕ) → b < a → not (nat_eq a b) ≡ true
higher-other a b higher = grind (arith, nat_tests)

pub lower-stay : (n : ℕ) (xs : List ItemData) → All (λ (i : ItemData). i.meta.seqno < n) xs → without_number xs n ≡ xs
lower-stay n xs lower =
    filter-all (λ (i : ItemData). not (nat_eq i.meta.seqno n)) xs (All-weaker (λ (i : ItemData). i.meta.seqno < n) (λ (i : ItemData). not (nat_eq i.meta.seqno n) ≡ true) (λ (i : ItemData) h. lower-other i.meta.seqno n h) xs lower)

pub higher-stay : (n : ℕ) (xs : List ItemData) → All (λ (i : ItemData). n < i.meta.seqno) xs → without_number xs n ≡ xs
higher-stay n xs higher =
    filter-all (λ (i : ItemData). not (nat_eq i.meta.seqno n)) xs (All-weaker (λ (i : ItemData). n < i.meta.seqno) (λ (i : ItemData). not (nat_eq i.meta.seqno n) ≡ true) (λ (i : ItemData) h. higher-other i.meta.seqno n h) xs higher)

equal-self : (n : ℕ) → not (nat_eq n n) ≡ false
equal-self n = grind (arith, nat_tests)

-- the one item of a key that is found: its number is its own, and it is what the key has
pub record IsOne (key : List ℕ) (xs : List ItemData) (j : ItemData) : Type 0 where
  pub dropped : without_number xs j.meta.seqno ≡ without_key xs key
  pub fewer : length (without_key xs key) + 1 ≡ length xs
  pub blocks : blocks_of (filter (is_of key) xs) ≡ item_blocks j
  pub own : j.key ≡ key

one-hit : (key : List ℕ) (x : ItemData) (xs : List ItemData) → RiseAbove x.meta.seqno xs → find (is_of x.key) xs ≡ None → is_of key x ≡ true → IsOne key (x ∷ xs) x
one-hit key x xs rise own hit =
    let k : x.key ≡ key = same-key key x hit in
    let none : find (is_of key) xs ≡ None = ap (λ (key : List ℕ). find (is_of key) xs) (sym k) ∙ own in
    let rest : List ItemData = without_number xs x.meta.seqno in
    let others : List ItemData = without_key xs key in
    let left : without_number (x ∷ xs) x.meta.seqno ≡ xs = ap (λ (b : Bool). cond b (x ∷ rest) rest) (equal-self x.meta.seqno) ∙ higher-stay x.meta.seqno xs (rise-all x.meta.seqno xs rise) in
    let right : without_key (x ∷ xs) key ≡ xs = ap (λ (b : Bool). cond (not b) (x ∷ others) others) hit ∙ none-filter (is_of key) xs none in
    let found : filter (is_of key) (x ∷ xs) ≡ x ∷ [] = ap (λ (b : Bool). cond b (x ∷ filter (is_of key) xs) (filter (is_of key) xs)) hit ∙ ap (λ (l : List ItemData). x ∷ l) (none-found (is_of key) xs none) in
    record {
      dropped = left ∙ sym right;
      fewer = omega (arith, ap (λ (l : List ItemData). length l) right);
      blocks = ap blocks_of found ∙ omega arith;
      own = k;
    }

one-miss : (key : List ℕ) (x : ItemData) (xs : List ItemData) (j : ItemData) → x.meta.seqno < j.meta.seqno → is_of key x ≡ false → IsOne key xs j → IsOne key (x ∷ xs) j
one-miss key x xs j lower miss one =
    let rest : List ItemData = without_number xs j.meta.seqno in
    let others : List ItemData = without_key xs key in
    let left : without_number (x ∷ xs) j.meta.seqno ≡ x ∷ rest = ap (λ (b : Bool). cond b (x ∷ rest) rest) (lower-other x.meta.seqno j.meta.seqno lower) in
    let right : without_key (x ∷ xs) key ≡ x ∷ others = ap (λ (b : Bool). cond (not b) (x ∷ others) others) miss in
    let found : filter (is_of key) (x ∷ xs) ≡ filter (is_of key) xs = ap (λ (b : Bool). cond b (x ∷ filter (is_of key) xs) (filter (is_of key) xs)) miss in
    record {
      dropped = left ∙ ap (λ (l : List ItemData). x ∷ l) one.dropped ∙ sym right;
      fewer = omega (arith, ap (λ (l : List ItemData). length l) right, one.fewer);
      blocks = ap blocks_of found ∙ one.blocks;
      own = one.own;
    }

pub one-found : (key : List ℕ) (n : ℕ) (xs : List ItemData) (j : ItemData) → RiseAbove n xs → HaveOwnKeys xs → find (is_of key) xs ≡ Some j → IsOne key xs j
one-found key n [] j rise own is = absurd (cc)
one-found key n (x ∷ xs) j rise own is =
    (elim (is_of key x) as (λ b. is_of key x ≡ b → cond b (Some x) (find (is_of key) xs) ≡ Some j → IsOne key (x ∷ xs) j) [
      | true ↦ λ b e. let same : x ≡ j = cc in subst (λ (j : ItemData). IsOne key (x ∷ xs) j) same (one-hit key x xs rise.1 own.0 b)
      | false ↦ λ b e. one-miss key x xs j (all-found (λ (i : ItemData). x.meta.seqno < i.meta.seqno) (is_of key) xs j (rise-all x.meta.seqno xs rise.1) e) b (one-found key x.meta.seqno xs j rise.1 own.1 e)
    ]) refl is

-- of two lists that rise one behind the other, the items of the first are below what is found in the second
pub rise-apart : (n : ℕ) (p : Test) (xs ys : List ItemData) (j : ItemData) → RiseAbove n (xs ++ ys) → find p ys ≡ Some j → All (λ (i : ItemData). i.meta.seqno < j.meta.seqno) xs
rise-apart n p [] ys j rise is = All-nil (λ (i : ItemData). i.meta.seqno < j.meta.seqno)
rise-apart n p (x ∷ xs) ys j rise is =
    All-cons (λ (i : ItemData). i.meta.seqno < j.meta.seqno) x xs
    (all-found (λ (i : ItemData). x.meta.seqno < i.meta.seqno) p ys j (all-right (λ (i : ItemData). x.meta.seqno < i.meta.seqno) xs ys (rise-all x.meta.seqno (xs ++ ys) rise.1)) is)
    (rise-apart x.meta.seqno p xs ys j rise.1 is)

pub rise-behind : (n : ℕ) (xs ys : List ItemData) → RiseAbove n (xs ++ ys) → RiseAbove 0 ys
rise-behind n [] ys rise = rise-weaker 0 n ys (omega arith) rise
rise-behind n (x ∷ xs) ys rise = rise-behind x.meta.seqno xs ys rise.1
