-- Blocks along their links: how often each stands in a walk, and in the walks of all chains.
use Rattle.std.proofs.Common.{◌≡◌, ℕ, zero, suc, ◌+◌, ◌<◌, ◌≤◌, List, [], ◌∷◌, ◌++◌, length, get_or, cond, eqb, refl, sym, ap, ◌∙◌, arith}
use Rattle.std.proofs.Math.ListN.{set}
use Rattle.std.proofs.lemmas.Bool.{eq-eqb, cond-true}
use Rattle.std.proofs.lemmas.List.{get_or-set_same, get_or-set_other}
use Rattle.value_pool.specs.Pools.{blocks_of}
use Rattle.value_pool.specs.Layout.{walk, beyond, times, chained}

pub here : (b x : ℕ) → b ≡ x → ◌≡◌ {A = ℕ} (cond (eqb b x) 1 0) 1
here b x e = cond-true (eqb b x) 1 0 (eq-eqb b x e)

pub times-cons : (b x : ℕ) (xs : List ℕ) → times b (x ∷ xs) ≡ cond (eqb b x) 1 0 + times b xs
unfolding times
times-cons b x xs = refl

pub times-append : (b : ℕ) (xs ys : List ℕ) → times b (xs ++ ys) ≡ times b xs + times b ys
unfolding times
times-append b [] ys = omega arith
times-append b (x ∷ xs) ys = omega (arith, times-append b xs ys)

pub times_nil : (b : ℕ) → times b [] ≡ 0
unfolding times
times_nil b = refl

pub absent_first : (b x : ℕ) (xs : List ℕ) → times b (x ∷ xs) ≡ 0 → b ≡ x → ⊥
absent_first b x xs h e = omega (arith, times-cons b x xs, here b x e)

pub absent_rest : (b x : ℕ) (xs : List ℕ) → times b (x ∷ xs) ≡ 0 → times b xs ≡ 0
absent_rest b x xs h = omega (arith, times-cons b x xs)

pub stands_first : (x : ℕ) (xs : List ℕ) → 0 < times x (x ∷ xs)
stands_first x xs = omega (arith, times-cons x x xs, here x x refl)

pub stands_rest : (b x : ℕ) (xs : List ℕ) → times b xs ≤ times b (x ∷ xs)
stands_rest b x xs = omega (arith, times-cons b x xs)

-- a block that stands once first doesn't stand behind
pub once_first : (x : ℕ) (xs : List ℕ) → times x (x ∷ xs) ≤ 1 → times x xs ≡ 0
once_first x xs h = omega (arith, times-cons x x xs, here x x refl)

pub walk-add : (links : List ℕ) (j k c : ℕ) → walk links (j + k) c ≡ walk links j c ++ walk links k (beyond links j c)
unfolding walk beyond
walk-add links zero k c =
    let e : zero + k ≡ k = omega arith in
    ap (λ (n : ℕ). walk links n c) e
walk-add links (suc j) k c =
    let e : suc j + k ≡ suc (j + k) = omega arith in
    ap (λ (n : ℕ). walk links n c) e ∙ ap (λ (ys : List ℕ). c ∷ ys) (walk-add links j k (get_or links c 0))

pub times_split : (b : ℕ) (links : List ℕ) (j k n c : ℕ) → j + k ≡ n → times b (walk links n c) ≡ times b (walk links j c) + times b (walk links k (beyond links j c))
times_split b links j k n c e =
    ap (λ (n : ℕ). times b (walk links n c)) (sym e) ∙ ap (times b) (walk-add links j k c)
    ∙ times-append b (walk links j c) (walk links k (beyond links j c))

next_kept : (links : List ℕ) (x v c : ℕ) → (x ≡ c → ⊥) → get_or (set links x v) c 0 ≡ get_or links c 0
next_kept links x v c h = get_or-set_other links x c v 0 (λ e. h (sym e))

-- a link that isn't on the walk is changed
pub walk-set : (links : List ℕ) (x v k c : ℕ) → times x (walk links k c) ≡ 0 → walk (set links x v) k c ≡ walk links k c
unfolding walk
walk-set links x v zero c h = refl
walk-set links x v (suc k) c h =
    let next = next_kept links x v c (absent_first x c (walk links k (get_or links c 0)) h) in
    ap (λ (n : ℕ). c ∷ walk (set links x v) k n) next
    ∙ ap (λ (ys : List ℕ). c ∷ ys) (walk-set links x v k (get_or links c 0) (absent_rest x c (walk links k (get_or links c 0)) h))

-- the last block's link is changed: the walk stays
pub walk-relinked : (links : List ℕ) (x v m c : ℕ) → times x (walk links m c) ≡ 0 → walk (set links x v) (suc m) c ≡ walk links (suc m) c
unfolding walk
walk-relinked links x v zero c h = refl
walk-relinked links x v (suc m) c h =
    let next = next_kept links x v c (absent_first x c (walk links m (get_or links c 0)) h) in
    ap (λ (n : ℕ). c ∷ walk (set links x v) (suc m) n) next
    ∙ ap (λ (ys : List ℕ). c ∷ ys) (walk-relinked links x v m (get_or links c 0) (absent_rest x c (walk links m (get_or links c 0)) h))

-- and leads to the new block
pub beyond-relinked : (links : List ℕ) (x v m c : ℕ) → times x (walk links m c) ≡ 0 → x ≡ beyond links m c → x < length links → beyond (set links x v) (suc m) c ≡ v
unfolding walk beyond
beyond-relinked links x v zero c h is within =
    ap (λ (n : ℕ). get_or (set links x v) n 0) (sym is) ∙ get_or-set_same links x v 0 within
beyond-relinked links x v (suc m) c h is within =
    let next = next_kept links x v c (absent_first x c (walk links m (get_or links c 0)) h) in
    ap (λ (n : ℕ). beyond (set links x v) (suc m) n) next
    ∙ beyond-relinked links x v m (get_or links c 0) (absent_rest x c (walk links m (get_or links c 0)) h) is within

-- the last block of a walk stands in it
pub times-last : (b : ℕ) (links : List ℕ) (m c : ℕ) → times b (walk links (suc m) c) ≡ times b (walk links m c) + times b (beyond links m c ∷ [])
unfolding walk beyond
times-last b links zero c = omega (arith, times_nil b)
times-last b links (suc m) c =
    omega (arith, times-last b links m (get_or links c 0), times-cons b c (walk links (suc m) (get_or links c 0)), times-cons b c (walk links m (get_or links c 0)))

not_above : (n c : ℕ) (xs : List ℕ) → ((b : ℕ) → n ≤ b → times b (c ∷ xs) ≡ 0) → c < n
not_above n c xs h =
    let below : n ≤ c → ⊥ = λ l. absent_first c c xs (h c l) refl in
    omega arith

pub first_within : (links : List ℕ) (n k c : ℕ) → ((b : ℕ) → n ≤ b → times b (walk links (suc k) c) ≡ 0) → c < n
unfolding walk
first_within links n k c h = not_above n c (walk links k (get_or links c 0)) h

pub rest_within : (links : List ℕ) (n k c : ℕ) → ((b : ℕ) → n ≤ b → times b (walk links (suc k) c) ≡ 0) → (b : ℕ) → n ≤ b → times b (walk links k (get_or links c 0)) ≡ 0
unfolding walk
rest_within links n k c h b l = absent_rest b c (walk links k (get_or links c 0)) (h b l)

pub beyond_within : (links : List ℕ) (n k j c : ℕ) → ((b : ℕ) → n ≤ b → times b (walk links k c) ≡ 0) → j < k → beyond links j c < n
unfolding beyond
beyond_within links n zero j c h l = absurd (omega arith)
beyond_within links n (suc k) zero c h l = first_within links n k c h
beyond_within links n (suc k) (suc j) c h l =
    beyond_within links n k j (get_or links c 0) (rest_within links n k c h) (omega arith)

pub beyond-more : (links : List ℕ) (j c : ℕ) → beyond links (j + 1) c ≡ get_or links (beyond links j c) 0
unfolding beyond
beyond-more links zero c = refl
beyond-more links (suc j) c =
    let e : suc j + 1 ≡ suc (j + 1) = omega arith in
    ap (λ (n : ℕ). beyond links n c) e ∙ beyond-more links j (get_or links c 0)

pub no_times : (b : ℕ) (links : List ℕ) (c : ℕ) → times b (walk links 0 c) ≡ 0
unfolding walk
no_times b links c = times_nil b

pub stands_one : (links : List ℕ) (c : ℕ) → 0 < times c (walk links 1 c)
unfolding walk
stands_one links c = stands_first c []

-- a walk on which its first block doesn't stand has no block
pub no_walk : (links : List ℕ) (k c : ℕ) → times c (walk links k c) ≡ 0 → k ≡ 0
unfolding walk
no_walk links zero c h = refl
no_walk links (suc k) c h = absurd (absent_first c c (walk links k (get_or links c 0)) h refl)

pub chained-set : (b : ℕ) (links lens : List ℕ) (i new c place : ℕ) → i < length lens → place ≡ c + i → chained b links (set lens i new) c + times b (walk links (blocks_of (get_or lens i 0)) place) ≡ chained b links lens c + times b (walk links (blocks_of new) place)
unfolding chained
chained-set b links [] i new c place l e = absurd (omega arith)
chained-set b links (len ∷ lens) zero new c place l e =
    let e' : place ≡ c = omega arith in
    rw e' (omega arith)
chained-set b links (len ∷ lens) (suc i) new c place l e =
    omega (arith, chained-set b links lens i new (suc c) place (omega arith) (omega arith))

-- no chain has a block more often than all chains have it
pub chained_has : (b : ℕ) (links lens : List ℕ) (i c place : ℕ) → place ≡ c + i → times b (walk links (blocks_of (get_or lens i 0)) place) ≤ chained b links lens c
unfolding chained walk times
chained_has b links [] i c place e = omega arith
chained_has b links (len ∷ lens) zero c place e =
    let e' : place ≡ c = omega arith in
    rw e' (omega arith)
chained_has b links (len ∷ lens) (suc i) c place e =
    omega (arith, chained_has b links lens i (suc c) place (omega arith))

pub chained-links : (b x v : ℕ) (links lens : List ℕ) (c : ℕ) → chained x links lens c ≡ 0 → chained b (set links x v) lens c ≡ chained b links lens c
unfolding chained
chained-links b x v links [] c h = refl
chained-links b x v links (len ∷ lens) c h =
    let first : times x (walk links (blocks_of len) c) ≡ 0 = omega arith in
    let rest : chained x links lens (suc c) ≡ 0 = omega arith in
    ap (λ (ys : List ℕ). times b ys + chained b (set links x v) lens (suc c)) (walk-set links x v (blocks_of len) c first)
    ∙ ap (λ (n : ℕ). times b (walk links (blocks_of len) c) + n) (chained-links b x v links lens (suc c) rest)
