-- The views of all passes: what is true of each, of each two and of some one, and their shares.
use Rattle.std.proofs.Common.{◌≡◌, ◌≢◌, ◌⊎◌, ℕ, zero, suc, ◌+◌, ◌<◌, ◌≤◌, true, List, [], ◌∷◌, ◌++◌, length, set, refl, sym, ap, ◌∙◌, subst, arith, ⊎_elim, inl, inr}
use mathlib.Core.Option.{some, some-injective, some-ne-none}
use mathlib.Core.Logic.{dite}
use native.Mathlib.Decide.{ℕ_discrete}
use lib.ListN.{get_elem?}
use Rattle.atomic_table.proofs.Lists.{at_set, set_here, set_else, at_longer}
use Rattle.turn_stage.specs.declared.data.View.{View}
use Rattle.turn_stage.specs.Rule.{EachSeat, EachTwo, AnySeat, all_shares}

pub at_within : {A : Type 0} (l : List A) (i : ℕ) (a : A) → get_elem? l i ≡ some a → i < length l
at_within [] i a e = absurd (some-ne-none a (sym e))
at_within (x ∷ xs) zero a e = omega arith
at_within (x ∷ xs) (suc i) a e = let h = at_within xs i a e in omega arith

pub at_one : {A : Type 0} (l : List A) (i j : ℕ) (a b : A) → get_elem? l i ≡ some a → get_elem? l j ≡ some b → i ≡ j → a ≡ b
at_one l i j a b e k same = some-injective a b (sym e ∙ (ap (λ (n : ℕ). get_elem? l n) same ∙ k))

at_push : {A : Type 0} (l : List A) (a b : A) (j : ℕ) → get_elem? (l ++ a ∷ []) j ≡ some b → (get_elem? l j ≡ some b) ⊎ ((j ≡ length l) × (a ≡ b))
at_push [] a b zero e = inr (refl, some-injective a b e)
at_push [] a b (suc j) e = absurd (some-ne-none b (sym e))
at_push (x ∷ xs) a b zero e = inl e
at_push (x ∷ xs) a b (suc j) e = ⊎_elim (λ t. inl t) (λ t. inr (ap suc t.0, t.1)) (at_push xs a b j e)

-- one view changes
pub each_set : (R : View → Type 0) (views : List View) (id : ℕ) (w : View) → ((i : ℕ) (u : View) → i ≢ id → get_elem? views i ≡ some u → u.live ≡ true → R u) → (w.live ≡ true → R w) → EachSeat R (set views id w)
each_set R views id w others mine i u at live =
    ⊎_elim
    (λ (x : (i ≡ id) × (w ≡ u)). subst R x.1 (mine (subst (λ (v : View). v.live ≡ true) (sym x.1) live)))
    (λ (x : (i ≢ id) × (get_elem? views i ≡ some u)). others i u x.0 x.1 live)
    (at_set views id i w u at)

pub two_set : (R : View → View → Type 0) (turned : (a b : View) → R a b → R b a) (views : List View) (id : ℕ) (w : View) → EachTwo R views
    → ((i : ℕ) (u : View) → i ≢ id → get_elem? views i ≡ some u → u.live ≡ true → w.live ≡ true → R u w) → EachTwo R (set views id w)
two_set R turned views id w two step i j a b ai bj la lb apart =
    ⊎_elim
    (λ (x : (i ≡ id) × (w ≡ a)). ⊎_elim
    (λ (y : (j ≡ id) × (w ≡ b)). absurd (apart (x.0 ∙ sym y.0)))
    (λ (y : (j ≢ id) × (get_elem? views j ≡ some b)). subst (λ (c : View). R c b) x.1 (turned b w (step j b y.0 y.1 lb (subst (λ (c : View). c.live ≡ true) (sym x.1) la))))
    (at_set views id j w b bj))
    (λ (x : (i ≢ id) × (get_elem? views i ≡ some a)). ⊎_elim
    (λ (y : (j ≡ id) × (w ≡ b)). subst (λ (c : View). R a c) y.1 (step i a x.0 x.1 la (subst (λ (c : View). c.live ≡ true) (sym y.1) lb)))
    (λ (y : (j ≢ id) × (get_elem? views j ≡ some b)). two i j a b x.1 y.1 la lb apart)
    (at_set views id j w b bj))
    (at_set views id i w a ai)

pub any_mine : (R : View → Type 0) (views : List View) (id : ℕ) (v w : View) → get_elem? views id ≡ some v → w.live ≡ true → R w → AnySeat R (set views id w)
any_mine R views id v w at live mine = record { seat = id; view = w; at = set_here views id w (at_within views id v at); live = live; has = mine }

pub any_set : (R : View → Type 0) (views : List View) (id : ℕ) (v w : View) → get_elem? views id ≡ some v → AnySeat R views → (R v → (w.live ≡ true) × R w) → AnySeat R (set views id w)
any_set R views id v w at any step =
    dite (ℕ_discrete any.seat id)
    (λ e. let same : any.view ≡ v = at_one views any.seat id any.view v any.at at e in let k = step (subst R same any.has) in any_mine R views id v w at k.0 k.1)
    (λ n. record { seat = any.seat; view = any.view; at = set_else views id any.seat w n ∙ any.at; live = any.live; has = any.has })

-- one view more
pub each_push : (R : View → Type 0) (views : List View) (w : View) → EachSeat R views → R w → EachSeat R (views ++ w ∷ [])
each_push R views w each mine i u at live =
    ⊎_elim (λ (x : get_elem? views i ≡ some u). each i u x live) (λ (x : (i ≡ length views) × (w ≡ u)). subst R x.1 mine) (at_push views w u i at)

pub two_push : (R : View → View → Type 0) (turned : (a b : View) → R a b → R b a) (views : List View) (w : View) → EachTwo R views
    → ((i : ℕ) (u : View) → get_elem? views i ≡ some u → u.live ≡ true → R u w) → EachTwo R (views ++ w ∷ [])
two_push R turned views w two step i j a b ai bj la lb apart =
    ⊎_elim
    (λ (x : get_elem? views i ≡ some a). ⊎_elim
    (λ (y : get_elem? views j ≡ some b). two i j a b x y la lb apart)
    (λ (y : (j ≡ length views) × (w ≡ b)). subst (λ (c : View). R a c) y.1 (step i a x la))
    (at_push views w b j bj))
    (λ (x : (i ≡ length views) × (w ≡ a)). ⊎_elim
    (λ (y : get_elem? views j ≡ some b). subst (λ (c : View). R c b) x.1 (turned b w (step j b y lb)))
    (λ (y : (j ≡ length views) × (w ≡ b)). absurd (apart (x.0 ∙ sym y.0)))
    (at_push views w b j bj))
    (at_push views w a i ai)

pub any_push : (R : View → Type 0) (views : List View) (w : View) → AnySeat R views → AnySeat R (views ++ w ∷ [])
any_push R views w any = record { seat = any.seat; view = any.view; at = at_longer views (w ∷ []) any.seat any.view any.at; live = any.live; has = any.has }

-- shares
pub shares_set : (views : List View) (id : ℕ) (v w : View) → get_elem? views id ≡ some v → all_shares (set views id w) + v.share ≡ all_shares views + w.share
shares_set [] id v w at = absurd (some-ne-none v (sym at))
shares_set (x ∷ views) zero v w at = let e = ap (λ (u : View). u.share) (some-injective x v at) in omega arith
shares_set (x ∷ views) (suc id) v w at = let h = shares_set views id v w at in omega arith

pub shares_push : (views : List View) (w : View) → all_shares (views ++ w ∷ []) ≡ all_shares views + w.share
shares_push [] w = omega arith
shares_push (x ∷ views) w = let h = shares_push views w in omega arith

share_within : (views : List View) (i : ℕ) (v : View) → get_elem? views i ≡ some v → v.share ≤ all_shares views
share_within [] i v at = absurd (some-ne-none v (sym at))
share_within (x ∷ views) zero v at = let e = ap (λ (u : View). u.share) (some-injective x v at) in omega arith
share_within (x ∷ views) (suc i) v at = let h = share_within views i v at in omega arith

pub shares_two : (views : List View) (i j : ℕ) (v w : View) → i ≢ j → get_elem? views i ≡ some v → get_elem? views j ≡ some w → v.share + w.share ≤ all_shares views
shares_two [] i j v w apart at there = absurd (some-ne-none v (sym at))
shares_two (x ∷ views) zero zero v w apart at there = absurd (apart refl)
shares_two (x ∷ views) zero (suc j) v w apart at there = let e = ap (λ (u : View). u.share) (some-injective x v at) in let h = share_within views j w there in omega arith
shares_two (x ∷ views) (suc i) zero v w apart at there = let e = ap (λ (u : View). u.share) (some-injective x w there) in let h = share_within views i v at in omega arith
shares_two (x ∷ views) (suc i) (suc j) v w apart at there = let h = shares_two views i j v w (λ e. apart (ap suc e)) at there in omega arith
