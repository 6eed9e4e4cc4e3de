-- Parts, and which a pass holds.
use Rattle.std.proofs.Common.{◌≡◌, Bool, true, false, not, ◌&&◌, ◌||◌, if◌then◌else◌, List, [], ◌∷◌, refl, sym, ap, ◌∙◌, true≢false}
use Rattle.ep_model.specs.declared.event.PartName.{PartName}
use Rattle.hold_stage.specs.Touches.{same_part}
use Rattle.hold_stage.specs.Grows.{but_this}
use Rattle.hold_stage.proofs.SlotLemmas.{part_same, same_of}
use Rattle.turn_stage.specs.Slots.{has, without_part}

pub not_both : (b : Bool) → b ≡ true → b ≡ false → ⊥
not_both b t f = true≢false (sym t ∙ f)

pub is_false : (b : Bool) → (b ≡ true → ⊥) → b ≡ false
is_false true h = absurd (h refl)
is_false false h = refl

-- either they are the same or not
pub same_or : (p q : PartName) {R : Type 0} → (p ≡ q → R) → ((p ≡ q → ⊥) → R) → R
same_or p q {R} hit miss =
    let go : (b : Bool) → same_part p q ≡ b → R =
    λ b. elim b as (λ t. same_part p q ≡ t → R) [ true ↦ λ e. hit (part_same p q e) | false ↦ λ e. miss (λ same. not_both (same_part p q) (same_of p q same) e) ] in
    go (same_part p q) refl

-- what is left of the parts that are held
if_same : (b : Bool) (xs ys : List PartName) (p : PartName) → has (if b then xs else ys) p ≡ (if b then has xs p else has ys p)
if_same true xs ys p = refl
if_same false xs ys p = refl

pub has_without : (part : PartName) (parts : List PartName) (p : PartName) → has (without_part part parts) p ≡ but_this part (has parts) p
has_without part [] p = but_nothing (same_part p part)
  where
    but_nothing : (b : Bool) → false ≡ not b && false
    but_nothing true = refl
    but_nothing false = refl
has_without part (first ∷ parts) p =
    if_same (same_part first part) (without_part part parts) (first ∷ without_part part parts) p
    ∙ (ap (λ (b : Bool). if same_part first part then b else same_part p first || b) (has_without part parts p) ∙ step (same_part first part) refl)
  where
    gone : (b c : Bool) → not b && c ≡ not b && (b || c)
    gone true c = refl
    gone false c = refl

    left : (b a c : Bool) → (a ≡ true → b ≡ false) → a || not b && c ≡ not b && (a || c)
    left true true c h = absurd (true≢false (h refl))
    left true false c h = refl
    left false true c h = refl
    left false false c h = refl

    step : (b : Bool) → same_part first part ≡ b → (if b then not (same_part p part) && has parts p else (same_part p first || not (same_part p part) && has parts p)) ≡ not (same_part p part) && (same_part p first || has parts p)
    step true e = gone (same_part p part) (has parts p) ∙ ap (λ (q : PartName). not (same_part p part) && (same_part p q || has parts p)) (sym (part_same first part e))
    step false e = left (same_part p part) (same_part p first) (has parts p) (λ a. is_false (same_part p part) (λ k. not_both (same_part first part) (same_of first part (sym (part_same p first a) ∙ part_same p part k)) e))

pub without_less : (part : PartName) (parts : List PartName) (p : PartName) → has (without_part part parts) p ≡ true → has parts p ≡ true
without_less part parts p h = less (same_part p part) (has parts p) (sym (has_without part parts p) ∙ h)
  where
    less : (b c : Bool) → not b && c ≡ true → c ≡ true
    less true c e = absurd (true≢false (sym e))
    less false c e = e

pub without_this : (part : PartName) (parts : List PartName) (p : PartName) → has (without_part part parts) p ≡ true → p ≡ part → ⊥
without_this part parts p h e = gone (same_part p part) (has parts p) (same_of p part e) (sym (has_without part parts p) ∙ h)
  where
    gone : (b c : Bool) → b ≡ true → not b && c ≡ true → ⊥
    gone true c t e = true≢false (sym e)
    gone false c t e = true≢false (sym t)

pub without_other : (part : PartName) (parts : List PartName) (p : PartName) → has parts p ≡ true → (p ≡ part → ⊥) → has (without_part part parts) p ≡ true
without_other part parts p h n = has_without part parts p ∙ keep (same_part p part) (has parts p) (is_false (same_part p part) (λ k. n (part_same p part k))) h
  where
    keep : (b c : Bool) → b ≡ false → c ≡ true → not b && c ≡ true
    keep true c f t = absurd (true≢false f)
    keep false c f t = t

-- one part more
pub has_more : (part : PartName) (parts : List PartName) (p : PartName) {R : Type 0} → has (part ∷ parts) p ≡ true → (p ≡ part → R) → (has parts p ≡ true → R) → R
has_more part parts p {R} h hit miss =
    let go : (b : Bool) → same_part p part ≡ b → (b || has parts p) ≡ true → R =
    λ b. elim b as (λ t. same_part p part ≡ t → (t || has parts p) ≡ true → R) [ true ↦ λ e k. hit (part_same p part e) | false ↦ λ e k. miss k ] in
    go (same_part p part) refl h
