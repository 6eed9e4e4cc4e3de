-- Parts by their names, and the slots in which they lie.
use Rattle.std.proofs.Common.{◌≡◌, ◌≢◌, ◌+◌, ◌<◌, true, refl, sym, ap, ◌∙◌, subst, arith}
use Rattle.std.proofs.lemmas.Bool.{eqb-true, eq-eqb, ne_eqb, ltb-true, le-ltb}
use Rattle.ep_model.specs.declared.config.Config.{Config}
use Rattle.ep_model.specs.declared.event.PartName.{PartName}
use Rattle.ep_model.specs.declared.event.PartName.TheVariants.{Stripe, Queue, Desk}
use Rattle.hold_stage.specs.Touches.{there, same_part}
use Rattle.hold_stage.specs.Slots.{slot_of, name_of}

pub part_same : (p q : PartName) → same_part p q ≡ true → p ≡ q
part_same (Stripe a) (Stripe b) e = ap Stripe (sym (eqb-true b a e))
part_same (Stripe a) Queue e = absurd (cc)
part_same (Stripe a) Desk e = absurd (cc)
part_same Queue (Stripe b) e = absurd (cc)
part_same Queue Queue e = refl
part_same Queue Desk e = absurd (cc)
part_same Desk (Stripe b) e = absurd (cc)
part_same Desk Queue e = absurd (cc)
part_same Desk Desk e = refl

pub same_itself : (p : PartName) → same_part p p ≡ true
same_itself (Stripe a) = eq-eqb a a refl
same_itself Queue = refl
same_itself Desk = refl

pub same_of : (p q : PartName) → p ≡ q → same_part p q ≡ true
same_of p q e = subst (λ (r : PartName). same_part p r ≡ true) e (same_itself p)

pub slot_within : (config : Config) (p : PartName) → there config p ≡ true → slot_of config p < config.stripes + 2
slot_within config (Stripe a) h = let k : a < config.stripes = ltb-true a config.stripes h in omega arith
slot_within config Queue h = omega arith
slot_within config Desk h = omega arith

-- the part that has a part's slot is that part
pub name_of_slot : (config : Config) (p : PartName) → there config p ≡ true → name_of config (slot_of config p) ≡ p
name_of_slot config (Stripe a) h = rw h refl
name_of_slot config Queue h = rw (le-ltb config.stripes config.stripes (omega arith), eq-eqb config.stripes config.stripes refl) refl
name_of_slot config Desk h = rw (le-ltb (config.stripes + 1) config.stripes (omega arith), ne_eqb (config.stripes + 1) config.stripes (λ e. omega arith)) refl

-- two parts have two slots
pub slots_apart : (config : Config) (p q : PartName) → there config p ≡ true → there config q ≡ true → (p ≡ q → ⊥) → slot_of config p ≢ slot_of config q
slots_apart config p q h k apart e = apart (sym (name_of_slot config p h) ∙ (ap (name_of config) e ∙ name_of_slot config q k))
