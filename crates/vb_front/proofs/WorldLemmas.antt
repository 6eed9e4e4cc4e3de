-- The parts of a vBucket with one stripe, each in its slot, are at home and stand before anything is known to have happened.
use Rattle.std.proofs.Common.{◌≡◌, ℕ, zero, suc, ◌+◌, Bool, true, false, List, [], ◌∷◌, length, refl, sym, subst, cond, arith}
use Rattle.std.specs.Prelude.{Some, None, nat_lt, ◌==◌, slice_get}
use Rattle.std.specs.Option.{is_some}
use Rattle.std.proofs.lemmas.Bool.Decides.{nat_tests}
use Rattle.ep_model.specs.declared.config.Config.{Config}
use Rattle.ep_model.specs.declared.event.PartName.{PartName}
use Rattle.ep_model.specs.declared.event.PartName.TheVariants.{Stripe, Queue, Desk}
use Rattle.ep_model.specs.Front.{world_of}
use Rattle.hold_stage.specs.Slots.{bare_front, StandBare}
use Rattle.vb_world.specs.declared.place.Place.TheVariants.{Home}
use Rattle.vb_world.specs.declared.data.WorldData.{WorldData}
use Rattle.vb_world.specs.World.{home_of, has_out, with_bucket, no_buckets}
use Rattle.ckpt_manager.specs.declared.data.QueueData.{QueueData}
use Rattle.vb_front.specs.declared.part.DeskPart.{DeskPart}
use Rattle.vb_front.specs.declared.part.StripePart.{StripePart}
use Rattle.vb_front.specs.declared.part.Part.{Part}
use Rattle.vb_front.specs.declared.part.Part.TheVariants as parts
use Rattle.vb_front.specs.Opened.{IsAtHome}
use Rattle.vb_front.specs.Parts.{part_stands}
use Rattle.vb_front.specs.Stands.{StripeStands, QueueStands}

abbrev name_in : ℕ → ℕ → PartName
name_in stripes slot = cond (nat_lt slot stripes) (Stripe slot) (cond (slot == stripes) Queue Desk)

pub three_stand : (config : Config) (id : ℕ) (held : List Part) (x : StripePart) (q : QueueData) (d : DeskPart) → config.stripes ≡ 1
    → held ≡ parts.Stripe x ∷ parts.Queue q ∷ parts.Desk d ∷ [] → StripeStands (bare_front config id) 0 x → QueueStands (bare_front config id) q
    → d.persisted ≡ (world_of (bare_front config id)).persisted → StandBare part_stands config id held
three_stand config id held x q d one is stands queued told slot y found =
    subst (λ n. part_stands (name_in n slot) (bare_front config id) y) (sym one)
    (at slot y (subst (λ (l : List Part). slice_get l slot ≡ Some y) is found))
  where
    at : (n : ℕ) (z : Part) → slice_get (parts.Stripe x ∷ parts.Queue q ∷ parts.Desk d ∷ []) n ≡ Some z → part_stands (name_in 1 n) (bare_front config id) z
    at zero z e = subst (λ (p : Part). part_stands (Stripe 0) (bare_front config id) p) (let same : parts.Stripe x ≡ z = cc in same) stands
    at (suc zero) z e = subst (λ (p : Part). part_stands Queue (bare_front config id) p) (let same : parts.Queue q ≡ z = cc in same) queued
    at (suc (suc zero)) z e = subst (λ (p : Part). part_stands Desk (bare_front config id) p) (let same : parts.Desk d ≡ z = cc in same) told
    at (suc (suc (suc n))) z e = absurd (cc)

-- and all of them are at home
three_at_home : (config : Config) (x y z : Part) → config.stripes ≡ 1 → IsAtHome config (with_bucket (no_buckets config) (x ∷ y ∷ z ∷ []))
three_at_home config x y z one (Stripe zero) is =
    subst (λ (b : Bool). is_some (home_of (cond b (Some (Home x)) None)) ≡ true) (sym is) refl
three_at_home config x y z one (Stripe (suc n)) is = absurd (let no : ⊥ = grind (arith, nat_tests) in no)
three_at_home config x y z one Queue is =
    subst (λ (n : ℕ). is_some (home_of (slice_get (Home x ∷ Home y ∷ Home z ∷ []) n)) ≡ true) (sym one) refl
three_at_home config x y z one Desk is =
    subst (λ (n : ℕ). is_some (home_of (slice_get (Home x ∷ Home y ∷ Home z ∷ []) (n + 1))) ≡ true) (sym one) refl

pub parts_at_home : (config : Config) (parts : List Part) → config.stripes ≡ 1 → length parts ≡ 3 → IsAtHome config (with_bucket (no_buckets config) parts)
parts_at_home config [] one three = absurd (cc)
parts_at_home config (x ∷ []) one three = absurd (cc)
parts_at_home config (x ∷ y ∷ []) one three = absurd (cc)
parts_at_home config (x ∷ y ∷ z ∷ []) one three = three_at_home config x y z one
parts_at_home config (x ∷ y ∷ z ∷ w ∷ rest) one three = absurd (omega arith)

-- what is out with nobody is free at any stage
pub not_out : (v w : WorldData Part) (vb caller : ℕ) (p : PartName) → w ≡ v → vb ≡ 0 → ((number : ℕ) (q : PartName) → has_out v 0 number q ≡ false) → has_out w vb caller p ≡ false
not_out v w vb caller p world-is vb-is none =
    subst (λ (u : WorldData Part). has_out u vb caller p ≡ false) (sym world-is)
    (subst (λ (n : ℕ). has_out v n caller p ≡ false) (sym vb-is) (none caller p))
