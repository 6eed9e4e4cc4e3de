-- Where the parts of a vBucket are, and what changes of it leave.
use Rattle.std.proofs.Common.{◌≡◌, ℕ, zero, suc, ◌+◌, ◌<◌, Bool, true, false, not, ◌&&◌, ◌||◌, if◌then◌else◌, List, [], ◌∷◌, ◌++◌, length, map, slice_get, slice_set, Option, Some, None, refl, sym, ap, ◌∙◌, subst, arith, inl, inr, true≢false}
use Rattle.std.specs.List.{AllByRecursion}
use Rattle.std.specs.Option.{option_map}
use Rattle.std.proofs.lemmas.Option.{slice_get_within}
use Rattle.std.proofs.lemmas.Bool.{cases_eq, eqb-true, eq-eqb}
use Rattle.std.proofs.lemmas.Bool.Decides.{nat_tests}
use Rattle.ep_model.specs.declared.config.Config.{Config}
use Rattle.ep_model.specs.declared.event.PartName.{PartName}
use Rattle.ep_model.specs.declared.event.PartName.TheVariants.{Stripe, Queue, Desk}
use Rattle.ep_model.specs.declared.data.StartData.{StartData}
use Rattle.hold_stage.specs.Touches.{there, same_part}
use Rattle.hold_stage.specs.Grows.{and_this, but_this}
use Rattle.hold_stage.proofs.SlotLemmas.{part_same, same_of, slot_within, slots_apart}
use Rattle.vb_world.specs.declared.place.Place.{Place}
use Rattle.vb_world.specs.declared.place.Place.TheVariants.{Home, Out}
use Rattle.vb_world.specs.declared.data.BucketData.{BucketData}
use Rattle.vb_world.specs.declared.data.WorldData.{WorldData}
use Rattle.vb_world.specs.World.{slot_of, place_at, place_in, home_of, part_in, is_out_with, has_out, changed_at, put_place, put_start, with_place, with_origin, with_bucket, bucket_of}
use Rattle.vb_world.proofs.ListLemmas.{get-changed, get-changed_other, get-changed_kept, all-get, get_set, get_set_other, get_within, get_push, get_push_last}

-- parts and their names
pub same_turned : (p q : PartName) → same_part p q ≡ same_part q p
same_turned (Stripe a) (Stripe b) = grind (arith, nat_tests)
same_turned (Stripe a) Queue = refl
same_turned (Stripe a) Desk = refl
same_turned Queue (Stripe b) = refl
same_turned Queue Queue = refl
same_turned Queue Desk = refl
same_turned Desk (Stripe b) = refl
same_turned Desk Queue = refl
same_turned Desk Desk = refl

module _ {P : Type 0} where
  if_some : (b : Bool) (o : Option (Place P)) (place : Place P) → (if b then o else None) ≡ Some place → (b ≡ true) × (o ≡ Some place)
  if_some true o place e = (refl, e)
  if_some false o place e = absurd (cc)

  if_there : (config : Config) (q : PartName) (x y : Option (Place P)) → (there config q ≡ true → x ≡ y) → (if there config q then x else None) ≡ (if there config q then y else None)
  if_there config q x y h =
      let go : (b : Bool) → there config q ≡ b → (if b then x else None) ≡ (if b then y else None) =
      λ b. elim b as (λ v. there config q ≡ v → (if v then x else None) ≡ (if v then y else None)) [ true ↦ λ e. h e | false ↦ λ e. refl ] in
      go (there config q) refl

  -- in another vBucket every part is where it was
  pub place_other : (w : WorldData P) (id : ℕ) (part : PartName) (place : Place P) (other : ℕ) (q : PartName) → (other ≡ id → ⊥)
      → place_in (with_place w id part place) other q ≡ place_in w other q
  place_other w id part place other q h =
      ap (λ (o : Option (BucketData P)). if there w.config q then place_at o (slot_of w.config q) else None) (get-changed_other (put_place (slot_of w.config part) place) w.buckets id other h)

  abbrev HasShape : Config → BucketData P → Type 0
  HasShape config bucket = length bucket.places ≡ config.stripes + 2

  -- a part's place holds what was put there, and every other place what it held
  pub place_put : (w : WorldData P) (id : ℕ) (part : PartName) (place : Place P) (q : PartName)
      → there w.config part ≡ true → id < length w.buckets → AllByRecursion (HasShape w.config) w.buckets
      → place_in (with_place w id part place) id q ≡ (if same_part part q then Some place else place_in w id q)
  place_put w id part place q here within shapes =
      let at = get_within w.buckets id within in
      let shape : length at.0.places ≡ w.config.stripes + 2 = all-get (HasShape w.config) w.buckets id at.0 shapes at.1 in
      let slot = slot_of w.config part in
      let found : slice_get (changed_at (put_place slot place) w.buckets id) id ≡ Some (put_place slot place at.0) = get-changed (put_place slot place) w.buckets id ∙ ap (option_map (put_place slot place)) at.1 in
      let new : place_in (with_place w id part place) id q ≡ (if there w.config q then slice_get (slice_set at.0.places slot place) (slot_of w.config q) else None) =
      ap (λ (o : Option (BucketData P)). if there w.config q then place_at o (slot_of w.config q) else None) found in
      let old : place_in w id q ≡ (if there w.config q then slice_get at.0.places (slot_of w.config q) else None) =
      ap (λ (o : Option (BucketData P)). if there w.config q then place_at o (slot_of w.config q) else None) at.1 in
      let go : (b : Bool) → same_part part q ≡ b → place_in (with_place w id part place) id q ≡ (if b then Some place else place_in w id q) =
      λ b. elim b as (λ v. same_part part q ≡ v → place_in (with_place w id part place) id q ≡ (if v then Some place else place_in w id q)) [
        | true ↦ λ e.
            let is : part ≡ q = part_same part q e in
            let there_q : there w.config q ≡ true = subst (λ (p : PartName). there w.config p ≡ true) is here in
            let bound : slot < length at.0.places = let k = slot_within w.config part here in omega arith in
            let read : slice_get (slice_set at.0.places slot place) (slot_of w.config q) ≡ Some place =
            ap (λ (p : PartName). slice_get (slice_set at.0.places slot place) (slot_of w.config p)) (sym is) ∙ get_set at.0.places slot place bound in
            new ∙ (ap (λ (t : Bool). if t then slice_get (slice_set at.0.places slot place) (slot_of w.config q) else None) there_q ∙ read)
        | false ↦ λ e. new ∙ (if_there w.config q _ _ (λ k. get_set_other at.0.places slot (slot_of w.config q) place (slots_apart w.config part q here k (λ same. true≢false (sym (same_of part q same) ∙ e)))) ∙ sym old)
      ] in
      go (same_part part q) refl

  place_at_within : (w : WorldData P) (id slot : ℕ) (place : Place P) (o : Option (BucketData P)) → slice_get w.buckets id ≡ o → place_at o slot ≡ Some place → id < length w.buckets
  place_at_within w id slot place None e h = absurd (cc)
  place_at_within w id slot place (Some bucket) e h = slice_get_within w.buckets id bucket e

  -- a part that is somewhere is of a vBucket that there is, and of those that a vBucket has
  pub somewhere_within : (w : WorldData P) (id : ℕ) (q : PartName) (place : Place P) → place_in w id q ≡ Some place → (id < length w.buckets) × (there w.config q ≡ true)
  somewhere_within w id q place e =
      let k = if_some (there w.config q) (place_at (slice_get w.buckets id) (slot_of w.config q)) place e in
      (place_at_within w id (slot_of w.config q) place (slice_get w.buckets id) refl k.1, k.0)

  out_place : (caller : ℕ) (o : Option (Place P)) → is_out_with caller o ≡ true → o ≡ Some (Out caller)
  out_place caller None e = absurd (cc)
  out_place caller (Some (Home x)) e = absurd (cc)
  out_place caller (Some (Out other)) e = ap (λ (n : ℕ). Some (Out n)) (eqb-true other caller e)

  home_place : (o : Option (Place P)) (x : P) → home_of o ≡ Some x → o ≡ Some (Home x)
  home_place None x e = absurd (cc)
  home_place (Some (Home y)) x e = let same : y ≡ x = cc in ap (λ (z : P). Some (Home z)) same
  home_place (Some (Out caller)) x e = absurd (cc)

  -- what is out with a caller is of a vBucket that there is, and not at home
  pub out_within : (w : WorldData P) (id caller : ℕ) (q : PartName) → has_out w id caller q ≡ true → (id < length w.buckets) × (there w.config q ≡ true)
  out_within w id caller q e = somewhere_within w id q (Out caller) (out_place caller (place_in w id q) e)

  pub out_away : (w : WorldData P) (id caller : ℕ) (q : PartName) → has_out w id caller q ≡ true → part_in w id q ≡ None
  out_away w id caller q e = ap home_of (out_place caller (place_in w id q) e)

  pub home_within : (w : WorldData P) (id : ℕ) (q : PartName) (x : P) → part_in w id q ≡ Some x → (id < length w.buckets) × (there w.config q ≡ true)
  home_within w id q x e = somewhere_within w id q (Home x) (home_place (place_in w id q) x e)

  -- a part that its vBucket doesn't have is nowhere
  pub nowhere : (w : WorldData P) (id : ℕ) (q : PartName) → there w.config q ≡ false → part_in w id q ≡ None
  nowhere w id q e = ap (λ (b : Bool). home_of (if b then place_at (slice_get w.buckets id) (slot_of w.config q) else None)) e

  -- a part that its vBucket has
  pub part_there : (w : WorldData P) (id : ℕ) (q : PartName) → there w.config q ≡ true → part_in w id q ≡ home_of (place_at (slice_get w.buckets id) (slot_of w.config q))
  part_there w id q e = ap (λ (b : Bool). home_of (if b then place_at (slice_get w.buckets id) (slot_of w.config q) else None)) e

  if_none : (b : Bool) (x y : Place P) (o : Option (Place P)) → home_of (if b then Some x else o) ≡ (if b then home_of (Some x) else home_of o)
  if_none true x y o = refl
  if_none false x y o = refl

  -- which parts are at home once one was taken out or given back
  pub part_put : (w : WorldData P) (id : ℕ) (part : PartName) (place : Place P) (q : PartName)
      → there w.config part ≡ true → id < length w.buckets → AllByRecursion (HasShape w.config) w.buckets
      → part_in (with_place w id part place) id q ≡ (if same_part part q then home_of (Some place) else part_in w id q)
  part_put w id part place q here within shapes = ap home_of (place_put w id part place q here within shapes) ∙ if_none (same_part part q) place place (place_in w id q)

  or_this : (caller : ℕ) (b : Bool) (o : Option (Place P)) → is_out_with caller (if b then Some (Out caller) else o) ≡ (b || is_out_with caller o)
  or_this caller true o = eq-eqb caller caller refl
  or_this caller false o = refl

  not_this : (caller : ℕ) (b : Bool) (x : P) (o : Option (Place P)) → is_out_with caller (if b then Some (Home x) else o) ≡ (not b && is_out_with caller o)
  not_this caller true x o = refl
  not_this caller false x o = refl

  -- which parts a caller has once it took one, or gave one back
  pub out_taken : (w : WorldData P) (id caller : ℕ) (part q : PartName)
      → there w.config part ≡ true → id < length w.buckets → AllByRecursion (HasShape w.config) w.buckets
      → has_out (with_place w id part (Out caller)) id caller q ≡ and_this part (has_out w id caller) q
  out_taken w id caller part q here within shapes = ap (is_out_with caller) (place_put w id part (Out caller) q here within shapes) ∙ (or_this caller (same_part part q) (place_in w id q) ∙ ap (λ (b : Bool). b || has_out w id caller q) (same_turned part q))

  pub out_given : (w : WorldData P) (id caller : ℕ) (part : PartName) (x : P) (q : PartName)
      → there w.config part ≡ true → id < length w.buckets → AllByRecursion (HasShape w.config) w.buckets
      → has_out (with_place w id part (Home x)) id caller q ≡ but_this part (has_out w id caller) q
  out_given w id caller part x q here within shapes = ap (is_out_with caller) (place_put w id part (Home x) q here within shapes) ∙ (not_this caller (same_part part q) x (place_in w id q) ∙ ap (λ (b : Bool). not b && has_out w id caller q) (same_turned part q))

  -- a start that is put leaves every part where it was
  pub place_begun : (w : WorldData P) (id : ℕ) (start : StartData) (other : ℕ) (q : PartName) → place_in (with_origin w id start) other q ≡ place_in w other q
  place_begun w id start other q =
      ap (λ (o : Option (Place P)). if there w.config q then o else None)
      (get-changed_kept (put_start start) (λ (o : Option (BucketData P)). place_at o (slot_of w.config q)) (λ (bucket : BucketData P). refl) w.buckets id other)

  -- with a vBucket more every part is where it was, and the new ones are at home
  pub part_pushed : (w : WorldData P) (parts : List P) (other : ℕ) (q : PartName) → (other ≡ length w.buckets → ⊥) → part_in (with_bucket w parts) other q ≡ part_in w other q
  part_pushed w parts other q h =
      ap (λ (o : Option (BucketData P)). home_of (if there w.config q then place_at o (slot_of w.config q) else None)) (get_push w.buckets (bucket_of parts) other h)

  home_map : (parts : List P) (slot : ℕ) → home_of (slice_get (map Home parts) slot) ≡ slice_get parts slot
  home_map [] slot = refl
  home_map (x ∷ parts) zero = refl
  home_map (x ∷ parts) (suc slot) = home_map parts slot

  if_home : (b : Bool) (o : Option (Place P)) (x : P) → home_of (if b then o else None) ≡ Some x → (b ≡ true) × (home_of o ≡ Some x)
  if_home true o x e = (refl, e)
  if_home false o x e = absurd (cc)

  pub part_new : (w : WorldData P) (parts : List P) (q : PartName) (x : P) → part_in (with_bucket w parts) (length w.buckets) q ≡ Some x
      → (there w.config q ≡ true) × (slice_get parts (slot_of w.config q) ≡ Some x)
  part_new w parts q x e =
      let found : slice_get (w.buckets ++ bucket_of parts ∷ []) (length w.buckets) ≡ Some (bucket_of parts) = get_push_last w.buckets (bucket_of parts) in
      let at : home_of (if there w.config q then slice_get (map Home parts) (slot_of w.config q) else None) ≡ Some x =
      sym (ap (λ (o : Option (BucketData P)). home_of (if there w.config q then place_at o (slot_of w.config q) else None)) found) ∙ e in
      let k = if_home (there w.config q) (slice_get (map Home parts) (slot_of w.config q)) x at in
      (k.0, sym (home_map parts (slot_of w.config q)) ∙ k.1)

  out_map : (caller : ℕ) (parts : List P) (slot : ℕ) → is_out_with caller (slice_get (map Home parts) slot) ≡ false
  out_map caller [] slot = refl
  out_map caller (x ∷ parts) zero = refl
  out_map caller (x ∷ parts) (suc slot) = out_map caller parts slot

  if_out : (caller : ℕ) (b : Bool) (o : Option (Place P)) → is_out_with caller o ≡ false → is_out_with caller (if b then o else None) ≡ false
  if_out caller true o e = e
  if_out caller false o e = refl

  -- and none of them is out
  pub out_pushed : (w : WorldData P) (parts : List P) (other caller : ℕ) (q : PartName) → has_out w other caller q ≡ false → has_out (with_bucket w parts) other caller q ≡ false
  out_pushed w parts other caller q e =
      let at = λ (o : Option (BucketData P)). is_out_with caller (if there w.config q then place_at o (slot_of w.config q) else None) in
      elim (cases_eq other (length w.buckets)) [
        | inl i ↦ ap (λ (n : ℕ). at (slice_get (w.buckets ++ bucket_of parts ∷ []) n)) i ∙ (ap at (get_push_last w.buckets (bucket_of parts))
            ∙ if_out caller (there w.config q) (slice_get (map Home parts) (slot_of w.config q)) (out_map caller parts (slot_of w.config q)))
        | inr h ↦ ap at (get_push w.buckets (bucket_of parts) other h) ∙ e
      ]

  -- where there is no vBucket no part is out
  pub out_nowhere : (w : WorldData P) (other caller : ℕ) (q : PartName) → w.buckets ≡ [] → has_out w other caller q ≡ false
  out_nowhere w other caller q e =
      ap (λ (bs : List (BucketData P)). is_out_with caller (if there w.config q then place_at (slice_get bs other) (slot_of w.config q) else None)) e ∙ if_out caller (there w.config q) None refl
