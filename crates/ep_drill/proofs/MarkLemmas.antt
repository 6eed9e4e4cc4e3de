-- A stripe that doesn't know what is stored is told, whatever others noted before it was taken and since.
use Rattle.std.proofs.Common.{◌≡◌, ◌<◌, ℕ, Bool, true, false, cond, refl, sym, ap, subst, ◌∙◌, arith}
use Rattle.std.specs.Prelude.{Option, Some, None, IsSome}
use Rattle.ep_model.specs.declared.config.Config.{Config}
use Rattle.ep_model.specs.declared.event.PartName.{PartName}
use Rattle.ep_model.specs.declared.event.PartName.TheVariants.{Stripe}
use Rattle.ep_model.specs.declared.data.EventData.TheVariants as events
use Rattle.ep_model.specs.declared.data.FrontData.{FrontData}
use Rattle.ep_model.specs.Front.{world_of, with_event, marked}
use Rattle.ep_model.specs.Legal.{May, MayMark, IsLegal}
use Rattle.hold_stage.specs.Touches.{there, is_stripe}
use Rattle.hold_stage.specs.Grows.{Grown, Noted}
use Rattle.hold_stage.specs.Went.{with_noted}
use Rattle.hold_stage.proofs.CallerLemmas.{same_is}
use Rattle.hold_stage.proofs.BoundLemmas.{legal_bounds, marked_step}
use Rattle.hold_stage.proofs.RisesLemmas.{may_of, opened_unmarked}
use Rattle.hold_stage.proofs.DeskLemmas.{grown_stored}
use Rattle.hold_stage.proofs.OwnLemmas.{stripe_is}
use Rattle.flat_parts.specs.declared.data.StripeData.{StripeData}
use Rattle.ep_drill.specs.declared.part.Part.TheVariants as parts
use Rattle.ep_drill.specs.declared.part.Part.{Part}
use Rattle.ep_drill.specs.declared.mark.Marking.{Marking}
use Rattle.ep_drill.specs.declared.mark.Marking.TheVariants as markings
use Rattle.ep_drill.specs.Calls.{AreHome}
use Rattle.hold_stage.specs.Stays.{KeptBut}
use Rattle.ep_drill.specs.Marks.{marked_by, IsMarked, HasMarked, MarksPart}
use Rattle.ep_drill.specs.Parts.{part_stands, Becomes}
use Rattle.ep_drill.specs.Stands.{StripeStands}
use Rattle.ep_drill.proofs.PartLemmas.{may_mark, marked_stands}

-- the stripe was taken behind what others noted
module _ (f₀ f : FrontData) (held : PartName → Bool) (caller : ℕ) (desk : Bool) (stripe number mark : ℕ) (x : StripeData) (grown : Grown f₀ f held caller desk) (has : desk ≡ true) (is : number ≡ (world_of f₀).persisted)
    (legal : IsLegal f) (s : StripeStands f stripe x) (mark-is : mark ≡ x.mark) where
  stored-here : number ≡ (world_of f).persisted
  stored-here = is ∙ sym (grown_stored f₀ f held caller desk has grown)

  below : (mark ≡ number → ⊥) → marked f stripe < number
  below differs =
      let low = (legal_bounds f legal).marked stripe in
      let at : mark ≡ marked f stripe = mark-is ∙ s.mark in
      let here = stored-here in
      omega arith

  pub mark_may : (mark ≡ number → ⊥) → May f (events.Marked stripe number)
  mark_may differs =
      let here = stored-here in
      let less = below differs in
      may_mark f stripe number x (opened_unmarked f stripe legal (omega arith)) less (omega arith) s

  -- it knows that already
  pub mark_idle : (g : FrontData) → g ≡ f → mark ≡ number → marked g stripe ≡ number
  mark_idle g same known = ap (λ (h : FrontData). marked h stripe) same ∙ sym s.mark ∙ sym mark-is ∙ known

-- and it was told, behind what others noted since
module _ (f g : FrontData) (holds : PartName → Bool) (caller : ℕ) (desk : Bool) (stripe number : ℕ) (n : Noted part_stands f g holds caller desk (events.Marked stripe number)) (legal : IsLegal g) where
  pub mark_known : (h : FrontData) (told : ℕ) → h ≡ g → number ≡ told → marked h stripe ≡ told
  mark_known h told same is =
      ap (λ (k : FrontData). marked k stripe) (same ∙ n.last)
      ∙ marked_step n.between (events.Marked stripe number) stripe ∙ ap (λ b. cond b number (marked n.between stripe)) (same_is stripe) ∙ is

  may-there : MayMark n.between stripe number
  unfolding May
  may-there = may_of n.between (events.Marked stripe number) (subst IsLegal n.last legal)

  pub mark_stands : (x y : StripeData) → holds (Stripe stripe) ≡ true → StripeStands f stripe x → y ≡ record x { mark = number } → StripeStands g stripe y
  mark_stands x y has s raised =
      let may = may-there in
      subst (λ (h : FrontData). StripeStands h stripe y) (sym n.last)
      (subst (λ (z : StripeData). StripeStands (with_event n.between (events.Marked stripe number)) stripe z) (sym raised)
      (marked_stands n.between stripe number x may.opened may.above may.stored (n.kept (Stripe stripe) (parts.Stripe x) has s)))

becomes_some : (old new : Option Part) (f : StripeData → StripeData) → Becomes old new f → IsSome new
becomes_some None new f is = absurd is
becomes_some (Some (parts.Stripe x)) new f is = subst (λ (o : Option Part). IsSome o) (sym is) refl
becomes_some (Some (parts.Queue q)) new f is = absurd is
becomes_some (Some (parts.Desk d)) new f is = absurd is

gone : (o : Option Part) → IsSome o → o ≡ None → ⊥
gone o some is = let h = subst (λ (p : Option Part). IsSome p) is some in cc

-- a stripe that is at home is told, and stays at home
pub mark_becomes : (stripe number : ℕ) (old new : Option Part) (marking : Marking) → IsSome old → MarksPart old new number marking → Becomes old new (λ x. record x { mark = number })
mark_becomes stripe number old new markings.Idle some told = told
mark_becomes stripe number old new (markings.Raised other) some told = told
mark_becomes stripe number old new (markings.Busy busy) some told = absurd (gone old some told.0)

pub mark_home : (config : Config) (stripe number : ℕ) (old new : PartName → Option Part) (marking : Marking) → there config (Stripe stripe) ≡ true → AreHome config old
    → MarksPart (old (Stripe stripe)) (new (Stripe stripe)) number marking → KeptBut config (is_stripe stripe) old new → AreHome config new
mark_home config stripe number old new marking in-it home told kept p is = at (is_stripe stripe p) refl
  where
    at : (t : Bool) → is_stripe stripe p ≡ t → IsSome (new p)
    at true e =
        subst (λ (q : PartName). IsSome (new q)) (sym (stripe_is stripe p e))
        (becomes_some (old (Stripe stripe)) (new (Stripe stripe)) (λ x. record x { mark = number }) (mark_becomes stripe number (old (Stripe stripe)) (new (Stripe stripe)) marking (home (Stripe stripe) in-it) told))
    at false e = subst (λ (o : Option Part). IsSome o) (sym (kept p is e)) (home p is)

-- and then the history says which it was
pub mark_alone : (f g : FrontData) (stripe number before after : ℕ) (old new : Option Part) (marking : Marking) → IsSome old → MarksPart old new number marking → HasMarked g stripe number before after marking → g ≡ with_noted f (marked_by stripe number marking)
    → IsMarked f g stripe number marking
mark_alone f g stripe number before after old new markings.Idle some told has is = (ap (λ (h : FrontData). marked h stripe) (sym is) ∙ has.0, is)
mark_alone f g stripe number before after old new (markings.Raised other) some told has is = (has.0, is)
mark_alone f g stripe number before after old new (markings.Busy busy) some told has is = absurd (gone old some told.0)
