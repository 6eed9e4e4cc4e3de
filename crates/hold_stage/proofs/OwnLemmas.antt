-- Whose events are, and that what they touch is held.
use Rattle.std.proofs.Common.{◌≡◌, ℕ, Bool, true, false, List, refl, sym, ap, ◌∙◌}
use Rattle.std.specs.Prelude.{◌||◌, ◌&&◌, not, ◌==◌}
use Rattle.std.proofs.lemmas.Bool.Decides.{Decides-eqb}
use Rattle.ep_model.specs.declared.call.Reply.{Reply}
use Rattle.ep_model.specs.declared.event.Cause.{Cause}
use Rattle.ep_model.specs.declared.event.PartName.{PartName}
use Rattle.ep_model.specs.declared.event.PartName.TheVariants.{Stripe, Queue, Desk}
use Rattle.ep_model.specs.declared.event.Ticket.{Ticket}
use Rattle.ep_model.specs.declared.data.CallData.{CallData}
use Rattle.ep_model.specs.declared.data.EventData.TheVariants.{Called, Refused, Persisted, Marked, Asked, ReadFailed, Opened}
use Rattle.ep_model.specs.declared.data.FrontData.{FrontData}
use Rattle.hold_stage.specs.Touches.{is_stripe, is_queue, is_desk, same_part, touches, is_of, is_call, is_desks}
use Rattle.hold_stage.specs.Grows.{Same, Among, and_this, but_this, Covered, IsOwn}
use Rattle.hold_stage.proofs.CallerLemmas.{same_is}
use Rattle.hold_stage.proofs.ViewLemmas.{or_true_right}

-- a caller's own events
pub own_called : (caller number : ℕ) (desk : Bool) (call : CallData) (now : ℕ) (reply : Reply) (value : List ℕ) → caller ≡ number → IsOwn number desk (Called caller call now reply value)
unfolding is_of is_call is_desks
own_called caller number desk call now reply value is = record { own = λ _. (Decides-eqb caller number).1 is; desks = λ t. absurd (cc) }

pub own_refused : (caller number : ℕ) (desk : Bool) (call : CallData) (now : ℕ) (cause : Cause) → caller ≡ number → IsOwn number desk (Refused caller call now cause)
unfolding is_of is_call is_desks
own_refused caller number desk call now cause is = record { own = λ _. (Decides-eqb caller number).1 is; desks = λ t. absurd (cc) }

pub own_asked : (caller number : ℕ) (desk : Bool) (ticket : Ticket) (call : CallData) → caller ≡ number → IsOwn number desk (Asked ticket caller call)
unfolding is_of is_call is_desks
own_asked caller number desk ticket call is = record { own = λ _. (Decides-eqb caller number).1 is; desks = λ t. absurd (cc) }

-- anybody may tell a stripe what is stored
pub own_marked : (number : ℕ) (desk : Bool) (stripe mark : ℕ) → IsOwn number desk (Marked stripe mark)
unfolding is_of is_call is_desks
own_marked number desk stripe mark = record { own = λ t. absurd (cc); desks = λ t. absurd (cc) }

-- who has the desk tells what was stored
pub own_persisted : (number : ℕ) (desk : Bool) (to : ℕ) → desk ≡ true → IsOwn number desk (Persisted to)
unfolding is_of is_call is_desks
own_persisted number desk to is = record { own = λ t. absurd (cc); desks = λ _. is }

-- a part of this name is this stripe
pub stripe_is : (stripe : ℕ) (p : PartName) → is_stripe stripe p ≡ true → p ≡ Stripe stripe
stripe_is stripe (Stripe other) is = ap Stripe ((Decides-eqb other stripe).0 is)
stripe_is stripe Queue is = absurd (cc)
stripe_is stripe Desk is = absurd (cc)

queue_is : (p : PartName) → is_queue p ≡ true → p ≡ Queue
queue_is (Stripe stripe) is = absurd (cc)
queue_is Queue is = refl
queue_is Desk is = absurd (cc)

desk_is : (p : PartName) → is_desk p ≡ true → p ≡ Desk
desk_is (Stripe stripe) is = absurd (cc)
desk_is Queue is = absurd (cc)
desk_is Desk is = refl

part_is : (part p : PartName) → same_part part p ≡ true → p ≡ part
part_is (Stripe stripe) p is = stripe_is stripe p is
part_is Queue p is = queue_is p is
part_is Desk p is = desk_is p is

pub same_part_is : (part : PartName) → same_part part part ≡ true
same_part_is (Stripe stripe) = same_is stripe
same_part_is Queue = refl
same_part_is Desk = refl

pub holds_stripe : (holds : PartName → Bool) (stripe : ℕ) → holds (Stripe stripe) ≡ true → (p : PartName) → is_stripe stripe p ≡ true → holds p ≡ true
holds_stripe holds stripe has p is = ap holds (stripe_is stripe p is) ∙ has

-- A part that was taken is held, with all that were.
pub taken_held : (part : PartName) (held holds : PartName → Bool) → Same holds (and_this part held) → holds part ≡ true
taken_held part held holds same = same part ∙ ap (λ b. b || held part) (same_part_is part)

pub taken_among : (part : PartName) (held holds : PartName → Bool) → Same holds (and_this part held) → Among held holds
taken_among part held holds same p has = same p ∙ or_true_right (same_part p part) (held p) has

-- Once it is given back, those are held that were.
pub given_back : (part : PartName) (held taken given : PartName → Bool) → held part ≡ false → Same taken (and_this part held) → Same given (but_this part taken) → Same given held
given_back part held taken given free takes gives p =
    gives p ∙ ap (λ b. not (same_part p part) && b) (takes p) ∙ at (same_part p part) refl
  where
    at : (t : Bool) → same_part p part ≡ t → (not t && (t || held p)) ≡ held p
    at true is = sym (ap held (sym (part_is p part is)) ∙ free)
    at false is = refl

-- what is told to a stripe touches it
pub marked_covered : (f : FrontData) (stripe mark : ℕ) (held holds : PartName → Bool) → Same holds (and_this (Stripe stripe) held) → Covered holds f (Marked stripe mark)
unfolding touches
marked_covered f stripe mark held holds same p is = holds_stripe holds stripe (taken_held (Stripe stripe) held holds same) p is

-- and what is told of the store the queue and the desk
pub persisted_covered : (f : FrontData) (to : ℕ) (held between holds : PartName → Bool) → Same between (and_this Queue held) → Same holds (and_this Desk between) → Covered holds f (Persisted to)
unfolding touches
persisted_covered f to held between holds first second (Stripe stripe) is = absurd (cc)
persisted_covered f to held between holds first second Queue is = second Queue ∙ first Queue
persisted_covered f to held between holds first second Desk is = second Desk
