-- What is noted with all parts of a vBucket of one stripe held may happen, and what it leaves of them.
use Rattle.std.proofs.Common.{◌≡◌, ℕ, Bool, true, false, List, [], ◌∷◌, refl, sym, ap, subst, ◌∙◌, arith}
use Rattle.std.specs.Prelude.{Some, None, ◌<◌, ◌||◌, ◌==◌, nat_lt}
use Rattle.std.specs.List.{AllByRecursion}
use Rattle.std.proofs.lemmas.Bool.Decides.{Decides-eqb, nat_tests}
use Rattle.ep_model.specs.declared.data.EventData.{EventData}
use Rattle.ep_model.specs.declared.data.EventData.TheVariants.{Persisted, Marked, ReadFailed, Opened}
use Rattle.ep_model.specs.declared.data.FrontData.{FrontData}
use Rattle.ep_model.specs.declared.event.PartName.{PartName}
use Rattle.ep_model.specs.declared.event.PartName.TheVariants.{Stripe, Queue, Desk}
use Rattle.ep_model.specs.declared.event.Ticket.{Ticket}
use Rattle.ep_model.specs.Front.{world_of, with_event, with_start}
use Rattle.ep_model.specs.Legal.{May, HasAsked, IsNoFault}
use Rattle.hold_stage.specs.Grows.{Covered, IsOwn}
use Rattle.hold_stage.specs.Touches.{there, touches, is_of, is_call, is_desks}
use Rattle.hold_stage.specs.Waits.{IsFaultWithin}
use Rattle.hold_stage.proofs.LaterLemmas.{all_append}
use Rattle.ckpt_manager.specs.declared.data.QueueData.{QueueData}
use Rattle.vb_front.specs.declared.part.StripePart.{StripePart}
use Rattle.vb_front.specs.Opened.{unknown_start, IsLater}
use Rattle.vb_front.specs.Stands.{StripeStands, QueueStands}

or_false : (b : Bool) → (b || false) ≡ true → b ≡ true
or_false true is = refl
or_false false is = is

-- What is noted with all parts held touches no other part, and may happen.
module _ (f : FrontData) (holds : PartName → Bool) (all : (p : PartName) → holds p ≡ there f.config p) where
  pub persisted_held : (n : ℕ) → Covered holds f (Persisted n)
  unfolding touches
  persisted_held n (Stripe stripe) is = absurd (cc)
  persisted_held n Queue is = all Queue
  persisted_held n Desk is = all Desk

  pub marked_held : (n : ℕ) → f.config.stripes ≡ 1 → Covered holds f (Marked 0 n)
  unfolding touches
  marked_held n one (Stripe stripe) is = all (Stripe stripe) ∙ grind (arith, nat_tests)
  marked_held n one Queue is = absurd (cc)
  marked_held n one Desk is = absurd (cc)

  pub failed_held : (ticket : Ticket) (fault : ℕ) → f.config.stripes ≡ 1 → ticket.stripe ≡ 0 → Covered holds f (ReadFailed ticket fault)
  unfolding touches
  failed_held ticket fault one zero_is (Stripe stripe) is =
      let here : stripe ≡ ticket.stripe = (Decides-eqb stripe ticket.stripe).0 (or_false (stripe == ticket.stripe) is) in
      all (Stripe stripe) ∙ grind (arith, nat_tests)
  failed_held ticket fault one zero_is Queue is = absurd (cc)
  failed_held ticket fault one zero_is Desk is = all Desk

  pub opened_held : Covered holds f Opened
  unfolding touches
  opened_held (Stripe stripe) is = all (Stripe stripe) ∙ or_false (nat_lt stripe f.config.stripes) is
  opened_held Queue is = all Queue
  opened_held Desk is = all Desk

pub may_open : (f : FrontData) → f.start ≡ None → f.events ≡ [] → May (with_start f (Some unknown_start)) Opened
unfolding May
may_open f start none = record { put = refl; unopened = ap (λ (l : List EventData). (world_of (record f { start = Some unknown_start; events = l })).opened) none }

pub may_persist : (f : FrontData) (q : QueueData) (n low : ℕ) → QueueStands f q → q.opened ≡ true → n ≡ q.high → low ≡ q.persisted → low < n → May f (Persisted n)
unfolding May
may_persist f q n low s opened high is above =
    let a = s.persisted in let b = s.high in
    record { opened = sym s.opened ∙ opened; above = omega arith; within = omega arith }

pub may_mark : (f : FrontData) (q : QueueData) (x : StripePart) (n mark : ℕ) → QueueStands f q → StripeStands f 0 x → q.opened ≡ true → n ≡ (world_of f).persisted → mark ≡ x.table.mark → mark < n → May f (Marked 0 n)
unfolding May
may_mark f q x n mark queue stripe opened is mark-is above =
    let a = stripe.table.mark in
    record { opened = sym queue.opened ∙ opened; above = omega arith; stored = omega arith }

pub may_fail : (f : FrontData) (ticket : Ticket) (fault : ℕ) → HasAsked f.events ticket → AllByRecursion (IsNoFault fault) f.events → May f (ReadFailed ticket fault)
unfolding May
may_fail f ticket fault asked once = record { asked = asked; once = once }

pub own_failed : (number : ℕ) (desk : Bool) (ticket : Ticket) (fault : ℕ) → desk ≡ true → IsOwn number desk (ReadFailed ticket fault)
unfolding is_of is_call is_desks
own_failed number desk ticket fault is = record { own = λ t. absurd (cc); desks = λ _. is }

pub own_opened : (number : ℕ) (desk : Bool) → desk ≡ true → IsOwn number desk Opened
unfolding is_of is_call is_desks
own_opened number desk is = record { own = λ t. absurd (cc); desks = λ _. is }

-- what these events don't touch
pub untouched_stored : (f : FrontData) (n stripe : ℕ) → touches f (Persisted n) (Stripe stripe) ≡ false
unfolding touches
untouched_stored f n stripe = refl

pub untouched_marked : (f : FrontData) (n stripe : ℕ) → (touches f (Marked stripe n) Queue ≡ false) × (touches f (Marked stripe n) Desk ≡ false)
unfolding touches
untouched_marked f n stripe = (refl, refl)

-- Behind an event that is no failed read no more of them stand than before.
pub later_by : (f g : FrontData) (event : EventData) → ((n : ℕ) → IsFaultWithin n event) → g ≡ with_event f event → IsLater f g
later_by f g event fits is =
    subst (λ (h : FrontData). IsLater f h) (sym is)
    (record { start = refl; faults = λ n within. all_append (IsFaultWithin n) f.events (event ∷ []) within (fits n, tt) })
