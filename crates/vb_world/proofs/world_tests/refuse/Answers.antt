use Rattle.std.proofs.Common.{◌≡◌, ℕ, Bool, true, List, [], sym, ap, ◌∙◌}
use Rattle.std.proofs.lemmas.Bool.{eq-eqb}
use Rattle.ep_model.specs.declared.data.CallData.TheVariants.{GetState}
use Rattle.ep_model.specs.declared.data.EventData.{EventData}
use Rattle.ep_model.specs.declared.data.EventData.TheVariants.{Refused}
use Rattle.ep_model.specs.declared.data.FrontData.{FrontData}
use Rattle.ep_model.specs.declared.event.Cause.TheVariants.{Warming}
use Rattle.ep_model.specs.declared.event.PartName.{PartName}
use Rattle.ep_model.specs.declared.event.PartName.TheVariants.{Stripe, Queue, Desk}
use Rattle.ep_model.specs.Front.{begun}
use Rattle.ep_model.specs.History.{after}
use Rattle.ep_model.specs.Legal.{May}
use Rattle.hold_stage.specs.Touches.{touches, is_of, is_call, is_desks}
use Rattle.hold_stage.specs.Grows.{Covered, IsOwn}
use Rattle.vb_world.proofs.world_tests.refuse.Goals as goal

covered : (f : FrontData) (caller now : ℕ) (held : PartName → Bool) → held Queue ≡ true → Covered held f (Refused caller GetState now Warming)
unfolding touches
covered f caller now held h (Stripe stripe) e = absurd (cc)
covered f caller now held h Queue e = h
covered f caller now held h Desk e = absurd (cc)

may : (f : FrontData) (caller now : ℕ) → f.events ≡ [] → May f (Refused caller GetState now Warming)
unfolding May
may f caller now e = ap (λ (events : List EventData). (after (begun f) events).opened) e

own : (number caller now : ℕ) (desk : Bool) → number ≡ caller → IsOwn number desk (Refused caller GetState now Warming)
unfolding is_of is_call is_desks
own number caller now desk e = record { own = λ _. eq-eqb caller number (sym e); desks = λ h. absurd (cc) }

pub note-requires-clause-covered : goal.note-requires-clause-covered
note-requires-clause-covered g c = covered _ c.args.caller 5 (g.S.Stage.holds c.take.new.self) (c.in-Ok.ensures.held Queue)

pub note-requires-clause-may : goal.note-requires-clause-may
note-requires-clause-may g c =
    may _ c.args.caller 5 (ap (λ (f : FrontData). f.events) (c.take.ensures.alone c.requires.telling) ∙ c.requires.events)

pub note-requires-clause-own : goal.note-requires-clause-own
note-requires-clause-own g c = own _ c.args.caller 5 _ (c.take.ensures.stays.number ∙ c.requires.number)
