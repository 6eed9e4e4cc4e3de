-- Want of room of a call at a stage is that of the history right before its event.
use Rattle.std.proofs.Common.{◌≡◌, ℕ, Bool, true, List, Option, Some, None, refl, sym, subst, ◌∙◌}
use Rattle.std.specs.Prelude.{◌||◌}
use Rattle.ep_model.specs.declared.event.Cause.TheVariants as causes
use Rattle.ep_model.specs.declared.event.PartName.{PartName}
use Rattle.ep_model.specs.declared.event.PartName.TheVariants.{Stripe, Queue}
use Rattle.ep_model.specs.declared.event.Ticket.{Ticket}
use Rattle.ep_model.specs.declared.data.CallData.{CallData}
use Rattle.ep_model.specs.declared.data.EventData.{EventData}
use Rattle.ep_model.specs.declared.data.EventData.TheVariants as events
use Rattle.ep_model.specs.declared.data.FrontData.{FrontData}
use Rattle.ep_model.specs.Legal.{May, IsLegal}
use Rattle.hold_stage.specs.Grows.{and_this}
use Rattle.hold_stage.specs.Priors.{PriorsStand}
use Rattle.hold_stage.specs.Went.{Went}
use Rattle.hold_stage.proofs.CallerLemmas.{same_is}
use Rattle.hold_stage.proofs.GrowsLemmas.{keeps_along}
use Rattle.hold_stage.proofs.WentLemmas.{went_may}
use Rattle.vb_front.specs.declared.part.Part.TheVariants as parts
use Rattle.vb_front.specs.declared.step.Step.{Step}
use Rattle.vb_front.specs.declared.step.Step.TheVariants as steps
use Rattle.vb_front.specs.Parts.{part_stands, part_keeps}
use Rattle.vb_front.specs.Priors.{key_in, event_of}
use Rattle.vb_front.specs.Stands.{StripeStands, QueueStands}
use Rattle.vb_front.specs.Tries.{IsExactly}
use Rattle.vb_front.specs.Ways.{TriedQuotaIsWantOfRoom}
use Rattle.vb_front.specs.Writes.{write_step, AnsweredHasRoom}
use Rattle.vb_front.specs.WriteSteps.{WriteIsExact}
use Rattle.vb_front.proofs.TryLemmas.{priors_grown}
use Rattle.vb_front.proofs.WayLemmas.{quota_wants_room, want_is_quota}

-- the history right before a call's event is legal, and so is the event there
between_legal : (f g : FrontData) (held : PartName → Bool) (caller : ℕ) (desk : Bool) (event : Option EventData) → (w : Went f g held caller desk event) → IsLegal w.between
between_legal f g held caller desk None w = subst IsLegal w.last w.legal
between_legal f g held caller desk (Some event) w = (went_may f g held caller desk event w).0

quota_may : (f g : FrontData) (held : PartName → Bool) (caller : ℕ) (desk : Bool) (call : CallData) (now : ℕ) (prior : Option Ticket) (value : List ℕ) (step : Step)
    → (w : Went f g held caller desk (event_of caller call now prior step value)) → step ≡ steps.Refused causes.Quota → May w.between (events.Refused caller call now causes.Quota)
quota_may f g held caller desk call now prior value (steps.Done reply) w is = absurd (cc)
quota_may f g held caller desk call now prior value (steps.Refused causes.Warming) w is = absurd (cc)
quota_may f g held caller desk call now prior value (steps.Refused causes.Quota) w is = (went_may f g held caller desk (events.Refused caller call now causes.Quota) w).1
quota_may f g held caller desk call now prior value (steps.Refused (causes.Store ticket)) w is = absurd (cc)
quota_may f g held caller desk call now prior value (steps.Refused (causes.Memory ticket)) w is = absurd (cc)
quota_may f g held caller desk call now prior value (steps.Fetch ticket) w is = absurd (cc)
quota_may f g held caller desk call now prior value steps.FetchFull w is = absurd (cc)

pub tried_quota_is_want_of_room : TriedQuotaIsWantOfRoom
unfolding IsExactly
tried_quota_is_want_of_room f g held caller desk stripe prior call now value step w priors told keyed =
    let key = key_in call in
    let all : PartName → Bool = and_this Queue (and_this (Stripe stripe) held) in
    let between = w.behind.between in
    let legal : IsLegal between = between_legal w.at g all caller desk (event_of caller call now prior step value) w.behind in
    let has : all (Stripe stripe) ≡ true = subst (λ (b : Bool). (b || held (Stripe stripe)) ≡ true) (sym (same_is stripe)) refl in
    let stands : StripeStands between stripe w.part = keeps_along part_stands part_keeps w.at between all caller desk w.behind.grown legal (Stripe stripe) (parts.Stripe w.part) has w.stands in
    let queued : QueueStands between w.queue = keeps_along part_stands part_keeps w.at between all caller desk w.behind.grown legal Queue (parts.Queue w.queue) refl w.queued in
    let waits : PriorsStand between caller call prior = priors_grown w.at between all caller desk call prior w.behind.grown (priors_grown f w.at held caller desk call prior w.grown priors) in
    let came = write_step w.part w.queue prior call key now in
    let exact : WriteIsExact w.part w.queue call key now prior came × AnsweredHasRoom w.part w.queue call key now prior came = w.exact in
    record {
      refused = λ is. quota_wants_room between caller call key now keyed told (quota_may w.at g all caller desk call now prior value step w.behind is);
      answered = λ serving reply is. exact.1 between stripe caller reply legal stands queued waits told serving (sym w.step_is ∙ is);
      lacking = λ serving nothing short. w.step_is ∙ want_is_quota w.part w.queue call key now prior came exact.0.comes exact.1 between stripe caller legal stands queued waits told serving nothing short;
    }
