use Rattle.std.proofs.Common.{rules, ◌≡◌, ◌++◌, ap, ◌∙◌}
use Rattle.hold_stage.specs.Went.{own_events}
use Rattle.turn_stage.specs.Made.{refusal, only_if}
use Rattle.turn_stage.specs.Slots.{has}
use Rattle.turn_stage.specs.Passes.{view_of}
use Rattle.turn_stage.specs.declared.data.View.{View}
use Rattle.turn_stage.proofs.MadeLemmas.{ran_own}
use Rattle.turn_stage.proofs.tests.refuse_at.Goals as goal

pub returns : goal.returns
returns c =
    let v = view_of c.args.pass.now in
    let w = view_of c.stage-stage.result.pass.now in
    let x = view_of c.refuse.new.stage.pass.now in
    let same : w ≡ v = ap view_of c.stage-stage.ensures.pass in
    let caller : x.caller ≡ v.caller = c.refuse.ensures.stays.number ∙ ap (λ (u : View). u.caller) same in
    let own : own_events x.caller x.front.events ≡ own_events v.caller v.front.events ++ only_if c.is_ok.result (refusal v.caller c.args.key.now c.args.now) =
    ran_own v w x (has w.held) w.desk c.args.key.now c.args.now c.refuse.result c.is_ok.result same c.refuse.ensures.went c.refuse.ensures.stays.number c.is_ok.ensures.value in
    record { ran = record { of = search rules; none = search rules; numbers = search rules; caller = search (rules, caller); own = search (rules, own) } }
