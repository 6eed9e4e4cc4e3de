use Rattle.std.proofs.Common.{◌≡◌, rules}
use Rattle.std.specs.Prelude.{Some}
use Rattle.ep_model.specs.declared.data.EventData.TheVariants.{Called, Refused, Asked}
use Rattle.ep_model.specs.History.{call_data}
use Rattle.hold_stage.proofs.OwnLemmas.{own_called, own_refused, own_asked}
use Rattle.vb_front.specs.Priors.{event_of}
use Rattle.vb_front.proofs.TryLemmas.{called_covered, refused_covered, asked_covered, went_step}
use Rattle.vb_front.proofs.at_stage.note_step.Goals as goal

pub note-requires-clause-covered : goal.note-requires-clause-covered
note-requires-clause-covered g c =
    called_covered (g.S.Stage.front c.args.stage.now) (g.S.Stage.holds c.args.stage.now) c.caller-caller.result (call_data c.args.call.now) c.requires.touched c.args.now c.in-Done.reply c.args.value.now

pub note-requires-clause-own : goal.note-requires-clause-own
note-requires-clause-own g c = own_called _ _ _ _ _ _ _ c.caller-caller.ensures

pub note-requires-in-Refused-clause-covered : goal.note-requires-in-Refused-clause-covered
note-requires-in-Refused-clause-covered g c =
    refused_covered (g.S.Stage.front c.args.stage.now) (g.S.Stage.holds c.args.stage.now) c.caller-caller.result (call_data c.args.call.now) c.requires.touched c.args.now c.in-Refused.cause

pub note-requires-in-Refused-clause-own : goal.note-requires-in-Refused-clause-own
note-requires-in-Refused-clause-own g c = own_refused _ _ _ _ _ _ c.caller-caller.ensures

pub note-requires-then-not-is_prior-clause-covered : goal.note-requires-then-not-is_prior-clause-covered
note-requires-then-not-is_prior-clause-covered g c =
    asked_covered (g.S.Stage.front c.args.stage.now) (g.S.Stage.holds c.args.stage.now) c.caller-caller.result (call_data c.args.call.now) c.requires.touched c.in-Fetch.ticket (search rules)

pub note-requires-then-not-is_prior-clause-own : goal.note-requires-then-not-is_prior-clause-own
note-requires-then-not-is_prior-clause-own g c = own_asked _ _ _ _ _ c.caller-caller.ensures

pub returns-in-Done-clause-went : goal.returns-in-Done-clause-went
returns-in-Done-clause-went g c =
    let is : Some (Called c.caller-caller.result (call_data c.args.call.now) c.args.now c.in-Done.reply c.args.value.now) ≡ event_of (g.S.Stage.number c.args.stage.now) (call_data c.args.call.now) c.args.now c.args.prior c.args.step c.args.value.now = search rules in
    went_step (g.S.Stage.front c.args.stage.now) (g.S.Stage.front c.note.new.self) (g.S.Stage.holds c.args.stage.now) (g.S.Stage.number c.args.stage.now) (g.S.Stage.is_desk c.args.stage.now) _ _ is c.note.ensures.noted c.note.ensures.legal

pub returns-in-Refused-clause-went : goal.returns-in-Refused-clause-went
returns-in-Refused-clause-went g c =
    let is : Some (Refused c.caller-caller.result (call_data c.args.call.now) c.args.now c.in-Refused.cause) ≡ event_of (g.S.Stage.number c.args.stage.now) (call_data c.args.call.now) c.args.now c.args.prior c.args.step c.args.value.now = search rules in
    went_step (g.S.Stage.front c.args.stage.now) (g.S.Stage.front c.note-in-Refused.new.self) (g.S.Stage.holds c.args.stage.now) (g.S.Stage.number c.args.stage.now) (g.S.Stage.is_desk c.args.stage.now) _ _ is c.note-in-Refused.ensures.noted c.note-in-Refused.ensures.legal

pub returns-then-not-is_prior-clause-went : goal.returns-then-not-is_prior-clause-went
returns-then-not-is_prior-clause-went g c =
    let is : Some (Asked c.in-Fetch.ticket c.caller-caller.result (call_data c.args.call.now)) ≡ event_of (g.S.Stage.number c.args.stage.now) (call_data c.args.call.now) c.args.now c.args.prior c.args.step c.args.value.now = search rules in
    went_step (g.S.Stage.front c.args.stage.now) (g.S.Stage.front c.note-then-not-is_prior.new.self) (g.S.Stage.holds c.args.stage.now) (g.S.Stage.number c.args.stage.now) (g.S.Stage.is_desk c.args.stage.now) _ _ is c.note-then-not-is_prior.ensures.noted c.note-then-not-is_prior.ensures.legal
