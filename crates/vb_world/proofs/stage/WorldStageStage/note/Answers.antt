use Rattle.ep_model.specs.History.{event_data}
use Rattle.vb_world.proofs.StageLemmas.{held_within, note_noted, note_front}
use Rattle.hold_stage.proofs.CallerLemmas.{touches_some}
use Rattle.vb_world.proofs.stage.WorldStageStage.note.Goals as goal

pub note-requires-clause-vb : goal.note-requires-clause-vb
note-requires-clause-vb g c =
    let s = c.args.self.now in
    held_within touches_some s.world.now s.vb s.caller (event_data c.args.event.now) c.requires.covered

pub returns-clause-noted : goal.returns-clause-noted
returns-clause-noted g c =
    let s = c.args.self.now in
    note_noted s.world.now c.note.new.self s.vb s.caller (event_data c.args.event.now) _ _ g.P.Stands.stands g.P.Stands.keeps c.note.ensures.was_sound c.note.ensures.noted c.requires.may

pub returns-clause-alone : goal.returns-clause-alone
returns-clause-alone g c =
    let s = c.args.self.now in
    λ telling. note_front s.world.now c.note.new.self s.vb (event_data c.args.event.now) _ _ c.note.ensures.noted
