use Rattle.hold_stage.proofs.OwnLemmas.{own_called, own_refused, own_asked}
use Rattle.ep_drill.proofs.tried.note_step.Goals as goal

pub note-requires-clause-own : goal.note-requires-clause-own
note-requires-clause-own g c = own_called _ _ _ _ _ _ _ c.caller-caller.ensures

pub note-requires-in-Refused-clause-own : goal.note-requires-in-Refused-clause-own
note-requires-in-Refused-clause-own g c = own_refused _ _ _ _ _ _ c.caller-caller.ensures

pub note-requires-then-not-is_prior-clause-own : goal.note-requires-then-not-is_prior-clause-own
note-requires-then-not-is_prior-clause-own g c = own_asked _ _ _ _ _ c.caller-caller.ensures
