use Rattle.ep_model.specs.History.{event_data}
use Rattle.turn_stage.proofs.table.Turns.note.Given as goal

abbrev pub ghosts-note_named : goal.ghosts-note_named
ghosts-note_named g a = record { event = event_data a._event.now }
