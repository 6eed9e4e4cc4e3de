use Rattle.hold_stage.proofs.HistoryLemmas.{tickets_differ}
use Rattle.hold_stage.proofs.histories.tickets_differ.Goals as goal

pub returns : goal.returns
returns c = tickets_differ
