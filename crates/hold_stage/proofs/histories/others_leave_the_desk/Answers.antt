use Rattle.hold_stage.proofs.HistoryLemmas.{others_leave_desk}
use Rattle.hold_stage.proofs.histories.others_leave_the_desk.Goals as goal

pub returns : goal.returns
returns c = others_leave_desk
