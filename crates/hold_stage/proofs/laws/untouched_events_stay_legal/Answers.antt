use Rattle.hold_stage.proofs.CallerLemmas.{touches_later, touches_some}
use Rattle.hold_stage.proofs.LegalLemmas.{legal_later}
use Rattle.hold_stage.proofs.laws.untouched_events_stay_legal.Goals as goal

pub returns-clause-touches : goal.returns-clause-touches
returns-clause-touches c = touches_later

pub returns-clause-some : goal.returns-clause-some
returns-clause-some c = touches_some

pub returns-clause-legal : goal.returns-clause-legal
returns-clause-legal c = legal_later
