use Rattle.hold_stage.proofs.CallerLemmas.{of_one, of_call}
use Rattle.hold_stage.proofs.laws.events_have_one_caller.Goals as goal

pub returns-clause-one : goal.returns-clause-one
returns-clause-one c = of_one

pub returns-clause-call : goal.returns-clause-call
returns-clause-call c = of_call
