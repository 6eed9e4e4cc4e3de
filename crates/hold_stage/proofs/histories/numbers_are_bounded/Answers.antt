use Rattle.hold_stage.proofs.HistoryLemmas.{legal_is_bounded, numbers_rise, mutations_are_numbered, numbers_stay_within}
use Rattle.hold_stage.proofs.RisesLemmas.{unopened_is_start}
use Rattle.hold_stage.proofs.histories.numbers_are_bounded.Goals as goal

pub returns-clause-bounded : goal.returns-clause-bounded
returns-clause-bounded c = legal_is_bounded

pub returns-clause-rise : goal.returns-clause-rise
returns-clause-rise c = numbers_rise

pub returns-clause-unopened : goal.returns-clause-unopened
returns-clause-unopened c = unopened_is_start

pub returns-clause-numbered : goal.returns-clause-numbered
returns-clause-numbered c = mutations_are_numbered

pub returns-clause-within : goal.returns-clause-within
returns-clause-within c = numbers_stay_within
