use Rattle.hold_stage.proofs.WentLemmas.{went_behind, went_before, went_own}
use Rattle.hold_stage.proofs.laws.calls_compose.Goals as goal

pub returns-clause-behind : goal.returns-clause-behind
returns-clause-behind c = went_behind

pub returns-clause-before : goal.returns-clause-before
returns-clause-before c = went_before

pub returns-clause-own : goal.returns-clause-own
returns-clause-own c = went_own
