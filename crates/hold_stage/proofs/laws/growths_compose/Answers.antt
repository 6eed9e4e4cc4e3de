use Rattle.hold_stage.proofs.GrowsLemmas.{grown_same, grown_then, grown_fewer, grown_own}
use Rattle.hold_stage.proofs.laws.growths_compose.Goals as goal

pub returns-clause-same : goal.returns-clause-same
returns-clause-same c = grown_same

pub returns-clause-then_more : goal.returns-clause-then_more
returns-clause-then_more c = grown_then

pub returns-clause-fewer : goal.returns-clause-fewer
returns-clause-fewer c = grown_fewer

pub returns-clause-own : goal.returns-clause-own
returns-clause-own c = grown_own
