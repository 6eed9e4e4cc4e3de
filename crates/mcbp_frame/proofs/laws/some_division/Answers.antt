use Rattle.mcbp_frame.proofs.DivisionLemmas.{some_division}
use Rattle.mcbp_frame.proofs.laws.some_division.Goals as goal

pub returns : goal.returns
returns c = some_division
