use Rattle.mcbp_frame.proofs.DivisionLemmas.{one_division}
use Rattle.mcbp_frame.proofs.laws.one_division.Goals as goal

pub returns : goal.returns
returns c = λ text frames frames' rest rest' d e. one_division d e
