use Rattle.mcbp_frame.proofs.DivisionLemmas.{rest_of}
use Rattle.mcbp_frame.proofs.laws.rest_is_of_a_kind.Goals as goal

pub returns : goal.returns
returns c = λ text frames rest d. rest_of d
