use Rattle.mcbp_frame.proofs.DivisionLemmas.{divides-append}
use Rattle.mcbp_frame.proofs.laws.division_goes_on.Goals as goal

pub returns : goal.returns
returns c = λ text more frames later rest rest' d e. divides-append more d e
