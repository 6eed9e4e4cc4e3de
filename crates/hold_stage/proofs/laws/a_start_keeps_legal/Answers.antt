use Rattle.hold_stage.proofs.StartLemmas.{legal_begun}
use Rattle.hold_stage.proofs.laws.a_start_keeps_legal.Goals as goal

pub returns : goal.returns
returns c = legal_begun
