use Rattle.turn_stage.proofs.OpenLemmas.{sole_takes}
use Rattle.turn_stage.proofs.laws.a_sole_pass_is_never_busy.Goals as goal

pub returns : goal.returns
returns g c = sole_takes g.P.Stands.stands
