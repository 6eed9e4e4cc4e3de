use Rattle.hold_stage.proofs.GrowsLemmas.{keeps_along}
use Rattle.hold_stage.proofs.WentLemmas.{went_keeps}
use Rattle.hold_stage.proofs.laws.held_parts_stand_on.Goals as goal

pub returns-clause-along : goal.returns-clause-along
returns-clause-along g c = keeps_along g.P.Stands.stands g.P.Stands.keeps

pub returns-clause-went : goal.returns-clause-went
returns-clause-went g c = went_keeps g.P.Stands.stands g.P.Stands.keeps
