use Rattle.turn_stage.specs.Passes.{view_of}
use Rattle.turn_stage.proofs.CallLemmas.{tried_grown}
use Rattle.turn_stage.proofs.stage.TurnStageStage.take.Goals as goal

pub returns-clause-grown : goal.returns-clause-grown
returns-clause-grown g c =
    tried_grown g.P.Stands.stands g.P.Stands.keeps (view_of c.args.self.now.pass.now) (view_of c.take.new.pass) c.args.part c.take.result c.take.ensures.taken c.take.ensures.lost
