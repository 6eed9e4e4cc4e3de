use Rattle.std.proofs.Common.{sym, subst}
use Rattle.std.specs.Prelude.{OnErr}
use Rattle.ep_drill.specs.declared.choice.StepChoice.{StepChoice}
use Rattle.ep_drill.specs.Stepped.{Spares, TakesMemory}
use Rattle.ep_drill.proofs.engine.Core.step.Goals as goal

pub returns-in-Front-clause-err : goal.returns-in-Front-clause-err
returns-in-Front-clause-err g c =
    subst (λ (k : StepChoice). OnErr c.front.result (Spares c.args.self.now c.front.new.self × TakesMemory c.args.self.now k)) (sym c.in-Front.is) c.front.ensures.err
