use Rattle.std.proofs.Common.{ap, ◌∙◌}
use Rattle.turn_stage.specs.declared.data.View.{View}
use Rattle.turn_stage.specs.Slots.{has}
use Rattle.turn_stage.specs.Passes.{view_of}
use Rattle.turn_stage.proofs.PartLemmas.{has_without}
use Rattle.turn_stage.proofs.stage.TurnStageStage.give.Goals as goal

pub returns-clause-held : goal.returns-clause-held
returns-clause-held g c = λ p. ap (λ (v : View). has v.held p) c.give.ensures.given ∙ has_without c.args.part (view_of c.args.self.now.pass.now).held p
