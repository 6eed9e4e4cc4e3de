use Rattle.turn_stage.specs.Passes.{view_of}
use Rattle.turn_stage.proofs.MadeLemmas.{closed_made}
use Rattle.turn_stage.proofs.tests.close_made.Goals as goal

pub returns-clause-made : goal.returns-clause-made
returns-clause-made c = closed_made (view_of c.args.pass) c.args.first c.args.others.now c.requires.joined c.close.ensures.joined
