use Rattle.turn_stage.proofs.StepLemmas.{looks}
use Rattle.turn_stage.proofs.atomic.look.Goals as goal

pub load-requires : goal.load-requires
load-requires g c = (c.requires.board, c.requires.words, looks g.P.Stands.stands g.P.Stands.keeps _ _ 0 _ _ c.requires.rest.live)
