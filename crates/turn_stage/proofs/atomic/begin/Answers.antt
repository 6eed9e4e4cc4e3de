use Rattle.turn_stage.proofs.EventLemmas.{begins}
use Rattle.turn_stage.proofs.atomic.begin.Goals as goal

pub load-requires : goal.load-requires
load-requires g c = (c.requires.board, c.requires.words, begins g.P.Stands.stands g.P.Stands.keeps _ _ _ _ g.B.Beginning.start c.requires.rest.live c.requires.none c.requires.desk c.requires.all)
