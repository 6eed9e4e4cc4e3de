use Rattle.std.proofs.Common.{refl}
use Rattle.vb_world.proofs.StageLemmas.{give_fixed, give_front, give_held, give_tells}
use Rattle.vb_world.proofs.stage.WorldStageStage.give.Goals as goal

pub returns-clause-stays : goal.returns-clause-stays
returns-clause-stays g c = let s = c.args.self.now in record { lent = refl; fixed = give_fixed s.world.now c.give.new.self s.vb c.args.part c.args.value c.give.ensures.given; number = refl; desk = refl; telling = refl }

pub returns-clause-front : goal.returns-clause-front
returns-clause-front g c = let s = c.args.self.now in give_front s.world.now c.give.new.self s.vb c.args.part c.args.value c.give.ensures.given

pub returns-clause-held : goal.returns-clause-held
returns-clause-held g c = let s = c.args.self.now in give_held s.world.now c.give.new.self s.vb s.caller c.args.part c.args.value g.P.Stands.stands c.give.ensures.was_sound c.requires.held c.give.ensures.given

pub returns-clause-tells : goal.returns-clause-tells
returns-clause-tells g c = let s = c.args.self.now in λ telling p here. give_tells s.world.now c.give.new.self s.vb s.caller c.args.part c.args.value g.P.Stands.stands c.give.ensures.was_sound c.requires.held c.give.ensures.given p
