use Rattle.std.proofs.Common.{refl}
use Rattle.vb_world.proofs.StageLemmas.{all_within, all_away, begin_fixed, begin_begun, begin_front, begin_held, begin_tells}
use Rattle.vb_world.proofs.stage.WorldStageStage.begin.Goals as goal

pub begin-requires-clause-vb : goal.begin-requires-clause-vb
begin-requires-clause-vb g c = let s = c.args.self.now in all_within s.world.now s.vb s.caller c.requires.all

pub begin-requires-clause-away : goal.begin-requires-clause-away
begin-requires-clause-away g c = let s = c.args.self.now in all_away s.world.now s.vb s.caller c.requires.all

pub returns-clause-stays : goal.returns-clause-stays
returns-clause-stays g c = let s = c.args.self.now in record { lent = refl; fixed = begin_fixed s.world.now c.begin.new.self s.vb g.B.Beginning.start c.begin.ensures.begun; number = refl; desk = refl; telling = refl }

pub returns-clause-begun : goal.returns-clause-begun
returns-clause-begun g c =
    let s = c.args.self.now in
    begin_begun s.world.now c.begin.new.self s.vb s.caller g.B.Beginning.start c.begin.ensures.begun (all_within s.world.now s.vb s.caller c.requires.all)

pub returns-clause-held : goal.returns-clause-held
returns-clause-held g c = let s = c.args.self.now in begin_held s.world.now c.begin.new.self s.vb s.caller g.B.Beginning.start c.begin.ensures.begun

pub returns-clause-tells : goal.returns-clause-tells
returns-clause-tells g c = let s = c.args.self.now in λ telling. begin_tells s.world.now c.begin.new.self s.vb g.B.Beginning.start c.begin.ensures.begun

pub returns-clause-alone : goal.returns-clause-alone
returns-clause-alone g c =
    let s = c.args.self.now in
    λ telling. begin_front s.world.now c.begin.new.self s.vb g.B.Beginning.start c.begin.ensures.begun (all_within s.world.now s.vb s.caller c.requires.all)
