use Rattle.std.proofs.Common.{refl, subst, sym}
use Rattle.ep_model.specs.declared.data.FrontData.{FrontData}
use Rattle.vb_world.specs.World.{front_in}
use Rattle.vb_world.proofs.StageLemmas.{grown_same, take_fixed, take_front, take_tells, take_held, take_taken}
use Rattle.vb_world.proofs.stage.WorldStageStage.take.Goals as goal

pub returns-clause-stays : goal.returns-clause-stays
returns-clause-stays g c =
    let s = c.args.self.now in let t = c.take.ensures in
    record { lent = refl; fixed = take_fixed s.world.now c.take.new.self s.vb s.caller c.args.part c.take.result t.out t.lost; number = refl; desk = refl; telling = refl }

pub returns-clause-grown : goal.returns-clause-grown
returns-clause-grown g c =
    let s = c.args.self.now in let t = c.take.ensures in
    grown_same (front_in s.world.now s.vb) (front_in c.take.new.self s.vb) _ s.caller _ (take_front s.world.now c.take.new.self s.vb s.caller c.args.part c.take.result t.out t.lost)

pub returns-clause-kept : goal.returns-clause-kept
returns-clause-kept g c =
    let s = c.args.self.now in let t = c.take.ensures in
    λ p x held stands. subst (λ (f : FrontData). g.P.Stands.stands p f x) (sym (take_front s.world.now c.take.new.self s.vb s.caller c.args.part c.take.result t.out t.lost)) stands

pub returns-clause-taken : goal.returns-clause-taken
returns-clause-taken g c =
    let s = c.args.self.now in let t = c.take.ensures in
    take_taken s.world.now c.take.new.self s.vb s.caller c.args.part c.take.result g.P.Stands.stands t.was_sound t.taken t.out t.busy t.lost

pub returns-clause-held : goal.returns-clause-held
returns-clause-held g c =
    let s = c.args.self.now in let t = c.take.ensures in
    take_held s.world.now c.take.new.self s.vb s.caller c.args.part c.take.result g.P.Stands.stands t.was_sound c.requires.there t.taken t.out t.lost

pub returns-clause-tells : goal.returns-clause-tells
returns-clause-tells g c =
    let s = c.args.self.now in let t = c.take.ensures in
    λ telling p here. take_tells s.world.now c.take.new.self s.vb s.caller c.args.part c.take.result g.P.Stands.stands t.was_sound c.requires.there t.taken t.out t.away t.lost p

pub returns-clause-alone : goal.returns-clause-alone
returns-clause-alone g c =
    let s = c.args.self.now in let t = c.take.ensures in
    λ telling. take_front s.world.now c.take.new.self s.vb s.caller c.args.part c.take.result t.out t.lost
