use Rattle.ep_model.specs.History.{call_data}
use Rattle.vb_world.specs.World.{front_in}
use Rattle.vb_front.proofs.ServedLemmas.{tried_underway, has_asked}
use Rattle.vb_front.proofs.tests.generated.Both.tried.Goals as goal

pub returns-clause-served : goal.returns-clause-served
returns-clause-served c =
    let old = c.args.self.now.served in
    tried_underway old.config old.faults old.world c.tried.new.world c.tried.result c.requires.served c.tried.ensures.opened c.tried.ensures.later

pub returns-clause-asked : goal.returns-clause-asked
returns-clause-asked c = λ ticket is.
    has_asked (front_in c.tried.new.world 0) 7 (call_data c.args.call.now) ticket (c.tried.ensures.asked ticket is)
