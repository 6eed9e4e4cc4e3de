use Rattle.std.proofs.Common.{refl}
use Rattle.vb_front.proofs.ServedLemmas.{underway_later}
use Rattle.vb_front.proofs.tests.generated.Both.goes_alike.Goals as goal

pub returns-in-2 : goal.returns-in-2
returns-in-2 c =
    let served = c.args.self.now.served in
    record {
      served = λ is. underway_later served.config served.config served.faults served.faults served.world served.world c.eject.new.world c.requires.served refl refl (c.eject.ensures.opened is) (c.eject.ensures.later is);
    }
