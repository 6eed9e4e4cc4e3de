use Rattle.std.proofs.Common.{◌≡◌, rules}
use Rattle.vb_world.specs.World.{front_in}
use Rattle.vb_front.proofs.ServedLemmas.{underway_later}
use Rattle.vb_front.proofs.tests.generated.Both.persist.Goals as goal

pub returns : goal.returns
returns c = λ is.
    let served = c.keep.new.self.served in
    let old = c.args.self.now.served in
    let same : served.faults ≡ old.faults = search rules in
    let front : front_in served.world 0 ≡ front_in old.world 0 = search rules in
    underway_later old.config served.config old.faults served.faults old.world served.world c.persist.new.world c.requires same front (c.persist.ensures.opened is) (c.persist.ensures.later is)
