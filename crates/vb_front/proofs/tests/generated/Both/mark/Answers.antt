use Rattle.std.proofs.Common.{◌≡◌, rules}
use Rattle.vb_world.specs.World.{front_in}
use Rattle.vb_front.proofs.ServedLemmas.{underway_later}
use Rattle.vb_front.proofs.tests.generated.Both.mark.Goals as goal

pub returns : goal.returns
returns c = λ is.
    let served = c.marks.new.self.served in
    let old = c.args.self.now.served in
    let same : served.faults ≡ old.faults = search rules in
    let front : front_in served.world 0 ≡ front_in old.world 0 = search rules in
    underway_later old.config served.config old.faults served.faults old.world served.world c.mark.new.world c.requires same front (c.mark.ensures.opened is) (c.mark.ensures.later is)
