use Rattle.std.proofs.Common.{◌≡◌, rules}
use Rattle.vb_world.specs.World.{front_in}
use Rattle.vb_front.proofs.ServedLemmas.{next_fault, underway_failed}
use Rattle.vb_front.proofs.tests.generated.Both.fail.Goals as goal

pub fail-requires-clause-once : goal.fail-requires-clause-once
fail-requires-clause-once c =
    let served = c.noted.new.self.served in
    let old = c.args.self.now.served in
    let same : served.faults ≡ old.faults = search rules in
    let front : front_in served.world 0 ≡ front_in old.world 0 = search rules in
    next_fault old.config old.faults served.faults old.world served.world c.requires.served same front

pub returns-clause-served : goal.returns-clause-served
returns-clause-served c = λ is.
    let served = c.noted.new.self.served in
    let old = c.args.self.now.served in
    let same : served.faults ≡ old.faults = search rules in
    let front : front_in served.world 0 ≡ front_in old.world 0 = search rules in
    underway_failed old.config served.config old.faults served.faults old.world served.world c.fail.new.world c.requires.served same front (c.fail.ensures.opened is) (c.fail.ensures.faults is)
