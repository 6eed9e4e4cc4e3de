use Rattle.std.proofs.Common.{◌≤◌, length, arith}
use Rattle.std.specs.Prelude.{Some}
use Rattle.hash_stripe.specs.Nodes.{at}
use Rattle.hash_stripe.specs.Stripes.{key_of}
use Rattle.hash_stripe.proofs.tests.shown.slot.Goals as goal

pub slot-meta-requires : goal.slot-meta-requires
slot-meta-requires c =
    let few : length (key_of (at c.args.stripe.now.slots c.args.slot)) ≤ 250 = c.free-free.ensures.keys (Some c.args.slot) in
    omega arith
