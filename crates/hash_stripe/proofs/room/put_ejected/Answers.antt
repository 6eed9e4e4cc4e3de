use Rattle.std.proofs.Common.{arith}
use Rattle.hash_stripe.proofs.RoomLemmas.{empty-slot, no-empty}
use Rattle.hash_stripe.proofs.room.put_ejected.Goals as goal

pub fill_ejected-requires-clause-empty : goal.fill_ejected-requires-clause-empty
fill_ejected-requires-clause-empty c = empty-slot c.args.table.now c.first_empty.result c.in-Some.slot c.first_empty.ensures.slot c.in-Some.is

pub unreachable-requires : goal.unreachable-requires
unreachable-requires c =
    let full = no-empty c.args.table.now c.first_empty.result c.requires.keyed c.first_empty.ensures.slot c.in-None.is in
    let fits = c.requires.fits in
    let key = c.requires.key.0 in
    omega arith
