use Rattle.std.proofs.Common.{◌<◌, ◌+◌, length, arith}
use Rattle.hash_stripe.specs.Nodes.{others_blocks}
use Rattle.hash_stripe.proofs.RoomLemmas.{made-more}
use Rattle.hash_stripe.proofs.room.make_room.Goals as goal

pub loop-eviction-smaller : goal.loop-eviction-smaller
loop-eviction-smaller c =
    let split = c.loop-eviction.invariant.split in
    let short : length c.loop-eviction.table < others_blocks c.args.key.now c.loop-eviction.table + c.args.need = omega arith in
    (made-more c.args.eviction c.args.mark c.args.key.now c.args.need c.args.own c.args.table.now c.loop-eviction.table c.eject.new.table c.victim.result c.in-Some.slot c.loop-eviction.invariant short c.victim.ensures.slot c.in-Some.is c.eject.ensures).1

pub loop-eviction-preserved : goal.loop-eviction-preserved
loop-eviction-preserved c =
    let split = c.loop-eviction.invariant.split in
    let short : length c.loop-eviction.table < others_blocks c.args.key.now c.loop-eviction.table + c.args.need = omega arith in
    (made-more c.args.eviction c.args.mark c.args.key.now c.args.need c.args.own c.args.table.now c.loop-eviction.table c.eject.new.table c.victim.result c.in-Some.slot c.loop-eviction.invariant short c.victim.ensures.slot c.in-Some.is c.eject.ensures).0
