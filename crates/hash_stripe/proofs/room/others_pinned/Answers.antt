use Rattle.std.proofs.Common.{◌<◌, ◌+◌, length, arith}
use Rattle.hash_stripe.proofs.RoomLemmas.{pins-more, pins-few}
use Rattle.hash_stripe.proofs.room.others_pinned.Goals as goal

pub overflow_add-pinned : goal.overflow_add-pinned
overflow_add-pinned c =
    let within : c.loop-slot.slot < length c.args.table.now = (let a = c.loop-slot-test.true in let b = c.count-slot-end.ensures in omega arith) in
    let more = pins-more c.args.eviction c.args.mark c.args.key.now c.args.table.now c.loop-slot.slot c.loop-slot.pinned c.pinned_beside-pinned.result c.loop-slot.invariant within c.pinned_beside-pinned.ensures in
    let few = pins-few c.args.eviction c.args.mark c.args.key.now c.args.table.now (c.loop-slot.slot + 1) (c.loop-slot.pinned + c.pinned_beside-pinned.result) more in
    let free = c.free-free.ensures.free in
    let most = c.free-free.ensures.few in
    omega arith

pub loop-slot-preserved : goal.loop-slot-preserved
loop-slot-preserved c =
    let within : c.loop-slot.slot < length c.args.table.now = (let a = c.loop-slot-test.true in let b = c.count-slot-end.ensures in omega arith) in
    pins-more c.args.eviction c.args.mark c.args.key.now c.args.table.now c.loop-slot.slot c.loop-slot.pinned c.pinned_beside-pinned.result c.loop-slot.invariant within c.pinned_beside-pinned.ensures
