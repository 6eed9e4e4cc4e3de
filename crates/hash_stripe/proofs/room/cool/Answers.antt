use Rattle.std.proofs.Common.{◌∙◌, ap, length, List, arith}
use Rattle.hash_stripe.specs.Nodes.{Slot}
use Rattle.hash_stripe.proofs.RoomLemmas.{cooled-more, cooled-length, cooled-all}
use Rattle.hash_stripe.proofs.room.cool.Goals as goal

pub cool-requires : goal.cool-requires
cool-requires c =
    let same = ap (λ (s : List Slot). length s) c.loop-slot.invariant in
    let len = cooled-length c.args.table.now c.loop-slot.slot in
    omega arith

pub loop-slot-preserved : goal.loop-slot-preserved
loop-slot-preserved c =
    cooled-more c.args.table.now c.loop-slot.table c.cool.new.self c.loop-slot.slot (omega arith) c.loop-slot.invariant c.cool.ensures

pub returns : goal.returns
returns c = c.loop-slot.invariant ∙ cooled-all c.args.table.now c.loop-slot.slot (omega arith)
