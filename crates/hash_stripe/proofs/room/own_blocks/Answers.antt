use Rattle.std.proofs.Common.{◌∙◌, sym, arith}
use Rattle.std.specs.Prelude.{Some, None}
use Rattle.hash_stripe.proofs.RoomLemmas.{split-of}
use Rattle.hash_stripe.proofs.room.own_blocks.Goals as goal

pub returns-in-None : goal.returns-in-None
returns-in-None c =
    let split = split-of c.args.key.now c.args.table.now None (sym c.slot_of.ensures.slot ∙ c.in-None.is) c.requires in
    omega arith

pub returns-in-Some : goal.returns-in-Some
returns-in-Some c =
    let split = split-of c.args.key.now c.args.table.now (Some c.in-Some.slot) (sym c.slot_of.ensures.slot ∙ c.in-Some.is) c.requires in
    omega arith
