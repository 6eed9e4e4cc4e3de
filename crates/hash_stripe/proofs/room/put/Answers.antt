use Rattle.std.proofs.Common.{◌+◌, length, arith}
use Rattle.std.specs.Prelude.{Some}
use Rattle.value_pool.specs.Pools.{blocks_of}
use Rattle.hash_stripe.proofs.RoomLemmas.{empty-slot, no-empty, clear-room, absent-room, put-there}
use Rattle.hash_stripe.proofs.room.put.Goals as goal

pub fill-requires-clause-room : goal.fill-requires-clause-room
fill-requires-clause-room c =
    clear-room c.args.key.now c.args.table.now c.clear.new.self c.slot_of.result c.in-Some.slot (blocks_of (length c.args.key.now) + blocks_of (length c.args.value.now)) c.requires.apart c.slot_of.ensures.slot c.in-Some.is c.requires.fits c.clear.ensures

pub fill-requires-in-Some-first_empty-clause-empty : goal.fill-requires-in-Some-first_empty-clause-empty
fill-requires-in-Some-first_empty-clause-empty c = empty-slot c.args.table.now c.first_empty.result c.in-Some-first_empty.slot c.first_empty.ensures.slot c.in-Some-first_empty.is

pub fill-requires-in-Some-first_empty-clause-room : goal.fill-requires-in-Some-first_empty-clause-room
fill-requires-in-Some-first_empty-clause-room c = absent-room c.args.key.now c.args.table.now c.slot_of.result (blocks_of (length c.args.key.now) + blocks_of (length c.args.value.now)) c.slot_of.ensures.slot c.in-None.is c.requires.fits

pub unreachable-requires : goal.unreachable-requires
unreachable-requires c =
    let full = no-empty c.args.table.now c.first_empty.result c.requires.keyed c.first_empty.ensures.slot c.in-None-first_empty.is in
    let fits = absent-room c.args.key.now c.args.table.now c.slot_of.result (blocks_of (length c.args.key.now) + blocks_of (length c.args.value.now)) c.slot_of.ensures.slot c.in-None.is c.requires.fits in
    let key = c.requires.key.0 in
    omega arith

pub returns-in-Some : goal.returns-in-Some
returns-in-Some c =
    put-there c.args.table.now c.clear.new.self c.fill.new.self c.slot_of.result c.in-Some.slot
    (record { key = c.args.key.now; meta = c.args.meta; value = Some c.args.value.now; age = 0 })
    c.slot_of.ensures.slot c.in-Some.is c.clear.ensures c.fill.ensures
