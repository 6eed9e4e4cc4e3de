use Rattle.std.specs.Slots.{slots_items}
use Rattle.turn_stage.proofs.RestLemmas.{rests}
use Rattle.turn_stage.proofs.OpenLemmas.{closes, filled, parted}
use Rattle.turn_stage.proofs.table.Turns.close.Goals as goal

pub taken_out-requires-clause-filled : goal.taken_out-requires-clause-filled
taken_out-requires-clause-filled g c =
    let v = c.args.pass.seat.me.0 in
    let slots = slots_items c.close_with.result.slots in
    filled g.P.Stands.stands v slots (closes g.P.Stands.stands (slots_items c.close_with.result.words) slots c.args.pass.seat.id v (rests c.args.pass.seat.me c.args.pass.rests).live c.requires.alone c.requires.none c.close_with.ensures.values.2)

pub returns-clause-parts : goal.returns-clause-parts
returns-clause-parts g c =
    let v = c.args.pass.seat.me.0 in
    let slots = slots_items c.close_with.result.slots in
    parted g.P.Stands.stands v slots c.taken_out.result.items
    (closes g.P.Stands.stands (slots_items c.close_with.result.words) slots c.args.pass.seat.id v (rests c.args.pass.seat.me c.args.pass.rests).live c.requires.alone c.requires.none c.close_with.ensures.values.2)
    c.taken_out.ensures

pub returns-clause-legal : goal.returns-clause-legal
returns-clause-legal g c =
    let v = c.args.pass.seat.me.0 in
    (closes g.P.Stands.stands (slots_items c.close_with.result.words) (slots_items c.close_with.result.slots) c.args.pass.seat.id v (rests c.args.pass.seat.me c.args.pass.rests).live c.requires.alone c.requires.none c.close_with.ensures.values.2).legal

pub returns-clause-desk : goal.returns-clause-desk
returns-clause-desk g c =
    let v = c.args.pass.seat.me.0 in
    (closes g.P.Stands.stands (slots_items c.close_with.result.words) (slots_items c.close_with.result.slots) c.args.pass.seat.id v (rests c.args.pass.seat.me c.args.pass.rests).live c.requires.alone c.requires.none c.close_with.ensures.values.2).desk

pub returns-clause-joined : goal.returns-clause-joined
returns-clause-joined g c =
    let v = c.args.pass.seat.me.0 in
    (closes g.P.Stands.stands (slots_items c.close_with.result.words) (slots_items c.close_with.result.slots) c.args.pass.seat.id v (rests c.args.pass.seat.me c.args.pass.rests).live c.requires.alone c.requires.none c.close_with.ensures.values.2).ended
