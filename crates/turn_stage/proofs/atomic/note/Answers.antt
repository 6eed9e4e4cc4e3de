use Rattle.std.proofs.Common.{rules}
use Rattle.turn_stage.proofs.EventLemmas.{notes}
use Rattle.turn_stage.proofs.atomic.note.Goals as goal

pub fetch_add-requires : goal.fetch_add-requires
fetch_add-requires g c =
    let counts = notes g.P.Stands.stands g.P.Stands.keeps c.args.board.now.table_id.slots c.args.seat.now.id c.args.seat.now.me.0 c.args.seat.now.me.1 g.E.Noting.event c.requires.rest.live c.requires.covered c.requires.may c.requires.own in
    (c.requires.board, c.requires.words, search rules)
