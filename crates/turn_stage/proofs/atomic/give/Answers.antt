use Rattle.std.proofs.Common.{rules}
use Rattle.turn_stage.proofs.CallLemmas.{picks_up_at, gives_at}
use Rattle.turn_stage.proofs.atomic.give.Goals as goal

pub load-requires : goal.load-requires
load-requires g c = (c.requires.board, c.requires.word, picks_up_at g.P.Stands.stands g.P.Stands.keeps _ _ c.args.seat.now.me c.args.part c.args.slot c.requires.rest c.requires.slot c.requires.there c.requires.held)

pub store-requires : goal.store-requires
store-requires g c =
    let gives = gives_at g.P.Stands.stands g.P.Stands.keeps c.args.board.now.table_id.slots c.exchange.new.seat.id c.args.seat.now.me c.load.new.seat.me c.exchange.new.seat.me c.args.part c.args.slot c.args.value c.requires.rest c.requires.slot c.requires.there c.requires.held c.requires.stands c.load.ensures.2 c.exchange.ensures.3 in
    (search rules, c.requires.word, search rules)
