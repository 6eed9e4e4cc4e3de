use Rattle.std.proofs.Common.{rules, ◌∙◌}
use Rattle.turn_stage.proofs.CallLemmas.{tries_at, won_at, won_slot, puts_down_at}
use Rattle.turn_stage.proofs.atomic.take.Goals as goal

pub compare_exchange-requires : goal.compare_exchange-requires
compare_exchange-requires g c = (c.requires.board, c.requires.word, tries_at g.P.Stands.stands g.P.Stands.keeps _ _ c.args.seat.now.me c.args.part c.args.slot c.requires.rest c.requires.slot c.requires.there)

pub exchange-value-requires : goal.exchange-value-requires
exchange-value-requires g c =
    let won = won_at g.P.Stands.stands g.P.Stands.keeps _ c.args.seat.now.me c.compare_exchange.new.seat.me c.args.part c.args.slot c.compare_exchange.result c.requires.slot c.requires.there c.compare_exchange.ensures.2 (c.is_free.ensures.0 (search rules)) in
    (c.compare_exchange.ensures.0 ∙ c.requires.board, won_slot g.P.Stands.stands g.P.Stands.keeps c.args.seat.now.me c.compare_exchange.new.seat.me c.args.part c.args.slot c.requires.slot won)

pub load-requires : goal.load-requires
load-requires g c =
    let won = won_at g.P.Stands.stands g.P.Stands.keeps _ c.args.seat.now.me c.compare_exchange.new.seat.me c.args.part c.args.slot c.compare_exchange.result c.requires.slot c.requires.there c.compare_exchange.ensures.2 (c.is_free.ensures.0 (search rules)) in (
      c.exchange-value.ensures.0 ∙ (c.compare_exchange.ensures.0 ∙ c.requires.board),
      c.requires.word,
      puts_down_at g.P.Stands.stands g.P.Stands.keeps _ _ c.args.seat.now.me c.compare_exchange.new.seat.me c.exchange-value.new.seat.me c.args.part c.args.slot c.requires.rest c.requires.slot won c.exchange-value.ensures.3,
    )
