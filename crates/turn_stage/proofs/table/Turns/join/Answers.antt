use Rattle.std.proofs.Common.{ap, ◌∙◌, arith, rules}
use Rattle.atomic_table.specs.Table.{Me}
use Rattle.turn_stage.proofs.RestLemmas.{rests}
use Rattle.turn_stage.proofs.SplitLemmas.{joins}
use Rattle.turn_stage.proofs.StepLemmas.{tells}
use Rattle.turn_stage.proofs.table.Turns.join.Goals as goal

pub join_seat-requires : goal.join_seat-requires
join_seat-requires g c =
    let w = c.args.self.now.words in
    let mine = rests c.args.pass.now.seat.me c.args.pass.now.rests in
    let theirs = rests c.args.other.seat.me c.args.other.rests in
    let both = joins g.P.Stands.stands c.args.pass.now.seat.id c.args.pass.now.seat.me.0 c.args.other.seat.id c.args.other.seat.me.0 mine.live theirs.live c.requires.none.0 c.requires.none.1 in
    (c.requires.of.0.0, c.requires.of.1.0, theirs.carried, omega arith, search rules)

pub load-requires : goal.load-requires
load-requires g c =
    let w = c.args.self.now.words in
    let mine = rests c.args.pass.now.seat.me c.args.pass.now.rests in (
      c.join_seat.ensures.0 ∙ c.requires.of.0.0,
      omega arith,
      tells g.P.Stands.stands g.P.Stands.keeps _ c.join_seat.new.seat.id 0 c.join_seat.new.seat.me.0 c.join_seat.new.seat.me.1 (ap (λ (m : Me _ _). m.0.live) c.join_seat.ensures.2 ∙ mine.live),
    )
