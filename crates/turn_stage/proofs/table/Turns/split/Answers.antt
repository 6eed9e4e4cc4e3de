use Rattle.std.proofs.Common.{arith, rules}
use Rattle.turn_stage.proofs.RestLemmas.{rests}
use Rattle.turn_stage.proofs.SplitLemmas.{splits}
use Rattle.turn_stage.proofs.table.Turns.split.Goals as goal

pub split_seat-seat-requires : goal.split_seat-seat-requires
split_seat-seat-requires g c =
    let w = c.args.self.now.words in
    let n = c.requires.left in
    let cut = splits g.P.Stands.stands c.args.pass.now.seat.id c.args.pass.now.seat.me.0 (rests c.args.pass.now.seat.me c.args.pass.now.rests).live (omega arith) in
    (c.requires.of.0, omega arith, search rules)
