use Rattle.std.proofs.Common.{refl, ◌+◌, ◌%◌, [], ◌∷◌, arith}
use Rattle.turn_stage.proofs.MadeLemmas.{ran_free, ran_busy}
use Rattle.turn_stage.proofs.tests.run.Goals.{then-refuse_at, else-refuse_at}
use Rattle.turn_stage.proofs.tests.run.Goals as goal

pub loop-preserved : goal.loop-preserved
loop-preserved c =
    let most = c.loop.invariant.1 in
    let turns = c.args.turns.now in
    elim c.if-refuse_at.branch [
      | then-refuse_at w ↦ (
        ran_free turns c.args.pass c.loop.pass c.refuse_at.new.pass c.args.first c.loop.calls c.if-refuse_at.calls ((c.args.first + c.loop.calls) % 4 ∷ []) c.from.result c.refuse_at.result refl c.from.ensures w.if-refuse_at.true w.calls-is c.loop.invariant.0 c.refuse_at.ensures.ran,
        (let e = w.calls-is in let n = c.if-calls-eq-CALLS.false in omega arith),
      )
      | else-refuse_at w ↦ (
        ran_busy turns c.args.pass c.loop.pass c.refuse_at.new.pass c.args.first c.loop.calls c.if-refuse_at.calls ((c.args.first + c.loop.calls) % 4 ∷ []) c.from.result c.refuse_at.result w.if-refuse_at.false w.calls-is c.loop.invariant.0 c.refuse_at.ensures.ran,
        (let e = w.calls-is in omega arith),
      )
    ]
