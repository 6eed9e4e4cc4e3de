use Rattle.std.proofs.Common.{length, ap, arith}
use Rattle.std.proofs.lemmas.List.{length-take, length-drop}
use Rattle.std.proofs.lemmas.Bool.{true≢false}
use Rattle.value_pool.specs.Pools.{bytes_at}
use Rattle.value_pool.proofs.TextLemmas.{some_len}
use Rattle.ckpt_items.proofs.CallLemmas.{appending_more}
use Rattle.ckpt_items.proofs.bytes.append.Goals as goal

pub push-requires : goal.push-requires
push-requires c =
    omega (arith, ap length c.in-Some.ensures.piece, length-take 128 c.loop-piece.pieces, c.loop-piece.invariant.fits)

pub loop-piece-smaller : goal.loop-piece-smaller
loop-piece-smaller c =
    let some = some_len c.loop-piece.pieces (λ e. true≢false (c.in-Some.ensures.end.1 e)) in
    omega (arith, length-drop 128 c.loop-piece.pieces, ap length c.in-Some.ensures.rest)

pub loop-piece-preserved : goal.loop-piece-preserved
loop-piece-preserved c =
    appending_more c.args.out.now (bytes_at c.args.pool.now c.args.chain.now) c.loop-piece.out c.push.new.self c.loop-piece.pieces c.in-Some.piece.now c.next_piece.new.self c.loop-piece.invariant c.in-Some.ensures.piece c.in-Some.ensures.rest c.push.ensures.bytes c.push.ensures.spare
