use Rattle.std.proofs.Common.{length, ap, sym, ◌∙◌, arith}
use Rattle.std.proofs.lemmas.List.{length-take, length-drop}
use Rattle.value_pool.proofs.TextLemmas.{same_apart, same_next, some_len, ne_apart, ne_same}
use Rattle.std.proofs.lemmas.Bool.{true≢false, false≢true}
use Rattle.value_pool.proofs.pieces.is_text.Goals as goal

pub split_at-requires : goal.split_at-requires
split_at-requires c =
    omega (arith, ap length c.in-Some.ensures.piece, length-take 128 c.loop-piece.pieces, c.loop-piece.invariant.lengths)

pub returns-then-ne : goal.returns-then-ne
returns-then-ne c =
    let apart = ne_apart c.split_at.result.0.now c.in-Some.piece.now c.ne.result c.ne.ensures c.if-ne.true in
    let n = ap length c.in-Some.ensures.piece in (
      λ h. absurd (false≢true h),
      λ e. absurd (same_apart c.args.pieces c.args.bytes.now c.loop-piece.pieces c.loop-piece.rest.now (length c.in-Some.piece.now) c.loop-piece.invariant n (λ f. apart (c.split_at.ensures.front ∙ f ∙ sym c.in-Some.ensures.piece)) e),
    )

pub loop-piece-smaller : goal.loop-piece-smaller
loop-piece-smaller c =
    let some = some_len c.loop-piece.pieces (λ e. true≢false (c.in-Some.ensures.end.1 e)) in
    omega (arith, length-drop 128 c.loop-piece.pieces, ap length c.in-Some.ensures.rest)

pub loop-piece-preserved : goal.loop-piece-preserved
loop-piece-preserved c =
    let same = ne_same c.split_at.result.0.now c.in-Some.piece.now c.ne.result c.ne.ensures c.if-ne.false in
    let n = ap length c.in-Some.ensures.piece in
    same_next c.args.pieces c.args.bytes.now c.loop-piece.pieces c.loop-piece.rest.now c.next_piece.new.self c.split_at.result.1.now (length c.in-Some.piece.now) c.loop-piece.invariant n (sym c.split_at.ensures.front ∙ same ∙ c.in-Some.ensures.piece) c.in-Some.ensures.rest c.split_at.ensures.back
