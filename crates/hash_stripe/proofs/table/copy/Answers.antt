use Rattle.std.proofs.Common.{ℕ, ◌+◌, ◌≤◌, List, length, refl, sym, subst, rules}
use Rattle.hash_stripe.proofs.TableLemmas.{copied-fits, copied-more, piece-less}
use Rattle.hash_stripe.proofs.table.copy.Goals as goal

pub write_at-requires : goal.write_at-requires
write_at-requires c =
    copied-fits c.loop-piece.at c.loop-piece.into c.loop-piece.pieces c.args.into.now c.pieces-pieces.result c.in-Some.piece.now c.loop-piece.invariant c.in-Some.ensures.piece
    (subst (λ (x : List ℕ). length x ≤ 250) (sym c.pieces-pieces.ensures) c.requires)

pub loop-piece-smaller : goal.loop-piece-smaller
loop-piece-smaller c = piece-less c.next_piece.result c.in-Some.piece c.loop-piece.pieces c.next_piece.new.self c.next_piece.ensures.end c.in-Some.is c.next_piece.ensures.rest

pub loop-piece-preserved : goal.loop-piece-preserved
loop-piece-preserved c =
    let copied = copied-more c.loop-piece.at (c.loop-piece.at + length c.in-Some.piece.now) c.loop-piece.into c.loop-piece.pieces c.args.into.now c.pieces-pieces.result c.in-Some.piece.now c.next_piece.new.self c.write_at.new.into c.loop-piece.invariant
    (subst (λ (x : List ℕ). length x ≤ 250) (sym c.pieces-pieces.ensures) c.requires)
    c.in-Some.ensures.piece c.next_piece.ensures.rest refl c.write_at.ensures in
    search rules
