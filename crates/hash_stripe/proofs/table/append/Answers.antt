use Rattle.std.proofs.Common.{ℕ, ◌≤◌, List, length, sym, subst}
use Rattle.hash_stripe.proofs.TableLemmas.{piece-fits, piece-more, piece-less}
use Rattle.hash_stripe.proofs.table.append.Goals as goal

pub push-requires : goal.push-requires
push-requires c =
    piece-fits c.loop-piece.out.bytes c.loop-piece.pieces c.args.out.now.bytes c.pieces-pieces.result c.in-Some.piece.now c.loop-piece.out.spare c.args.out.now.spare c.loop-piece.invariant.0 c.loop-piece.invariant.1
    (subst (λ (x : List ℕ). length x ≤ c.args.out.now.spare) (sym c.pieces-pieces.ensures) c.requires) c.in-Some.ensures.piece

pub loop-piece-smaller : goal.loop-piece-smaller
loop-piece-smaller c = piece-less c.next_piece.result c.in-Some.piece c.loop-piece.pieces c.next_piece.new.self c.next_piece.ensures.end c.in-Some.is c.next_piece.ensures.rest

pub loop-piece-preserved : goal.loop-piece-preserved
loop-piece-preserved c =
    piece-more c.loop-piece.out.bytes c.loop-piece.pieces c.args.out.now.bytes c.pieces-pieces.result c.in-Some.piece.now c.next_piece.new.self c.push.new.self.bytes c.loop-piece.out.spare c.args.out.now.spare c.push.new.self.spare c.loop-piece.invariant.0 c.loop-piece.invariant.1 c.in-Some.ensures.piece c.next_piece.ensures.rest c.push.ensures.bytes c.push.ensures.spare
