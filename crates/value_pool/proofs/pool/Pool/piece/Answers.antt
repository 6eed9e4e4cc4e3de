use Rattle.std.proofs.Common.{◌≡◌, ◌+◌, ◌-◌, ◌*◌, ℕ, length, drop, sym, ap, ◌∙◌, arith}
use Rattle.std.proofs.lemmas.List.{drop-drop, length-drop}
use Rattle.value_pool.proofs.TextLemmas.{some_unless}
use Rattle.value_pool.specs.Pools.{bytes_at}
use Rattle.value_pool.proofs.pool.Pool.piece.Goals as goal

pub loop-step-preserved : goal.loop-step-preserved
loop-step-preserved c =
    let next : 128 * c.loop-step._step + 128 ≡ 128 * (c.loop-step._step + 1) = omega arith in
    c.next_piece.ensures.rest
    ∙ ap (drop 128) c.loop-step.invariant
    ∙ drop-drop 128 (128 * c.loop-step._step) (bytes_at c.args.self.now c.args.chain.now)
    ∙ ap (λ (n : ℕ). drop n (bytes_at c.args.self.now c.args.chain.now)) next

pub unwrap-requires : goal.unwrap-requires
unwrap-requires c =
    some_unless c.next_piece-2.result (λ none.
    let over : length (bytes_at c.args.self.now c.args.chain.now) - 128 * c.loop-step._step ≡ 0 =
    sym (length-drop (128 * c.loop-step._step) (bytes_at c.args.self.now c.args.chain.now))
    ∙ ap length (sym c.loop-step.invariant ∙ c.next_piece-2.ensures.end.0 none) in
    omega arith)
