-- What is written stands behind what is held.
use Rattle.std.proofs.Common.{◌≡◌, ℕ, ◌+◌, ◌-◌, List, ◌++◌, take, drop, refl, sym, ap, ◌∙◌, arith}
use Rattle.std.specs.Vec.{with_items}
use Rattle.std.proofs.lemmas.List.{length-take-le, with_items_is}
use Rattle.mcbp_frame.specs.declared.feeder.FeederData.{FeederData}
use Rattle.mcbp_frame.proofs.HeldBytesLemmas.{held-write}
use Rattle.mcbp_frame.proofs.feeder.Feeder.feed.Goals as goal

pub returns-clause-rest : goal.returns-clause-rest
returns-clause-rest c =
    let b = c.self.inside.buffer in
    let moved = with_items b c.make_way-start.new.buffer in
    let front = with_items_is b c.make_way-start.new.buffer (omega arith) in
    let start = c.make_way-start.result.0 in
    let end = c.make_way-start.result.1 in
    let piece = take c.min-taken.result c.args.piece.now in
    let written = with_items_is moved c.write_at.new.buffer (omega arith) in
    let n = length-take-le c.min-taken.result c.args.piece.now (omega arith) in
    let all = held-write moved.items piece start end c.min-taken.result (sym n) c.make_way-start.ensures.ordered (omega arith) in
    let rest = ap (λ (f : FeederData). f.rest) c.self.view_is in
    let kept = ap (λ (xs : List ℕ). take (end - start) (drop start xs)) front ∙ c.make_way-start.ensures.same ∙ rw c.deref_mut.ensures.value rest in
    ap (λ (xs : List ℕ). take (end + c.min-taken.result - start) (drop start xs)) (written ∙ c.write_at.ensures ∙ rw c.deref_mut-2.ensures.value refl)
    ∙ all ∙ ap (λ (xs : List ℕ). xs ++ piece) kept
