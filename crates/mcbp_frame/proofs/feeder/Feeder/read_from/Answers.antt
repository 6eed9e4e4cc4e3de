-- What is read stands behind what is held.
use Rattle.std.proofs.Common.{◌≡◌, ℕ, ◌+◌, ◌-◌, List, ◌++◌, length, take, drop, refl, sym, ap, ◌∙◌, subst, arith}
use Rattle.std.specs.Vec.{with_items}
use Rattle.std.proofs.lemmas.List.{length-take, length-take-le, length-drop, with_items_is}
use Rattle.ep_edge.specs.Edge.{TakesBytes, bytes_read}
use Rattle.mcbp_frame.specs.declared.feeder.FeederData.{FeederData}
use Rattle.mcbp_frame.proofs.DivisionLemmas.{partial_below}
use Rattle.mcbp_frame.proofs.HeldBytesLemmas.{held-read, read_piece, read_count}
use Rattle.mcbp_frame.proofs.feeder.Feeder.read_from.Goals as goal

pub make_way-start-requires-clause-room : goal.make_way-start-requires-clause-room
make_way-start-requires-clause-room g c =
    let b = c.self.inside in
    let below = partial_below c.args.self.now.rest c.requires.partial in
    omega (arith, ap (λ (f : FeederData). length f.rest) c.self.view_is, length-take (b.end - b.start) (drop b.start b.buffer.items), length-drop b.start b.buffer.items)

pub returns-clause-feeds : goal.returns-clause-feeds
returns-clause-feeds g c =
    let b = c.self.inside.buffer in
    let moved = with_items b c.make_way-start.new.buffer in
    let front = with_items_is b c.make_way-start.new.buffer (omega arith) in
    let start = c.make_way-start.result.0 in
    let end = c.make_way-start.result.1 in
    let n = c.count_of.result in
    let buffer = c.read_at-got.new.buffer in
    let read = with_items_is moved buffer (omega arith) in
    let same = c.read_at-got.ensures.kept ∙ rw c.deref_mut-2.ensures.value refl in
    let rest = ap (λ (f : FeederData). f.rest) c.self.view_is in
    let kept = ap (λ (xs : List ℕ). take (end - start) (drop start xs)) front ∙ c.make_way-start.ensures.same ∙ rw c.deref_mut.ensures.value rest in
    let most = read_count c.read_at-got.result c.args.most c.read_at-got.ensures.count in
    record {
      piece = take n (drop end buffer);
      fed = ap (λ (xs : List ℕ). take (end + n - start) (drop start xs)) read ∙ held-read moved.items buffer start end n c.make_way-start.ensures.ordered same ∙ ap (λ (xs : List ℕ). xs ++ take n (drop end buffer)) kept;
      takes = subst (λ (l : List ℕ). TakesBytes (g.R.Source.left c.args.source.now) (g.R.Source.left c.read_at-got.new.source) l) (read_piece c.read_at-got.result n (drop end buffer) c.count_of.ensures) c.read_at-got.ensures.takes;
      count = length-take-le n (drop end buffer) (omega (arith, length-drop end buffer, c.count_of.ensures)) ∙ c.count_of.ensures;
    }
