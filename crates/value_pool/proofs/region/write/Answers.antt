use Rattle.std.proofs.Common.{◌≡◌, ℕ, List, [], length, take, drop, ap, sym, ◌∙◌, subst, arith, slice_set, slice_index_or}
use Rattle.std.proofs.lemmas.List.{take_min, drop_min, nil_from_length}
use Rattle.std.proofs.lemmas.Bool.{eqb-true, eqb-false}
use Rattle.value_pool.specs.Layout.{laid}
use Rattle.value_pool.proofs.TextLemmas.{road_here}
use Rattle.value_pool.proofs.WriteLemmas.{IsWriting, writing_none, writing_more, writing_done}
use Rattle.value_pool.proofs.region.write.Goals as goal

pub bounds-region-block : goal.bounds-region-block
bounds-region-block c =
    let some : length c.loop-rest.rest.now ≡ 0 → ⊥ = eqb-false (length c.loop-rest.rest.now) 0 (sym c.is_empty.ensures ∙ c.loop-rest-test.true) in
    road_here c.loop-rest.region c.args.links.now (length c.loop-rest.rest.now) c.loop-rest.block c.loop-rest.invariant.road (omega arith)

pub bounds-links-block : goal.bounds-links-block
bounds-links-block c =
    let some : length c.loop-rest.rest.now ≡ 0 → ⊥ = eqb-false (length c.loop-rest.rest.now) 0 (sym c.is_empty.ensures ∙ c.loop-rest-test.true) in
    let inside = road_here c.loop-rest.region c.args.links.now (length c.loop-rest.rest.now) c.loop-rest.block c.loop-rest.invariant.road (omega arith) in
    omega (arith, c.loop-rest.invariant.road.links_len)

pub loop-rest-init : goal.loop-rest-init
loop-rest-init c = writing_none c.args.region.now c.args.links.now c.args.first c.args.bytes.now c.requires

pub loop-rest-preserved : goal.loop-rest-preserved
loop-rest-preserved c =
    let some : length c.loop-rest.rest.now ≡ 0 → ⊥ = eqb-false (length c.loop-rest.rest.now) 0 (sym c.is_empty.ensures ∙ c.loop-rest-test.true) in
    let front : c.split_at.result.0.now ≡ take 128 c.loop-rest.rest.now =
    c.split_at.ensures.front ∙ ap (λ (n : ℕ). take n c.loop-rest.rest.now) c.min.ensures ∙ take_min 128 c.loop-rest.rest.now in
    let behind : c.split_at.result.1.now ≡ drop 128 c.loop-rest.rest.now =
    c.split_at.ensures.back ∙ ap (λ (n : ℕ). drop n c.loop-rest.rest.now) c.min.ensures ∙ drop_min 128 c.loop-rest.rest.now in
    let new : slice_set c.loop-rest.region c.loop-rest.block c.lay.new.block ≡ slice_set c.loop-rest.region c.loop-rest.block (laid (take 128 c.loop-rest.rest.now) (slice_index_or c.loop-rest.region c.loop-rest.block [])) =
    ap (λ (ys : List ℕ). slice_set c.loop-rest.region c.loop-rest.block ys) (c.lay.ensures ∙ ap (λ (ys : List ℕ). laid ys (slice_index_or c.loop-rest.region c.loop-rest.block [])) front) in
    let P : List ℕ → Type 0 = λ ys. IsWriting c.args.region.now c.args.links.now c.args.first c.args.bytes.now (slice_set c.loop-rest.region c.loop-rest.block c.lay.new.block) (slice_index_or c.args.links.now c.loop-rest.block 0) ys in
    subst P (sym behind)
    (writing_more c.args.region.now c.args.links.now c.args.first c.args.bytes.now c.loop-rest.region (slice_set c.loop-rest.region c.loop-rest.block c.lay.new.block) c.loop-rest.block c.loop-rest.rest.now
    c.loop-rest.invariant (omega arith) new)

pub returns-clause-region : goal.returns-clause-region
returns-clause-region c =
    let done = writing_done c.args.region.now c.args.links.now c.args.first c.args.bytes.now c.loop-rest.region c.loop-rest.block c.loop-rest.rest.now c.loop-rest.invariant (nil_from_length c.loop-rest.rest.now (eqb-true (length c.loop-rest.rest.now) 0 (sym c.is_empty.ensures ∙ c.loop-rest-test.false))) in
    done.0

pub returns-clause-behind : goal.returns-clause-behind
returns-clause-behind c =
    let done = writing_done c.args.region.now c.args.links.now c.args.first c.args.bytes.now c.loop-rest.region c.loop-rest.block c.loop-rest.rest.now c.loop-rest.invariant (nil_from_length c.loop-rest.rest.now (eqb-true (length c.loop-rest.rest.now) 0 (sym c.is_empty.ensures ∙ c.loop-rest-test.false))) in
    done.1
