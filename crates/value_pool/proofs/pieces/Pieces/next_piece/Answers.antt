use Rattle.std.proofs.Common.{◌≡◌, ◌-◌, ℕ, [], length, take, drop, ap, sym, ◌∙◌, subst, refl, arith, slice_index_or}
use Rattle.value_pool.specs.Pools.{blocks_of}
use Rattle.value_pool.specs.Layout.{text, IsRoad}
use Rattle.value_pool.proofs.TextLemmas.{road_here, road_rest, text_none, text_len, take-text, drop-text}
use Rattle.value_pool.proofs.pieces.Pieces.next_piece.Goals as goal

pub returns-then-self-eq0-clause-end : goal.returns-then-self-eq0-clause-end
returns-then-self-eq0-clause-end c =
    (λ _. sym c.self.view_is ∙ text_none c.self.inside.region.now c.self.inside.links.now c.self.inside.left c.self.inside.block c.if-self-eq0.true, λ _. refl)

pub returns-then-self-eq0-clause-rest : goal.returns-then-self-eq0-clause-rest
returns-then-self-eq0-clause-rest c =
    let none = sym c.self.view_is ∙ text_none c.self.inside.region.now c.self.inside.links.now c.self.inside.left c.self.inside.block c.if-self-eq0.true in
    none ∙ ap (drop 128) (sym none)

pub bounds-self-inside-block : goal.bounds-self-inside-block
bounds-self-inside-block c =
    let inside = road_here c.self.inside.region.now c.self.inside.links.now c.self.inside.left c.self.inside.block c.self.invariant (omega arith) in
    omega (arith, c.self.invariant.links_len)

pub bounds-region-block : goal.bounds-region-block
bounds-region-block c =
    road_here c.self.inside.region.now c.self.inside.links.now c.self.inside.left c.self.inside.block c.self.invariant (omega arith)

pub invariant_of-self : goal.invariant_of-self
invariant_of-self c =
    let left : c.self.inside.left - 128 ≡ c.self.inside.left - c.min-len.result = omega arith in
    let P : ℕ → Type 0 = λ n. IsRoad c.self.inside.region.now c.self.inside.links.now (blocks_of n) (slice_index_or c.self.inside.links.now c.self.inside.block 0) in
    subst P left (road_rest c.self.inside.region.now c.self.inside.links.now c.self.inside.left c.self.inside.block c.self.invariant (omega arith))

pub returns-clause-end : goal.returns-clause-end
returns-clause-end c =
    let len : length (text c.self.inside.region.now c.self.inside.links.now (blocks_of c.self.inside.left) c.self.inside.left c.self.inside.block) ≡ c.self.inside.left = text_len c.self.inside.region.now c.self.inside.links.now c.self.inside.left c.self.inside.block c.self.invariant in
    (λ h. absurd (cc), λ e. absurd (c.if-self-eq0.false (sym len ∙ ap length (c.self.view_is ∙ e))))

pub returns-clause-piece : goal.returns-clause-piece
returns-clause-piece c =
    ap (λ (n : ℕ). take n (slice_index_or c.self.inside.region.now c.self.inside.block [])) c.min-len.ensures
    ∙ sym (take-text c.self.inside.region.now c.self.inside.links.now c.self.inside.left c.self.inside.block c.self.invariant (omega arith))
    ∙ ap (take 128) c.self.view_is

pub returns-clause-rest : goal.returns-clause-rest
returns-clause-rest c =
    let left : c.self.inside.left - c.min-len.result ≡ c.self.inside.left - 128 = omega arith in
    ap (λ (n : ℕ). text c.self.inside.region.now c.self.inside.links.now (blocks_of n) n (slice_index_or c.self.inside.links.now c.self.inside.block 0)) left
    ∙ sym (drop-text c.self.inside.region.now c.self.inside.links.now c.self.inside.left c.self.inside.block c.self.invariant (omega arith))
    ∙ ap (drop 128) c.self.view_is
