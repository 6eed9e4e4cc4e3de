use Rattle.std.proofs.Common.{◌≡◌, arith}
use Rattle.value_pool.proofs.PoolLemmas.{laid_none, laid_more, laid_whole_at, all_parted, all_held}
use Rattle.value_pool.proofs.pool.Pool.new.Goals as goal

pub loop-block-init : goal.loop-block-init
loop-block-init c = laid_none c.in_ok-region.region.items c.in_ok-links.links.items c.in_ok-region.ensures.items c.in_ok-links.ensures.items

pub loop-block-preserved : goal.loop-block-preserved
loop-block-preserved c =
    laid_more c.loop-block.region.items c.push.new.self.items c.loop-block.links.items c.push-in-loop-block.new.self.items c.loop-block.block c.loop-block.invariant c.in_ok-push.ensures.items c.in_ok-push-2.ensures.items

pub invariant_of-result : goal.invariant_of-result
invariant_of-result c =
    let all : c.loop-block.block ≡ c.args.blocks = omega arith in
    all_parted c.loop-block.region.items c.loop-block.links.items c.in_ok-vec.field-0.items c.args.blocks (laid_whole_at c.loop-block.region.items c.loop-block.links.items c.loop-block.block c.args.blocks c.loop-block.invariant all) (c.in_ok-vec.ensures.items_if_clones_equal (λ y h. h)) c.requires

pub returns : goal.returns
returns c = all_held c.loop-block.region.items c.loop-block.links.items c.in_ok-vec.field-0.items c.args.blocks (c.in_ok-vec.ensures.items_if_clones_equal (λ y h. h))
