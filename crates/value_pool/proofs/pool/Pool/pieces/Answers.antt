use Rattle.value_pool.proofs.CallLemmas.{road_at, pieces_at}
use Rattle.value_pool.proofs.pool.Pool.pieces.Goals as goal

pub new-requires : goal.new-requires
new-requires c =
    road_at c.self.inside.region.items c.deref.result.now c.self.inside.links.items c.deref-2.result.now c.self.inside.lens.items c.self.inside.first_free c.self.inside.free c.chain.inside.number c.args.self.now c.args.chain.now c.len.result c.self.invariant c.self.view_is c.chain.view_is c.len.ensures c.deref.ensures.value c.deref-2.ensures.value

pub returns : goal.returns
returns c =
    pieces_at c.self.inside.region.items c.deref.result.now c.self.inside.links.items c.deref-2.result.now c.self.inside.lens.items c.self.inside.first_free c.self.inside.free c.chain.inside.number c.args.self.now c.args.chain.now c.len.result c.new.result c.self.invariant c.self.view_is c.chain.view_is c.len.ensures c.deref.ensures.value c.deref-2.ensures.value c.new.ensures
