use Rattle.std.proofs.Common.{◌-◌, arith, rules}
use Rattle.value_pool.proofs.CallLemmas.{steps_at, begins_at, take_none_at, take_parted_at, take_texts_at}
use Rattle.value_pool.proofs.pool.Pool.take_back.Goals as goal

pub returns-then-len-eq0 : goal.returns-then-len-eq0
returns-then-len-eq0 c = take_none_at c.args.self.now c.args.chain c.len-len.result c.len-len.ensures c.if-len-eq0.true

pub beyond-last-requires : goal.beyond-last-requires
beyond-last-requires c = λ j below.
    steps_at c.self.inside.region.items c.self.inside.links.items c.deref.result.now c.self.inside.lens.items c.self.inside.first_free c.self.inside.free c.chain.inside.number c.args.self.now c.args.chain c.len-len.result c.blocks-need.result j c.self.invariant c.self.view_is c.chain.view_is c.len-len.ensures c.blocks-need.ensures (omega arith) c.deref.ensures.value (omega arith)

pub index_mut-requires : goal.index_mut-requires
index_mut-requires c =
    let inside = steps_at c.self.inside.region.items c.self.inside.links.items c.deref.result.now c.self.inside.lens.items c.self.inside.first_free c.self.inside.free c.chain.inside.number c.args.self.now c.args.chain c.len-len.result c.blocks-need.result (c.blocks-need.result - 1) c.self.invariant c.self.view_is c.chain.view_is c.len-len.ensures c.blocks-need.ensures (omega arith) c.deref.ensures.value (omega arith) in
    omega (arith, c.beyond-last.ensures, c.deref.ensures.len)

pub index_mut-requires-2 : goal.index_mut-requires-2
index_mut-requires-2 c =
    let inside = begins_at c.self.inside.region.items c.self.inside.links.items c.self.inside.lens.items c.self.inside.first_free c.self.inside.free c.chain.inside.number c.args.self.now c.args.chain c.len-len.result c.self.invariant c.self.view_is c.chain.view_is c.len-len.ensures (omega arith) in
    omega (arith, c.self.inside.lens.ok.0)

pub invariant_of-self : goal.invariant_of-self
invariant_of-self c =
    let done = take_parted_at c.self.inside.region.items c.self.inside.links.items c.deref.result.now c.self.inside.lens.items c.self.inside.first_free c.self.inside.free c.chain.inside.number c.args.self.now c.args.chain c.len-len.result c.blocks-need.result c.beyond-last.result c.self.invariant c.self.view_is c.chain.view_is c.len-len.ensures c.blocks-need.ensures (omega arith) c.deref.ensures.value c.beyond-last.ensures in
    search rules

pub returns : goal.returns
returns c =
    let done = take_texts_at c.self.inside.region.items c.self.inside.links.items c.deref.result.now c.self.inside.lens.items c.self.inside.first_free c.self.inside.free c.chain.inside.number c.args.self.now c.args.chain c.len-len.result c.blocks-need.result c.beyond-last.result c.self.invariant c.self.view_is c.chain.view_is c.len-len.ensures c.blocks-need.ensures (omega arith) c.deref.ensures.value c.beyond-last.ensures in
    search rules
