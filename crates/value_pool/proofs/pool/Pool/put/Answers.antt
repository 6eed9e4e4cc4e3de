use Rattle.std.proofs.Common.{◌<◌, length, ap, refl, ◌∙◌, arith, rules}
use Rattle.std.proofs.lemmas.List.{nil_from_length, with_items_is}
use Rattle.value_pool.specs.Pools.{blocks_of}
use Rattle.value_pool.proofs.TextLemmas.{road_here}
use Rattle.value_pool.proofs.WriteLemmas.{written-length}
use Rattle.value_pool.proofs.CallLemmas.{put_none_at, put_road_at, put_parted_at, put_texts_at}
use Rattle.value_pool.proofs.pool.Pool.put.Goals as goal

pub returns-then-len-eq0-clause-puts : goal.returns-then-len-eq0-clause-puts
returns-then-len-eq0-clause-puts c =
    put_none_at c.self.inside.region.items c.self.inside.links.items c.self.inside.lens.items c.self.inside.first_free c.self.inside.free c.args.self.now c.args.bytes.now c.len.result c.self.view_is (nil_from_length c.args.bytes.now c.if-len-eq0.true) (c.len.ensures ∙ c.self.inside.lens.ok.0)

pub write-self-inside-requires : goal.write-self-inside-requires
write-self-inside-requires c =
    put_road_at c.self.inside.region.items c.deref_mut.result.now c.self.inside.links.items c.deref.result.now c.self.inside.lens.items c.args.bytes.now c.self.inside.first_free c.self.inside.free c.blocks-need.result c.self.invariant c.deref_mut.ensures.value c.deref.ensures.value c.blocks-need.ensures (omega arith)

pub index_mut-requires : goal.index_mut-requires
index_mut-requires c =
    let road = put_road_at c.self.inside.region.items c.self.inside.region.items c.self.inside.links.items c.self.inside.links.items c.self.inside.lens.items c.args.bytes.now c.self.inside.first_free c.self.inside.free c.blocks-need.result c.self.invariant refl refl c.blocks-need.ensures (omega arith) in
    let inside : c.self.inside.first_free < length c.self.inside.region.items = road_here c.self.inside.region.items c.self.inside.links.items (length c.args.bytes.now) c.self.inside.first_free road (omega arith) in
    omega (arith, c.self.invariant.lens_len, c.self.inside.lens.ok.0)

pub invariant_of-self : goal.invariant_of-self
invariant_of-self c =
    let len = ap length c.write-self-inside.ensures.region ∙ written-length c.deref_mut.result.now c.deref.result.now (blocks_of (length c.args.bytes.now)) c.self.inside.first_free c.args.bytes.now ∙ c.deref_mut.ensures.len in
    let done = put_parted_at c.self.inside.region.items c.deref_mut.result.now _ c.self.inside.links.items c.deref.result.now c.self.inside.lens.items c.args.bytes.now c.self.inside.first_free c.self.inside.free c.blocks-need.result c.write-self-inside.result c.self.invariant c.deref_mut.ensures.value c.deref.ensures.value c.blocks-need.ensures (omega arith) (omega arith) (with_items_is c.self.inside.region c.write-self-inside.new.region len ∙ c.write-self-inside.ensures.region) c.write-self-inside.ensures.behind in
    search rules

pub returns-clause-puts : goal.returns-clause-puts
returns-clause-puts c =
    let len = ap length c.write-self-inside.ensures.region ∙ written-length c.deref_mut.result.now c.deref.result.now (blocks_of (length c.args.bytes.now)) c.self.inside.first_free c.args.bytes.now ∙ c.deref_mut.ensures.len in
    put_texts_at c.self.inside.region.items c.deref_mut.result.now _ c.self.inside.links.items c.deref.result.now c.self.inside.lens.items c.args.bytes.now c.self.inside.first_free c.self.inside.free c.blocks-need.result c.args.self.now c.self.invariant c.self.view_is c.deref_mut.ensures.value c.deref.ensures.value c.blocks-need.ensures (omega arith) (omega arith) (with_items_is c.self.inside.region c.write-self-inside.new.region len ∙ c.write-self-inside.ensures.region)
