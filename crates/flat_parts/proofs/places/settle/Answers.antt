use Rattle.std.proofs.Common.{arith}
use Rattle.flat_parts.specs.Nodes.{settle_place}
use Rattle.flat_parts.specs.Flat.{place_data, places_data}
use Rattle.flat_parts.proofs.ListLemmas.{swept-more}
use Rattle.flat_parts.proofs.PlaceLemmas.{settle-all}
use Rattle.flat_parts.proofs.places.settle.Goals as goal

pub loop-index-preserved : goal.loop-index-preserved
loop-index-preserved c = (
  swept-more place_data (settle_place c.args.number c.args.outcome) c.loop-index.places.items (places_data c.args.places.now.items) c.loop-index.index c.index_mut.result.now c.settle.new.self
      (omega (arith, c.loop-index.places.ok.0, c.loop-index.invariant.1)) c.loop-index.invariant.0 c.index_mut.ensures.value c.settle.ensures,
  c.loop-index.invariant.1,
)

pub returns-clause-places : goal.returns-clause-places
returns-clause-places c =
    settle-all c.args.places.now.items c.loop-index.places.items c.args.number c.loop-index.index c.args.outcome c.loop-index.invariant.0
    (omega (arith, c.args.places.now.ok.0))
