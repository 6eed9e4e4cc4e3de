use Rattle.std.proofs.Common.{ap, ◌∙◌}
use Rattle.flat_parts.specs.Flat.{nodes_data}
use Rattle.flat_parts.proofs.NodeLemmas.{put-place, put-end}
use Rattle.flat_parts.proofs.nodes.put.Goals as goal

pub returns-in-Some : goal.returns-in-Some
returns-in-Some c = put-place c.args.nodes.now.items c.deref.result.now c.deref-2.result.now c.position_of.result c.args.node c.in-Some.place c.deref.ensures.value c.deref-2.ensures.value c.position_of.ensures.place c.in-Some.is

pub returns-in-None : goal.returns-in-None
returns-in-None c =
    ap nodes_data c.push_reserved.ensures.items
    ∙ put-end c.args.nodes.now.items c.deref.result.now c.deref-2.result.now c.position_of.result c.args.node c.deref.ensures.value c.deref-2.ensures.value c.position_of.ensures.place c.in-None.is
