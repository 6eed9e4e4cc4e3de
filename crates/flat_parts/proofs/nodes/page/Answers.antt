use Rattle.std.proofs.Common.{arith}
use Rattle.std.proofs.lemmas.List.{length-map}
use Rattle.flat_parts.specs.Flat.{node_data, nodes_data}
use Rattle.flat_parts.proofs.NodeLemmas.{paged-more, paged-all}
use Rattle.flat_parts.proofs.nodes.page.Goals as goal

pub loop-index-preserved : goal.loop-index-preserved
loop-index-preserved c =
    paged-more c.args.mark (nodes_data c.args.nodes.now.items) c.loop-index.nodes.items c.loop-index.index c.loop-index.used c.loop-index.ejects c.index_mut-node.result.now c.eject.new.self c.eject.result c.blocks-in-loop-index.result c.from-ejects.result c.saturating_add-used.result
    (omega (arith, c.args.nodes.now.ok.0, c.loop-index.invariant.same_length, length-map c.args.nodes.now.items node_data)) c.index_mut-node.ensures.value c.eject.ensures.node c.eject.ensures.ejects c.blocks-in-loop-index.ensures c.saturating_add-used.ensures c.from-ejects.ensures c.loop-index.invariant

pub returns-clause-nodes : goal.returns-clause-nodes
returns-clause-nodes c =
    (paged-all c.args.mark (nodes_data c.args.nodes.now.items) c.loop-index.nodes.items c.loop-index.index c.loop-index.used c.loop-index.ejects (omega (arith, c.args.nodes.now.ok.0, c.loop-index.invariant.same_length, length-map c.args.nodes.now.items node_data)) c.loop-index.invariant).0

pub returns-clause-used : goal.returns-clause-used
returns-clause-used c =
    (paged-all c.args.mark (nodes_data c.args.nodes.now.items) c.loop-index.nodes.items c.loop-index.index c.loop-index.used c.loop-index.ejects (omega (arith, c.args.nodes.now.ok.0, c.loop-index.invariant.same_length, length-map c.args.nodes.now.items node_data)) c.loop-index.invariant).1
