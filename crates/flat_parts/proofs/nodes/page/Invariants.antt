use Rattle.flat_parts.specs.Flat.{nodes_data}
use Rattle.flat_parts.proofs.NodeLemmas.{Paged}
use Rattle.flat_parts.proofs.nodes.page.Given as goal

abbrev pub invariant-loop-index : goal.invariant-loop-index
invariant-loop-index l = Paged l.mark (nodes_data l.initial.nodes.items) l.nodes.items l.index l.used l.ejects
