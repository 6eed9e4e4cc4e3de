use Rattle.std.proofs.Common.{List, ap, ◌∙◌}
use Rattle.flat_parts.specs.declared.data.StripeData.{StripeData}
use Rattle.flat_parts.specs.declared.node.Node.{Node}
use Rattle.flat_parts.specs.Nodes.{node_at}
use Rattle.flat_parts.specs.Flat.{nodes_data}
use Rattle.flat_parts.proofs.NodeLemmas.{node-found}
use Rattle.flat_parts.proofs.stripe.FlatStripe.node.Goals as goal

pub returns : goal.returns
returns c =
    node-found c.deref.result.now c.args.key.now c.node_of.result c.node_of.ensures
    ∙ ap (λ (nodes : List Node). node_at (nodes_data nodes) c.args.key.now) c.deref.ensures.value
    ∙ ap (λ (x : StripeData). node_at x.nodes c.args.key.now) c.self.view_is
