use Rattle.flat_parts.proofs.StripeLemmas.{restored-here}
use Rattle.flat_parts.proofs.stripe.FlatStripe.restore.Goals as goal

pub returns : goal.returns
returns c =
    let fields = c.self.inside in
    restored-here c.args.self.now fields.index fields.nodes.items c.restore.new.nodes.items fields.mark fields.state fields.opened fields.places.items fields.next c.args.key.now c.args.meta c.args.value.items c.requires.node.0 c.self.view_is c.requires.node.1 c.requires.len c.restore.ensures
