use Rattle.hash_stripe.proofs.StripeLemmas.{key-few}
use Rattle.hash_stripe.proofs.stripe.Stripe.key_into.Goals as goal

pub key_into-requires-clause-room : goal.key_into-requires-clause-room
key_into-requires-clause-room c =
    key-few c.self.inside.index c.self.inside.stripes c.self.inside.eviction c.self.inside.mark c.self.inside.table c.args.slot c.self.invariant.nodes
