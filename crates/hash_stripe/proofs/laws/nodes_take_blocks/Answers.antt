use Rattle.hash_stripe.proofs.StripeLemmas.{nodes-few}
use Rattle.hash_stripe.proofs.laws.nodes_take_blocks.Goals as goal

pub returns : goal.returns
returns c = nodes-few
