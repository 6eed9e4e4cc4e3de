use Rattle.hash_stripe.proofs.KeyLemmas.{slot-keyed, key-slot, slots-apart}
use Rattle.hash_stripe.proofs.laws.slots_are_keywise.Goals as goal

pub returns-clause-nodes : goal.returns-clause-nodes
returns-clause-nodes c = slot-keyed

pub returns-clause-keys : goal.returns-clause-keys
returns-clause-keys c = key-slot

pub returns-clause-apart : goal.returns-clause-apart
returns-clause-apart c = slots-apart
