use Rattle.hash_stripe.proofs.PinLemmas.{ejecting-pinned, last-pinned}
use Rattle.hash_stripe.proofs.laws.pinned_blocks_stay.Goals as goal

pub returns-clause-keeps : goal.returns-clause-keeps
returns-clause-keeps c = ejecting-pinned

pub returns-clause-leaves : goal.returns-clause-leaves
returns-clause-leaves c = last-pinned
