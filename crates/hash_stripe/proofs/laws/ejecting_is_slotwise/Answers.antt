use Rattle.hash_stripe.proofs.LeftLemmas.{ejecting-left}
use Rattle.hash_stripe.proofs.laws.ejecting_is_slotwise.Goals as goal

pub returns : goal.returns
returns c = ejecting-left
