use Rattle.hash_stripe.proofs.KeyLemmas.{ejecting-keywise, placing-keywise, restoring-keywise, heating-keywise, dropping-keywise, cooling-keywise}
use Rattle.hash_stripe.proofs.laws.calls_are_keywise.Goals as goal

pub returns-clause-ejecting : goal.returns-clause-ejecting
returns-clause-ejecting c = ejecting-keywise

pub returns-clause-placing : goal.returns-clause-placing
returns-clause-placing c = placing-keywise

pub returns-clause-restoring : goal.returns-clause-restoring
returns-clause-restoring c = restoring-keywise

pub returns-clause-heating : goal.returns-clause-heating
returns-clause-heating c = heating-keywise

pub returns-clause-dropping : goal.returns-clause-dropping
returns-clause-dropping c = dropping-keywise

pub returns-clause-cooling : goal.returns-clause-cooling
returns-clause-cooling c = cooling-keywise
