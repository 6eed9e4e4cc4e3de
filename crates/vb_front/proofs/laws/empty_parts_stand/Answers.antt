use Rattle.vb_front.proofs.EmptyLemmas.{empty_stripes_stand, empty_queues_stand, new_desks_stand}
use Rattle.vb_front.proofs.laws.empty_parts_stand.Goals as goal

pub returns-clause-stripes : goal.returns-clause-stripes
returns-clause-stripes c = empty_stripes_stand

pub returns-clause-queues : goal.returns-clause-queues
returns-clause-queues c = empty_queues_stand

pub returns-clause-desks : goal.returns-clause-desks
returns-clause-desks c = new_desks_stand
