use Rattle.vb_front.proofs.QueueLemmas.{queue_opens, queue_sets}
use Rattle.vb_front.proofs.queue_laws.queues_open_and_set_states.Goals as goal

pub returns-clause-opens : goal.returns-clause-opens
returns-clause-opens c = queue_opens

pub returns-clause-states : goal.returns-clause-states
returns-clause-states c = queue_sets
