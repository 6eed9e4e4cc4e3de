use Rattle.vb_front.proofs.BatchLemmas.{queues_hold_batches, queues_hold_numbers}
use Rattle.vb_front.proofs.queue_laws.queues_hold_batches.Goals as goal

pub returns-clause-batches : goal.returns-clause-batches
returns-clause-batches c = queues_hold_batches

pub returns-clause-numbers : goal.returns-clause-numbers
returns-clause-numbers c = queues_hold_numbers
