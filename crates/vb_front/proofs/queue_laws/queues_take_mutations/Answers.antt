use Rattle.vb_front.proofs.QueueLemmas.{queue_puts, queue_takes}
use Rattle.vb_front.proofs.queue_laws.queues_take_mutations.Goals as goal

pub returns-clause-events : goal.returns-clause-events
returns-clause-events c = queue_puts

pub returns-clause-calls : goal.returns-clause-calls
returns-clause-calls c = queue_takes
