use Rattle.vb_front.proofs.QueueLemmas.{queue_answers, queue_refuses}
use Rattle.vb_front.proofs.queue_laws.queues_stand_behind_calls.Goals as goal

pub returns-clause-answers : goal.returns-clause-answers
returns-clause-answers c = queue_answers

pub returns-clause-refusals : goal.returns-clause-refusals
returns-clause-refusals c = queue_refuses
