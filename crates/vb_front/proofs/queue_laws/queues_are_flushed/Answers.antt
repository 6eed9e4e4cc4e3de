use Rattle.vb_front.proofs.QueueLemmas.{queue_expels, queue_stores, queue_advances, queue_falls_back}
use Rattle.vb_front.proofs.queue_laws.queues_are_flushed.Goals as goal

pub returns-clause-expels : goal.returns-clause-expels
returns-clause-expels c = queue_expels

pub returns-clause-stores : goal.returns-clause-stores
returns-clause-stores c = queue_stores

pub returns-clause-reads : goal.returns-clause-reads
returns-clause-reads c = queue_advances

pub returns-clause-again : goal.returns-clause-again
returns-clause-again c = queue_falls_back
