use Rattle.vb_front.proofs.KeptLemmas.{kept_is_measured, short_is_overfull, short_is_quota}
use Rattle.vb_front.proofs.queue_laws.queues_measure_what_is_kept.Goals as goal

pub returns-clause-kept : goal.returns-clause-kept
returns-clause-kept c = kept_is_measured

pub returns-clause-short : goal.returns-clause-short
returns-clause-short c = short_is_overfull

pub returns-clause-quota : goal.returns-clause-quota
returns-clause-quota c = short_is_quota
