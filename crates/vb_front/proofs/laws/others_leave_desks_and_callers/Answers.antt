use Rattle.vb_front.proofs.DeskLemmas.{desks_stand_on, batches_stand_on, priors_stand_on}
use Rattle.vb_front.proofs.laws.others_leave_desks_and_callers.Goals as goal

pub returns-clause-desks : goal.returns-clause-desks
returns-clause-desks c = desks_stand_on

pub returns-clause-batches : goal.returns-clause-batches
returns-clause-batches c = batches_stand_on

pub returns-clause-priors : goal.returns-clause-priors
returns-clause-priors c = priors_stand_on
