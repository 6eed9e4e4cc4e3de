use Rattle.vb_front.proofs.DeskLemmas.{desks_store, desks_fail, batches_stand_above}
use Rattle.vb_front.proofs.laws.desks_stand_behind_their_events.Goals as goal

pub returns-clause-stores : goal.returns-clause-stores
returns-clause-stores c = desks_store

pub returns-clause-fails : goal.returns-clause-fails
returns-clause-fails c = desks_fail

pub returns-clause-batches : goal.returns-clause-batches
returns-clause-batches c = batches_stand_above
