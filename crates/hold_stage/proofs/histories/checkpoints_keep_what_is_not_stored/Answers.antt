use Rattle.hold_stage.proofs.CheckpointLemmas.{open_is_unstored, kept_are_last}
use Rattle.hold_stage.proofs.histories.checkpoints_keep_what_is_not_stored.Goals as goal

pub returns-clause-unstored : goal.returns-clause-unstored
returns-clause-unstored c = open_is_unstored

pub returns-clause-last : goal.returns-clause-last
returns-clause-last c = kept_are_last
