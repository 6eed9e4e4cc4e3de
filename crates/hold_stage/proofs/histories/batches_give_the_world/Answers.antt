use Rattle.hold_stage.proofs.HistoryLemmas.{batch_law}
use Rattle.hold_stage.proofs.histories.batches_give_the_world.Goals as goal

pub returns : goal.returns
returns c = batch_law
