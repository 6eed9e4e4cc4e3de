use Rattle.hold_stage.proofs.HistoryLemmas.{upto_stays, docs_stay, no_docs_stay}
use Rattle.hold_stage.proofs.histories.numbers_keep_their_worlds.Goals as goal

pub returns-clause-stays : goal.returns-clause-stays
returns-clause-stays c = upto_stays

pub returns-clause-docs : goal.returns-clause-docs
returns-clause-docs c = docs_stay

pub returns-clause-none : goal.returns-clause-none
returns-clause-none c = no_docs_stay
