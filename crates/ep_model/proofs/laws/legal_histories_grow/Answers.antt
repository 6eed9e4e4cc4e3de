use Rattle.ep_model.proofs.HistoryLemmas.{legal-push, legal-front, legal-bare}
use Rattle.ep_model.proofs.laws.legal_histories_grow.Goals as goal

pub returns-clause-grow : goal.returns-clause-grow
returns-clause-grow c = legal-push

pub returns-clause-fronts : goal.returns-clause-fronts
returns-clause-fronts c = legal-front

pub returns-clause-bare : goal.returns-clause-bare
returns-clause-bare c = legal-bare
