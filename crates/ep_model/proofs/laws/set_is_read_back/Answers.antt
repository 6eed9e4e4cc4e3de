use Rattle.ep_model.proofs.ReadBackLemmas.{set-read-back, set-keeps-others}
use Rattle.ep_model.proofs.laws.set_is_read_back.Goals as goal

pub returns-clause-read : goal.returns-clause-read
returns-clause-read c = set-read-back

pub returns-clause-others : goal.returns-clause-others
returns-clause-others c = set-keeps-others
