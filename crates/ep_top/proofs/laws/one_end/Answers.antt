use Rattle.ep_top.proofs.OneEndLemmas as ends
use Rattle.ep_top.proofs.laws.one_end.Goals as goal

pub returns : goal.returns
returns c = ends.one_end
