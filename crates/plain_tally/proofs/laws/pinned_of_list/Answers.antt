use Rattle.plain_tally.proofs.TallyLemmas.{pinned_of_list}
use Rattle.plain_tally.proofs.laws.pinned_of_list.Goals as goal

pub returns : goal.returns
returns c = pinned_of_list
