use Rattle.plain_tally.proofs.RoomLemmas.{short_at_end, cut_grows}
use Rattle.plain_tally.proofs.laws.events_are_counted_one_by_one.Goals as goal

pub returns-clause-short : goal.returns-clause-short
returns-clause-short c = short_at_end

pub returns-clause-cut : goal.returns-clause-cut
returns-clause-cut c = cut_grows
