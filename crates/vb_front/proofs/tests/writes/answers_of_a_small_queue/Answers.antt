use Rattle.vb_front.proofs.ShowLemmas.{only_stripe}
use Rattle.vb_front.proofs.tests.writes.answers_of_a_small_queue.Goals as goal

pub read-requires-clause-home : goal.read-requires-clause-home
read-requires-clause-home c = only_stripe _ c.set-crowded.new.part.table.stripes c.set-crowded.new.part.table.index c.set-crowded.ensures.only c.set-crowded.ensures.first
