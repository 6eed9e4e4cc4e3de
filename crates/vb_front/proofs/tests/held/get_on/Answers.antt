use Rattle.vb_front.proofs.ShowLemmas.{only_stripe}
use Rattle.vb_front.proofs.tests.held.get_on.Goals as goal

pub read-requires-clause-home : goal.read-requires-clause-home
read-requires-clause-home c = only_stripe _ c.args.part.now.table.stripes c.args.part.now.table.index c.requires.only c.requires.first
