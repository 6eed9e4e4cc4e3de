use Rattle.vb_front.proofs.ShowLemmas.{only_stripe}
use Rattle.vb_front.proofs.tests.held.write_on.Goals as goal

pub write-requires-clause-home : goal.write-requires-clause-home
write-requires-clause-home c = only_stripe _ c.args.part.now.table.stripes c.args.part.now.table.index c.requires.only c.requires.first
