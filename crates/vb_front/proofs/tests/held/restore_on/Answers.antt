use Rattle.vb_front.proofs.OpenedLemmas.{table_put_back}
use Rattle.vb_front.proofs.ShowLemmas.{only_stripe}
use Rattle.vb_front.proofs.tests.held.restore_on.Goals as goal

pub restore-requires-clause-home : goal.restore-requires-clause-home
restore-requires-clause-home c = only_stripe _ c.args.table.now.stripes c.args.table.now.index c.requires.only c.requires.first

pub returns-clause-stands : goal.returns-clause-stands
returns-clause-stands c = λ f not s.
    table_put_back f c.args.table.now c.restore.new.self c.args.key.now c.args.meta c.args.value.now c.restore.result not c.free-free.ensures.sound c.requires.key.0
    (only_stripe _ c.args.table.now.stripes c.args.table.now.index c.requires.only c.requires.first) c.restore.ensures.ok c.restore.ensures.err c.restore.ensures.rest s
