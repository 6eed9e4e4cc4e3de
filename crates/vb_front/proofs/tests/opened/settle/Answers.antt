use Rattle.fetch_book.specs.declared.place.Outcome.TheVariants.{Merged, Absent, NoRoom}
use Rattle.vb_front.proofs.OpenedLemmas.{stripe_settled}
use Rattle.vb_front.proofs.tests.opened.settle.Goals as goal

pub returns-in_default : goal.returns-in_default
returns-in_default c = λ f not s.
    stripe_settled f c.args.part.now (record { table = c.args.part.now.table; book = c.settle.new.self }) c.args.ticket Absent not (λ _. tt) s.table c.settle.ensures.after s

pub returns-in-None : goal.returns-in-None
returns-in-None c = λ f not s. record { there = s.there; table = c.restore_on.ensures.stands f not s.table; book = s.book }

pub returns-in-Some-true : goal.returns-in-Some-true
returns-in-Some-true c = λ f not s.
    stripe_settled f c.args.part.now (record { table = c.restore_on.new.table; book = c.settle-in-Some-true.new.self }) c.args.ticket Merged not (λ _. tt) (c.restore_on.ensures.stands f not s.table) c.settle-in-Some-true.ensures.after s

pub returns-in-Some-false : goal.returns-in-Some-false
returns-in-Some-false c = λ f not s.
    stripe_settled f c.args.part.now (record { table = c.restore_on.new.table; book = c.settle-in-Some-false.new.self }) c.args.ticket (NoRoom _) not (λ _. tt) (c.restore_on.ensures.stands f not s.table) c.settle-in-Some-false.ensures.after s
