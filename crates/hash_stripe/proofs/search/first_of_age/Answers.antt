use Rattle.std.proofs.Common.{◌∙◌, sym, arith}
use Rattle.hash_stripe.specs.Nodes.{is_victim}
use Rattle.hash_stripe.proofs.TableLemmas.{position-at, position-none}
use Rattle.hash_stripe.proofs.search.first_of_age.Goals as goal

pub returns-then-is_victim-clause-slot : goal.returns-then-is_victim-clause-slot
returns-then-is_victim-clause-slot c =
    position-at (is_victim c.args.mark c.args.key.now c.args.age) c.args.table.now 0 c.loop-slot.slot c.loop-slot.slot (omega arith) c.loop-slot.invariant (omega arith) (sym c.is_victim.ensures ∙ c.if-is_victim.true)

pub returns-clause-slot : goal.returns-clause-slot
returns-clause-slot c = position-none (is_victim c.args.mark c.args.key.now c.args.age) c.args.table.now 0 (λ k h. c.loop-slot.invariant k (omega arith))
