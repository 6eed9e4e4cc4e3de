use Rattle.std.proofs.Common.{◌∙◌, sym, arith}
use Rattle.hash_stripe.specs.Nodes.{is_keyed}
use Rattle.hash_stripe.proofs.TableLemmas.{position-at, position-none}
use Rattle.hash_stripe.proofs.search.slot_of.Goals as goal

pub returns-then-has_key-clause-slot : goal.returns-then-has_key-clause-slot
returns-then-has_key-clause-slot c =
    position-at (is_keyed c.args.key.now) c.args.table.now 0 c.loop-slot.slot c.loop-slot.slot (omega arith) c.loop-slot.invariant (omega arith) (sym c.has_key.ensures ∙ c.if-has_key.true)

pub returns-clause-slot : goal.returns-clause-slot
returns-clause-slot c = position-none (is_keyed c.args.key.now) c.args.table.now 0 (λ k h. c.loop-slot.invariant k (omega arith))
