use Rattle.std.proofs.Common.{◌≤◌, ◌+◌, ◌∙◌, sym, ap, arith}
use Rattle.std.specs.Prelude.{Some, None, Option}
use Rattle.std.specs.Option.{option_copied}
use Rattle.std.specs.Borrow.{Bor}
use Rattle.stored_value.specs.declared.node.Node.{Node}
use Rattle.hash_stripe.specs.Nodes.{slot_blocks}
use Rattle.hash_stripe.proofs.TableLemmas.{blocked, blocked-few, shown}
use Rattle.std.proofs.Common.{ℕ}
use Rattle.hash_stripe.proofs.table.Table.blocks.Goals as goal

pub overflow_add-result : goal.overflow_add-result
overflow_add-result c =
    let few : c.chain_blocks.result + c.value_blocks.result ≤ 16777216 =
    blocked-few c.self.inside.pool c.self.inside.slots c.args.self.now c.args.slot (c.chain_blocks.result + c.value_blocks.result) c.self.invariant c.self.view_is
    (blocked c.self.inside.pool.texts c.self.inside.slots c.args.self.now c.args.slot c.node.result c.in-Some.node c.chain_blocks.result c.value_blocks.result c.self.view_is c.node.ensures c.in-Some.is c.chain_blocks.ensures c.value_blocks.ensures) in
    omega arith

pub returns-in-None : goal.returns-in-None
returns-in-None c = record {
  blocks = sym (ap slot_blocks (shown c.self.inside.pool.texts c.self.inside.slots c.args.self.now c.args.slot None c.self.view_is
      (c.node.ensures ∙ ap (λ (x : Option (Bor (Node ℕ))). Some (option_copied x)) c.in-None.is)));
}

pub returns-in-Some : goal.returns-in-Some
returns-in-Some c = record {
  blocks = blocked c.self.inside.pool.texts c.self.inside.slots c.args.self.now c.args.slot c.node.result c.in-Some.node c.chain_blocks.result c.value_blocks.result c.self.view_is c.node.ensures c.in-Some.is c.chain_blocks.ensures c.value_blocks.ensures;
}
