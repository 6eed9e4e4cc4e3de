use Rattle.ckpt_items.proofs.CallLemmas.{new_stored}
use Rattle.ckpt_items.proofs.items.Items.new.Goals as goal

pub invariant_of-result : goal.invariant_of-result
invariant_of-result c =
    new_stored c.in-Ok.pool c.in_ok-with_capacity.field-0.items c.args.blocks _ c.in-Ok.ensures c.in_ok-with_capacity.ensures.items c.in_ok-with_capacity.ensures.exact c.requires
