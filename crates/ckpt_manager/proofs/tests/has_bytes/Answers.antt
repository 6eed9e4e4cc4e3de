use Rattle.std.proofs.Common.{arith}
use Rattle.ckpt_items.specs.Items.{all_items, has_number}
use Rattle.ckpt_manager.proofs.ItemLemmas.{found-key, found-value}
use Rattle.ckpt_manager.proofs.tests.has_bytes.Goals as goal

pub key_to-requires : goal.key_to-requires
key_to-requires c =
    omega (arith, found-key (has_number c.args.item.number) (all_items c.args.items.now) c.free-free.ensures.fit, c.spare.ensures, c.if-spare.false)

pub value_to-requires : goal.value_to-requires
value_to-requires c =
    omega (arith, found-key (has_number c.args.item.number) (all_items c.args.items.now) c.free-free.ensures.fit, found-value (has_number c.args.item.number) (all_items c.args.items.now) c.free-free.ensures.fit, c.spare.ensures, c.if-spare.false, c.key_to.ensures.spare)
