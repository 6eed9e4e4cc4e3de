use Rattle.std.proofs.Common.{leb, leb-true, leb-false, arith, rules}
use Rattle.std.proofs.lemmas.List.Sorted.{IsPartitionPoint-from_clause, IsPartitionedBy-leb}
use Rattle.ckpt_items.specs.declared.item.Item.{Item}
use Rattle.ckpt_items.proofs.StoredLemmas.{rising_order}
use Rattle.ckpt_items.proofs.search.up_to.Goals as goal

pub returns-clause-before : goal.returns-clause-before
returns-clause-before c =
    let parted = IsPartitionedBy-leb (λ (i : Item). i.meta.seqno) _ c.args.seqno (rising_order c.args.items.now.items c.requires) in
    let point = IsPartitionPoint-from_clause (λ (i : Item). leb i.meta.seqno c.args.seqno) _ _ c.partition_point.ensures.partitioned parted (λ a r q k. search rules) in
    λ k d h. leb-true _ _ (point.0 k d (omega arith) h)

pub returns-clause-behind : goal.returns-clause-behind
returns-clause-behind c =
    let parted = IsPartitionedBy-leb (λ (i : Item). i.meta.seqno) _ c.args.seqno (rising_order c.args.items.now.items c.requires) in
    let point = IsPartitionPoint-from_clause (λ (i : Item). leb i.meta.seqno c.args.seqno) _ _ c.partition_point.ensures.partitioned parted (λ a r q k. search rules) in
    λ k d l h. leb-false _ _ (point.1 k d l h)
