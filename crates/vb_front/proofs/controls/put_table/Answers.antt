use Rattle.std.proofs.Common.{sym, ◌∙◌}
use Rattle.vb_front.proofs.EntryLemmas.{entries_more}
use Rattle.vb_front.proofs.controls.put_table.Goals as goal

pub loop-index-preserved : goal.loop-index-preserved
loop-index-preserved c =
    entries_more c.args.table.now c.loop-index.index c.in-Some.uuid c.in-Some.seqno c.loop-index.value c.put_entry.new.value c.args.value.now (sym c.entry.ensures ∙ c.in-Some.is) c.loop-index.invariant c.put_entry.ensures.bytes c.put_entry.ensures.spare
