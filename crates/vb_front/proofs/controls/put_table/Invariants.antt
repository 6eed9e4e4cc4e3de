use Rattle.vb_front.proofs.EntryLemmas.{HasEntries}
use Rattle.vb_front.proofs.controls.put_table.Given as goal

abbrev pub invariant-loop-index : goal.invariant-loop-index
invariant-loop-index l = HasEntries l.table l.index l.value l.initial.value
