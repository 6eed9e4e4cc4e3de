use Rattle.std.proofs.Common.{◌≡◌, take}
use Rattle.kv_keeper.specs.Rows.{entries_of}
use Rattle.kv_keeper.proofs.rows.copies.Given as goal

abbrev pub invariant-loop-row : goal.invariant-loop-row
invariant-loop-row l = entries_of l.copies.items ≡ entries_of (take l.row-index l.rows)
