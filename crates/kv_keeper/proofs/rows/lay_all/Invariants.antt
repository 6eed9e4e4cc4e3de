use Rattle.std.proofs.Common.{◌≡◌, ◌+◌, ◌≤◌, vec_len, vec_capacity}
use Rattle.kv_keeper.specs.Batch.{laid}
use Rattle.kv_keeper.specs.Rows.{entries_of, docs_of}
use Rattle.kv_keeper.proofs.rows.lay_all.Given as goal

abbrev pub invariant-loop-row : goal.invariant-loop-row
invariant-loop-row l =
    (vec_len l.rows + vec_len l.more ≤ vec_capacity l.rows)
    × (laid (entries_of l.more.items) (docs_of (entries_of l.rows.items)) ≡ laid (entries_of l.initial.more.items) (docs_of (entries_of l.initial.rows.items)))

abbrev pub decreases-loop-row : goal.decreases-loop-row
decreases-loop-row l = vec_len l.more
