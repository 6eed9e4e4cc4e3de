use Rattle.std.proofs.Common.{rules, ap, ◌∙◌}
use Rattle.kv_keeper.specs.Rows.{entries_of}
use Rattle.kv_keeper.proofs.RowLemmas.{put-place, put-end, placed}
use Rattle.kv_keeper.proofs.rows.lay.Goals as goal

pub returns-in-Some-clause-rows : goal.returns-in-Some-clause-rows
returns-in-Some-clause-rows c =
    let done =
    put-place c.args.rows.now.items c.args.row c.in-Some.place
    (placed c.args.rows.now.items c.deref.result.now c.args.row.key.items c.deref-2.result.now c.position_of.result _ c.deref.ensures.value c.deref-2.ensures.value c.position_of.ensures.place c.in-Some.is) in
    search rules

pub returns-in-None-clause-rows : goal.returns-in-None-clause-rows
returns-in-None-clause-rows c =
    ap entries_of c.push_reserved.ensures.items
    ∙ put-end c.args.rows.now.items c.args.row
    (placed c.args.rows.now.items c.deref.result.now c.args.row.key.items c.deref-2.result.now c.position_of.result _ c.deref.ensures.value c.deref-2.ensures.value c.position_of.ensures.place c.in-None.is)
