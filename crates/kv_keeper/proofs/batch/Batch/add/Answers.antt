use Rattle.std.proofs.Common.{◌≡◌, List, length, sym, ap, subst, ◌∙◌}
use Rattle.ep_model.specs.World.{doc_from, Item}
use Rattle.kv_keeper.specs.Batch.{AreDistinct, laid, with_row}
use Rattle.kv_keeper.specs.Rows.{entries_of}
use Rattle.kv_keeper.proofs.BatchLemmas.{laid-with_row, length-with_row, distinct-with_row}
use Rattle.kv_keeper.proofs.RowLemmas.{rows-within, batch-within, batch-distinct, added}
use Rattle.kv_keeper.proofs.batch.Batch.add.Goals as goal

-- the rows after an addition
rows-are : (c : goal.After-lay) → entries_of c.lay.new.rows.items ≡ with_row c.args.self.now.rows c.args.key.now (doc_from c.args.meta c.args.value.now)
rows-are c =
    added c.args.self.now c.self.inside.rows.items c.reserve.new.self.items c.lay.new.rows.items c.self.inside.to c.self.inside.maxcas c.in_ok-row.row c.args.key.now (doc_from c.args.meta c.args.value.now) c.self.view_is c.reserve.ensures.items c.lay.ensures.rows c.in_ok-row.ensures.key c.in_ok-row.ensures.doc

are-distinct : (c : goal.After-lay) → AreDistinct (entries_of c.lay.new.rows.items)
are-distinct c =
    subst AreDistinct (sym (rows-are c))
    (distinct-with_row c.args.self.now.rows c.args.key.now (doc_from c.args.meta c.args.value.now)
    (batch-distinct c.args.self.now c.self.inside.rows.items c.self.inside.to c.self.inside.maxcas c.self.view_is c.self.invariant))

pub returns-in_err-row-clause-within : goal.returns-in_err-row-clause-within
returns-in_err-row-clause-within c =
    batch-within c.args.self.now c.self.inside.rows.items c.self.inside.to c.self.inside.maxcas c.self.view_is

pub returns-in_err-reserve-clause-within : goal.returns-in_err-reserve-clause-within
returns-in_err-reserve-clause-within c = rows-within c.reserve.new.self.items

pub invariant_of-self-2 : goal.invariant_of-self-2
invariant_of-self-2 c = are-distinct c

pub returns-clause-laid : goal.returns-clause-laid
returns-clause-laid c =
    λ docs. ap (λ (rows : List Item). laid rows docs) (rows-are c) ∙ laid-with_row c.args.self.now.rows c.args.key.now (doc_from c.args.meta c.args.value.now) docs

pub returns-clause-count : goal.returns-clause-count
returns-clause-count c =
    ap (λ (rows : List Item). length rows) (rows-are c) ∙ length-with_row c.args.self.now.rows c.args.key.now (doc_from c.args.meta c.args.value.now)

pub returns-clause-distinct : goal.returns-clause-distinct
returns-clause-distinct c = are-distinct c

pub returns-clause-within : goal.returns-clause-within
returns-clause-within c = rows-within c.lay.new.rows.items
