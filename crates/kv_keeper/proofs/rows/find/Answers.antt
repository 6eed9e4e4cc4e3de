use Rattle.std.proofs.Common.{sym, ap, ◌∙◌}
use Rattle.std.specs.Prelude.{Option}
use Rattle.std.specs.Borrow.{Bor}
use Rattle.std.specs.Option.{option_map, option_copied}
use Rattle.kv_keeper.specs.Rows.{row_doc}
use Rattle.kv_keeper.specs.declared.row.Row.{Row}
use Rattle.kv_keeper.proofs.RowLemmas.{get-missing, get-found}
use Rattle.kv_keeper.proofs.rows.find.Goals as goal

pub returns-in_err-place : goal.returns-in_err-place
returns-in_err-place c =
    ap (λ (o : Option (Bor Row)). option_map row_doc (option_copied o)) c.from_residual.ensures
    ∙ get-missing c.args.rows.now c.args.key.now (sym c.position_of.ensures.place ∙ c.in_err-place.was)

pub returns : goal.returns
returns c =
    get-found c.args.rows.now c.args.key.now c.in_ok-place.place c.index-rows-place.result
    (sym c.position_of.ensures.place ∙ c.in_ok-place.was)
    (c.position_of.ensures.within c.in_ok-place.place (c.in_ok-place.was))
    c.index-rows-place.is
