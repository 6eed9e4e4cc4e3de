use Rattle.std.proofs.Common.{◌≡◌, drop}
use Rattle.std.specs.List.{find}
use Rattle.ckpt_items.specs.Items.{is_of}
use Rattle.ckpt_items.specs.Stored.{datas}
use Rattle.ckpt_items.proofs.search.find_from.Given as goal

abbrev pub invariant-loop-index : goal.invariant-loop-index
invariant-loop-index l =
    find (is_of l.key) (drop l.index (datas l.pool l.items.items)) ≡ find (is_of l.key) (drop l.from (datas l.pool l.items.items))
