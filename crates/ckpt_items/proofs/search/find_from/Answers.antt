use Rattle.std.proofs.Common.{ap, sym, ◌∙◌, arith}
use Rattle.ckpt_items.specs.Items.{is_of, number_of}
use Rattle.ckpt_items.specs.Stored.{data_of}
use Rattle.ckpt_items.proofs.ListLemmas.{find_next, find_here, bytes_same, bytes_apart}
use Rattle.ckpt_items.proofs.search.find_from.Goals as goal

pub returns-then-has_key : goal.returns-then-has_key
returns-then-has_key c =
    sym (ap number_of (sym c.loop-index.invariant ∙ find_here (data_of c.args.pool.now) (is_of c.args.key.now) c.args.items.now.items c.loop-index.index c.index-item.result.now (omega (arith, c.args.items.now.ok.0)) c.index-item.ensures (bytes_same _ c.args.key.now (c.has_key.ensures.0 c.if-has_key.true))))

pub loop-index-preserved : goal.loop-index-preserved
loop-index-preserved c =
    sym (find_next (data_of c.args.pool.now) (is_of c.args.key.now) c.args.items.now.items c.loop-index.index c.index-item.result.now (omega (arith, c.args.items.now.ok.0)) c.index-item.ensures (bytes_apart _ c.args.key.now c.has_key.result c.has_key.ensures c.if-has_key.false))
    ∙ c.loop-index.invariant
