use Rattle.ep_drill.proofs.StageLemmas.{not_all_stored, taken_stands}
use Rattle.ep_drill.proofs.store.take_batch.Goals as goal

pub returns-in-Ok-clause-taken : goal.returns-in-Ok-clause-taken
returns-in-Ok-clause-taken g c =
    let t = c.take_queue-queue in
    λ desk stands. taken_stands (g.S.Stage.front c.args.stage.now) (g.S.Stage.front t.new.stage) desk c.high.result c.persisted.result t.result c.batch_of-batch.result c.fill-filled.new.batch
    t.ensures.front stands t.ensures.legal t.ensures.stands c.high.ensures.high c.persisted.ensures c.if-high-persisted.false
    c.batch_of-batch.ensures c.fill-filled.ensures.to c.fill-filled.ensures.maxcas c.in-Ok.ensures.laid c.fill-filled.ensures.distinct

pub returns-in-Err-clause-err : goal.returns-in-Err-clause-err
returns-in-Err-clause-err g c =
    let t = c.take_queue-queue in
    not_all_stored (g.S.Stage.front c.args.stage.now) (g.S.Stage.front t.new.stage) c.high.result c.persisted.result t.result t.ensures.front t.ensures.stands c.high.ensures.high c.persisted.ensures c.if-high-persisted.false
