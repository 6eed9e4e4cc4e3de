use Rattle.std.proofs.Common.{◌∙◌, ap}
use Rattle.kv_keeper.specs.declared.data.BatchData.{BatchData}
use Rattle.ep_model.specs.World.{doc_from}
use Rattle.ep_drill.proofs.StageLemmas.{laid_more}
use Rattle.ep_drill.proofs.store.fill.Goals as goal

pub loop-index-preserved : goal.loop-index-preserved
loop-index-preserved c =
    let item = c.item-item.result.now in
    let meta = item.document.meta in
    let l = c.loop-index in
    record {
      distinct = c.add.ensures.distinct;
      same_laid = laid_more c.args.batch.now.rows l.batch.rows c.add.new.self.rows c.args.queue.now.items l.index item.key.items c.deref.result.now (doc_from meta item.document.value.items) (doc_from meta c.deref-in-loop-index.result.now)
          l.invariant.same_laid c.item-item.ensures.item c.deref.ensures.value (ap (λ v. doc_from meta v) c.deref-in-loop-index.ensures.value) c.in_ok-add.ensures.laid;
      same_to = ap (λ (b : BatchData). b.to) c.in_ok-add.ensures.ok ∙ l.invariant.same_to;
      same_maxcas = ap (λ (b : BatchData). b.maxcas) c.in_ok-add.ensures.ok ∙ l.invariant.same_maxcas;
    }
