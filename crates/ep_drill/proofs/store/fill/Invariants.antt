use Rattle.std.proofs.Common.{◌≡◌, take}
use Rattle.ep_model.specs.World.{Docs}
use Rattle.ep_model.specs.Mutations.{laid_on}
use Rattle.kv_keeper.specs.Batch.{AreDistinct, laid}
use Rattle.ep_drill.proofs.store.fill.Given as goal

abbrev pub invariant-loop-index : goal.invariant-loop-index
invariant-loop-index l = record {
  distinct : AreDistinct l.batch.rows;
  same_laid : (docs : Docs) → laid l.batch.rows docs ≡ laid_on (laid l.initial.batch.rows docs) (take l.index l.queue.items);
  same_to : l.batch.to ≡ l.initial.batch.to;
  same_maxcas : l.batch.maxcas ≡ l.initial.batch.maxcas;
}
