use Rattle.std.proofs.Common.{rules}
use Rattle.ckpt_manager.proofs.queue.Queue.set_persisted.Goals as goal

pub invariant_of-self : goal.invariant_of-self
invariant_of-self c = search rules
