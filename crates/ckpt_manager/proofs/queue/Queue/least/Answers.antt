use Rattle.std.proofs.Common.{rules}
use Rattle.ckpt_manager.proofs.queue.Queue.least.Goals as goal

pub returns-in-None : goal.returns-in-None
returns-in-None c = search rules
