use Rattle.ckpt_manager.proofs.CallLemmas.{next-of}
use Rattle.ckpt_manager.proofs.queue.Queue.take_from.Goals as goal

pub returns : goal.returns
returns c = next-of c.self.inside c.args.self.now c.args.seqno c.after.result c.self.view_is c.self.invariant c.after.ensures
