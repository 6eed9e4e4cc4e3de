use Rattle.ep_model.specs.History.{call_data}
use Rattle.vb_front.proofs.ControlLemmas.{control_is_legal}
use Rattle.vb_front.proofs.controls.control.Goals as goal

pub returns-then-not-is_opened-clause-legal : goal.returns-then-not-is_opened-clause-legal
returns-then-not-is_opened-clause-legal c = control_is_legal c.args.queue.now c.args.vb (call_data c.args.call.now) c.requires.call

pub returns-in-Observe-clause-legal : goal.returns-in-Observe-clause-legal
returns-in-Observe-clause-legal c = control_is_legal c.args.queue.now c.args.vb (call_data c.args.call.now) c.requires.call

pub returns-in-Failovers-clause-legal : goal.returns-in-Failovers-clause-legal
returns-in-Failovers-clause-legal c = control_is_legal c.args.queue.now c.args.vb (call_data c.args.call.now) c.requires.call

pub returns-in-GetState-clause-legal : goal.returns-in-GetState-clause-legal
returns-in-GetState-clause-legal c = control_is_legal c.args.queue.now c.args.vb (call_data c.args.call.now) c.requires.call
