use Rattle.ep_model.specs.History.{call_data}
use Rattle.vb_world.specs.World.{front_in}
use Rattle.vb_front.specs.Opened.{IsUnderway}
use Rattle.hold_stage.specs.Priors.{PriorsStand}
use Rattle.vb_front.proofs.tests.generated.Both.is_answered.Given as goal

abbrev pub invariant-loop : goal.invariant-loop
invariant-loop l = IsUnderway l.self.served.config l.self.served.faults l.self.served.world × PriorsStand (front_in l.self.served.world 0) 7 (call_data l.call) l.prior
