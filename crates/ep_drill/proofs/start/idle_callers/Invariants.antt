use Rattle.std.proofs.Common.{◌≡◌, map}
use Rattle.ep_drill.specs.Callers.{caller_data}
use Rattle.ep_drill.specs.Opens.{copies, idle}
use Rattle.ep_drill.proofs.start.idle_callers.Given as goal

abbrev pub invariant-loop-number : goal.invariant-loop-number
invariant-loop-number l = map caller_data l.callers.items ≡ copies l._number idle
