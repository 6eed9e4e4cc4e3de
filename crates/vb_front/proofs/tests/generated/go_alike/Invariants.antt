use Rattle.vb_front.specs.Opened.{IsUnderway}
use Rattle.vb_front.proofs.tests.generated.go_alike.Given as goal

abbrev pub invariant-loop-number : goal.invariant-loop-number
invariant-loop-number l = IsUnderway l.both.served.config l.both.served.faults l.both.served.world
