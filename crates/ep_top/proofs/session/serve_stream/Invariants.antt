use Rattle.std.proofs.Common.{◌≡◌, ◌+◌, ◌-◌, ◌≤◌, length}
use Rattle.ep_top.specs.Outside.{outside}
use Rattle.ep_top.specs.Session.{most_taken, Progress}
use Rattle.ep_top.proofs.session.serve_stream.Given as goal

-- so many bytes were taken, and each whole frame among them was answered
abbrev pub invariant-pieces : goal.invariant-pieces
invariant-pieces g l = record {
  progress : Progress
      (outside (g.R.Source.left l.fn.source) (g.R.Source.left_before l.fn.source) (g.R.Source.has_ended l.fn.source) (g.R.Source.ended_before l.fn.source) (g.R.Source.faults l.fn.source) (g.W.Sink.held l.fn.sink) (g.W.Sink.last_offer l.fn.sink) (g.W.Sink.faults l.fn.sink) (g.C.Clock.moment l.fn.clock))
      (outside (g.R.Source.left l.source) (g.R.Source.left_before l.source) (g.R.Source.has_ended l.source) (g.R.Source.ended_before l.source) (g.R.Source.faults l.source) (g.W.Sink.held l.sink) (g.W.Sink.last_offer l.sink) (g.W.Sink.faults l.sink) (g.C.Clock.moment l.clock))
      l.taken l.feeder.rest l.responder;
  place : l.feeder.at + length l.feeder.rest ≡ l.taken;
  under : l.taken ≤ most_taken;
}

abbrev pub decreases-pieces : goal.decreases-pieces
decreases-pieces g l = most_taken - l.taken
