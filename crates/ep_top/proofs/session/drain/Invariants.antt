use Rattle.std.proofs.Common.{false, ◌≡◌, ◌+◌, length}
use Rattle.ep_top.specs.Responder.{ResponderIsSound}
use Rattle.ep_top.specs.Stand.{stand, Advances}
use Rattle.ep_top.proofs.session.drain.Given as goal

-- so far frames were served from where it began
abbrev pub invariant-frames : goal.invariant-frames
invariant-frames g l = record {
  serves : Advances (stand l.fn.feeder.rest l.fn.responder (g.W.Sink.held l.fn.sink) (g.C.Clock.moment l.fn.clock) false) (stand l.feeder.rest l.responder (g.W.Sink.held l.sink) (g.C.Clock.moment l.clock) false);
  sound : ResponderIsSound l.responder;
  place : l.feeder.at + length l.feeder.rest ≡ l.fn.feeder.at + length l.fn.feeder.rest;
  faults : g.W.Sink.faults l.sink ≡ g.W.Sink.faults l.fn.sink;
}

abbrev pub decreases-frames : goal.decreases-frames
decreases-frames g l = length l.feeder.rest
