-- Frame after frame, and then what is pending is written.
use Rattle.std.proofs.Common.{false, ◌∙◌, ap, refl, Ok}
use Rattle.ep_top.specs.Stand.{stand}
use Rattle.ep_top.proofs.StandLemmas.{serves_nothing, serves_then, advances_writes, breaks_loss, breaks_then}
use Rattle.ep_top.proofs.session.drain.Goals as goal

pub frames-init : goal.frames-init
frames-init g c = record { serves = serves_nothing _; sound = c.requires.sound; place = refl; faults = refl }

pub frames-preserved : goal.frames-preserved
frames-preserved g c = record {
  serves = serves_then _ _ _ c.frames.invariant.serves c.in-Ok-true.ensures.serves;
  sound = c.in-Ok-true.ensures.sound;
  place = c.in-Ok-true.ensures.place ∙ c.frames.invariant.place;
  faults = c.in-Ok-true.ensures.quiet ∙ c.frames.invariant.faults;
}

pub returns-in-Err-clause-breaks : goal.returns-in-Err-clause-breaks
returns-in-Err-clause-breaks g c =
    breaks_then _ _ _ _ _ _ _ _ _ c.frames.invariant.serves c.frames.invariant.faults c.in-Err.ensures.breaks

pub returns-in-Done-clause-serves : goal.returns-in-Done-clause-serves
returns-in-Done-clause-serves g c =
    let start = stand c.args.feeder.now.rest c.args.responder.now (g.W.Sink.held c.args.sink.now) (g.C.Clock.moment c.args.clock.now) false in
    let loop = stand c.frames.feeder.rest c.frames.responder (g.W.Sink.held c.frames.sink) (g.C.Clock.moment c.frames.clock) false in
    let here = stand c.serve_next.new.feeder.rest c.serve_next.new.responder (g.W.Sink.held c.serve_next.new.sink) (g.C.Clock.moment c.serve_next.new.clock) false in
    let done = stand c.serve_next.new.feeder.rest c.flush.new.self (g.W.Sink.held c.flush.new.sink) (g.C.Clock.moment c.serve_next.new.clock) false in
    serves_then start here done (serves_then start loop here c.frames.invariant.serves c.in-Ok-false.ensures.serves)
    (advances_writes c.serve_next.new.feeder.rest c.serve_next.new.responder c.flush.new.self (g.W.Sink.held c.serve_next.new.sink) (g.W.Sink.held c.flush.new.sink) (g.C.Clock.moment c.serve_next.new.clock) c.flush.ensures.kept (c.flush.ensures.done c.in-Done.is).0)

pub returns-in-Failed-clause-breaks : goal.returns-in-Failed-clause-breaks
returns-in-Failed-clause-breaks g c =
    let start = stand c.args.feeder.now.rest c.args.responder.now (g.W.Sink.held c.args.sink.now) (g.C.Clock.moment c.args.clock.now) false in
    let loop = stand c.frames.feeder.rest c.frames.responder (g.W.Sink.held c.frames.sink) (g.C.Clock.moment c.frames.clock) false in
    let here = stand c.serve_next.new.feeder.rest c.serve_next.new.responder (g.W.Sink.held c.serve_next.new.sink) (g.C.Clock.moment c.serve_next.new.clock) false in
    let fault = c.flush.ensures.failed c.in-Failed.is in
    breaks_loss start c.serve_next.new.feeder.rest c.serve_next.new.responder c.flush.new.self (g.W.Sink.held c.serve_next.new.sink) (g.W.Sink.held c.flush.new.sink) (g.C.Clock.moment c.serve_next.new.clock) _ _ _ _ _ (serves_then start loop here c.frames.invariant.serves c.in-Ok-false.ensures.serves) c.flush.ensures.kept fault.0
    (c.in-Ok-false.ensures.quiet ∙ c.frames.invariant.faults) fault.1 (c.flush.ensures.offered c.in-Failed.is) (λ _. c.serve_next.ensures.partial (c.in-Ok-false.is ∙ ap Ok c.in-Ok-false.field-0-test))
