-- Piece after piece.
use Rattle.std.proofs.Common.{◌∙◌, ℕ, List, length, ap, refl, arith, rules}
use Rattle.ep_top.specs.Outside.{outside}
use Rattle.ep_top.proofs.SessionLemmas.{progress_none, progress_more, stops_in_frames, stops_at_end, stops_at_fault, stops_at_limit, feeds_length, or_false, or_true}
use Rattle.ep_top.proofs.session.serve_stream.Goals as goal

pub pieces-init : goal.pieces-init
pieces-init g c = record {
  progress = progress_none _ _ _ c.requires.rest c.requires.fresh c.requires.sound;
  place = omega (arith, c.requires.at, ap (λ (l : List ℕ). length l) c.requires.rest);
  under = omega arith;
}

pub returns-in-Err : goal.returns-in-Err
returns-in-Err g c = record {
  stops =
      let long = feeds_length c.in-Bytes.n _ _ _ _ c.in-Bytes.ensures.feeds in
      let stops =
      stops_in_frames c.in-Err.end _
      (outside (g.R.Source.left c.pieces.source) (g.R.Source.left_before c.pieces.source) (g.R.Source.has_ended c.pieces.source) (g.R.Source.ended_before c.pieces.source) (g.R.Source.faults c.pieces.source) (g.W.Sink.held c.pieces.sink) (g.W.Sink.last_offer c.pieces.sink) (g.W.Sink.faults c.pieces.sink) (g.C.Clock.moment c.pieces.clock))
      (outside (g.R.Source.left c.take.new.source) (g.R.Source.left_before c.take.new.source) (g.R.Source.has_ended c.take.new.source) (g.R.Source.ended_before c.take.new.source) (g.R.Source.faults c.take.new.source) (g.W.Sink.held c.drain.new.sink) (g.W.Sink.last_offer c.drain.new.sink) (g.W.Sink.faults c.drain.new.sink) (g.C.Clock.moment c.drain.new.clock))
      c.pieces.taken c.in-Bytes.n c.drain.new.feeder.at c.pieces.feeder.rest c.take.new.feeder.rest c.drain.new.feeder.rest c.pieces.responder c.drain.new.responder
      c.pieces.invariant.progress c.in-Bytes.ensures.feeds c.in-Err.ensures.breaks c.in-Err.ensures.legal
      (omega (arith, long, c.in-Err.ensures.place, c.in-Bytes.ensures.at, c.pieces.invariant.place))
      (record { left = c.in-Bytes.ensures.before; ended = c.in-Bytes.ensures.behind }) (c.is_full.ensures.going c.pieces-test.true) c.in-Bytes.ensures.faults in
      search rules;
}

pub pieces-preserved : goal.pieces-preserved
pieces-preserved g c =
    let long = feeds_length c.in-Bytes.n _ _ _ _ c.in-Bytes.ensures.feeds in
    let most = (c.in-Bytes.ensures.count c.in-Bytes.n refl).1 in
    record {
      progress = progress_more _
          (outside (g.R.Source.left c.pieces.source) (g.R.Source.left_before c.pieces.source) (g.R.Source.has_ended c.pieces.source) (g.R.Source.ended_before c.pieces.source) (g.R.Source.faults c.pieces.source) (g.W.Sink.held c.pieces.sink) (g.W.Sink.last_offer c.pieces.sink) (g.W.Sink.faults c.pieces.sink) (g.C.Clock.moment c.pieces.clock))
          (outside (g.R.Source.left c.take.new.source) (g.R.Source.left_before c.take.new.source) (g.R.Source.has_ended c.take.new.source) (g.R.Source.ended_before c.take.new.source) (g.R.Source.faults c.take.new.source) (g.W.Sink.held c.drain.new.sink) (g.W.Sink.last_offer c.drain.new.sink) (g.W.Sink.faults c.drain.new.sink) (g.C.Clock.moment c.drain.new.clock))
          c.pieces.taken c.in-Bytes.n c.pieces.feeder.rest c.take.new.feeder.rest c.drain.new.feeder.rest c.pieces.responder c.drain.new.responder
          c.pieces.invariant.progress c.in-Bytes.ensures.feeds c.in_default.ensures.serves c.in_default.ensures.sound c.in_default.ensures.partial c.in_default.ensures.written
          (c.in-Bytes.ensures.ended ∙ or_false _) c.in-Bytes.ensures.faults c.in_default.ensures.quiet (record { left = c.in-Bytes.ensures.before; ended = c.in-Bytes.ensures.behind }) (c.is_full.ensures.going c.pieces-test.true);
      place = omega (arith, long, c.drain.ensures.place, c.in-Bytes.ensures.at, c.pieces.invariant.place);
      under = omega (arith, most);
    }

pub returns-in-End : goal.returns-in-End
returns-in-End g c = record {
  stops =
      stops_at_end c.end_of_input.result _
      (outside (g.R.Source.left c.pieces.source) (g.R.Source.left_before c.pieces.source) (g.R.Source.has_ended c.pieces.source) (g.R.Source.ended_before c.pieces.source) (g.R.Source.faults c.pieces.source) (g.W.Sink.held c.pieces.sink) (g.W.Sink.last_offer c.pieces.sink) (g.W.Sink.faults c.pieces.sink) (g.C.Clock.moment c.pieces.clock))
      (outside (g.R.Source.left c.take.new.source) (g.R.Source.left_before c.take.new.source) (g.R.Source.has_ended c.take.new.source) (g.R.Source.ended_before c.take.new.source) (g.R.Source.faults c.take.new.source) (g.W.Sink.held c.pieces.sink) (g.W.Sink.last_offer c.pieces.sink) (g.W.Sink.faults c.pieces.sink) (g.C.Clock.moment c.pieces.clock))
      c.pieces.taken c.pieces.feeder.rest c.take.new.feeder c.pieces.responder
      c.pieces.invariant.progress c.in-End.ensures.feeds refl (λ _. refl)
      (c.in-End.ensures.ended ∙ or_true _) (c.in-End.ensures.end refl) (c.is_full.ensures.going c.pieces-test.true)
      (omega (arith, c.in-End.ensures.at, c.pieces.invariant.place)) c.end_of_input.ensures
      (record { left = c.in-End.ensures.before; ended = c.in-End.ensures.behind }) c.in-End.ensures.faults refl;
}

pub returns-in-Failed : goal.returns-in-Failed
returns-in-Failed g c = record {
  stops =
      stops_at_fault _
      (outside (g.R.Source.left c.pieces.source) (g.R.Source.left_before c.pieces.source) (g.R.Source.has_ended c.pieces.source) (g.R.Source.ended_before c.pieces.source) (g.R.Source.faults c.pieces.source) (g.W.Sink.held c.pieces.sink) (g.W.Sink.last_offer c.pieces.sink) (g.W.Sink.faults c.pieces.sink) (g.C.Clock.moment c.pieces.clock))
      (outside (g.R.Source.left c.take.new.source) (g.R.Source.left_before c.take.new.source) (g.R.Source.has_ended c.take.new.source) (g.R.Source.ended_before c.take.new.source) (g.R.Source.faults c.take.new.source) (g.W.Sink.held c.pieces.sink) (g.W.Sink.last_offer c.pieces.sink) (g.W.Sink.faults c.pieces.sink) (g.C.Clock.moment c.pieces.clock))
      c.pieces.taken c.pieces.feeder.rest c.take.new.feeder.rest c.pieces.responder
      c.pieces.invariant.progress c.in-Failed.ensures.feeds refl (λ _. refl)
      (c.in-Failed.ensures.ended ∙ or_false _) c.in-Failed.ensures.faults (c.is_full.ensures.going c.pieces-test.true) (record { left = c.in-Failed.ensures.before; ended = c.in-Failed.ensures.behind }) refl;
}

pub returns : goal.returns
returns g c = record {
  stops =
      stops_at_limit _
      (outside (g.R.Source.left c.pieces.source) (g.R.Source.left_before c.pieces.source) (g.R.Source.has_ended c.pieces.source) (g.R.Source.ended_before c.pieces.source) (g.R.Source.faults c.pieces.source) (g.W.Sink.held c.pieces.sink) (g.W.Sink.last_offer c.pieces.sink) (g.W.Sink.faults c.pieces.sink) (g.C.Clock.moment c.pieces.clock))
      c.pieces.taken c.pieces.feeder.rest c.pieces.responder c.pieces.invariant.progress (c.is_full.ensures.full c.pieces-test.false);
}
