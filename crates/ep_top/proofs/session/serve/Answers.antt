-- What a session does once it stopped and wrote its last answers.
use Rattle.std.proofs.Common.{ℕ, List, refl, sym, subst, ◌∙◌}
use Rattle.ep_model.specs.declared.data.EventData.{EventData}
use Rattle.ep_top.specs.Outside.{outside}
use Rattle.ep_top.specs.Session.{IsSession}
use Rattle.ep_top.proofs.EndLemmas.{session_finished}
use Rattle.ep_top.proofs.SessionLemmas.{stops_opened}
use Rattle.ep_top.proofs.session.serve.Goals as goal

pub returns-clause-session : goal.returns-clause-session
returns-clause-session g c =
    let before = outside (g.R.Source.left c.args.source.now) (g.R.Source.left_before c.args.source.now) (g.R.Source.has_ended c.args.source.now) (g.R.Source.ended_before c.args.source.now) (g.R.Source.faults c.args.source.now) (g.W.Sink.held c.args.sink.now) (g.W.Sink.last_offer c.args.sink.now) (g.W.Sink.faults c.args.sink.now) (g.C.Clock.moment c.args.clock.now) in
    let mid = outside (g.R.Source.left c.serve_stream-end.new.source) (g.R.Source.left_before c.serve_stream-end.new.source) (g.R.Source.has_ended c.serve_stream-end.new.source) (g.R.Source.ended_before c.serve_stream-end.new.source) (g.R.Source.faults c.serve_stream-end.new.source) (g.W.Sink.held c.serve_stream-end.new.sink) (g.W.Sink.last_offer c.serve_stream-end.new.sink) (g.W.Sink.faults c.serve_stream-end.new.sink) (g.C.Clock.moment c.serve_stream-end.new.clock) in
    let now = outside (g.R.Source.left c.serve_stream-end.new.source) (g.R.Source.left_before c.serve_stream-end.new.source) (g.R.Source.has_ended c.serve_stream-end.new.source) (g.R.Source.ended_before c.serve_stream-end.new.source) (g.R.Source.faults c.serve_stream-end.new.source) (g.W.Sink.held c.finish-end.new.sink) (g.W.Sink.last_offer c.finish-end.new.sink) (g.W.Sink.faults c.finish-end.new.sink) (g.C.Clock.moment c.serve_stream-end.new.clock) in
    subst (λ (history : List (ℕ × EventData)). IsSession before now c.finish-end.result history) (sym c.finish-end.ensures.history)
    (session_finished before mid now c.serve_stream-end.result c.finish-end.result c.serve_stream-end.new.responder
    c.serve_stream-end.ensures.stops c.finish-end.ensures.finishes refl (record { left = refl; ended = refl }) refl refl (λ _. refl))

pub returns-clause-opened : goal.returns-clause-opened
returns-clause-opened g c = λ none. stops_opened _ _ _ _ c.serve_stream-end.ensures.stops (sym c.finish-end.ensures.history ∙ none)
