-- A frame is answered by the connection alone, by the plain map, or by an unknown group.
use Rattle.std.proofs.Common.{◌≡◌, ◌∙◌, ◌++◌, ℕ, List, [], length, ap, sym, refl, arith, append-nil}
use Rattle.ep_model.specs.History.{call_data}
use Rattle.ep_model.specs.Statuses.{key_not_found}
use Rattle.mcbp_frame.specs.Frames.{frame_data}
use Rattle.mcbp_ops.specs.Text.{status_text}
use Rattle.conn_core.specs.declared.act.ActData.TheVariants as acts
use Rattle.conn_core.proofs.ActLemmas.{engine_silent, stat_silent, engine_features}
use Rattle.ep_top.specs.Exchange.{vbuckets}
use Rattle.ep_top.proofs.ResponderLemmas.{answered_call, answered_frame, sound_after_call, err_three}
use Rattle.ep_top.proofs.responder.Responder.serve.Goals as goal

-- what was pending is pending still where the connection wrote nothing
still : (new old own : List ℕ) → new ≡ old ++ own → own ≡ [] → new ≡ old
still new old own e none = e ∙ ap (λ (l : List ℕ). old ++ l) none ∙ append-nil old

pub put_status-requires : goal.put_status-requires
put_status-requires g c =
    let same = ap (λ (l : List ℕ). length l) (still _ _ _ c.in-Stat.ensures.text (stat_silent vbuckets (frame_data c.args.frame.now) c.in-Stat.field-0.now c.in-Stat.ensures.act)) in
    let room = c.in-Stat.ensures.room in
    omega (arith, c.requires.sound.answers)

pub answer_call-requires-clause-spare : goal.answer_call-requires-clause-spare
answer_call-requires-clause-spare g c =
    let same = ap (λ (l : List ℕ). length l) (still _ _ _ c.in-Engine.ensures.text (engine_silent vbuckets (frame_data c.args.frame.now) (call_data c.in-Engine.call) c.in-Engine.ensures.act)) in
    let room = c.in-Engine.ensures.room in
    omega (arith, c.requires.sound.answers)

pub returns-in_err-answer_call-in-Engine-clause-err : goal.returns-in_err-answer_call-in-Engine-clause-err
returns-in_err-answer_call-in-Engine-clause-err g c =
    let err = c.in_err-answer_call-in-Engine.ensures.err in
    err_three _ err.0
    (err.1 ∙ still _ _ _ c.in-Engine.ensures.text (engine_silent vbuckets (frame_data c.args.frame.now) (call_data c.in-Engine.call) c.in-Engine.ensures.act))
    (err.2 ∙ c.in-Engine.ensures.features ∙ engine_features vbuckets (frame_data c.args.frame.now) c.args.self.now.conn.features (call_data c.in-Engine.call) c.in-Engine.ensures.act)

pub returns-in-Answered-clause-answered : goal.returns-in-Answered-clause-answered
returns-in-Answered-clause-answered g c =
    answered_frame (frame_data c.args.frame.now) _ _ c.args.self.now _ c.sort.new.conn acts.Answered [] _ c.now-now.result c.now-now.ensures.told
    (λ k. c.now-now.ensures.next k ∙ ap (g.C.Clock.moment c.args.clock.now) (omega arith)) c.in-Answered.ensures.act (λ _. refl) (λ _. refl) refl
    c.in-Answered.ensures.text c.in-Answered.ensures.features refl (sym (append-nil _)) refl

pub returns-in-Quit-clause-answered : goal.returns-in-Quit-clause-answered
returns-in-Quit-clause-answered g c =
    answered_frame (frame_data c.args.frame.now) _ _ c.args.self.now _ c.sort.new.conn acts.Quit [] _ c.now-now.result c.now-now.ensures.told
    (λ k. c.now-now.ensures.next k ∙ ap (g.C.Clock.moment c.args.clock.now) (omega arith)) c.in-Quit.ensures.act (λ _. refl) (λ _. refl) refl
    c.in-Quit.ensures.text c.in-Quit.ensures.features refl (sym (append-nil _)) refl

pub returns-in-Stat-clause-answered : goal.returns-in-Stat-clause-answered
returns-in-Stat-clause-answered g c =
    answered_frame (frame_data c.args.frame.now) _ _ c.args.self.now _ c.sort.new.conn (acts.Stat c.in-Stat.field-0.now) (status_text (frame_data c.args.frame.now) key_not_found) _ c.now-now.result c.now-now.ensures.told
    (λ k. c.now-now.ensures.next k ∙ ap (g.C.Clock.moment c.args.clock.now) (omega arith)) c.in-Stat.ensures.act (λ _. refl) (λ _. refl) refl
    c.in-Stat.ensures.text c.in-Stat.ensures.features refl c.put_status.ensures.bytes refl

pub returns-in_ok-answer_call-in-Engine-clause-sound : goal.returns-in_ok-answer_call-in-Engine-clause-sound
returns-in_ok-answer_call-in-Engine-clause-sound g c =
    sound_after_call c.args.self.now _ c.sort.new.conn (frame_data c.args.frame.now) (call_data c.in-Engine.call) c.now-now.result c.requires.sound
    c.in-Engine.ensures.room c.in_ok-answer_call-in-Engine.ensures.called

pub returns-in_ok-answer_call-in-Engine-clause-answered : goal.returns-in_ok-answer_call-in-Engine-clause-answered
returns-in_ok-answer_call-in-Engine-clause-answered g c =
    answered_call (frame_data c.args.frame.now) _ _ c.args.self.now _ c.sort.new.conn (call_data c.in-Engine.call) c.now-now.result c.now-now.ensures.told
    (λ k. c.now-now.ensures.next k ∙ ap (g.C.Clock.moment c.args.clock.now) (omega arith)) c.in-Engine.ensures.act
    c.in-Engine.ensures.text c.in-Engine.ensures.features c.in_ok-answer_call-in-Engine.ensures.called
