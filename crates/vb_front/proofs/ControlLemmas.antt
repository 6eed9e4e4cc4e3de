-- A call on the vBucket as a whole: its event is legal, and the queue stands behind it.
use Rattle.std.proofs.Common.{◌≡◌, ℕ, true, false, cond, List, [], ◌∷◌, ◌++◌, refl, sym, ap, ◌∙◌}
use Rattle.std.specs.Prelude.{None, ◌==◌}
use Rattle.std.specs.Int.{w16, w32, w64, to_be_bytes}
use Rattle.ep_model.specs.declared.call.Reply.{Reply}
use Rattle.ep_model.specs.declared.call.VbState.{VbState}
use Rattle.ep_model.specs.declared.call.VbState.TheVariants.{Active, Replica, Pending, Dead}
use Rattle.ep_model.specs.declared.event.Cause.TheVariants as causes
use Rattle.ep_model.specs.declared.data.CallData.{CallData}
use Rattle.ep_model.specs.declared.data.CallData.TheVariants as calls
use Rattle.ep_model.specs.declared.data.EventData.TheVariants as events
use Rattle.ep_model.specs.World.{World, uuid_of}
use Rattle.ep_model.specs.Refusals.{state_refusal}
use Rattle.ep_model.specs.Answer.{Nothing, Answer, unless, shows, refused, observed, failover_bytes, state_code, answer_row, answer}
use Rattle.ep_model.specs.History.{call_effect}
use Rattle.ep_model.specs.Calls.{has_key}
use Rattle.ep_model.specs.Front.{begun, world_of}
use Rattle.ep_model.specs.Legal.{May}
use Rattle.ep_model.proofs.EffectLemmas.{call_done, done_nothing}
use Rattle.hold_stage.proofs.ViewLemmas.{frame_after}
use Rattle.ckpt_manager.specs.declared.data.QueueData.{QueueData}
use Rattle.vb_front.specs.declared.step.Step.TheVariants as steps
use Rattle.vb_front.specs.Stands.{QueueStands}
use Rattle.vb_front.specs.Priors.{event_of, IsNext}
use Rattle.vb_front.specs.Controls.{is_control, queue_world, control_done, control_step, ControlIsLegal}
use Rattle.vb_front.proofs.CalmLemmas.{calm_called, calm_refused, queue_calm}

-- the state of a vBucket refuses no call without a key
no_refusal : (state : VbState) → state_refusal state false ≡ None
no_refusal Active = refl
no_refusal Replica = refl
no_refusal Pending = refl
no_refusal Dead = refl

-- what such a call is answered goes by the vBucket's numbers, table and state alone
module _ (v w : World) (now other : ℕ) (id : v.id ≡ w.id) (high : v.high ≡ w.high) (persisted : v.persisted ≡ w.persisted) (table : v.failovers ≡ w.failovers) (state : v.state ≡ w.state) where
  same_observed : observed v ≡ observed w
  same_observed =
      ap (λ n. 0 ∷ to_be_bytes w16 n ++ to_be_bytes w64 (uuid_of v.failovers) ++ to_be_bytes w64 v.persisted ++ to_be_bytes w64 v.high) id
      ∙ ap (λ (t : List (ℕ × ℕ)). 0 ∷ to_be_bytes w16 w.id ++ to_be_bytes w64 (uuid_of t) ++ to_be_bytes w64 v.persisted ++ to_be_bytes w64 v.high) table
      ∙ ap (λ n. 0 ∷ to_be_bytes w16 w.id ++ to_be_bytes w64 (uuid_of w.failovers) ++ to_be_bytes w64 n ++ to_be_bytes w64 v.high) persisted
      ∙ ap (λ n. 0 ∷ to_be_bytes w16 w.id ++ to_be_bytes w64 (uuid_of w.failovers) ++ to_be_bytes w64 w.persisted ++ to_be_bytes w64 n) high

  same_row : (call : CallData) → is_control call ≡ true → answer_row v call now ≡ answer_row w call other
  same_row (calls.Get key) is = absurd (cc)
  same_row (calls.Store kind key value flags expiration cas) is = absurd (cc)
  same_row (calls.Join front key value cas) is = absurd (cc)
  same_row (calls.Count down key delta initial expiration cas) is = absurd (cc)
  same_row (calls.Delete key cas) is = absurd (cc)
  same_row (calls.Touch key expiration fetch) is = absurd (cc)
  same_row (calls.Observe uuid) is =
      ap (λ (t : List (ℕ × ℕ)). cond (uuid == uuid_of t) (shows 0 0 (observed v)) (refused 0x01)) table
      ∙ ap (λ (l : List ℕ). cond (uuid == uuid_of w.failovers) (shows 0 0 l) (refused 0x01)) same_observed
  same_row calls.Failovers is = ap (λ (t : List (ℕ × ℕ)). shows 0 0 (failover_bytes t)) table
  same_row (calls.SetState s) is = absurd (cc)
  same_row calls.GetState is = ap (λ (s : VbState). shows 0 0 (to_be_bytes w32 (state_code s))) state

  keyless : (call : CallData) → is_control call ≡ true → has_key call ≡ false
  keyless (calls.Get key) is = absurd (cc)
  keyless (calls.Store kind key value flags expiration cas) is = absurd (cc)
  keyless (calls.Join front key value cas) is = absurd (cc)
  keyless (calls.Count down key delta initial expiration cas) is = absurd (cc)
  keyless (calls.Delete key cas) is = absurd (cc)
  keyless (calls.Touch key expiration fetch) is = absurd (cc)
  keyless (calls.Observe uuid) is = refl
  keyless calls.Failovers is = refl
  keyless (calls.SetState s) is = absurd (cc)
  keyless calls.GetState is = refl

  pub same_control : (call : CallData) → is_control call ≡ true → answer_row v call now ≡ answer w call other
  same_control call is =
      let key = keyless call is in
      same_row call is
      ∙ sym (ap (λ b. unless (state_refusal w.state b) (answer_row w call other)) key ∙ ap (λ o. unless o (answer_row w call other)) (no_refusal w.state))

-- it puts no document
control_none : (w : World) (call : CallData) (now : ℕ) (reply : Reply) → is_control call ≡ true
    → call_effect w call now reply ≡ Nothing
control_none w (calls.Get key) now reply is = absurd (cc)
control_none w (calls.Store kind key value flags expiration cas) now reply is = absurd (cc)
control_none w (calls.Join front key value cas) now reply is = absurd (cc)
control_none w (calls.Count down key delta initial expiration cas) now reply is = absurd (cc)
control_none w (calls.Delete key cas) now reply is = absurd (cc)
control_none w (calls.Touch key expiration fetch) now reply is = absurd (cc)
control_none w (calls.Observe uuid) now reply is = done_nothing w (calls.Observe uuid) now (call_effect w (calls.Observe uuid) now reply) refl (λ state is. cc) (call_done w (calls.Observe uuid) now reply)
control_none w calls.Failovers now reply is = done_nothing w calls.Failovers now (call_effect w calls.Failovers now reply) refl (λ state is. cc) (call_done w calls.Failovers now reply)
control_none w (calls.SetState state) now reply is = absurd (cc)
control_none w calls.GetState now reply is = done_nothing w calls.GetState now (call_effect w calls.GetState now reply) refl (λ state is. cc) (call_done w calls.GetState now reply)

pub control_is_legal : (q : QueueData) (id : ℕ) (call : CallData) → is_control call ≡ true
    → ControlIsLegal q id call (control_step q id call)
unfolding May
control_is_legal q id call is f caller now legal same s =
    elim q.opened as (λ b. q.opened ≡ b → IsNext f (event_of caller call now None (cond b (control_done (answer_row (queue_world q id) call 0)) (record { step = steps.Refused causes.Warming; value = [] })).step (cond b (control_done (answer_row (queue_world q id) call 0)) (record { step = steps.Refused causes.Warming; value = [] })).value) (λ g. QueueStands g q)) [
      | true ↦ λ opened.
          let a = answer_row (queue_world q id) call 0 in
          let shown : a ≡ answer (world_of f) call now = same_control (queue_world q id) (world_of f) 0 now (sym same ∙ sym (frame_after (begun f) f.events).id) s.high s.persisted s.table s.state call is in (
            record { opened = sym s.opened ∙ opened; reply_is = λ told. ap (λ (x : Answer). x.reply) shown; value_is = λ told. ap (λ (x : Answer). x.value) shown },
            queue_calm f (events.Called caller call now a.reply a.value) q (calm_called f caller call now a.reply a.value (control_none (world_of f) call now a.reply is)) s,
          )
      | false ↦ λ shut. (sym s.opened ∙ shut, queue_calm f (events.Refused caller call now causes.Warming) q (calm_refused f caller call now causes.Warming) s)
    ] refl
