use Rattle.std.proofs.Common.{◌≡◌, true, refl, ap, subst, ◌∙◌}
use Rattle.std.specs.Prelude.{Some, None}
use Rattle.ep_model.specs.declared.event.PartName.TheVariants.{Queue}
use Rattle.ep_model.specs.declared.data.FrontData.{FrontData}
use Rattle.ep_model.specs.History.{call_data}
use Rattle.hold_stage.specs.Grows.{and_this}
use Rattle.hold_stage.specs.Went.{Went}
use Rattle.hold_stage.proofs.OwnLemmas.{taken_held, taken_among}
use Rattle.ckpt_manager.specs.declared.data.QueueData.{QueueData}
use Rattle.vb_front.specs.declared.part.Part.TheVariants as parts
use Rattle.vb_front.specs.Stands.{QueueStands}
use Rattle.vb_front.specs.Priors.{event_of}
use Rattle.vb_front.specs.Controls.{control_step}
use Rattle.vb_front.proofs.BareLemmas.{control_bare}
use Rattle.vb_front.proofs.TryLemmas.{controlled_may, controlled_stands, went_given, went_after}
use Rattle.vb_front.proofs.at_stage.try_control.Goals as goal

pub note_step-requires-clause-may : goal.note_step-requires-clause-may
note_step-requires-clause-may g c =
    let t = c.take_queue in let s = c.args.stage.now in let r = c.control-step in let call = call_data c.args.call.now in
    controlled_may (g.S.Stage.front t.new.stage) (g.S.Stage.holds t.new.stage) (g.S.Stage.number t.new.stage) (g.S.Stage.is_desk t.new.stage) c.args.vb call c.args.now c.in-Ok.queue r.new.queue r.result c.bytes.result.now
    (control_step c.in-Ok.queue c.args.vb call) (taken_held Queue (g.S.Stage.holds s) (g.S.Stage.holds t.new.stage) c.in-Ok.ensures.held) c.in-Ok.ensures.taken.0 (t.ensures.grown.id ∙ c.requires.id)
    r.ensures.legal r.ensures.step r.ensures.queue (c.bytes.ensures ∙ r.ensures.value) t.ensures.legal

pub give-requires-clause-stands : goal.give-requires-clause-stands
give-requires-clause-stands g c =
    let t = c.take_queue in let s = c.args.stage.now in let r = c.control-step in let call = call_data c.args.call.now in
    controlled_stands (g.S.Stage.front t.new.stage) (g.S.Stage.holds t.new.stage) (g.S.Stage.number t.new.stage) (g.S.Stage.is_desk t.new.stage) c.args.vb call c.args.now c.in-Ok.queue r.new.queue r.result c.bytes.result.now
    (control_step c.in-Ok.queue c.args.vb call) (taken_held Queue (g.S.Stage.holds s) (g.S.Stage.holds t.new.stage) c.in-Ok.ensures.held) c.in-Ok.ensures.taken.0 (t.ensures.grown.id ∙ c.requires.id)
    r.ensures.legal r.ensures.step r.ensures.queue (c.bytes.ensures ∙ r.ensures.value)
    (g.S.Stage.front c.note_step.new.stage) c.note_step.ensures.went

pub returns-clause-went : goal.returns-clause-went
returns-clause-went g c =
    let t = c.take_queue in let s = c.args.stage.now in let call = call_data c.args.call.now in
    subst (λ v. Went (g.S.Stage.front s) (g.S.Stage.front c.give.new.self) (g.S.Stage.holds s) (g.S.Stage.number s) (g.S.Stage.is_desk s) (event_of (g.S.Stage.number s) call c.args.now None c.control-step.result v)) c.bytes.ensures
    (went_given (λ n. event_of n call c.args.now None c.control-step.result c.bytes.result.now) (g.S.Stage.front s) (g.S.Stage.front t.new.stage) (g.S.Stage.front c.note_step.new.stage) (g.S.Stage.front c.give.new.self) (g.S.Stage.holds s) (g.S.Stage.holds t.new.stage)
    (g.S.Stage.number s) (g.S.Stage.number t.new.stage) (g.S.Stage.is_desk s) (g.S.Stage.is_desk t.new.stage) t.ensures.grown (taken_among Queue (g.S.Stage.holds s) (g.S.Stage.holds t.new.stage) c.in-Ok.ensures.held)
    t.ensures.stays.number t.ensures.stays.desk c.note_step.ensures.went c.give.ensures.front)

pub returns-clause-controls : goal.returns-clause-controls
returns-clause-controls g c =
    let t = c.take_queue in let s = c.args.stage.now in let r = c.control-step in let call = call_data c.args.call.now in
    let held = and_this Queue (g.S.Stage.holds s) in
    record {
      at = g.S.Stage.front t.new.stage;
      grown = t.ensures.grown;
      legal = t.ensures.legal;
      queue = c.in-Ok.queue;
      stands = c.in-Ok.ensures.taken.0;
      step_is = r.ensures.step;
      value_is = r.ensures.value;
      behind = subst (λ v. Went (g.S.Stage.front t.new.stage) (g.S.Stage.front c.give.new.self) held (g.S.Stage.number s) (g.S.Stage.is_desk s) (event_of (g.S.Stage.number s) call c.args.now None r.result v)) c.bytes.ensures
          (went_after (λ n. event_of n call c.args.now None r.result c.bytes.result.now) (g.S.Stage.front t.new.stage) (g.S.Stage.front c.note_step.new.stage) (g.S.Stage.front c.give.new.self) held (g.S.Stage.holds t.new.stage)
          (g.S.Stage.number s) (g.S.Stage.number t.new.stage) (g.S.Stage.is_desk s) (g.S.Stage.is_desk t.new.stage) (λ p has. c.in-Ok.ensures.held p ∙ has)
          t.ensures.stays.number t.ensures.stays.desk c.note_step.ensures.went c.give.ensures.front);
    }

pub returns-clause-becomes : goal.returns-clause-becomes
returns-clause-becomes g c = λ told.
    let t = c.take_queue in let r = c.control-step in
    let telling : g.S.Stage.is_telling c.note_step.new.stage ≡ true = c.note_step.ensures.stays.telling ∙ t.ensures.stays.telling ∙ told in
    record {
      queue = c.in-Ok.queue;
      before = c.in-Ok.ensures.was_there told;
      stands = subst (λ (f : FrontData). QueueStands f c.in-Ok.queue) (t.ensures.alone told) c.in-Ok.ensures.taken.0;
      step_is = r.ensures.step;
      value_is = r.ensures.value;
      behind = c.give.ensures.tells telling Queue refl ∙ ap (λ (q : QueueData). Some (parts.Queue q)) r.ensures.queue;
    }

pub returns-clause-bare : goal.returns-clause-bare
returns-clause-bare g c =
    let r = c.control-step in
    control_bare c.in-Ok.queue c.args.vb (call_data c.args.call.now) r.result r.new.value.bytes r.ensures.step r.ensures.value
