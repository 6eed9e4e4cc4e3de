use Rattle.std.proofs.Common.{◌≡◌, true, ap, subst, ◌∙◌, rules}
use Rattle.std.specs.Prelude.{Some, cond}
use Rattle.ep_model.specs.declared.event.PartName.TheVariants.{Stripe}
use Rattle.ep_model.specs.declared.data.FrontData.{FrontData}
use Rattle.ep_model.specs.History.{call_data}
use Rattle.hold_stage.specs.Touches.{there}
use Rattle.hold_stage.specs.Grows.{and_this}
use Rattle.hold_stage.specs.Went.{Went}
use Rattle.hold_stage.proofs.CallerLemmas.{same_is}
use Rattle.hold_stage.proofs.OwnLemmas.{taken_held, taken_among}
use Rattle.vb_front.specs.declared.part.Part.TheVariants as parts
use Rattle.vb_front.specs.Priors.{key_in, event_of}
use Rattle.vb_front.specs.Stands.{StripeStands}
use Rattle.vb_front.specs.Reads.{read_step}
use Rattle.vb_front.proofs.BareLemmas.{read_bare}
use Rattle.vb_front.proofs.TryLemmas.{got_may, got_stands, priors_taken, went_given, went_after, is_exactly_read}
use Rattle.vb_front.proofs.at_stage.try_get.Goals as goal

pub note_step-requires-clause-may : goal.note_step-requires-clause-may
note_step-requires-clause-may g c =
    let t = c.take_stripe in let s = c.args.stage.now in let r = c.read-step in let call = call_data c.args.call.now in
    got_may (g.S.Stage.front t.new.stage) (g.S.Stage.holds t.new.stage) (g.S.Stage.number t.new.stage) (g.S.Stage.is_desk t.new.stage) c.args.stripe call (key_in call) c.args.now c.args.prior
    c.in-Ok.part r.new.part r.result c.bytes.result.now (read_step c.in-Ok.part c.args.prior (key_in call) c.args.now)
    c.requires.get (taken_held (Stripe c.args.stripe) (g.S.Stage.holds s) (g.S.Stage.holds t.new.stage) c.in-Ok.ensures.held) c.in-Ok.ensures.taken.0
    (priors_taken (g.S.Stage.front s) (g.S.Stage.front t.new.stage) (g.S.Stage.holds s) (g.S.Stage.number s) (g.S.Stage.number t.new.stage) (g.S.Stage.is_desk s) call c.args.prior t.ensures.grown t.ensures.stays.number c.requires.prior)
    r.ensures.legal r.ensures.step r.ensures.part (c.bytes.ensures ∙ r.ensures.value) t.ensures.legal

pub give-requires-clause-stands : goal.give-requires-clause-stands
give-requires-clause-stands g c =
    let t = c.take_stripe in let s = c.args.stage.now in let r = c.read-step in let call = call_data c.args.call.now in
    got_stands (g.S.Stage.front t.new.stage) (g.S.Stage.holds t.new.stage) (g.S.Stage.number t.new.stage) (g.S.Stage.is_desk t.new.stage) c.args.stripe call (key_in call) c.args.now c.args.prior
    c.in-Ok.part r.new.part r.result c.bytes.result.now (read_step c.in-Ok.part c.args.prior (key_in call) c.args.now)
    c.requires.get (taken_held (Stripe c.args.stripe) (g.S.Stage.holds s) (g.S.Stage.holds t.new.stage) c.in-Ok.ensures.held) c.in-Ok.ensures.taken.0
    (priors_taken (g.S.Stage.front s) (g.S.Stage.front t.new.stage) (g.S.Stage.holds s) (g.S.Stage.number s) (g.S.Stage.number t.new.stage) (g.S.Stage.is_desk s) call c.args.prior t.ensures.grown t.ensures.stays.number c.requires.prior)
    r.ensures.legal r.ensures.step r.ensures.part (c.bytes.ensures ∙ r.ensures.value) (g.S.Stage.front c.note_step.new.stage) c.note_step.ensures.went

pub returns-clause-went : goal.returns-clause-went
returns-clause-went g c =
    let t = c.take_stripe in let s = c.args.stage.now in let call = call_data c.args.call.now in
    subst (λ v. Went (g.S.Stage.front s) (g.S.Stage.front c.give.new.self) (g.S.Stage.holds s) (g.S.Stage.number s) (g.S.Stage.is_desk s) (event_of (g.S.Stage.number s) call c.args.now c.args.prior c.read-step.result v)) c.bytes.ensures
    (went_given (λ n. event_of n call c.args.now c.args.prior c.read-step.result c.bytes.result.now) (g.S.Stage.front s) (g.S.Stage.front t.new.stage) (g.S.Stage.front c.note_step.new.stage) (g.S.Stage.front c.give.new.self) (g.S.Stage.holds s) (g.S.Stage.holds t.new.stage)
    (g.S.Stage.number s) (g.S.Stage.number t.new.stage) (g.S.Stage.is_desk s) (g.S.Stage.is_desk t.new.stage) t.ensures.grown (taken_among (Stripe c.args.stripe) (g.S.Stage.holds s) (g.S.Stage.holds t.new.stage) c.in-Ok.ensures.held)
    t.ensures.stays.number t.ensures.stays.desk c.note_step.ensures.went c.give.ensures.front)

pub returns-clause-gets : goal.returns-clause-gets
returns-clause-gets g c =
    let t = c.take_stripe in let s = c.args.stage.now in let r = c.read-step in let call = call_data c.args.call.now in
    let held = and_this (Stripe c.args.stripe) (g.S.Stage.holds s) in
    record {
      at = g.S.Stage.front t.new.stage;
      grown = t.ensures.grown;
      legal = t.ensures.legal;
      part = c.in-Ok.part;
      stands = c.in-Ok.ensures.taken.0;
      step_is = r.ensures.step;
      value_is = r.ensures.value;
      exact = is_exactly_read c.in-Ok.part c.args.prior (key_in call) c.args.now r.ensures.exact r.ensures.fits;
      behind = subst (λ v. Went (g.S.Stage.front t.new.stage) (g.S.Stage.front c.give.new.self) held (g.S.Stage.number s) (g.S.Stage.is_desk s) (event_of (g.S.Stage.number s) call c.args.now c.args.prior r.result v)) c.bytes.ensures
          (went_after (λ n. event_of n call c.args.now c.args.prior r.result c.bytes.result.now) (g.S.Stage.front t.new.stage) (g.S.Stage.front c.note_step.new.stage) (g.S.Stage.front c.give.new.self) held (g.S.Stage.holds t.new.stage)
          (g.S.Stage.number s) (g.S.Stage.number t.new.stage) (g.S.Stage.is_desk s) (g.S.Stage.is_desk t.new.stage) (λ p has. c.in-Ok.ensures.held p ∙ has)
          t.ensures.stays.number t.ensures.stays.desk c.note_step.ensures.went c.give.ensures.front);
    }

pub returns-clause-becomes : goal.returns-clause-becomes
returns-clause-becomes g c = λ told.
    let r = c.read-step in
    let telling : g.S.Stage.is_telling c.note_step.new.stage ≡ true = c.note_step.ensures.stays.telling ∙ c.take_stripe.ensures.stays.telling ∙ told in
    let there : there (g.S.Stage.front c.note_step.new.stage).config (Stripe c.args.stripe) ≡ true = search rules in
    let behind = c.give.ensures.tells telling (Stripe c.args.stripe) there in
    record {
      part = c.in-Ok.part;
      before = c.in-Ok.ensures.was_there told;
      stands = subst (λ (f : FrontData). StripeStands f c.args.stripe c.in-Ok.part) (c.take_stripe.ensures.alone told) c.in-Ok.ensures.taken.0;
      step_is = r.ensures.step;
      value_is = r.ensures.value;
      exact = is_exactly_read c.in-Ok.part c.args.prior (key_in (call_data c.args.call.now)) c.args.now r.ensures.exact r.ensures.fits;
      behind = behind ∙ ap (λ b. cond b (Some (parts.Stripe r.new.part)) (g.S.Stage.tells c.note_step.new.stage (Stripe c.args.stripe))) (same_is c.args.stripe) ∙ ap (λ x. Some (parts.Stripe x)) r.ensures.part;
    }

pub returns-clause-bare : goal.returns-clause-bare
returns-clause-bare g c =
    let r = c.read-step in
    read_bare c.in-Ok.part c.args.prior (key_in (call_data c.args.call.now)) c.args.now r.result r.new.value.bytes r.ensures.step r.ensures.value
