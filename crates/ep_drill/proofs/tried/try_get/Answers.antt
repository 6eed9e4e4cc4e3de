use Rattle.std.proofs.Common.{◌∙◌, subst, sym}
use Rattle.ep_model.specs.declared.data.FrontData.{FrontData}
use Rattle.ep_drill.specs.Stands.{StripeStands}
use Rattle.ep_drill.proofs.CallLemmas.{get_at}
use Rattle.ep_drill.proofs.tried.try_get.Goals as goal

pub note_step-requires-clause-covered : goal.note_step-requires-clause-covered
note_step-requires-clause-covered g c =
    let t = c.take_stripe-part in
    (get_at (g.S.Stage.front c.args.stage.now) (g.S.Stage.front t.new.stage) (g.S.Stage.number c.args.stage.now) (g.S.Stage.number t.new.stage) c.stripe_of-stripe.result c.args.now c.args.stripes c.args.key.now c.args.prior
    (g.S.Stage.holds c.args.stage.now) (g.S.Stage.holds t.new.stage) t.result c.read.new.self c.args.value.now.bytes c.bytes.result.now c.in-Ok.step
    t.ensures.front t.ensures.stays.number c.stripe_of-stripe.ensures.stripe c.requires.stripes.0 t.ensures.held t.ensures.legal c.requires.eviction c.requires.prior t.ensures.stands
    c.in-Ok.ensures.step c.in-Ok.ensures.stripe (c.bytes.ensures ∙ c.in-Ok.ensures.value) c.requires.value.0).1

pub note_step-requires-clause-may : goal.note_step-requires-clause-may
note_step-requires-clause-may g c =
    let t = c.take_stripe-part in
    (get_at (g.S.Stage.front c.args.stage.now) (g.S.Stage.front t.new.stage) (g.S.Stage.number c.args.stage.now) (g.S.Stage.number t.new.stage) c.stripe_of-stripe.result c.args.now c.args.stripes c.args.key.now c.args.prior
    (g.S.Stage.holds c.args.stage.now) (g.S.Stage.holds t.new.stage) t.result c.read.new.self c.args.value.now.bytes c.bytes.result.now c.in-Ok.step
    t.ensures.front t.ensures.stays.number c.stripe_of-stripe.ensures.stripe c.requires.stripes.0 t.ensures.held t.ensures.legal c.requires.eviction c.requires.prior t.ensures.stands
    c.in-Ok.ensures.step c.in-Ok.ensures.stripe (c.bytes.ensures ∙ c.in-Ok.ensures.value) c.requires.value.0).0

pub give-requires-clause-stands : goal.give-requires-clause-stands
give-requires-clause-stands g c =
    let t = c.take_stripe-part in
    let f = g.S.Stage.front t.new.stage in
    subst (λ (h : FrontData). StripeStands h c.stripe_of-stripe.result c.read.new.self) (sym c.note_step.ensures.front)
    (get_at (g.S.Stage.front c.args.stage.now) f (g.S.Stage.number c.args.stage.now) (g.S.Stage.number t.new.stage) c.stripe_of-stripe.result c.args.now c.args.stripes c.args.key.now c.args.prior
    (g.S.Stage.holds c.args.stage.now) (g.S.Stage.holds t.new.stage) t.result c.read.new.self c.args.value.now.bytes c.bytes.result.now c.in-Ok.step
    t.ensures.front t.ensures.stays.number c.stripe_of-stripe.ensures.stripe c.requires.stripes.0 t.ensures.held t.ensures.legal c.requires.eviction c.requires.prior t.ensures.stands
    c.in-Ok.ensures.step c.in-Ok.ensures.stripe (c.bytes.ensures ∙ c.in-Ok.ensures.value) c.requires.value.0).2
