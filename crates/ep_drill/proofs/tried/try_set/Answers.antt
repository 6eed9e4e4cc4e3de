use Rattle.std.proofs.Common.{◌∙◌, subst, sym}
use Rattle.ep_model.specs.declared.data.FrontData.{FrontData}
use Rattle.ep_drill.specs.Stands.{StripeStands, QueueStands}
use Rattle.ep_drill.proofs.CallLemmas.{set_at}
use Rattle.ep_drill.proofs.tried.try_set.Goals as goal

pub note_step-requires-clause-covered : goal.note_step-requires-clause-covered
note_step-requires-clause-covered g c =
    let t = c.take_stripe-part in
    let u = c.take_queue-queue in
    (set_at (g.S.Stage.front c.args.stage.now) (g.S.Stage.front t.new.stage) (g.S.Stage.front u.new.stage) (g.S.Stage.number c.args.stage.now) (g.S.Stage.number t.new.stage) (g.S.Stage.number u.new.stage) c.stripe_of-stripe.result c.args.now c.args.config.now c.args.key.now c.args.value.now c.args.flags c.args.expiration c.args.cas c.min-fit.result c.args.prior
    (g.S.Stage.holds c.args.stage.now) (g.S.Stage.holds t.new.stage) (g.S.Stage.holds u.new.stage) t.result c.write.new.stripe u.result c.write.new.queue c.in-Ok.step
    t.ensures.front u.ensures.front t.ensures.stays.number u.ensures.stays.number c.stripe_of-stripe.ensures.stripe c.requires.config.0 c.min-fit.ensures t.ensures.held u.ensures.held u.ensures.legal t.ensures.stands u.ensures.stands
    c.in-Ok.ensures.step c.in-Ok.ensures.stripe c.in-Ok.ensures.queue).1

pub note_step-requires-clause-may : goal.note_step-requires-clause-may
note_step-requires-clause-may g c =
    let t = c.take_stripe-part in
    let u = c.take_queue-queue in
    (set_at (g.S.Stage.front c.args.stage.now) (g.S.Stage.front t.new.stage) (g.S.Stage.front u.new.stage) (g.S.Stage.number c.args.stage.now) (g.S.Stage.number t.new.stage) (g.S.Stage.number u.new.stage) c.stripe_of-stripe.result c.args.now c.args.config.now c.args.key.now c.args.value.now c.args.flags c.args.expiration c.args.cas c.min-fit.result c.args.prior
    (g.S.Stage.holds c.args.stage.now) (g.S.Stage.holds t.new.stage) (g.S.Stage.holds u.new.stage) t.result c.write.new.stripe u.result c.write.new.queue c.in-Ok.step
    t.ensures.front u.ensures.front t.ensures.stays.number u.ensures.stays.number c.stripe_of-stripe.ensures.stripe c.requires.config.0 c.min-fit.ensures t.ensures.held u.ensures.held u.ensures.legal t.ensures.stands u.ensures.stands
    c.in-Ok.ensures.step c.in-Ok.ensures.stripe c.in-Ok.ensures.queue).0

pub give-requires-clause-stands : goal.give-requires-clause-stands
give-requires-clause-stands g c =
    let t = c.take_stripe-part in
    let u = c.take_queue-queue in
    subst (λ (h : FrontData). QueueStands h c.write.new.queue) (sym c.note_step.ensures.front)
    (set_at (g.S.Stage.front c.args.stage.now) (g.S.Stage.front t.new.stage) (g.S.Stage.front u.new.stage) (g.S.Stage.number c.args.stage.now) (g.S.Stage.number t.new.stage) (g.S.Stage.number u.new.stage) c.stripe_of-stripe.result c.args.now c.args.config.now c.args.key.now c.args.value.now c.args.flags c.args.expiration c.args.cas c.min-fit.result c.args.prior
    (g.S.Stage.holds c.args.stage.now) (g.S.Stage.holds t.new.stage) (g.S.Stage.holds u.new.stage) t.result c.write.new.stripe u.result c.write.new.queue c.in-Ok.step
    t.ensures.front u.ensures.front t.ensures.stays.number u.ensures.stays.number c.stripe_of-stripe.ensures.stripe c.requires.config.0 c.min-fit.ensures t.ensures.held u.ensures.held u.ensures.legal t.ensures.stands u.ensures.stands
    c.in-Ok.ensures.step c.in-Ok.ensures.stripe c.in-Ok.ensures.queue).3

pub give-requires-in-Ok-clause-stands : goal.give-requires-in-Ok-clause-stands
give-requires-in-Ok-clause-stands g c =
    let t = c.take_stripe-part in
    let u = c.take_queue-queue in
    subst (λ (h : FrontData). StripeStands h c.stripe_of-stripe.result c.write.new.stripe) (sym (c.give.ensures.front ∙ c.note_step.ensures.front))
    (set_at (g.S.Stage.front c.args.stage.now) (g.S.Stage.front t.new.stage) (g.S.Stage.front u.new.stage) (g.S.Stage.number c.args.stage.now) (g.S.Stage.number t.new.stage) (g.S.Stage.number u.new.stage) c.stripe_of-stripe.result c.args.now c.args.config.now c.args.key.now c.args.value.now c.args.flags c.args.expiration c.args.cas c.min-fit.result c.args.prior
    (g.S.Stage.holds c.args.stage.now) (g.S.Stage.holds t.new.stage) (g.S.Stage.holds u.new.stage) t.result c.write.new.stripe u.result c.write.new.queue c.in-Ok.step
    t.ensures.front u.ensures.front t.ensures.stays.number u.ensures.stays.number c.stripe_of-stripe.ensures.stripe c.requires.config.0 c.min-fit.ensures t.ensures.held u.ensures.held u.ensures.legal t.ensures.stands u.ensures.stands
    c.in-Ok.ensures.step c.in-Ok.ensures.stripe c.in-Ok.ensures.queue).2
