use Rattle.std.proofs.Common.{◌≡◌, ap, subst, sym, ◌∙◌}
use Rattle.ep_model.specs.declared.data.FrontData.{FrontData}
use Rattle.ep_model.specs.Front.{world_of}
use Rattle.hold_stage.specs.Touches.{there}
use Rattle.ep_model.specs.Legal.{HasAsked, IsNoFault}
use Rattle.std.specs.List.{AllByRecursion}
use Rattle.vb_front.specs.Stands.{StripeStands, QueueStands}
use Rattle.vb_front.proofs.OpenedLemmas.{stripe_failed, queue_failed, desk_failed}
use Rattle.vb_front.proofs.HeldLemmas.{failed_held, may_fail, own_failed}
use Rattle.vb_front.proofs.tests.opened.fail_at.Goals as goal

pub note-requires-clause-covered : goal.note-requires-clause-covered
note-requires-clause-covered g c =
    let t = c.take_all in
    failed_held (g.S.Stage.front t.new.stage) (g.S.Stage.holds t.new.stage)
    (λ p. c.in-Some.ensures.held p ∙ ap (λ (f : FrontData). there f.config p) (sym t.ensures.front)) c.args.ticket c.args.fault (ap (λ (f : FrontData). f.config.stripes) t.ensures.front ∙ c.requires.only) c.if-ticket-ne0.false

pub note-requires-clause-may : goal.note-requires-clause-may
note-requires-clause-may g c =
    let t = c.take_all in
    may_fail (g.S.Stage.front t.new.stage) c.args.ticket c.args.fault (subst (λ (f : FrontData). HasAsked f.events c.args.ticket) (sym t.ensures.front) c.requires.asked) (subst (λ (f : FrontData). AllByRecursion (IsNoFault c.args.fault) f.events) (sym t.ensures.front) c.requires.once)

pub note-requires-clause-own : goal.note-requires-clause-own
note-requires-clause-own g c =
    own_failed _ _ _ _ (c.take_all.ensures.stays.desk ∙ c.requires.desk)

pub give_all-requires-clause-stripe : goal.give_all-requires-clause-stripe
give_all-requires-clause-stripe g c =
    let t = c.take_all in let x = c.in-Some.parts.stripe in
    subst (λ (f : FrontData). StripeStands f 0 (record x { book = c.settle-settled.new.self })) (sym (c.note.ensures.alone (t.ensures.stays.telling ∙ c.requires.telling)))
    (stripe_failed (g.S.Stage.front t.new.stage) c.args.ticket c.args.fault (ap (λ (f : FrontData). (world_of f).told) t.ensures.front ∙ c.requires.untold) x c.settle-settled.new.self (sym c.used.ensures.used ∙ c.if-used-ne1.false) c.in-Some.ensures.stripe c.settle-settled.ensures.after)

pub give_all-requires-clause-queue : goal.give_all-requires-clause-queue
give_all-requires-clause-queue g c =
    let t = c.take_all in
    subst (λ (f : FrontData). QueueStands f c.in-Some.parts.queue) (sym (c.note.ensures.alone (t.ensures.stays.telling ∙ c.requires.telling)))
    (queue_failed (g.S.Stage.front t.new.stage) c.args.ticket c.args.fault (ap (λ (f : FrontData). (world_of f).told) t.ensures.front ∙ c.requires.untold) c.in-Some.parts.queue c.in-Some.ensures.queue)

pub give_all-requires-clause-desk : goal.give_all-requires-clause-desk
give_all-requires-clause-desk g c =
    let t = c.take_all in
    subst (λ (f : FrontData). c.in-Some.parts.desk.persisted ≡ (world_of f).persisted) (sym (c.note.ensures.alone (t.ensures.stays.telling ∙ c.requires.telling)))
    (desk_failed (g.S.Stage.front t.new.stage) c.args.ticket c.args.fault (ap (λ (f : FrontData). (world_of f).told) t.ensures.front ∙ c.requires.untold) c.in-Some.parts.desk.persisted c.in-Some.ensures.desk)
