use Rattle.std.proofs.Common.{◌≡◌, ap, subst, sym, ◌∙◌}
use Rattle.ep_model.specs.declared.data.EventData.TheVariants.{Persisted}
use Rattle.ep_model.specs.declared.data.FrontData.{FrontData}
use Rattle.ep_model.specs.declared.event.PartName.TheVariants.{Stripe}
use Rattle.ep_model.specs.Front.{world_of, with_event}
use Rattle.hold_stage.specs.Touches.{there}
use Rattle.ckpt_manager.specs.declared.data.QueueData.{QueueData}
use Rattle.vb_front.specs.declared.part.Part.TheVariants as parts
use Rattle.vb_front.specs.Stands.{QueueStands}
use Rattle.hold_stage.proofs.OwnLemmas.{own_persisted}
use Rattle.vb_front.proofs.QueueLemmas.{queue_stores}
use Rattle.vb_front.proofs.OpenedLemmas.{desk_persisted}
use Rattle.vb_front.proofs.HeldLemmas.{persisted_held, may_persist, untouched_stored, later_by}
use Rattle.vb_front.proofs.tests.opened.persist_at.Goals as goal

pub note-requires-clause-covered : goal.note-requires-clause-covered
note-requires-clause-covered g c =
    let t = c.take_all in
    persisted_held (g.S.Stage.front t.new.stage) (g.S.Stage.holds t.new.stage)
    (λ p. c.in-Some.ensures.held p ∙ ap (λ (f : FrontData). there f.config p) (sym t.ensures.front)) c.high-number.result

pub note-requires-clause-may : goal.note-requires-clause-may
note-requires-clause-may g c =
    let t = c.take_all in let q = c.in-Some.parts.queue in
    (may_persist (g.S.Stage.front t.new.stage) q c.high-number.result c.persisted.result c.in-Some.ensures.queue (sym c.is_opened.ensures ∙ c.if-not-is_opened.false) c.high-number.ensures.high c.persisted.ensures.persisted c.if-number-persisted.false)

pub note-requires-clause-own : goal.note-requires-clause-own
note-requires-clause-own g c =
    own_persisted _ _ _ (c.take_all.ensures.stays.desk ∙ c.requires.desk)

pub give_all-requires-2-clause-stripe : goal.give_all-requires-2-clause-stripe
give_all-requires-2-clause-stripe g c =
    let t = c.take_all in
    c.note.ensures.noted.apart (Stripe 0) (parts.Stripe c.in-Some.parts.stripe) (c.in-Some.ensures.held (Stripe 0) ∙ ap (λ (f : FrontData). there f.config (Stripe 0)) (sym t.ensures.front) ∙ c.in-Some.ensures.stripe.there)
    (untouched_stored (g.S.Stage.front t.new.stage) c.high-number.result 0) c.in-Some.ensures.stripe

pub give_all-requires-2-clause-queue : goal.give_all-requires-2-clause-queue
give_all-requires-2-clause-queue g c =
    let t = c.take_all in let q = c.in-Some.parts.queue in let r = c.set_persisted.new.self in
    subst (λ (f : FrontData). QueueStands f r) (sym (c.note.ensures.alone (t.ensures.stays.telling ∙ c.requires.telling)))
    (subst (λ (q : QueueData). QueueStands (with_event (g.S.Stage.front t.new.stage) (Persisted c.high-number.result)) q) (sym c.set_persisted.ensures.after)
    (queue_stores (g.S.Stage.front t.new.stage) q c.high-number.result (may_persist (g.S.Stage.front t.new.stage) q c.high-number.result c.persisted.result c.in-Some.ensures.queue (sym c.is_opened.ensures ∙ c.if-not-is_opened.false) c.high-number.ensures.high c.persisted.ensures.persisted c.if-number-persisted.false) c.in-Some.ensures.queue))

pub give_all-requires-2-clause-desk : goal.give_all-requires-2-clause-desk
give_all-requires-2-clause-desk g c =
    let t = c.take_all in
    subst (λ (f : FrontData). c.high-number.result ≡ (world_of f).persisted) (sym (c.note.ensures.alone (t.ensures.stays.telling ∙ c.requires.telling))) (sym (desk_persisted (g.S.Stage.front t.new.stage) c.high-number.result))

pub returns-clause-later : goal.returns-clause-later
returns-clause-later g c =
    let t = c.take_all in
    λ _. later_by (g.S.Stage.front c.args.stage.now) (g.S.Stage.front c.give_all-2.new.stage) (Persisted c.high-number.result) (λ n. tt)
    (c.give_all-2.ensures.front ∙ (c.note.ensures.alone (t.ensures.stays.telling ∙ c.requires.telling)) ∙ ap (λ (f : FrontData). with_event f (Persisted c.high-number.result)) t.ensures.front)
