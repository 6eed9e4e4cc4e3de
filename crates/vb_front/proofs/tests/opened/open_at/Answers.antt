use Rattle.std.proofs.Common.{ap, subst, sym, ◌∙◌}
use Rattle.ep_model.specs.declared.data.EventData.TheVariants.{Opened}
use Rattle.ep_model.specs.declared.data.FrontData.{FrontData}
use Rattle.ep_model.specs.Front.{with_event}
use Rattle.ep_model.specs.Legal.{May}
use Rattle.hold_stage.specs.Touches.{there}
use Rattle.vb_front.specs.Stands.{StripeStands, QueueStands}
use Rattle.vb_front.proofs.OpenedLemmas.{stripe_opened, queue_opened}
use Rattle.vb_front.proofs.HeldLemmas.{opened_held, may_open, own_opened}
use Rattle.vb_front.proofs.tests.opened.open_at.Goals as goal

pub note-requires-clause-covered : goal.note-requires-clause-covered
note-requires-clause-covered g c =
    let t = c.take_all in let b = c.begin in
    let telling = t.ensures.stays.telling ∙ c.requires.telling in
    opened_held (g.S.Stage.front b.new.self) (g.S.Stage.holds b.new.self)
    (λ p. b.ensures.held p ∙ c.in-Some.ensures.held p ∙ ap (λ (f : FrontData). there f.config p) (sym t.ensures.front) ∙ ap (λ (f : FrontData). there f.config p) (sym (b.ensures.alone telling)))

pub note-requires-clause-may : goal.note-requires-clause-may
note-requires-clause-may g c =
    let t = c.take_all in let b = c.begin in
    subst (λ (f : FrontData). May f Opened) (sym (b.ensures.alone (t.ensures.stays.telling ∙ c.requires.telling)))
    (may_open (g.S.Stage.front t.new.stage) (ap (λ (f : FrontData). f.start) t.ensures.front ∙ c.requires.bare.0) (ap (λ (f : FrontData). f.events) t.ensures.front ∙ c.requires.bare.1))

pub note-requires-clause-own : goal.note-requires-clause-own
note-requires-clause-own g c = own_opened _ _ (c.begin.ensures.stays.desk ∙ c.take_all.ensures.stays.desk ∙ c.requires.desk)

pub give_all-requires-clause-stripe : goal.give_all-requires-clause-stripe
give_all-requires-clause-stripe g c =
    let t = c.take_all in let b = c.begin in let x = c.in-Some.parts.stripe in
    let telling = t.ensures.stays.telling ∙ c.requires.telling in
    subst (λ (f : FrontData). StripeStands f 0 (record x { table = c.set_opened.new.self })) (sym (c.note.ensures.alone (b.ensures.stays.telling ∙ telling) ∙ ap (λ (f : FrontData). with_event f Opened) (b.ensures.alone telling)))
    (stripe_opened (g.S.Stage.front t.new.stage) x c.set_opened.new.self (ap (λ (f : FrontData). f.start) t.ensures.front ∙ c.requires.bare.0) (ap (λ (f : FrontData). f.events) t.ensures.front ∙ c.requires.bare.1)
    c.in-Some.ensures.stripe c.set_opened.ensures)

pub give_all-requires-clause-queue : goal.give_all-requires-clause-queue
give_all-requires-clause-queue g c =
    let t = c.take_all in let b = c.begin in let telling = t.ensures.stays.telling ∙ c.requires.telling in
    subst (λ (f : FrontData). QueueStands f c.set_opened-2.new.self) (sym (c.note.ensures.alone (b.ensures.stays.telling ∙ telling) ∙ ap (λ (f : FrontData). with_event f Opened) (b.ensures.alone telling)))
    (queue_opened (g.S.Stage.front t.new.stage) c.in-Some.parts.queue c.set_opened-2.new.self (ap (λ (f : FrontData). f.start) t.ensures.front ∙ c.requires.bare.0) (ap (λ (f : FrontData). f.events) t.ensures.front ∙ c.requires.bare.1)
    c.in-Some.ensures.queue c.set_opened-2.ensures)
