use Rattle.std.proofs.Common.{arith, ap, subst, sym, ◌∙◌}
use Rattle.ep_model.specs.declared.data.EventData.TheVariants.{Marked}
use Rattle.ep_model.specs.declared.data.FrontData.{FrontData}
use Rattle.ep_model.specs.declared.event.PartName.TheVariants.{Queue, Desk}
use Rattle.ep_model.specs.Front.{world_of, with_event}
use Rattle.hold_stage.specs.Touches.{there}
use Rattle.vb_front.specs.declared.part.Part.TheVariants as parts
use Rattle.vb_front.specs.Stands.{StripeStands}
use Rattle.hold_stage.proofs.OwnLemmas.{own_marked}
use Rattle.vb_front.proofs.OpenedLemmas.{stripe_marked}
use Rattle.vb_front.proofs.HeldLemmas.{marked_held, may_mark, untouched_marked, later_by}
use Rattle.vb_front.proofs.tests.opened.mark_at.Goals as goal

pub note-requires-clause-covered : goal.note-requires-clause-covered
note-requires-clause-covered g c =
    let t = c.take_all in
    marked_held (g.S.Stage.front t.new.stage) (g.S.Stage.holds t.new.stage)
    (λ p. c.in-Some.ensures.held p ∙ ap (λ (f : FrontData). there f.config p) (sym t.ensures.front)) c.in-Some.parts.desk.persisted (ap (λ (f : FrontData). f.config.stripes) t.ensures.front ∙ c.requires.only)

pub note-requires-clause-may : goal.note-requires-clause-may
note-requires-clause-may g c =
    let t = c.take_all in
    may_mark (g.S.Stage.front t.new.stage) c.in-Some.parts.queue c.in-Some.parts.stripe c.in-Some.parts.desk.persisted c.marked.result c.in-Some.ensures.queue c.in-Some.ensures.stripe (sym c.is_opened.ensures ∙ c.if-not-is_opened.false) c.in-Some.ensures.desk c.marked.ensures c.if-number-marked.false

pub note-requires-clause-own : goal.note-requires-clause-own
note-requires-clause-own g c =
    own_marked _ _ _ _

pub give_all-requires-2-clause-stripe : goal.give_all-requires-2-clause-stripe
give_all-requires-2-clause-stripe g c =
    let t = c.take_all in let x = c.in-Some.parts.stripe in
    let above = c.if-number-marked.false in let mark = c.marked.ensures in
    subst (λ (f : FrontData). StripeStands f 0 (record x { table = c.mark.new.self })) (sym (c.note.ensures.alone (t.ensures.stays.telling ∙ c.requires.telling)))
    (stripe_marked (g.S.Stage.front t.new.stage) c.in-Some.parts.desk.persisted x c.mark.new.self (ap (λ (f : FrontData). (world_of f).told) t.ensures.front ∙ c.requires.untold) (omega arith) c.in-Some.ensures.stripe c.mark.ensures)

pub give_all-requires-2-clause-queue : goal.give_all-requires-2-clause-queue
give_all-requires-2-clause-queue g c =
    let t = c.take_all in
    c.note.ensures.noted.apart Queue (parts.Queue c.in-Some.parts.queue) (c.in-Some.ensures.held Queue) (untouched_marked (g.S.Stage.front t.new.stage) c.in-Some.parts.desk.persisted 0).0 c.in-Some.ensures.queue

pub give_all-requires-2-clause-desk : goal.give_all-requires-2-clause-desk
give_all-requires-2-clause-desk g c =
    let t = c.take_all in
    c.note.ensures.noted.apart Desk (parts.Desk c.in-Some.parts.desk) (c.in-Some.ensures.held Desk) (untouched_marked (g.S.Stage.front t.new.stage) c.in-Some.parts.desk.persisted 0).1 c.in-Some.ensures.desk

pub returns-clause-later : goal.returns-clause-later
returns-clause-later g c =
    let t = c.take_all in
    λ _. later_by (g.S.Stage.front c.args.stage.now) (g.S.Stage.front c.give_all-2.new.stage) (Marked 0 c.in-Some.parts.desk.persisted) (λ n. tt)
    (c.give_all-2.ensures.front ∙ (c.note.ensures.alone (t.ensures.stays.telling ∙ c.requires.telling)) ∙ ap (λ (f : FrontData). with_event f (Marked 0 c.in-Some.parts.desk.persisted)) t.ensures.front)
