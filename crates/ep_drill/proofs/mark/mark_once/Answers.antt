use Rattle.std.proofs.Common.{rules, Some, subst, ◌∙◌}
use Rattle.ep_model.specs.declared.event.PartName.TheVariants.{Stripe}
use Rattle.ep_model.specs.declared.data.EventData.TheVariants.{Marked as MarkedData}
use Rattle.hold_stage.specs.Went.{Went}
use Rattle.hold_stage.proofs.OwnLemmas.{own_marked, marked_covered, taken_held, taken_among}
use Rattle.hold_stage.proofs.WentLemmas.{went_taken}
use Rattle.ep_drill.specs.Parts.{part_stands}
use Rattle.ep_drill.proofs.MarkLemmas.{mark_may, mark_known, mark_stands}
use Rattle.ep_drill.proofs.mark.mark_once.Goals as goal

pub note-requires-clause-covered : goal.note-requires-clause-covered
note-requires-clause-covered g c =
    let t = c.try_take_stripe in
    marked_covered (g.S.Stage.front t.new.stage) c.args.stripe c.noted-number.result (g.S.Stage.holds c.args.stage.now) (g.S.Stage.holds t.new.stage) c.in-Ok.ensures.held

pub note-requires-clause-may : goal.note-requires-clause-may
note-requires-clause-may g c =
    let t = c.try_take_stripe in
    mark_may (g.S.Stage.front c.args.stage.now) (g.S.Stage.front t.new.stage) (g.S.Stage.holds c.args.stage.now) (g.S.Stage.number c.args.stage.now) (g.S.Stage.is_desk c.args.stage.now) c.args.stripe c.noted-number.result c.marked.result c.in-Ok.part
    t.ensures.grown c.requires.is_desk (c.noted-number.ensures ∙ c.requires.noted) t.ensures.legal c.in-Ok.ensures.taken.0 c.marked.ensures c.if-marked-number.false

pub note-requires-clause-own : goal.note-requires-clause-own
note-requires-clause-own g c = own_marked _ _ _ _

pub give-requires-2-clause-stands : goal.give-requires-2-clause-stands
give-requires-2-clause-stands g c =
    let t = c.try_take_stripe in
    mark_stands (g.S.Stage.front t.new.stage) (g.S.Stage.front c.note.new.self) (g.S.Stage.holds t.new.stage) (g.S.Stage.number t.new.stage) (g.S.Stage.is_desk t.new.stage) c.args.stripe c.noted-number.result
    c.note.ensures.noted c.note.ensures.legal c.in-Ok.part c.raise.new.self (taken_held (Stripe c.args.stripe) (g.S.Stage.holds c.args.stage.now) (g.S.Stage.holds t.new.stage) c.in-Ok.ensures.held) c.in-Ok.ensures.taken.0 c.raise.ensures

pub returns-clause-went : goal.returns-clause-went
returns-clause-went g c =
    let t = c.try_take_stripe in let f = c.args.stage.now in
    subst (λ n. Went (g.S.Stage.front f) (g.S.Stage.front c.give-2.new.self) (g.S.Stage.holds f) (g.S.Stage.number f) (g.S.Stage.is_desk f) (Some (MarkedData c.args.stripe n))) c.noted-number.ensures
    (went_taken part_stands (g.S.Stage.front f) (g.S.Stage.front t.new.stage) (g.S.Stage.front c.note.new.self) (g.S.Stage.front c.give-2.new.self) (g.S.Stage.holds f) (g.S.Stage.holds t.new.stage) (g.S.Stage.number f) (g.S.Stage.number t.new.stage) (g.S.Stage.is_desk f) (g.S.Stage.is_desk t.new.stage)
    (MarkedData c.args.stripe c.noted-number.result) t.ensures.grown (taken_among (Stripe c.args.stripe) (g.S.Stage.holds f) (g.S.Stage.holds t.new.stage) c.in-Ok.ensures.held) t.ensures.stays.number t.ensures.stays.desk c.note.ensures.noted c.note.ensures.legal c.give-2.ensures.front)

pub returns-clause-marked : goal.returns-clause-marked
returns-clause-marked g c =
    let t = c.try_take_stripe in
    let known =
    mark_known (g.S.Stage.front t.new.stage) (g.S.Stage.front c.note.new.self) (g.S.Stage.holds t.new.stage) (g.S.Stage.number t.new.stage) (g.S.Stage.is_desk t.new.stage) c.args.stripe c.noted-number.result
    c.note.ensures.noted c.note.ensures.legal (g.S.Stage.front c.give-2.new.self) c.args.desk.now.noted c.give-2.ensures.front c.noted-number.ensures in
    let same = c.give-2.ensures.losses ∙ c.note.ensures.losses ∙ c.in-Ok.ensures.taken.1 in
    search rules
