use Rattle.std.proofs.Common.{◌∙◌, ap, sym}
use Rattle.ep_model.specs.declared.data.FrontData.{FrontData}
use Rattle.ep_model.specs.Front.{empty_start}
use Rattle.hold_stage.specs.Touches.{there}
use Rattle.ep_drill.proofs.OpenLemmas.{may_open, own_opened, open_covered}
use Rattle.ep_drill.proofs.open.open_parts.Goals as goal

pub note-requires-clause-covered : goal.note-requires-clause-covered
note-requires-clause-covered g c =
    let t = c.take_all in
    let b = c.begin in
    let front = b.ensures.alone (t.ensures.stays.telling ∙ c.requires.telling) in
    open_covered (g.S.Stage.front b.new.self) (g.S.Stage.holds b.new.self)
    (λ p is. b.ensures.held p ∙ t.ensures.held p ∙ sym (ap (λ (f : FrontData). there f.config p) front ∙ ap (λ (f : FrontData). there f.config p) t.ensures.front) ∙ is)

pub note-requires-clause-may : goal.note-requires-clause-may
note-requires-clause-may g c =
    let t = c.take_all in
    let b = c.begin in
    let front = b.ensures.alone (t.ensures.stays.telling ∙ c.requires.telling) in
    may_open (g.S.Stage.front b.new.self) empty_start (ap (λ (f : FrontData). f.start) front) (ap (λ (f : FrontData). f.events) front ∙ ap (λ (f : FrontData). f.events) t.ensures.front ∙ c.requires.bare.1)

pub note-requires-clause-own : goal.note-requires-clause-own
note-requires-clause-own g c = own_opened (g.S.Stage.number c.begin.new.self) (g.S.Stage.is_desk c.begin.new.self) (c.begin.ensures.stays.desk ∙ c.take_all.ensures.stays.desk ∙ c.requires.is_desk)
