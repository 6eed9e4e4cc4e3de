use Rattle.std.proofs.Common.{◌∙◌, ap, sym, subst}
use Rattle.ep_model.specs.declared.event.PartName.TheVariants.{Stripe}
use Rattle.ep_model.specs.declared.data.EventData.TheVariants as events
use Rattle.ep_model.specs.declared.data.FrontData.{FrontData}
use Rattle.ep_model.specs.Front.{with_event}
use Rattle.flat_parts.specs.declared.data.Outcome.TheVariants as outcomes
use Rattle.ep_drill.specs.declared.data.FoundData.{FoundData}
use Rattle.ep_drill.specs.Fetches.{found_data, IsRow}
use Rattle.ep_drill.proofs.FetchLemmas.{has_place, merged_at, never_at, absent_at, no_memory_at, fail_covers, fail_own, fail_may, fail_desk, fail_stripe, part_place, part_outcome, part_becomes, back_becomes, back_outcome, back_value}
use Rattle.ep_drill.proofs.fetch.fetch_merge.Goals as goal

pub settle-requires-clause-stands : goal.settle-requires-clause-stands
settle-requires-clause-stands g c =
    let t = c.take_stripe-part in
    let a = c.args.fetched in
    merged_at (g.S.Stage.front c.args.stage.now) (g.S.Stage.front t.new.stage) a.ticket a.key.items (found_data a.found) t.result t.ensures.front t.ensures.legal c.requires.eviction c.requires.stands t.ensures.stands
    c.in-Row.row.meta c.in-Row.row.value.items c.deref.result.now c.put_back.new.part c.put_back.result (ap found_data c.in-Row.is) c.deref.ensures.value
    (has_place c.outcome.result c.is_none.result t.result.places a.ticket.number c.outcome.ensures c.is_none.ensures c.if-is_none.false) c.put_back.ensures c.if-put_back.true

-- who still waits gets a row back
pub settle-requires-else-put_back-clause-stands : goal.settle-requires-else-put_back-clause-stands
settle-requires-else-put_back-clause-stands g c =
    let t = c.take_stripe-part in
    let a = c.args.fetched in
    absurd (
    never_at (g.S.Stage.front c.args.stage.now) (g.S.Stage.front t.new.stage) a.ticket a.key.items (found_data a.found) t.result t.ensures.front t.ensures.legal c.requires.eviction c.requires.stands t.ensures.stands
    c.in-Row.row.meta c.in-Row.row.value.items c.deref.result.now c.put_back.new.part c.put_back.result (ap found_data c.in-Row.is) c.deref.ensures.value
    (has_place c.outcome.result c.is_none.result t.result.places a.ticket.number c.outcome.ensures c.is_none.ensures c.if-is_none.false) c.in-Row.row.measured c.put_back.ensures c.if-put_back.false
    )

pub settle-requires-in-Absent-clause-stands : goal.settle-requires-in-Absent-clause-stands
settle-requires-in-Absent-clause-stands g c =
    let t = c.take_stripe-part in
    let a = c.args.fetched in
    absent_at (g.S.Stage.front c.args.stage.now) (g.S.Stage.front t.new.stage) a.ticket a.key.items (found_data a.found) t.result t.ensures.front t.ensures.legal c.requires.eviction c.requires.stands t.ensures.stands
    (ap found_data c.in-Absent.is)

pub note-requires-clause-covered : goal.note-requires-clause-covered
note-requires-clause-covered g c =
    let t = c.take_stripe-part in
    let d = c.take_desk-desk in
    fail_covers (g.S.Stage.front d.new.stage) c.args.fetched.ticket c.in-Failed.fault (g.S.Stage.holds c.args.stage.now) (g.S.Stage.holds t.new.stage) (g.S.Stage.holds d.new.stage) t.ensures.held d.ensures.held

pub note-requires-clause-may : goal.note-requires-clause-may
note-requires-clause-may g c =
    let t = c.take_stripe-part in
    let d = c.take_desk-desk in
    let a = c.args.fetched in
    fail_may (g.S.Stage.front c.args.stage.now) (g.S.Stage.front t.new.stage) (g.S.Stage.front d.new.stage) a.ticket a.key.items (found_data a.found) c.in-Failed.fault t.ensures.front d.ensures.front c.requires.stands (ap found_data c.in-Failed.is)
    t.result t.ensures.stands

pub note-requires-clause-own : goal.note-requires-clause-own
note-requires-clause-own g c =
    let t = c.take_stripe-part in
    let d = c.take_desk-desk in
    fail_own (g.S.Stage.number d.new.stage) (g.S.Stage.is_desk d.new.stage) c.args.fetched.ticket c.in-Failed.fault (d.ensures.stays.desk ∙ t.ensures.stays.desk ∙ c.requires.is_desk)

pub give-requires-in-Failed-clause-stands : goal.give-requires-in-Failed-clause-stands
give-requires-in-Failed-clause-stands g c =
    let t = c.take_stripe-part in
    let d = c.take_desk-desk in
    let a = c.args.fetched in
    fail_desk (g.S.Stage.front c.args.stage.now) (g.S.Stage.front t.new.stage) (g.S.Stage.front d.new.stage) a.ticket a.key.items (found_data a.found) c.in-Failed.fault t.ensures.front d.ensures.front c.requires.stands (ap found_data c.in-Failed.is)
    (g.S.Stage.front c.note.new.self) d.result.persisted (c.note.ensures.alone (d.ensures.stays.telling ∙ t.ensures.stays.telling ∙ c.requires.telling)) d.ensures.stands

pub settle-requires-in-Failed-clause-stands : goal.settle-requires-in-Failed-clause-stands
settle-requires-in-Failed-clause-stands g c =
    let t = c.take_stripe-part in
    let d = c.take_desk-desk in
    let a = c.args.fetched in
    fail_stripe (g.S.Stage.front c.args.stage.now) (g.S.Stage.front t.new.stage) (g.S.Stage.front d.new.stage) a.ticket a.key.items (found_data a.found) c.in-Failed.fault t.ensures.front d.ensures.front c.requires.stands (ap found_data c.in-Failed.is)
    (g.S.Stage.front c.note.new.self) (g.S.Stage.front c.give-in-Failed.new.self) t.result (c.note.ensures.alone (d.ensures.stays.telling ∙ t.ensures.stays.telling ∙ c.requires.telling)) c.give-in-Failed.ensures.front t.ensures.stands

pub settle-requires-in-NoMemory-clause-stands : goal.settle-requires-in-NoMemory-clause-stands
settle-requires-in-NoMemory-clause-stands g c =
    let t = c.take_stripe-part in
    no_memory_at (g.S.Stage.front t.new.stage) c.args.fetched.ticket t.result t.ensures.stands

-- what the settled stripe tells of the ticket, and of the key
pub returns-then-put_back-clause-merged : goal.returns-then-put_back-clause-merged
returns-then-put_back-clause-merged g c =
    let t = c.take_stripe-part in
    let a = c.args.fetched in
    let y = c.put_back.new.part in
    let row = c.in-Row.row in
    let has = has_place c.outcome.result c.is_none.result t.result.places a.ticket.number c.outcome.ensures c.is_none.ensures c.if-is_none.false in
    let telling = t.ensures.stays.telling ∙ c.requires.telling in (
      c.settle.ensures.front ∙ t.ensures.front,
      part_place (g.S.Stage.tells c.args.stage.now (Stripe a.ticket.stripe)) a.ticket t.result t.ensures.was_there has,
      back_outcome (g.S.Stage.front c.args.stage.now) (g.S.Stage.front t.new.stage) a.ticket (g.S.Stage.is_telling t.new.stage) (g.S.Stage.tells t.new.stage) (g.S.Stage.tells c.settle.new.stage) y outcomes.Merged
          (ap (λ (f : FrontData). f.config) t.ensures.front) c.requires.there telling c.settle.ensures.tells a.key.items c.deref.result.now row.meta row.value.items t.result c.put_back.result c.deref.ensures.value c.put_back.ensures c.if-put_back.true has,
      back_value (g.S.Stage.front c.args.stage.now) (g.S.Stage.front t.new.stage) a.ticket (g.S.Stage.is_telling t.new.stage) (g.S.Stage.tells t.new.stage) (g.S.Stage.tells c.settle.new.stage) y outcomes.Merged
          (ap (λ (f : FrontData). f.config) t.ensures.front) c.requires.there telling c.settle.ensures.tells a.key.items c.deref.result.now row.meta row.value.items t.result c.put_back.result c.deref.ensures.value c.put_back.ensures c.if-put_back.true,
      subst (λ (o : FoundData). IsRow o) (sym (ap found_data c.in-Row.is)) tt,
      back_becomes (g.S.Stage.front c.args.stage.now) (g.S.Stage.front t.new.stage) a.ticket (g.S.Stage.is_telling t.new.stage) (g.S.Stage.tells t.new.stage) (g.S.Stage.tells c.settle.new.stage) y outcomes.Merged
          (ap (λ (f : FrontData). f.config) t.ensures.front) c.requires.there telling c.settle.ensures.tells a.key.items c.deref.result.now row.meta row.value.items t.result c.put_back.result c.deref.ensures.value c.put_back.ensures c.if-put_back.true
          (g.S.Stage.tells c.args.stage.now (Stripe a.ticket.stripe)) (found_data a.found) t.ensures.was_there (ap found_data c.in-Row.is),
    )

pub returns-in-Row-clause-merged : goal.returns-in-Row-clause-merged
returns-in-Row-clause-merged g c =
    let t = c.take_stripe-part in
    let a = c.args.fetched in
    absurd (
    never_at (g.S.Stage.front c.args.stage.now) (g.S.Stage.front t.new.stage) a.ticket a.key.items (found_data a.found) t.result t.ensures.front t.ensures.legal c.requires.eviction c.requires.stands t.ensures.stands
    c.in-Row.row.meta c.in-Row.row.value.items c.deref.result.now c.put_back.new.part c.put_back.result (ap found_data c.in-Row.is) c.deref.ensures.value
    (has_place c.outcome.result c.is_none.result t.result.places a.ticket.number c.outcome.ensures c.is_none.ensures c.if-is_none.false) c.in-Row.row.measured c.put_back.ensures c.if-put_back.false
    )

pub returns-in-Absent-clause-merged : goal.returns-in-Absent-clause-merged
returns-in-Absent-clause-merged g c =
    let t = c.take_stripe-part in
    let a = c.args.fetched in
    let r = c.settle-in-Absent in
    let has = has_place c.outcome.result c.is_none.result t.result.places a.ticket.number c.outcome.ensures c.is_none.ensures c.if-is_none.false in (
      r.ensures.front ∙ t.ensures.front,
      part_place (g.S.Stage.tells c.args.stage.now (Stripe a.ticket.stripe)) a.ticket t.result t.ensures.was_there has,
      ap found_data c.in-Absent.is,
      part_outcome (g.S.Stage.front c.args.stage.now) (g.S.Stage.front t.new.stage) a.ticket (g.S.Stage.is_telling t.new.stage) (g.S.Stage.tells t.new.stage) (g.S.Stage.tells r.new.stage) t.result outcomes.Absent
          (ap (λ (f : FrontData). f.config) t.ensures.front) c.requires.there (t.ensures.stays.telling ∙ c.requires.telling) r.ensures.tells has,
      part_becomes (g.S.Stage.front c.args.stage.now) (g.S.Stage.front t.new.stage) a.ticket (g.S.Stage.is_telling t.new.stage) (g.S.Stage.tells t.new.stage) (g.S.Stage.tells r.new.stage) t.result outcomes.Absent
          (ap (λ (f : FrontData). f.config) t.ensures.front) c.requires.there (t.ensures.stays.telling ∙ c.requires.telling) r.ensures.tells (g.S.Stage.tells c.args.stage.now (Stripe a.ticket.stripe)) t.ensures.was_there,
    )

pub returns-in-Failed-clause-merged : goal.returns-in-Failed-clause-merged
returns-in-Failed-clause-merged g c =
    let t = c.take_stripe-part in
    let d = c.take_desk-desk in
    let n = c.note in
    let v = c.give-in-Failed in
    let a = c.args.fetched in
    let r = c.settle-in-Failed in
    let has = has_place c.outcome.result c.is_none.result t.result.places a.ticket.number c.outcome.ensures c.is_none.ensures c.if-is_none.false in
    let held = d.ensures.stays.telling ∙ t.ensures.stays.telling ∙ c.requires.telling in
    let noted = n.ensures.alone held in (
      c.in-Failed.fault,
      ap found_data c.in-Failed.is,
      r.ensures.front ∙ v.ensures.front ∙ noted ∙ ap (λ (f : FrontData). with_event f (events.ReadFailed a.ticket c.in-Failed.fault)) (d.ensures.front ∙ t.ensures.front),
      part_place (g.S.Stage.tells c.args.stage.now (Stripe a.ticket.stripe)) a.ticket t.result t.ensures.was_there has,
      part_outcome (g.S.Stage.front c.args.stage.now) (g.S.Stage.front v.new.self) a.ticket (g.S.Stage.is_telling v.new.self) (g.S.Stage.tells v.new.self) (g.S.Stage.tells r.new.stage) t.result (outcomes.Failed c.in-Failed.fault)
          (ap (λ (f : FrontData). f.config) (v.ensures.front ∙ noted) ∙ ap (λ (f : FrontData). f.config) (d.ensures.front ∙ t.ensures.front)) c.requires.there (v.ensures.stays.telling ∙ n.ensures.stays.telling ∙ held) r.ensures.tells has,
      part_becomes (g.S.Stage.front c.args.stage.now) (g.S.Stage.front v.new.self) a.ticket (g.S.Stage.is_telling v.new.self) (g.S.Stage.tells v.new.self) (g.S.Stage.tells r.new.stage) t.result (outcomes.Failed c.in-Failed.fault)
          (ap (λ (f : FrontData). f.config) (v.ensures.front ∙ noted) ∙ ap (λ (f : FrontData). f.config) (d.ensures.front ∙ t.ensures.front)) c.requires.there (v.ensures.stays.telling ∙ n.ensures.stays.telling ∙ held) r.ensures.tells (g.S.Stage.tells c.args.stage.now (Stripe a.ticket.stripe)) t.ensures.was_there,
    )

pub returns-clause-merged : goal.returns-clause-merged
returns-clause-merged g c =
    let t = c.take_stripe-part in
    let a = c.args.fetched in
    let r = c.settle-in-NoMemory in
    let has = has_place c.outcome.result c.is_none.result t.result.places a.ticket.number c.outcome.ensures c.is_none.ensures c.if-is_none.false in (
      r.ensures.front ∙ t.ensures.front,
      ap found_data c.in-NoMemory.is,
      part_place (g.S.Stage.tells c.args.stage.now (Stripe a.ticket.stripe)) a.ticket t.result t.ensures.was_there has,
      part_outcome (g.S.Stage.front c.args.stage.now) (g.S.Stage.front t.new.stage) a.ticket (g.S.Stage.is_telling t.new.stage) (g.S.Stage.tells t.new.stage) (g.S.Stage.tells r.new.stage) t.result outcomes.NoMemory
          (ap (λ (f : FrontData). f.config) t.ensures.front) c.requires.there (t.ensures.stays.telling ∙ c.requires.telling) r.ensures.tells has,
      part_becomes (g.S.Stage.front c.args.stage.now) (g.S.Stage.front t.new.stage) a.ticket (g.S.Stage.is_telling t.new.stage) (g.S.Stage.tells t.new.stage) (g.S.Stage.tells r.new.stage) t.result outcomes.NoMemory
          (ap (λ (f : FrontData). f.config) t.ensures.front) c.requires.there (t.ensures.stays.telling ∙ c.requires.telling) r.ensures.tells (g.S.Stage.tells c.args.stage.now (Stripe a.ticket.stripe)) t.ensures.was_there,
    )
