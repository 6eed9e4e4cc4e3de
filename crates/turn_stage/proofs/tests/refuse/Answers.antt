use Rattle.std.proofs.Common.{Some, sym, ap, subst, ◌∙◌}
use Rattle.ep_model.specs.declared.config.Config.{Config}
use Rattle.ep_model.specs.declared.event.Cause.TheVariants.{Warming}
use Rattle.ep_model.specs.declared.data.CallData.TheVariants.{Get}
use Rattle.ep_model.specs.declared.event.PartName.TheVariants.{Stripe}
use Rattle.hold_stage.specs.Went.{Went}
use Rattle.hold_stage.proofs.OwnLemmas.{own_refused, taken_among}
use Rattle.hold_stage.proofs.WentLemmas.{went_taken}
use Rattle.turn_stage.specs.Unopened.{IsUnopened}
use Rattle.turn_stage.specs.Made.{refusal}
use Rattle.turn_stage.specs.declared.tests.Tally.{Tally}
use Rattle.turn_stage.proofs.UnopenedLemmas.{refused_may, refused_covered, refused_unopened}
use Rattle.turn_stage.proofs.tests.refuse.Goals as goal

pub note-requires-clause-covered : goal.note-requires-clause-covered
note-requires-clause-covered g c =
    refused_covered (g.S.Stage.front c.take.new.self) (g.S.Stage.holds c.args.stage.now) (g.S.Stage.holds c.take.new.self) c.stripe_of.result c.args.stripes c.caller-caller.result c.args.key.now c.args.now
    c.stripe_of.ensures.stripe (ap (λ (k : Config). k.stripes) c.take.ensures.grown.config ∙ c.requires.stripes) c.in-Ok.ensures.held

pub note-requires-clause-may : goal.note-requires-clause-may
note-requires-clause-may g c =
    refused_may (g.S.Stage.front c.take.new.self) c.stripe_of.result c.args.stripes c.caller-caller.result c.args.key.now c.args.now
    c.stripe_of.ensures.below (ap (λ (k : Config). k.stripes) c.take.ensures.grown.config ∙ c.requires.stripes) c.in-Ok.ensures.taken.0

pub note-requires-clause-own : goal.note-requires-clause-own
note-requires-clause-own g c =
    own_refused c.caller-caller.result (g.S.Stage.number c.take.new.self) (g.S.Stage.is_desk c.take.new.self) (Get c.args.key.now) c.args.now Warming (c.caller-caller.ensures ∙ sym c.take.ensures.stays.number)

pub give-requires-clause-stands : goal.give-requires-clause-stands
give-requires-clause-stands g c =
    refused_unopened (g.S.Stage.front c.take.new.self) (g.S.Stage.front c.note.new.self) (g.S.Stage.holds c.args.stage.now) (g.S.Stage.holds c.take.new.self) (g.S.Stage.number c.take.new.self) (g.S.Stage.is_desk c.take.new.self)
    c.stripe_of.result c.caller-caller.result c.args.key.now c.args.now c.in-Ok.tally c.in-Ok.ensures.held c.in-Ok.ensures.taken.0 c.note.ensures.noted

pub returns-clause-went : goal.returns-clause-went
returns-clause-went g c =
    let f = c.args.stage.now in
    let t = c.take in
    subst (λ n. Went (g.S.Stage.front f) (g.S.Stage.front c.give.new.self) (g.S.Stage.holds f) (g.S.Stage.number f) (g.S.Stage.is_desk f) (Some (refusal n c.args.key.now c.args.now))) c.caller-caller.ensures
    (went_taken (λ p k (x : Tally). IsUnopened p k) (g.S.Stage.front f) (g.S.Stage.front t.new.self) (g.S.Stage.front c.note.new.self) (g.S.Stage.front c.give.new.self) (g.S.Stage.holds f) (g.S.Stage.holds t.new.self)
    (g.S.Stage.number f) (g.S.Stage.number t.new.self) (g.S.Stage.is_desk f) (g.S.Stage.is_desk t.new.self) (refusal c.caller-caller.result c.args.key.now c.args.now)
    t.ensures.grown (taken_among (Stripe c.stripe_of.result) (g.S.Stage.holds f) (g.S.Stage.holds t.new.self) c.in-Ok.ensures.held) t.ensures.stays.number t.ensures.stays.desk c.note.ensures.noted c.note.ensures.legal c.give.ensures.front)

pub returns-clause-refused : goal.returns-clause-refused
returns-clause-refused g c =
    let noted = refused_unopened (g.S.Stage.front c.take.new.self) (g.S.Stage.front c.note.new.self) (g.S.Stage.holds c.args.stage.now) (g.S.Stage.holds c.take.new.self) (g.S.Stage.number c.take.new.self) (g.S.Stage.is_desk c.take.new.self)
    c.stripe_of.result c.caller-caller.result c.args.key.now c.args.now c.in-Ok.tally c.in-Ok.ensures.held c.in-Ok.ensures.taken.0 c.note.ensures.noted in
    let given = subst (λ f. IsUnopened (Stripe c.stripe_of.result) f) (sym c.give.ensures.front) noted in (
      subst (λ s. IsUnopened (Stripe s) (g.S.Stage.front c.give.new.self)) c.stripe_of.ensures.stripe given,
      c.give.ensures.losses ∙ (c.note.ensures.losses ∙ c.in-Ok.ensures.taken.1),
    )
