use Rattle.std.proofs.Common.{◌≡◌, true, refl, sym, ap, subst, ◌∙◌, rules}
use Rattle.std.specs.Prelude.{Some, None, cond}
use Rattle.ep_model.specs.declared.data.FrontData.{FrontData}
use Rattle.ep_model.specs.declared.event.PartName.{PartName}
use Rattle.ep_model.specs.declared.event.PartName.TheVariants.{Stripe, Queue}
use Rattle.ep_model.specs.History.{call_data}
use Rattle.hold_stage.specs.Touches.{there}
use Rattle.hold_stage.specs.Grows.{and_this}
use Rattle.hold_stage.specs.Went.{Went}
use Rattle.hold_stage.proofs.CallerLemmas.{same_is}
use Rattle.hold_stage.proofs.OwnLemmas.{taken_held, taken_among}
use Rattle.hold_stage.proofs.WentLemmas.{went_to, went_grown}
use Rattle.vb_front.specs.declared.at_stage.Kind.TheVariants.{Write}
use Rattle.vb_front.specs.declared.part.Part.TheVariants as parts
use Rattle.vb_front.specs.Stands.{StripeStands, QueueStands}
use Rattle.vb_front.specs.Priors.{key_in, event_of}
use Rattle.vb_front.specs.Writes.{write_step}
use Rattle.vb_front.specs.Tries.{FoundElsewhere}
use Rattle.vb_front.proofs.BareLemmas.{write_bare}
use Rattle.vb_front.proofs.TryLemmas.{is_exactly, wrote_may, wrote_stands, priors_taken, grown_twice, went_given, went_after, held_twice}
use Rattle.vb_front.proofs.at_stage.try_write.Goals as goal

pub give-requires-clause-stands : goal.give-requires-clause-stands
give-requires-clause-stands g c =
    let t = c.take_stripe in let u = c.take_queue in let s = c.args.stage.now in
    u.ensures.kept (Stripe c.args.stripe) (parts.Stripe c.in-Ok.part) (taken_held (Stripe c.args.stripe) (g.S.Stage.holds s) (g.S.Stage.holds t.new.stage) c.in-Ok.ensures.held) c.in-Ok.ensures.taken.0

pub returns-in-Err-take_queue-clause-went : goal.returns-in-Err-take_queue-clause-went
returns-in-Err-take_queue-clause-went g c =
    let t = c.take_stripe in let u = c.take_queue in let s = c.args.stage.now in
    went_to (g.S.Stage.front s) (g.S.Stage.front u.new.stage) (g.S.Stage.front c.give.new.self) (g.S.Stage.holds s) (g.S.Stage.number s) (g.S.Stage.is_desk s) None c.give.ensures.front
    (went_grown (g.S.Stage.front s) (g.S.Stage.front u.new.stage) (g.S.Stage.holds s) (g.S.Stage.number s) (g.S.Stage.is_desk s)
    (grown_twice (g.S.Stage.front s) (g.S.Stage.front t.new.stage) (g.S.Stage.front u.new.stage) (g.S.Stage.holds s) (g.S.Stage.holds t.new.stage) (g.S.Stage.number s) (g.S.Stage.number t.new.stage) (g.S.Stage.is_desk s) (g.S.Stage.is_desk t.new.stage)
    t.ensures.grown (taken_among (Stripe c.args.stripe) (g.S.Stage.holds s) (g.S.Stage.holds t.new.stage) c.in-Ok.ensures.held) t.ensures.stays.number t.ensures.stays.desk u.ensures.grown) u.ensures.legal)

pub returns-in-Err-take_queue-clause-elsewhere : goal.returns-in-Err-take_queue-clause-elsewhere
returns-in-Err-take_queue-clause-elsewhere g c =
    let t = c.take_stripe in let s = c.args.stage.now in let e = c.in-Err-take_queue in
    subst (λ (p : PartName). FoundElsewhere g.S.Stage.front g.S.Stage.holds g.S.Stage.lent g.S.Stage.fixed g.S.Stage.number g.S.Stage.is_desk g.S.Stage.is_telling g.S.Stage.elsewhere Write c.args.stripe s p) (sym e.ensures.taken.0)
    (record {
      was = record {
        at = t.new.stage;
        stays = t.ensures.stays;
        grown = t.ensures.grown;
        among = taken_among (Stripe c.args.stripe) (g.S.Stage.holds s) (g.S.Stage.holds t.new.stage) c.in-Ok.ensures.held;
        free = c.in-Ok.ensures.held Queue ∙ c.requires.free_queue;
        elsewhere = e.ensures.elsewhere;
      };
      ahead = taken_held (Stripe c.args.stripe) (g.S.Stage.holds s) (g.S.Stage.holds t.new.stage) c.in-Ok.ensures.held;
    })

pub note_step-requires-clause-may : goal.note_step-requires-clause-may
note_step-requires-clause-may g c =
    let t = c.take_stripe in let u = c.take_queue in let s = c.args.stage.now in let r = c.write-step in let call = call_data c.args.call.now in let q = c.in-Ok-take_queue in
    wrote_may (g.S.Stage.front u.new.stage) (g.S.Stage.holds u.new.stage) (g.S.Stage.number u.new.stage) (g.S.Stage.is_desk u.new.stage) c.args.stripe call (key_in call) c.args.now c.args.prior
    c.in-Ok.part r.new.part q.queue r.new.queue r.result c.bytes.result.now (write_step c.in-Ok.part q.queue c.args.prior call (key_in call) c.args.now)
    (taken_among Queue (g.S.Stage.holds t.new.stage) (g.S.Stage.holds u.new.stage) q.ensures.held (Stripe c.args.stripe) (taken_held (Stripe c.args.stripe) (g.S.Stage.holds s) (g.S.Stage.holds t.new.stage) c.in-Ok.ensures.held))
    (taken_held Queue (g.S.Stage.holds t.new.stage) (g.S.Stage.holds u.new.stage) q.ensures.held) (u.ensures.kept (Stripe c.args.stripe) (parts.Stripe c.in-Ok.part) (taken_held (Stripe c.args.stripe) (g.S.Stage.holds s) (g.S.Stage.holds t.new.stage) c.in-Ok.ensures.held) c.in-Ok.ensures.taken.0) q.ensures.taken.0
    (priors_taken (g.S.Stage.front s) (g.S.Stage.front u.new.stage) (g.S.Stage.holds s) (g.S.Stage.number s) (g.S.Stage.number u.new.stage) (g.S.Stage.is_desk s) call c.args.prior
    (grown_twice (g.S.Stage.front s) (g.S.Stage.front t.new.stage) (g.S.Stage.front u.new.stage) (g.S.Stage.holds s) (g.S.Stage.holds t.new.stage) (g.S.Stage.number s) (g.S.Stage.number t.new.stage) (g.S.Stage.is_desk s) (g.S.Stage.is_desk t.new.stage)
    t.ensures.grown (taken_among (Stripe c.args.stripe) (g.S.Stage.holds s) (g.S.Stage.holds t.new.stage) c.in-Ok.ensures.held) t.ensures.stays.number t.ensures.stays.desk u.ensures.grown) (u.ensures.stays.number ∙ t.ensures.stays.number) c.requires.prior)
    r.ensures.legal r.ensures.step (c.bytes.ensures ∙ r.ensures.value) u.ensures.legal

pub give-requires-2-clause-stands : goal.give-requires-2-clause-stands
give-requires-2-clause-stands g c =
    let t = c.take_stripe in let u = c.take_queue in let s = c.args.stage.now in let r = c.write-step in let call = call_data c.args.call.now in let q = c.in-Ok-take_queue in
    (wrote_stands (g.S.Stage.front u.new.stage) (g.S.Stage.holds u.new.stage) (g.S.Stage.number u.new.stage) (g.S.Stage.is_desk u.new.stage) c.args.stripe call (key_in call) c.args.now c.args.prior
    c.in-Ok.part r.new.part q.queue r.new.queue r.result c.bytes.result.now (write_step c.in-Ok.part q.queue c.args.prior call (key_in call) c.args.now)
    (taken_among Queue (g.S.Stage.holds t.new.stage) (g.S.Stage.holds u.new.stage) q.ensures.held (Stripe c.args.stripe) (taken_held (Stripe c.args.stripe) (g.S.Stage.holds s) (g.S.Stage.holds t.new.stage) c.in-Ok.ensures.held))
    (taken_held Queue (g.S.Stage.holds t.new.stage) (g.S.Stage.holds u.new.stage) q.ensures.held) (u.ensures.kept (Stripe c.args.stripe) (parts.Stripe c.in-Ok.part) (taken_held (Stripe c.args.stripe) (g.S.Stage.holds s) (g.S.Stage.holds t.new.stage) c.in-Ok.ensures.held) c.in-Ok.ensures.taken.0) q.ensures.taken.0
    (priors_taken (g.S.Stage.front s) (g.S.Stage.front u.new.stage) (g.S.Stage.holds s) (g.S.Stage.number s) (g.S.Stage.number u.new.stage) (g.S.Stage.is_desk s) call c.args.prior
    (grown_twice (g.S.Stage.front s) (g.S.Stage.front t.new.stage) (g.S.Stage.front u.new.stage) (g.S.Stage.holds s) (g.S.Stage.holds t.new.stage) (g.S.Stage.number s) (g.S.Stage.number t.new.stage) (g.S.Stage.is_desk s) (g.S.Stage.is_desk t.new.stage)
    t.ensures.grown (taken_among (Stripe c.args.stripe) (g.S.Stage.holds s) (g.S.Stage.holds t.new.stage) c.in-Ok.ensures.held) t.ensures.stays.number t.ensures.stays.desk u.ensures.grown) (u.ensures.stays.number ∙ t.ensures.stays.number) c.requires.prior)
    r.ensures.legal r.ensures.step (c.bytes.ensures ∙ r.ensures.value)
    (g.S.Stage.front c.note_step.new.stage) c.note_step.ensures.went).1

pub give-requires-3-clause-stands : goal.give-requires-3-clause-stands
give-requires-3-clause-stands g c =
    let t = c.take_stripe in let u = c.take_queue in let s = c.args.stage.now in let r = c.write-step in let call = call_data c.args.call.now in let q = c.in-Ok-take_queue in
    subst (λ (f : FrontData). StripeStands f c.args.stripe r.new.part) (sym c.give-2.ensures.front)
    (wrote_stands (g.S.Stage.front u.new.stage) (g.S.Stage.holds u.new.stage) (g.S.Stage.number u.new.stage) (g.S.Stage.is_desk u.new.stage) c.args.stripe call (key_in call) c.args.now c.args.prior
    c.in-Ok.part r.new.part q.queue r.new.queue r.result c.bytes.result.now (write_step c.in-Ok.part q.queue c.args.prior call (key_in call) c.args.now)
    (taken_among Queue (g.S.Stage.holds t.new.stage) (g.S.Stage.holds u.new.stage) q.ensures.held (Stripe c.args.stripe) (taken_held (Stripe c.args.stripe) (g.S.Stage.holds s) (g.S.Stage.holds t.new.stage) c.in-Ok.ensures.held))
    (taken_held Queue (g.S.Stage.holds t.new.stage) (g.S.Stage.holds u.new.stage) q.ensures.held) (u.ensures.kept (Stripe c.args.stripe) (parts.Stripe c.in-Ok.part) (taken_held (Stripe c.args.stripe) (g.S.Stage.holds s) (g.S.Stage.holds t.new.stage) c.in-Ok.ensures.held) c.in-Ok.ensures.taken.0) q.ensures.taken.0
    (priors_taken (g.S.Stage.front s) (g.S.Stage.front u.new.stage) (g.S.Stage.holds s) (g.S.Stage.number s) (g.S.Stage.number u.new.stage) (g.S.Stage.is_desk s) call c.args.prior
    (grown_twice (g.S.Stage.front s) (g.S.Stage.front t.new.stage) (g.S.Stage.front u.new.stage) (g.S.Stage.holds s) (g.S.Stage.holds t.new.stage) (g.S.Stage.number s) (g.S.Stage.number t.new.stage) (g.S.Stage.is_desk s) (g.S.Stage.is_desk t.new.stage)
    t.ensures.grown (taken_among (Stripe c.args.stripe) (g.S.Stage.holds s) (g.S.Stage.holds t.new.stage) c.in-Ok.ensures.held) t.ensures.stays.number t.ensures.stays.desk u.ensures.grown) (u.ensures.stays.number ∙ t.ensures.stays.number) c.requires.prior)
    r.ensures.legal r.ensures.step (c.bytes.ensures ∙ r.ensures.value)
    (g.S.Stage.front c.note_step.new.stage) c.note_step.ensures.went).0

pub returns-clause-went : goal.returns-clause-went
returns-clause-went g c =
    let t = c.take_stripe in let u = c.take_queue in let s = c.args.stage.now in let r = c.write-step in let call = call_data c.args.call.now in let q = c.in-Ok-take_queue in
    subst (λ v. Went (g.S.Stage.front s) (g.S.Stage.front c.give-3.new.self) (g.S.Stage.holds s) (g.S.Stage.number s) (g.S.Stage.is_desk s) (event_of (g.S.Stage.number s) call c.args.now c.args.prior r.result v)) c.bytes.ensures
    (went_given (λ n. event_of n call c.args.now c.args.prior r.result c.bytes.result.now) (g.S.Stage.front s) (g.S.Stage.front u.new.stage) (g.S.Stage.front c.note_step.new.stage) (g.S.Stage.front c.give-3.new.self) (g.S.Stage.holds s) (g.S.Stage.holds u.new.stage)
    (g.S.Stage.number s) (g.S.Stage.number u.new.stage) (g.S.Stage.is_desk s) (g.S.Stage.is_desk u.new.stage)
    (grown_twice (g.S.Stage.front s) (g.S.Stage.front t.new.stage) (g.S.Stage.front u.new.stage) (g.S.Stage.holds s) (g.S.Stage.holds t.new.stage) (g.S.Stage.number s) (g.S.Stage.number t.new.stage) (g.S.Stage.is_desk s) (g.S.Stage.is_desk t.new.stage)
    t.ensures.grown (taken_among (Stripe c.args.stripe) (g.S.Stage.holds s) (g.S.Stage.holds t.new.stage) c.in-Ok.ensures.held) t.ensures.stays.number t.ensures.stays.desk u.ensures.grown)
    (λ p h. taken_among Queue (g.S.Stage.holds t.new.stage) (g.S.Stage.holds u.new.stage) q.ensures.held p (taken_among (Stripe c.args.stripe) (g.S.Stage.holds s) (g.S.Stage.holds t.new.stage) c.in-Ok.ensures.held p h))
    (u.ensures.stays.number ∙ t.ensures.stays.number) (u.ensures.stays.desk ∙ t.ensures.stays.desk) c.note_step.ensures.went (c.give-3.ensures.front ∙ c.give-2.ensures.front))

pub returns-clause-writes : goal.returns-clause-writes
returns-clause-writes g c =
    let t = c.take_stripe in let u = c.take_queue in let s = c.args.stage.now in let r = c.write-step in let call = call_data c.args.call.now in let q = c.in-Ok-take_queue in
    let held = and_this Queue (and_this (Stripe c.args.stripe) (g.S.Stage.holds s)) in
    record {
      at = g.S.Stage.front u.new.stage;
      grown = (grown_twice (g.S.Stage.front s) (g.S.Stage.front t.new.stage) (g.S.Stage.front u.new.stage) (g.S.Stage.holds s) (g.S.Stage.holds t.new.stage) (g.S.Stage.number s) (g.S.Stage.number t.new.stage) (g.S.Stage.is_desk s) (g.S.Stage.is_desk t.new.stage)
          t.ensures.grown (taken_among (Stripe c.args.stripe) (g.S.Stage.holds s) (g.S.Stage.holds t.new.stage) c.in-Ok.ensures.held) t.ensures.stays.number t.ensures.stays.desk u.ensures.grown);
      legal = u.ensures.legal;
      part = c.in-Ok.part;
      queue = q.queue;
      stands = (u.ensures.kept (Stripe c.args.stripe) (parts.Stripe c.in-Ok.part) (taken_held (Stripe c.args.stripe) (g.S.Stage.holds s) (g.S.Stage.holds t.new.stage) c.in-Ok.ensures.held) c.in-Ok.ensures.taken.0);
      queued = q.ensures.taken.0;
      step_is = r.ensures.step;
      value_is = r.ensures.value;
      exact = is_exactly c.in-Ok.part q.queue c.args.prior call c.args.now r.ensures.exact r.ensures.fits;
      behind = subst (λ v. Went (g.S.Stage.front u.new.stage) (g.S.Stage.front c.give-3.new.self) held (g.S.Stage.number s) (g.S.Stage.is_desk s) (event_of (g.S.Stage.number s) call c.args.now c.args.prior r.result v)) c.bytes.ensures
          (went_after (λ n. event_of n call c.args.now c.args.prior r.result c.bytes.result.now) (g.S.Stage.front u.new.stage) (g.S.Stage.front c.note_step.new.stage) (g.S.Stage.front c.give-3.new.self) held (g.S.Stage.holds u.new.stage)
          (g.S.Stage.number s) (g.S.Stage.number u.new.stage) (g.S.Stage.is_desk s) (g.S.Stage.is_desk u.new.stage) (held_twice (Stripe c.args.stripe) Queue (g.S.Stage.holds s) (g.S.Stage.holds t.new.stage) (g.S.Stage.holds u.new.stage) c.in-Ok.ensures.held q.ensures.held)
          (u.ensures.stays.number ∙ t.ensures.stays.number) (u.ensures.stays.desk ∙ t.ensures.stays.desk) c.note_step.ensures.went (c.give-3.ensures.front ∙ c.give-2.ensures.front));
    }

pub returns-clause-becomes : goal.returns-clause-becomes
returns-clause-becomes g c = λ told.
    let t = c.take_stripe in let u = c.take_queue in let s = c.args.stage.now in let r = c.write-step in let call = call_data c.args.call.now in let q = c.in-Ok-take_queue in
    let telling : g.S.Stage.is_telling t.new.stage ≡ true = t.ensures.stays.telling ∙ told in
    let noting : g.S.Stage.is_telling c.note_step.new.stage ≡ true = c.note_step.ensures.stays.telling ∙ u.ensures.stays.telling ∙ telling in
    let giving : g.S.Stage.is_telling c.give-2.new.self ≡ true = c.give-2.ensures.stays.telling ∙ noting in
    let same : g.S.Stage.front u.new.stage ≡ g.S.Stage.front s = u.ensures.alone telling ∙ t.ensures.alone told in
    let there : there (g.S.Stage.front c.give-2.new.self).config (Stripe c.args.stripe) ≡ true = search rules in
    record {
      part = c.in-Ok.part;
      queue = q.queue;
      before = c.in-Ok.ensures.was_there told;
      queued = sym (t.ensures.tells told Queue refl) ∙ q.ensures.was_there telling;
      stands = (
        subst (λ (f : FrontData). StripeStands f c.args.stripe c.in-Ok.part) same
            (u.ensures.kept (Stripe c.args.stripe) (parts.Stripe c.in-Ok.part) (taken_held (Stripe c.args.stripe) (g.S.Stage.holds s) (g.S.Stage.holds t.new.stage) c.in-Ok.ensures.held) c.in-Ok.ensures.taken.0),
        subst (λ (f : FrontData). QueueStands f q.queue) same q.ensures.taken.0,
      );
      step_is = r.ensures.step;
      value_is = r.ensures.value;
      exact = is_exactly c.in-Ok.part q.queue c.args.prior call c.args.now r.ensures.exact r.ensures.fits;
      after = r.new.part;
      later = r.new.queue;
      left = r.ensures.left;
      behind = c.give-3.ensures.tells giving (Stripe c.args.stripe) there ∙ ap (λ b. cond b (Some (parts.Stripe r.new.part)) (g.S.Stage.tells c.give-2.new.self (Stripe c.args.stripe))) (same_is c.args.stripe);
      queues = c.give-3.ensures.tells giving Queue refl ∙ c.give-2.ensures.tells noting Queue refl;
    }

pub returns-clause-bare : goal.returns-clause-bare
returns-clause-bare g c =
    let r = c.write-step in
    write_bare c.in-Ok.part c.in-Ok-take_queue.queue c.args.prior (call_data c.args.call.now) (key_in (call_data c.args.call.now)) c.args.now r.result r.new.value.bytes r.ensures.step r.ensures.value
