use Rattle.std.proofs.Common.{◌≡◌, ◌+◌, false, ap, ◌∙◌, sym, refl}
use Rattle.ep_model.specs.declared.call.Meta.{Meta}
use Rattle.ep_model.specs.Statuses.{success}
use Rattle.flat_parts.specs.declared.data.Step.TheVariants.{Done}
use Rattle.flat_parts.specs.declared.data.WriteData.{WriteData}
use Rattle.ep_model.specs.World.{doc_from}
use Rattle.flat_parts.specs.Nodes.{released}
use Rattle.flat_parts.specs.Steps.{write_step, stripe_after, queue_after}
use Rattle.ep_model.specs.Answer.{Puts, refused}
use Rattle.flat_parts.proofs.WriteLemmas.{err_here, write-refused, write-stored}
use Rattle.flat_parts.proofs.write.write.Goals as goal

-- a Set that was refused by its status
is-refused : (c : goal.After-refusal-in-Some) → write_step c.args.stripe.now c.args.queue.now c.args.fit c.args.prior c.args.key.now c.args.value.now c.args.flags c.args.expiration c.args.cas c.args.now ≡ record { step = Done (refused c.in-Some.refused).reply; stripe = record c.args.stripe.now { places = released c.args.stripe.now.places c.args.prior }; queue = c.args.queue.now }
is-refused c =
    write-refused c.args.stripe.now c.args.queue.now c.args.fit c.args.prior c.args.key.now c.args.value.now c.args.flags c.args.expiration c.args.cas c.args.now c.refusal.result c.in-Some.refused
    (sym c.is_opened.ensures ∙ c.if-not-is_opened.false) c.refusal.ensures c.in-Some.is

pub returns-in-Some-clause-step : goal.returns-in-Some-clause-step
returns-in-Some-clause-step c =
    ap Done c.refusal-in-Some.ensures ∙ sym (ap (λ (w : WriteData). w.step) (is-refused c))

pub returns-in-Some-clause-stripe : goal.returns-in-Some-clause-stripe
returns-in-Some-clause-stripe c =
    c.release-in-Some.ensures ∙ sym (ap (λ (w : WriteData). w.stripe) (is-refused c))

pub returns-in-Some-clause-queue : goal.returns-in-Some-clause-queue
returns-in-Some-clause-queue c = sym (ap (λ (w : WriteData). w.queue) (is-refused c))

-- the numbers of a document that was stored
abbrev put_meta : goal.In_ok-put → Meta
put_meta c = record { flags = c.args.flags; expiry = c.stored_expiry.result; cas = c.stamp.result; seqno = c.high.result + 1; deleted = false; len = 0 }

-- a Set that stored it
is-stored : (c : goal.In_ok-put) → write_step c.args.stripe.now c.args.queue.now c.args.fit c.args.prior c.args.key.now c.args.value.now c.args.flags c.args.expiration c.args.cas c.args.now ≡ record { step = Done (record { status = success; cas = c.stamp.result; flags = 0; uuid = c.uuid-uuid.result; seqno = c.high.result + 1 }); stripe = stripe_after (record c.args.stripe.now { places = released c.args.stripe.now.places c.args.prior }) (Puts c.args.key.now (doc_from (put_meta c) c.args.value.now)); queue = queue_after c.args.queue.now (Puts c.args.key.now (doc_from (put_meta c) c.args.value.now)) }
is-stored c =
    write-stored c.args.stripe.now c.args.queue.now c.args.fit c.args.prior c.args.key.now c.args.value.now c.args.flags c.args.expiration c.args.cas c.args.now c.refusal.result (put_meta c) c.maxcas.result c.high.result c.uuid-uuid.result
    (sym c.is_opened.ensures ∙ c.if-not-is_opened.false) c.refusal.ensures c.in_default.is c.maxcas.ensures.maxcas c.high.ensures.high c.uuid-uuid.ensures refl c.stored_expiry.ensures c.stamp.ensures refl refl

pub returns-clause-step : goal.returns-clause-step
returns-clause-step c = sym (ap (λ (w : WriteData). w.step) (is-stored c))

pub returns-clause-stripe : goal.returns-clause-stripe
returns-clause-stripe c = c.in_ok-put.ensures.stripe ∙ sym (ap (λ (w : WriteData). w.stripe) (is-stored c))

pub returns-clause-queue : goal.returns-clause-queue
returns-clause-queue c = c.in_ok-put.ensures.queue ∙ sym (ap (λ (w : WriteData). w.queue) (is-stored c))

-- memory was wanting for one that was to be stored
pub returns-in_err-put-clause-memory : goal.returns-in_err-put-clause-memory
returns-in_err-put-clause-memory c =
    err_here c.from_residual.result
    (ap (λ (w : WriteData). w.queue.high) (write-stored c.args.stripe.now c.args.queue.now c.args.fit c.args.prior c.args.key.now c.args.value.now c.args.flags c.args.expiration c.args.cas c.args.now c.refusal.result (record { flags = c.args.flags; expiry = c.stored_expiry.result; cas = c.stamp.result; seqno = c.high.result + 1; deleted = false; len = 0 }) c.maxcas.result c.high.result c.uuid-uuid.result
    (sym c.is_opened.ensures ∙ c.if-not-is_opened.false) c.refusal.ensures c.in_default.is c.maxcas.ensures.maxcas c.high.ensures.high c.uuid-uuid.ensures refl c.stored_expiry.ensures c.stamp.ensures refl refl)
    ∙ ap (λ n. n + 1) c.high.ensures.high)
