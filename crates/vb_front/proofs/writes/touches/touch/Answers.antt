use Rattle.std.proofs.Common.{◌≡◌, ℕ, List, false, cond, [], length, None, ap, sym, ◌∙◌, rules}
use Rattle.std.specs.Prelude.{◌==◌}
use Rattle.ep_model.specs.World.{doc_from, next_doc, stored_expiry}
use Rattle.ep_model.specs.Refusals.{number_refusal}
use Rattle.ep_model.specs.Answer.{Answer, put_success, answer_touch, shown_value}
use Rattle.vb_front.specs.Writes.{shown_world, shown_doc, text_at, step_of, value_if, lacks_room, write_answer}
use Rattle.vb_front.proofs.RowLemmas.{comes_as, touch_put, put_value}
use Rattle.vb_front.proofs.writes.touches.touch.Goals as goal

pub returns-clause-comes : goal.returns-clause-comes
returns-clause-comes c =
    let w = shown_world c.args.part.now.table c.args.queue.now in
    let text = text_at c.args.part.now.table c.args.key.now in
    let live = c.in-Some.live in
    let none : number_refusal w.high ≡ None = search rules in
    let differs : (stored_expiry c.args.expiration c.args.now == live.expiry) ≡ false =
    ap (λ e. e == live.expiry) (sym c.stored_expiry-expiry.ensures) ∙ sym c.expires_so.ensures ∙ c.if-expires_so.false in
    let made : c.bytes.result.now ≡ text = search rules in
    let shown = shown_value c.args.fetch (doc_from live text) in
    comes_as c.args.part.now c.args.queue.now c.args.prior (put_success w c.args.key.now (next_doc w c.bytes.result.now live.flags c.stored_expiry-expiry.result false c.args.now) c.flags_shown-flags.result shown)
    (answer_touch c.args.fetch w c.args.key.now c.args.expiration c.args.now (shown_doc text c.args.live)) (step_of c.put-placed.result) c.finish.result c.put-placed.new.part c.put-placed.new.queue
    (ap (λ (t : List ℕ). put_success w c.args.key.now (next_doc w t live.flags c.stored_expiry-expiry.result false c.args.now) c.flags_shown-flags.result shown) made
    ∙ ap (λ e. put_success w c.args.key.now (next_doc w text live.flags e false c.args.now) c.flags_shown-flags.result shown) c.stored_expiry-expiry.ensures
    ∙ ap (λ n. put_success w c.args.key.now (next_doc w text live.flags (stored_expiry c.args.expiration c.args.now) false c.args.now) n shown) c.flags_shown-flags.ensures
    ∙ sym (touch_put w c.args.fetch c.args.key.now text c.args.expiration c.args.now c.args.live live c.in-Some.is differs none))
    (sym c.finish.ensures.step) (c.put-placed.ensures shown)

pub returns-clause-value : goal.returns-clause-value
returns-clause-value c =
    let w = shown_world c.args.part.now.table c.args.queue.now in
    let text = text_at c.args.part.now.table c.args.key.now in
    let live = c.in-Some.live in
    let none : number_refusal w.high ≡ None = search rules in
    let differs : (stored_expiry c.args.expiration c.args.now == live.expiry) ≡ false =
    ap (λ e. e == live.expiry) (sym c.stored_expiry-expiry.ensures) ∙ sym c.expires_so.ensures ∙ c.if-expires_so.false in
    let made : c.bytes.result.now ≡ text = search rules in
    let filled : c.value_to.new.out.bytes ≡ text = search rules in
    let shown = shown_value c.args.fetch (doc_from live text) in
    let doc = next_doc w c.bytes.result.now live.flags c.stored_expiry-expiry.result false c.args.now in
    c.finish.ensures.value
    ∙ ap (λ (t : List ℕ). value_if c.put-placed.result (cond c.args.fetch t [])) filled
    ∙ put_value c.args.part.now c.args.prior (put_success w c.args.key.now doc c.flags_shown-flags.result shown) c.args.key.now doc (lacks_room c.args.part.now.table c.args.queue.now c.args.key.now (length c.bytes.result.now)) c.put-placed.result (c.put-placed.ensures shown).step
    ∙ ap (λ (a : Answer). (write_answer c.args.part.now c.args.queue.now c.args.prior a).value)
    (ap (λ (t : List ℕ). put_success w c.args.key.now (next_doc w t live.flags c.stored_expiry-expiry.result false c.args.now) c.flags_shown-flags.result shown) made
    ∙ ap (λ e. put_success w c.args.key.now (next_doc w text live.flags e false c.args.now) c.flags_shown-flags.result shown) c.stored_expiry-expiry.ensures
    ∙ ap (λ n. put_success w c.args.key.now (next_doc w text live.flags (stored_expiry c.args.expiration c.args.now) false c.args.now) n shown) c.flags_shown-flags.ensures
    ∙ sym (touch_put w c.args.fetch c.args.key.now text c.args.expiration c.args.now c.args.live live c.in-Some.is differs none))
