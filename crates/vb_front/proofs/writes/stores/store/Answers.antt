use Rattle.std.proofs.Common.{◌≡◌, false, [], length, None, ap, sym, ◌∙◌, rules}
use Rattle.std.specs.Option.{option_or}
use Rattle.ep_model.specs.World.{next_doc}
use Rattle.ep_model.specs.Refusals.{size_refusal, store_refusal, number_refusal}
use Rattle.ep_model.specs.Answer.{put_success}
use Rattle.vb_front.specs.Writes.{shown_world, step_of, store_row}
use Rattle.vb_front.proofs.RowLemmas.{comes_as, store_put}
use Rattle.vb_front.proofs.writes.stores.store.Goals as goal

pub returns-clause-comes : goal.returns-clause-comes
returns-clause-comes c =
    let w = shown_world c.args.part.now.table c.args.queue.now in
    let none : option_or (option_or (size_refusal w.fit (length c.args.key.now) (length c.args.text.now)) (store_refusal c.args.kind c.args.cas c.args.current)) (number_refusal w.high) ≡ None = search rules in
    comes_as c.args.part.now c.args.queue.now c.args.prior (put_success w c.args.key.now (next_doc w c.args.text.now c.args.flags c.stored_expiry.result false c.args.now) 0 []) (store_row w c.args.kind c.args.key.now c.args.text.now c.args.flags c.args.expiration c.args.cas c.args.now c.args.current) (step_of c.put.result) c.step_of.result c.put.new.part c.put.new.queue
    (ap (λ e. put_success w c.args.key.now (next_doc w c.args.text.now c.args.flags e false c.args.now) 0 []) c.stored_expiry.ensures
    ∙ sym (store_put w c.args.kind c.args.key.now c.args.text.now c.args.flags c.args.expiration c.args.cas c.args.now c.args.current none))
    (sym c.step_of.ensures) (c.put.ensures [])
