use Rattle.std.proofs.Common.{◌≡◌, ℕ, List, false, None, ap, sym, ◌∙◌, rules}
use Rattle.std.specs.Prelude.{decimal}
use Rattle.std.specs.Int.{w64, to_be_bytes}
use Rattle.ep_model.specs.World.{next_doc}
use Rattle.ep_model.specs.Refusals.{number_refusal}
use Rattle.ep_model.specs.Answer.{put_success, counts}
use Rattle.vb_front.specs.Writes.{shown_world, step_of}
use Rattle.vb_front.proofs.RowLemmas.{comes_as, counts_put}
use Rattle.vb_front.proofs.writes.counts.put_number.Goals as goal

pub returns-clause-comes : goal.returns-clause-comes
returns-clause-comes c =
    let w = shown_world c.args.part.now.table c.args.queue.now in
    let none : number_refusal w.high ≡ None = search rules in
    let made : c.as_bytes-text.result.now ≡ decimal c.args.number = search rules in
    let shown = to_be_bytes w64 c.args.number in
    comes_as c.args.part.now c.args.queue.now c.args.prior (put_success w c.args.key.now (next_doc w c.as_bytes-text.result.now c.args.flags c.args.expiry false c.args.now) 0 shown) (counts w c.args.key.now c.args.number c.args.flags c.args.expiry c.args.now) (step_of c.put-placed.result) c.step_of.result c.put-placed.new.part c.put-placed.new.queue
    (ap (λ (t : List ℕ). put_success w c.args.key.now (next_doc w t c.args.flags c.args.expiry false c.args.now) 0 shown) made
    ∙ sym (counts_put w c.args.key.now c.args.number c.args.flags c.args.expiry c.args.now none))
    (sym c.step_of.ensures) (c.put-placed.ensures shown)
