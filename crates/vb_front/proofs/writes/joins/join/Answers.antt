use Rattle.std.proofs.Common.{◌≡◌, ℕ, List, ◌+◌, false, [], length, Some, None, ap, sym, ◌∙◌, rules}
use Rattle.std.specs.Option.{option_or}
use Rattle.ep_model.specs.World.{next_doc}
use Rattle.ep_model.specs.Refusals.{cas_refusal, join_refusal, number_refusal}
use Rattle.ep_model.specs.Answer.{put_success, joined, answer_join}
use Rattle.vb_front.specs.Writes.{shown_world, shown_doc, text_at, step_of}
use Rattle.vb_front.proofs.RowLemmas.{comes_as, join_put}
use Rattle.vb_front.proofs.writes.joins.join.Goals as goal

pub returns-clause-comes : goal.returns-clause-comes
returns-clause-comes c =
    let w = shown_world c.args.part.now.table c.args.queue.now in
    let text = text_at c.args.part.now.table c.args.key.now in
    let none : option_or (option_or (cas_refusal c.args.cas (Some c.in-Some.live.cas)) (join_refusal w.fit (length c.args.key.now) (length text + length c.args.piece.now))) (number_refusal w.high) ≡ None = search rules in
    let made : c.bytes.result.now ≡ joined c.args.front text c.args.piece.now = search rules in
    comes_as c.args.part.now c.args.queue.now c.args.prior (put_success w c.args.key.now (next_doc w c.bytes.result.now c.in-Some.live.flags c.in-Some.live.expiry false c.args.now) 0 []) (answer_join c.args.front w c.args.key.now c.args.piece.now c.args.cas c.args.now (shown_doc text c.args.live)) (step_of c.put-placed.result) c.step_of.result c.put-placed.new.part c.put-placed.new.queue
    (ap (λ (t : List ℕ). put_success w c.args.key.now (next_doc w t c.in-Some.live.flags c.in-Some.live.expiry false c.args.now) 0 []) made
    ∙ sym (join_put w c.args.front c.args.key.now c.args.piece.now text c.args.cas c.args.now c.args.live c.in-Some.live c.in-Some.is none))
    (sym c.step_of.ensures) (c.put-placed.ensures [])
