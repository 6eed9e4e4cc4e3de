use Rattle.std.proofs.Common.{◌≡◌, [], None, sym, rules}
use Rattle.std.specs.Option.{option_or}
use Rattle.ep_model.specs.World.{tombstone}
use Rattle.ep_model.specs.Refusals.{wanted_refusal, number_refusal}
use Rattle.ep_model.specs.Answer.{put_success}
use Rattle.vb_front.specs.Writes.{shown_world, step_of, delete_row}
use Rattle.vb_front.proofs.RowLemmas.{comes_as, delete_put}
use Rattle.vb_front.proofs.writes.stores.delete.Goals as goal

pub returns-clause-comes : goal.returns-clause-comes
returns-clause-comes c =
    let w = shown_world c.args.part.now.table c.args.queue.now in
    let none : option_or (wanted_refusal c.args.cas c.args.current) (number_refusal w.high) ≡ None = search rules in
    comes_as c.args.part.now c.args.queue.now c.args.prior (put_success w c.args.key.now (tombstone w c.args.now) 0 []) (delete_row w c.args.key.now c.args.cas c.args.now c.args.current) (step_of c.put.result) c.step_of.result c.put.new.part c.put.new.queue
    (sym (delete_put w c.args.key.now c.args.cas c.args.now c.args.current none))
    (sym c.step_of.ensures) (c.put.ensures [])
