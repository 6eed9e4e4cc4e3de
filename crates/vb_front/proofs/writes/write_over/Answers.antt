use Rattle.std.proofs.Common.{ap, sym, ◌∙◌}
use Rattle.std.specs.Prelude.{Option}
use Rattle.ep_model.specs.declared.call.Call.{Call}
use Rattle.ep_model.specs.World.{Doc}
use Rattle.ep_model.specs.History.{call_data}
use Rattle.ep_model.specs.Answer.{answer_join, answer_count, answer_touch}
use Rattle.vb_front.specs.Priors.{key_in}
use Rattle.vb_front.specs.Writes.{shown_world, shown_doc, text_at, Write, write_answer, write_over}
use Rattle.vb_front.proofs.RowLemmas.{comes_write}
use Rattle.vb_front.proofs.writes.write_over.Goals as goal

pub returns-in-Join-clause-comes : goal.returns-in-Join-clause-comes
returns-in-Join-clause-comes c =
    let w = shown_world c.args.part.now.table c.args.queue.now in
    let text = text_at c.args.part.now.table c.in-Join.key.now in
    let over : Call → Write = λ (call : Call). write_over c.args.part.now c.args.queue.now c.args.prior (call_data call) c.args.now (shown_doc (text_at c.args.part.now.table (key_in (call_data call))) c.args.seen) in
    let row : Option Doc → Write = λ (o : Option Doc). write_answer c.args.part.now c.args.queue.now c.args.prior (answer_join c.in-Join.front w c.in-Join.key.now c.in-Join.piece.now c.in-Join.cas c.args.now o) in
    comes_write c.args.part.now c.args.queue.now (row (shown_doc text c.live-live.result)) (over c.args.call.now) c.join.result c.join.new.part c.join.new.queue
    (ap row (c.live-live.ensures.doc text) ∙ sym (ap over c.in-Join.is)) c.join.ensures.comes

pub returns-in-Count-clause-comes : goal.returns-in-Count-clause-comes
returns-in-Count-clause-comes c =
    let w = shown_world c.args.part.now.table c.args.queue.now in
    let text = text_at c.args.part.now.table c.in-Count.key.now in
    let over : Call → Write = λ (call : Call). write_over c.args.part.now c.args.queue.now c.args.prior (call_data call) c.args.now (shown_doc (text_at c.args.part.now.table (key_in (call_data call))) c.args.seen) in
    let row : Option Doc → Write = λ (o : Option Doc). write_answer c.args.part.now c.args.queue.now c.args.prior (answer_count c.in-Count.down w c.in-Count.key.now c.in-Count.delta c.in-Count.initial c.in-Count.expiration c.in-Count.cas c.args.now o) in
    comes_write c.args.part.now c.args.queue.now (row (shown_doc text c.live-live.result)) (over c.args.call.now) c.count.result c.count.new.part c.count.new.queue
    (ap row (c.live-live.ensures.doc text) ∙ sym (ap over c.in-Count.is)) c.count.ensures.comes

pub returns-in-Count-clause-value : goal.returns-in-Count-clause-value
returns-in-Count-clause-value c =
    let w = shown_world c.args.part.now.table c.args.queue.now in
    let text = text_at c.args.part.now.table c.in-Count.key.now in
    let over : Call → Write = λ (call : Call). write_over c.args.part.now c.args.queue.now c.args.prior (call_data call) c.args.now (shown_doc (text_at c.args.part.now.table (key_in (call_data call))) c.args.seen) in
    let row : Option Doc → Write = λ (o : Option Doc). write_answer c.args.part.now c.args.queue.now c.args.prior (answer_count c.in-Count.down w c.in-Count.key.now c.in-Count.delta c.in-Count.initial c.in-Count.expiration c.in-Count.cas c.args.now o) in
    c.count.ensures.value ∙ ap (λ (x : Write). x.value) (ap row (c.live-live.ensures.doc text) ∙ sym (ap over c.in-Count.is))

pub returns-in-Touch-clause-comes : goal.returns-in-Touch-clause-comes
returns-in-Touch-clause-comes c =
    let w = shown_world c.args.part.now.table c.args.queue.now in
    let text = text_at c.args.part.now.table c.in-Touch.key.now in
    let over : Call → Write = λ (call : Call). write_over c.args.part.now c.args.queue.now c.args.prior (call_data call) c.args.now (shown_doc (text_at c.args.part.now.table (key_in (call_data call))) c.args.seen) in
    let row : Option Doc → Write = λ (o : Option Doc). write_answer c.args.part.now c.args.queue.now c.args.prior (answer_touch c.in-Touch.fetch w c.in-Touch.key.now c.in-Touch.expiration c.args.now o) in
    comes_write c.args.part.now c.args.queue.now (row (shown_doc text c.live-live.result)) (over c.args.call.now) c.touch.result c.touch.new.part c.touch.new.queue
    (ap row (c.live-live.ensures.doc text) ∙ sym (ap over c.in-Touch.is)) c.touch.ensures.comes

pub returns-in-Touch-clause-value : goal.returns-in-Touch-clause-value
returns-in-Touch-clause-value c =
    let w = shown_world c.args.part.now.table c.args.queue.now in
    let text = text_at c.args.part.now.table c.in-Touch.key.now in
    let over : Call → Write = λ (call : Call). write_over c.args.part.now c.args.queue.now c.args.prior (call_data call) c.args.now (shown_doc (text_at c.args.part.now.table (key_in (call_data call))) c.args.seen) in
    let row : Option Doc → Write = λ (o : Option Doc). write_answer c.args.part.now c.args.queue.now c.args.prior (answer_touch c.in-Touch.fetch w c.in-Touch.key.now c.in-Touch.expiration c.args.now o) in
    c.touch.ensures.value ∙ ap (λ (x : Write). x.value) (ap row (c.live-live.ensures.doc text) ∙ sym (ap over c.in-Touch.is))
