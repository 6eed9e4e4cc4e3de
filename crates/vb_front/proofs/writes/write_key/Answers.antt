use Rattle.std.proofs.Common.{◌≡◌, ℕ, List, ap, ◌∙◌}
use Rattle.std.specs.Prelude.{◌&&◌}
use Rattle.ep_model.specs.History.{call_data}
use Rattle.ep_model.specs.Needs.{needs}
use Rattle.ep_model.specs.declared.config.Eviction.{Eviction}
use Rattle.hash_stripe.specs.declared.found.Found.{Found}
use Rattle.hash_stripe.specs.Nodes.{node_at}
use Rattle.hash_stripe.specs.Stripes.{found}
use Rattle.vb_front.specs.Priors.{key_in}
use Rattle.vb_front.specs.Waits.{waited}
use Rattle.vb_front.specs.Writes.{seen_meta, shown_doc, text_at, is_away, Write, write_over, write_waits, write_found}
use Rattle.vb_front.proofs.RowLemmas.{comes_write, found_waits, found_over}
use Rattle.vb_front.proofs.writes.write_key.Goals as goal

pub returns-then-lacks-clause-comes : goal.returns-then-lacks-clause-comes
returns-then-lacks-clause-comes c =
    let old = c.args.part.now in
    let q = c.args.queue.now in
    let call = call_data c.args.call.now in
    let key = key_in call in
    let seen = found (node_at old.table.slots key) in
    let shows : c.find-found.result ≡ seen = c.find-found.ensures.shows ∙ ap (λ (k : List ℕ). found (node_at old.table.slots k)) c.key_of-key.ensures in
    let test : c.lacks.result ≡ (needs old.table.eviction call && is_away old.table.eviction seen) =
    c.lacks.ensures ∙ ap (λ (e : Eviction). needs e call && is_away e c.find-found.result) c.eviction.ensures ∙ ap (λ (s : Found). needs old.table.eviction call && is_away old.table.eviction s) shows in
    comes_write old q (write_waits old q c.args.prior call c.key_of-key.result.now c.args.now (waited old.table old.book c.key_of-key.result.now c.args.prior)) (write_found old q c.args.prior call key c.args.now seen) c.write_away.result c.write_away.new.part c.write_away.new.queue
    (ap (λ (k : List ℕ). write_waits old q c.args.prior call k c.args.now (waited old.table old.book k c.args.prior)) c.key_of-key.ensures
    ∙ found_waits old q c.args.prior call key c.args.now seen c.lacks.result test c.if-lacks.true)
    c.write_away.ensures.comes

pub returns-then-lacks-clause-value : goal.returns-then-lacks-clause-value
returns-then-lacks-clause-value c =
    let old = c.args.part.now in
    let q = c.args.queue.now in
    let call = call_data c.args.call.now in
    let key = key_in call in
    let seen = found (node_at old.table.slots key) in
    let shows : c.find-found.result ≡ seen = c.find-found.ensures.shows ∙ ap (λ (k : List ℕ). found (node_at old.table.slots k)) c.key_of-key.ensures in
    let test : c.lacks.result ≡ (needs old.table.eviction call && is_away old.table.eviction seen) =
    c.lacks.ensures ∙ ap (λ (e : Eviction). needs e call && is_away e c.find-found.result) c.eviction.ensures ∙ ap (λ (s : Found). needs old.table.eviction call && is_away old.table.eviction s) shows in
    c.write_away.ensures.value
    ∙ ap (λ (x : Write). x.value)
    (ap (λ (k : List ℕ). write_waits old q c.args.prior call k c.args.now (waited old.table old.book k c.args.prior)) c.key_of-key.ensures
    ∙ found_waits old q c.args.prior call key c.args.now seen c.lacks.result test c.if-lacks.true)

pub returns-clause-comes : goal.returns-clause-comes
returns-clause-comes c =
    let old = c.args.part.now in
    let q = c.args.queue.now in
    let call = call_data c.args.call.now in
    let key = key_in call in
    let seen = found (node_at old.table.slots key) in
    let shows : c.find-found.result ≡ seen = c.find-found.ensures.shows ∙ ap (λ (k : List ℕ). found (node_at old.table.slots k)) c.key_of-key.ensures in
    let test : c.lacks.result ≡ (needs old.table.eviction call && is_away old.table.eviction seen) =
    c.lacks.ensures ∙ ap (λ (e : Eviction). needs e call && is_away e c.find-found.result) c.eviction.ensures ∙ ap (λ (s : Found). needs old.table.eviction call && is_away old.table.eviction s) shows in
    let metas : c.seen.result ≡ seen_meta seen = c.seen.ensures ∙ ap seen_meta shows in
    comes_write old q (write_over old q c.args.prior call c.args.now (shown_doc (text_at old.table key) c.seen.result)) (write_found old q c.args.prior call key c.args.now seen) c.write_over.result c.write_over.new.part c.write_over.new.queue
    (ap (λ m. write_over old q c.args.prior call c.args.now (shown_doc (text_at old.table key) m)) metas
    ∙ found_over old q c.args.prior call key c.args.now seen c.lacks.result test c.if-lacks.false)
    c.write_over.ensures.comes

pub returns-clause-value : goal.returns-clause-value
returns-clause-value c =
    let old = c.args.part.now in
    let q = c.args.queue.now in
    let call = call_data c.args.call.now in
    let key = key_in call in
    let seen = found (node_at old.table.slots key) in
    let shows : c.find-found.result ≡ seen = c.find-found.ensures.shows ∙ ap (λ (k : List ℕ). found (node_at old.table.slots k)) c.key_of-key.ensures in
    let test : c.lacks.result ≡ (needs old.table.eviction call && is_away old.table.eviction seen) =
    c.lacks.ensures ∙ ap (λ (e : Eviction). needs e call && is_away e c.find-found.result) c.eviction.ensures ∙ ap (λ (s : Found). needs old.table.eviction call && is_away old.table.eviction s) shows in
    let metas : c.seen.result ≡ seen_meta seen = c.seen.ensures ∙ ap seen_meta shows in
    c.write_over.ensures.value
    ∙ ap (λ (x : Write). x.value)
    (ap (λ m. write_over old q c.args.prior call c.args.now (shown_doc (text_at old.table key) m)) metas
    ∙ found_over old q c.args.prior call key c.args.now seen c.lacks.result test c.if-lacks.false)
