-- What the rows of calls come to once no check refuses them.
use Rattle.std.proofs.Common.{◌≡◌, ℕ, ◌+◌, Bool, true, false, cond, List, [], length, refl, sym, ap, subst, ◌∙◌}
use Rattle.std.specs.Prelude.{Option, Some, None, ◌==◌, ◌&&◌, decimal}
use Rattle.std.specs.Option.{option_or}
use Rattle.std.specs.Int.{w64, to_be_bytes}
use Rattle.ep_model.specs.declared.call.Meta.{Meta}
use Rattle.ep_model.specs.declared.call.Reply.{Reply}
use Rattle.ep_model.specs.declared.call.StoreKind.{StoreKind}
use Rattle.ep_model.specs.declared.data.CallData.{CallData}
use Rattle.ep_model.specs.declared.event.Ticket.{Ticket}
use Rattle.ep_model.specs.Needs.{needs}
use Rattle.ep_model.specs.World.{Doc, World, doc_from, next_doc, tombstone, stored_expiry}
use Rattle.ep_model.specs.Refusals.{size_refusal, store_refusal, cas_refusal, wanted_refusal, join_refusal, number_refusal}
use Rattle.ep_model.specs.Answer.{Answer, unless, put_success, counts, joined, shown_flags, shown_value, shows, answer_join, answer_touch}
use Rattle.hash_stripe.specs.declared.found.Found.{Found}
use Rattle.ckpt_manager.specs.declared.data.QueueData.{QueueData}
use Rattle.vb_front.specs.declared.part.StripePart.{StripePart}
use Rattle.vb_front.specs.declared.step.Step.{Step}
use Rattle.vb_front.specs.Waits.{waited}
use Rattle.vb_front.specs.Writes.{seen_meta, shown_doc, text_at, is_away, store_row, delete_row, step_of, value_if, Write, write_put, write_answer, write_over, write_waits, write_found, Wrote}

-- the same under another name of the answer and of the step
pub comes_as : (old : StripePart) (q : QueueData) (prior : Option Ticket) (a b : Answer) (s t : Step) (new : StripePart) (after : QueueData) → a ≡ b → s ≡ t
    → Wrote old q (write_answer old q prior a) s new after → Wrote old q (write_answer old q prior b) t new after
comes_as old q prior a b s t new after same came c =
    subst (λ (x : Answer). Wrote old q (write_answer old q prior x) t new after) same
    (subst (λ (x : Step). Wrote old q (write_answer old q prior a) x new after) came c)

pub comes_write : (old : StripePart) (q : QueueData) (v w : Write) (s : Step) (new : StripePart) (after : QueueData) → v ≡ w
    → Wrote old q v s new after → Wrote old q w s new after
comes_write old q v w s new after same c = subst (λ (x : Write). Wrote old q x s new after) same c

-- a call that lacks what it needs, and one that doesn't
pub found_waits : (part : StripePart) (q : QueueData) (prior : Option Ticket) (call : CallData) (key : List ℕ) (now : ℕ) (seen : Found) (b : Bool)
    → b ≡ (needs part.table.eviction call && is_away part.table.eviction seen) → b ≡ true
    → write_waits part q prior call key now (waited part.table part.book key prior) ≡ write_found part q prior call key now seen
found_waits part q prior call key now seen b is lacks =
    sym (ap (λ t. cond t (write_waits part q prior call key now (waited part.table part.book key prior)) (write_over part q prior call now (shown_doc (text_at part.table key) (seen_meta seen)))) (sym is ∙ lacks))

pub found_over : (part : StripePart) (q : QueueData) (prior : Option Ticket) (call : CallData) (key : List ℕ) (now : ℕ) (seen : Found) (b : Bool)
    → b ≡ (needs part.table.eviction call && is_away part.table.eviction seen) → b ≡ false
    → write_over part q prior call now (shown_doc (text_at part.table key) (seen_meta seen)) ≡ write_found part q prior call key now seen
found_over part q prior call key now seen b is has =
    sym (ap (λ t. cond t (write_waits part q prior call key now (waited part.table part.book key prior)) (write_over part q prior call now (shown_doc (text_at part.table key) (seen_meta seen)))) (sym is ∙ has))

-- several checks that refuse nothing
none_three : (a b c : Option ℕ) (done : Answer) → option_or (option_or a b) c ≡ None → unless a (unless b (unless c done)) ≡ done
none_three None None None done is = refl
none_three None None (Some status) done is = absurd (cc)
none_three None (Some status) c done is = absurd (cc)
none_three (Some status) b c done is = absurd (cc)

none_two : (a b : Option ℕ) (done : Answer) → option_or a b ≡ None → unless a (unless b done) ≡ done
none_two None None done is = refl
none_two None (Some status) done is = absurd (cc)
none_two (Some status) b done is = absurd (cc)

none_one : (a : Option ℕ) (done : Answer) → a ≡ None → unless a done ≡ done
none_one None done is = refl
none_one (Some status) done is = absurd (cc)

pub store_put : (w : World) (kind : StoreKind) (key text : List ℕ) (flags expiration cas now : ℕ) (current : Option ℕ)
    → option_or (option_or (size_refusal w.fit (length key) (length text)) (store_refusal kind cas current)) (number_refusal w.high) ≡ None
    → store_row w kind key text flags expiration cas now current ≡ put_success w key (next_doc w text flags (stored_expiry expiration now) false now) 0 []
store_put w kind key text flags expiration cas now current is =
    none_three (size_refusal w.fit (length key) (length text)) (store_refusal kind cas current) (number_refusal w.high) (put_success w key (next_doc w text flags (stored_expiry expiration now) false now) 0 []) is

pub delete_put : (w : World) (key : List ℕ) (cas now : ℕ) (current : Option ℕ)
    → option_or (wanted_refusal cas current) (number_refusal w.high) ≡ None
    → delete_row w key cas now current ≡ put_success w key (tombstone w now) 0 []
delete_put w key cas now current is =
    none_two (wanted_refusal cas current) (number_refusal w.high) (put_success w key (tombstone w now) 0 []) is

pub join_put : (w : World) (front : Bool) (key piece text : List ℕ) (cas now : ℕ) (live : Option Meta) (meta : Meta) → live ≡ Some meta
    → option_or (option_or (cas_refusal cas (Some meta.cas)) (join_refusal w.fit (length key) (length text + length piece))) (number_refusal w.high) ≡ None
    → answer_join front w key piece cas now (shown_doc text live) ≡ put_success w key (next_doc w (joined front text piece) meta.flags meta.expiry false now) 0 []
join_put w front key piece text cas now live meta there is =
    ap (λ (o : Option Meta). answer_join front w key piece cas now (shown_doc text o)) there
    ∙ none_three (cas_refusal cas (Some meta.cas)) (join_refusal w.fit (length key) (length text + length piece)) (number_refusal w.high) (put_success w key (next_doc w (joined front text piece) meta.flags meta.expiry false now) 0 []) is

pub counts_put : (w : World) (key : List ℕ) (number flags expiry now : ℕ) → number_refusal w.high ≡ None
    → counts w key number flags expiry now ≡ put_success w key (next_doc w (decimal number) flags expiry false now) 0 (to_be_bytes w64 number)
counts_put w key number flags expiry now is =
    none_one (number_refusal w.high) (put_success w key (next_doc w (decimal number) flags expiry false now) 0 (to_be_bytes w64 number)) is

touch_over : (w : World) (fetch : Bool) (key text : List ℕ) (expiration now : ℕ) (live : Option Meta) (meta : Meta) → live ≡ Some meta → (b : Bool) → (stored_expiry expiration now == meta.expiry) ≡ b
    → answer_touch fetch w key expiration now (shown_doc text live) ≡ cond b (shows meta.cas (shown_flags fetch (doc_from meta text)) (shown_value fetch (doc_from meta text))) (unless (number_refusal w.high) (put_success w key (next_doc w text meta.flags (stored_expiry expiration now) false now) (shown_flags fetch (doc_from meta text)) (shown_value fetch (doc_from meta text))))
touch_over w fetch key text expiration now live meta there b is =
    ap (λ (o : Option Meta). answer_touch fetch w key expiration now (shown_doc text o)) there
    ∙ ap (λ c. cond c (shows meta.cas (shown_flags fetch (doc_from meta text)) (shown_value fetch (doc_from meta text))) (unless (number_refusal w.high) (put_success w key (next_doc w text meta.flags (stored_expiry expiration now) false now) (shown_flags fetch (doc_from meta text)) (shown_value fetch (doc_from meta text))))) is

pub touch_put : (w : World) (fetch : Bool) (key text : List ℕ) (expiration now : ℕ) (live : Option Meta) (meta : Meta) → live ≡ Some meta → (stored_expiry expiration now == meta.expiry) ≡ false → number_refusal w.high ≡ None
    → answer_touch fetch w key expiration now (shown_doc text live) ≡ put_success w key (next_doc w text meta.flags (stored_expiry expiration now) false now) (shown_flags fetch (doc_from meta text)) (shown_value fetch (doc_from meta text))
touch_put w fetch key text expiration now live meta there differs is =
    touch_over w fetch key text expiration now live meta there false differs
    ∙ none_one (number_refusal w.high) (put_success w key (next_doc w text meta.flags (stored_expiry expiration now) false now) (shown_flags fetch (doc_from meta text)) (shown_value fetch (doc_from meta text))) is

pub touch_shows : (w : World) (fetch : Bool) (key text : List ℕ) (expiration now : ℕ) (live : Option Meta) (meta : Meta) → live ≡ Some meta → (stored_expiry expiration now == meta.expiry) ≡ true
    → answer_touch fetch w key expiration now (shown_doc text live) ≡ shows meta.cas (shown_flags fetch (doc_from meta text)) (shown_value fetch (doc_from meta text))
touch_shows w fetch key text expiration now live meta there same = touch_over w fetch key text expiration now live meta there true same

-- the value that a call shows whose document was put or had no room
pub put_value : (part : StripePart) (prior : Option Ticket) (a : Answer) (key : List ℕ) (doc : Doc) (lacks : Bool) (placed : Option Reply)
    → step_of placed ≡ (write_put part prior a key doc lacks).step → value_if placed a.value ≡ (write_put part prior a key doc lacks).value
put_value part prior a key doc true None is = refl
put_value part prior a key doc true (Some reply) is = absurd (cc)
put_value part prior a key doc false None is = absurd (cc)
put_value part prior a key doc false (Some reply) is = refl
