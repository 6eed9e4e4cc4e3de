-- What a row does by its reply: nothing where that has no number, and else it puts a document with the next numbers.
use Rattle.std.proofs.Common.{◌≡◌, ℕ, ◌+◌, Bool, true, false, cond, List, [], length, refl, subst}
use Rattle.std.specs.Prelude.{Option, Some, None, ◌==◌, decimal}
use Rattle.std.specs.Int.{w64, to_be_bytes}
use Rattle.ep_model.specs.declared.data.CallData.{CallData}
use Rattle.ep_model.specs.declared.data.CallData.TheVariants.{Get, Store, Join, Count, Delete, Touch, Observe, Failovers, SetState, GetState}
use Rattle.ep_model.specs.World.{Doc, World, stamp, stored_expiry, next_doc}
use Rattle.ep_model.specs.Calls.{written_key}
use Rattle.ep_model.specs.Refusals.{size_refusal, store_refusal, join_refusal, cas_refusal, wanted_refusal, new_count_refusal, number_refusal}
use Rattle.ep_model.specs.Answer.{Effect, Nothing, Puts, Sets, Answer, unless, puts, put_success, shows, shown_flags, shown_value, joined, counted, counts_on, cas_of, answer_join, answer_count, answer_touch}
use Rattle.ep_model.specs.Decimal.{number_of}
use Rattle.vb_front.specs.Writes.{row_of}

-- a document is put under the key, with the next numbers, which the reply shows
pub record IsPutOf (w : World) (key : List ℕ) (now : ℕ) (a : Answer) (other : List ℕ) (doc : Doc) : Type 0 where
  pub same : other ≡ key
  pub seqno : doc.seqno ≡ w.high + 1
  pub cas : doc.cas ≡ stamp w now
  pub seen : a.reply.seqno ≡ doc.seqno

abbrev pub IsRowEffect : World → List ℕ → ℕ → Answer → Effect → Type 0
IsRowEffect w key now a Nothing = a.reply.seqno ≡ 0
IsRowEffect w key now a (Puts other doc) = IsPutOf w key now a other doc
IsRowEffect w key now a (Sets state) = ⊥

abbrev Is : World → List ℕ → ℕ → Answer → Type 0
Is w key now a = IsRowEffect w key now a a.effect

is_unless : (w : World) (key : List ℕ) (now : ℕ) (refusal : Option ℕ) (a : Answer) → Is w key now a → Is w key now (unless refusal a)
is_unless w key now None a h = h
is_unless w key now (Some status) a h = refl

is_cond : (w : World) (key : List ℕ) (now : ℕ) (b : Bool) (x y : Answer) → Is w key now x → Is w key now y → Is w key now (cond b x y)
is_cond w key now true x y p q = p
is_cond w key now false x y p q = q

is_puts : (w : World) (key value bytes : List ℕ) (flags expiry shown now : ℕ) (deleted : Bool) → Is w key now (puts w key (next_doc w value flags expiry deleted now) shown bytes)
is_puts w key value bytes flags expiry shown now deleted =
    is_unless w key now (number_refusal w.high) (put_success w key (next_doc w value flags expiry deleted now) shown bytes) (record { same = refl; seqno = refl; cas = refl; seen = refl })

is_counts_on : (down : Bool) (w : World) (key : List ℕ) (delta now : ℕ) (doc : Doc) (number : Option ℕ) → Is w key now (counts_on down w key delta now doc number)
is_counts_on down w key delta now doc None = refl
is_counts_on down w key delta now doc (Some number) = is_puts w key (decimal (counted down number delta)) (to_be_bytes w64 (counted down number delta)) doc.flags doc.expiry 0 now false

is_join : (front : Bool) (w : World) (key piece : List ℕ) (cas now : ℕ) (live : Option Doc) → Is w key now (answer_join front w key piece cas now live)
is_join front w key piece cas now None = refl
is_join front w key piece cas now (Some doc) =
    is_unless w key now (cas_refusal cas (Some doc.cas)) _ (is_unless w key now (join_refusal w.fit (length key) (length doc.value + length piece)) _ (is_puts w key (joined front doc.value piece) [] doc.flags doc.expiry 0 now false))

is_count : (down : Bool) (w : World) (key : List ℕ) (delta initial expiration cas now : ℕ) (live : Option Doc) → Is w key now (answer_count down w key delta initial expiration cas now live)
is_count down w key delta initial expiration cas now None =
    is_unless w key now (new_count_refusal cas expiration) _ (is_puts w key (decimal initial) (to_be_bytes w64 initial) 0 (stored_expiry expiration now) 0 now false)
is_count down w key delta initial expiration cas now (Some doc) =
    is_unless w key now (cas_refusal cas (Some doc.cas)) _ (is_counts_on down w key delta now doc (number_of doc.value))

is_touch : (fetch : Bool) (w : World) (key : List ℕ) (expiration now : ℕ) (live : Option Doc) → Is w key now (answer_touch fetch w key expiration now live)
is_touch fetch w key expiration now None = refl
is_touch fetch w key expiration now (Some doc) =
    is_cond w key now (stored_expiry expiration now == doc.expiry) (shows doc.cas (shown_flags fetch doc) (shown_value fetch doc))
    (puts w key (next_doc w doc.value doc.flags (stored_expiry expiration now) false now) (shown_flags fetch doc) (shown_value fetch doc)) refl
    (is_puts w key doc.value (shown_value fetch doc) doc.flags (stored_expiry expiration now) (shown_flags fetch doc) now false)

row_at : (w : World) (call : CallData) (now : ℕ) (live : Option Doc) (other key : List ℕ) → other ≡ key → Is w other now (row_of w call now live) → Is w key now (row_of w call now live)
row_at w call now live other key same h = subst (λ (k : List ℕ). Is w k now (row_of w call now live)) same h

-- So it is with each call that writes a key.
pub row_effect : (w : World) (call : CallData) (now : ℕ) (live : Option Doc) (key : List ℕ) → written_key call ≡ Some key → Is w key now (row_of w call now live)
row_effect w (Get k) now live key is = absurd (cc)
row_effect w (Store kind k value flags expiration cas) now live key is =
    row_at w (Store kind k value flags expiration cas) now live k key (let e : k ≡ key = cc in e)
    (is_unless w k now (size_refusal w.fit (length k) (length value)) _ (is_unless w k now (store_refusal kind cas (cas_of live)) _ (is_puts w k value [] flags (stored_expiry expiration now) 0 now false)))
row_effect w (Join front k piece cas) now live key is =
    row_at w (Join front k piece cas) now live k key (let e : k ≡ key = cc in e) (is_join front w k piece cas now live)
row_effect w (Count down k delta initial expiration cas) now live key is =
    row_at w (Count down k delta initial expiration cas) now live k key (let e : k ≡ key = cc in e) (is_count down w k delta initial expiration cas now live)
row_effect w (Delete k cas) now live key is =
    row_at w (Delete k cas) now live k key (let e : k ≡ key = cc in e) (is_unless w k now (wanted_refusal cas (cas_of live)) _ (is_puts w k [] [] 0 0 0 now true))
row_effect w (Touch k expiration fetch) now live key is =
    row_at w (Touch k expiration fetch) now live k key (let e : k ≡ key = cc in e) (is_touch fetch w k expiration now live)
row_effect w (Observe uuid) now live key is = absurd (cc)
row_effect w Failovers now live key is = absurd (cc)
row_effect w (SetState state) now live key is = absurd (cc)
row_effect w GetState now live key is = absurd (cc)
