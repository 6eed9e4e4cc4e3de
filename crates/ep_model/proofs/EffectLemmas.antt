-- What an event does to a world: at most one document under the key that its call may write, with the next numbers, or
-- the state that its call sets. No proof above looks further into it.
use Rattle.std.proofs.Common.{◌≡◌, ◌≢◌, ◌<◌, ℕ, ◌+◌, Bool, true, false, cond, List, [], length, refl, sym, ap, subst, ◌∙◌, arith}
use Rattle.std.specs.Prelude.{Option, Some, None, ◌==◌, decimal}
use Rattle.std.specs.Int.{w64, to_be_bytes}
use Rattle.ep_model.specs.declared.call.VbState.{VbState}
use Rattle.ep_model.specs.declared.call.VbState.TheVariants.{Active, Replica, Pending, Dead}
use Rattle.ep_model.specs.declared.call.Reply.{Reply}
use Rattle.ep_model.specs.declared.data.CallData.{CallData}
use Rattle.ep_model.specs.declared.data.CallData.TheVariants.{Get, Store, Join, Count, Delete, Touch, Observe, Failovers, SetState, GetState}
use Rattle.ep_model.specs.Statuses.{success}
use Rattle.ep_model.specs.Calls.{key_of, has_key, written_key}
use Rattle.ep_model.specs.World.{Doc, World, live, stamp, stored_expiry, uuid_of, next_doc}
use Rattle.ep_model.specs.Refusals.{state_refusal, size_refusal, join_refusal, cas_refusal, wanted_refusal, store_refusal, new_count_refusal, number_refusal}
use Rattle.ep_model.specs.Answer.{Effect, Nothing, Puts, Sets, Answer, unless, puts, put_success, shows, shown_flags, shown_value, joined, counted, counts_on, cas_of, answer_get, answer_join, answer_count, answer_touch, answer_row, answer_set_state, answer}
use Rattle.ep_model.specs.History.{seen_put, seen_effect, call_effect}
use Rattle.ep_model.specs.Decimal.{number_of}

-- a document has the next sequence number, and the next CAS at the moment
abbrev pub HasNext : World → ℕ → Doc → Type 0
HasNext w now doc = (doc.seqno ≡ w.high + 1) × (doc.cas ≡ stamp w now)

-- that CAS is greater than any before
pub cas_rises : (w : World) (now : ℕ) (doc : Doc) → HasNext w now doc → w.maxcas < doc.cas
cas_rises w now doc next = let a : doc.cas ≡ stamp w now = next.1 in omega arith

-- nothing, or one document under the key, with the next numbers
abbrev pub IsNext : World → List ℕ → ℕ → Effect → Type 0
IsNext w key now Nothing = Unit {0}
IsNext w key now (Puts other doc) = (other ≡ key) × HasNext w now doc
IsNext w key now (Sets state) = ⊥

next-unless : (w : World) (key : List ℕ) (now : ℕ) (refusal : Option ℕ) (a : Answer) → IsNext w key now a.effect → IsNext w key now (unless refusal a).effect
next-unless w key now None a h = h
next-unless w key now (Some status) a h = tt

next-cond : (w : World) (key : List ℕ) (now : ℕ) (b : Bool) (x y : Answer) → IsNext w key now x.effect → IsNext w key now y.effect → IsNext w key now (cond b x y).effect
next-cond w key now true x y p q = p
next-cond w key now false x y p q = q

next-puts : (w : World) (key value bytes : List ℕ) (flags expiry shown now : ℕ) (deleted : Bool) → IsNext w key now (puts w key (next_doc w value flags expiry deleted now) shown bytes).effect
next-puts w key value bytes flags expiry shown now deleted =
    next-unless w key now (number_refusal w.high) (put_success w key (next_doc w value flags expiry deleted now) shown bytes) (refl, (refl, refl))

next-get : (w : World) (key : List ℕ) (now : ℕ) (found : Option Doc) → IsNext w key now (answer_get found).effect
next-get w key now None = tt
next-get w key now (Some doc) = tt

next-join : (front : Bool) (w : World) (key piece : List ℕ) (cas now : ℕ) (found : Option Doc) → IsNext w key now (answer_join front w key piece cas now found).effect
next-join front w key piece cas now None = tt
next-join front w key piece cas now (Some doc) =
    next-unless w key now (cas_refusal cas (Some doc.cas)) _ (next-unless w key now (join_refusal w.fit (length key) (length doc.value + length piece)) _ (next-puts w key (joined front doc.value piece) [] doc.flags doc.expiry 0 now false))

next-counts_on : (down : Bool) (w : World) (key : List ℕ) (delta now : ℕ) (doc : Doc) (found : Option ℕ) → IsNext w key now (counts_on down w key delta now doc found).effect
next-counts_on down w key delta now doc None = tt
next-counts_on down w key delta now doc (Some number) = next-puts w key (decimal (counted down number delta)) (to_be_bytes w64 (counted down number delta)) doc.flags doc.expiry 0 now false

next-count : (down : Bool) (w : World) (key : List ℕ) (delta initial expiration cas now : ℕ) (found : Option Doc) → IsNext w key now (answer_count down w key delta initial expiration cas now found).effect
next-count down w key delta initial expiration cas now None =
    next-unless w key now (new_count_refusal cas expiration) _ (next-puts w key (decimal initial) (to_be_bytes w64 initial) 0 (stored_expiry expiration now) 0 now false)
next-count down w key delta initial expiration cas now (Some doc) =
    next-unless w key now (cas_refusal cas (Some doc.cas)) _ (next-counts_on down w key delta now doc (number_of doc.value))

next-touch : (fetch : Bool) (w : World) (key : List ℕ) (expiration now : ℕ) (found : Option Doc) → IsNext w key now (answer_touch fetch w key expiration now found).effect
next-touch fetch w key expiration now None = tt
next-touch fetch w key expiration now (Some doc) =
    next-cond w key now (stored_expiry expiration now == doc.expiry) (shows doc.cas (shown_flags fetch doc) (shown_value fetch doc))
    (puts w key (next_doc w doc.value doc.flags (stored_expiry expiration now) false now) (shown_flags fetch doc) (shown_value fetch doc)) tt
    (next-puts w key doc.value (shown_value fetch doc) doc.flags (stored_expiry expiration now) (shown_flags fetch doc) now false)

next-row : (w : World) (call : CallData) (now : ℕ) (key : List ℕ) → key_of call ≡ Some key → IsNext w key now (answer_row w call now).effect
next-row w (Get other) now key is = subst (λ k. IsNext w k now (answer_row w (Get other) now).effect) (let e : other ≡ key = cc in e) (next-get w other now (live w other now))
next-row w (Store kind other value flags expiration cas) now key is =
    subst (λ k. IsNext w k now (answer_row w (Store kind other value flags expiration cas) now).effect) (let e : other ≡ key = cc in e) (
    next-unless w other now (size_refusal w.fit (length other) (length value)) _ (next-unless w other now (store_refusal kind cas (cas_of (live w other now))) _ (next-puts w other value [] flags (stored_expiry expiration now) 0 now false))
    )
next-row w (Join front other value cas) now key is =
    subst (λ k. IsNext w k now (answer_row w (Join front other value cas) now).effect) (let e : other ≡ key = cc in e) (next-join front w other value cas now (live w other now))
next-row w (Count down other delta initial expiration cas) now key is =
    subst (λ k. IsNext w k now (answer_row w (Count down other delta initial expiration cas) now).effect) (let e : other ≡ key = cc in e) (next-count down w other delta initial expiration cas now (live w other now))
next-row w (Delete other cas) now key is =
    subst (λ k. IsNext w k now (answer_row w (Delete other cas) now).effect) (let e : other ≡ key = cc in e) (
    next-unless w other now (wanted_refusal cas (cas_of (live w other now))) _ (next-puts w other [] [] 0 0 0 now true)
    )
next-row w (Touch other expiration fetch) now key is =
    subst (λ k. IsNext w k now (answer_row w (Touch other expiration fetch) now).effect) (let e : other ≡ key = cc in e) (next-touch fetch w other expiration now (live w other now))
next-row w (Observe uuid) now key is = absurd (cc)
next-row w Failovers now key is = absurd (cc)
next-row w (SetState state) now key is = absurd (cc)
next-row w GetState now key is = absurd (cc)

-- a call on a key puts nothing, or one document under the key with the next numbers
pub answer_is_next : (w : World) (call : CallData) (now : ℕ) (key : List ℕ) → key_of call ≡ Some key → IsNext w key now (answer w call now).effect
answer_is_next w call now key is = next-unless w key now (state_refusal w.state (has_key call)) (answer_row w call now) (next-row w call now key is)

unless-nothing : (refusal : Option ℕ) (a : Answer) → a.effect ≡ Nothing → (unless refusal a).effect ≡ Nothing
unless-nothing None a h = h
unless-nothing (Some status) a h = refl

get-nothing : (found : Option Doc) → (answer_get found).effect ≡ Nothing
get-nothing None = refl
get-nothing (Some doc) = refl

cond-nothing : (b : Bool) (x y : Answer) → x.effect ≡ Nothing → y.effect ≡ Nothing → (cond b x y).effect ≡ Nothing
cond-nothing true x y p q = p
cond-nothing false x y p q = q

-- a Get changes nothing
nothing_of_get : (w : World) (key : List ℕ) (now : ℕ) → (answer w (Get key) now).effect ≡ Nothing
nothing_of_get w key now = unless-nothing (state_refusal w.state true) (answer_get (live w key now)) (get-nothing (live w key now))

-- nor does a call that asks for numbers
nothing_of_observe : (w : World) (uuid now : ℕ) → (answer w (Observe uuid) now).effect ≡ Nothing
nothing_of_observe w uuid now = unless-nothing (state_refusal w.state false) (answer_row w (Observe uuid) now) (cond-nothing (uuid == uuid_of w.failovers) _ _ refl refl)

nothing_of_failovers : (w : World) (now : ℕ) → (answer w Failovers now).effect ≡ Nothing
nothing_of_failovers w now = unless-nothing (state_refusal w.state false) (answer_row w Failovers now) refl

nothing_of_get_state : (w : World) (now : ℕ) → (answer w GetState now).effect ≡ Nothing
nothing_of_get_state w now = unless-nothing (state_refusal w.state false) (answer_row w GetState now) refl

-- what a call may do: put a document under the key that it may write, with the next numbers, or set its state
abbrev pub IsDone : World → CallData → ℕ → Effect → Type 0
IsDone w call now Nothing = Unit {0}
IsDone w call now (Puts key doc) = (written_key call ≡ Some key) × HasNext w now doc
IsDone w call now (Sets state) = call ≡ SetState state

done-next : (w : World) (call : CallData) (now : ℕ) (key : List ℕ) (effect : Effect) → written_key call ≡ Some key → IsNext w key now effect → IsDone w call now effect
done-next w call now key Nothing written next = tt
done-next w call now key (Puts other doc) written next = (written ∙ ap (λ (k : List ℕ). Some k) (sym next.0), next.1)
done-next w call now key (Sets state) written next = absurd next

done-nothing : (w : World) (call : CallData) (now : ℕ) (effect : Effect) → effect ≡ Nothing → IsDone w call now effect
done-nothing w call now effect is = subst (λ (e : Effect). IsDone w call now e) (sym is) tt

done-set : (w : World) (at state : VbState) (now : ℕ) → IsDone w (SetState state) now (unless (state_refusal at false) (answer_set_state state)).effect
done-set w Active state now = refl
done-set w Replica state now = refl
done-set w Pending state now = refl
done-set w Dead state now = refl

pub answer_done : (w : World) (call : CallData) (now : ℕ) → IsDone w call now (answer w call now).effect
answer_done w (Get key) now = done-nothing w (Get key) now _ (nothing_of_get w key now)
answer_done w (Store kind key value flags expiration cas) now = done-next w (Store kind key value flags expiration cas) now key _ refl (answer_is_next w (Store kind key value flags expiration cas) now key refl)
answer_done w (Join front key value cas) now = done-next w (Join front key value cas) now key _ refl (answer_is_next w (Join front key value cas) now key refl)
answer_done w (Count down key delta initial expiration cas) now = done-next w (Count down key delta initial expiration cas) now key _ refl (answer_is_next w (Count down key delta initial expiration cas) now key refl)
answer_done w (Delete key cas) now = done-next w (Delete key cas) now key _ refl (answer_is_next w (Delete key cas) now key refl)
answer_done w (Touch key expiration fetch) now = done-next w (Touch key expiration fetch) now key _ refl (answer_is_next w (Touch key expiration fetch) now key refl)
answer_done w (Observe uuid) now = done-nothing w (Observe uuid) now _ (nothing_of_observe w uuid now)
answer_done w Failovers now = done-nothing w Failovers now _ (nothing_of_failovers w now)
answer_done w (SetState state) now = done-set w w.state state now
answer_done w GetState now = done-nothing w GetState now _ (nothing_of_get_state w now)

seen-put : (w : World) (call : CallData) (now seqno : ℕ) (key : Option (List ℕ)) → written_key call ≡ key → IsDone w call now (seen_put w now seqno key)
seen-put w call now seqno None is = tt
seen-put w call now seqno (Some key) is = elim (seqno == 0) as (λ b. IsDone w call now (cond b Nothing (Puts key (next_doc w [] 0 0 false now)))) [ true ↦ tt | false ↦ (is, (refl, refl)) ]

seen_done : (w : World) (call : CallData) (now : ℕ) (reply : Reply) → IsDone w call now (seen_effect w call now reply)
seen_done w (Get key) now reply = tt
seen_done w (Store kind key value flags expiration cas) now reply = seen-put w (Store kind key value flags expiration cas) now reply.seqno (Some key) refl
seen_done w (Join front key value cas) now reply = seen-put w (Join front key value cas) now reply.seqno (Some key) refl
seen_done w (Count down key delta initial expiration cas) now reply = seen-put w (Count down key delta initial expiration cas) now reply.seqno (Some key) refl
seen_done w (Delete key cas) now reply = seen-put w (Delete key cas) now reply.seqno (Some key) refl
seen_done w (Touch key expiration fetch) now reply = seen-put w (Touch key expiration fetch) now reply.seqno (Some key) refl
seen_done w (Observe uuid) now reply = tt
seen_done w Failovers now reply = tt
seen_done w (SetState state) now reply = elim (reply.status == success) as (λ b. IsDone w (SetState state) now (cond b (Sets state) Nothing)) [ true ↦ refl | false ↦ tt ]
seen_done w GetState now reply = tt

-- So it is with what a call that was answered did, told or not.
pub call_done : (w : World) (call : CallData) (now : ℕ) (reply : Reply) → IsDone w call now (call_effect w call now reply)
unfolding call_effect
call_done w call now reply = elim w.told as (λ b. IsDone w call now (cond b (answer w call now).effect (seen_effect w call now reply))) [ true ↦ answer_done w call now | false ↦ seen_done w call now reply ]

-- where the documents are known, it did what its answer says
pub call_told : (w : World) (call : CallData) (now : ℕ) (reply : Reply) → w.told ≡ true → call_effect w call now reply ≡ (answer w call now).effect
unfolding call_effect
call_told w call now reply told = ap (λ b. cond b (answer w call now).effect (seen_effect w call now reply)) told

-- a call that writes no key and sets no state does nothing
pub done_nothing : (w : World) (call : CallData) (now : ℕ) (effect : Effect) → written_key call ≡ None → ((state : VbState) → call ≢ SetState state) → IsDone w call now effect → effect ≡ Nothing
done_nothing w call now Nothing none sets done = refl
done_nothing w call now (Puts key doc) none sets done = absurd (let e = done.0 in cc)
done_nothing w call now (Sets state) none sets done = absurd (sets state done)

-- as a Get
pub get_done : (w : World) (key : List ℕ) (now : ℕ) (reply : Reply) → call_effect w (Get key) now reply ≡ Nothing
get_done w key now reply = done_nothing w (Get key) now (call_effect w (Get key) now reply) refl (λ state is. cc) (call_done w (Get key) now reply)

-- whose answer, too, has no effect
pub get_answer : (w : World) (key : List ℕ) (now : ℕ) → (answer w (Get key) now).effect ≡ Nothing
get_answer w key now = nothing_of_get w key now
