-- What a call is answered in a world, and what it does to it. Memory, a store and other callers have no part
-- in this. The checks of each call stand in the order in which they are made.
use Rattle.std.specs.Prelude.{ℕ, ◌+◌, ◌-◌, ◌%◌, ◌^◌, Bool, false, ◌==◌, if◌then◌else◌, List, [], ◌∷◌, ◌++◌, length, Option, Some, None, decimal}
use Rattle.std.specs.Option.{option_map}
use Rattle.std.specs.Int.{w16, w32, w64, to_be_bytes}
use Rattle.ep_model.specs.declared.call.VbState.{VbState}
use Rattle.ep_model.specs.declared.call.VbState.TheVariants.{Active, Replica, Pending, Dead}
use Rattle.ep_model.specs.declared.call.StoreKind.{StoreKind}
use Rattle.ep_model.specs.declared.call.Reply.{Reply}
use Rattle.ep_model.specs.declared.data.CallData.{CallData}
use Rattle.ep_model.specs.declared.data.CallData.TheVariants.{Get, Store, Join, Count, Delete, Touch, Observe, Failovers, SetState, GetState}
use Rattle.ep_model.specs.Statuses.{success, key_not_found, not_stored, bad_delta}
use Rattle.ep_model.specs.World.{Doc, World, live, stored_expiry, uuid_of, next_doc, tombstone, put}
use Rattle.ep_model.specs.Calls.{has_key}
use Rattle.ep_model.specs.Refusals.{state_refusal, size_refusal, join_refusal, cas_refusal, wanted_refusal, store_refusal, new_count_refusal, number_refusal}
use Rattle.ep_model.specs.Decimal.{number_of}

-- what a call does: nothing, one document for one key, or a state
pub data Effect : Type 0 where
  Nothing : Effect
  Puts : (key : List ℕ) → (doc : Doc) → Effect
  Sets : (state : VbState) → Effect

pub record Answer : Type 0 where
  pub reply : Reply
  pub value : List ℕ
  pub effect : Effect

-- a status alone
abbrev pub bare_reply : ℕ → Reply
bare_reply status = record { status = status; cas = 0; flags = 0; uuid = 0; seqno = 0 }

-- a status alone, without an effect
abbrev pub refused : ℕ → Answer
refused status = record { reply = bare_reply status; value = []; effect = Nothing }

-- refused by a status, or where there is none done
abbrev pub unless : Option ℕ → Answer → Answer
unless None done = done
unless (Some status) done = refused status

-- success without an effect
abbrev pub shows : ℕ → ℕ → List ℕ → Answer
shows cas flags value = record { reply = record (bare_reply success) { cas = cas; flags = flags }; value = value; effect = Nothing }

-- success with the effect that puts a document, shown with its numbers, flags and a value
abbrev pub put_success : World → List ℕ → Doc → ℕ → List ℕ → Answer
put_success w key doc flags value = record {
  reply = record (bare_reply success) { cas = doc.cas; flags = flags; uuid = uuid_of w.failovers; seqno = doc.seqno };
  value = value;
  effect = Puts key doc;
}

-- the same, refused where the sequence numbers have run out
abbrev pub puts : World → List ℕ → Doc → ℕ → List ℕ → Answer
puts w key doc flags value = unless (number_refusal w.high) (put_success w key doc flags value)

-- the effect of a call that shows nothing of the document
abbrev pub stores : World → List ℕ → List ℕ → ℕ → ℕ → ℕ → Answer
stores w key value flags expiry now = puts w key (next_doc w value flags expiry false now) 0 []

-- the effect of a counter, which shows the number as 8 bytes, the highest first
abbrev pub counts : World → List ℕ → ℕ → ℕ → ℕ → ℕ → Answer
counts w key number flags expiry now = puts w key (next_doc w (decimal number) flags expiry false now) 0 (to_be_bytes w64 number)

-- the CAS of the live document, if there is one
abbrev pub cas_of : Option Doc → Option ℕ
cas_of found = option_map (λ (d : Doc). d.cas) found

-- Get: the live document
abbrev pub answer_get : Option Doc → Answer
answer_get None = refused key_not_found
answer_get (Some doc) = shows doc.cas doc.flags doc.value

-- Set, Add and Replace
abbrev pub answer_store : StoreKind → World → List ℕ → List ℕ → ℕ → ℕ → ℕ → ℕ → Answer
answer_store kind w key value flags expiration cas now =
    unless (size_refusal w.fit (length key) (length value)) (
    unless (store_refusal kind cas (cas_of (live w key now))) (
    stores w key value flags (stored_expiry expiration now) now))

-- Delete: a tombstone
abbrev pub answer_delete : World → List ℕ → ℕ → ℕ → Answer
answer_delete w key cas now =
    unless (wanted_refusal cas (cas_of (live w key now))) (
    puts w key (tombstone w now) 0 [])

-- Prepend where `front` is true, else Append
abbrev pub joined : Bool → List ℕ → List ℕ → List ℕ
joined front value piece = if front then piece ++ value else value ++ piece

-- Append and Prepend to the live document: its flags and its expiry stay
abbrev pub answer_join : Bool → World → List ℕ → List ℕ → ℕ → ℕ → Option Doc → Answer
answer_join front w key piece cas now None = refused not_stored
answer_join front w key piece cas now (Some doc) =
    unless (cas_refusal cas (Some doc.cas)) (
    unless (join_refusal w.fit (length key) (length doc.value + length piece)) (
    stores w key (joined front doc.value piece) doc.flags doc.expiry now))

-- The new number of a counter: a sum is taken modulo 2^64, and nothing is below 0.
abbrev pub counted : Bool → ℕ → ℕ → ℕ
counted down number delta = if down then number - delta else (number + delta) % 2 ^ 64

-- a counter of this number, if it is one, goes on
abbrev pub counts_on : Bool → World → List ℕ → ℕ → ℕ → Doc → Option ℕ → Answer
counts_on down w key delta now doc None = refused bad_delta
counts_on down w key delta now doc (Some number) = counts w key (counted down number delta) doc.flags doc.expiry now

-- Increment and Decrement: without a live document the initial value is stored
abbrev pub answer_count : Bool → World → List ℕ → ℕ → ℕ → ℕ → ℕ → ℕ → Option Doc → Answer
answer_count down w key delta initial expiration cas now None =
    unless (new_count_refusal cas expiration) (
    counts w key initial 0 (stored_expiry expiration now) now)
answer_count down w key delta initial expiration cas now (Some doc) =
    unless (cas_refusal cas (Some doc.cas)) (
    counts_on down w key delta now doc (number_of doc.value))

-- flags and value of a document, which Get-and-touch shows and Touch doesn't
abbrev pub shown_flags : Bool → Doc → ℕ
shown_flags fetch doc = if fetch then doc.flags else 0

abbrev pub shown_value : Bool → Doc → List ℕ
shown_value fetch doc = if fetch then doc.value else []

-- Touch and Get-and-touch: an effect only where the stored expiry differs
abbrev pub answer_touch : Bool → World → List ℕ → ℕ → ℕ → Option Doc → Answer
answer_touch fetch w key expiration now None = refused key_not_found
answer_touch fetch w key expiration now (Some doc) =
    if stored_expiry expiration now == doc.expiry then shows doc.cas (shown_flags fetch doc) (shown_value fetch doc) else
    puts w key (next_doc w doc.value doc.flags (stored_expiry expiration now) false now) (shown_flags fetch doc) (shown_value fetch doc)

-- a zero byte, the vBucket's id, the newest uuid, and the stored and the greatest sequence number
abbrev pub observed : World → List ℕ
observed w = 0 ∷ to_be_bytes w16 w.id ++ to_be_bytes w64 (uuid_of w.failovers) ++ to_be_bytes w64 w.persisted ++ to_be_bytes w64 w.high

-- ObserveSeqno, under the newest uuid
abbrev pub answer_observe : World → ℕ → Answer
answer_observe w uuid = if uuid == uuid_of w.failovers then shows 0 0 (observed w) else refused key_not_found

-- the failover table: a uuid and a sequence number for each entry, the newest first
abbrev pub failover_bytes : List (ℕ × ℕ) → List ℕ
failover_bytes [] = []
failover_bytes (entry ∷ older) = to_be_bytes w64 entry.0 ++ to_be_bytes w64 entry.1 ++ failover_bytes older

-- a state's number in the protocol
abbrev pub state_code : VbState → ℕ
state_code Active = 1
state_code Replica = 2
state_code Pending = 3
state_code Dead = 4

-- SetVBucket sets the state and no document
abbrev pub answer_set_state : VbState → Answer
answer_set_state state = record { reply = bare_reply success; value = []; effect = Sets state }

-- the row of each call
abbrev pub answer_row : World → CallData → ℕ → Answer
answer_row w (Get key) now = answer_get (live w key now)
answer_row w (Store kind key value flags expiration cas) now = answer_store kind w key value flags expiration cas now
answer_row w (Join front key value cas) now = answer_join front w key value cas now (live w key now)
answer_row w (Count down key delta initial expiration cas) now = answer_count down w key delta initial expiration cas now (live w key now)
answer_row w (Delete key cas) now = answer_delete w key cas now
answer_row w (Touch key expiration fetch) now = answer_touch fetch w key expiration now (live w key now)
answer_row w (Observe uuid) now = answer_observe w uuid
answer_row w Failovers now = shows 0 0 (failover_bytes w.failovers)
answer_row w (SetState state) now = answer_set_state state
answer_row w GetState now = shows 0 0 (to_be_bytes w32 (state_code w.state))

-- The answer of an opened vBucket. A call with a key wants it active, and then its row applies.
abbrev pub answer : World → CallData → ℕ → Answer
answer w call now = unless (state_refusal w.state (has_key call)) (answer_row w call now)

-- the world after an effect
abbrev pub apply : World → Effect → World
apply w Nothing = w
apply w (Puts key doc) = put w key doc
apply w (Sets state) = record w { state = state }
