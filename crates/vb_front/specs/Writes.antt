-- What a call that may put a document comes to on its stripe and the queue, and what it leaves of them.
use Rattle.std.specs.Prelude.{◌≡◌, ℕ, ◌+◌, ◌≤◌, true, false, nat_lt, ◌&&◌, ◌||◌, Bool, if◌then◌else◌, min, List, [], length, Option, Some, None}
use Rattle.std.specs.Option.{is_some}
use Rattle.ep_model.specs.declared.call.Meta.{Meta}
use Rattle.ep_model.specs.declared.call.Reply.{Reply}
use Rattle.ep_model.specs.declared.call.StoreKind.{StoreKind}
use Rattle.ep_model.specs.declared.config.Eviction.{Eviction}
use Rattle.ep_model.specs.declared.config.Eviction.TheVariants.{Value, Full}
use Rattle.ep_model.specs.declared.event.Cause.{Cause}
use Rattle.ep_model.specs.declared.event.Cause.TheVariants as causes
use Rattle.ep_model.specs.declared.event.Ticket.{Ticket}
use Rattle.ep_model.specs.declared.data.CallData.{CallData}
use Rattle.ep_model.specs.declared.data.CallData.TheVariants.{Store, Join, Count, Delete, Touch}
use Rattle.ep_model.specs.declared.data.FrontData.{FrontData}
use Rattle.ep_model.specs.World.{Doc, World, empty_world, live_of, meta_of, doc_from, doc_blocks, blocks, stored_expiry, tombstone}
use Rattle.ep_model.specs.Limits.{max_value}
use Rattle.ep_model.specs.Needs.{needs, own_refusal}
use Rattle.ep_model.specs.Refusals.{state_refusal, size_refusal, store_refusal, wanted_refusal}
use Rattle.ep_model.specs.Answer.{Answer, Effect, Nothing, Puts, Sets, unless, refused, cas_of, puts, stores, answer_join, answer_count, answer_touch, answer_row}
use Rattle.ep_model.specs.Quota.{is_short}
use Rattle.ep_model.specs.Front.{world_of}
use Rattle.ep_model.specs.Legal.{IsServing, IsLegal}
use Rattle.hash_stripe.specs.declared.found.Found.{Found}
use Rattle.hash_stripe.specs.declared.found.Found.TheVariants as founds
use Rattle.hash_stripe.specs.Nodes.{NodeData, Slot, node_at, EjectsOthers, Restores}
use Rattle.hash_stripe.specs.Stripes.{StripeData, found, resident_value, text_of}
use Rattle.fetch_book.specs.Places.{forgotten}
use Rattle.fetch_book.specs.Books.{BookData}
use Rattle.ckpt_manager.specs.declared.data.QueueData.{QueueData}
use Rattle.ckpt_manager.specs.Queue.{queued, kept_with, Expelled, NoneTooMany}
use Rattle.vb_front.specs.declared.part.StripePart.{StripePart}
use Rattle.vb_front.specs.declared.step.Step.{Step}
use Rattle.vb_front.specs.declared.step.Step.TheVariants as steps
use Rattle.vb_front.specs.declared.wait.Meaning.{Meaning}
use Rattle.vb_front.specs.declared.wait.Meaning.TheVariants as waits
use Rattle.vb_front.specs.Stands.{StripeStands, QueueStands}
use Rattle.vb_front.specs.Priors.{event_of, IsNext}
use Rattle.hold_stage.specs.Priors.{PriorsStand}
use Rattle.vb_front.specs.Waits.{has_no_room, waited, release, ask_step, ask_book}

-- the numbers that an answer goes by, as the parts show them
abbrev pub shown_world : StripeData → QueueData → World
shown_world s q = record (empty_world 0 (min (length s.slots) q.blocks)) { high = q.high; maxcas = q.maxcas; failovers = q.table }

-- the metadata that memory has of a key's document, and the document of these and a value
abbrev pub seen_meta : Found → Option Meta
seen_meta founds.Nothing = None
seen_meta (founds.Ejected meta) = Some meta
seen_meta (founds.Resident meta) = Some meta

abbrev pub shown_doc : List ℕ → Option Meta → Option Doc
shown_doc text None = None
shown_doc text (Some meta) = Some (doc_from meta text)

-- the value that memory has of a key's document, which is empty where it has none
abbrev pub text_at : StripeData → List ℕ → List ℕ
text_at s key = text_of (resident_value (node_at s.slots key))

-- a value is in memory, as long as these metadata say and within the limit
pub record IsTextOf (meta : Meta) (value : Option (List ℕ)) : Type 0 where
  pub there : is_some value ≡ true
  pub len : length (text_of value) ≡ meta.len
  pub short : length (text_of value) ≤ max_value

-- the value of a document that was seen is in memory
abbrev pub HasText : Option Meta → Slot → Type 0
HasText None slot = Unit {0}
HasText (Some meta) slot = IsTextOf meta (resident_value slot)

-- memory lacks the value of a document, or under full eviction it may lack a document
abbrev pub is_away : Eviction → Found → Bool
is_away Value founds.Nothing = false
is_away Full founds.Nothing = true
is_away eviction (founds.Ejected meta) = true
is_away eviction (founds.Resident meta) = false

-- the rows of calls on a key by its live document, or by that one's CAS
abbrev pub store_row : World → StoreKind → List ℕ → List ℕ → ℕ → ℕ → ℕ → ℕ → Option ℕ → Answer
store_row w kind key value flags expiration cas now current =
    unless (size_refusal w.fit (length key) (length value)) (
    unless (store_refusal kind cas current) (
    stores w key value flags (stored_expiry expiration now) now))

abbrev pub delete_row : World → List ℕ → ℕ → ℕ → Option ℕ → Answer
delete_row w key cas now current = unless (wanted_refusal cas current) (puts w key (tombstone w now) 0 [])

abbrev pub row_of : World → CallData → ℕ → Option Doc → Answer
row_of w (Store kind key value flags expiration cas) now live = store_row w kind key value flags expiration cas now (cas_of live)
row_of w (Join front key value cas) now live = answer_join front w key value cas now live
row_of w (Count down key delta initial expiration cas) now live = answer_count down w key delta initial expiration cas now live
row_of w (Delete key cas) now live = delete_row w key cas now (cas_of live)
row_of w (Touch key expiration fetch) now live = answer_touch fetch w key expiration now live
row_of w call now live = answer_row w call now

-- What becomes of the documents: nothing; room is made for a value of this length under a key, and nothing put; a document is put.
pub data DocumentChange : Type 0 where
  Stays : DocumentChange
  Clears : (key : List ℕ) → (len : ℕ) → DocumentChange
  Places : (key : List ℕ) → (doc : Doc) → DocumentChange

-- what it comes to, the value of its answer, the places that it leaves, and what becomes of the documents
pub record Write : Type 0 where
  pub step : Step
  pub value : List ℕ
  pub book : BookData
  pub change : DocumentChange

-- the places of a key go
abbrev pub forget : BookData → List ℕ → BookData
forget book key = record book { places = forgotten book.places key }

-- answered without an effect, or refused; its place is free
abbrev pub write_done : StripePart → Option Ticket → Answer → Write
write_done part prior a = record { step = steps.Done a.reply; value = a.value; book = release part.book prior; change = Stays }

abbrev pub write_refused : StripePart → Option Ticket → Cause → DocumentChange → Write
write_refused part prior cause change = record { step = steps.Refused cause; value = []; book = release part.book prior; change = change }

-- a document with a value of this length has no room in the stripe, or else in the queue
abbrev pub lacks_room : StripeData → QueueData → List ℕ → ℕ → Bool
lacks_room s q key len = has_no_room s key (blocks (length key) + blocks len) || nat_lt q.blocks (kept_with q key len)

-- what a call comes to whose document was put, or had no room
abbrev pub step_of : Option Reply → Step
step_of None = steps.Refused causes.Quota
step_of (Some reply) = steps.Done reply

-- the value that it shows
abbrev pub value_if : Option Reply → List ℕ → List ℕ
value_if None value = []
value_if (Some reply) value = value

-- A document is put where there is room. No call waits for what it replaces.
abbrev pub write_put : StripePart → Option Ticket → Answer → List ℕ → Doc → Bool → Write
write_put part prior a key doc true = write_refused part prior causes.Quota (Clears key (length doc.value))
write_put part prior a key doc false = record {
  step = steps.Done a.reply;
  value = a.value;
  book = forget (release part.book prior) key;
  change = Places key doc;
}

abbrev pub write_effect : StripePart → QueueData → Option Ticket → Answer → Effect → Write
write_effect part q prior a Nothing = write_done part prior a
write_effect part q prior a (Puts key doc) = write_put part prior a key doc (lacks_room part.table q key (length doc.value))
write_effect part q prior a (Sets state) = write_done part prior a

abbrev pub write_answer : StripePart → QueueData → Option Ticket → Answer → Write
write_answer part q prior a = write_effect part q prior a a.effect

-- it is answered over this document, which may be expired
abbrev pub write_over : StripePart → QueueData → Option Ticket → CallData → ℕ → Option Doc → Write
write_over part q prior call now doc = write_answer part q prior (row_of (shown_world part.table q) call now (live_of doc now))

-- It waits, without room in memory for the document that it needs: one that is too large itself needs none.
abbrev pub write_crowded : StripePart → Option Ticket → Option ℕ → Write
write_crowded part prior None = write_refused part prior causes.Quota Stays
write_crowded part prior (Some status) = write_done part prior (refused status)

-- It needs what isn't in memory. Where the store has no document it is answered over none.
abbrev pub write_waits : StripePart → QueueData → Option Ticket → CallData → List ℕ → ℕ → Meaning → Write
write_waits part q prior call key now (waits.Waits ticket) = record { step = steps.Fetch ticket; value = []; book = part.book; change = Stays }
write_waits part q prior call key now waits.Asks = record {
  step = ask_step (release part.book prior);
  value = [];
  book = ask_book (release part.book prior) key;
  change = Stays;
}
write_waits part q prior call key now waits.Absent = write_over part q prior call now None
write_waits part q prior call key now (waits.Refused causes.Quota) = write_crowded part prior (own_refusal (shown_world part.table q).fit call)
write_waits part q prior call key now (waits.Refused cause) = write_refused part prior cause Stays

abbrev pub write_found : StripePart → QueueData → Option Ticket → CallData → List ℕ → ℕ → Found → Write
write_found part q prior call key now seen =
    if needs part.table.eviction call && is_away part.table.eviction seen then write_waits part q prior call key now (waited part.table part.book key prior) else
    write_over part q prior call now (shown_doc (text_at part.table key) (seen_meta seen))

-- a vBucket that isn't active refuses calls on keys
abbrev pub write_active : StripePart → QueueData → Option Ticket → CallData → List ℕ → ℕ → Option ℕ → Write
write_active part q prior call key now None = write_found part q prior call key now (found (node_at part.table.slots key))
write_active part q prior call key now (Some status) = write_done part prior (refused status)

abbrev pub write_step : StripePart → QueueData → Option Ticket → CallData → List ℕ → ℕ → Write
write_step part q prior call key now =
    if part.table.opened then write_active part q prior call key now (state_refusal part.table.state true) else
    write_refused part prior causes.Warming Stays

-- the node of a document that was put now
abbrev pub node_of : List ℕ → Doc → NodeData
node_of key doc = record { key = key; meta = meta_of doc; value = Some doc.value; age = 0 }

-- The memory that is left: as it was, with documents of other keys ejected, or with the document put where that made room.
abbrev pub SlotsLeft : StripeData → DocumentChange → StripeData → Type 0
SlotsLeft s Stays new = new.slots ≡ s.slots
SlotsLeft s (Clears key len) new = EjectsOthers s.eviction s.mark key (blocks (length key) + blocks len) s.slots new.slots
SlotsLeft s (Places key doc) new = Restores s.eviction s.mark (doc_blocks key doc) (node_of key doc) s.slots new.slots

-- all else of the stripe is as it was
pub record LeavesSlots (s : StripeData) (change : DocumentChange) (new : StripeData) : Type 0 where
  pub rest : new ≡ record s { slots = new.slots }
  pub slots : SlotsLeft s change new

-- Some items went that every cursor has passed, no more than had to, and then the document was queued.
pub record Queues (old : QueueData) (key : List ℕ) (doc : Doc) (new : QueueData) : Type 0 where
  pub room : QueueData
  pub expelled : Expelled old room
  pub least : NoneTooMany old room key (length doc.value)
  pub after : new ≡ queued room key (meta_of doc) doc.value

-- Room was made in vain: some items went that every cursor has passed, no more than had to, and none where the stripe had no room.
pub record Vacates (s : StripeData) (old : QueueData) (key : List ℕ) (len : ℕ) (new : QueueData) : Type 0 where
  pub expelled : Expelled old new
  pub least : NoneTooMany old new key len
  pub behind : has_no_room s key (blocks (length key) + blocks len) ≡ true → new ≡ old

abbrev pub QueueLeft : StripeData → QueueData → DocumentChange → QueueData → Type 0
QueueLeft s q Stays new = new ≡ q
QueueLeft s q (Clears key len) new = Vacates s q key len new
QueueLeft s q (Places key doc) new = Queues q key doc new

-- What is left of the parts.
pub record Leaves (old : StripePart) (q : QueueData) (w : Write) (new : StripePart) (after : QueueData) : Type 0 where
  pub book : new.book ≡ w.book
  pub table : LeavesSlots old.table w.change new.table
  pub queue : QueueLeft old.table q w.change after

-- What code wrote is this.
pub record Wrote (old : StripePart) (q : QueueData) (w : Write) (came : Step) (new : StripePart) (after : QueueData) : Type 0 where
  pub step : came ≡ w.step
  pub left : Leaves old q w new after

-- Whatever history the parts stood for, what the call came to is legal behind it, and what it left stands behind that.
abbrev pub WriteIsLegal : StripePart → QueueData → CallData → List ℕ → ℕ → Option Ticket → Write → StripePart → QueueData → Type 0
WriteIsLegal old q call key now prior w new after =
    (f : FrontData) (stripe caller : ℕ) → IsLegal f → StripeStands f stripe old → QueueStands f q → PriorsStand f caller call prior
    → IsNext f (event_of caller call now prior w.step w.value) (λ g. StripeStands g stripe new × QueueStands g after)

-- Where documents are known and the vBucket serves, a call that is answered had room. So where there is none it isn't answered, and it is refused for
-- want of room only there, as `WriteIsLegal` says: exactly there, where memory has what it needs (`QuotaIsWantOfRoom`).
abbrev pub AnsweredHasRoom : StripePart → QueueData → CallData → List ℕ → ℕ → Option Ticket → Write → Type 0
AnsweredHasRoom old q call key now prior w =
    (f : FrontData) (stripe caller : ℕ) (reply : Reply) → IsLegal f → StripeStands f stripe old → QueueStands f q → PriorsStand f caller call prior
    → (world_of f).told ≡ true → IsServing (world_of f) → w.step ≡ steps.Done reply → is_short f key call now ≡ false
