-- What a queue does, and which events it then stands behind. Whoever holds a queue and notes an event does one of these.
use Rattle.std.specs.Prelude.{◌≡◌, ◌≢◌, ℕ, ◌+◌, ◌<◌, true, false, nat_lt, List, length, Some}
use Rattle.ep_model.specs.declared.call.Meta.{Meta}
use Rattle.ep_model.specs.declared.call.Reply.{Reply}
use Rattle.ep_model.specs.declared.call.VbState.{VbState}
use Rattle.ep_model.specs.declared.event.Cause.{Cause}
use Rattle.ep_model.specs.declared.event.Cause.TheVariants as causes
use Rattle.ep_model.specs.declared.data.CallData.{CallData}
use Rattle.ep_model.specs.declared.data.CallData.TheVariants.{SetState}
use Rattle.ep_model.specs.declared.data.EventData.{EventData}
use Rattle.ep_model.specs.declared.data.EventData.TheVariants.{Called, Refused, Persisted, Opened}
use Rattle.ep_model.specs.declared.data.FrontData.{FrontData}
use Rattle.ep_model.specs.World.{Doc, doc_from, stamp}
use Rattle.ep_model.specs.Calls.{key_of, written_key}
use Rattle.ep_model.specs.Answer.{Nothing, Puts, Sets, answer}
use Rattle.ep_model.specs.History.{call_effect}
use Rattle.ep_model.specs.Mutations.{mutation_of}
use Rattle.ep_model.specs.Front.{world_of, with_event}
use Rattle.ep_model.specs.Legal.{IsServing, Caused, May}
use Rattle.ep_model.specs.Checkpoints.{queued as cut_with, cut, items_above, item_blocks}
use Rattle.ep_model.specs.Quota.{is_overfull}
use Rattle.ckpt_manager.specs.declared.data.QueueData.{QueueData}
use Rattle.ckpt_manager.specs.Queue.{queued, item_of, stored, kept_with, Expelled}
use Rattle.vb_front.specs.Stands.{QueueStands}

-- A queue that takes the document which an event puts. Its metadata have the document's CAS, and all of the document where
-- that is known.
abbrev pub QueuesTakeMutations : Type 0
QueuesTakeMutations = (f : FrontData) (event : EventData) (q : QueueData) (key : List ℕ) (meta : Meta) (value : List ℕ) (doc : Doc)
    → mutation_of (world_of f) event ≡ Some (key, doc) → meta.cas ≡ doc.cas
    → ((world_of f).told ≡ true → doc_from (item_of key meta value (q.high + 1)).meta value ≡ doc)
    → QueueStands f q → QueueStands (with_event f event) (queued q key meta value)

-- What a call puts that is answered so.
-- `written`, `cas`: it is the call's key, with the next CAS at the moment;
-- `seen`: where no documents are known, the reply has a number;
-- `shown`: where they are, it is what the call's answer puts.
pub record IsPutBy (f : FrontData) (call : CallData) (now : ℕ) (reply : Reply) (key : List ℕ) (meta : Meta) (value : List ℕ) : Type 0 where
  pub written : written_key call ≡ Some key
  pub cas : meta.cas ≡ stamp (world_of f) now
  pub seen : (world_of f).told ≡ false → reply.seqno ≢ 0
  pub shown : (world_of f).told ≡ true → (answer (world_of f) call now).effect ≡ Puts key (doc_from (item_of key meta value ((world_of f).high + 1)).meta value)

abbrev pub QueuesTakeCalls : Type 0
QueuesTakeCalls = (f : FrontData) (caller : ℕ) (call : CallData) (now : ℕ) (reply : Reply) (text : List ℕ) (q : QueueData) (key : List ℕ) (meta : Meta) (value : List ℕ)
    → IsPutBy f call now reply key meta value → QueueStands f q → QueueStands (with_event f (Called caller call now reply text)) (queued q key meta value)

-- A call that is answered so puts nothing: where no documents are known its reply has no number, and else its answer has no
-- effect. It sets no state.
pub record PutsNothing (f : FrontData) (call : CallData) (now : ℕ) (reply : Reply) : Type 0 where
  pub stays : (state : VbState) → call ≢ SetState state
  pub seen : (world_of f).told ≡ false → reply.seqno ≡ 0
  pub shown : (world_of f).told ≡ true → (answer (world_of f) call now).effect ≡ Nothing

abbrev pub QueuesStandBehindAnswers : Type 0
QueuesStandBehindAnswers = (f : FrontData) (caller : ℕ) (call : CallData) (now : ℕ) (reply : Reply) (text : List ℕ) (q : QueueData)
    → PutsNothing f call now reply → QueueStands f q → QueueStands (with_event f (Called caller call now reply text)) q

abbrev pub QueuesStandBehindRefusals : Type 0
QueuesStandBehindRefusals = (f : FrontData) (caller : ℕ) (call : CallData) (now : ℕ) (cause : Cause) (q : QueueData)
    → QueueStands f q → QueueStands (with_event f (Refused caller call now cause)) q

-- A queue that sets the state which a call sets.
abbrev pub QueuesSetStates : Type 0
QueuesSetStates = (f : FrontData) (caller : ℕ) (call : CallData) (now : ℕ) (reply : Reply) (text : List ℕ) (state : VbState) (q : QueueData)
    → call_effect (world_of f) call now reply ≡ Sets state → QueueStands f q → QueueStands (with_event f (Called caller call now reply text)) (record q { state = state })

-- A queue that opens.
abbrev pub QueuesOpen : Type 0
QueuesOpen = (f : FrontData) (q : QueueData) → QueueStands f q → QueueStands (with_event f Opened) (record q { opened = true })

-- A queue that drops items which every cursor has passed.
abbrev pub QueuesExpel : Type 0
QueuesExpel = (f : FrontData) (old new : QueueData) → Expelled old new → QueueStands f old → QueueStands f new

-- A queue that is told what is stored.
abbrev pub QueuesStore : Type 0
QueuesStore = (f : FrontData) (q : QueueData) (number : ℕ) → May f (Persisted number) → QueueStands f q → QueueStands (with_event f (Persisted number)) (stored q number)

-- A queue whose flusher has read all, or reads again what isn't stored.
abbrev pub QueuesAreRead : Type 0
QueuesAreRead = (f : FrontData) (q : QueueData) → QueueStands f q → QueueStands f (record q { cursor = q.high })

abbrev pub QueuesAreReadAgain : Type 0
QueuesAreReadAgain = (f : FrontData) (q : QueueData) → QueueStands f q → QueueStands f (record q { cursor = q.persisted })

-- Where documents are known, what a queue keeps with the next mutation's document is what the checkpoints keep with it, so
-- that it has no room for the document exactly where they have none.
abbrev pub KeptIsMeasured : Type 0
KeptIsMeasured = (f : FrontData) (q : QueueData) (key : List ℕ) (doc : Doc) → (world_of f).told ≡ true → doc.seqno ≡ (world_of f).high + 1 → QueueStands f q
    → kept_with q key (length doc.value) ≡ item_blocks (items_above (world_of f).persisted (cut_with f.config.ckpt_max (key, doc) (cut f)))

abbrev pub ShortIsOverfull : Type 0
ShortIsOverfull = (f : FrontData) (q : QueueData) (key : List ℕ) (doc : Doc) → (world_of f).told ≡ true → doc.seqno ≡ (world_of f).high + 1 → QueueStands f q
    → is_overfull f (Some (key, doc)) ≡ nat_lt q.blocks (kept_with q key (length doc.value))

-- So a call on a key of a vBucket that serves may be refused where the queue has no room for its document. Where documents
-- are known, it is the one that the call puts.
abbrev pub ShortIsQuota : Type 0
ShortIsQuota = (f : FrontData) (caller : ℕ) (call : CallData) (now : ℕ) (q : QueueData) (key : List ℕ) (meta : Meta) (value : List ℕ) → IsServing (world_of f) → key_of call ≡ Some key
    → ((world_of f).told ≡ true → (answer (world_of f) call now).effect ≡ Puts key (doc_from (item_of key meta value ((world_of f).high + 1)).meta value))
    → q.blocks < kept_with q key (length value) → QueueStands f q → Caused f caller call now causes.Quota
