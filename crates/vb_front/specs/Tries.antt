-- What a call at a stage came to, what is noted of it, and what that leaves.
use Rattle.std.specs.Prelude.{◌≡◌, ℕ, ◌+◌, ◌≤◌, Bool, true, false, List, ◌∷◌, ◌++◌, [], length, Option, Some, None, Result, Ok, Err, IsSome, IfOk, IfErr, MatchResult}
use Rattle.std.specs.Borrow.{GName}
use Rattle.std.specs.Option.{option_map}
use Rattle.ep_model.specs.declared.config.Config.{Config}
use Rattle.ep_model.specs.declared.event.Busy.{Busy}
use Rattle.ep_model.specs.declared.event.PartName.{PartName}
use Rattle.ep_model.specs.declared.event.PartName.TheVariants as names
use Rattle.ep_model.specs.declared.event.Ticket.{Ticket}
use Rattle.ep_model.specs.declared.data.CallData.{CallData}
use Rattle.ep_model.specs.declared.data.CallData.TheVariants as calls
use Rattle.ep_model.specs.declared.data.EventData.{EventData}
use Rattle.ep_model.specs.declared.data.FrontData.{FrontData}
use Rattle.ep_model.specs.Limits.{max_value, event_bytes}
use Rattle.ep_model.specs.Calls.{has_key}
use Rattle.ep_model.specs.Counts.{Rose}
use Rattle.ep_model.specs.Legal.{IsLegal}
use Rattle.ep_model.specs.Answer.{bare_reply}
use Rattle.ep_model.specs.Statuses.{status_of}
use Rattle.ep_model.specs.Stripes.{stripe_of}
use Rattle.hold_stage.specs.Touches.{there, touches_call}
use Rattle.hold_stage.specs.Grows.{Among, and_this, Grown}
use Rattle.hold_stage.specs.Stays.{Stays}
use Rattle.hold_stage.specs.Went.{with_noted, Went, LeavesRoom}
use Rattle.hold_stage.specs.Stays.{KeptBut}
use Rattle.ep_edge.specs.declared.gate.Point.{Point}
use Rattle.ep_edge.specs.declared.gate.Point.TheVariants.{InStripe, Answered}
use Rattle.ckpt_manager.specs.declared.data.QueueData.{QueueData}
use Rattle.vb_front.specs.declared.part.StripePart.{StripePart}
use Rattle.vb_front.specs.declared.part.Part.{Part}
use Rattle.vb_front.specs.declared.part.Part.TheVariants as parts
use Rattle.vb_front.specs.declared.step.Step.{Step}
use Rattle.vb_front.specs.declared.step.Step.TheVariants as steps
use Rattle.vb_front.specs.declared.at_stage.Kind.{Kind}
use Rattle.vb_front.specs.declared.at_stage.Kind.TheVariants as kinds
use Rattle.vb_front.specs.declared.at_stage.Tried.{Tried}
use Rattle.vb_front.specs.declared.at_stage.Tried.TheVariants as tries
use Rattle.vb_front.specs.Stands.{StripeStands, QueueStands}
use Rattle.vb_front.specs.Priors.{key_in, event_of}
use Rattle.vb_front.specs.Reads.{read_step, ReadIsExact, AnsweredGetHasRoom}
use Rattle.vb_front.specs.Controls.{control_step}
use Rattle.vb_front.specs.Writes.{write_step, Leaves, AnsweredHasRoom}
use Rattle.vb_front.specs.WriteSteps.{WriteIsExact}

-- room for the key and the value of a call, and for the value of its answer
abbrev pub call_bytes : ℕ
call_bytes = event_bytes + max_value

-- the event of what a call came to, and none where it found a part taken
abbrev pub event_by : ℕ → CallData → ℕ → Option Ticket → List ℕ → Result Step Busy → Option EventData
event_by caller call now prior value (Ok step) = event_of caller call now prior step value
event_by caller call now prior value (Err busy) = None

-- only an answer has a value
abbrev pub IsStepValue : Step → List ℕ → Type 0
IsStepValue (steps.Done reply) value = Unit {0}
IsStepValue (steps.Refused cause) value = value ≡ []
IsStepValue (steps.Fetch ticket) value = value ≡ []
IsStepValue steps.FetchFull value = value ≡ []

-- a point more was passed
abbrev pub with_point : Point → Option (List Point) → Option (List Point)
with_point point passed = option_map (λ points. points ++ point ∷ []) passed

-- the points that were passed on the way to what a call on a key of this stripe came to
abbrev pub passed_by : ℕ → Result Step Busy → Option (List Point) → Option (List Point)
passed_by stripe (Ok step) passed = with_point (InStripe stripe) passed
passed_by stripe (Err busy) passed = passed

-- When a Get comes to which step on this part, and that where documents are known and the vBucket serves it had room if it
-- was answered.
unfoldable pub IsExactlyRead : StripePart → Option Ticket → List ℕ → ℕ → Type 0
IsExactlyRead part prior key now =
    ReadIsExact part key prior (read_step part prior key now) × AnsweredGetHasRoom part key now prior (read_step part prior key now)

-- A Get came to what it comes to on the stripe as it was taken, which stood for all that was noted by then. From there, while it
-- held that, the history went on to the front that it leaves.
pub record Gets (f g : FrontData) (held : PartName → Bool) (caller : ℕ) (desk : Bool) (stripe : ℕ) (prior : Option Ticket) (call : CallData) (now : ℕ) (value : List ℕ) (step : Step) : Type 0 where
  pub at : FrontData
  pub grown : Grown f at held caller desk
  pub legal : IsLegal at
  pub part : StripePart
  pub stands : StripeStands at stripe part
  pub step_is : step ≡ (read_step part prior (key_in call) now).step
  pub value_is : value ≡ (read_step part prior (key_in call) now).value
  pub exact : IsExactlyRead part prior (key_in call) now
  pub behind : Went at g (and_this (names.Stripe stripe) held) caller desk (event_of caller call now prior step value)

-- where it is known what the stripe was, that is what it comes to and leaves on this one, which stood for the history
pub record GetsFrom (f : FrontData) (stripe : ℕ) (old new : Option Part) (prior : Option Ticket) (key : List ℕ) (now : ℕ) (value : List ℕ) (step : Step) : Type 0 where
  pub part : StripePart
  pub before : old ≡ Some (parts.Stripe part)
  pub stands : StripeStands f stripe part
  pub step_is : step ≡ (read_step part prior key now).step
  pub value_is : value ≡ (read_step part prior key now).value
  pub exact : IsExactlyRead part prior key now
  pub behind : new ≡ Some (parts.Stripe (read_step part prior key now).part)

-- This is so of the part that such a call takes before this one, where there is one: a call that may put a document takes the
-- stripe of its key before the queue.
abbrev pub Ahead : Kind → ℕ → PartName → (PartName → Type 0) → Type 0
Ahead kinds.Read stripe part so = Unit {0}
Ahead kinds.Write stripe (names.Stripe other) so = Unit {0}
Ahead kinds.Write stripe names.Queue so = so (names.Stripe stripe)
Ahead kinds.Write stripe names.Desk so = Unit {0}
Ahead kinds.Control stripe part so = Unit {0}
Ahead kinds.Change stripe part so = Unit {0}

-- A part was not at home, and one that is taken before it was. All parts that the vBucket has are where they were.
pub record IsOut (config : Config) (kind : Kind) (stripe : ℕ) (part : PartName) (old new : PartName → Option Part) : Type 0 where
  pub out : old part ≡ None
  pub ahead : Ahead kind stripe part (λ p. IsSome (old p))
  pub same : (p : PartName) → there config p ≡ true → new p ≡ old p

-- Somebody else had a part, which a stage found on its way: when it held what it had held, and maybe more, but not the part, and
-- others may have noted something. It was the same stage, seen by what no call changes.
pub record WasElsewhere {A F : Type 0} (front : A → FrontData) (holds : A → PartName → Bool) (lent : A → GName) (fixed : A → F) (number : A → ℕ) (is_desk is_telling : A → Bool) (is_elsewhere : A → PartName → Type 0) (old : A) (part : PartName) : Type 0 where
  pub at : A
  pub stays : Stays lent fixed number is_desk is_telling old at
  pub grown : Grown (front old) (front at) (holds old) (number old) (is_desk old)
  pub among : Among (holds old) (holds at)
  pub free : holds at part ≡ false
  pub elsewhere : is_elsewhere at part

-- A call of this kind found a part with somebody else, when it held the part that it takes before that.
pub record FoundElsewhere {A F : Type 0} (front : A → FrontData) (holds : A → PartName → Bool) (lent : A → GName) (fixed : A → F) (number : A → ℕ) (is_desk is_telling : A → Bool) (is_elsewhere : A → PartName → Type 0) (kind : Kind) (stripe : ℕ) (old : A) (part : PartName) : Type 0 where
  pub was : WasElsewhere front holds lent fixed number is_desk is_telling is_elsewhere old part
  pub ahead : Ahead kind stripe part (λ p. holds was.at p ≡ true)

-- A call on the vBucket as a whole came to what it comes to on the queue as it was taken, and from there the history went on.
pub record Controls (f g : FrontData) (held : PartName → Bool) (caller : ℕ) (desk : Bool) (id : ℕ) (call : CallData) (now : ℕ) (value : List ℕ) (step : Step) : Type 0 where
  pub at : FrontData
  pub grown : Grown f at held caller desk
  pub legal : IsLegal at
  pub queue : QueueData
  pub stands : QueueStands at queue
  pub step_is : step ≡ (control_step queue id call).step
  pub value_is : value ≡ (control_step queue id call).value
  pub behind : Went at g (and_this names.Queue held) caller desk (event_of caller call now None step value)

pub record ControlsFrom (f : FrontData) (old new : Option Part) (id : ℕ) (call : CallData) (value : List ℕ) (step : Step) : Type 0 where
  pub queue : QueueData
  pub before : old ≡ Some (parts.Queue queue)
  pub stands : QueueStands f queue
  pub step_is : step ≡ (control_step queue id call).step
  pub value_is : value ≡ (control_step queue id call).value
  pub behind : new ≡ Some (parts.Queue queue)

-- When it comes to which step on these parts, and that where documents are known and the vBucket serves it had room if it
-- was answered.
unfoldable pub IsExactly : StripePart → QueueData → Option Ticket → CallData → ℕ → Type 0
IsExactly part queue prior call now =
    WriteIsExact part queue call (key_in call) now prior (write_step part queue prior call (key_in call) now)
    × AnsweredHasRoom part queue call (key_in call) now prior (write_step part queue prior call (key_in call) now)

-- A call that may put a document came to what it comes to on the stripe and the queue as they were taken, and from there the
-- history went on.
pub record Writes (f g : FrontData) (held : PartName → Bool) (caller : ℕ) (desk : Bool) (stripe : ℕ) (prior : Option Ticket) (call : CallData) (now : ℕ) (value : List ℕ) (step : Step) : Type 0 where
  pub at : FrontData
  pub grown : Grown f at held caller desk
  pub legal : IsLegal at
  pub part : StripePart
  pub queue : QueueData
  pub stands : StripeStands at stripe part
  pub queued : QueueStands at queue
  pub step_is : step ≡ (write_step part queue prior call (key_in call) now).step
  pub value_is : value ≡ (write_step part queue prior call (key_in call) now).value
  pub exact : IsExactly part queue prior call now
  pub behind : Went at g (and_this names.Queue (and_this (names.Stripe stripe) held)) caller desk (event_of caller call now prior step value)

pub record WritesFrom (f : FrontData) (stripe : ℕ) (old new queue_old queue_new : Option Part) (prior : Option Ticket) (call : CallData) (now : ℕ) (value : List ℕ) (step : Step) : Type 0 where
  pub part : StripePart
  pub queue : QueueData
  pub before : old ≡ Some (parts.Stripe part)
  pub queued : queue_old ≡ Some (parts.Queue queue)
  pub stands : StripeStands f stripe part × QueueStands f queue
  pub step_is : step ≡ (write_step part queue prior call (key_in call) now).step
  pub value_is : value ≡ (write_step part queue prior call (key_in call) now).value
  pub after : StripePart
  pub later : QueueData
  pub exact : IsExactly part queue prior call now
  pub left : Leaves part queue (write_step part queue prior call (key_in call) now) after later
  pub behind : new ≡ Some (parts.Stripe after)
  pub queues : queue_new ≡ Some (parts.Queue later)

abbrev pub kind_of : CallData → Kind
kind_of (calls.Get key) = kinds.Read
kind_of (calls.Store kind key value flags expiration cas) = kinds.Write
kind_of (calls.Join front key value cas) = kinds.Write
kind_of (calls.Count down key delta initial expiration cas) = kinds.Write
kind_of (calls.Delete key cas) = kinds.Write
kind_of (calls.Touch key expiration fetch) = kinds.Write
kind_of (calls.Observe uuid) = kinds.Control
kind_of calls.Failovers = kinds.Control
kind_of (calls.SetState state) = kinds.Change
kind_of calls.GetState = kinds.Control

-- a refusal is answered by its status
abbrev pub tried_of : ℕ → Step → Tried
tried_of stripe (steps.Done reply) = tries.Done reply
tried_of stripe (steps.Refused cause) = tries.Done (bare_reply (status_of cause))
tried_of stripe (steps.Fetch ticket) = tries.Fetch ticket
tried_of stripe steps.FetchFull = tries.FetchFull stripe

abbrev pub tried_by : ℕ → Result Step Busy → Tried
tried_by stripe (Ok step) = tried_of stripe step
tried_by stripe (Err busy) = tries.Busy busy

-- something is so where a part was found taken
abbrev pub IfBusy : Tried → Type 0 → Type 0
IfBusy (tries.Done reply) t = Unit {0}
IfBusy (tries.Busy busy) t = t
IfBusy (tries.Fetch ticket) t = Unit {0}
IfBusy (tries.FetchFull full) t = Unit {0}

-- one point more is passed where it was answered
abbrev pub answered_on : ℕ → Tried → Option (List Point) → Option (List Point)
answered_on stripe (tries.Done reply) passed = with_point (Answered stripe) passed
answered_on stripe (tries.Busy busy) passed = passed
answered_on stripe (tries.Fetch ticket) passed = passed
answered_on stripe (tries.FetchFull full) passed = passed

-- the points that a call passes, by its key's stripe where it has a key
abbrev pub passed_on : Bool → ℕ → Tried → Option (List Point) → Option (List Point)
passed_on false stripe tried passed = passed
passed_on true stripe (tries.Done reply) passed = with_point (Answered stripe) (with_point (InStripe stripe) passed)
passed_on true stripe (tries.Busy busy) passed = passed
passed_on true stripe (tries.Fetch ticket) passed = with_point (InStripe stripe) passed
passed_on true stripe (tries.FetchFull full) passed = with_point (InStripe stripe) passed

-- what a call of this kind came to on its parts as they were taken
abbrev pub CameTo : Kind → FrontData → FrontData → (PartName → Bool) → ℕ → Bool → ℕ → Option Ticket → CallData → ℕ → List ℕ → Step → Type 0
CameTo kinds.Read f g held caller desk stripe prior call now value step = Gets f g held caller desk stripe prior call now value step
CameTo kinds.Write f g held caller desk stripe prior call now value step = Writes f g held caller desk stripe prior call now value step
CameTo kinds.Control f g held caller desk stripe prior call now value step = Controls f g held caller desk f.id call now value step
CameTo kinds.Change f g held caller desk stripe prior call now value step = ⊥

-- and where it is known what these were, what it came to and left
abbrev pub CameFrom : Kind → FrontData → ℕ → (PartName → Option Part) → (PartName → Option Part) → Option Ticket → CallData → ℕ → List ℕ → Step → Type 0
CameFrom kinds.Read f stripe old new prior call now value step = GetsFrom f stripe (old (names.Stripe stripe)) (new (names.Stripe stripe)) prior (key_in call) now value step
CameFrom kinds.Write f stripe old new prior call now value step = WritesFrom f stripe (old (names.Stripe stripe)) (new (names.Stripe stripe)) (old names.Queue) (new names.Queue) prior call now value step
CameFrom kinds.Control f stripe old new prior call now value step = ControlsFrom f (old names.Queue) (new names.Queue) f.id call value step
CameFrom kinds.Change f stripe old new prior call now value step = ⊥

-- What is true of a call that was tried at a stage.
-- `came`, `stripe`, `here`, `is`: what it came to, on a key of this stripe where it has a key, is what is answered;
-- `went`, `room`: others' events and then its own, once and last, or none, were noted, and the room that this leaves;
-- `found`, `elsewhere`: it is busy only where it found a part taken that it touches, which somebody else had, while it held
-- what it takes before that;
-- `comes`: what it came to is what its parts and its rules say, whatever others noted before these were taken, and the history
-- went on from there;
-- `bare`, `short`: its value is empty unless it is answered, and within the limit;
-- `alone`, `becomes`, `kept`: while nobody else notes anything, the history has its event more; its parts are left as it leaves
-- them, and where one wasn't at home all are as they were; the other parts are as they were.
pub record Tries {A F : Type 0} (front : A → FrontData) (holds : A → PartName → Bool) (lent : A → GName) (fixed : A → F) (number : A → ℕ) (is_desk is_telling : A → Bool) (covers : A → ℕ → ℕ → Type 0) (losses : A → ℕ) (is_elsewhere : A → PartName → Type 0)
    (tells : A → PartName → Option Part) (old new : A) (prior : Option Ticket) (call : CallData) (now : ℕ) (value : List ℕ) (tried : Tried) : Type 0 where
  pub came : Result Step Busy
  pub stripe : ℕ
  pub here : has_key call ≡ true → stripe ≡ stripe_of (key_in call) (front old).config.stripes
  pub is : tried ≡ tried_by stripe came
  pub went : Went (front old) (front new) (holds old) (number old) (is_desk old) (event_by (number old) call now prior value came)
  pub room : LeavesRoom (covers old) (covers new) (event_by (number old) call now prior value came)
  pub found : MatchResult came (λ _. losses new ≡ losses old) (λ b. (touches_call (front old).config call b.part ≡ true) × Rose (losses old) (losses new))
  pub elsewhere : IfErr came (λ b. FoundElsewhere front holds lent fixed number is_desk is_telling is_elsewhere (kind_of call) stripe old b.part)
  pub comes : IfOk came (CameTo (kind_of call) (front old) (front new) (holds old) (number old) (is_desk old) stripe prior call now value)
  pub bare : IfOk came (λ step. IsStepValue step value)
  pub short : IfOk came (λ _. length value ≤ max_value)
  pub alone : is_telling old ≡ true → front new ≡ with_noted (front old) (event_by (number old) call now prior value came)
  pub becomes : is_telling old ≡ true → MatchResult came (CameFrom (kind_of call) (front old) stripe (tells old) (tells new) prior call now value) (λ b. IsOut (front old).config (kind_of call) stripe b.part (tells old) (tells new))
  pub kept : is_telling old ≡ true → KeptBut (front old).config (touches_call (front old).config call) (tells old) (tells new)
