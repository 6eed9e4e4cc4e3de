-- What a call on the vBucket as a whole comes to on its queue.
use Rattle.std.specs.Prelude.{◌≡◌, ℕ, Bool, true, false, if◌then◌else◌, List, [], None}
use Rattle.ep_model.specs.declared.event.Cause.TheVariants as causes
use Rattle.ep_model.specs.declared.data.CallData.{CallData}
use Rattle.ep_model.specs.declared.data.CallData.TheVariants.{Observe, Failovers, GetState}
use Rattle.ep_model.specs.declared.data.FrontData.{FrontData}
use Rattle.ep_model.specs.World.{World, empty_world}
use Rattle.ep_model.specs.Answer.{Answer, answer_row}
use Rattle.ep_model.specs.Legal.{IsLegal}
use Rattle.ckpt_manager.specs.declared.data.QueueData.{QueueData}
use Rattle.vb_front.specs.declared.step.Step.{Step}
use Rattle.vb_front.specs.declared.step.Step.TheVariants.{Done, Refused}
use Rattle.vb_front.specs.Stands.{QueueStands}
use Rattle.vb_front.specs.Priors.{event_of, IsNext}

-- the call asks for the vBucket's numbers, its failover table or its state
abbrev pub is_control : CallData → Bool
is_control (Observe uuid) = true
is_control Failovers = true
is_control GetState = true
is_control call = false

-- the vBucket of this id as its queue shows it, but for documents
abbrev pub queue_world : QueueData → ℕ → World
queue_world q id = record (empty_world id 0) {
  high = q.high;
  maxcas = q.maxcas;
  state = q.state;
  failovers = q.table;
  persisted = q.persisted;
  opened = q.opened;
}

-- What it comes to, and the value of its answer. It isn't refused for the vBucket's state, and its moment makes no difference.
pub record Control : Type 0 where
  pub step : Step
  pub value : List ℕ

abbrev pub control_done : Answer → Control
control_done a = record { step = Done a.reply; value = a.value }

abbrev pub control_step : QueueData → ℕ → CallData → Control
control_step q id call = if q.opened then control_done (answer_row (queue_world q id) call 0) else record { step = Refused causes.Warming; value = [] }

-- Whatever history of this vBucket the queue stood for, what the call came to is legal behind it, and the queue stands behind that.
abbrev pub ControlIsLegal : QueueData → ℕ → CallData → Control → Type 0
ControlIsLegal q id call c =
    (f : FrontData) (caller now : ℕ) → IsLegal f → f.id ≡ id → QueueStands f q
    → IsNext f (event_of caller call now None c.step c.value) (λ g. QueueStands g q)
