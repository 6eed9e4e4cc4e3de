-- What a Get comes to without the store: an answer, a refusal, or that it has to ask.
use Rattle.std.specs.Prelude.{ℕ, true, if◌then◌else◌, List, [], Option, Some, None}
use Rattle.ep_model.specs.declared.event.Cause.TheVariants as causes
use Rattle.ep_model.specs.World.{live_of, doc_from}
use Rattle.ep_model.specs.Refusals.{state_refusal}
use Rattle.ep_model.specs.Answer.{Answer, refused, answer_get}
use Rattle.flat_parts.specs.declared.data.NodeData.{NodeData}
use Rattle.flat_parts.specs.declared.data.StripeData.{StripeData}
use Rattle.flat_parts.specs.declared.data.Step.{Step}
use Rattle.flat_parts.specs.declared.data.Step.TheVariants.{Done, Refused}
use Rattle.flat_parts.specs.Nodes.{node_at}

-- a step and the value that it shows
abbrev pub Look : Type 0
Look = Step × List ℕ

abbrev pub answered : Answer → Option Look
answered a = Some (Done a.reply, a.value)

abbrev pub look_value : ℕ → NodeData → Option (List ℕ) → Option Look
look_value now node None = None
look_value now node (Some value) = answered (answer_get (live_of (Some (doc_from node.meta value)) now))

abbrev pub look_node : ℕ → Option NodeData → Option Look
look_node now None = answered (answer_get None)
look_node now (Some node) = look_value now node node.value

abbrev pub look_active : StripeData → List ℕ → ℕ → Option ℕ → Option Look
look_active x key now None = look_node now (node_at x.nodes key)
look_active x key now (Some status) = answered (refused status)

abbrev pub look : StripeData → List ℕ → ℕ → Option Look
look x key now = if x.opened then look_active x key now (state_refusal x.state true) else Some (Refused causes.Warming, [])

abbrev pub look_shows : Option Look → List ℕ
look_shows None = []
look_shows (Some l) = l.1
