-- By which status a Set is refused, from what the parts show.
use Rattle.std.specs.Prelude.{ℕ, true, if◌then◌else◌, List, [], length, Option, Some, None}
use Rattle.std.specs.Option.{option_or}
use Rattle.ep_model.specs.World.{is_live, doc_from}
use Rattle.ep_model.specs.Refusals.{state_refusal, size_refusal, cas_refusal, number_refusal}
use Rattle.flat_parts.specs.declared.data.NodeData.{NodeData}
use Rattle.flat_parts.specs.declared.data.StripeData.{StripeData}
use Rattle.flat_parts.specs.declared.data.QueueData.{QueueData}
use Rattle.flat_parts.specs.Nodes.{node_at}

-- the CAS of the live document that a node is of
abbrev pub live_cas : Option NodeData → ℕ → Option ℕ
live_cas None now = None
live_cas (Some node) now = if is_live (doc_from node.meta []) now then Some node.meta.cas else None

abbrev pub write_refusal : StripeData → QueueData → ℕ → List ℕ → ℕ → ℕ → ℕ → Option ℕ
write_refusal x q fit key len cas now =
    option_or (option_or (option_or (state_refusal x.state true) (size_refusal fit (length key) len)) (cas_refusal cas (live_cas (node_at x.nodes key) now))) (number_refusal q.high)
