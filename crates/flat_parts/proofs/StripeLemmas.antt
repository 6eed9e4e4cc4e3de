-- Stripes as plain data.
use Rattle.std.proofs.Common.{◌≡◌, ℕ, Bool, List, length, ap, ◌∙◌}
use Rattle.std.specs.Prelude.{Some}
use Rattle.ep_model.specs.declared.call.Meta.{Meta}
use Rattle.ep_model.specs.declared.call.VbState.{VbState}
use Rattle.flat_parts.specs.declared.data.NodeData.{NodeData}
use Rattle.flat_parts.specs.declared.data.StripeData.{StripeData}
use Rattle.flat_parts.specs.declared.node.Node.{Node}
use Rattle.flat_parts.specs.declared.place.Place.{Place}
use Rattle.ep_model.specs.World.{doc_from}
use Rattle.flat_parts.specs.Nodes.{node_at, put_node}
use Rattle.flat_parts.specs.Steps.{restored}
use Rattle.flat_parts.specs.Flat.{nodes_data, stripe_data}

-- a stripe in which a document was put back
pub restored-here : (x : StripeData) (index : ℕ) (nodes new : List Node) (mark : ℕ) (state : VbState) (opened : Bool) (places : List Place) (next : ℕ) (key : List ℕ) (meta : Meta) (value : List ℕ) (node : NodeData) → stripe_data index nodes mark state opened places next ≡ x → node_at x.nodes key ≡ Some node → meta.len ≡ length value → ((n : NodeData) → node_at (nodes_data nodes) key ≡ Some n → nodes_data new ≡ put_node (nodes_data nodes) (record { key = key; meta = meta; value = Some value })) → stripe_data index new mark state opened places next ≡ restored x key (doc_from meta value)
restored-here x index nodes new mark state opened places next key meta value node x-is found len-is new-is =
    let here : node_at (nodes_data nodes) key ≡ Some node = ap (λ (x : StripeData). node_at x.nodes key) x-is ∙ found in
    ap (λ (ds : List NodeData). record (stripe_data index nodes mark state opened places next) { nodes = ds })
    (new-is node here ∙ ap (λ (n : ℕ). put_node (nodes_data nodes) (record { key = key; meta = record meta { len = n }; value = Some value })) len-is)
    ∙ ap (λ (x : StripeData). restored x key (doc_from meta value)) x-is
