-- Queues as plain data.
use Rattle.std.proofs.Common.{◌≡◌, ℕ, Bool, List, ap, ◌∙◌}
use Rattle.std.specs.Prelude.{filter, nat_lt}
use Rattle.ep_model.specs.declared.call.VbState.{VbState}
use Rattle.ep_model.specs.World.{Doc}
use Rattle.ep_model.specs.Mutations.{above}
use Rattle.flat_parts.specs.declared.data.QueueData.{QueueData}
use Rattle.flat_parts.specs.declared.queue.Item.{Item}
use Rattle.flat_parts.specs.Flat.{item_data, items_data, queue_data}
use Rattle.flat_parts.proofs.ListLemmas.{filter-map}

-- a queue of which the stored mutations were dropped
pub persisted-kept : (q : QueueData) (items new : List Item) (high maxcas persisted : ℕ) (state : VbState) (opened : Bool) (uuid number : ℕ) → queue_data items high maxcas persisted state opened uuid ≡ q → new ≡ filter (λ (item : Item). nat_lt number item.document.meta.seqno) items → queue_data new high maxcas number state opened uuid ≡ record q { items = above number q.items; persisted = number }
persisted-kept q items new high maxcas persisted state opened uuid number q-is new-is =
    ap (λ (docs : List (List ℕ × Doc)). record (queue_data items high maxcas persisted state opened uuid) { items = docs; persisted = number }) (ap items_data new-is ∙ filter-map item_data (λ (p : List ℕ × Doc). nat_lt number p.1.seqno) items)
    ∙ ap (λ (q : QueueData). record q { items = above number q.items; persisted = number }) q-is
