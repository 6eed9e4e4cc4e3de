-- A Get shows what a look shows: nothing where it waits or asks.
use Rattle.std.proofs.Common.{◌≡◌, ℕ, true, false, cond, List, [], refl}
use Rattle.std.specs.Prelude.{Option, Some, None, Result, Ok, Err, OnOk}
use Rattle.ep_model.specs.declared.event.Cause.TheVariants as causes
use Rattle.ep_model.specs.declared.event.Ticket.{Ticket}
use Rattle.ep_model.specs.Refusals.{state_refusal}
use Rattle.flat_parts.specs.declared.data.NodeData.{NodeData}
use Rattle.flat_parts.specs.declared.data.Outcome.{Outcome}
use Rattle.flat_parts.specs.declared.data.Outcome.TheVariants.{Waiting, Merged, Absent, Failed, NoMemory}
use Rattle.flat_parts.specs.declared.data.PlaceData.{PlaceData}
use Rattle.flat_parts.specs.declared.data.ReadData.{ReadData}
use Rattle.flat_parts.specs.declared.data.StripeData.{StripeData}
use Rattle.flat_parts.specs.declared.data.Step.TheVariants.{Refused, Fetch, FetchFull}
use Rattle.flat_parts.specs.Nodes.{node_at, released}
use Rattle.flat_parts.specs.Steps.{is_full, asked, read_asks, read_waits, read_value, read_node, read_active, read_refused, read_step, prior_outcome}
use Rattle.flat_parts.specs.Looks.{look_value, look_node, look_active, look, look_shows}

asks-shows : (x : StripeData) (places : List PlaceData) (key : List ℕ) → (read_asks x places key).value ≡ []
asks-shows x places key =
    let full : ReadData = record { step = FetchFull; value = []; stripe = record x { places = places } } in
    let asks : ReadData = record { step = Fetch (record { stripe = x.index; number = x.next }); value = []; stripe = asked x places key } in
    elim (is_full places x.next) as (λ b. (cond b full asks).value ≡ []) [ true ↦ refl | false ↦ refl ]

waits-shows : (x : StripeData) (prior : Option Ticket) (key : List ℕ) (outcome : Option Outcome) → (read_waits x prior key outcome).value ≡ []
waits-shows x None key outcome = asks-shows x x.places key
waits-shows x (Some ticket) key None = asks-shows x (released x.places (Some ticket)) key
waits-shows x (Some ticket) key (Some Waiting) = refl
waits-shows x (Some ticket) key (Some Merged) = asks-shows x (released x.places (Some ticket)) key
waits-shows x (Some ticket) key (Some Absent) = asks-shows x (released x.places (Some ticket)) key
waits-shows x (Some ticket) key (Some (Failed fault)) = refl
waits-shows x (Some ticket) key (Some NoMemory) = refl

value-shows : (x : StripeData) (prior : Option Ticket) (key : List ℕ) (now : ℕ) (node : NodeData) (value : Option (List ℕ)) → (read_value x prior key now node value).value ≡ look_shows (look_value now node value)
value-shows x prior key now node None = waits-shows x prior key (prior_outcome x prior)
value-shows x prior key now node (Some value) = refl

node-shows : (x : StripeData) (prior : Option Ticket) (key : List ℕ) (now : ℕ) (found : Option NodeData) → (read_node x prior key now found).value ≡ look_shows (look_node now found)
node-shows x prior key now None = refl
node-shows x prior key now (Some node) = value-shows x prior key now node node.value

active-shows : (x : StripeData) (prior : Option Ticket) (key : List ℕ) (now : ℕ) (status : Option ℕ) → (read_active x prior key now status).value ≡ look_shows (look_active x key now status)
active-shows x prior key now None = node-shows x prior key now (node_at x.nodes key)
active-shows x prior key now (Some status) = refl

pub read-shows : (x : StripeData) (prior : Option Ticket) (key : List ℕ) (now : ℕ) → (read_step x prior key now).value ≡ look_shows (look x key now)
read-shows x prior key now =
    elim x.opened as (λ b. (cond b (read_active x prior key now (state_refusal x.state true)) (read_refused x prior causes.Warming)).value ≡ look_shows (cond b (look_active x key now (state_refusal x.state true)) (Some (Refused causes.Warming, [])))) [
      | true ↦ active-shows x prior key now (state_refusal x.state true)
      | false ↦ refl
    ]

pub ok_here : {T E P : Type 0} (r : Result T E) → P → OnOk r P
ok_here (Ok value) p = p
ok_here (Err e) p = tt
