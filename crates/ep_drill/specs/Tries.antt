-- What a call comes to, by the parts that it needs, and what it leaves of them.
use Rattle.std.specs.Prelude.{◌≡◌, ℕ, ◌+◌, List, Option, Some}
use Rattle.ep_model.specs.declared.call.StoreKind.TheVariants.{Set as SetKind, Add as AddKind, Replace as ReplaceKind}
use Rattle.ep_model.specs.declared.config.Config.{Config}
use Rattle.ep_model.specs.declared.data.CallData.{CallData}
use Rattle.ep_model.specs.declared.data.CallData.TheVariants as calls
use Rattle.ep_model.specs.declared.event.PartName.{PartName}
use Rattle.ep_model.specs.declared.event.PartName.TheVariants.{Stripe, Queue}
use Rattle.ep_model.specs.declared.event.Ticket.{Ticket}
use Rattle.ep_model.specs.Config.{fit_of}
use Rattle.ep_model.specs.Stripes.{stripe_of}
use Rattle.flat_parts.specs.declared.data.QueueData.{QueueData}
use Rattle.flat_parts.specs.declared.data.Step.{Step}
use Rattle.flat_parts.specs.declared.data.Step.TheVariants as steps
use Rattle.flat_parts.specs.declared.data.StripeData.{StripeData}
use Rattle.ep_drill.specs.declared.part.Part.{Part}
use Rattle.ep_drill.specs.declared.part.Part.TheVariants as parts
use Rattle.flat_parts.specs.Steps.{read_step, write_step}

-- a Get, by its key's stripe
pub record ComesToGet (stripes : ℕ) (old new : PartName → Option Part) (prior : Option Ticket) (key : List ℕ) (now : ℕ) (step : Step) : Type 0 where
  pub stripe : StripeData
  pub before : old (Stripe (stripe_of key stripes)) ≡ Some (parts.Stripe stripe)
  pub comes : step ≡ (read_step stripe prior key now).step
  pub behind : new (Stripe (stripe_of key stripes)) ≡ Some (parts.Stripe (read_step stripe prior key now).stripe)

-- a Set, by its key's stripe and the queue
pub record ComesToSet (stripes fit : ℕ) (old new : PartName → Option Part) (prior : Option Ticket) (key value : List ℕ) (flags expiration cas now : ℕ) (step : Step) : Type 0 where
  pub stripe : StripeData
  pub queue : QueueData
  pub before : old (Stripe (stripe_of key stripes)) ≡ Some (parts.Stripe stripe)
  pub queued : old Queue ≡ Some (parts.Queue queue)
  pub comes : step ≡ (write_step stripe queue fit prior key value flags expiration cas now).step
  pub behind : new (Stripe (stripe_of key stripes)) ≡ Some (parts.Stripe (write_step stripe queue fit prior key value flags expiration cas now).stripe)
  pub queues : new Queue ≡ Some (parts.Queue (write_step stripe queue fit prior key value flags expiration cas now).queue)

-- each of the calls that there are so far
abbrev pub CallComesTo : Config → (PartName → Option Part) → (PartName → Option Part) → CallData → ℕ → Option Ticket → Step → Type 0
CallComesTo config old new (calls.Get key) now prior step = ComesToGet config.stripes old new prior key now step
CallComesTo config old new (calls.Store SetKind key value flags expiration cas) now prior step = ComesToSet config.stripes (fit_of config) old new prior key value flags expiration cas now step
CallComesTo config old new (calls.Store AddKind key value flags expiration cas) now prior step = ⊥
CallComesTo config old new (calls.Store ReplaceKind key value flags expiration cas) now prior step = ⊥
CallComesTo config old new (calls.Join front key value cas) now prior step = ⊥
CallComesTo config old new (calls.Count down key delta initial expiration cas) now prior step = ⊥
CallComesTo config old new (calls.Delete key cas) now prior step = ⊥
CallComesTo config old new (calls.Touch key expiration fetch) now prior step = ⊥
CallComesTo config old new (calls.Observe uuid) now prior step = ⊥
CallComesTo config old new calls.Failovers now prior step = ⊥
CallComesTo config old new (calls.SetState state) now prior step = ⊥
CallComesTo config old new calls.GetState now prior step = ⊥

-- A Get asks for a read of its own, at a place that its stripe adds for it.
pub record AddsPlace (stripes : ℕ) (old : PartName → Option Part) (prior : Option Ticket) (key : List ℕ) (now : ℕ) : Type 0 where
  pub stripe : StripeData
  pub before : old (Stripe (stripe_of key stripes)) ≡ Some (parts.Stripe stripe)
  pub asks : (read_step stripe prior key now).step ≡ steps.Fetch (record { stripe = stripe.index; number = stripe.next })

-- A Set puts its document.
pub record PutsDocument (stripes fit : ℕ) (old : PartName → Option Part) (prior : Option Ticket) (key value : List ℕ) (flags expiration cas now : ℕ) : Type 0 where
  pub stripe : StripeData
  pub queue : QueueData
  pub before : old (Stripe (stripe_of key stripes)) ≡ Some (parts.Stripe stripe)
  pub queued : old Queue ≡ Some (parts.Queue queue)
  pub puts : (write_step stripe queue fit prior key value flags expiration cas now).queue.high ≡ queue.high + 1

-- what a call takes memory for
abbrev pub NeedsMemory : Config → (PartName → Option Part) → CallData → ℕ → Option Ticket → Type 0
NeedsMemory config old (calls.Get key) now prior = AddsPlace config.stripes old prior key now
NeedsMemory config old (calls.Store SetKind key value flags expiration cas) now prior = PutsDocument config.stripes (fit_of config) old prior key value flags expiration cas now
NeedsMemory config old call now prior = ⊥
