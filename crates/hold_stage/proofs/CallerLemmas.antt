-- Whose an event is, and that it touches something.
use Rattle.std.proofs.Common.{◌≡◌, ℕ, Bool, true, false, refl, sym, ◌∙◌}
use Rattle.std.specs.Prelude.{◌==◌, ◌||◌}
use Rattle.std.proofs.lemmas.Bool.Decides.{Decides-eqb}
use Rattle.ep_model.specs.declared.event.PartName.{PartName}
use Rattle.ep_model.specs.declared.event.PartName.TheVariants.{Stripe, Queue, Desk}
use Rattle.ep_model.specs.declared.data.CallData.{CallData}
use Rattle.ep_model.specs.declared.data.CallData.TheVariants as calls
use Rattle.ep_model.specs.declared.data.EventData.TheVariants.{Called, Refused, Expired, Persisted, Marked, Asked, ReadFailed, Opened}
use Rattle.ep_model.specs.declared.config.Config.{Config}
use Rattle.ep_model.specs.Stripes.{stripe_of}
use Rattle.hold_stage.specs.Touches.{touches_call, touches, is_of, is_call}
use Rattle.hold_stage.specs.Laws.{OfOne, OfCall, TouchesLater, TouchesSome}

same_number : (x a b : ℕ) → (x == a) ≡ true → (x == b) ≡ true → a ≡ b
same_number x a b p q = sym ((Decides-eqb x a).0 p) ∙ (Decides-eqb x b).0 q

pub of_one : OfOne
unfolding is_of
of_one (Called caller call now reply value) a b p q = same_number caller a b p q
of_one (Refused caller call now cause) a b p q = same_number caller a b p q
of_one (Expired key now) a b p q = absurd (cc)
of_one (Persisted number) a b p q = absurd (cc)
of_one (Marked stripe number) a b p q = absurd (cc)
of_one (Asked ticket caller call) a b p q = same_number caller a b p q
of_one (ReadFailed ticket fault) a b p q = absurd (cc)
of_one Opened a b p q = absurd (cc)

pub of_call : OfCall
unfolding is_of is_call
of_call (Called caller call now reply value) a p = refl
of_call (Refused caller call now cause) a p = refl
of_call (Expired key now) a p = p
of_call (Persisted number) a p = p
of_call (Marked stripe number) a p = p
of_call (Asked ticket caller call) a p = refl
of_call (ReadFailed ticket fault) a p = p
of_call Opened a p = p

pub touches_later : TouchesLater
unfolding touches
touches_later f (Called caller call now reply value) held by desk more some legal may covered own quiet p = refl
touches_later f (Refused caller call now cause) held by desk more some legal may covered own quiet p = refl
touches_later f (Expired key now) held by desk more some legal may covered own quiet p = refl
touches_later f (Persisted number) held by desk more some legal may covered own quiet p = refl
touches_later f (Marked stripe number) held by desk more some legal may covered own quiet p = refl
touches_later f (Asked ticket caller call) held by desk more some legal may covered own quiet p = refl
touches_later f (ReadFailed ticket fault) held by desk more some legal may covered own quiet p = refl
touches_later f Opened held by desk more some legal may covered own quiet p = refl

pub same_is : (n : ℕ) → (n == n) ≡ true
same_is n = (Decides-eqb n n).1 refl

or_first : (a b : Bool) → a ≡ true → (a || b) ≡ true
or_first true b h = refl
or_first false b h = absurd (cc)

-- a call touches the stripe of its key, or the queue
call_touches : (config : Config) (call : CallData) → (p : PartName) × (touches_call config call p ≡ true)
call_touches config (calls.Get key) = (Stripe (stripe_of key config.stripes), same_is (stripe_of key config.stripes))
call_touches config (calls.Store kind key value flags expiration cas) = (Queue, refl)
call_touches config (calls.Join front key value cas) = (Queue, refl)
call_touches config (calls.Count down key delta initial expiration cas) = (Queue, refl)
call_touches config (calls.Delete key cas) = (Queue, refl)
call_touches config (calls.Touch key expiration fetch) = (Queue, refl)
call_touches config (calls.Observe uuid) = (Queue, refl)
call_touches config calls.Failovers = (Queue, refl)
call_touches config (calls.SetState state) = (Queue, refl)
call_touches config calls.GetState = (Queue, refl)

pub touches_some : TouchesSome
unfolding touches
touches_some f (Called caller call now reply value) = call_touches f.config call
touches_some f (Refused caller call now cause) = call_touches f.config call
touches_some f (Expired key now) = (Queue, refl)
touches_some f (Persisted number) = (Queue, refl)
touches_some f (Marked stripe number) = (Stripe stripe, same_is stripe)
touches_some f (Asked ticket caller call) = (Stripe ticket.stripe, same_is ticket.stripe)
touches_some f (ReadFailed ticket fault) = (Desk, refl)
touches_some f Opened = (Queue, refl)
