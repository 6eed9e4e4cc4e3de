-- What a thread of the tests makes: Gets that are refused, each with the number of the call as its moment.
use Rattle.std.specs.Prelude.{◌≡◌, ℕ, zero, suc, ◌+◌, ◌%◌, Bool, true, false, List, [], ◌∷◌, ◌++◌, Option, Some, None, Result, Ok, Err}
use Rattle.ep_model.specs.declared.config.Config.{Config}
use Rattle.ep_model.specs.declared.event.Busy.{Busy}
use Rattle.ep_model.specs.declared.event.Cause.TheVariants.{Warming}
use Rattle.ep_model.specs.declared.event.PartName.{PartName}
use Rattle.ep_model.specs.declared.event.PartName.TheVariants.{Stripe}
use Rattle.ep_model.specs.declared.data.CallData.TheVariants.{Get}
use Rattle.ep_model.specs.declared.data.EventData.{EventData}
use Rattle.ep_model.specs.declared.data.EventData.TheVariants.{Refused}
use Rattle.ep_model.specs.declared.data.FrontData.{FrontData}
use Rattle.ep_model.specs.Counts.{Rose}
use Rattle.hold_stage.specs.Touches.{there, is_stripe}
use Rattle.hold_stage.specs.Grows.{IsNone}
use Rattle.hold_stage.specs.Went.{own_events}
use Rattle.turn_stage.specs.declared.data.View.{View}
use Rattle.turn_stage.specs.declared.pass.TurnPass.{TurnPass}
use Rattle.turn_stage.specs.declared.table.Turns.{Turns}
use Rattle.turn_stage.specs.Slots.{has}
use Rattle.turn_stage.specs.Unopened.{IsUnopened}
use Rattle.turn_stage.specs.Passes.{view_of, pass_data, IsPassOf}

-- the refusal of a Get
abbrev pub refusal : ℕ → List ℕ → ℕ → EventData
refusal caller key now = Refused caller (Get key) now Warming

-- the event that was noted by a call that ended so, and as a list
abbrev pub noted_by : {A E : Type 0} → EventData → Result A E → Option EventData
noted_by event (Ok a) = Some event
noted_by event (Err e) = None

abbrev pub only_if : Bool → EventData → List EventData
only_if true event = event ∷ []
only_if false event = []

-- What became of a call. Where it was refused the vBucket isn't open. Where it was busy somebody else has the stripe, and one
-- part more was found taken.
abbrev pub HasRefused : {A : Type 0} → FrontData → ℕ → ℕ → ℕ → Result A Busy → Type 0
HasRefused f stripe before after (Ok a) = IsUnopened (Stripe stripe) f × (after ≡ before)
HasRefused f stripe before after (Err busy) = (busy.part ≡ Stripe stripe) × Rose before after

-- the stripe becomes this, but where it isn't at home
abbrev pub StripeBecomes : {P A E : Type 0} → Option P → Option P → (P → P) → Result A E → Type 0
StripeBecomes None new f (Ok a) = ⊥
StripeBecomes (Some x) new f (Ok a) = new ≡ Some (f x)
StripeBecomes old new f (Err e) = (old ≡ None) × (new ≡ None)

-- of the parts that there are, all but this stripe are as they were
abbrev pub KeepsOtherParts : {P : Type 0} → Config → ℕ → (PartName → Option P) → (PartName → Option P) → Type 0
KeepsOtherParts config stripe old new = (p : PartName) → there config p ≡ true → is_stripe stripe p ≡ false → new p ≡ old p

-- the key of a call, of four keys in turn
abbrev pub key_at : ℕ → ℕ → List ℕ
key_at first call = (first + call) % 4 ∷ []

-- the events of so many calls of a caller, in order
abbrev pub made : ℕ → ℕ → ℕ → List EventData
made caller first zero = []
made caller first (suc n) = made caller first n ++ refusal caller (key_at first n) n ∷ []

-- A pass made calls: it is of the same turns, holds no part, has the caller, the numbers to give and the share that it had,
-- and in its front its caller has these events more.
pub record MadeCalls {P : Type 0} (turns : Turns P) (before after : TurnPass P) (more : List EventData) : Type 0 where
  pub of : IsPassOf turns after
  pub none : IsNone (has (view_of after).held)
  pub numbers : pass_data (view_of after) ≡ pass_data (view_of before)
  pub caller : (view_of after).caller ≡ (view_of before).caller
  pub own : own_events (view_of after).caller (view_of after).front.events ≡ own_events (view_of before).caller (view_of before).front.events ++ more

-- A front has of the callers from this number on each as many calls as the list says, in order, each once, and no other
-- event of theirs. The first key of a caller is its number.
abbrev pub AreMade : FrontData → ℕ → List ℕ → Type 0
AreMade front caller [] = Unit {0}
AreMade front caller (n ∷ ns) = (own_events caller front.events ≡ made caller caller n) × AreMade front (caller + 1) ns

-- The same of callers whose passes were joined, in their last fronts.
abbrev pub AreEnded : List (ℕ × FrontData) → ℕ → List ℕ → Type 0
AreEnded [] caller [] = Unit {0}
AreEnded [] caller (n ∷ ns) = ⊥
AreEnded (e ∷ ended) caller [] = ⊥
AreEnded (e ∷ ended) caller (n ∷ ns) = (e.0 ≡ caller) × (own_events caller e.1.events ≡ made caller caller n) × AreEnded ended (caller + 1) ns

-- What caller 0 knows, to whose pass those of the callers 1, 2 and so on were joined.
abbrev pub HasJoined : View → ℕ → List ℕ → Type 0
HasJoined v n ns = (own_events 0 v.front.events ≡ made 0 0 n) × AreEnded v.ended 1 ns
