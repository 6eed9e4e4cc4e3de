-- How a call on a stage leaves what is known of the history, whatever others noted meanwhile.
use Rattle.std.specs.Prelude.{◌≡◌, ◌+◌, ◌≤◌, ℕ, Bool, false, List, filter, Option, Some, None, option_to_list}
use Rattle.ep_model.specs.declared.event.PartName.{PartName}
use Rattle.ep_model.specs.declared.data.EventData.{EventData}
use Rattle.ep_model.specs.declared.data.FrontData.{FrontData}
use Rattle.ep_model.specs.Front.{with_event}
use Rattle.ep_model.specs.Legal.{May, IsLegal}
use Rattle.hold_stage.specs.Touches.{touches, is_of, bytes_of}
use Rattle.hold_stage.specs.Grows.{Grown}

-- a front with an event more, or with none
abbrev pub with_noted : FrontData → Option EventData → FrontData
with_noted f None = f
with_noted f (Some event) = with_event f event

-- there is no such event, or it touches the same parts behind one front as behind the other
abbrev pub TouchesSame : FrontData → FrontData → Option EventData → Type 0
TouchesSame f g None = Unit {0}
TouchesSame f g (Some event) = (p : PartName) → touches g event p ≡ touches f event p

-- The front grew by events that whoever holds these parts doesn't notice, and then, once and last, by this event, or by
-- none, which touches what it would have touched before. It is legal.
pub record Went (f g : FrontData) (held : PartName → Bool) (caller : ℕ) (desk : Bool) (event : Option EventData) : Type 0 where
  pub between : FrontData
  pub grown : Grown f between held caller desk
  pub touched : TouchesSame f between event
  pub last : g ≡ with_noted between event
  pub legal : IsLegal g

-- what is left of a stage's room once this event was noted, or none
abbrev pub LeavesRoom : (ℕ → ℕ → Type 0) → (ℕ → ℕ → Type 0) → Option EventData → Type 0
LeavesRoom before after None = (n b : ℕ) → before n b → after n b
LeavesRoom before after (Some event) = (n b : ℕ) → before (n + 1) (b + bytes_of event) → after n b

-- the events of one caller, in order
abbrev pub own_events : ℕ → List EventData → List EventData
own_events caller events = filter (is_of caller) events

abbrev pub own_of : ℕ → Option EventData → List EventData
own_of caller event = own_events caller (option_to_list event)

-- there is no such event, or it doesn't touch the part
abbrev pub LeavesPart : FrontData → Option EventData → PartName → Type 0
LeavesPart f None p = Unit {0}
LeavesPart f (Some event) p = touches f event p ≡ false

-- a part that an event doesn't touch stands on behind it
abbrev pub KeepsUntouched : {P : Type 0} → (PartName → FrontData → P → Type 0) → Type 0
KeepsUntouched {P} stands = (p : PartName) (f : FrontData) (event : EventData) (x : P) → IsLegal f → May f event → touches f event p ≡ false → stands p f x → stands p (with_event f event) x

-- there is room for an event of at most so many bytes
abbrev pub HasRoom : ℕ → (ℕ → ℕ → Type 0) → Type 0
HasRoom most covers = (n b : ℕ) → n ≤ 1 → b ≤ most → covers n b
