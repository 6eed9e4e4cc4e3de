-- How what is known of a history grows, and what of it a part that is held doesn't notice.
use Rattle.std.specs.Prelude.{◌≡◌, ◌⊎◌, ℕ, ◌+◌, ◌-◌, ◌^◌, ◌≤◌, Bool, true, false, not, ◌||◌, ◌&&◌, min, List, [], ◌∷◌, ◌++◌, Some, None}
use Rattle.ep_model.specs.declared.event.PartName.{PartName}
use Rattle.ep_model.specs.declared.data.EventData.{EventData}
use Rattle.ep_model.specs.declared.data.FrontData.{FrontData}
use Rattle.ep_model.specs.declared.data.StartData.{StartData}
use Rattle.ep_model.specs.Front.{with_event, with_start}
use Rattle.hold_stage.specs.Touches.{same_part, touches, is_of, is_call, is_desks}

-- the same parts
abbrev pub Same : (PartName → Bool) → (PartName → Bool) → Type 0
Same a b = (p : PartName) → a p ≡ b p

-- those parts are among these
abbrev pub Among : (PartName → Bool) → (PartName → Bool) → Type 0
Among some held = (p : PartName) → some p ≡ true → held p ≡ true

abbrev pub and_this : PartName → (PartName → Bool) → PartName → Bool
and_this part held p = same_part p part || held p

abbrev pub but_this : PartName → (PartName → Bool) → PartName → Bool
but_this part held p = not (same_part p part) && held p

-- every part that the event touches is among these
abbrev pub Covered : (PartName → Bool) → FrontData → EventData → Type 0
Covered held f event = (p : PartName) → touches f event p ≡ true → held p ≡ true

-- An event that whoever holds these parts doesn't notice: it touches none of them, is not of this caller, and not the
-- desk's where that is meant too.
pub record IsQuiet (f : FrontData) (held : PartName → Bool) (caller : ℕ) (desk : Bool) (event : EventData) : Type 0 where
  pub apart : (p : PartName) → held p ≡ true → touches f event p ≡ false
  pub others : is_of caller event ≡ false
  pub desks : desk ≡ true → is_desks event ≡ false

-- each of these events is such a one, behind those before it
abbrev pub Quiet : FrontData → (PartName → Bool) → ℕ → Bool → List EventData → Type 0
Quiet f held caller desk [] = Unit {0}
Quiet f held caller desk (event ∷ events) = IsQuiet f held caller desk event × Quiet (with_event f event) held caller desk events

-- no part is among these
abbrev pub IsNone : (PartName → Bool) → Type 0
IsNone held = (p : PartName) → held p ≡ false

-- How a front grows for whoever holds these parts: by quiet events alone. Its start comes in only where none was known,
-- no part was held, and the desk is somebody else's.
pub record Grown (f g : FrontData) (held : PartName → Bool) (caller : ℕ) (desk : Bool) : Type 0 where
  pub more : List EventData
  pub config : g.config ≡ f.config
  pub id : g.id ≡ f.id
  pub events : g.events ≡ f.events ++ more
  pub quiet : Quiet (with_start f g.start) held caller desk more
  pub start : (g.start ≡ f.start) ⊎ ((f.start ≡ None) × IsNone held × (desk ≡ false))

-- what is held and stood for the one front stands for the other
abbrev pub Keeps : {P : Type 0} (stands : PartName → FrontData → P → Type 0) → (PartName → Bool) → FrontData → FrontData → Type 0
Keeps {P} stands held f g = (p : PartName) (x : P) → held p ≡ true → stands p f x → stands p g x

-- An event was noted behind a front that had grown. What is held and isn't touched by it stands on.
pub record Noted {P : Type 0} (stands : PartName → FrontData → P → Type 0) (f g : FrontData) (held : PartName → Bool) (caller : ℕ) (desk : Bool) (event : EventData) : Type 0 where
  pub between : FrontData
  pub grown : Grown f between held caller desk
  pub last : g ≡ with_event between event
  pub kept : Keeps stands held f between
  pub apart : (p : PartName) (x : P) → held p ≡ true → touches f event p ≡ false → stands p f x → stands p g x

-- a start was put into a front that had grown
pub record Begun (f g : FrontData) (held : PartName → Bool) (caller : ℕ) (start : StartData) : Type 0 where
  pub between : FrontData
  pub grown : Grown f between held caller true
  pub last : g ≡ with_start between (Some start)

-- Who notes an event: a caller's own calls the caller, and the desk's events who has the desk.
pub record IsOwn (caller : ℕ) (desk : Bool) (event : EventData) : Type 0 where
  pub own : is_call event ≡ true → is_of caller event ≡ true
  pub desks : is_desks event ≡ true → desk ≡ true
