-- What is true of all histories and the parts that their events touch.
use Rattle.std.specs.Prelude.{◌≡◌, ℕ, ◌<◌, ◌++◌, Bool, true, List, Option, Some, None}
use Rattle.ep_model.specs.declared.event.PartName.{PartName}
use Rattle.ep_model.specs.declared.data.EventData.{EventData}
use Rattle.ep_model.specs.declared.data.FrontData.{FrontData}
use Rattle.ep_model.specs.declared.data.StartData.{StartData}
use Rattle.ep_model.specs.Front.{with_events, with_start}
use Rattle.ep_model.specs.Legal.{May, IsLegal}
use Rattle.hold_stage.specs.Touches.{touches, is_of, is_call}
use Rattle.hold_stage.specs.Grows.{Among, Covered, Quiet, Grown, Keeps}
use Rattle.hold_stage.specs.Went.{LeavesPart, Went, own_events, own_of}

-- An event that is legal behind a front is legal behind a longer history too, where no event in between touches a part
-- that this one touches, or is of its caller.
abbrev pub LegalLater : Type 0
LegalLater = (f : FrontData) (event : EventData) (held : PartName → Bool) (caller : ℕ) (desk : Bool) (more : List EventData) → 0 < f.config.stripes
    → IsLegal (with_events f more) → May f event → Covered held f event → (is_call event ≡ true → is_of caller event ≡ true)
    → Quiet f held caller desk more → May (with_events f more) event

-- and there it touches the same parts
abbrev pub TouchesLater : Type 0
TouchesLater = (f : FrontData) (event : EventData) (held : PartName → Bool) (caller : ℕ) (desk : Bool) (more : List EventData) → 0 < f.config.stripes
    → IsLegal (with_events f more) → May f event → Covered held f event → (is_call event ≡ true → is_of caller event ≡ true)
    → Quiet f held caller desk more → (p : PartName) → touches (with_events f more) event p ≡ touches f event p

-- each event touches some part
abbrev pub TouchesSome : Type 0
TouchesSome = (f : FrontData) (event : EventData) → (p : PartName) × (touches f event p ≡ true)

-- a history that is legal without a start is legal with any
abbrev pub LegalBegun : Type 0
LegalBegun = (f : FrontData) (start : StartData) → f.start ≡ None → IsLegal f → IsLegal (with_start f (Some start))

-- an event is of one caller at most
abbrev pub OfOne : Type 0
OfOne = (event : EventData) (a b : ℕ) → is_of a event ≡ true → is_of b event ≡ true → a ≡ b

abbrev pub OfCall : Type 0
OfCall = (event : EventData) (caller : ℕ) → is_of caller event ≡ true → is_call event ≡ true

-- A front that grew is the same where nothing came: no event and no start.
abbrev pub GrownSame : Type 0
GrownSame = (f g : FrontData) (held : PartName → Bool) (caller : ℕ) (desk : Bool) → Grown f g held caller desk → g.events ≡ f.events → g.start ≡ f.start → g ≡ f

-- Growths one after the other are one growth, for the parts that are held throughout.
abbrev pub GrownThen : Type 0
GrownThen = (f g h : FrontData) (a b held : PartName → Bool) (caller : ℕ) (desk : Bool) → Among held a → Among held b → Grown f g a caller desk → Grown g h b caller desk
    → Grown f h held caller desk

-- A growth for more parts is one for fewer.
abbrev pub GrownFewer : Type 0
GrownFewer = (f g : FrontData) (a b : PartName → Bool) (caller : ℕ) (desk : Bool) → Among b a → Grown f g a caller desk → Grown f g b caller desk

-- a growth has no event of the caller
abbrev pub GrownOwn : Type 0
GrownOwn = (f g : FrontData) (held : PartName → Bool) (caller : ℕ) (desk : Bool) → Grown f g held caller desk → own_events caller g.events ≡ own_events caller f.events

-- What is held and stood for a front stands for one that grew out of it and is legal.
abbrev pub KeepsAlong : {P : Type 0} → (PartName → FrontData → P → Type 0) → Type 0
KeepsAlong stands = (f g : FrontData) (held : PartName → Bool) (caller : ℕ) (desk : Bool) → Grown f g held caller desk → IsLegal g → Keeps stands held f g

-- A growth before a call belongs to the call, and so does one behind a call that noted nothing.
abbrev pub WentBehind : Type 0
WentBehind = (f g h : FrontData) (a b held : PartName → Bool) (caller : ℕ) (desk : Bool) (event : Option EventData) → Among held a → Among held b
    → Grown f g a caller desk → Went g h b caller desk event → Went f h held caller desk event

abbrev pub WentBefore : Type 0
WentBefore = (f g h : FrontData) (a b held : PartName → Bool) (caller : ℕ) (desk : Bool) → Among held a → Among held b
    → Went f g a caller desk None → Grown g h b caller desk → IsLegal h → Went f h held caller desk None

-- A call adds its event to those of its caller, where it is the caller's, and nothing else.
abbrev pub WentOwn : Type 0
WentOwn = (f g : FrontData) (held : PartName → Bool) (caller : ℕ) (desk : Bool) (event : Option EventData) → Went f g held caller desk event
    → own_events caller g.events ≡ own_events caller f.events ++ own_of caller event

-- What is held, and isn't touched by a call's event as far as the caller knew before, stands on.
abbrev pub WentKeeps : {P : Type 0} → (PartName → FrontData → P → Type 0) → Type 0
WentKeeps {P} stands = (f g : FrontData) (held : PartName → Bool) (caller : ℕ) (desk : Bool) (event : Option EventData) → Went f g held caller desk event
    → (p : PartName) (x : P) → held p ≡ true → LeavesPart f event p → stands p f x → stands p g x
