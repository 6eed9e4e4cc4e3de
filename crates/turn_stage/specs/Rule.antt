-- The rule of the turns: what holds between any two atomic steps. It speaks of the caller, the kind and the parts of an
-- event, of the length, the fronts and the legality of a history, and of what a part stands for, and looks into none of
-- them: what is answered to a call, and what a part is, is for it whatever others say.
use Rattle.std.specs.Prelude.{◌≡◌, ◌≢◌, ◌⊎◌, ℕ, ◌+◌, ◌-◌, ◌%◌, ◌^◌, ◌<◌, ◌≤◌, true, false, List, [], ◌∷◌, length, slice_index, Option, Some, None}
use Rattle.std.specs.List.{AllByRecursion}
use mathlib.Core.Option.{some}
use lib.ListN.{get_elem?}
use Rattle.atomic_table.specs.Table.{State}
use Rattle.ep_model.specs.declared.config.Config.{Config}
use Rattle.ep_model.specs.declared.event.PartName.{PartName}
use Rattle.ep_model.specs.declared.data.EventData.{EventData}
use Rattle.ep_model.specs.declared.data.FrontData.{FrontData}
use Rattle.ep_model.specs.Legal.{IsLegal}
use Rattle.hold_stage.specs.Touches.{there, is_of}
use Rattle.hold_stage.specs.Grows.{Grown}
use Rattle.turn_stage.specs.declared.data.View.{View}
use Rattle.turn_stage.specs.declared.data.JoinData.{JoinData}
use Rattle.hold_stage.specs.Slots.{slot_of}
use Rattle.turn_stage.specs.Slots.{turn_of, has}

-- a slot is at home, with anything
abbrev pub IsFilled : {P : Type 0} → List (mathlib.Core.Option.Option (Option P)) → ℕ → Type 0
IsFilled {P} homes slot = (y : Option P) × (get_elem? homes slot ≡ some (some y))

-- A part that a pass holds: its turn is taken, and its slot is at home but while it is on the way.
pub record IsHeld {P : Type 0} (words : List ℕ) (homes : List (mathlib.Core.Option.Option (Option P))) (config : Config) (hand : Option PartName) (part : PartName) : Type 0 where
  pub there : there config part ≡ true
  pub taken : turn_of words config part ≢ 0
  pub home : hand ≢ Some part → IsFilled homes (slot_of config part)

-- A caller whose pass was joined into another, with its last front: the history goes on with no event of it.
pub record IsEnded (history : FrontData) (given : ℕ) (ended : ℕ × FrontData) : Type 0 where
  pub below : ended.0 < given
  pub grown : Grown ended.1 history (λ _. false) ended.0 false

-- Of two fronts of passes that hold no part, one is taken, and both grew to it.
pub record IsLonger (join : JoinData) : Type 0 where
  pub one : (join.longer ≡ join.second) ⊎ (join.longer ≡ join.first)
  pub grown : Grown join.first join.longer (λ _. false) join.caller join.desk
  pub other : Grown join.second join.longer (λ _. false) join.other join.other_desk

-- What is true of a pass: how the history goes on behind its front, which parts it holds, and its numbers.
pub record PassFits {P : Type 0} (words : List ℕ) (homes : List (mathlib.Core.Option.Option (Option P))) (history : FrontData) (given : ℕ) (v : View) : Type 0 where
  pub follows : Grown v.front history (has v.held) v.caller v.desk
  pub legal : IsLegal v.front
  pub holds : (part : PartName) → has v.held part ≡ true → IsHeld words homes history.config v.hand part
  pub known : v.caller < given
  pub numbers : v.next < v.end → v.next ≡ given
  pub shares : v.end - v.next < v.share
  pub ended : AllByRecursion (IsEnded history given) v.ended
  pub own : AllByRecursion (λ e. e.0 ≢ v.caller) v.ended
  pub last : AllByRecursion IsLonger v.last

-- Two passes have no part, no caller, and neither the desk nor numbers in common. A front that has no start isn't longer
-- than one that has it.
pub record Apart (v w : View) : Type 0 where
  pub parts : (part : PartName) → has v.held part ≡ true → has w.held part ≡ false
  pub callers : v.caller ≢ w.caller
  pub desks : v.desk ≡ true → w.desk ≡ false
  pub givers : (v.end ≤ v.next) ⊎ (w.end ≤ w.next)
  pub later : v.front.start ≡ None → w.front.start ≢ None → length v.front.events ≤ length w.front.events
  pub sooner : w.front.start ≡ None → v.front.start ≢ None → length w.front.events ≤ length v.front.events
  pub ended : AllByRecursion (λ e. e.0 ≢ w.caller) v.ended
  pub ends : AllByRecursion (λ e. e.0 ≢ v.caller) w.ended

-- of each live pass, of each two of them, and of some one
abbrev pub EachSeat : (View → Type 0) → List View → Type 0
EachSeat R views = (i : ℕ) (v : View) → get_elem? views i ≡ some v → v.live ≡ true → R v

abbrev pub EachTwo : (View → View → Type 0) → List View → Type 0
EachTwo R views = (i j : ℕ) (v w : View) → get_elem? views i ≡ some v → get_elem? views j ≡ some w → v.live ≡ true → w.live ≡ true → i ≢ j → R v w

pub record AnySeat (R : View → Type 0) (views : List View) : Type 0 where
  pub seat : ℕ
  pub view : View
  pub at : get_elem? views seat ≡ some view
  pub live : view.live ≡ true
  pub has : R view

-- the shares of all
abbrev pub all_shares : List View → ℕ
all_shares [] = 0
all_shares (v ∷ views) = v.share + all_shares views

-- a part is in its slot and stands for the history
pub record IsHome {P : Type 0} (stands : PartName → FrontData → P → Type 0) (homes : List (mathlib.Core.Option.Option (Option P))) (history : FrontData) (part : PartName) : Type 0 where
  pub value : P
  pub at : get_elem? homes (slot_of history.config part) ≡ some (some (Some value))
  pub fine : stands part history value

-- no event of this caller
abbrev pub IsUnspoken : List EventData → ℕ → Type 0
IsUnspoken events caller = AllByRecursion (λ event. is_of caller event ≡ false) events

-- The rule. The history is the longest front of a pass. `given` is how many caller numbers were given.
pub record Turned {P : Type 0} (stands : PartName → FrontData → P → Type 0) (s : State (Option P) View) : Type 0 where
  pub history : FrontData
  pub given : ℕ
  pub legal : IsLegal history
  pub striped : 0 < history.config.stripes
  pub counted : slice_index s.words 0 ≡ length history.events % 2 ^ 64
  pub wide : length s.words ≡ history.config.stripes + 3
  pub slotted : length s.homes ≡ history.config.stripes + 2
  -- a part whose turn is free is at home and stands for the history; a turn that is taken is some pass's
  pub home : (part : PartName) → there history.config part ≡ true → turn_of s.words history.config part ≡ 0 → IsHome stands s.homes history part
  pub owned : (part : PartName) → there history.config part ≡ true → turn_of s.words history.config part ≢ 0 → AnySeat (λ v. has v.held part ≡ true) s.views
  pub fits : EachSeat (PassFits s.words s.homes history given) s.views
  pub apart : EachTwo Apart s.views
  -- some pass knows all of it, and one is the desk's
  pub longest : AnySeat (λ v. v.front ≡ history) s.views
  pub desked : AnySeat (λ v. v.desk ≡ true) s.views
  -- numbers that weren't given have no event
  pub unspoken : (caller : ℕ) → given ≤ caller → IsUnspoken history.events caller
  pub total : all_shares s.views ≡ 2 ^ 64

-- A pass with this view found a part's turn taken: in some state that met the rule and had the view. Unless the pass holds
-- the part itself, another live one does.
pub record WasTaken {P : Type 0} (stands : PartName → FrontData → P → Type 0) (part : PartName) (v : View) : Type 0 where
  pub state : State (Option P) View
  pub rule : Turned stands state
  pub seat : ℕ
  pub at : get_elem? state.views seat ≡ some v
  pub turn : turn_of state.words v.front.config part ≢ 0
  pub holder : has v.held part ≡ false → AnySeat (λ w. (has w.held part ≡ true) × Apart v w) state.views

-- who has all shares finds no part taken but those that it holds
abbrev pub SoleTakes : {P : Type 0} → (PartName → FrontData → P → Type 0) → Type 0
SoleTakes stands = (part : PartName) (v : View) → v.share ≡ 2 ^ 64 → has v.held part ≡ false → WasTaken stands part v → ⊥
