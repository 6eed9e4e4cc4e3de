-- Passes, the turns that they are of, and what the calls on both do.
use Rattle.std.specs.Prelude.{◌≡◌, ◌⊎◌, ℕ, ◌-◌, false, List}
use Rattle.std.specs.List.{AllByRecursion}
use Rattle.ep_model.specs.declared.data.FrontData.{FrontData}
use Rattle.hold_stage.specs.Grows.{Grown}
use Rattle.turn_stage.specs.declared.data.View.{View}
use Rattle.turn_stage.specs.declared.data.PassData.{PassData}
use Rattle.turn_stage.specs.declared.pass.TurnPass.{TurnPass}
use Rattle.turn_stage.specs.declared.table.Turns.{Turns}
use Rattle.turn_stage.specs.Plays.{joined_view}

-- what a pass knows
abbrev pub view_of : {P : Type 0} → TurnPass P → View
view_of pass = pass.seat.me.0

-- how many numbers it can give
abbrev pub numbers_left : View → ℕ
numbers_left v = v.end - v.next

-- what stays the same of a pass
abbrev pub pass_data : View → PassData
pass_data v = record { next = v.next; end = v.end; share = v.share; ended = v.ended }

-- the pass is one of these turns
abbrev pub IsPassOf : {P : Type 0} → Turns P → TurnPass P → Type 0
IsPassOf turns pass = (pass.seat.table_id ≡ turns.table.shared.table_id) × ((view_of pass).front.config ≡ turns.config)

-- Two passes were joined: the front is the longer one, to which both grew.
pub record Joined (v w both : View) : Type 0 where
  pub is : both ≡ record (joined_view v w) { last = both.last }
  pub one : (both.front ≡ w.front) ⊎ (both.front ≡ v.front)
  pub grown : Grown v.front both.front (λ _. false) v.caller v.desk
  pub other : Grown w.front both.front (λ _. false) w.caller w.desk

-- The callers of passes that were joined have in a front what their own last fronts had of them.
abbrev pub AreJoined : FrontData → List (ℕ × FrontData) → Type 0
AreJoined front ended = AllByRecursion (λ e. Grown e.1 front (λ _. false) e.0 false) ended
