-- What the tests know of a vBucket: before it opens, and once it did over a store of which nothing is known. Whoever puts a
-- document back there is asked for no proof that it is the one.
use Rattle.std.specs.Prelude.{◌≡◌, ℕ, true, false, [], Some}
use Rattle.std.specs.List.{AllByRecursion}
use Rattle.std.specs.Option.{is_some}
use Rattle.ep_model.specs.declared.config.Config.{Config}
use Rattle.ep_model.specs.declared.data.FrontData.{FrontData}
use Rattle.ep_model.specs.declared.data.StartData.{StartData}
use Rattle.ep_model.specs.declared.event.PartName.{PartName}
use Rattle.vb_world.specs.declared.data.WorldData.{WorldData}
use Rattle.vb_world.specs.World.{front_in, part_in, has_out}
use Rattle.hold_stage.specs.Touches.{there}
use Rattle.hold_stage.specs.Waits.{IsFaultWithin}
use Rattle.vb_front.specs.declared.part.Part.{Part}

-- all parts of the vBucket 0 are at home
abbrev pub IsAtHome : Config → WorldData Part → Type 0
IsAtHome config world = (p : PartName) → there config p ≡ true → is_some (part_in world 0 p) ≡ true

-- a start of which nothing but its numbers is known
abbrev pub unknown_start : StartData
unknown_start = record { told = false; docs = []; high = 0; maxcas = 0; failovers = [] }

-- The vBucket 0 of a world of this layout, which has one stripe, has begun, and the caller 7 holds none of its parts.
pub record IsOpened (config : Config) (world : WorldData Part) : Type 0 where
  pub only : config.stripes ≡ 1
  pub layout : world.config ≡ config
  pub free : (p : PartName) → has_out world 0 7 p ≡ false
  pub start : (front_in world 0).start ≡ Some unknown_start

-- each failed read that was noted has a number up to this one
abbrev pub FaultsAreWithin : ℕ → FrontData → Type 0
FaultsAreWithin faults f = AllByRecursion (IsFaultWithin faults) f.events

-- The start is the same, and the failed reads that were noted are of no greater number.
pub record IsLater (f g : FrontData) : Type 0 where
  pub start : g.start ≡ f.start
  pub faults : (n : ℕ) → FaultsAreWithin n f → FaultsAreWithin n g

-- And the failed reads that were noted have numbers up to this one.
pub record IsUnderway (config : Config) (faults : ℕ) (world : WorldData Part) : Type 0 where
  pub opened : IsOpened config world
  pub faults_within : FaultsAreWithin faults (front_in world 0)
