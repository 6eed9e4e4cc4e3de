-- What no call changes of a stage.
use Rattle.std.specs.Prelude.{◌≡◌, ℕ, Bool, true, false, Option}
use Rattle.std.specs.Borrow.{GName}
use Rattle.ep_model.specs.declared.config.Config.{Config}
use Rattle.ep_model.specs.declared.event.PartName.{PartName}
use Rattle.hold_stage.specs.Touches.{there}

-- A stage after a call and before it, seen by its members: its changes land where they did, nothing that is fixed
-- changed, and it has the same caller, desk and knowledge of where the parts are.
pub record Stays {A F : Type 0} (lent_by : A → GName) (fixed_in : A → F) (number_of : A → ℕ) (is_desk is_telling : A → Bool) (old new : A) : Type 0 where
  pub lent : lent_by new ≡ lent_by old
  pub fixed : fixed_in new ≡ fixed_in old
  pub number : number_of new ≡ number_of old
  pub desk : is_desk new ≡ is_desk old
  pub telling : is_telling new ≡ is_telling old

-- of the parts that a vBucket has, all but those that may be touched are as they were
abbrev pub KeptBut : {P : Type 0} → Config → (PartName → Bool) → (PartName → Option P) → (PartName → Option P) → Type 0
KeptBut config touched old new = (p : PartName) → there config p ≡ true → touched p ≡ false → new p ≡ old p
