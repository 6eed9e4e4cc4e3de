-- What a desk and a batch are to a history. What they say of documents stands under `shown`, as far as the start's are known.
use Rattle.std.specs.Prelude.{◌≡◌, ◌⊎◌, ℕ, ◌<◌, ◌≤◌, true, Option, Some, None, IfSome, IsSome, is_none}
use Rattle.std.specs.List.{AllByRecursion}
use Rattle.ep_model.specs.declared.data.FrontData.{FrontData}
use Rattle.ep_model.specs.Front.{world_of}
use Rattle.hold_stage.specs.Histories.{world_at}
use Rattle.hold_stage.specs.Waits.{IsFaultWithin}
use Rattle.kv_keeper.specs.declared.data.BatchData.{BatchData}
use Rattle.kv_keeper.specs.declared.data.DeskData.{DeskData}
use Rattle.kv_keeper.specs.Batch.{laid}
use Rattle.kv_keeper.specs.Content.{Content, KeeperData}
use Rattle.kv_keeper.specs.Desk.{IsSure}
use Rattle.hold_stage.specs.Numbers.{HaveSameNumbers}

-- a store holds what the history had put at one of its numbers
pub record HoldsAt (f : FrontData) (content : Content) (number : ℕ) : Type 0 where
  pub docs : content.docs ≡ (world_at f number).docs
  pub version : content.version ≡ 1
  pub high : content.high ≡ number
  pub maxcas : content.maxcas ≡ (world_at f number).maxcas

abbrev pub HoldsIfTold : FrontData → Option Content → ℕ → Type 0
HoldsIfTold f content number = IfSome content (λ c. HoldsAt f c number)

-- The store holds what there was at the number up to which it is known. Where a commit failed, one of the two contents that
-- may be the true one does, and the other holds what there was at the number in doubt.
abbrev pub ContentStands : FrontData → KeeperData → ℕ → Option ℕ → Type 0
ContentStands f keeper stored None = HoldsIfTold f keeper.content stored
ContentStands f keeper stored (Some doubt) =
    (HoldsIfTold f keeper.content stored × HoldsIfTold f keeper.second doubt) ⊎ (HoldsIfTold f keeper.content doubt × HoldsIfTold f keeper.second stored)

-- What a store tells.
-- `tells`: it does tell what it holds;
-- `both`: in doubt it tells both contents that may be the true one;
-- `holds`: that is what the history had put.
pub record DeskShows (f : FrontData) (desk : DeskData) : Type 0 where
  pub tells : IsSome desk.keeper.content
  pub both : IfSome desk.doubt (λ _. IsSome desk.keeper.second)
  pub holds : ContentStands f desk.keeper desk.stored desk.doubt

-- the number in doubt is one that the history had above what is known to be stored
pub record IsDoubtWithin (f : FrontData) (stored doubt : ℕ) : Type 0 where
  pub above : stored ≤ doubt
  pub top : doubt ≤ (world_of f).high

-- A desk stands for a history.
-- `noted`: what was told to be stored;
-- `low`: the store is known to hold no less;
-- `sure`: it is unsure exactly where a number is in doubt;
-- `top`, `doubt`: once there is a start, no more than there is, and so for what is in doubt since a commit failed;
-- `faults`: each failed read that was told is among those that were counted;
-- `shown`: once there is a start whose documents are known, what the store tells.
pub record DeskStands (f : FrontData) (desk : DeskData) : Type 0 where
  pub noted : desk.noted ≡ (world_of f).persisted
  pub low : desk.noted ≤ desk.stored
  pub sure : desk.keeper.sure ≡ is_none desk.doubt
  pub top : IsSome f.start → desk.stored ≤ (world_of f).high
  pub doubt : IsSome f.start → IfSome desk.doubt (IsDoubtWithin f desk.stored)
  pub faults : AllByRecursion (IsFaultWithin desk.read_faults) f.events
  pub shown : IsSome f.start → (world_of f).told ≡ true → DeskShows f desk

-- A batch stands between its taking and its commit.
-- `sure`: no commit has failed that isn't settled;
-- `opened`: the vBucket has opened;
-- `above`: it brings more than is told to be stored;
-- `low`, `top`: its number is none below what is stored, and none above what there is;
-- `maxcas`: its greatest CAS is that of its number;
-- `numbers`: its rows laid over what was stored give the numbers and CAS of each key at its number;
-- `shown`: where documents are known, they give all that there was at its number.
pub record BatchStands (f : FrontData) (desk : DeskData) (batch : BatchData) : Type 0 where
  pub sure : IsSure desk
  pub opened : (world_of f).opened ≡ true
  pub above : (world_of f).persisted < batch.to
  pub low : desk.stored ≤ batch.to
  pub top : batch.to ≤ (world_of f).high
  pub maxcas : batch.maxcas ≡ (world_at f batch.to).maxcas
  pub numbers : HaveSameNumbers (laid batch.rows (world_at f desk.stored).docs) (world_at f batch.to).docs
  pub shown : (world_of f).told ≡ true → laid batch.rows (world_at f desk.stored).docs ≡ (world_at f batch.to).docs
