-- What the result of a call on a store says.
use Rattle.std.specs.Prelude.{◌≡◌, ℕ, ◌≤◌, ◌⊎◌, false, ⊤, List, ◌++◌, length, Option, Some, None}
use Rattle.std.specs.Option.{option_map}
use Rattle.ep_model.specs.Counts.{raised, RoseByOne}
use Rattle.ep_model.specs.declared.call.Meta.{Meta}
use Rattle.ep_model.specs.declared.data.OutData.{OutData}
use Rattle.ep_model.specs.Limits.{max_value}
use Rattle.kv_keeper.specs.declared.data.BatchData.{BatchData}
use Rattle.kv_keeper.specs.declared.keeper.StoreState.{StoreState}
use Rattle.kv_keeper.specs.declared.keeper.Kept.{Kept}
use Rattle.kv_keeper.specs.declared.keeper.Kept.TheVariants.{Good, Failed, NoMemory}
use Rattle.kv_keeper.specs.Batch.{laid}
use Rattle.kv_keeper.specs.Content.{Content, KeeperData}

-- P of the answer, if it is good
abbrev pub IfGood : {T : Type 0} → Kept T → (T → Type 0) → Type 0
IfGood (Good x) P = P x
IfGood Failed P = ⊤
IfGood NoMemory P = ⊤

-- P, if memory was wanting
abbrev pub OnNoMemory : {T : Type 0} → Kept T → Type 0 → Type 0
OnNoMemory (Good x) P = ⊤
OnNoMemory Failed P = ⊤
OnNoMemory NoMemory P = P

-- the numbers of a store that holds this
abbrev pub state_of : Content → StoreState
state_of content = record { version = content.version; high = content.high; maxcas = content.maxcas }

-- a store that failed once more, and holds what it did, told or not
abbrev pub failed_keeper : KeeperData → KeeperData
failed_keeper keeper = record keeper { faults = raised keeper.faults }

-- A call that commits nothing leaves a store as it was, told or not. Its faults are counted where it failed, one for the call,
-- and nowhere else.
abbrev pub LeavesKeeper : {T : Type 0} → KeeperData → KeeperData → Kept T → Type 0
LeavesKeeper old new (Good x) = new ≡ old
LeavesKeeper old new Failed = new ≡ failed_keeper old
LeavesKeeper old new NoMemory = new ≡ old

-- what a read appends to its buffer: the value of the document that it found
abbrev pub AppendsFound : OutData → OutData → Kept (Option Meta) → Type 0
AppendsFound old new (Good (Some meta)) = (bytes : List ℕ) × (new.bytes ≡ old.bytes ++ bytes) × (length bytes ≡ meta.len) × (meta.len ≤ max_value)
AppendsFound old new (Good None) = new ≡ old
AppendsFound old new Failed = new ≡ old
AppendsFound old new NoMemory = new ≡ old

-- the content with a batch laid over its documents, under these numbers
abbrev pub committed : Content → BatchData → StoreState → Content
committed content batch state = record { docs = laid batch.rows content.docs; version = state.version; high = state.high; maxcas = state.maxcas }

-- the same of a content that may be untold
abbrev pub all_committed : Option Content → BatchData → StoreState → Option Content
all_committed content batch state = option_map (λ c. committed c batch state) content

-- A store whose commit failed, once: all of it was done, or nothing, and that is in doubt.
pub record IsDoubtful (old : KeeperData) (whole : Option Content) (new : KeeperData) : Type 0 where
  pub which : ((new.content ≡ old.content) × (new.second ≡ whole)) ⊎ ((new.content ≡ whole) × (new.second ≡ old.content))
  pub doubtful : new.sure ≡ false
  pub ample : new.ample ≡ old.ample
  pub roomy : new.roomy ≡ old.roomy
  pub faults : RoseByOne old.faults new.faults

-- what a commit makes of a store
abbrev pub Commits : {T : Type 0} → KeeperData → BatchData → StoreState → KeeperData → Kept T → Type 0
Commits old batch state new (Good x) = new ≡ record old { content = all_committed old.content batch state }
Commits old batch state new Failed = IsDoubtful old (all_committed old.content batch state) new
Commits old batch state new NoMemory = new ≡ old
