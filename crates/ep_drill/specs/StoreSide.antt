-- What the store's side answers, and what it leaves.
use Rattle.std.specs.Prelude.{◌≡◌, ℕ, ◌^◌, ◌-◌, min, true, false, Option, Some, None}
use Rattle.ep_model.specs.declared.data.EventData.TheVariants as events
use Rattle.ep_model.specs.declared.data.FrontData.{FrontData}
use Rattle.ep_model.specs.World.{Docs}
use Rattle.ep_model.specs.Front.{begun, world_of, with_event}
use Rattle.ep_model.specs.Mutations.{mutations, above, laid_on}
use Rattle.kv_keeper.specs.declared.data.BatchData.{BatchData}
use Rattle.kv_keeper.specs.declared.data.DeskData.{DeskData}
use Rattle.kv_keeper.specs.declared.keeper.StoreState.{StoreState}
use Rattle.kv_keeper.specs.Batch.{AreDistinct, laid}
use Rattle.kv_keeper.specs.Content.{Content, KeeperData}
use Rattle.kv_keeper.specs.Kept.{IsDoubtful, all_committed}
use Rattle.ep_drill.specs.declared.part.Part.{Part}
use Rattle.ep_drill.specs.declared.part.Part.TheVariants as parts
use Rattle.ep_drill.specs.declared.store.Paged.{Paged}
use Rattle.ep_drill.specs.declared.store.Flushed.{Flushed}
use Rattle.ep_drill.specs.declared.store.Flushed.TheVariants as flushes
use Rattle.flat_parts.specs.Steps.{page_step}
use Rattle.hold_stage.specs.Numbers.{HaveSameNumbers}
use Rattle.ep_drill.specs.Stands.{DeskStands, BatchStands}

-- the pager's answer, where the stripe is told
abbrev pub IsPaged : Option Part → Option Part → Paged → Type 0
IsPaged None new paged = ⊥
IsPaged (Some (parts.Stripe x)) new paged =
    (new ≡ Some (parts.Stripe (page_step x).stripe)) × (paged.used ≡ min (page_step x).used (2 ^ 64 - 1)) × (paged.ejected ≡ (page_step x).ejected)
IsPaged (Some (parts.Queue q)) new paged = ⊥
IsPaged (Some (parts.Desk d)) new paged = ⊥

-- A batch that stands and lays over documents the mutations that aren't stored, up to the last: their keys, numbers and CAS, and
-- all of them where documents are known. Or all is stored.
abbrev pub IsTaken : FrontData → ℕ → Option BatchData → Type 0
IsTaken f stored None = (world_of f).high ≡ (world_of f).persisted
IsTaken f stored (Some batch) =
    BatchStands f stored batch × (batch.to ≡ (world_of f).high) × AreDistinct batch.rows
    × ((world_of f).told ≡ true → (docs : Docs) → laid batch.rows docs ≡ laid_on docs (above (world_of f).persisted (mutations (begun f) f.events)))
    × ((docs : Docs) → HaveSameNumbers (laid batch.rows docs) (laid_on docs (above (world_of f).persisted (mutations (begun f) f.events))))

-- the numbers under which a batch is stored
abbrev pub state_for : BatchData → StoreState
state_for batch = record { version = 1; high = batch.to; maxcas = batch.maxcas }

-- what a store holds once it has a batch, where it tells that
abbrev pub whole : KeeperData → BatchData → Option Content
whole keeper batch = all_committed keeper.content batch (state_for batch)

-- How a commit went, and what it leaves of the history and the desk. Memory is wanting only for a store whose commits may want it.
abbrev pub IsFlushed : FrontData → FrontData → DeskData → DeskData → BatchData → Flushed → Type 0
IsFlushed old new before desk batch (flushes.Stored number) =
    (number ≡ batch.to) × (new ≡ with_event old (events.Persisted batch.to)) × DeskStands new desk × (desk ≡ record before { keeper = record before.keeper { content = whole before.keeper batch }; stored = batch.to; noted = batch.to })
IsFlushed old new before desk batch flushes.Failed =
    (new ≡ old) × DeskStands new desk × (desk ≡ record before { keeper = desk.keeper; doubt = Some batch.to }) × IsDoubtful before.keeper (whole before.keeper batch) desk.keeper
IsFlushed old new before desk batch flushes.NoMemory = (new ≡ old) × (desk ≡ before) × (before.keeper.roomy ≡ false)
