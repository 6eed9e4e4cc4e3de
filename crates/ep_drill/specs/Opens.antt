-- How a vBucket is made and opened.
use Rattle.std.specs.Prelude.{◌≡◌, ◌≢◌, ℕ, zero, suc, ◌+◌, ◌<◌, Bool, true, false, nat_lt, List, [], ◌∷◌, ◌++◌, length, Option, Some, None, Vec}
use Rattle.std.specs.List.{AllByRecursion}
use Rattle.ep_model.specs.declared.call.VbState.TheVariants.{Active}
use Rattle.std.specs.declared.alloc.Global.{Global}
use Rattle.ep_model.specs.declared.call.StoreKind.TheVariants.{Set as SetKind, Add as AddKind, Replace as ReplaceKind}
use Rattle.ep_model.specs.declared.config.Config.{Config}
use Rattle.ep_model.specs.declared.config.OpenFault.{OpenFault}
use Rattle.ep_model.specs.declared.config.OpenFault.TheVariants.{BadConfig, NoMemory as OutOfMemory}
use Rattle.ep_model.specs.declared.data.CallData.{CallData}
use Rattle.ep_model.specs.declared.data.CallData.TheVariants as calls
use Rattle.ep_model.specs.declared.data.EventData.TheVariants.{Opened}
use Rattle.ep_model.specs.declared.data.FrontData.{FrontData}
use Rattle.ep_model.specs.declared.event.PartName.{PartName}
use Rattle.ep_model.specs.declared.event.PartName.TheVariants.{Stripe, Queue, Desk}
use Rattle.ep_model.specs.Config.{config_fault}
use Rattle.ep_model.specs.Front.{empty_start}
use Rattle.kv_keeper.specs.Desk.{new_desk}
use Rattle.kv_keeper.specs.Content.{KeeperData, empty_content}
use Rattle.vb_world.specs.declared.data.WorldData.{WorldData}
use Rattle.vb_world.specs.World.{front_in, part_in}
use Rattle.ep_drill.specs.declared.data.CallerData.{CallerData}
use Rattle.ep_drill.specs.declared.data.BenchData.{BenchData}
use Rattle.ep_drill.specs.declared.data.CoreData.{CoreData}
use Rattle.ep_drill.specs.declared.fetched.Fetched.{Fetched}
use Rattle.ep_drill.specs.declared.data.FetchedData.{FetchedData}
use Rattle.flat_parts.specs.declared.data.StripeData.{StripeData}
use Rattle.flat_parts.specs.declared.data.QueueData.{QueueData}
use Rattle.ep_drill.specs.declared.part.Part.{Part}
use Rattle.ep_drill.specs.declared.part.Part.TheVariants as parts
use Rattle.ep_drill.specs.Calls.{AreHome}

-- a stripe and a queue with no document, of a vBucket that has opened or hasn't
abbrev pub empty_stripe : Bool → ℕ → StripeData
empty_stripe opened stripe = record { index = stripe; nodes = []; mark = 0; state = Active; opened = opened; places = []; next = 1 }

abbrev pub empty_queue : Bool → QueueData
empty_queue opened = record { items = []; high = 0; maxcas = 0; persisted = 0; state = Active; opened = opened; uuid = 0 }

-- the first so many stripes of a vBucket that hasn't opened
abbrev pub bare_stripes : ℕ → List Part
bare_stripes zero = []
bare_stripes (suc n) = bare_stripes n ++ parts.Stripe (empty_stripe false n) ∷ []

-- all parts of a vBucket that hasn't opened, in the order of their places
abbrev pub bare_list : ℕ → List Part
bare_list stripes = bare_stripes stripes ++ parts.Queue (empty_queue false) ∷ parts.Desk (record { persisted = 0 }) ∷ []

-- one of the first so many stripes
abbrev pub is_below : ℕ → PartName → Bool
is_below n (Stripe stripe) = nat_lt stripe n
is_below n Queue = false
is_below n Desk = false

-- all that happened is that it opened with nothing stored
pub record HasJustOpened (f : FrontData) : Type 0 where
  pub start : f.start ≡ Some empty_start
  pub events : f.events ≡ Opened ∷ []

-- A vBucket more, which has opened; the others as they were.
pub record Added (config : Config) (old new : WorldData Part) : Type 0 where
  pub layout : new.config ≡ config
  pub count : length new.buckets ≡ length old.buckets + 1
  pub front : front_in new (length old.buckets) ≡ record { config = config; id = length old.buckets; start = Some empty_start; events = Opened ∷ [] }
  pub others : (u : ℕ) → u ≢ length old.buckets → front_in new u ≡ front_in old u
  pub home : (vb : ℕ) → vb < length new.buckets → AreHome config (part_in new vb)

-- so many times the same
abbrev pub copies : {A : Type 0} → ℕ → A → List A
copies zero x = []
copies (suc n) x = copies n x ++ x ∷ []

-- a caller with nothing to call
abbrev pub idle : CallerData
idle = record { calls = []; answered = 0; prior = None }

abbrev pub reads_in : Vec (Option Fetched) Global → List (Option Fetched)
reads_in reads = reads.items

-- the calls that a core can make: a Get, or a Set
abbrev pub CanBeLoaded : CallData → Type 0
CanBeLoaded (calls.Get key) = Unit {0}
CanBeLoaded (calls.Store SetKind key value flags expiration cas) = Unit {0}
CanBeLoaded (calls.Store AddKind key value flags expiration cas) = ⊥
CanBeLoaded (calls.Store ReplaceKind key value flags expiration cas) = ⊥
CanBeLoaded (calls.Join front key value cas) = ⊥
CanBeLoaded (calls.Count down key delta initial expiration cas) = ⊥
CanBeLoaded (calls.Delete key cas) = ⊥
CanBeLoaded (calls.Touch key expiration fetch) = ⊥
CanBeLoaded (calls.Observe uuid) = ⊥
CanBeLoaded calls.Failovers = ⊥
CanBeLoaded (calls.SetState state) = ⊥
CanBeLoaded calls.GetState = ⊥

-- the callers, one of them with a call more at its end
abbrev pub loaded_at : ℕ → ℕ × CallData → List CallerData → List CallerData
loaded_at number call [] = []
loaded_at zero call (caller ∷ list) = record caller { calls = caller.calls ++ call ∷ [] } ∷ list
loaded_at (suc number) call (caller ∷ list) = caller ∷ loaded_at number call list

-- all that changed is that a caller has a call more
abbrev pub IsLoaded : ℕ → ℕ × CallData → CoreData → CoreData → Type 0
IsLoaded number call old new = new ≡ record old { callers = loaded_at number call old.callers }

-- The first so many vBuckets are there, and have opened with nothing.
pub record FirstOpened (config : Config) (n : ℕ) (world : WorldData Part) : Type 0 where
  pub layout : world.config ≡ config
  pub count : length world.buckets ≡ n
  pub fronts : (vb : ℕ) → vb < n → front_in world vb ≡ record { config = config; id = vb; start = Some empty_start; events = Opened ∷ [] }
  pub home : (vb : ℕ) → vb < length world.buckets → AreHome config (part_in world vb)

-- a store tells that it holds nothing, and it isn't in doubt
abbrev pub TellsEmpty : KeeperData → Type 0
TellsEmpty keeper = (keeper.content ≡ Some empty_content) × (keeper.sure ≡ true)

abbrev pub AllTellEmpty : List KeeperData → Type 0
AllTellEmpty keepers = AllByRecursion TellsEmpty keepers

-- a bench over a store, with no batch and these reads
abbrev pub bench_over : List (Option FetchedData) → KeeperData → BenchData
bench_over reads keeper = record { desk = new_desk keeper; batch = None; reads = reads }

-- why a core isn't made: its layout's first field that is out of its limit, or want of memory
abbrev pub IsRefusal : Config → OpenFault → Type 0
IsRefusal config (BadConfig field) = config_fault config ≡ Some field
IsRefusal config OutOfMemory = config_fault config ≡ None
