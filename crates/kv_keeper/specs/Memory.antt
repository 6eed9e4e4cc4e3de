-- A store in memory, and what calls on it answer and leave.
use Rattle.std.specs.Prelude.{ℕ, Bool, true, false, ◌==◌, if◌then◌else◌, List, ◌++◌, refl, Option, Some, None}
use Rattle.std.specs.Coded.{Coded, code_by, coded×, coded_ℕ, coded_list}
use Rattle.std.specs.FinMap as map
use Rattle.std.specs.List.{list_any}
use Rattle.std.specs.Option.{option_map}
use Rattle.ep_model.specs.Counts.{raised}
use Rattle.ep_model.specs.Plain.{value_of}
use Rattle.ep_model.specs.declared.call.Meta.{Meta}
use Rattle.kv_keeper.specs.declared.data.BatchData.{BatchData}
use Rattle.kv_keeper.specs.declared.keeper.StoreState.{StoreState}
use Rattle.kv_keeper.specs.declared.keeper.Kept.{Kept}
use Rattle.kv_keeper.specs.declared.keeper.Kept.TheVariants.{Good, Failed, NoMemory}
use Rattle.ep_model.specs.World.{meta_of}
use Rattle.kv_keeper.specs.Content.{Content, KeeperData, coded_content, empty_content}
use Rattle.kv_keeper.specs.Kept.{committed}

-- `gets` is the number of the next read, and `fails` has the numbers of those that fail.
pub record MemoryData : Type 0 where
  pub content : Content
  pub gets : ℕ
  pub fails : List ℕ
  pub faults : ℕ

-- the code of stores in memory, by which a proof tells them apart
abbrev pub coded_memory : Coded MemoryData
coded_memory = code_by (Content × (ℕ × (List ℕ × ℕ)))
    (coded× coded_content (coded× coded_ℕ (coded× (coded_list coded_ℕ) coded_ℕ)))
    (λ m. (m.content, (m.gets, (m.fails, m.faults))))
    (λ t. record { content = t.0; gets = t.1.0; fails = t.1.1.0; faults = t.1.1.1 })
    (λ _. refl)

-- an empty store, whose reads of these numbers fail
abbrev pub empty_memory : List ℕ → MemoryData
empty_memory fails = record { content = empty_content; gets = 0; fails = fails; faults = 0 }

-- whether the next read fails
abbrev pub is_failing : MemoryData → Bool
is_failing memory = list_any (λ number. number == memory.gets) memory.fails

-- what the next read answers of this key
abbrev pub get_answer : MemoryData → List ℕ → Kept (Option Meta)
get_answer memory key = if is_failing memory then Failed else Good (option_map meta_of (map.get memory.content.docs key))

-- a buffer's bytes after that read
abbrev pub get_bytes : MemoryData → List ℕ → List ℕ → List ℕ
get_bytes memory key bytes = if is_failing memory then bytes else bytes ++ value_of (map.get memory.content.docs key)

-- one read later
abbrev pub after_get : MemoryData → MemoryData
after_get memory = record memory { gets = raised memory.gets; faults = if is_failing memory then raised memory.faults else memory.faults }

-- one commit later, which was answered so
abbrev pub memory_after_commit : {T : Type 0} → MemoryData → BatchData → StoreState → Kept T → MemoryData
memory_after_commit memory batch state (Good x) = record memory { content = committed memory.content batch state }
memory_after_commit memory batch state Failed = memory
memory_after_commit memory batch state NoMemory = memory

-- what is seen of it whatever keeps it
abbrev pub keeper_of : MemoryData → KeeperData
keeper_of memory = record { content = Some memory.content; second = None; sure = true; faults = memory.faults; ample = true; roomy = false }
