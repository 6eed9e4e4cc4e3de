-- A desk, and what calls on it leave.
use Rattle.std.specs.Prelude.{◌≡◌, ℕ, ◌+◌, ◌-◌, ◌^◌, ◌≤◌, min, Some, None}
use Rattle.kv_keeper.specs.declared.data.DeskData.{DeskData}
use Rattle.kv_keeper.specs.declared.keeper.Kept.{Kept}
use Rattle.kv_keeper.specs.declared.keeper.Kept.TheVariants.{Good, Failed, NoMemory}
use Rattle.kv_keeper.specs.Content.{KeeperData}
use Rattle.kv_keeper.specs.Kept.{failed_keeper}

-- a desk that was just made before a keeper
abbrev pub new_desk : KeeperData → DeskData
new_desk keeper = record { keeper = keeper; stored = 0; noted = 0; doubt = None; read_faults = 0 }

-- the store is known to hold the history up to `stored`
abbrev pub IsSure : DeskData → Type 0
IsSure desk = desk.doubt ≡ None

-- a count rose from `before` by at least so many, or stands where it can't rise any more
abbrev pub RoseBy : ℕ → ℕ → ℕ → Type 0
RoseBy many before now = min (before + many) (2 ^ 64 - 1) ≤ now

-- a desk of which one more read failed: its own count and its keeper's rose by one each, and all else is as it was
abbrev pub after_failed_read : DeskData → DeskData
after_failed_read desk = record desk { keeper = failed_keeper desk.keeper; read_faults = desk.read_faults + 1 }

-- what a read leaves of a desk: only one that failed changes anything
abbrev pub ReadLeaves : {T : Type 0} → DeskData → DeskData → Kept T → Type 0
ReadLeaves old new (Good x) = new ≡ old
ReadLeaves old new Failed = new ≡ after_failed_read old
ReadLeaves old new NoMemory = new ≡ old

-- a desk after a commit up to a number that was answered so and left it this keeper
abbrev pub after_commit : {T : Type 0} → KeeperData → DeskData → ℕ → Kept T → DeskData
after_commit keeper desk to (Good x) = record desk { keeper = keeper; stored = to }
after_commit keeper desk to Failed = record desk { keeper = keeper; doubt = Some to }
after_commit keeper desk to NoMemory = record desk { keeper = keeper }
