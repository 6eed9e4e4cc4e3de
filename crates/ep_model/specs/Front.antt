-- What is known of a history: a front of it.
use Rattle.std.specs.Prelude.{ℕ, true, false, ◌==◌, if◌then◌else◌, List, [], ◌∷◌, ◌++◌, Option, Some, None}
use Rattle.std.specs.FinMap as map
use Rattle.ep_model.specs.declared.call.VbState.TheVariants.{Active}
use Rattle.ep_model.specs.declared.config.Config.{Config}
use Rattle.ep_model.specs.declared.data.EventData.{EventData}
use Rattle.ep_model.specs.declared.data.EventData.TheVariants.{Marked}
use Rattle.ep_model.specs.declared.data.FrontData.{FrontData}
use Rattle.ep_model.specs.declared.data.StartData.{StartData}
use Rattle.ep_model.specs.Config.{fit_of}
use Rattle.ep_model.specs.World.{World}
use Rattle.ep_model.specs.History.{after}

-- the start of a vBucket that nothing was ever stored of, which is known
abbrev pub empty_start : StartData
empty_start = record { told = true; docs = []; high = 0; maxcas = 0; failovers = [] }

-- the start that was put, or before one is put the empty one
abbrev pub started : Option StartData → StartData
started None = empty_start
started (Some s) = s

-- The world that a start is: active and not opened, with all that it has stored.
abbrev pub start_world : Config → ℕ → StartData → World
start_world config id s = record {
  id = id;
  docs = map.from_entries s.docs;
  high = s.high;
  maxcas = s.maxcas;
  state = Active;
  failovers = s.failovers;
  persisted = s.high;
  opened = false;
  told = s.told;
  stripes = config.stripes;
  eviction = config.eviction;
  fit = fit_of config;
}

abbrev pub begun : FrontData → World
begun f = start_world f.config f.id (started f.start)

-- the world after all of a front's events
abbrev pub world_of : FrontData → World
world_of f = after (begun f) f.events

-- the ways in which a front changes: an event more, more events, and the start
abbrev pub with_event : FrontData → EventData → FrontData
with_event f event = record f { events = f.events ++ event ∷ [] }

abbrev pub with_events : FrontData → List EventData → FrontData
with_events f more = record f { events = f.events ++ more }

abbrev pub with_start : FrontData → Option StartData → FrontData
with_start f start = record f { start = start }

-- up to which number a stripe knows mutations to be stored, after one more event
abbrev pub mark_after : ℕ → ℕ → EventData → ℕ
mark_after stripe mark (Marked other number) = if other == stripe then number else mark
mark_after stripe mark event = mark

abbrev pub mark_in : ℕ → ℕ → List EventData → ℕ
mark_in stripe mark [] = mark
mark_in stripe mark (event ∷ events) = mark_in stripe (mark_after stripe mark event) events

-- up to which number a stripe knows mutations to be stored: all that the vBucket opened with, and what was marked since
abbrev pub marked : FrontData → ℕ → ℕ
marked f stripe = mark_in stripe (started f.start).high f.events
