-- The histories of several vBuckets as one: events in order, each with the number of its vBucket.
use Rattle.std.specs.Prelude.{ℕ, ◌==◌, List, filter, map}
use Rattle.ep_model.specs.declared.data.EventData.{EventData}

-- the history of one of them
abbrev pub events_of : ℕ → List (ℕ × EventData) → List EventData
events_of id pairs = map (λ (p : ℕ × EventData). p.1) (filter (λ (p : ℕ × EventData). p.0 == id) pairs)

-- these events, all of one vBucket
abbrev pub under : ℕ → List EventData → List (ℕ × EventData)
under id events = map (λ (event : EventData). (id, event)) events
