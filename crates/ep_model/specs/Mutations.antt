-- Which documents a history has put, in order.
use Rattle.std.specs.Prelude.{ℕ, nat_lt, List, [], ◌∷◌, ◌++◌, filter, Option, Some, None, option_to_list}
use Rattle.std.specs.FinMap as map
use Rattle.ep_model.specs.declared.data.EventData.{EventData}
use Rattle.ep_model.specs.World.{Docs, Item, World}
use Rattle.ep_model.specs.Answer.{Effect, Puts}
use Rattle.ep_model.specs.History.{step, effect_of}

abbrev pub put_by : Effect → Option Item
put_by (Puts key doc) = Some (key, doc)
put_by effect = None

-- the document that an event puts, under its key
abbrev pub mutation_of : World → EventData → Option Item
mutation_of w event = put_by (effect_of w event)

-- the documents that events put, in order
abbrev pub mutations : World → List EventData → List Item
mutations w [] = []
mutations w (event ∷ events) = option_to_list (mutation_of w event) ++ mutations (step w event) events

-- those of them above a number
abbrev pub above : ℕ → List Item → List Item
above number puts = filter (λ (p : Item). nat_lt number p.1.seqno) puts

-- documents with these put over them, one after the other
abbrev pub laid_on : Docs → List Item → Docs
laid_on docs [] = docs
laid_on docs (p ∷ puts) = laid_on (map.insert docs p.0 p.1) puts
