-- Before there is a start only refusals of a vBucket that hasn't opened are legal, and they stay so behind any start.
use Rattle.std.proofs.Common.{◌≡◌, ℕ, false, List, [], ◌∷◌, ◌++◌, refl, sym, ap, subst, ◌∙◌}
use Rattle.std.specs.Prelude.{Option, Some, None, IsSome}
use Rattle.std.specs.List.{AllByRecursion}
use Rattle.ep_model.specs.declared.event.Cause.{Cause}
use Rattle.ep_model.specs.declared.event.Cause.TheVariants as causes
use Rattle.ep_model.specs.declared.data.CallData.{CallData}
use Rattle.ep_model.specs.declared.data.EventData.{EventData}
use Rattle.ep_model.specs.declared.data.EventData.TheVariants.{Called, Refused, Expired, Persisted, Marked, Asked, ReadFailed, Opened}
use Rattle.ep_model.specs.declared.data.FrontData.{FrontData}
use Rattle.ep_model.specs.declared.data.StartData.{StartData}
use Rattle.ep_model.specs.World.{World}
use Rattle.ep_model.specs.Front.{world_of, with_event}
use Rattle.ep_model.specs.Legal.{Caused, May, AreLegal, IsLegal}
use Rattle.hold_stage.specs.Laws.{LegalBegun}
use Rattle.hold_stage.proofs.LaterLemmas.{world_step, all_append}

-- a refusal since the vBucket hasn't opened
abbrev IsWarming : EventData → Type 0
IsWarming (Refused caller call now cause) = cause ≡ causes.Warming
IsWarming event = ⊥

all_at : {A : Type 0} (P : A → Type 0) (xs before later : List A) (x : A) → AllByRecursion P xs → xs ≡ before ++ x ∷ later → P x
all_at P xs before later x all is = at P before later x (subst (λ l. AllByRecursion P l) is all)
  where
    at : {A : Type 0} (P : A → Type 0) (before later : List A) (x : A) → AllByRecursion P (before ++ x ∷ later) → P x
    at P [] later x h = h.0
    at P (y ∷ before) later x h = at P before later x h.1

none_put : (start : Option StartData) → start ≡ None → IsSome start → ⊥
none_put None is h = cc
none_put (Some s) is h = cc

cause_warming : (f : FrontData) (caller : ℕ) (call : CallData) (now : ℕ) (cause : Cause) → (world_of f).opened ≡ false → Caused f caller call now cause → cause ≡ causes.Warming
cause_warming f caller call now causes.Quota closed c = absurd (let h = c.serving.opened in cc)
cause_warming f caller call now causes.Warming closed c = refl
cause_warming f caller call now (causes.Store ticket) closed c = absurd (let h = c.serving.opened in cc)
cause_warming f caller call now (causes.Memory ticket) closed c = absurd (let h = c.serving.opened in cc)

event_warming : (f : FrontData) (event : EventData) → f.start ≡ None → (world_of f).opened ≡ false → AllByRecursion IsWarming f.events → May f event → IsWarming event
unfolding May
event_warming f (Called caller call now reply value) bare closed all may = absurd (let h = may.opened in cc)
event_warming f (Refused caller call now cause) bare closed all may = cause_warming f caller call now cause closed may
event_warming f (Expired key now) bare closed all may = absurd (let h = may.serving.opened in cc)
event_warming f (Persisted number) bare closed all may = absurd (let h = may.opened in cc)
event_warming f (Marked stripe number) bare closed all may = absurd (let h = may.opened in cc)
event_warming f (Asked ticket caller call) bare closed all may = absurd (let h = may.serving.opened in cc)
event_warming f (ReadFailed ticket fault) bare closed all may = absurd (all_at IsWarming f.events may.asked.before may.asked.later (Asked ticket may.asked.caller may.asked.call) all may.asked.asked)
event_warming f Opened bare closed all may = absurd (none_put f.start bare may.put)

-- such a refusal leaves the world
world_warming : (f : FrontData) (event : EventData) → IsWarming event → world_of (with_event f event) ≡ world_of f
world_warming f (Called caller call now reply value) h = absurd h
world_warming f (Refused caller call now cause) h = world_step f (Refused caller call now cause)
world_warming f (Expired key now) h = absurd h
world_warming f (Persisted number) h = absurd h
world_warming f (Marked stripe number) h = absurd h
world_warming f (Asked ticket caller call) h = absurd h
world_warming f (ReadFailed ticket fault) h = absurd h
world_warming f Opened h = absurd h

all_warming : (f : FrontData) (events : List EventData) → f.start ≡ None → (world_of f).opened ≡ false → AllByRecursion IsWarming f.events → AreLegal f events → AllByRecursion IsWarming events
unfolding AreLegal
all_warming f [] bare closed all legal = tt
all_warming f (event ∷ events) bare closed all legal =
    let here = event_warming f event bare closed all legal.0 in
    (here, all_warming (with_event f event) events bare (ap (λ (w : World). w.opened) (world_warming f event here) ∙ closed) (all_append IsWarming f.events (event ∷ []) all (here, tt)) legal.1)

may_warming : (f : FrontData) (event : EventData) → (world_of f).opened ≡ false → IsWarming event → May f event
unfolding May
may_warming f (Called caller call now reply value) closed h = absurd h
may_warming f (Refused caller call now cause) closed h = subst (λ (k : Cause). Caused f caller call now k) (sym h) closed
may_warming f (Expired key now) closed h = absurd h
may_warming f (Persisted number) closed h = absurd h
may_warming f (Marked stripe number) closed h = absurd h
may_warming f (Asked ticket caller call) closed h = absurd h
may_warming f (ReadFailed ticket fault) closed h = absurd h
may_warming f Opened closed h = absurd h

legal_warming : (f : FrontData) (events : List EventData) → (world_of f).opened ≡ false → AllByRecursion IsWarming events → AreLegal f events
unfolding AreLegal
legal_warming f [] closed all = tt
legal_warming f (event ∷ events) closed all =
    (may_warming f event closed all.0, legal_warming (with_event f event) events (ap (λ (w : World). w.opened) (world_warming f event all.0) ∙ closed) all.1)

pub legal_begun : LegalBegun
unfolding IsLegal
legal_begun f start bare legal =
    legal_warming (record f { start = Some start; events = [] }) f.events refl (all_warming (record f { events = [] }) f.events bare refl tt legal)
