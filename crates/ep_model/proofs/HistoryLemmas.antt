-- What histories are made of: the world after two parts of one, and that a legal history's fronts are legal and
-- grow by what may happen.
use Rattle.std.proofs.Common.{◌≡◌, ℕ, List, [], ◌∷◌, ◌++◌, Option, refl, sym, subst, append_assoc, append-nil}
use Rattle.ep_model.specs.declared.config.Config.{Config}
use Rattle.ep_model.specs.declared.data.EventData.{EventData}
use Rattle.ep_model.specs.declared.data.FrontData.{FrontData}
use Rattle.ep_model.specs.declared.data.StartData.{StartData}
use Rattle.ep_model.specs.World.{World}
use Rattle.ep_model.specs.History.{after, step}
use Rattle.ep_model.specs.Front.{with_event, with_events}
use Rattle.ep_model.specs.Legal.{May, AreLegal, IsLegal}

-- the world after two parts is the world after the second, begun where the first ends
pub after-append : (start : World) (xs ys : List EventData) → after start (xs ++ ys) ≡ after (after start xs) ys
after-append start [] ys = refl
after-append start (x ∷ xs) ys = after-append (step start x) xs ys

-- events that are legal after a front stay so with one more that may happen
are-legal-push : (f : FrontData) (xs : List EventData) (event : EventData) → AreLegal f xs → May (with_events f xs) event → AreLegal f (xs ++ event ∷ [])
unfolding AreLegal
are-legal-push f [] event legal may = (subst (λ (h : List EventData). May (record f { events = h }) event) (append-nil f.events) may, tt)
are-legal-push f (x ∷ xs) event legal may =
    (legal.0, are-legal-push (with_event f x) xs event legal.1 (subst (λ (h : List EventData). May (record f { events = h }) event) (sym (append_assoc f.events (x ∷ []) xs)) may))

-- of two parts that are legal together each is legal, the second behind the first
are-legal-front : (f : FrontData) (xs ys : List EventData) → AreLegal f (xs ++ ys) → AreLegal f xs × AreLegal (with_events f xs) ys
unfolding AreLegal
are-legal-front f [] ys legal = (tt, subst (λ (h : List EventData). AreLegal (record f { events = h }) ys) (sym (append-nil f.events)) legal)
are-legal-front f (x ∷ xs) ys legal =
    let later = are-legal-front (with_event f x) xs ys legal.1 in
    ((legal.0, later.0), subst (λ (h : List EventData). AreLegal (record f { events = h }) ys) (append_assoc f.events (x ∷ []) xs) later.1)

-- a legal history stays legal with one more event that may happen
pub legal-push : (f : FrontData) (event : EventData) → IsLegal f → May f event → IsLegal (with_event f event)
unfolding IsLegal
legal-push f event legal may = are-legal-push (record f { events = [] }) f.events event legal may

-- the front of a legal history is legal, and what stands behind it may stand there
pub legal-front : (f : FrontData) (more : List EventData) → IsLegal (with_events f more) → IsLegal f × AreLegal f more
unfolding IsLegal
legal-front f more legal = are-legal-front (record f { events = [] }) f.events more legal

pub legal-bare : (config : Config) (id : ℕ) (start : Option StartData) → IsLegal (record { config = config; id = id; start = start; events = [] })
unfolding IsLegal AreLegal
legal-bare config id start = tt
