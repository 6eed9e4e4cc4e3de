-- The history of one vBucket in one of several.
use Rattle.std.proofs.Common.{◌≡◌, ◌≢◌, ℕ, Bool, true, false, List, [], ◌∷◌, ◌++◌, map, filter, refl, ap, ◌∙◌, arith, append-nil}
use Rattle.std.specs.Prelude.{◌==◌, if◌then◌else◌}
use Rattle.std.proofs.lemmas.List.{map-append}
use Rattle.std.proofs.lemmas.List.Elements.{filter-append}
use Rattle.std.proofs.lemmas.Bool.Decides.{nat_tests}
use Rattle.ep_model.specs.declared.data.EventData.{EventData}
use Rattle.vb_world.specs.History.{events_of, under}

same-test : (a : ℕ) → (a == a) ≡ true
same-test a = grind (arith, nat_tests)

differ-test : (a b : ℕ) → a ≢ b → (a == b) ≡ false
differ-test a b differ = grind (arith, nat_tests)

-- the vBucket's events among these with one more in front, as the test of that one says
abbrev taken : Bool → ℕ → ℕ × EventData → List (ℕ × EventData) → List EventData
taken b id p pairs = map (λ (q : ℕ × EventData). q.1) (if b then p ∷ filter (λ (q : ℕ × EventData). q.0 == id) pairs else filter (λ (q : ℕ × EventData). q.0 == id) pairs)

-- events that are all of one vBucket are its history, and no event of another's
pub events_of-under : (id : ℕ) (events : List EventData) → events_of id (under id events) ≡ events
events_of-under id [] = refl
events_of-under id (event ∷ events) = ap (λ (b : Bool). taken b id (id, event) (under id events)) (same-test id) ∙ ap (λ l. event ∷ l) (events_of-under id events)

pub events_of-under-other : (id other : ℕ) (events : List EventData) → other ≢ id → events_of id (under other events) ≡ []
events_of-under-other id other [] differ = refl
events_of-under-other id other (event ∷ events) differ = ap (λ (b : Bool). taken b id (other, event) (under other events)) (differ-test other id differ) ∙ events_of-under-other id other events differ

pub events_of-append : (id : ℕ) (xs ys : List (ℕ × EventData)) → events_of id (xs ++ ys) ≡ events_of id xs ++ events_of id ys
events_of-append id xs ys =
    ap (map (λ (p : ℕ × EventData). p.1)) (filter-append (λ (p : ℕ × EventData). p.0 == id) xs ys)
    ∙ map-append (λ (p : ℕ × EventData). p.1) (filter (λ (p : ℕ × EventData). p.0 == id) xs) (filter (λ (p : ℕ × EventData). p.0 == id) ys)

-- one event more of the vBucket, and one of another
pub events_of-push : (id : ℕ) (pairs : List (ℕ × EventData)) (event : EventData) → events_of id (pairs ++ (id, event) ∷ []) ≡ events_of id pairs ++ event ∷ []
events_of-push id pairs event = events_of-append id pairs ((id, event) ∷ []) ∙ ap (λ l. events_of id pairs ++ l) (events_of-under id (event ∷ []))

pub events_of-push-other : (id other : ℕ) (pairs : List (ℕ × EventData)) (event : EventData) → other ≢ id → events_of id (pairs ++ (other, event) ∷ []) ≡ events_of id pairs
events_of-push-other id other pairs event differ =
    events_of-append id pairs ((other, event) ∷ []) ∙ ap (λ l. events_of id pairs ++ l) (events_of-under-other id other (event ∷ []) differ) ∙ append-nil (events_of id pairs)

pub under-append : (id : ℕ) (xs ys : List EventData) → under id (xs ++ ys) ≡ under id xs ++ under id ys
under-append id xs ys = map-append (λ (event : EventData). (id, event)) xs ys
