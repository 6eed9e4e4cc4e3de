-- Events that were kept stand for the same data when more bytes are put behind theirs.
use Rattle.std.proofs.Common.{◌≡◌, ℕ, ◌≤◌, List, [], ◌∷◌, ◌++◌, length, take, drop, refl, ap, ◌∙◌, arith, length-append}
use Rattle.std.proofs.lemmas.List.{drop-append-le, take-append-le, map-append, length-drop}
use Rattle.std.specs.Prelude.{Result, Ok, Err, OnErr}
use Rattle.ep_model.specs.declared.data.EventData.{EventData}
use Rattle.vb_world.specs.declared.event_log.Span.{Span}
use Rattle.vb_world.specs.declared.event_log.KeptCall.{KeptCall}
use Rattle.vb_world.specs.declared.event_log.KeptCall.TheVariants as kept
use Rattle.vb_world.specs.declared.event_log.KeptEvent.{KeptEvent}
use Rattle.vb_world.specs.declared.event_log.KeptEvent.TheVariants.{Called, Refused, Expired, Persisted, Marked, Asked, ReadFailed, Opened}
use Rattle.vb_world.specs.EventLog.{spanned, call_in, event_in, pair_in, pairs_in, IsInside, IsCallInside, IsEventInside, AreInside, Extends}

spanned-append : (xs ys : List ℕ) (s : Span) → IsInside (length xs) s → spanned (xs ++ ys) s ≡ spanned xs s
spanned-append xs ys s h =
    ap (take s.len) (drop-append-le s.from xs ys (omega arith)) ∙ take-append-le s.len (drop s.from xs) ys (omega (arith, length-drop s.from xs))

call_in-append : (xs ys : List ℕ) (call : KeptCall) → IsCallInside (length xs) call → call_in (xs ++ ys) call ≡ call_in xs call
call_in-append xs ys (kept.Get key) h = let a = spanned-append xs ys key h in cc
call_in-append xs ys (kept.Store kind key value flags expiration cas) h = let a = spanned-append xs ys key h.0 in let b = spanned-append xs ys value h.1 in cc
call_in-append xs ys (kept.Join front key value cas) h = let a = spanned-append xs ys key h.0 in let b = spanned-append xs ys value h.1 in cc
call_in-append xs ys (kept.Count down key delta initial expiration cas) h = let a = spanned-append xs ys key h in cc
call_in-append xs ys (kept.Delete key cas) h = let a = spanned-append xs ys key h in cc
call_in-append xs ys (kept.Touch key expiration fetch) h = let a = spanned-append xs ys key h in cc
call_in-append xs ys (kept.Observe uuid) h = refl
call_in-append xs ys kept.Failovers h = refl
call_in-append xs ys (kept.SetState state) h = refl
call_in-append xs ys kept.GetState h = refl

event_in-append : (xs ys : List ℕ) (event : KeptEvent) → IsEventInside (length xs) event → event_in (xs ++ ys) event ≡ event_in xs event
event_in-append xs ys (Called caller call now reply value) h = let a = call_in-append xs ys call h.0 in let b = spanned-append xs ys value h.1 in cc
event_in-append xs ys (Refused caller call now cause) h = let a = call_in-append xs ys call h in cc
event_in-append xs ys (Expired key now) h = let a = spanned-append xs ys key h in cc
event_in-append xs ys (Persisted number) h = refl
event_in-append xs ys (Marked stripe number) h = refl
event_in-append xs ys (Asked ticket caller call) h = let a = call_in-append xs ys call h in cc
event_in-append xs ys (ReadFailed ticket fault) h = refl
event_in-append xs ys Opened h = refl

pairs_in-append : (xs ys : List ℕ) (pairs : List (ℕ × KeptEvent)) → AreInside (length xs) pairs → pairs_in (xs ++ ys) pairs ≡ pairs_in xs pairs
pairs_in-append xs ys [] h = refl
pairs_in-append xs ys (p ∷ pairs) h = let a = event_in-append xs ys p.1 h.0 in let b = pairs_in-append xs ys pairs h.1 in cc

call_inside : (m n : ℕ) (call : KeptCall) → m ≤ n → IsCallInside m call → IsCallInside n call
call_inside m n (kept.Get key) le h = omega arith
call_inside m n (kept.Store kind key value flags expiration cas) le h = (omega arith, omega arith)
call_inside m n (kept.Join front key value cas) le h = (omega arith, omega arith)
call_inside m n (kept.Count down key delta initial expiration cas) le h = omega arith
call_inside m n (kept.Delete key cas) le h = omega arith
call_inside m n (kept.Touch key expiration fetch) le h = omega arith
call_inside m n (kept.Observe uuid) le h = tt
call_inside m n kept.Failovers le h = tt
call_inside m n (kept.SetState state) le h = tt
call_inside m n kept.GetState le h = tt

event_inside : (m n : ℕ) (event : KeptEvent) → m ≤ n → IsEventInside m event → IsEventInside n event
event_inside m n (Called caller call now reply value) le h = (call_inside m n call le h.0, omega arith)
event_inside m n (Refused caller call now cause) le h = call_inside m n call le h
event_inside m n (Expired key now) le h = omega arith
event_inside m n (Persisted number) le h = tt
event_inside m n (Marked stripe number) le h = tt
event_inside m n (Asked ticket caller call) le h = call_inside m n call le h
event_inside m n (ReadFailed ticket fault) le h = tt
event_inside m n Opened le h = tt

are_inside : (m n : ℕ) (pairs : List (ℕ × KeptEvent)) → m ≤ n → AreInside m pairs → AreInside n pairs
are_inside m n [] le h = tt
are_inside m n (p ∷ pairs) le h = (event_inside m n p.1 le h.0, are_inside m n pairs le h.1)

pub are_inside-push : (n : ℕ) (pairs : List (ℕ × KeptEvent)) (p : ℕ × KeptEvent) → AreInside n pairs → IsEventInside n p.1 → AreInside n (pairs ++ p ∷ [])
are_inside-push n [] p h last = (last, tt)
are_inside-push n (first ∷ pairs) p h last = (h.0, are_inside-push n pairs p h.1 last)

-- what stands when bytes were put behind, whatever they are for
pub kept_inside : (old new : List ℕ) (pairs : List (ℕ × KeptEvent)) → Extends old new → AreInside (length old) pairs → AreInside (length new) pairs
kept_inside old new pairs (more, e) h = are_inside _ _ pairs (omega (arith, ap length e, length-append old more)) h

pub kept_pairs : (old new : List ℕ) (pairs : List (ℕ × KeptEvent)) → Extends old new → AreInside (length old) pairs → pairs_in new pairs ≡ pairs_in old pairs
kept_pairs old new pairs (more, e) h = ap (λ bytes. pairs_in bytes pairs) e ∙ pairs_in-append old more pairs h

-- an event was kept behind the old bytes, and put last
pub push_kept : (old new : List ℕ) (pairs : List (ℕ × KeptEvent)) (vb : ℕ) (event : KeptEvent) (noted : EventData)
    → Extends old new → AreInside (length old) pairs → event_in new event ≡ noted
    → pairs_in new (pairs ++ (vb, event) ∷ []) ≡ pairs_in old pairs ++ (vb, noted) ∷ []
push_kept old new pairs vb event noted more inside same =
    map-append (pair_in new) pairs ((vb, event) ∷ []) ∙ ap (λ l. l ++ (vb, event_in new event) ∷ []) (kept_pairs old new pairs more inside) ∙ ap (λ e. pairs_in old pairs ++ (vb, e) ∷ []) same

pub err_here : {T E : Type 0} {P : Type 0} (r : Result T E) → P → OnErr r P
err_here (Ok x) h = tt
err_here (Err e) h = h
