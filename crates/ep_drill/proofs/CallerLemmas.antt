-- How a caller stands when events are noted, its own and those of others, and when calls are loaded.
use Rattle.std.proofs.Common.{◌≡◌, ◌≢◌, ℕ, zero, suc, ◌+◌, Bool, true, false, cond, inl, inr, List, [], ◌∷◌, ◌++◌, length, take, slice_get, refl, sym, ap, subst, ◌∙◌, add-one, arith, append_assoc, append-nil, length-append}
use Rattle.std.specs.Prelude.{Option, Some, None, IfSome, ◌==◌, if◌then◌else◌}
use Rattle.std.proofs.lemmas.Bool.{cases_eq, ne_eqb}
use Rattle.std.proofs.lemmas.Bool.Decides.{Decides-eqb}
use Rattle.std.proofs.lemmas.List.{take-append-le}
use Rattle.std.proofs.lemmas.Option.{slice_get_within, slice_get_past}
use Rattle.ep_model.specs.declared.event.Ticket.{Ticket}
use Rattle.ep_model.specs.declared.data.CallData.{CallData}
use Rattle.ep_model.specs.declared.data.EventData.{EventData}
use Rattle.ep_model.specs.declared.data.EventData.TheVariants as events
use Rattle.ep_model.specs.declared.data.FrontData.{FrontData}
use Rattle.ep_model.specs.Legal.{IsSilent}
use Rattle.hold_stage.specs.Touches.{is_call}
use Rattle.hold_stage.proofs.CallerLemmas.{same_is}
use Rattle.vb_world.proofs.ListLemmas.{all-push, get_push}
use Rattle.ep_drill.specs.declared.data.CallerData.{CallerData}
use Rattle.flat_parts.specs.declared.data.Step.{Step}
use Rattle.flat_parts.specs.declared.data.Step.TheVariants as steps
use Rattle.hold_stage.specs.Went.{with_noted}
use Rattle.ep_drill.specs.Calls.{event_of}
use Rattle.hold_stage.specs.Priors.{is_prior, PriorsStand, PriorStands}
use Rattle.ep_drill.specs.Callers.{answered_by, answered_in, calls_on, next_of, NextStands, CallerStands, after_step}
use Rattle.ep_drill.proofs.CallLemmas.{prior_is}

-- an event that is of no call answers none
pub quiet_answers : (number : ℕ) (event : EventData) → is_call event ≡ false → answered_by number event ≡ []
unfolding is_call
quiet_answers number (events.Called caller call now reply value) is = absurd (cc)
quiet_answers number (events.Refused caller call now cause) is = absurd (cc)
quiet_answers number (events.Expired key now) is = refl
quiet_answers number (events.Persisted mark) is = refl
quiet_answers number (events.Marked stripe mark) is = refl
quiet_answers number (events.Asked ticket caller call) is = refl
quiet_answers number (events.ReadFailed ticket fault) is = refl
quiet_answers number events.Opened is = refl

not_answered : (other number : ℕ) (call : CallData) → other ≢ number → (if other == number then call ∷ [] else []) ≡ []
not_answered other number call differ = ap (λ (b : Bool). if b then call ∷ [] else []) (ne_eqb other number differ)

-- what another caller's call came to answers none of this one's
pub others_answer : (other number now : ℕ) (call : CallData) (prior : Option Ticket) (value : List ℕ) (step : Step) → other ≢ number → IfSome (event_of other call now prior value step) (λ e. answered_by number e ≡ [])
others_answer other number now call prior value (steps.Done reply) differ = not_answered other number call differ
others_answer other number now call prior value (steps.Refused cause) differ = not_answered other number call differ
others_answer other number now call prior value (steps.Fetch ticket) differ =
    elim (is_prior prior ticket) as (λ b. IfSome (cond b None (Some (events.Asked ticket other call))) (λ e. answered_by number e ≡ [])) [
      | true ↦ tt
      | false ↦ refl
    ]
others_answer other number now call prior value steps.FetchFull differ = tt

-- and an event that answers none of its calls is silent for it
not_silent : (other number : ℕ) (call : CallData) → (if other == number then call ∷ [] else []) ≡ [] → other ≢ number
not_silent other number call none is =
    let own : (if other == number then call ∷ [] else []) ≡ call ∷ [] = ap (λ (b : Bool). if b then call ∷ [] else []) ((Decides-eqb other number).1 is) in
    cc

silent_event : (number : ℕ) (event : EventData) → answered_by number event ≡ [] → IsSilent number event
silent_event number (events.Called other call now reply value) none = not_silent other number call none
silent_event number (events.Refused other call now cause) none = not_silent other number call none
silent_event number (events.Expired key now) none = tt
silent_event number (events.Persisted mark) none = tt
silent_event number (events.Marked stripe mark) none = tt
silent_event number (events.Asked ticket other call) none = tt
silent_event number (events.ReadFailed ticket fault) none = tt
silent_event number events.Opened none = tt

answered_in-push : (number : ℕ) (list : List EventData) (event : EventData) → answered_in number (list ++ event ∷ []) ≡ answered_in number list ++ answered_by number event
answered_in-push number [] event = append-nil (answered_by number event)
answered_in-push number (first ∷ list) event =
    ap (λ (l : List CallData). answered_by number first ++ l) (answered_in-push number list event) ∙ sym (append_assoc (answered_by number first) (answered_in number list) (answered_by number event))

calls_on-append : (vb : ℕ) (xs ys : List (ℕ × CallData)) → calls_on vb (xs ++ ys) ≡ calls_on vb xs ++ calls_on vb ys
calls_on-append vb [] ys = refl
calls_on-append vb (x ∷ xs) ys =
    let rest = calls_on-append vb xs ys in
    elim (x.0 == vb) as (λ b. cond b (x.1 ∷ calls_on vb (xs ++ ys)) (calls_on vb (xs ++ ys)) ≡ cond b (x.1 ∷ calls_on vb xs) (calls_on vb xs) ++ calls_on vb ys) [
      | true ↦ ap (λ (l : List CallData). x.1 ∷ l) rest
      | false ↦ rest
    ]

take_next : {A : Type 0} (xs : List A) (n : ℕ) (x : A) → slice_get xs n ≡ Some x → take (suc n) xs ≡ take n xs ++ x ∷ []
take_next [] n x is = absurd (cc)
take_next (y ∷ ys) zero x is = let same : y ≡ x = cc in ap (λ z. z ∷ []) same
take_next {A} (y ∷ ys) (suc n) x is = ap (λ (l : List A). y ∷ l) (take_next ys n x is)

-- one call more is among the answered ones
calls_more : (u vb n : ℕ) (calls : List (ℕ × CallData)) (call : CallData) → slice_get calls n ≡ Some (vb, call)
    → calls_on u (take (n + 1) calls) ≡ calls_on u (take n calls) ++ (if vb == u then call ∷ [] else [])
calls_more u vb n calls call is =
    ap (λ (k : ℕ). calls_on u (take k calls)) (add-one n) ∙ ap (λ (l : List (ℕ × CallData)). calls_on u l) (take_next calls n (vb, call) is) ∙ calls_on-append u (take n calls) ((vb, call) ∷ [])

-- an event that answers none of the caller's calls leaves what the caller asked
priors_noted : (f : FrontData) (number : ℕ) (call : CallData) (event : Option EventData) (prior : Option Ticket) → IfSome event (λ e. answered_by number e ≡ []) → PriorsStand f number call prior → PriorsStand (with_noted f event) number call prior
priors_noted f number call event None none stands = tt
priors_noted f number call None (Some ticket) none stands = stands
priors_noted f number call (Some event) (Some ticket) none stands =
    record {
      before = stands.before;
      later = stands.later ++ event ∷ [];
      asked = ap (λ (l : List EventData). l ++ event ∷ []) stands.asked ∙ append_assoc stands.before (events.Asked ticket number call ∷ stands.later) (event ∷ []);
      silent = all-push (IsSilent number) stands.later event stands.silent (silent_event number event none);
    }

answered_noted : (f : FrontData) (number : ℕ) (event : Option EventData) → IfSome event (λ e. answered_by number e ≡ []) → answered_in number (with_noted f event).events ≡ answered_in number f.events
answered_noted f number None none = refl
answered_noted f number (Some event) none =
    answered_in-push number f.events event ∙ ap (λ (l : List CallData). answered_in number f.events ++ l) none ∙ append-nil (answered_in number f.events)

-- where no ticket is kept any call may be the next
idle : (fronts : ℕ → FrontData) (number : ℕ) (prior : Option Ticket) (next : Option (ℕ × CallData)) → prior ≡ None → NextStands fronts number prior next
idle fronts number prior None none = none
idle fronts number prior (Some next) none = subst (λ (p : Option Ticket). PriorsStand (fronts next.0) number next.1 p) (sym none) tt

-- Histories of which one got an event more, or none.
module _ (fronts fresh : ℕ → FrontData) (vb number : ℕ) (event : Option EventData) (here : fresh vb ≡ with_noted (fronts vb) event) (others : (u : ℕ) → u ≢ vb → fresh u ≡ fronts u) where
  at_each : (Q : FrontData → Type 0) (u : ℕ) → (u ≡ vb → Q (with_noted (fronts u) event)) → (u ≢ vb → Q (fronts u)) → Q (fresh u)
  at_each Q u new old =
      elim (cases_eq u vb) as (λ _. Q (fresh u)) [
        | inl is ↦ subst Q (sym (subst (λ (k : ℕ). fresh k ≡ with_noted (fronts k) event) (sym is) here)) (new is)
        | inr differ ↦ subst Q (sym (others u differ)) (old differ)
      ]

  next_keeps : (prior : Option Ticket) (next : Option (ℕ × CallData)) → IfSome event (λ e. answered_by number e ≡ []) → NextStands fronts number prior next → NextStands fresh number prior next
  next_keeps prior None none stands = stands
  next_keeps prior (Some next) none stands =
      at_each (λ (g : FrontData). PriorsStand g number next.1 prior) next.0 (λ is. priors_noted (fronts next.0) number next.1 event prior none stands) (λ differ. stands)

  done_keeps : (u : ℕ) (calls : List CallData) → IfSome event (λ e. answered_by number e ≡ []) → answered_in number (fronts u).events ≡ calls → answered_in number (fresh u).events ≡ calls
  done_keeps u calls none done =
      at_each (λ (g : FrontData). answered_in number g.events ≡ calls) u (λ is. answered_noted (fronts u) number event none ∙ done) (λ differ. done)

-- an event that answers none of the caller's calls
pub caller_keeps : (fronts fresh : ℕ → FrontData) (vb number : ℕ) (event : Option EventData) (caller : CallerData) → fresh vb ≡ with_noted (fronts vb) event → ((u : ℕ) → u ≢ vb → fresh u ≡ fronts u)
    → IfSome event (λ e. answered_by number e ≡ []) → CallerStands fronts number caller → CallerStands fresh number caller
caller_keeps fronts fresh vb number event caller here others none stands =
    record {
      within = stands.within;
      done = λ u. done_keeps fronts fresh vb number event here others u (calls_on u (take caller.answered caller.calls)) none (stands.done u);
      next = next_keeps fronts fresh vb number event here others caller.prior (next_of caller) none stands.next;
    }

-- the event that answers the caller's next call
caller_answered : (fronts fresh : ℕ → FrontData) (vb number : ℕ) (event : EventData) (call : CallData) (caller : CallerData) → next_of caller ≡ Some (vb, call)
    → fresh vb ≡ with_noted (fronts vb) (Some event) → ((u : ℕ) → u ≢ vb → fresh u ≡ fronts u) → answered_by number event ≡ call ∷ []
    → CallerStands fronts number caller → CallerStands fresh number (record caller { answered = caller.answered + 1; prior = None })
caller_answered fronts fresh vb number event call caller next here others answers stands =
    let answered : (u : ℕ) → List CallData = λ u. calls_on u (take caller.answered caller.calls) in
    let more : (u : ℕ) → calls_on u (take (caller.answered + 1) caller.calls) ≡ answered u ++ (if vb == u then call ∷ [] else []) = λ u. calls_more u vb caller.answered caller.calls call next in
    let new : (u : ℕ) → u ≡ vb → answered_in number (with_noted (fronts u) (Some event)).events ≡ calls_on u (take (caller.answered + 1) caller.calls) = λ u is.
    answered_in-push number (fronts u).events event
    ∙ ap (λ (l : List CallData). answered_in number (fronts u).events ++ l) answers
    ∙ ap (λ (l : List CallData). l ++ call ∷ []) (stands.done u)
    ∙ sym (more u ∙ ap (λ (b : Bool). answered u ++ (if b then call ∷ [] else [])) ((Decides-eqb vb u).1 (sym is)))
    in
    let old : (u : ℕ) → u ≢ vb → answered_in number (fronts u).events ≡ calls_on u (take (caller.answered + 1) caller.calls) = λ u differ.
    stands.done u ∙ sym (more u ∙ ap (λ (b : Bool). answered u ++ (if b then call ∷ [] else [])) (ne_eqb vb u (λ e. differ (sym e))) ∙ append-nil (answered u))
    in
    record {
      within = let inside = slice_get_within caller.calls caller.answered (vb, call) next in omega arith;
      done = λ u. at_each fronts fresh vb number (Some event) here others (λ (g : FrontData). answered_in number g.events ≡ calls_on u (take (caller.answered + 1) caller.calls)) u (new u) (old u);
      next = idle fresh number None (slice_get caller.calls (caller.answered + 1)) refl;
    }

own_answered : (number : ℕ) (call : CallData) → (if number == number then call ∷ [] else []) ≡ call ∷ []
own_answered number call = ap (λ (b : Bool). if b then call ∷ [] else []) (same_is number)

-- what the caller's next call came to
pub caller_steps : (fronts fresh : ℕ → FrontData) (number now vb : ℕ) (call : CallData) (value : List ℕ) (step : Step) (caller : CallerData) → next_of caller ≡ Some (vb, call)
    → fresh vb ≡ with_noted (fronts vb) (event_of number call now caller.prior value step) → ((u : ℕ) → u ≢ vb → fresh u ≡ fronts u)
    → CallerStands fronts number caller → CallerStands fresh number (after_step step caller)
caller_steps fronts fresh number now vb call value (steps.Done reply) caller next here others stands =
    caller_answered fronts fresh vb number (events.Called number call now reply value) call caller next here others (own_answered number call) stands
caller_steps fronts fresh number now vb call value (steps.Refused cause) caller next here others stands =
    caller_answered fronts fresh vb number (events.Refused number call now cause) call caller next here others (own_answered number call) stands
caller_steps fronts fresh number now vb call value (steps.Fetch ticket) caller next here others stands =
    let asked : EventData = events.Asked ticket number call in
    elim (is_prior caller.prior ticket) as (λ b. is_prior caller.prior ticket ≡ b → fresh vb ≡ with_noted (fronts vb) (cond b None (Some asked)) → CallerStands fresh number (record caller { prior = Some ticket })) [
      -- it waits on where it asked before
      | true ↦ λ is stays.
          let kept : CallerStands fresh number caller = caller_keeps fronts fresh vb number None caller stays others tt stands in
          record { within = kept.within; done = kept.done; next = subst (λ (p : Option Ticket). NextStands fresh number p (next_of caller)) (prior_is caller.prior ticket is) kept.next }
      -- it asked just now
      | false ↦ λ is grown.
          let kept : CallerStands fresh number caller = caller_keeps fronts fresh vb number (Some asked) caller grown others refl stands in
          let waits : PriorStands (fresh vb) number call ticket = record { before = (fronts vb).events; later = []; asked = ap (λ (g : FrontData). g.events) grown; silent = tt } in
          record { within = kept.within; done = kept.done; next = subst (λ (o : Option (ℕ × CallData)). NextStands fresh number (Some ticket) o) (sym next) waits }
    ] refl here
caller_steps fronts fresh number now vb call value steps.FetchFull caller next here others stands =
    caller_keeps fronts fresh vb number None caller here others tt stands

-- one call more to do
pub caller_loads : (fronts : ℕ → FrontData) (number : ℕ) (caller : CallerData) (call : ℕ × CallData) → CallerStands fronts number caller → CallerStands fronts number (record caller { calls = caller.calls ++ call ∷ [] })
caller_loads fronts number caller call stands =
    let inside = stands.within in
    let more : List (ℕ × CallData) = caller.calls ++ call ∷ [] in
    record {
      within = omega (arith, length-append caller.calls (call ∷ []));
      done = λ u. stands.done u ∙ ap (λ (l : List (ℕ × CallData)). calls_on u l) (sym (take-append-le caller.answered caller.calls (call ∷ []) inside));
      next = elim (cases_eq caller.answered (length caller.calls)) as (λ _. NextStands fronts number caller.prior (slice_get more caller.answered)) [
        -- all were answered, so it keeps no ticket
        | inl is ↦
            let past : next_of caller ≡ None = slice_get_past caller.calls caller.answered (omega arith) in
            idle fronts number caller.prior (slice_get more caller.answered) (subst (λ (o : Option (ℕ × CallData)). NextStands fronts number caller.prior o) past stands.next)
        | inr differ ↦ subst (λ (o : Option (ℕ × CallData)). NextStands fronts number caller.prior o) (sym (get_push caller.calls call caller.answered differ)) stands.next
      ];
    }

-- a caller that has no calls, where none of this number is known
pub caller_new : (fronts : ℕ → FrontData) (number : ℕ) → ((vb : ℕ) → answered_in number (fronts vb).events ≡ []) → CallerStands fronts number (record { calls = []; answered = 0; prior = None })
caller_new fronts number none = record { within = omega arith; done = none; next = refl }
