-- The laws of legal histories.
use Rattle.std.proofs.Common.{◌≡◌, ◌≢◌, ◌<◌, ◌≤◌, ℕ, ◌+◌, Bool, true, false, cond, List, [], ◌∷◌, ◌++◌, length, refl, sym, ap, subst, ◌∙◌, arith, append_assoc}
use Rattle.std.specs.Prelude.{Option, Some, None, ◌==◌, nat_lt, option_to_list}
use Rattle.std.specs.Option.{option_or}
use Rattle.std.specs.List.{AllByRecursion}
use Rattle.std.specs.Ordering.{nat_cmp, eq_by_cmp}
use Rattle.std.specs.Cmp.Lexicographic.{slice_cmp, nat_list_cmp_total, texts_ties}
use Rattle.std.proofs.lemmas.Cmp.{eq_by_cmp_equiv}
use Rattle.std.specs.FinMap.{get, insert, get-insert, same_map, slice_cmp-IsAntisymmetric, nat_cmp-IsAntisymmetric}
use Rattle.std.specs.Str.{bytes_eq}
use Rattle.std.proofs.lemmas.Bool.Decides.{Decides-eqb, nat_tests}
use Rattle.std.proofs.lemmas.List.Elements.{filter-append}
use Rattle.ep_model.specs.declared.event.Ticket.{Ticket}
use Rattle.ep_model.specs.declared.data.CallData.{CallData}
use Rattle.ep_model.specs.declared.data.EventData.{EventData}
use Rattle.ep_model.specs.declared.data.EventData.TheVariants.{Called, Refused, Expired, Persisted, Marked, Asked, ReadFailed, Opened}
use Rattle.ep_model.specs.declared.data.FrontData.{FrontData}
use Rattle.ep_model.specs.World.{Doc, Docs, World, Item}
use Rattle.ep_model.specs.Answer.{Effect, Nothing, Puts, Sets, apply}
use Rattle.ep_model.specs.History.{call_effect, step, after, upto}
use Rattle.ep_model.specs.Mutations.{mutation_of, mutations, above, laid_on}
use Rattle.ep_model.specs.Front.{begun, started, world_of, with_event, with_events, mark_after, marked}
use Rattle.ep_model.specs.Legal.{IsBelow, IsNoFault, May, AreLegal, IsLegal}
use Rattle.ep_model.proofs.HistoryLemmas.{legal-front}
use Rattle.hold_stage.specs.Touches.{is_desks}
use Rattle.hold_stage.specs.Histories.{puts_of, world_at, IsReached, TicketsDiffer, IsBounded, LegalIsBounded, HasRisen, NumbersRise, AreNumbered, MutationsAreNumbered, UptoStays, DocsStay, NoDocsStay, last_of, IsBatchAbove, BatchLaw, HasNumbersWithin, NumbersStayWithin, LeavesDesk, OthersLeaveDesk}
use Rattle.hold_stage.proofs.MutationLemmas.{IsNextPut, mutation_is_next, IsPut, step_is_put, step_rises, after_rises, upto_append}
use Rattle.hold_stage.proofs.LaterLemmas.{world_step, world_after, more_events, mark_append, persisted_later}
use Rattle.hold_stage.proofs.LegalLemmas.{all_last, asked_below, not_below}
use Rattle.hold_stage.proofs.BoundLemmas.{legal_bounds, marked_step}
use Rattle.hold_stage.proofs.StoredLemmas.{above_all, laid_above, doc_upto, none_upto}

-- tickets
asked_at : (f : FrontData) (ticket : Ticket) (b c : ℕ) (x y : CallData) (before other later rest : List EventData)
    → AreLegal f (before ++ Asked ticket b x ∷ later) → before ++ Asked ticket b x ∷ later ≡ other ++ Asked ticket c y ∷ rest → before ≡ other
unfolding AreLegal
asked_at f ticket b c x y [] [] later rest legal same = refl
asked_at f ticket b c x y [] (e ∷ other) later rest legal same =
    let tail : later ≡ other ++ Asked ticket c y ∷ rest = cc in
    let all = asked_below (with_event f (Asked ticket b x)) ticket c y other rest (subst (λ (l : List EventData). AreLegal (with_event f (Asked ticket b x)) l) tail legal.1) in
    absurd (not_below ticket b x (Asked ticket b x) refl (all_last (IsBelow ticket) f.events (Asked ticket b x) all))
asked_at f ticket b c x y (e ∷ before) [] later rest legal same =
    let head : e ≡ Asked ticket c y = cc in
    let all = asked_below (with_event f e) ticket b x before later legal.1 in
    absurd (not_below ticket c y e head (all_last (IsBelow ticket) f.events e all))
asked_at f ticket b c x y (e ∷ before) (d ∷ other) later rest legal same =
    let head : e ≡ d = cc in
    let tail : before ++ Asked ticket b x ∷ later ≡ other ++ Asked ticket c y ∷ rest = cc in
    let behind = asked_at (with_event f e) ticket b c x y before other later rest legal.1 tail in
    ap (λ (h : EventData). h ∷ before) head ∙ ap (λ (l : List EventData). d ∷ l) behind

pub tickets_differ : TicketsDiffer
unfolding IsLegal
tickets_differ f ticket b c x y before other later rest legal p q =
    asked_at (record f { events = [] }) ticket b c x y before other later rest (subst (λ (l : List EventData). AreLegal (record f { events = [] }) l) p legal) (sym p ∙ q)

-- bounds
pub legal_is_bounded : LegalIsBounded
legal_is_bounded f legal = let b = legal_bounds f legal in record { start = b.start; stored = b.stored; marks = b.marked }

mark_rises : (f : FrontData) (event : EventData) (stripe : ℕ) → May f event → marked f stripe ≤ mark_after stripe (marked f stripe) event
unfolding May
mark_rises f (Called caller call now reply value) stripe may = omega arith
mark_rises f (Refused caller call now cause) stripe may = omega arith
mark_rises f (Expired key now) stripe may = omega arith
mark_rises f (Persisted number) stripe may = omega arith
mark_rises f (Marked other number) stripe may =
    elim (other == stripe) as (λ b. other == stripe ≡ b → marked f stripe ≤ cond b number (marked f stripe)) [
      | true ↦ λ is. let e = ap (λ n. marked f n) ((Decides-eqb other stripe).0 is) in let h = may.above in omega arith
      | false ↦ λ is. omega arith
    ] refl
mark_rises f (Asked ticket caller call) stripe may = omega arith
mark_rises f (ReadFailed ticket fault) stripe may = omega arith
mark_rises f Opened stripe may = omega arith

marks_rise : (f : FrontData) (more : List EventData) (stripe : ℕ) → AreLegal f more → marked f stripe ≤ marked (with_events f more) stripe
unfolding AreLegal
marks_rise f [] stripe legal = let e = mark_append stripe (started f.start).high f.events [] in omega arith
marks_rise f (event ∷ more) stripe legal =
    let a = mark_rises f event stripe legal.0 in
    let b = marked_step f event stripe in
    let c = marks_rise (with_event f event) more stripe legal.1 in
    let d = ap (λ (g : FrontData). marked g stripe) (more_events f event more) in
    omega arith

pub numbers_rise : NumbersRise
numbers_rise f more legal =
    let l = legal-front f more legal in
    record {
      high = let a = after_rises (world_of f) more in let e = ap (λ (w : World). w.high) (world_after f more) in omega arith;
      stored = persisted_later f more l.1;
      marks = λ stripe. marks_rise f more stripe l.1;
    }

-- numbers
numbered : (w : World) (events : List EventData) → AreNumbered w.high (mutations w events) × ((after w events).high ≡ w.high + length (mutations w events))
numbered w [] = (tt, omega arith)
numbered w (event ∷ events) = at w (step w event) (mutation_of w event) (mutations (step w event) events) (after w (event ∷ events)).high (mutation_is_next w event) (step_is_put w event) (numbered (step w event) events)
  where
    at : (v w : World) (p : Option Item) (rest : List Item) (high : ℕ) → IsNextPut v p → IsPut v w p → AreNumbered w.high rest × (high ≡ w.high + length rest)
        → AreNumbered v.high (option_to_list p ++ rest) × (high ≡ v.high + length (option_to_list p ++ rest))
    at v w None rest high next put h = (subst (λ n. AreNumbered n rest) put.high h.0, (let e = put.high in let t = h.1 in omega arith))
    at v w (Some p) rest high next put h =
        let e : w.high ≡ v.high + 1 = put.1 ∙ next.0 in
        ((next.0, subst (λ n. AreNumbered n rest) e h.0), (let t = h.1 in omega arith))

pub mutations_are_numbered : MutationsAreNumbered
mutations_are_numbered f = numbered (begun f) f.events

-- worlds at a number
pub upto_stays : UptoStays
upto_stays f more number reached = upto_append (begun f) f.events more number reached.low reached.top

pub docs_stay : DocsStay
docs_stay f number key doc found low = doc_upto (begun f) f.events number key doc found low

pub no_docs_stay : NoDocsStay
no_docs_stay f number key found = none_upto (begun f) f.events number key found

-- the last of two lists
pub or_none : {A : Type 0} (o : Option A) → option_or o None ≡ o
or_none None = refl
or_none (Some x) = refl

pub or_assoc : {A : Type 0} (a b c : Option A) → option_or (option_or a b) c ≡ option_or a (option_or b c)
or_assoc None b c = refl
or_assoc (Some x) b c = refl

or_first : {A : Type 0} (a b : Option A) → option_or a b ≡ None → a ≡ None
or_first None b is = refl
or_first (Some x) b is = is

or_second : {A : Type 0} (a b : Option A) → option_or a b ≡ None → b ≡ None
or_second None b is = is
or_second (Some x) b is = absurd (cc)

pub last_append : (key : List ℕ) (xs ys : List Item) → last_of key (xs ++ ys) ≡ option_or (last_of key ys) (last_of key xs)
last_append key [] ys = sym (or_none (last_of key ys))
last_append key (x ∷ xs) ys =
    ap (λ (o : Option Doc). option_or o (cond (bytes_eq x.0 key) (Some x.1) None)) (last_append key xs ys)
    ∙ or_assoc (last_of key ys) (last_of key xs) (cond (bytes_eq x.0 key) (Some x.1) None)

tie : (a b : List ℕ) → eq_by_cmp (slice_cmp nat_cmp) b a ≡ bytes_eq a b
tie a b = sym (texts_ties a b ∙ (eq_by_cmp_equiv nat_list_cmp_total).symm a b)

get_put : (docs : Docs) (p : Item) (key : List ℕ) → get (insert docs p.0 p.1) key ≡ option_or (cond (bytes_eq p.0 key) (Some p.1) None) (get docs key)
get_put docs p key = get-insert nat_list_cmp_total docs p.0 p.1 key ∙ ap (λ b. cond b (Some p.1) (get docs key)) (tie p.0 key) ∙ at (bytes_eq p.0 key)
  where
    at : (b : Bool) → cond b (Some p.1) (get docs key) ≡ option_or (cond b (Some p.1) None) (get docs key)
    at true = refl
    at false = refl

pub get_laid : (docs : Docs) (items : List Item) (key : List ℕ) → get (laid_on docs items) key ≡ option_or (last_of key items) (get docs key)
get_laid docs [] key = refl
get_laid docs (p ∷ items) key =
    get_laid (insert docs p.0 p.1) items key
    ∙ ap (λ (o : Option Doc). option_or (last_of key items) o) (get_put docs p key)
    ∙ sym (or_assoc (last_of key items) (cond (bytes_eq p.0 key) (Some p.1) None) (get docs key))

-- a key that no event puts keeps its document
step_other : (w : World) (event : EventData) (key : List ℕ) → last_of key (option_to_list (mutation_of w event)) ≡ None → get (step w event).docs key ≡ get w.docs key
step_other w event key none = at w (step w event) (mutation_of w event) (step_is_put w event) none
  where
    at : (v w : World) (p : Option Item) → IsPut v w p → last_of key (option_to_list p) ≡ None → get w.docs key ≡ get v.docs key
    at v w None put none = ap (λ (d : Docs). get d key) put.docs
    at v w (Some p) put none = ap (λ (d : Docs). get d key) put.0 ∙ get_put v.docs p key ∙ ap (λ (o : Option Doc). option_or o (get v.docs key)) none

still : (w : World) (events : List EventData) (number : ℕ) (key : List ℕ) → last_of key (mutations w events) ≡ None → get (upto w events number).docs key ≡ get w.docs key
still w [] number key none = refl
still w (event ∷ events) number key none =
    let both = sym (last_append key (option_to_list (mutation_of w event)) (mutations (step w event) events)) ∙ none in
    elim (w.high == number) as (λ b. get (cond b w (upto (step w event) events number)).docs key ≡ get w.docs key) [
      | true ↦ refl
      | false ↦ still (step w event) events number key (or_first _ _ both) ∙ step_other w event key (or_second (last_of key (mutations (step w event) events)) _ both)
    ]

unchanged : (w : World) (events : List EventData) (number stored : ℕ) (key : List ℕ) → w.high ≤ number → number ≤ stored → last_of key (above number (mutations w events)) ≡ None
    → get (upto w events stored).docs key ≡ get (upto w events number).docs key
unchanged w [] number stored key low more none = refl
unchanged w (event ∷ events) number stored key low more none =
    elim (w.high == number) as (λ b. w.high == number ≡ b → get (upto w (event ∷ events) stored).docs key ≡ get (cond b w (upto (step w event) events number)).docs key) [
      | true ↦ λ is.
          let e = (Decides-eqb w.high number).0 is in
          still w (event ∷ events) stored key (ap (λ (l : List Item). last_of key l) (sym (above_all number w (event ∷ events) (omega arith))) ∙ none)
      | false ↦ λ is.
          let differ : w.high ≢ number = λ e. let t = (Decides-eqb w.high number).1 e in cc in
          let other : (w.high == stored) ≡ false = (let h : w.high ≢ stored = (λ e. differ (omega arith)) in grind (arith, nat_tests)) in
          let later : (step w event).high ≤ number = (let h = (step_rises w event).top in omega arith) in
          let split = filter-append (λ (p : Item). nat_lt number p.1.seqno) (option_to_list (mutation_of w event)) (mutations (step w event) events) in
          let both = sym (last_append key (above number (option_to_list (mutation_of w event))) (above number (mutations (step w event) events))) ∙ ap (λ (l : List Item). last_of key l) (sym split) ∙ none in
          ap (λ b. get (cond b w (upto (step w event) events stored)).docs key) other
          ∙ unchanged (step w event) events number stored key later more (or_first _ _ both)
    ] refl

pub batch_law : BatchLaw
batch_law f number stored items reached more top batch =
    let puts : List Item = above number (mutations (begun f) f.events) in
    same_map nat_list_cmp_total (slice_cmp-IsAntisymmetric nat_cmp-IsAntisymmetric) (laid_on (upto (begun f) f.events stored).docs items) (world_of f).docs (λ key.
    get_laid (upto (begun f) f.events stored).docs items key
    ∙ ap (λ (o : Option Doc). option_or o (get (upto (begun f) f.events stored).docs key)) (batch key)
    ∙ at key (last_of key (above number (mutations (begun f) f.events))) refl
    ∙ sym (get_laid (upto (begun f) f.events number).docs (above number (mutations (begun f) f.events)) key)
    ∙ ap (λ (d : Docs). get d key) (laid_above (begun f) f.events number reached.low reached.top))
  where
    at : (key : List ℕ) (o : Option Doc) → last_of key (above number (mutations (begun f) f.events)) ≡ o
        → option_or (last_of key (above number (mutations (begun f) f.events))) (get (upto (begun f) f.events stored).docs key)
        ≡ option_or (last_of key (above number (mutations (begun f) f.events))) (get (upto (begun f) f.events number).docs key)
    at key (Some doc) is = ap (λ (o : Option Doc). option_or o (get (upto (begun f) f.events stored).docs key)) is ∙ sym (ap (λ (o : Option Doc). option_or o (get (upto (begun f) f.events number).docs key)) is)
    at key None is = ap (λ (o : Option Doc). option_or (last_of key (above number (mutations (begun f) f.events))) o) (unchanged (begun f) f.events number stored key reached.low more is)

-- numbers of documents
within_step : (w : World) (event : EventData) → HasNumbersWithin w → HasNumbersWithin (step w event)
within_step w event h = at w (step w event) (mutation_of w event) (mutation_is_next w event) (step_is_put w event) h
  where
    at : (v w : World) (p : Option Item) → IsNextPut v p → IsPut v w p → HasNumbersWithin v → HasNumbersWithin w
    at v w None next put h = λ key doc found.
        let t = h key doc (sym (ap (λ (d : Docs). get d key) put.docs) ∙ found) in
        let a = put.high in let b = put.maxcas in let x = t.0 in let y = t.1 in (omega arith, omega arith)
    at v w (Some p) next put h = λ key doc found.
        let found' : option_or (cond (bytes_eq p.0 key) (Some p.1) None) (get v.docs key) ≡ Some doc = sym (ap (λ (d : Docs). get d key) put.0 ∙ get_put v.docs p key) ∙ found in
        elim (bytes_eq p.0 key) as (λ b. option_or (cond b (Some p.1) None) (get v.docs key) ≡ Some doc → (doc.seqno ≤ w.high) × (doc.cas ≤ w.maxcas)) [
          | true ↦ λ e.
              let same : p.1 ≡ doc = cc in
              let s = ap (λ (d : Doc). d.seqno) same in let t = ap (λ (d : Doc). d.cas) same in
              let a = put.1 in let b = put.2 in (omega arith, omega arith)
          | false ↦ λ e.
              let t = h key doc e in
              let a = put.1 in let b = put.2 in let n = next.0 in let m = next.1 in let x = t.0 in let y = t.1 in (omega arith, omega arith)
        ] found'

within_after : (w : World) (events : List EventData) → HasNumbersWithin w → HasNumbersWithin (after w events)
within_after w [] h = h
within_after w (event ∷ events) h = within_after (step w event) events (within_step w event h)

pub numbers_stay_within : NumbersStayWithin
numbers_stay_within f h = within_after (begun f) f.events h

-- what others leave of the desk
persisted_apply : (w : World) (effect : Effect) → (apply w effect).persisted ≡ w.persisted
persisted_apply w Nothing = refl
persisted_apply w (Puts key doc) = refl
persisted_apply w (Sets state) = refl

persisted_same : (w : World) (event : EventData) → is_desks event ≡ false → (step w event).persisted ≡ w.persisted
unfolding is_desks
persisted_same w (Called caller call now reply value) test = persisted_apply w (call_effect w call now reply)
persisted_same w (Refused caller call now cause) test = refl
persisted_same w (Expired key now) test = refl
persisted_same w (Persisted number) test = absurd (cc)
persisted_same w (Marked stripe number) test = refl
persisted_same w (Asked ticket caller call) test = refl
persisted_same w (ReadFailed ticket fault) test = absurd (cc)
persisted_same w Opened test = absurd (cc)

no_fault_same : (fault : ℕ) (event : EventData) → is_desks event ≡ false → IsNoFault fault event
unfolding is_desks
no_fault_same fault (Called caller call now reply value) test = tt
no_fault_same fault (Refused caller call now cause) test = tt
no_fault_same fault (Expired key now) test = tt
no_fault_same fault (Persisted number) test = tt
no_fault_same fault (Marked stripe number) test = tt
no_fault_same fault (Asked ticket caller call) test = tt
no_fault_same fault (ReadFailed ticket other) test = absurd (cc)
no_fault_same fault Opened test = tt

pub others_leave_desk : OthersLeaveDesk
others_leave_desk f event test = record {
  stored = ap (λ (w : World). w.persisted) (world_step f event) ∙ persisted_same (world_of f) event test;
  at_number = λ number reached. upto_append (begun f) f.events (event ∷ []) number reached.low reached.top;
  reached = λ number reached. record {
    low = reached.low;
    top = let a = (step_rises (world_of f) event).low in let e = ap (λ (w : World). w.high) (world_step f event) in let h = reached.top in omega arith;
  };
  no_fault = λ fault. no_fault_same fault event test;
}
