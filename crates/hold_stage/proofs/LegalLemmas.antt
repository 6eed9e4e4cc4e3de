-- An event that is legal behind a front is legal behind a longer history too, where nothing in between touched what it
-- touches.
use Rattle.std.proofs.Common.{◌≡◌, ◌<◌, ℕ, Bool, true, false, List, [], ◌∷◌, ◌++◌, refl, sym, ap, subst, ◌∙◌, arith, append_assoc}
use Rattle.std.specs.Prelude.{Option, Some, None, ◌==◌, nat_lt}
use Rattle.std.specs.List.{AllByRecursion}
use Rattle.std.specs.FinMap.{get}
use Rattle.std.proofs.lemmas.Bool.Decides.{Decides-eqb, nat_tests}
use Rattle.ep_model.specs.declared.event.PartName.{PartName}
use Rattle.ep_model.specs.declared.event.PartName.TheVariants.{Stripe, Queue, Desk}
use Rattle.ep_model.specs.declared.event.Cause.{Cause}
use Rattle.ep_model.specs.declared.event.Cause.TheVariants as causes
use Rattle.ep_model.specs.declared.event.Ticket.{Ticket}
use Rattle.ep_model.specs.declared.data.CallData.{CallData}
use Rattle.ep_model.specs.declared.data.CallData.TheVariants as calls
use Rattle.ep_model.specs.declared.data.EventData.{EventData}
use Rattle.ep_model.specs.declared.data.EventData.TheVariants.{Called, Refused, Expired, Persisted, Marked, Asked, ReadFailed, Opened}
use Rattle.ep_model.specs.declared.data.FrontData.{FrontData}
use Rattle.ep_model.specs.World.{Doc}
use Rattle.ep_model.specs.Stripes.{stripe_of}
use Rattle.ep_model.specs.Answer.{Answer, answer}
use Rattle.ep_model.specs.Calls.{key_of}
use Rattle.ep_model.specs.Front.{world_of, with_event, with_events, marked}
use Rattle.ep_model.specs.Legal.{IsSilent, IsUnused, IsBelow, IsNoFault, WaitsAt, Caused, IsAway, May, AreLegal, IsLegal}
use Rattle.ep_model.proofs.HistoryLemmas.{legal-push, legal-front}
use Rattle.hold_stage.specs.Touches.{touches_call, touches, is_of, is_call}
use Rattle.hold_stage.specs.Grows.{Quiet}
use Rattle.hold_stage.specs.Laws.{LegalLater}
use Rattle.hold_stage.proofs.CallerLemmas.{same_is}
use Rattle.hold_stage.proofs.ViewLemmas.{SameStripe, SameQueue, or_true_left, touches_keyed}
use Rattle.hold_stage.proofs.QuotaLemmas.{short_later}
use Rattle.hold_stage.proofs.AnswerLemmas.{get_same, keyed_same, unkeyed_same}
use Rattle.hold_stage.proofs.LaterLemmas.{all_append, quiet_stripe, quiet_queue, same_frame, quiet_mark, quiet_below, quiet_no_fault, quiet_silent, persisted_later, opened_later}

-- a key's stripe is one that there is
pub key_there : (key : List ℕ) (stripes : ℕ) → 0 < stripes → nat_lt (stripe_of key stripes) stripes ≡ true
unfolding stripe_of
key_there key stripes some = let h : stripe_of key stripes < stripes = omega arith in grind (arith, nat_tests)

pub all_front : {A : Type 0} (P : A → Type 0) (xs ys : List A) → AllByRecursion P (xs ++ ys) → AllByRecursion P xs
all_front P [] ys h = tt
all_front P (x ∷ xs) ys h = (h.0, all_front P xs ys h.1)

pub all_last : {A : Type 0} (P : A → Type 0) (xs : List A) (x : A) → AllByRecursion P (xs ++ x ∷ []) → P x
all_last P [] x h = h.0
all_last P (y ∷ xs) x h = all_last P xs x h.1

-- a ticket that is asked later is above every one before
pub asked_below : (f : FrontData) (ticket : Ticket) (caller : ℕ) (call : CallData) (before later : List EventData)
    → AreLegal f (before ++ Asked ticket caller call ∷ later) → AllByRecursion (IsBelow ticket) f.events
unfolding AreLegal May
asked_below f ticket caller call [] later legal = legal.0.above
asked_below f ticket caller call (event ∷ before) later legal =
    all_front (IsBelow ticket) f.events (event ∷ []) (asked_below (with_event f event) ticket caller call before later legal.1)

pub not_below : (ticket : Ticket) (caller : ℕ) (call : CallData) (event : EventData) → event ≡ Asked ticket caller call → IsBelow ticket event → ⊥
not_below ticket caller call event is h = let below : ticket.number < ticket.number = subst (λ (e : EventData). IsBelow ticket e) is h refl in absurd (omega arith)

-- two calls don't ask at one ticket
asked_once : (f : FrontData) (ticket : Ticket) (b c : ℕ) (x y : CallData) (before other later rest : List EventData)
    → AreLegal f (before ++ Asked ticket b x ∷ later) → before ++ Asked ticket b x ∷ later ≡ other ++ Asked ticket c y ∷ rest → (b ≡ c) × (x ≡ y)
unfolding AreLegal
asked_once f ticket b c x y [] [] later rest legal same = ((let e : b ≡ c = cc in e), (let e : x ≡ y = cc in e))
asked_once f ticket b c x y [] (e ∷ other) later rest legal same =
    let tail : later ≡ other ++ Asked ticket c y ∷ rest = cc in
    let all = asked_below (with_event f (Asked ticket b x)) ticket c y other rest (subst (λ (l : List EventData). AreLegal (with_event f (Asked ticket b x)) l) tail legal.1) in
    absurd (not_below ticket b x (Asked ticket b x) refl (all_last (IsBelow ticket) f.events (Asked ticket b x) all))
asked_once f ticket b c x y (e ∷ before) [] later rest legal same =
    let head : e ≡ Asked ticket c y = cc in
    let all = asked_below (with_event f e) ticket b x before later legal.1 in
    absurd (not_below ticket c y e head (all_last (IsBelow ticket) f.events e all))
asked_once f ticket b c x y (e ∷ before) (d ∷ other) later rest legal same =
    let tail : before ++ Asked ticket b x ∷ later ≡ other ++ Asked ticket c y ∷ rest = cc in
    asked_once (with_event f e) ticket b c x y before other later rest legal.1 tail

-- at a ticket of a legal history one caller asked, with one call
pub one_asker : (f : FrontData) (ticket : Ticket) (b c : ℕ) (x y : CallData) (before other later rest : List EventData) → IsLegal f
    → f.events ≡ before ++ Asked ticket b x ∷ later → f.events ≡ other ++ Asked ticket c y ∷ rest → (b ≡ c) × (x ≡ y)
unfolding IsLegal
one_asker f ticket b c x y before other later rest legal p q =
    asked_once (record f { events = [] }) ticket b c x y before other later rest (subst (λ (l : List EventData). AreLegal (record f { events = [] }) l) p legal) (sym p ∙ q)

-- a list that has an element still has it with one more behind
pub has_more : (xs before later : List EventData) (x y : EventData) → xs ≡ before ++ x ∷ later → xs ++ y ∷ [] ≡ before ++ x ∷ (later ++ y ∷ [])
has_more xs before later x y is = ap (λ (l : List EventData). l ++ y ∷ []) is ∙ append_assoc before (x ∷ later) (y ∷ [])

pub has_more_all : (xs before later more : List EventData) (x : EventData) → xs ≡ before ++ x ∷ later → xs ++ more ≡ before ++ x ∷ (later ++ more)
has_more_all xs before later more x is = ap (λ (l : List EventData). l ++ more) is ∙ append_assoc before (x ∷ later) more

-- while a caller waits nobody else is refused for what became of its ticket
event_unused : (f : FrontData) (ticket : Ticket) (caller : ℕ) (call : CallData) (before later : List EventData) (event : EventData) → IsLegal f
    → f.events ≡ before ++ Asked ticket caller call ∷ later → May f event → is_of caller event ≡ false → IsUnused ticket event
unfolding May is_of
event_unused f ticket caller call before later (Called other x now reply value) legal asked may differs = tt
event_unused f ticket caller call before later (Refused other x now cause) legal asked may differs = (
  λ is.
      let c = subst (λ (k : Cause). Caused f other x now k) is may in
      let e = (one_asker f ticket caller other call x before c.waits.before later c.waits.later legal asked c.waits.asked).0 in
      let t : (other == caller) ≡ true = subst (λ n. (n == caller) ≡ true) e (same_is caller) in
      cc,
  λ is.
      let c = subst (λ (k : Cause). Caused f other x now k) is may in
      let e = (one_asker f ticket caller other call x before c.waits.before later c.waits.later legal asked c.waits.asked).0 in
      let t : (other == caller) ≡ true = subst (λ n. (n == caller) ≡ true) e (same_is caller) in
      cc,
)
event_unused f ticket caller call before later (Expired key now) legal asked may differs = tt
event_unused f ticket caller call before later (Persisted number) legal asked may differs = tt
event_unused f ticket caller call before later (Marked stripe number) legal asked may differs = tt
event_unused f ticket caller call before later (Asked other c x) legal asked may differs = tt
event_unused f ticket caller call before later (ReadFailed other fault) legal asked may differs = tt
event_unused f ticket caller call before later Opened legal asked may differs = tt

unused_later : (f : FrontData) (ticket : Ticket) (caller : ℕ) (call : CallData) (before later : List EventData) (held : PartName → Bool) (desk : Bool) (more : List EventData) → IsLegal f → AreLegal f more
    → f.events ≡ before ++ Asked ticket caller call ∷ later → Quiet f held caller desk more → AllByRecursion (IsUnused ticket) more
unfolding AreLegal
unused_later f ticket caller call before later held desk [] legal more-legal asked quiet = tt
unused_later f ticket caller call before later held desk (event ∷ more) legal more-legal asked quiet = (
  event_unused f ticket caller call before later event legal asked more-legal.0 quiet.0.others,
  unused_later (with_event f event) ticket caller call before (later ++ event ∷ []) held desk more (legal-push f event legal more-legal.0) more-legal.1
      (has_more f.events before later (Asked ticket caller call) event asked) quiet.1,
)

waits_later : (f : FrontData) (ticket : Ticket) (caller : ℕ) (call : CallData) (held : PartName → Bool) (desk : Bool) (more : List EventData) → IsLegal f → AreLegal f more
    → Quiet f held caller desk more → WaitsAt f.events ticket caller call → WaitsAt (f.events ++ more) ticket caller call
waits_later f ticket caller call held desk more legal more-legal quiet w = record {
  before = w.before;
  later = w.later ++ more;
  asked = has_more_all f.events w.before w.later more (Asked ticket caller call) w.asked;
  silent = all_append (IsSilent caller) w.later more w.silent (quiet_silent f held caller desk more quiet);
  unused = all_append (IsUnused ticket) f.events more w.unused (unused_later f ticket caller call w.before w.later held desk more legal more-legal w.asked quiet);
}

-- what an event needs to know of the parts that it touches
module _ (f : FrontData) (held : PartName → Bool) (caller : ℕ) (desk : Bool) (more : List EventData) (some : 0 < f.config.stripes) (quiet : Quiet f held caller desk more) where
  at_stripe : (key : List ℕ) → held (Stripe (stripe_of key f.config.stripes)) ≡ true → SameStripe f.config.stripes (stripe_of key f.config.stripes) (world_of f) (world_of (with_events f more))
  at_stripe key has = quiet_stripe f (stripe_of key f.config.stripes) held caller desk more (key_there key f.config.stripes some) has quiet

  at_queue : held Queue ≡ true → SameQueue (world_of f) (world_of (with_events f more))
  at_queue has = quiet_queue f held caller desk more has quiet

  -- whether calls are served is the same
  serving_later : (call : CallData) → ((p : PartName) → touches_call f.config call p ≡ true → held p ≡ true) → ((world_of (with_events f more)).state ≡ (world_of f).state) × ((world_of (with_events f more)).opened ≡ (world_of f).opened)
  serving_later (calls.Get key) covers = let s = at_stripe key (covers (Stripe (stripe_of key f.config.stripes)) (same_is (stripe_of key f.config.stripes))) in (s.state, s.opened)
  serving_later (calls.Store kind key value flags expiration cas) covers = let q = at_queue (covers Queue refl) in (q.state, q.opened)
  serving_later (calls.Join front key value cas) covers = let q = at_queue (covers Queue refl) in (q.state, q.opened)
  serving_later (calls.Count down key delta initial expiration cas) covers = let q = at_queue (covers Queue refl) in (q.state, q.opened)
  serving_later (calls.Delete key cas) covers = let q = at_queue (covers Queue refl) in (q.state, q.opened)
  serving_later (calls.Touch key expiration fetch) covers = let q = at_queue (covers Queue refl) in (q.state, q.opened)
  serving_later (calls.Observe uuid) covers = let q = at_queue (covers Queue refl) in (q.state, q.opened)
  serving_later calls.Failovers covers = let q = at_queue (covers Queue refl) in (q.state, q.opened)
  serving_later (calls.SetState state) covers = let q = at_queue (covers Queue refl) in (q.state, q.opened)
  serving_later calls.GetState covers = let q = at_queue (covers Queue refl) in (q.state, q.opened)

  keyed_later : (call : CallData) (now : ℕ) (key : List ℕ) → key_of call ≡ Some key → held (Stripe (stripe_of key f.config.stripes)) ≡ true → held Queue ≡ true
      → answer (world_of (with_events f more)) call now ≡ answer (world_of f) call now
  keyed_later call now key is stripe queue =
      keyed_same (world_of f) (world_of (with_events f more)) call now key is ((at_stripe key stripe).docs key refl) (at_queue queue) (same_frame f more)

  unkeyed_later : (call : CallData) (now : ℕ) → key_of call ≡ None → held Queue ≡ true → answer (world_of (with_events f more)) call now ≡ answer (world_of f) call now
  unkeyed_later call now is queue = unkeyed_same (world_of f) (world_of (with_events f more)) call now is (at_queue queue) (same_frame f more)

  -- and so is the answer of a call
  answer_later : (call : CallData) (now : ℕ) → ((p : PartName) → touches_call f.config call p ≡ true → held p ≡ true) → answer (world_of (with_events f more)) call now ≡ answer (world_of f) call now
  answer_later (calls.Get key) now covers =
      let s = at_stripe key (covers (Stripe (stripe_of key f.config.stripes)) (same_is (stripe_of key f.config.stripes))) in
      get_same (world_of f) (world_of (with_events f more)) key now (s.docs key refl) s.state
  answer_later (calls.Store kind key value flags expiration cas) now covers =
      keyed_later (calls.Store kind key value flags expiration cas) now key refl (covers (Stripe (stripe_of key f.config.stripes)) (or_true_left _ _ (same_is (stripe_of key f.config.stripes)))) (covers Queue refl)
  answer_later (calls.Join front key value cas) now covers =
      keyed_later (calls.Join front key value cas) now key refl (covers (Stripe (stripe_of key f.config.stripes)) (or_true_left _ _ (same_is (stripe_of key f.config.stripes)))) (covers Queue refl)
  answer_later (calls.Count down key delta initial expiration cas) now covers =
      keyed_later (calls.Count down key delta initial expiration cas) now key refl (covers (Stripe (stripe_of key f.config.stripes)) (or_true_left _ _ (same_is (stripe_of key f.config.stripes)))) (covers Queue refl)
  answer_later (calls.Delete key cas) now covers =
      keyed_later (calls.Delete key cas) now key refl (covers (Stripe (stripe_of key f.config.stripes)) (or_true_left _ _ (same_is (stripe_of key f.config.stripes)))) (covers Queue refl)
  answer_later (calls.Touch key expiration fetch) now covers =
      keyed_later (calls.Touch key expiration fetch) now key refl (covers (Stripe (stripe_of key f.config.stripes)) (or_true_left _ _ (same_is (stripe_of key f.config.stripes)))) (covers Queue refl)
  answer_later (calls.Observe uuid) now covers = unkeyed_later (calls.Observe uuid) now refl (covers Queue refl)
  answer_later calls.Failovers now covers = unkeyed_later calls.Failovers now refl (covers Queue refl)
  answer_later (calls.SetState state) now covers = unkeyed_later (calls.SetState state) now refl (covers Queue refl)
  answer_later calls.GetState now covers = unkeyed_later calls.GetState now refl (covers Queue refl)

cause_later : (f : FrontData) (held : PartName → Bool) (caller : ℕ) (desk : Bool) (more : List EventData) → 0 < f.config.stripes → IsLegal f → AreLegal f more → Quiet f held caller desk more
    → (call : CallData) (now : ℕ) (cause : Cause) → ((p : PartName) → touches_call f.config call p ≡ true → held p ≡ true) → Caused f caller call now cause → Caused (with_events f more) caller call now cause
cause_later f held caller desk more some legal more-legal quiet call now causes.Quota covers c =
    let s = serving_later f held caller desk more some quiet call covers in
    let has = covers (Stripe (stripe_of c.key f.config.stripes)) (touches_keyed f.config call c.key c.keyed) in
    record {
      serving = record { opened = s.1 ∙ c.serving.opened; active = s.0 ∙ c.serving.active };
      key = c.key;
      keyed = c.keyed;
      short = λ told.
          short_later f held caller desk more quiet c.key call now has covers (at_stripe f held caller desk more some quiet c.key has) (answer_later f held caller desk more some quiet call now covers)
          ∙ c.short (sym (same_frame f more).told ∙ told);
    }
cause_later f held caller desk more some legal more-legal quiet call now causes.Warming covers c = (serving_later f held caller desk more some quiet call covers).1 ∙ c
cause_later f held caller desk more some legal more-legal quiet call now (causes.Store ticket) covers c =
    let s = serving_later f held caller desk more some quiet call covers in
    record {
      serving = record { opened = s.1 ∙ c.serving.opened; active = s.0 ∙ c.serving.active };
      keyed = c.keyed;
      waits = waits_later f ticket caller call held desk more legal more-legal quiet c.waits;
      fault = c.fault;
      failed = record { before = c.failed.before; later = c.failed.later ++ more; failed = has_more_all f.events c.failed.before c.failed.later more (ReadFailed ticket c.fault) c.failed.failed };
    }
cause_later f held caller desk more some legal more-legal quiet call now (causes.Memory ticket) covers c =
    let s = serving_later f held caller desk more some quiet call covers in
    record {
      serving = record { opened = s.1 ∙ c.serving.opened; active = s.0 ∙ c.serving.active };
      keyed = c.keyed;
      waits = waits_later f ticket caller call held desk more legal more-legal quiet c.waits;
    }

pub legal_later : LegalLater
unfolding May touches is_of is_call
legal_later f (Called other call now reply value) held caller desk more some legal may covered own quiet =
    let same = answer_later f held caller desk more some quiet call now covered in
    record {
      opened = (serving_later f held caller desk more some quiet call covered).1 ∙ may.opened;
      reply_is = λ told. may.reply_is (sym (same_frame f more).told ∙ told) ∙ ap (λ (a : Answer). a.reply) (sym same);
      value_is = λ told. may.value_is (sym (same_frame f more).told ∙ told) ∙ ap (λ (a : Answer). a.value) (sym same);
    }
legal_later f (Refused other call now cause) held caller desk more some legal may covered own quiet =
    let l = legal-front f more legal in
    let e : other ≡ caller = (Decides-eqb other caller).0 (own refl) in
    subst (λ n. Caused (with_events f more) n call now cause) (sym e)
    (cause_later f held caller desk more some l.0 l.1 quiet call now cause covered (subst (λ n. Caused f n call now cause) e may))
legal_later f (Expired key now) held caller desk more some legal may covered own quiet =
    let s = at_stripe f held caller desk more some quiet key (covered (Stripe (stripe_of key f.config.stripes)) (or_true_left _ _ (same_is (stripe_of key f.config.stripes)))) in
    let q = at_queue f held caller desk more some quiet (covered Queue refl) in
    record {
      serving = record { opened = q.opened ∙ may.serving.opened; active = q.state ∙ may.serving.active };
      room = let h = may.room in let e = q.high in omega arith;
      expired = λ told.
          let x = may.expired (sym (same_frame f more).told ∙ told) in
          record { doc = x.doc; found = s.docs key refl ∙ x.found; stands = x.stands; ends = x.ends; past = x.past };
    }
legal_later f (Persisted number) held caller desk more some legal may covered own quiet =
    let q = at_queue f held caller desk more some quiet (covered Queue refl) in
    record {
      opened = q.opened ∙ may.opened;
      above = let h = may.above in let e = q.persisted in omega arith;
      within = let h = may.within in let e = q.high in omega arith;
    }
legal_later f (Marked stripe number) held caller desk more some legal may covered own quiet =
    let l = legal-front f more legal in
    record {
      opened = opened_later f more may.opened;
      above = let h = may.above in let e = quiet_mark f stripe held caller desk more (covered (Stripe stripe) (same_is stripe)) quiet in omega arith;
      stored = let h = may.stored in let e = persisted_later f more l.1 in omega arith;
    }
legal_later f (Asked ticket other call) held caller desk more some legal may covered own quiet =
    let has = covered (Stripe ticket.stripe) (same_is ticket.stripe) in
    let s = at_stripe f held caller desk more some quiet may.key (subst (λ n. held (Stripe n) ≡ true) may.here has) in
    record {
      serving = record { opened = s.opened ∙ may.serving.opened; active = s.state ∙ may.serving.active };
      needed = may.needed;
      key = may.key;
      keyed = may.keyed;
      here = may.here;
      above = all_append (IsBelow ticket) f.events more may.above (quiet_below f ticket held caller desk more has quiet);
      away = λ told.
          let away = may.away (sym (same_frame f more).told ∙ told) in
          subst (λ (o : Option Doc). IsAway f.config.eviction (marked (with_events f more) ticket.stripe) o) (sym (s.docs may.key refl))
          (subst (λ m. IsAway f.config.eviction m (get (world_of f).docs may.key)) (sym (quiet_mark f ticket.stripe held caller desk more has quiet)) away);
    }
legal_later f (ReadFailed ticket fault) held caller desk more some legal may covered own quiet = record {
  asked = record { before = may.asked.before; later = may.asked.later ++ more; caller = may.asked.caller; call = may.asked.call; asked = has_more_all f.events may.asked.before may.asked.later more (Asked ticket may.asked.caller may.asked.call) may.asked.asked };
  once = all_append (IsNoFault fault) f.events more may.once (quiet_no_fault f fault held caller desk more (covered Desk refl) quiet);
}
legal_later f Opened held caller desk more some legal may covered own quiet = record {
  put = may.put;
  unopened = (at_queue f held caller desk more some quiet (covered Queue refl)).opened ∙ may.unopened;
}
