-- What of a world the events leave that don't touch a part of it.
use Rattle.std.proofs.Common.{◌≡◌, ◌≢◌, ℕ, Bool, true, false, cond, List, [], ◌∷◌, refl, sym, ap, subst, ◌∙◌, arith}
use Rattle.std.specs.Prelude.{Some, None, ◌==◌, ◌||◌, nat_lt}
use Rattle.std.specs.FinMap.{get}
use Rattle.std.proofs.lemmas.Bool.Decides.{Decides-eqb, nat_tests}
use Rattle.ep_model.specs.declared.event.PartName.{PartName}
use Rattle.ep_model.specs.declared.event.PartName.TheVariants.{Stripe, Queue}
use Rattle.ep_model.specs.declared.call.Reply.{Reply}
use Rattle.ep_model.specs.declared.event.Ticket.{Ticket}
use Rattle.ep_model.specs.declared.config.Config.{Config}
use Rattle.ep_model.specs.declared.data.CallData.{CallData}
use Rattle.ep_model.specs.declared.data.CallData.TheVariants as calls
use Rattle.ep_model.specs.declared.data.EventData.{EventData}
use Rattle.ep_model.specs.declared.data.EventData.TheVariants.{Called, Refused, Expired, Persisted, Marked, Asked, ReadFailed, Opened}
use Rattle.ep_model.specs.declared.data.FrontData.{FrontData}
use Rattle.ep_model.specs.World.{World, tombstone}
use Rattle.ep_model.specs.Stripes.{stripe_of}
use Rattle.ep_model.specs.Answer.{Effect, Nothing, Puts, Sets, apply}
use Rattle.ep_model.specs.History.{call_effect, step, after}
use Rattle.ep_model.specs.Calls.{key_of, written_key}
use Rattle.ep_model.specs.Mutations.{put_by, mutation_of}
use Rattle.ep_model.specs.Front.{mark_after}
use Rattle.ep_model.specs.Legal.{IsBelow}
use Rattle.ep_model.proofs.ReadBackLemmas.{get-put_other}
use Rattle.ep_model.proofs.EffectLemmas.{IsDone, call_done}
use Rattle.hold_stage.specs.Touches.{is_queue, holds_key, touches_call, touches}

-- the one world has of a stripe what the other has
pub record SameStripe (stripes stripe : ℕ) (v w : World) : Type 0 where
  pub docs : (key : List ℕ) → stripe_of key stripes ≡ stripe → get w.docs key ≡ get v.docs key
  pub state : w.state ≡ v.state
  pub opened : w.opened ≡ v.opened

-- and of the queue
pub record SameQueue (v w : World) : Type 0 where
  pub high : w.high ≡ v.high
  pub maxcas : w.maxcas ≡ v.maxcas
  pub persisted : w.persisted ≡ v.persisted
  pub state : w.state ≡ v.state
  pub opened : w.opened ≡ v.opened

-- what no event changes
pub record SameFrame (v w : World) : Type 0 where
  pub id : w.id ≡ v.id
  pub told : w.told ≡ v.told
  pub stripes : w.stripes ≡ v.stripes
  pub eviction : w.eviction ≡ v.eviction
  pub fit : w.fit ≡ v.fit
  pub failovers : w.failovers ≡ v.failovers

pub stripe_refl : (stripes stripe : ℕ) (w : World) → SameStripe stripes stripe w w
stripe_refl stripes stripe w = record { docs = λ key is. refl; state = refl; opened = refl }

pub stripe_then : (stripes stripe : ℕ) (u v w : World) → SameStripe stripes stripe u v → SameStripe stripes stripe v w → SameStripe stripes stripe u w
stripe_then stripes stripe u v w p q = record { docs = λ key is. q.docs key is ∙ p.docs key is; state = q.state ∙ p.state; opened = q.opened ∙ p.opened }

pub queue_refl : (w : World) → SameQueue w w
queue_refl w = record { high = refl; maxcas = refl; persisted = refl; state = refl; opened = refl }

pub queue_then : (u v w : World) → SameQueue u v → SameQueue v w → SameQueue u w
queue_then u v w p q = record { high = q.high ∙ p.high; maxcas = q.maxcas ∙ p.maxcas; persisted = q.persisted ∙ p.persisted; state = q.state ∙ p.state; opened = q.opened ∙ p.opened }

pub frame_then : (u v w : World) → SameFrame u v → SameFrame v w → SameFrame u w
frame_then u v w p q = record { id = q.id ∙ p.id; told = q.told ∙ p.told; stripes = q.stripes ∙ p.stripes; eviction = q.eviction ∙ p.eviction; fit = q.fit ∙ p.fit; failovers = q.failovers ∙ p.failovers }

frame_refl : (w : World) → SameFrame w w
frame_refl w = record { id = refl; told = refl; stripes = refl; eviction = refl; fit = refl; failovers = refl }

frame_apply : (w : World) (effect : Effect) → SameFrame w (apply w effect)
frame_apply w Nothing = frame_refl w
frame_apply w (Puts key doc) = record { id = refl; told = refl; stripes = refl; eviction = refl; fit = refl; failovers = refl }
frame_apply w (Sets state) = record { id = refl; told = refl; stripes = refl; eviction = refl; fit = refl; failovers = refl }

pub frame_step : (w : World) (event : EventData) → SameFrame w (step w event)
frame_step w (Called caller call now reply value) = frame_apply w (call_effect w call now reply)
frame_step w (Refused caller call now cause) = frame_refl w
frame_step w (Expired key now) = record { id = refl; told = refl; stripes = refl; eviction = refl; fit = refl; failovers = refl }
frame_step w (Persisted number) = record { id = refl; told = refl; stripes = refl; eviction = refl; fit = refl; failovers = refl }
frame_step w (Marked stripe number) = frame_refl w
frame_step w (Asked ticket caller call) = frame_refl w
frame_step w (ReadFailed ticket fault) = frame_refl w
frame_step w Opened = record { id = refl; told = refl; stripes = refl; eviction = refl; fit = refl; failovers = refl }

pub frame_after : (w : World) (events : List EventData) → SameFrame w (after w events)
frame_after w [] = frame_refl w
frame_after w (event ∷ events) = frame_then w (step w event) (after (step w event) events) (frame_step w event) (frame_after (step w event) events)

-- tests that fail, and parts of a test that does
pub not_same : (a b : ℕ) → (a == b) ≡ false → a ≢ b
not_same a b test is = absurd (let e = (Decides-eqb a b).1 is in cc)

pub or_left : (a b : Bool) → (a || b) ≡ false → a ≡ false
or_left true b h = absurd (cc)
or_left false b h = refl

pub or_right : (a b : Bool) → (a || b) ≡ false → b ≡ false
or_right true b h = absurd (cc)
or_right false b h = h

pub or_true_left : (a b : Bool) → a ≡ true → (a || b) ≡ true
or_true_left true b h = refl
or_true_left false b h = absurd (cc)

pub or_true_right : (a b : Bool) → b ≡ true → (a || b) ≡ true
or_true_right true b h = refl
or_true_right false b h = h

-- a call touches the stripe of the key that it writes, and the queue
pub written_touches : (config : Config) (call : CallData) (key : List ℕ) (p : PartName) → written_key call ≡ Some key → touches_call config call p ≡ (holds_key config key p || is_queue p)
written_touches config (calls.Get other) key p is = absurd (cc)
written_touches config (calls.Store kind other value flags expiration cas) key p is = let e : other ≡ key = cc in ap (λ (k : List ℕ). holds_key config k p || is_queue p) e
written_touches config (calls.Join front other value cas) key p is = let e : other ≡ key = cc in ap (λ (k : List ℕ). holds_key config k p || is_queue p) e
written_touches config (calls.Count down other delta initial expiration cas) key p is = let e : other ≡ key = cc in ap (λ (k : List ℕ). holds_key config k p || is_queue p) e
written_touches config (calls.Delete other cas) key p is = let e : other ≡ key = cc in ap (λ (k : List ℕ). holds_key config k p || is_queue p) e
written_touches config (calls.Touch other expiration fetch) key p is = let e : other ≡ key = cc in ap (λ (k : List ℕ). holds_key config k p || is_queue p) e
written_touches config (calls.Observe uuid) key p is = absurd (cc)
written_touches config calls.Failovers key p is = absurd (cc)
written_touches config (calls.SetState state) key p is = absurd (cc)
written_touches config calls.GetState key p is = absurd (cc)

-- so what a call does that doesn't touch a stripe leaves it
stripe_of_done : (config : Config) (stripe : ℕ) (w : World) (call : CallData) (now : ℕ) (effect : Effect) → nat_lt stripe config.stripes ≡ true → touches_call config call (Stripe stripe) ≡ false → IsDone w call now effect → SameStripe config.stripes stripe w (apply w effect)
stripe_of_done config stripe w call now Nothing there apart done = stripe_refl config.stripes stripe w
stripe_of_done config stripe w call now (Puts key doc) there apart done =
    let test : (stripe == stripe_of key config.stripes || false) ≡ false = sym (written_touches config call key (Stripe stripe) done.0) ∙ apart in
    let differs = not_same stripe (stripe_of key config.stripes) (or_left _ _ test) in
    record {
      docs = λ q is. get-put_other w key q doc (λ e. differs (sym is ∙ ap (λ (k : List ℕ). stripe_of k config.stripes) e));
      state = refl;
      opened = refl;
    }
stripe_of_done config stripe w call now (Sets state) there apart done =
    let test : (nat_lt stripe config.stripes || false) ≡ false = subst (λ (c : CallData). touches_call config c (Stripe stripe) ≡ false) done apart in
    absurd (let e = or_left (nat_lt stripe config.stripes) false test in cc)

queue_of_done : (config : Config) (w : World) (call : CallData) (now : ℕ) (effect : Effect) → touches_call config call Queue ≡ false → IsDone w call now effect → effect ≡ Nothing
queue_of_done config w call now Nothing apart done = refl
queue_of_done config w call now (Puts key doc) apart done = absurd (let t : touches_call config call Queue ≡ true = written_touches config call key Queue done.0 in cc)
queue_of_done config w call now (Sets state) apart done = absurd (let t : true ≡ false = subst (λ (c : CallData). touches_call config c Queue ≡ false) done apart in cc)

-- what a call does that doesn't touch the queue is nothing
pub call_apart : (config : Config) (w : World) (call : CallData) (now : ℕ) (reply : Reply) → touches_call config call Queue ≡ false → call_effect w call now reply ≡ Nothing
call_apart config w call now reply apart = queue_of_done config w call now (call_effect w call now reply) apart (call_done w call now reply)

queue_at_nothing : (w : World) (effect : Effect) → effect ≡ Nothing → SameQueue w (apply w effect)
queue_at_nothing w effect is = subst (λ (e : Effect). SameQueue w (apply w e)) (sym is) (queue_refl w)

-- an event that doesn't touch a stripe leaves it
pub step_stripe : (f : FrontData) (stripe : ℕ) (w : World) (event : EventData) → nat_lt stripe f.config.stripes ≡ true → touches f event (Stripe stripe) ≡ false → SameStripe f.config.stripes stripe w (step w event)
unfolding touches
step_stripe f stripe w (Called caller call now reply value) there apart = stripe_of_done f.config stripe w call now (call_effect w call now reply) there apart (call_done w call now reply)
step_stripe f stripe w (Refused caller call now cause) there apart = stripe_refl f.config.stripes stripe w
step_stripe f stripe w (Expired key now) there apart = record {
  docs = λ q is. get-put_other w key q (tombstone w now) (λ e. not_same stripe (stripe_of key f.config.stripes) (or_left _ _ apart) (sym is ∙ ap (λ (k : List ℕ). stripe_of k f.config.stripes) e));
  state = refl;
  opened = refl;
}
step_stripe f stripe w (Persisted number) there apart = record { docs = λ q is. refl; state = refl; opened = refl }
step_stripe f stripe w (Marked other number) there apart = stripe_refl f.config.stripes stripe w
step_stripe f stripe w (Asked ticket caller call) there apart = stripe_refl f.config.stripes stripe w
step_stripe f stripe w (ReadFailed ticket fault) there apart = stripe_refl f.config.stripes stripe w
step_stripe f stripe w Opened there apart = absurd (let e = or_left (nat_lt stripe f.config.stripes) false apart in cc)

-- an event that doesn't touch the queue leaves it
pub step_queue : (f : FrontData) (w : World) (event : EventData) → touches f event Queue ≡ false → SameQueue w (step w event)
unfolding touches
step_queue f w (Called caller call now reply value) apart = queue_at_nothing w _ (call_apart f.config w call now reply apart)
step_queue f w (Refused caller call now cause) apart = queue_refl w
step_queue f w (Expired key now) apart = absurd (cc)
step_queue f w (Persisted number) apart = absurd (cc)
step_queue f w (Marked other number) apart = queue_refl w
step_queue f w (Asked ticket caller call) apart = queue_refl w
step_queue f w (ReadFailed ticket fault) apart = queue_refl w
step_queue f w Opened apart = absurd (cc)

-- and puts no document
pub no_mutation : (f : FrontData) (w : World) (event : EventData) → touches f event Queue ≡ false → mutation_of w event ≡ None
unfolding touches
no_mutation f w (Called caller call now reply value) apart = ap put_by (call_apart f.config w call now reply apart)
no_mutation f w (Refused caller call now cause) apart = refl
no_mutation f w (Expired key now) apart = absurd (cc)
no_mutation f w (Persisted number) apart = refl
no_mutation f w (Marked stripe number) apart = refl
no_mutation f w (Asked ticket caller call) apart = refl
no_mutation f w (ReadFailed ticket fault) apart = refl
no_mutation f w Opened apart = refl

-- a test of two numbers, turned round
pub same_test : (a b : ℕ) → (a == b) ≡ (b == a)
same_test a b = grind (arith, nat_tests)

-- nor does one that doesn't touch a stripe mark it, or ask in it
pub step_mark : (f : FrontData) (stripe mark : ℕ) (event : EventData) → touches f event (Stripe stripe) ≡ false → mark_after stripe mark event ≡ mark
unfolding touches
step_mark f stripe mark (Called caller call now reply value) apart = refl
step_mark f stripe mark (Refused caller call now cause) apart = refl
step_mark f stripe mark (Expired key now) apart = refl
step_mark f stripe mark (Persisted number) apart = refl
step_mark f stripe mark (Marked other number) apart =
    ap (λ b. cond b number mark) (same_test other stripe ∙ apart)
step_mark f stripe mark (Asked ticket caller call) apart = refl
step_mark f stripe mark (ReadFailed ticket fault) apart = refl
step_mark f stripe mark Opened apart = refl

pub step_below : (f : FrontData) (ticket : Ticket) (event : EventData) → touches f event (Stripe ticket.stripe) ≡ false → IsBelow ticket event
unfolding touches
step_below f ticket (Called caller call now reply value) apart = tt
step_below f ticket (Refused caller call now cause) apart = tt
step_below f ticket (Expired key now) apart = tt
step_below f ticket (Persisted number) apart = tt
step_below f ticket (Marked other number) apart = tt
step_below f ticket (Asked other caller call) apart = λ is. absurd (not_same ticket.stripe other.stripe apart (sym is))
step_below f ticket (ReadFailed other fault) apart = tt
step_below f ticket Opened apart = tt

same_self : (n : ℕ) → (n == n) ≡ true
same_self n = (Decides-eqb n n).1 refl

-- a call on a key touches the key's stripe
pub touches_keyed : (config : Config) (call : CallData) (key : List ℕ) → key_of call ≡ Some key → touches_call config call (Stripe (stripe_of key config.stripes)) ≡ true
touches_keyed config (calls.Get other) key is = let e : other ≡ key = cc in subst (λ k. (stripe_of k config.stripes == stripe_of other config.stripes) ≡ true) e (same_self (stripe_of other config.stripes))
touches_keyed config (calls.Store kind other value flags expiration cas) key is = let e : other ≡ key = cc in subst (λ k. (stripe_of k config.stripes == stripe_of other config.stripes || false) ≡ true) e (or_true_left _ false (same_self (stripe_of other config.stripes)))
touches_keyed config (calls.Join front other value cas) key is = let e : other ≡ key = cc in subst (λ k. (stripe_of k config.stripes == stripe_of other config.stripes || false) ≡ true) e (or_true_left _ false (same_self (stripe_of other config.stripes)))
touches_keyed config (calls.Count down other delta initial expiration cas) key is = let e : other ≡ key = cc in subst (λ k. (stripe_of k config.stripes == stripe_of other config.stripes || false) ≡ true) e (or_true_left _ false (same_self (stripe_of other config.stripes)))
touches_keyed config (calls.Delete other cas) key is = let e : other ≡ key = cc in subst (λ k. (stripe_of k config.stripes == stripe_of other config.stripes || false) ≡ true) e (or_true_left _ false (same_self (stripe_of other config.stripes)))
touches_keyed config (calls.Touch other expiration fetch) key is = let e : other ≡ key = cc in subst (λ k. (stripe_of k config.stripes == stripe_of other config.stripes || false) ≡ true) e (or_true_left _ false (same_self (stripe_of other config.stripes)))
touches_keyed config (calls.Observe uuid) key is = absurd (cc)
touches_keyed config calls.Failovers key is = absurd (cc)
touches_keyed config (calls.SetState state) key is = absurd (cc)
touches_keyed config calls.GetState key is = absurd (cc)
