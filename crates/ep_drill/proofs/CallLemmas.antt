-- What a call notes is legal, its own, and touches what it holds.
use Rattle.std.proofs.Common.{◌≡◌, ℕ, Bool, true, false, cond, List, [], ◌++◌, refl, sym, ap, subst, ◌∙◌}
use Rattle.std.specs.Prelude.{Option, Some, None, IfSome, ◌==◌, ◌||◌, ◌&&◌}
use Rattle.std.proofs.lemmas.Bool.Decides.{Decides-eqb}
use Rattle.ep_model.specs.declared.call.StoreKind.TheVariants.{Set}
use Rattle.ep_model.specs.declared.config.Eviction.TheVariants.{Value}
use Rattle.ep_model.specs.declared.event.PartName.{PartName}
use Rattle.ep_model.specs.declared.event.PartName.TheVariants.{Stripe, Queue, Desk}
use Rattle.ep_model.specs.declared.event.Ticket.{Ticket}
use Rattle.ep_model.specs.declared.config.Config.{Config}
use Rattle.ep_model.specs.declared.data.CallData.{CallData}
use Rattle.ep_model.specs.declared.data.CallData.TheVariants as calls
use Rattle.ep_model.specs.declared.data.EventData.TheVariants as events
use Rattle.ep_model.specs.declared.data.FrontData.{FrontData}
use Rattle.ep_model.specs.Config.{fit_of}
use Rattle.ep_model.specs.Stripes.{stripe_of}
use Rattle.ep_model.specs.Legal.{May, IsLegal}
use Rattle.hold_stage.specs.Touches.{is_stripe, touches_call, touches}
use Rattle.hold_stage.specs.Grows.{Same, and_this, Covered}
use Rattle.hold_stage.proofs.CallerLemmas.{same_is}
use Rattle.flat_parts.specs.declared.data.StripeData.{StripeData}
use Rattle.flat_parts.specs.declared.data.QueueData.{QueueData}
use Rattle.flat_parts.specs.declared.data.Step.{Step}
use Rattle.flat_parts.specs.declared.data.Step.TheVariants as steps
use Rattle.flat_parts.specs.Steps.{read_step, write_step}
use Rattle.hold_stage.proofs.OwnLemmas.{holds_stripe}
use Rattle.ep_drill.specs.Stands.{ticket_of, StripeStands, QueueStands}
use Rattle.hold_stage.specs.Went.{with_noted}
use Rattle.ep_drill.specs.Calls.{event_of}
use Rattle.hold_stage.specs.Priors.{is_prior, PriorsStand}
use Rattle.ep_drill.proofs.ReadLemmas.{AfterStep}
use Rattle.ep_drill.proofs.AskLemmas.{read_stands}
use Rattle.ep_drill.proofs.SetLemmas.{AfterWrite, write_stands}
use Rattle.hold_stage.proofs.WaitLemmas.{and_left, and_right}

pub prior_is : (prior : Option Ticket) (ticket : Ticket) → is_prior prior ticket ≡ true → prior ≡ Some ticket
prior_is None ticket is = absurd (cc)
prior_is (Some prior) ticket is =
    let n = (Decides-eqb prior.number ticket.number).0 (and_left (prior.number == ticket.number) (prior.stripe == ticket.stripe) is) in
    let s = (Decides-eqb prior.stripe ticket.stripe).0 (and_right (prior.number == ticket.number) (prior.stripe == ticket.stripe) is) in
    ap Some (ap (λ k. ticket_of k prior.number) s ∙ ap (λ k. ticket_of ticket.stripe k) n)

pub not_prior : (prior : Option Ticket) (ticket : Ticket) → is_prior prior ticket ≡ false → prior ≡ Some ticket → ⊥
not_prior prior ticket test is =
    let t : is_prior (Some ticket) ticket ≡ true = ap (λ b. b && (ticket.stripe == ticket.stripe)) (same_is ticket.number) ∙ same_is ticket.stripe in
    let e : is_prior prior ticket ≡ true = ap (λ (o : Option Ticket). is_prior o ticket) is ∙ t in
    cc

-- What a Get notes is legal, the stripe stands behind it, and it touches the stripe alone.
module _ (f : FrontData) (stripe caller now : ℕ) (key : List ℕ) (prior : Option Ticket) (holds : PartName → Bool) (here : stripe ≡ stripe_of key f.config.stripes) (has : holds (Stripe stripe) ≡ true) where
  abbrev call : CallData
  call = calls.Get key

  abbrev Notes : List ℕ → Step → StripeData → Type 0
  Notes value step y =
      (IfSome (event_of caller call now prior value step) (May f)) × (IfSome (event_of caller call now prior value step) (Covered holds f)) × StripeStands (with_noted f (event_of caller call now prior value step)) stripe y

  covers_get : (p : PartName) → touches_call f.config call p ≡ true → holds p ≡ true
  covers_get p is = holds_stripe holds stripe has p (subst (λ n. is_stripe n p ≡ true) (sym here) is)

  notes_step : (value : List ℕ) (step : Step) (y : StripeData) → AfterStep f stripe caller call now prior step value y → Notes value step y
  unfolding May touches
  notes_step value (steps.Done reply) y h = (h.0, covers_get, h.1)
  notes_step value (steps.Refused cause) y h = (h.0, covers_get, h.1)
  notes_step value (steps.Fetch ticket) y h =
      elim (is_prior prior ticket) as (λ b. is_prior prior ticket ≡ b →
      (IfSome (cond b None (Some (events.Asked ticket caller call))) (May f)) × (IfSome (cond b None (Some (events.Asked ticket caller call))) (Covered holds f)) × StripeStands (with_noted f (cond b None (Some (events.Asked ticket caller call)))) stripe y) [
        | true ↦ λ t. (tt, tt, h.0 (prior_is prior ticket t))
        | false ↦ λ t.
            let m = h.1 (not_prior prior ticket t) in
            let k : key ≡ m.0.key = (let e = m.0.keyed in cc) in
            let s : ticket.stripe ≡ stripe = m.0.here ∙ ap (λ (l : List ℕ). stripe_of l f.config.stripes) (sym k) ∙ sym here in
            (m.0, (λ p is. holds_stripe holds stripe has p (subst (λ n. is_stripe n p ≡ true) s is)), m.1)
      ] refl
  notes_step value steps.FetchFull y h = (tt, tt, h)

  pub get_notes : (x y : StripeData) (value : List ℕ) (step : Step) → IsLegal f → f.config.eviction ≡ Value → PriorsStand f caller call prior → StripeStands f stripe x
      → step ≡ (read_step x prior key now).step → y ≡ (read_step x prior key now).stripe → value ≡ (read_step x prior key now).value → Notes value step y
  get_notes x y value step legal eviction priors s step-is y-is value-is =
      let r = read_step x prior key now in
      subst (λ (v : List ℕ). Notes v step y) (sym value-is)
      (subst (λ (k : Step). Notes r.value k y) (sym step-is)
      (subst (λ (z : StripeData). Notes r.value r.step z) (sym y-is)
      (notes_step r.value r.step r.stripe (read_stands f stripe caller now key prior x legal eviction (sym here) s priors))))

-- the same, from what the taking of the stripe says
pub get_at : (f₀ f : FrontData) (n₀ n stripe now stripes : ℕ) (key : List ℕ) (prior : Option Ticket) (held holds : PartName → Bool) (x y : StripeData) (before value : List ℕ) (step : Step)
    → f ≡ f₀ → n ≡ n₀ → stripe ≡ stripe_of key stripes → stripes ≡ f₀.config.stripes → Same holds (and_this (Stripe stripe) held) → IsLegal f → f₀.config.eviction ≡ Value → PriorsStand f₀ n₀ (calls.Get key) prior → StripeStands f stripe x
    → step ≡ (read_step x prior key now).step → y ≡ (read_step x prior key now).stripe → value ≡ before ++ (read_step x prior key now).value → before ≡ []
    → (IfSome (event_of n (calls.Get key) now prior value step) (May f)) × (IfSome (event_of n (calls.Get key) now prior value step) (Covered holds f)) × StripeStands (with_noted f (event_of n (calls.Get key) now prior value step)) stripe y
get_at f₀ f n₀ n stripe now stripes key prior held holds x y before value step front number stripe-is stripes-is same legal eviction priors s step-is y-is value-is none =
    get_notes f stripe n now key prior holds (stripe-is ∙ ap (stripe_of key) (stripes-is ∙ ap (λ (g : FrontData). g.config.stripes) (sym front)))
    (same (Stripe stripe) ∙ ap (λ b. b || held (Stripe stripe)) (same_is stripe)) x y value step legal (ap (λ (g : FrontData). g.config.eviction) front ∙ eviction)
    (subst (λ (g : FrontData). PriorsStand g n (calls.Get key) prior) (sym front) (subst (λ k. PriorsStand f₀ k (calls.Get key) prior) (sym number) priors)) s step-is y-is
    (value-is ∙ ap (λ (l : List ℕ). l ++ (read_step x prior key now).value) none)

or_false : (b : Bool) → (b || false) ≡ true → b ≡ true
or_false true is = refl
or_false false is = is

-- What a Set notes is legal, its stripe and the queue stand behind it, and it touches these two alone.
module _ (f : FrontData) (stripe caller now : ℕ) (key value : List ℕ) (flags expiration cas : ℕ) (prior : Option Ticket) (holds : PartName → Bool) (here : stripe ≡ stripe_of key f.config.stripes) (has : holds (Stripe stripe) ≡ true) (has-queue : holds Queue ≡ true) where
  abbrev set : CallData
  set = calls.Store Set key value flags expiration cas

  abbrev SetNotes : Step → StripeData → QueueData → Type 0
  SetNotes step y z =
      (IfSome (event_of caller set now prior [] step) (May f)) × (IfSome (event_of caller set now prior [] step) (Covered holds f)) × StripeStands (with_noted f (event_of caller set now prior [] step)) stripe y × QueueStands (with_noted f (event_of caller set now prior [] step)) z

  covers_set : (p : PartName) → touches_call f.config set p ≡ true → holds p ≡ true
  covers_set (Stripe other) is = holds_stripe holds stripe has (Stripe other) (subst (λ n. (other == n) ≡ true) (sym here) (or_false (other == stripe_of key f.config.stripes) is))
  covers_set Queue is = has-queue
  covers_set Desk is = absurd (cc)

  set_step : (step : Step) (y : StripeData) (z : QueueData) → AfterWrite f stripe caller set now step y z → SetNotes step y z
  unfolding touches
  set_step (steps.Done reply) y z h = (h.0, covers_set, h.1, h.2)
  set_step (steps.Refused cause) y z h = (h.0, covers_set, h.1, h.2)
  set_step (steps.Fetch ticket) y z h = absurd h
  set_step steps.FetchFull y z h = absurd h

-- the same, from what the taking of the parts says
pub set_at : (f₀ f₁ f : FrontData) (n₀ n₁ n stripe now : ℕ) (config : Config) (key value : List ℕ) (flags expiration cas fit : ℕ) (prior : Option Ticket) (held₀ held₁ holds : PartName → Bool) (x y : StripeData) (q z : QueueData) (step : Step)
    → f₁ ≡ f₀ → f ≡ f₁ → n₁ ≡ n₀ → n ≡ n₁ → stripe ≡ stripe_of key config.stripes → config ≡ f₀.config → fit ≡ fit_of config → Same held₁ (and_this (Stripe stripe) held₀) → Same holds (and_this Queue held₁) → IsLegal f
    → StripeStands f₁ stripe x → QueueStands f q
    → step ≡ (write_step x q fit prior key value flags expiration cas now).step → y ≡ (write_step x q fit prior key value flags expiration cas now).stripe → z ≡ (write_step x q fit prior key value flags expiration cas now).queue
    → (IfSome (event_of n (calls.Store Set key value flags expiration cas) now prior [] step) (May f)) × (IfSome (event_of n (calls.Store Set key value flags expiration cas) now prior [] step) (Covered holds f))
    × StripeStands (with_noted f (event_of n (calls.Store Set key value flags expiration cas) now prior [] step)) stripe y × QueueStands (with_noted f (event_of n (calls.Store Set key value flags expiration cas) now prior [] step)) z
set_at f₀ f₁ f n₀ n₁ n stripe now config key value flags expiration cas fit prior held₀ held₁ holds x y q z step front₁ front number₁ number stripe-is config-is fit-is same₁ same legal s t step-is y-is z-is =
    let r = write_step x q fit prior key value flags expiration cas now in
    let c : f.config ≡ config = ap (λ (g : FrontData). g.config) (front ∙ front₁) ∙ sym config-is in
    let here : stripe ≡ stripe_of key f.config.stripes = stripe-is ∙ ap (λ (k : Config). stripe_of key k.stripes) (sym c) in
    let has : holds (Stripe stripe) ≡ true = same (Stripe stripe) ∙ same₁ (Stripe stripe) ∙ ap (λ b. b || held₀ (Stripe stripe)) (same_is stripe) in
    let has-queue : holds Queue ≡ true = same Queue in
    let s' : StripeStands f stripe x = subst (λ (g : FrontData). StripeStands g stripe x) (sym front) s in
    let stands = write_stands f stripe n now fit key value flags expiration cas prior x q legal (sym here) (fit-is ∙ ap fit_of (sym c)) s' t in
    subst (λ (k : Step). SetNotes f stripe n now key value flags expiration cas prior holds here has has-queue k y z) (sym step-is)
    (subst (λ (w : StripeData). SetNotes f stripe n now key value flags expiration cas prior holds here has has-queue r.step w z) (sym y-is)
    (subst (λ (w : QueueData). SetNotes f stripe n now key value flags expiration cas prior holds here has has-queue r.step r.stripe w) (sym z-is)
    (set_step f stripe n now key value flags expiration cas prior holds here has has-queue r.step r.stripe r.queue stands)))
