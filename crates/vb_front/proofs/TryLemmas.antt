-- A call at a stage: what it notes touches what it holds and is legal, and its parts stand behind it, whatever others noted.
use Rattle.std.proofs.Common.{◌≡◌, ℕ, Bool, true, false, List, [], ◌∷◌, sym, ap, subst, ◌∙◌}
use Rattle.std.specs.Prelude.{Option, Some, None, IfSome, ◌==◌, ◌||◌}
use Rattle.ep_model.specs.declared.config.Config.{Config}
use Rattle.ep_model.specs.declared.call.Reply.{Reply}
use Rattle.ep_model.specs.declared.event.Cause.{Cause}
use Rattle.ep_model.specs.declared.event.PartName.{PartName}
use Rattle.ep_model.specs.declared.event.PartName.TheVariants.{Stripe, Queue}
use Rattle.ep_model.specs.declared.event.Ticket.{Ticket}
use Rattle.ep_model.specs.declared.data.CallData.{CallData}
use Rattle.ep_model.specs.declared.data.CallData.TheVariants as calls
use Rattle.ep_model.specs.declared.data.EventData.{EventData}
use Rattle.ep_model.specs.declared.data.EventData.TheVariants.{Called, Refused, Asked}
use Rattle.ep_model.specs.declared.data.FrontData.{FrontData}
use Rattle.ep_model.specs.Calls.{key_of}
use Rattle.ep_model.specs.Front.{with_event, with_events, with_start}
use Rattle.ep_model.specs.Stripes.{stripe_of}
use Rattle.ep_model.specs.Legal.{May, IsLegal}
use Rattle.hold_stage.specs.Touches.{same_part, touches_call, touches}
use Rattle.hold_stage.specs.Grows.{Same, Among, and_this, Covered, Quiet, Grown, Noted}
use Rattle.hold_stage.specs.Went.{Went}
use Rattle.hold_stage.proofs.CallerLemmas.{same_is}
use Rattle.hold_stage.proofs.GrowsLemmas.{nothing_more, grown_nothing, grown_then, keeps_along}
use Rattle.hold_stage.proofs.LaterLemmas.{more_events}
use Rattle.hold_stage.proofs.OwnLemmas.{holds_stripe}
use Rattle.hold_stage.proofs.WentLemmas.{went_to, went_fewer, went_behind, went_noted, grown_went, went_may}
use Rattle.ckpt_manager.specs.declared.data.QueueData.{QueueData}
use Rattle.vb_front.specs.declared.part.StripePart.{StripePart}
use Rattle.vb_front.specs.declared.part.Part.TheVariants as parts
use Rattle.vb_front.specs.declared.step.Step.{Step}
use Rattle.vb_front.specs.Parts.{part_stands, part_keeps}
use Rattle.vb_front.specs.Stands.{StripeStands, QueueStands}
use Rattle.vb_front.specs.Priors.{key_in, event_of, IsNext}
use Rattle.hold_stage.specs.Priors.{PriorsStand, PriorStands}
use Rattle.vb_front.specs.Reads.{Read, ReadIsLegal, read_step, ReadIsExact, AnsweredGetHasRoom}
use Rattle.vb_front.specs.Controls.{Control, ControlIsLegal}
use Rattle.vb_front.specs.Writes.{Write, write_step, WriteIsLegal, AnsweredHasRoom}
use Rattle.vb_front.specs.WriteSteps.{WriteIsExact}
use Rattle.vb_front.specs.Tries.{IsExactlyRead, IsExactly}
use Rattle.vb_front.proofs.DeskLemmas.{priors_stand_on}

-- a call on a key touches the key's stripe
key_is : (config : Config) (k key : List ℕ) → Some k ≡ Some key → (stripe_of key config.stripes == stripe_of k config.stripes) ≡ true
key_is config k key is =
    let same : key ≡ k = cc in
    subst (λ (l : List ℕ). (stripe_of key config.stripes == stripe_of l config.stripes) ≡ true) same (same_is (stripe_of key config.stripes))

key_or : (config : Config) (k key : List ℕ) → Some k ≡ Some key → ((stripe_of key config.stripes == stripe_of k config.stripes) || false) ≡ true
key_or config k key is = ap (λ b. b || false) (key_is config k key is)

touches_key : (config : Config) (call : CallData) (key : List ℕ) → key_of call ≡ Some key → touches_call config call (Stripe (stripe_of key config.stripes)) ≡ true
touches_key config (calls.Get k) key is = key_is config k key is
touches_key config (calls.Store kind k value flags expiration cas) key is = key_or config k key is
touches_key config (calls.Join front k value cas) key is = key_or config k key is
touches_key config (calls.Count down k delta initial expiration cas) key is = key_or config k key is
touches_key config (calls.Delete k cas) key is = key_or config k key is
touches_key config (calls.Touch k expiration fetch) key is = key_or config k key is
touches_key config (calls.Observe uuid) key is = absurd (cc)
touches_key config calls.Failovers key is = absurd (cc)
touches_key config (calls.SetState state) key is = absurd (cc)
touches_key config calls.GetState key is = absurd (cc)

-- what a call notes touches parts that the call touches
module _ (f : FrontData) (holds : PartName → Bool) (caller : ℕ) (call : CallData) (touched : (p : PartName) → touches_call f.config call p ≡ true → holds p ≡ true) where
  pub called_covered : (now : ℕ) (reply : Reply) (value : List ℕ) → Covered holds f (Called caller call now reply value)
  unfolding touches
  called_covered now reply value = touched

  pub refused_covered : (now : ℕ) (cause : Cause) → Covered holds f (Refused caller call now cause)
  unfolding touches
  refused_covered now cause = touched

  pub asked_covered : (ticket : Ticket) → May f (Asked ticket caller call) → Covered holds f (Asked ticket caller call)
  unfolding touches May
  asked_covered ticket may p is =
      let has = touched (Stripe (stripe_of may.key f.config.stripes)) (touches_key f.config call may.key may.keyed) in
      holds_stripe holds ticket.stripe (ap (λ n. holds (Stripe n)) may.here ∙ has) p is

pub went_step : (f g : FrontData) (holds : PartName → Bool) (caller : ℕ) (desk : Bool) (event : EventData) (o : Option EventData) → Some event ≡ o → Noted part_stands f g holds caller desk event → IsLegal g
    → Went f g holds caller desk o
went_step f g holds caller desk event o is noted legal = subst (λ (e : Option EventData). Went f g holds caller desk e) is (went_noted part_stands f g holds caller desk event noted legal)

-- who asked before still waits behind what others noted
priors_quiet : (f : FrontData) (held : PartName → Bool) (caller : ℕ) (desk : Bool) (call : CallData) (ticket : Ticket) (events : List EventData) → Quiet f held caller desk events
    → PriorStands f caller call ticket → PriorStands (with_events f events) caller call ticket
priors_quiet f held caller desk call ticket [] quiet p = subst (λ (g : FrontData). PriorStands g caller call ticket) (sym (nothing_more f)) p
priors_quiet f held caller desk call ticket (event ∷ events) quiet p =
    subst (λ (g : FrontData). PriorStands g caller call ticket) (more_events f event events)
    (priors_quiet (with_event f event) held caller desk call ticket events quiet.1 (priors_stand_on f event caller call ticket quiet.0.others p))

pub priors_grown : (f g : FrontData) (held : PartName → Bool) (caller : ℕ) (desk : Bool) (call : CallData) (prior : Option Ticket) → Grown f g held caller desk → PriorsStand f caller call prior → PriorsStand g caller call prior
priors_grown f g held caller desk call None grown p = tt
priors_grown f g held caller desk call (Some ticket) grown p =
    let put : PriorStands (with_start f g.start) caller call ticket = record { before = p.before; later = p.later; asked = p.asked; silent = p.silent } in
    let q = priors_quiet (with_start f g.start) held caller desk call ticket grown.more grown.quiet put in
    record { before = q.before; later = q.later; asked = grown.events ∙ q.asked; silent = q.silent }

-- and once the stage has taken a part
pub priors_taken : (f g : FrontData) (held : PartName → Bool) (caller number : ℕ) (desk : Bool) (call : CallData) (prior : Option Ticket) → Grown f g held caller desk → number ≡ caller → PriorsStand f caller call prior
    → PriorsStand g number call prior
priors_taken f g held caller number desk call prior grown is p =
    subst (λ n. PriorsStand g n call prior) (sym is) (priors_grown f g held caller desk call prior grown p)

next_may : (f : FrontData) (event : Option EventData) (after : FrontData → Type 0) → IsNext f event after → IfSome event (May f)
next_may f None after next = tt
next_may f (Some event) after next = next.0

-- What may be noted behind whatever others note, and is noted, leaves what stands behind it.
went_next : (f g : FrontData) (holds : PartName → Bool) (caller : ℕ) (desk : Bool) (event : Option EventData) (after : FrontData → Type 0)
    → ((k : FrontData) → Grown f k holds caller desk → IsLegal k → IsNext k event after) → Went f g holds caller desk event → after g
went_next f g holds caller desk None after next w = next g (grown_went f g holds caller desk w) w.legal
went_next f g holds caller desk (Some event) after next w =
    let may = went_may f g holds caller desk event w in
    subst after (sym w.last) (next w.between w.grown may.0).1

-- what is noted behind a part that was taken, once that was given back
pub went_given : (E : ℕ → Option EventData) (f g h k : FrontData) (held holds : PartName → Bool) (caller number : ℕ) (desk has : Bool) → Grown f g held caller desk → Among held holds → number ≡ caller → has ≡ desk
    → Went g h holds number has (E number) → k ≡ h → Went f k held caller desk (E caller)
went_given E f g h k held holds caller number desk has grown among same_caller same_desk w last =
    went_to f h k held caller desk (E caller) last
    (went_behind f g h held holds held caller desk (E caller) (λ p t. t) among grown
    (subst (λ (b : Bool). Went g h holds caller b (E caller)) same_desk
    (subst (λ (m : ℕ). Went g h holds m has (E m)) same_caller w)))

-- what is noted behind a part as it was taken, while that was held
pub went_after : (E : ℕ → Option EventData) (f g k : FrontData) (held holds : PartName → Bool) (caller number : ℕ) (desk has : Bool) → Among held holds → number ≡ caller → has ≡ desk
    → Went f g holds number has (E number) → k ≡ g → Went f k held caller desk (E caller)
went_after E f g k held holds caller number desk has among same_caller same_desk w last =
    went_to f g k held caller desk (E caller) last
    (went_fewer f g holds held caller desk (E caller) among
    (subst (λ (b : Bool). Went f g holds caller b (E caller)) same_desk
    (subst (λ (m : ℕ). Went f g holds m has (E m)) same_caller w)))

-- two parts are held that were taken one after the other
pub held_twice : (p q : PartName) (a b c : PartName → Bool) → Same b (and_this p a) → Same c (and_this q b) → Among (and_this q (and_this p a)) c
held_twice p q a b c first second part has =
    let is : c part ≡ and_this q (and_this p a) part = second part ∙ ap (λ t. same_part part q || t) (first part) in
    is ∙ has

-- a Get on a stripe that was taken
module _ (f : FrontData) (holds : PartName → Bool) (caller : ℕ) (desk : Bool) (stripe : ℕ) (call : CallData) (key : List ℕ) (now : ℕ) (prior : Option Ticket) (old new : StripePart) (step : Step) (value : List ℕ) (r : Read)
    (is : call ≡ calls.Get key) (has : holds (Stripe stripe) ≡ true) (stands : StripeStands f stripe old) (priors : PriorsStand f caller call prior) (law : ReadIsLegal old key now prior r)
    (step-is : step ≡ r.step) (new-is : new ≡ r.part) (value-is : value ≡ r.value) where
  got_next : (k : FrontData) → Grown f k holds caller desk → IsLegal k → IsNext k (event_of caller call now prior step value) (λ g. StripeStands g stripe new)
  got_next k grown legal =
      let s : StripeStands k stripe old = keeps_along part_stands part_keeps f k holds caller desk grown legal (Stripe stripe) (parts.Stripe old) has stands in
      let p : PriorsStand k caller (calls.Get key) prior = subst (λ (c : CallData). PriorsStand k caller c prior) is (priors_grown f k holds caller desk call prior grown priors) in
      subst (λ (c : CallData). IsNext k (event_of caller c now prior step value) (λ g. StripeStands g stripe new)) (sym is)
      (subst (λ (v : List ℕ). IsNext k (event_of caller (calls.Get key) now prior step v) (λ g. StripeStands g stripe new)) (sym value-is)
      (subst (λ (t : Step). IsNext k (event_of caller (calls.Get key) now prior t r.value) (λ g. StripeStands g stripe new)) (sym step-is)
      (subst (λ (x : StripePart). IsNext k (event_of caller (calls.Get key) now prior r.step r.value) (λ g. StripeStands g stripe x)) (sym new-is)
      (law k stripe caller legal s p))))

  pub got_may : IsLegal f → IfSome (event_of caller call now prior step value) (May f)
  got_may legal = next_may f (event_of caller call now prior step value) (λ g. StripeStands g stripe new) (got_next f (grown_nothing f holds caller desk) legal)

  pub got_stands : (g : FrontData) → Went f g holds caller desk (event_of caller call now prior step value) → StripeStands g stripe new
  got_stands g w = went_next f g holds caller desk (event_of caller call now prior step value) (λ h. StripeStands h stripe new) got_next w

-- two parts were taken, one after the other
pub grown_twice : (f g h : FrontData) (a b : PartName → Bool) (caller number : ℕ) (desk has : Bool) → Grown f g a caller desk → Among a b → number ≡ caller → has ≡ desk → Grown g h b number has → Grown f h a caller desk
grown_twice f g h a b caller number desk has first among same_caller same_desk second =
    grown_then f g h a b a caller desk (λ p t. t) among first
    (subst (λ (d : Bool). Grown g h b caller d) same_desk (subst (λ (m : ℕ). Grown g h b m has) same_caller second))

-- a call on the vBucket as a whole on a queue that was taken
module _ (f : FrontData) (holds : PartName → Bool) (caller : ℕ) (desk : Bool) (id : ℕ) (call : CallData) (now : ℕ) (old new : QueueData) (step : Step) (value : List ℕ) (r : Control)
    (has : holds Queue ≡ true) (stands : QueueStands f old) (same-id : f.id ≡ id) (law : ControlIsLegal old id call r) (step-is : step ≡ r.step) (new-is : new ≡ old) (value-is : value ≡ r.value) where
  controlled_next : (k : FrontData) → Grown f k holds caller desk → IsLegal k → IsNext k (event_of caller call now None step value) (λ g. QueueStands g new)
  controlled_next k grown legal =
      let s : QueueStands k old = keeps_along part_stands part_keeps f k holds caller desk grown legal Queue (parts.Queue old) has stands in
      subst (λ (v : List ℕ). IsNext k (event_of caller call now None step v) (λ g. QueueStands g new)) (sym value-is)
      (subst (λ (t : Step). IsNext k (event_of caller call now None t r.value) (λ g. QueueStands g new)) (sym step-is)
      (subst (λ (q : QueueData). IsNext k (event_of caller call now None r.step r.value) (λ g. QueueStands g q)) (sym new-is)
      (law k caller now legal (grown.id ∙ same-id) s)))

  pub controlled_may : IsLegal f → IfSome (event_of caller call now None step value) (May f)
  controlled_may legal = next_may f (event_of caller call now None step value) (λ g. QueueStands g new) (controlled_next f (grown_nothing f holds caller desk) legal)

  pub controlled_stands : (g : FrontData) → Went f g holds caller desk (event_of caller call now None step value) → QueueStands g new
  controlled_stands g w = went_next f g holds caller desk (event_of caller call now None step value) (λ h. QueueStands h new) controlled_next w

-- a call that may put a document on a stripe and a queue that were taken
module _ (f : FrontData) (holds : PartName → Bool) (caller : ℕ) (desk : Bool) (stripe : ℕ) (call : CallData) (key : List ℕ) (now : ℕ) (prior : Option Ticket) (old new : StripePart) (q after : QueueData) (step : Step) (value : List ℕ) (w : Write)
    (has : holds (Stripe stripe) ≡ true) (has-queue : holds Queue ≡ true) (stands : StripeStands f stripe old) (queued : QueueStands f q) (priors : PriorsStand f caller call prior) (law : WriteIsLegal old q call key now prior w new after)
    (step-is : step ≡ w.step) (value-is : value ≡ w.value) where
  wrote_next : (k : FrontData) → Grown f k holds caller desk → IsLegal k → IsNext k (event_of caller call now prior step value) (λ g. StripeStands g stripe new × QueueStands g after)
  wrote_next k grown legal =
      let s : StripeStands k stripe old = keeps_along part_stands part_keeps f k holds caller desk grown legal (Stripe stripe) (parts.Stripe old) has stands in
      let t : QueueStands k q = keeps_along part_stands part_keeps f k holds caller desk grown legal Queue (parts.Queue q) has-queue queued in
      subst (λ (v : List ℕ). IsNext k (event_of caller call now prior step v) (λ g. StripeStands g stripe new × QueueStands g after)) (sym value-is)
      (subst (λ (u : Step). IsNext k (event_of caller call now prior u w.value) (λ g. StripeStands g stripe new × QueueStands g after)) (sym step-is)
      (law k stripe caller legal s t (priors_grown f k holds caller desk call prior grown priors)))

  pub wrote_may : IsLegal f → IfSome (event_of caller call now prior step value) (May f)
  wrote_may legal = next_may f (event_of caller call now prior step value) (λ g. StripeStands g stripe new × QueueStands g after) (wrote_next f (grown_nothing f holds caller desk) legal)

  pub wrote_stands : (g : FrontData) → Went f g holds caller desk (event_of caller call now prior step value) → StripeStands g stripe new × QueueStands g after
  wrote_stands g went = went_next f g holds caller desk (event_of caller call now prior step value) (λ h. StripeStands h stripe new × QueueStands h after) wrote_next went

-- what `read` and `write` say of their step
pub is_exactly_read : (part : StripePart) (prior : Option Ticket) (key : List ℕ) (now : ℕ) → ReadIsExact part key prior (read_step part prior key now)
    → AnsweredGetHasRoom part key now prior (read_step part prior key now) → IsExactlyRead part prior key now
unfolding IsExactlyRead
is_exactly_read part prior key now exact fits = (exact, fits)

pub is_exactly : (part : StripePart) (queue : QueueData) (prior : Option Ticket) (call : CallData) (now : ℕ)
    → WriteIsExact part queue call (key_in call) now prior (write_step part queue prior call (key_in call) now)
    → AnsweredHasRoom part queue call (key_in call) now prior (write_step part queue prior call (key_in call) now)
    → IsExactly part queue prior call now
unfolding IsExactly
is_exactly part queue prior call now exact fits = (exact, fits)
