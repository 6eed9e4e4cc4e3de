-- How growths of a front compose, and what of them a part that is held doesn't notice.
use Rattle.std.proofs.Common.{◌≡◌, ◌⊎◌, inl, inr, ℕ, Bool, true, false, List, [], ◌∷◌, ◌++◌, Option, None, refl, sym, ap, subst, ◌∙◌, append_assoc, append-nil}
use Rattle.std.proofs.lemmas.List.Elements.{filter-append}
use Rattle.ep_model.specs.declared.config.Config.{Config}
use Rattle.ep_model.specs.declared.event.PartName.{PartName}
use Rattle.ep_model.specs.declared.data.EventData.{EventData}
use Rattle.ep_model.specs.declared.data.FrontData.{FrontData}
use Rattle.ep_model.specs.declared.data.StartData.{StartData}
use Rattle.ep_model.specs.Front.{with_event, with_events, with_start}
use Rattle.ep_model.specs.Legal.{AreLegal, IsLegal}
use Rattle.ep_model.proofs.HistoryLemmas.{legal-front}
use Rattle.hold_stage.specs.Touches.{is_of}
use Rattle.hold_stage.specs.Grows.{Among, IsNone, Quiet, Grown, Keeps}
use Rattle.hold_stage.specs.Went.{KeepsUntouched, own_events}
use Rattle.hold_stage.specs.Laws.{GrownSame, GrownThen, GrownFewer, GrownOwn}
use Rattle.hold_stage.proofs.LaterLemmas.{more_events}

-- two fronts are the same where all of them is
pub front_same : (f g : FrontData) → g.config ≡ f.config → g.id ≡ f.id → g.start ≡ f.start → g.events ≡ f.events → g ≡ f
front_same f g config id start events =
    ap (λ (c : Config). record g { config = c }) config
    ∙ ap (λ (n : ℕ). record g { config = f.config; id = n }) id
    ∙ ap (λ (s : Option StartData). record g { config = f.config; id = f.id; start = s }) start
    ∙ ap (λ (l : List EventData). record g { config = f.config; id = f.id; start = f.start; events = l }) events

pub nothing_more : (f : FrontData) → with_events f [] ≡ f
nothing_more f = ap (λ (l : List EventData). record f { events = l }) (append-nil f.events)

-- the events between are quiet, one list behind the other
pub quiet_append : (f : FrontData) (held : PartName → Bool) (caller : ℕ) (desk : Bool) (xs ys : List EventData)
    → Quiet f held caller desk xs → Quiet (with_events f xs) held caller desk ys → Quiet f held caller desk (xs ++ ys)
quiet_append f held caller desk [] ys first second = subst (λ (g : FrontData). Quiet g held caller desk ys) (nothing_more f) second
quiet_append f held caller desk (x ∷ xs) ys first second =
    (first.0, quiet_append (with_event f x) held caller desk xs ys first.1 (subst (λ (g : FrontData). Quiet g held caller desk ys) (sym (more_events f x xs)) second))

-- they are so for fewer parts
pub quiet_fewer : (f : FrontData) (a b : PartName → Bool) (caller : ℕ) (desk : Bool) (events : List EventData) → Among b a → Quiet f a caller desk events → Quiet f b caller desk events
quiet_fewer f a b caller desk [] among quiet = tt
quiet_fewer f a b caller desk (event ∷ events) among quiet =
    (record { apart = λ p h. quiet.0.apart p (among p h); others = quiet.0.others; desks = quiet.0.desks }, quiet_fewer (with_event f event) a b caller desk events among quiet.1)

-- where no part is held, they are so behind any front
pub quiet_anywhere : (f g : FrontData) (held : PartName → Bool) (caller : ℕ) (desk : Bool) (events : List EventData) → IsNone held → Quiet f held caller desk events → Quiet g held caller desk events
quiet_anywhere f g held caller desk [] none quiet = tt
quiet_anywhere f g held caller desk (event ∷ events) none quiet =
    (record { apart = λ p h. absurd (let e = none p in cc); others = quiet.0.others; desks = quiet.0.desks }, quiet_anywhere (with_event f event) (with_event g event) held caller desk events none quiet.1)

none_among : (a b : PartName → Bool) → Among b a → IsNone a → IsNone b
none_among a b among none p = at (b p) refl
  where
    at : (t : Bool) → b p ≡ t → b p ≡ false
    at true e = absurd (let h = among p e in let n = none p in cc)
    at false e = e

-- nothing came
pub grown_nothing : (f : FrontData) (held : PartName → Bool) (caller : ℕ) (desk : Bool) → Grown f f held caller desk
grown_nothing f held caller desk = record { more = []; config = refl; id = refl; events = sym (append-nil f.events); quiet = tt; start = inl refl }

pub grown_still : (f g : FrontData) (held : PartName → Bool) (caller : ℕ) (desk : Bool) → g ≡ f → Grown f g held caller desk
grown_still f g held caller desk e = subst (λ (h : FrontData). Grown f h held caller desk) (sym e) (grown_nothing f held caller desk)

pub grown_same : GrownSame
grown_same f g held caller desk grown events start = front_same f g grown.config grown.id start events

pub grown_fewer : GrownFewer
grown_fewer f g a b caller desk among grown = record {
  more = grown.more;
  config = grown.config;
  id = grown.id;
  events = grown.events;
  quiet = quiet_fewer (with_start f g.start) a b caller desk grown.more among grown.quiet;
  start = elim grown.start [ inl same ↦ inl same | inr put ↦ inr (put.0, none_among a b among put.1, put.2) ];
}

-- a front with all the events that came, and the start of a later one
grown_front : (f g : FrontData) (start : Option StartData) (held : PartName → Bool) (caller : ℕ) (desk : Bool) → (grown : Grown f g held caller desk) → with_start g start ≡ with_events (with_start f start) grown.more
grown_front f g start held caller desk grown = front_same (with_events (with_start f start) grown.more) (with_start g start) grown.config grown.id refl grown.events

-- what came first is quiet behind the last start too
quiet_first : (f g h : FrontData) (held : PartName → Bool) (caller : ℕ) (desk : Bool) (events : List EventData) → (h.start ≡ g.start) ⊎ ((g.start ≡ None) × IsNone held × (desk ≡ false)) → Quiet (with_start f g.start) held caller desk events
    → Quiet (with_start f h.start) held caller desk events
quiet_first f g h held caller desk events (inl same) quiet = subst (λ (s : Option StartData). Quiet (with_start f s) held caller desk events) (sym same) quiet
quiet_first f g h held caller desk events (inr put) quiet = quiet_anywhere (with_start f g.start) (with_start f h.start) held caller desk events put.1 quiet

start_then : (f g h : FrontData) (held : PartName → Bool) (desk : Bool) → (g.start ≡ f.start) ⊎ ((f.start ≡ None) × IsNone held × (desk ≡ false)) → (h.start ≡ g.start) ⊎ ((g.start ≡ None) × IsNone held × (desk ≡ false))
    → (h.start ≡ f.start) ⊎ ((f.start ≡ None) × IsNone held × (desk ≡ false))
start_then f g h held desk (inl p) (inl q) = inl (q ∙ p)
start_then f g h held desk (inl p) (inr q) = inr (sym p ∙ q.0, q.1, q.2)
start_then f g h held desk (inr p) q = inr p

-- for the same parts
grown_on : (f g h : FrontData) (held : PartName → Bool) (caller : ℕ) (desk : Bool) → Grown f g held caller desk → Grown g h held caller desk → Grown f h held caller desk
grown_on f g h held caller desk p q = record {
  more = p.more ++ q.more;
  config = q.config ∙ p.config;
  id = q.id ∙ p.id;
  events = q.events ∙ ap (λ (l : List EventData). l ++ q.more) p.events ∙ append_assoc f.events p.more q.more;
  quiet =
      quiet_append (with_start f h.start) held caller desk p.more q.more
      (quiet_first f g h held caller desk p.more q.start p.quiet)
      (subst (λ (k : FrontData). Quiet k held caller desk q.more) (grown_front f g h.start held caller desk p) q.quiet);
  start = start_then f g h held desk p.start q.start;
}

pub grown_then : GrownThen
grown_then f g h a b held caller desk among_a among_b p q =
    grown_on f g h held caller desk (grown_fewer f g a held caller desk among_a p) (grown_fewer g h b held caller desk among_b q)

-- none of them is the caller's
own_none : (f : FrontData) (held : PartName → Bool) (caller : ℕ) (desk : Bool) (events : List EventData) → Quiet f held caller desk events → own_events caller events ≡ []
own_none f held caller desk [] quiet = refl
own_none f held caller desk (event ∷ events) quiet = rw quiet.0.others (own_none (with_event f event) held caller desk events quiet.1)

pub grown_own : GrownOwn
grown_own f g held caller desk grown =
    ap (λ (l : List EventData). own_events caller l) grown.events
    ∙ filter-append (is_of caller) f.events grown.more
    ∙ ap (λ (l : List EventData). own_events caller f.events ++ l) (own_none (with_start f g.start) held caller desk grown.more grown.quiet)
    ∙ append-nil (own_events caller f.events)

module _ {P : Type 0} where
  -- what is held stands on behind quiet events
  keeps_quiet : (stands : PartName → FrontData → P → Type 0) → KeepsUntouched stands → (f : FrontData) (held : PartName → Bool) (caller : ℕ) (desk : Bool) (events : List EventData)
      → IsLegal (with_events f events) → Quiet f held caller desk events → Keeps stands held f (with_events f events)
  unfolding AreLegal
  keeps_quiet stands law f held caller desk [] legal quiet = λ p x h s. subst (λ (g : FrontData). stands p g x) (sym (nothing_more f)) s
  keeps_quiet stands law f held caller desk (event ∷ events) legal quiet = λ p x h s.
      let here = legal-front f (event ∷ events) legal in
      subst (λ (g : FrontData). stands p g x) (more_events f event events)
      (keeps_quiet stands law (with_event f event) held caller desk events (subst IsLegal (sym (more_events f event events)) legal) quiet.1 p x h
      (law p f event x here.0 here.1.0 (quiet.0.apart p h) s))

  pub keeps_along : (stands : PartName → FrontData → P → Type 0) → KeepsUntouched stands → (f g : FrontData) (held : PartName → Bool) (caller : ℕ) (desk : Bool) → Grown f g held caller desk → IsLegal g → Keeps stands held f g
  keeps_along stands law f g held caller desk grown legal = λ p x h s. at p x h s grown.start
    where
      at : (p : PartName) (x : P) → held p ≡ true → stands p f x → (g.start ≡ f.start) ⊎ ((f.start ≡ None) × IsNone held × (desk ≡ false)) → stands p g x
      at p x h s (inl same) =
          let e : g ≡ with_events f grown.more = front_same (with_events f grown.more) g grown.config grown.id same grown.events in
          let q : Quiet f held caller desk grown.more = subst (λ (t : Option StartData). Quiet (with_start f t) held caller desk grown.more) same grown.quiet in
          subst (λ (k : FrontData). stands p k x) (sym e)
          (keeps_quiet stands law f held caller desk grown.more (subst IsLegal e legal) q p x h s)
      at p x h s (inr put) = absurd (let n = put.1 p in cc)
