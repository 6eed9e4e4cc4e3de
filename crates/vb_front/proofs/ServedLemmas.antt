-- What a call of the caller 7, and the store's side between calls, leave known of a vBucket in a world.
use Rattle.std.proofs.Common.{◌≡◌, ℕ, Bool, true, false, List, [], ◌∷◌, ◌++◌, refl, sym, ap, subst, ◌∙◌, arith, ◌+◌, ◌<◌, ◌≤◌, append_assoc}
use Rattle.std.specs.Prelude.{Option, Some, None, Result, Ok, Err, IfSome, if◌then◌else◌}
use Rattle.std.specs.List.{AllByRecursion}
use Rattle.ep_model.specs.declared.config.Config.{Config}
use Rattle.ep_model.specs.declared.event.Busy.{Busy}
use Rattle.ep_model.specs.declared.event.PartName.{PartName}
use Rattle.ep_model.specs.declared.event.Ticket.{Ticket}
use Rattle.ep_model.specs.declared.data.CallData.{CallData}
use Rattle.ep_model.specs.declared.data.EventData.{EventData}
use Rattle.ep_model.specs.declared.data.EventData.TheVariants as events
use Rattle.ep_model.specs.declared.data.FrontData.{FrontData}
use Rattle.ep_model.specs.Front.{with_event, with_start, world_of}
use Rattle.ep_model.specs.Legal.{HasAsked, IsNoFault, IsSilent}
use Rattle.hold_stage.specs.Went.{with_noted}
use Rattle.hold_stage.proofs.LaterLemmas.{all_append}
use Rattle.vb_world.specs.declared.data.FixedData.{FixedData}
use Rattle.vb_world.specs.declared.data.WorldData.{WorldData}
use Rattle.vb_world.specs.World.{front_in, has_out, fixed_in}
use Rattle.vb_front.specs.declared.at_stage.Tried.{Tried}
use Rattle.vb_front.specs.declared.at_stage.Tried.TheVariants as tries
use Rattle.vb_front.specs.declared.part.Part.{Part}
use Rattle.vb_front.specs.declared.step.Step.{Step}
use Rattle.vb_front.specs.declared.step.Step.TheVariants as steps
use Rattle.hold_stage.specs.Waits.{IsFaultWithin}
use Rattle.vb_front.specs.Opened.{unknown_start, FaultsAreWithin, IsLater, IsOpened, IsUnderway}
use Rattle.hold_stage.specs.Priors.{is_prior, PriorsStand, PriorStands}
use Rattle.vb_front.specs.Tries.{event_by, tried_by}
use Rattle.vb_front.proofs.AskLemmas.{ticket_is}
use Rattle.vb_front.proofs.OpenedLemmas.{untold}

pub later_same : (f g : FrontData) → g ≡ f → IsLater f g
later_same f g is = record { start = ap (λ (h : FrontData). h.start) is; faults = λ n h. subst (λ (k : FrontData). FaultsAreWithin n k) (sym is) h }

pub later_noted : (f g : FrontData) (event : EventData) → ((n : ℕ) → IsFaultWithin n event) → g ≡ with_event f event → IsLater f g
later_noted f g event none is = record {
  start = ap (λ (h : FrontData). h.start) is;
  faults = λ n h. subst (λ (k : FrontData). FaultsAreWithin n k) (sym is) (all_append (IsFaultWithin n) f.events (event ∷ []) h (none n, tt));
}

-- a call
module _ (f g : FrontData) (caller : ℕ) (call : CallData) (now : ℕ) (prior : Option Ticket) (value : List ℕ) where
  asks_later : (ticket : Ticket) (b : Bool) → g ≡ with_noted f (if b then None else Some (events.Asked ticket caller call)) → IsLater f g
  asks_later ticket true is = later_same f g is
  asks_later ticket false is = later_noted f g (events.Asked ticket caller call) (λ n. tt) is

  pub call_later : (came : Result Step Busy) → g ≡ with_noted f (event_by caller call now prior value came) → IsLater f g
  call_later (Ok (steps.Done reply)) is = later_noted f g (events.Called caller call now reply value) (λ n. tt) is
  call_later (Ok (steps.Refused cause)) is = later_noted f g (events.Refused caller call now cause) (λ n. tt) is
  call_later (Ok (steps.Fetch ticket)) is = asks_later ticket (is_prior prior ticket) is
  call_later (Ok steps.FetchFull) is = later_same f g is
  call_later (Err busy) is = later_same f g is

  prior_waits : (ticket : Ticket) (o : Option Ticket) → is_prior o ticket ≡ true → PriorsStand f caller call o → PriorStands f caller call ticket
  prior_waits ticket None test h = absurd (cc)
  prior_waits ticket (Some other) test h = subst (λ (t : Ticket). PriorStands f caller call t) (ticket_is other ticket test) h

  asks_prior : (ticket : Ticket) (b : Bool) → is_prior prior ticket ≡ b → g ≡ with_noted f (if b then None else Some (events.Asked ticket caller call)) → PriorsStand f caller call prior → PriorStands g caller call ticket
  asks_prior ticket true test is h = subst (λ (k : FrontData). PriorStands k caller call ticket) (sym is) (prior_waits ticket prior test h)
  asks_prior ticket false test is h = record { before = f.events; later = []; asked = ap (λ (k : FrontData). k.events) is; silent = tt }

  -- where it waits for a ticket it has asked there
  pub call_asked : (stripe : ℕ) (came : Result Step Busy) (ticket : Ticket) → tries.Fetch ticket ≡ tried_by stripe came → g ≡ with_noted f (event_by caller call now prior value came) → PriorsStand f caller call prior → PriorStands g caller call ticket
  call_asked stripe (Ok (steps.Done reply)) ticket fetch is h = absurd (cc)
  call_asked stripe (Ok (steps.Refused cause)) ticket fetch is h = absurd (cc)
  call_asked stripe (Ok (steps.Fetch other)) ticket fetch is h =
      let same : other ≡ ticket = (let e = fetch in cc) in
      subst (λ (t : Ticket). PriorStands g caller call t) same (asks_prior other (is_prior prior other) refl is h)
  call_asked stripe (Ok steps.FetchFull) ticket fetch is h = absurd (cc)
  call_asked stripe (Err busy) ticket fetch is h = absurd (cc)

-- the world behind a stage's work
pub opened_later : (config : Config) (w v : WorldData Part) (vb other caller number : ℕ) → vb ≡ 0 → caller ≡ 7 → IsOpened config w → fixed_in v other ≡ fixed_in w vb → number ≡ caller
    → ((p : PartName) → has_out v other number p ≡ false) → (front_in v other).start ≡ (front_in w vb).start → IsOpened config v
opened_later config w v vb other caller number at seven h fixed named free start =
    let same : other ≡ 0 = ap (λ (d : FixedData Part). d.vb) fixed ∙ at in
    let none : (p : PartName) → has_out v 0 7 p ≡ false = λ p.
    ap (λ n. has_out v n 7 p) (sym same) ∙ ap (λ n. has_out v other n p) (sym seven ∙ sym named) ∙ free p in
    record {
      only = h.only;
      layout = ap (λ (d : FixedData Part). d.config) fixed ∙ h.layout;
      free = none;
      start = ap (λ n. (front_in v n).start) (sym same) ∙ start ∙ ap (λ n. (front_in w n).start) at ∙ h.start;
    }

-- a stage of a world in which room was made
module _ (w u s : WorldData Part) (room bytes vb : ℕ) (more : u ≡ record w { event_room = room; byte_room = bytes }) (staged : s ≡ u) (at : vb ≡ 0) where
  first : front_in s vb ≡ front_in w 0
  first = ap (λ n. front_in s n) at ∙ ap (λ (x : WorldData Part). front_in x 0) (staged ∙ more)

  -- where no documents are known
  pub untold_first : (config : Config) → IsOpened config w → (world_of (front_in s vb)).told ≡ false
  untold_first config h = untold (front_in s vb) (ap (λ (f : FrontData). f.start) first ∙ h.start)

  -- and the world behind what was done there
  module _ (v : WorldData Part) (other caller : ℕ) (fixed : fixed_in v other ≡ fixed_in s vb) where
    here : other ≡ 0
    here = ap (λ (d : FixedData Part). d.vb) fixed ∙ at

    pub failed_first : (ticket : Ticket) (fault : ℕ) → front_in v other ≡ with_event (front_in s vb) (events.ReadFailed ticket fault) → front_in v 0 ≡ with_event (front_in w 0) (events.ReadFailed ticket fault)
    failed_first ticket fault is = ap (λ n. front_in v n) (sym here) ∙ is ∙ ap (λ (f : FrontData). with_event f (events.ReadFailed ticket fault)) first

    pub opened_first : (config : Config) (number : ℕ) → caller ≡ 7 → number ≡ caller → config.stripes ≡ 1 → w.config ≡ config → ((p : PartName) → has_out v other number p ≡ false)
        → front_in v other ≡ with_event (with_start (front_in s vb) (Some unknown_start)) events.Opened → IsOpened config v
    opened_first config number seven named only layout free opened = record {
      only = only;
      layout = ap (λ (d : FixedData Part). d.config) fixed ∙ ap (λ (x : WorldData Part). x.config) (staged ∙ more) ∙ layout;
      free = λ p. ap (λ n. has_out v 0 n p) (sym (named ∙ seven)) ∙ ap (λ n. has_out v n number p) (sym here) ∙ free p;
      start = ap (λ n. (front_in v n).start) (sym here) ∙ ap (λ (f : FrontData). f.start) opened;
    }

    module _ (call : CallData) (now : ℕ) (prior : Option Ticket) (value : List ℕ) (came : Result Step Busy) (alone : front_in v other ≡ with_noted (front_in s vb) (event_by caller call now prior value came)) where
      noted : front_in v 0 ≡ with_noted (front_in w 0) (event_by caller call now prior value came)
      noted = ap (λ n. front_in v n) (sym here) ∙ alone ∙ ap (λ (f : FrontData). with_noted f (event_by caller call now prior value came)) first

      pub tried_later : IsLater (front_in w 0) (front_in v 0)
      tried_later = call_later (front_in w 0) (front_in v 0) caller call now prior value came noted

      pub tried_asked : (stripe : ℕ) (tried : Tried) (ticket : Ticket) → caller ≡ 7 → tried ≡ tried_by stripe came → tried ≡ tries.Fetch ticket → PriorsStand (front_in w 0) 7 call prior → PriorStands (front_in v 0) 7 call ticket
      tried_asked stripe tried ticket seven is fetch h =
          subst (λ n. PriorStands (front_in v 0) n call ticket) seven
          (call_asked (front_in w 0) (front_in v 0) caller call now prior value stripe came ticket (sym fetch ∙ is) noted
          (subst (λ n. PriorsStand (front_in w 0) n call prior) (sym seven) h))

-- a failed read leaves a call its ticket
pub prior_failed : (f g : FrontData) (caller fault : ℕ) (call : CallData) (ticket failed : Ticket) → g ≡ with_event f (events.ReadFailed failed fault) → PriorStands f caller call ticket → PriorStands g caller call ticket
prior_failed f g caller fault call ticket failed is h =
    let event = events.ReadFailed failed fault in
    record {
      before = h.before;
      later = h.later ++ event ∷ [];
      asked = ap (λ (k : FrontData). k.events) is ∙ ap (λ (l : List EventData). l ++ event ∷ []) h.asked ∙ append_assoc h.before (events.Asked ticket caller call ∷ h.later) (event ∷ []);
      silent = all_append (IsSilent caller) h.later (event ∷ []) h.silent (tt, tt);
    }

-- more faults than were noted are enough
within_more : (a b : ℕ) (event : EventData) → a ≤ b → IsFaultWithin a event → IsFaultWithin b event
within_more a b (events.Called caller call now reply value) le h = tt
within_more a b (events.Refused caller call now cause) le h = tt
within_more a b (events.Expired key now) le h = tt
within_more a b (events.Persisted number) le h = tt
within_more a b (events.Marked stripe number) le h = tt
within_more a b (events.Asked ticket caller call) le h = tt
within_more a b (events.ReadFailed ticket fault) le h = (h.0, (let x = h.1 in omega arith))
within_more a b events.Opened le h = tt

pub all_within_more : (a b : ℕ) (list : List EventData) → a ≤ b → AllByRecursion (IsFaultWithin a) list → AllByRecursion (IsFaultWithin b) list
all_within_more a b [] le h = tt
all_within_more a b (event ∷ list) le h = (within_more a b event le h.0, all_within_more a b list le h.1)

-- a fault above those that were noted was noted by no event
fresh_fault : (faults fault : ℕ) (event : EventData) → faults < fault → IsFaultWithin faults event → IsNoFault fault event
fresh_fault faults fault (events.Called caller call now reply value) more h = tt
fresh_fault faults fault (events.Refused caller call now cause) more h = tt
fresh_fault faults fault (events.Expired key now) more h = tt
fresh_fault faults fault (events.Persisted number) more h = tt
fresh_fault faults fault (events.Marked stripe number) more h = tt
fresh_fault faults fault (events.Asked ticket caller call) more h = tt
fresh_fault faults fault (events.ReadFailed ticket other) more h = λ is. let le = h.1 in omega arith
fresh_fault faults fault events.Opened more h = tt

pub fresh_faults : (faults fault : ℕ) (list : List EventData) → faults < fault → AllByRecursion (IsFaultWithin faults) list → AllByRecursion (IsNoFault fault) list
fresh_faults faults fault [] more h = tt
fresh_faults faults fault (event ∷ list) more h = (fresh_fault faults fault event more h.0, fresh_faults faults fault list more h.1)

-- The vBucket behind a step of the store's side, before which it was looked at.
pub underway_later : (before config : Config) (had faults : ℕ) (w u v : WorldData Part) → IsUnderway before had w → faults ≡ had → front_in u 0 ≡ front_in w 0 → IsOpened config v → IsLater (front_in u 0) (front_in v 0)
    → IsUnderway config faults v
underway_later before config had faults w u v h same front opened later = record {
  opened = opened;
  faults_within = later.faults faults (subst (λ (f : FrontData). FaultsAreWithin faults f) (sym front) (subst (λ n. FaultsAreWithin n (front_in w 0)) (sym same) h.faults_within));
}

-- And behind a call.
pub tried_underway : (config : Config) (faults : ℕ) (w v : WorldData Part) (tried : Option Tried) → IsUnderway config faults w → IfSome tried (λ _. IsOpened config v) → IfSome tried (λ _. IsLater (front_in w 0) (front_in v 0))
    → IfSome tried (λ _. IsUnderway config faults v)
tried_underway config faults w v None h opened later = tt
tried_underway config faults w v (Some tried) h opened later = record { opened = opened; faults_within = later.faults faults h.faults_within }

pub has_asked : (f : FrontData) (caller : ℕ) (call : CallData) (ticket : Ticket) → PriorStands f caller call ticket → HasAsked f.events ticket
has_asked f caller call ticket h = record { before = h.before; later = h.later; caller = caller; call = call; asked = h.asked }

-- And behind a failed read of the next number, which none had before.
pub next_fault : (before : Config) (had faults : ℕ) (w u : WorldData Part) → IsUnderway before had w → faults ≡ had → front_in u 0 ≡ front_in w 0 → AllByRecursion (IsNoFault (faults + 1)) (front_in u 0).events
next_fault before had faults w u h same front =
    fresh_faults faults (faults + 1) (front_in u 0).events (omega arith)
    (subst (λ (f : FrontData). FaultsAreWithin faults f) (sym front) (subst (λ n. FaultsAreWithin n (front_in w 0)) (sym same) h.faults_within))

pub underway_failed : (before config : Config) (had faults : ℕ) (w u v : WorldData Part) → IsUnderway before had w → faults ≡ had → front_in u 0 ≡ front_in w 0 → IsOpened config v
    → ((n : ℕ) → 1 ≤ faults + 1 → faults + 1 ≤ n → FaultsAreWithin n (front_in u 0) → FaultsAreWithin n (front_in v 0)) → IsUnderway config (faults + 1) v
underway_failed before config had faults w u v h same front opened more = record {
  opened = opened;
  faults_within = more (faults + 1) (omega arith) (omega arith)
      (all_within_more faults (faults + 1) (front_in u 0).events (omega arith)
      (subst (λ (f : FrontData). FaultsAreWithin faults f) (sym front) (subst (λ n. FaultsAreWithin n (front_in w 0)) (sym same) h.faults_within)));
}
