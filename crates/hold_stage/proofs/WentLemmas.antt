-- How calls on a stage compose with growths, and what they leave.
use Rattle.std.proofs.Common.{◌≡◌, ℕ, Bool, true, List, [], ◌∷◌, ◌++◌, Option, Some, None, refl, sym, ap, subst, ◌∙◌, append-nil}
use Rattle.std.proofs.lemmas.List.Elements.{filter-append}
use Rattle.std.specs.Prelude.{◌||◌}
use Rattle.ep_model.specs.declared.event.PartName.{PartName}
use Rattle.ep_model.specs.declared.config.Config.{Config}
use Rattle.ep_model.specs.declared.data.EventData.TheVariants.{Called, Refused, Expired, Persisted, Marked, Asked, ReadFailed, Opened}
use Rattle.ep_model.specs.declared.data.EventData.{EventData}
use Rattle.ep_model.specs.declared.data.FrontData.{FrontData}
use Rattle.ep_model.specs.Legal.{May, AreLegal, IsLegal}
use Rattle.ep_model.proofs.HistoryLemmas.{legal-front}
use Rattle.hold_stage.specs.Touches.{holds_key, is_any_stripe, is_queue, is_desk, touches_call, touches, is_of}
use Rattle.hold_stage.specs.Grows.{Among, Grown, Noted}
use Rattle.hold_stage.specs.Went.{KeepsUntouched, LeavesPart, TouchesSame, Went, with_noted, own_events, own_of}
use Rattle.hold_stage.specs.Laws.{WentBehind, WentBefore, WentOwn}
use Rattle.hold_stage.proofs.GrowsLemmas.{grown_nothing, grown_fewer, grown_then, grown_own, keeps_along}

-- an event touches the same parts of a vBucket of the same layout
touches_same : (f g : FrontData) (event : EventData) → g.config ≡ f.config → (p : PartName) → touches g event p ≡ touches f event p
unfolding touches
touches_same f g (Called caller call now reply value) e p = ap (λ (k : Config). touches_call k call p) e
touches_same f g (Refused caller call now cause) e p = ap (λ (k : Config). touches_call k call p) e
touches_same f g (Expired key now) e p = ap (λ (k : Config). holds_key k key p || is_queue p) e
touches_same f g (Persisted number) e p = refl
touches_same f g (Marked stripe number) e p = refl
touches_same f g (Asked ticket caller call) e p = refl
touches_same f g (ReadFailed ticket fault) e p = refl
touches_same f g Opened e p = ap (λ (k : Config). is_any_stripe k p || (is_queue p || is_desk p)) e

touched_behind : (f g h : FrontData) (event : Option EventData) → g.config ≡ f.config → TouchesSame g h event → TouchesSame f h event
touched_behind f g h None e same = tt
touched_behind f g h (Some event) e same = λ p. same p ∙ touches_same f g event e p

leaves_later : (f g : FrontData) (event : Option EventData) (p : PartName) → TouchesSame f g event → LeavesPart f event p → LeavesPart g event p
leaves_later f g None p same leaves = tt
leaves_later f g (Some event) p same leaves = same p ∙ leaves

-- a call that did nothing, that only learnt what others noted, and that noted an event
pub went_grown : (f g : FrontData) (held : PartName → Bool) (caller : ℕ) (desk : Bool) → Grown f g held caller desk → IsLegal g → Went f g held caller desk None
went_grown f g held caller desk grown legal = record { between = g; grown = grown; touched = tt; last = refl; legal = legal }

pub went_nothing : (f : FrontData) (held : PartName → Bool) (caller : ℕ) (desk : Bool) → IsLegal f → Went f f held caller desk None
went_nothing f held caller desk legal = went_grown f f held caller desk (grown_nothing f held caller desk) legal

pub went_noted : {P : Type 0} (stands : PartName → FrontData → P → Type 0) (f g : FrontData) (held : PartName → Bool) (caller : ℕ) (desk : Bool) (event : EventData)
    → Noted stands f g held caller desk event → IsLegal g → Went f g held caller desk (Some event)
went_noted stands f g held caller desk event n legal = record { between = n.between; grown = n.grown; touched = touches_same f n.between event n.grown.config; last = n.last; legal = legal }

-- a call for more parts is one for fewer
pub went_fewer : (f g : FrontData) (a b : PartName → Bool) (caller : ℕ) (desk : Bool) (event : Option EventData) → Among b a → Went f g a caller desk event → Went f g b caller desk event
went_fewer f g a b caller desk event among w = record { between = w.between; grown = grown_fewer f w.between a b caller desk among w.grown; touched = w.touched; last = w.last; legal = w.legal }

-- a stage's front is one that is equal to it
pub went_to : (f g h : FrontData) (held : PartName → Bool) (caller : ℕ) (desk : Bool) (event : Option EventData) → h ≡ g → Went f g held caller desk event → Went f h held caller desk event
went_to f g h held caller desk event e w = record { between = w.between; grown = w.grown; touched = w.touched; last = e ∙ w.last; legal = subst IsLegal (sym e) w.legal }

pub went_behind : WentBehind
went_behind f g h a b held caller desk event among_a among_b grown w =
    record { between = w.between; grown = grown_then f g w.between a b held caller desk among_a among_b grown w.grown; touched = touched_behind f g w.between event grown.config w.touched; last = w.last; legal = w.legal }

-- a call that noted nothing is a growth
pub grown_went : (f g : FrontData) (held : PartName → Bool) (caller : ℕ) (desk : Bool) → Went f g held caller desk None → Grown f g held caller desk
grown_went f g held caller desk w = subst (λ (k : FrontData). Grown f k held caller desk) (sym w.last) w.grown

pub went_before : WentBefore
went_before f g h a b held caller desk among_a among_b w grown legal =
    went_grown f h held caller desk (grown_then f g h a b held caller desk among_a among_b (grown_went f g a caller desk w) grown) legal

-- the event was legal where it was noted, behind a legal front
pub went_may : (f g : FrontData) (held : PartName → Bool) (caller : ℕ) (desk : Bool) (event : EventData) → (w : Went f g held caller desk (Some event)) → IsLegal w.between × May w.between event
unfolding AreLegal
went_may f g held caller desk event w =
    let here = legal-front w.between (event ∷ []) (subst IsLegal w.last w.legal) in (here.0, here.1.0)

own_noted : (caller : ℕ) (f : FrontData) (event : Option EventData) → own_events caller (with_noted f event).events ≡ own_events caller f.events ++ own_of caller event
own_noted caller f None = sym (append-nil (own_events caller f.events))
own_noted caller f (Some event) = filter-append (is_of caller) f.events (event ∷ [])

pub went_own : WentOwn
went_own f g held caller desk event w =
    ap (λ (k : FrontData). own_events caller k.events) w.last
    ∙ own_noted caller w.between event
    ∙ ap (λ (l : List EventData). l ++ own_of caller event) (grown_own f w.between held caller desk w.grown)

module _ {P : Type 0} where
  pub went_keeps : (stands : PartName → FrontData → P → Type 0) → KeepsUntouched stands → (f g : FrontData) (held : PartName → Bool) (caller : ℕ) (desk : Bool) (event : Option EventData) → Went f g held caller desk event
      → (p : PartName) (x : P) → held p ≡ true → LeavesPart f event p → stands p f x → stands p g x
  went_keeps stands law f g held caller desk None w p x h leaves s =
      keeps_along stands law f g held caller desk (grown_went f g held caller desk w) w.legal p x h s
  went_keeps stands law f g held caller desk (Some event) w p x h leaves s =
      let may = went_may f g held caller desk event w in
      subst (λ (k : FrontData). stands p k x) (sym w.last)
      (law p w.between event x may.0 may.1 (leaves_later f w.between (Some event) p w.touched leaves) (keeps_along stands law f w.between held caller desk w.grown may.0 p x h s))

-- A call that takes parts and then notes an event behind what it learnt.
pub went_taken : {P : Type 0} (stands : PartName → FrontData → P → Type 0) (f g h k : FrontData) (held holds : PartName → Bool) (caller number : ℕ) (desk has : Bool) (event : EventData)
    → Grown f g held caller desk → Among held holds → number ≡ caller → has ≡ desk → Noted stands g h holds number has event → IsLegal h → k ≡ h → Went f k held caller desk (Some event)
went_taken {P} stands f g h k held holds caller number desk has event grown among same_caller same_desk n legal last =
    went_to f h k held caller desk (Some event) last
    (went_behind f g h held holds held caller desk (Some event) (λ p t. t) among grown
    (subst (λ (b : Bool). Went g h holds caller b (Some event)) same_desk
    (subst (λ (m : ℕ). Went g h holds m has (Some event)) same_caller
    (went_noted stands g h holds number has event n legal))))
