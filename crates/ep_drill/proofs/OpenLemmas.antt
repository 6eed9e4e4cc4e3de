-- How a vBucket opens: what stands for its history then.
use Rattle.std.proofs.Common.{◌≡◌, ◌<◌, ℕ, zero, suc, ◌+◌, Bool, true, false, List, [], ◌∷◌, ◌++◌, length, refl, sym, ap, subst, ◌∙◌, arith, length-append, append_assoc, ◌⊎◌, inl, inr}
use Rattle.std.specs.Prelude.{Option, Some, IsSome, nat_lt, ◌==◌, ◌||◌, slice_get, if◌then◌else◌}
use Rattle.std.proofs.lemmas.Bool.{cases_eq}
use Rattle.std.proofs.lemmas.Bool.Decides.{nat_tests}
use Rattle.std.specs.FinMap.{get-empty}
use Rattle.ep_model.specs.declared.config.Config.{Config}
use Rattle.ep_model.specs.declared.data.EventData.{EventData}
use Rattle.ep_model.specs.declared.data.EventData.TheVariants as events
use Rattle.ep_model.specs.declared.data.FrontData.{FrontData}
use Rattle.ep_model.specs.declared.data.StartData.{StartData}
use Rattle.ep_model.specs.declared.event.PartName.{PartName}
use Rattle.ep_model.specs.declared.event.PartName.TheVariants.{Stripe, Queue, Desk}
use Rattle.ep_model.specs.World.{Doc}
use Rattle.ep_model.specs.Front.{empty_start, world_of}
use Rattle.ep_model.specs.Legal.{May}
use Rattle.hold_stage.specs.Touches.{there, touches, is_of, is_call, is_desks}
use Rattle.hold_stage.specs.Grows.{Covered, IsOwn}
use Rattle.vb_world.specs.World.{name_of, bare_front, StandBare}
use Rattle.vb_world.proofs.ListLemmas.{get_push, get_push_last}
use Rattle.ep_drill.specs.declared.part.Part.{Part}
use Rattle.ep_drill.specs.declared.part.Part.TheVariants as parts
use Rattle.flat_parts.specs.declared.data.StripeData.{StripeData}
use Rattle.flat_parts.specs.declared.data.QueueData.{QueueData}
use Rattle.ep_drill.specs.Parts.{part_stands}
use Rattle.ep_drill.specs.Stands.{MayBeGone, StripeStands, QueueStands}
use Rattle.ep_drill.specs.Opens.{empty_stripe, empty_queue, bare_stripes, bare_list, HasJustOpened}

or_false : (b : Bool) → (b || false) ≡ true → b ≡ true
or_false true is = refl
or_false false is = is

-- a front in which nothing happened, or that alone that the vBucket opened
abbrev front_with : FrontData → Option StartData → List EventData → FrontData
front_with f start list = record f { start = start; events = list }

-- what stands for a vBucket that has just opened with nothing stored
stripe_new : (f : FrontData) (stripe : ℕ) → nat_lt stripe f.config.stripes ≡ true → StripeStands (front_with f (Some empty_start) (events.Opened ∷ [])) stripe (empty_stripe true stripe)
stripe_new f stripe here = record {
  there = here;
  index = refl;
  nodes = λ key node is. absurd (cc);
  gone = λ opened key at is. subst (λ (o : Option Doc). MayBeGone 0 o) (sym (get-empty _ key)) tt;
  mark = refl;
  state = refl;
  opened = refl;
  places = tt;
  next = (tt, tt);
  closed = λ is. refl;
  is_told = refl;
}

front_is : (f : FrontData) → HasJustOpened f → f ≡ front_with f (Some empty_start) (events.Opened ∷ [])
front_is f new = ap (λ (o : Option StartData). front_with f o f.events) new.start ∙ ap (λ (l : List EventData). front_with f (Some empty_start) l) new.events

stripe_opened : (f : FrontData) (stripe : ℕ) → HasJustOpened f → nat_lt stripe f.config.stripes ≡ true → StripeStands f stripe (empty_stripe true stripe)
stripe_opened f stripe new here = subst (λ (g : FrontData). StripeStands g stripe (empty_stripe true stripe)) (sym (front_is f new)) (stripe_new f stripe here)

pub stripe_given : (f g : FrontData) (stripe : ℕ) (bare x : StripeData) → HasJustOpened f → g ≡ f → stripe < f.config.stripes → bare ≡ empty_stripe false stripe → x ≡ record bare { opened = true } → StripeStands g stripe x
stripe_given f g stripe bare x new front here is opens =
    subst (λ (h : FrontData). StripeStands h stripe x) (sym front)
    (subst (λ (y : StripeData). StripeStands f stripe y) (sym (opens ∙ ap (λ (y : StripeData). record y { opened = true }) is)) (stripe_opened f stripe new (grind (arith, nat_tests))))

-- It opens once it has a start, where all its parts are held and nothing happened.
pub may_open : (f : FrontData) (start : StartData) → f.start ≡ Some start → f.events ≡ [] → May f events.Opened
unfolding May
may_open f start put none = record { put = subst (λ (o : Option StartData). IsSome o) (sym put) refl; unopened = ap (λ (l : List EventData). (world_of (record f { events = l })).opened) none }

pub own_opened : (number : ℕ) (desk : Bool) → desk ≡ true → IsOwn number desk events.Opened
unfolding is_of is_call is_desks
own_opened number desk is = record { own = λ t. absurd (cc); desks = λ _. is }

pub open_covered : (f : FrontData) (holds : PartName → Bool) → ((p : PartName) → there f.config p ≡ true → holds p ≡ true) → Covered holds f events.Opened
unfolding touches
open_covered f holds all (Stripe stripe) is = all (Stripe stripe) (or_false (nat_lt stripe f.config.stripes) is)
open_covered f holds all Queue is = all Queue refl
open_covered f holds all Desk is = all Desk refl

-- The parts of a vBucket that hasn't opened: how many there are, and each at its place.
bare_length : (n : ℕ) → length (bare_stripes n) ≡ n
bare_length zero = refl
bare_length (suc n) = length-append (bare_stripes n) (parts.Stripe (empty_stripe false n) ∷ []) ∙ (let rest = bare_length n in omega arith)

bare_count : (stripes : ℕ) → length (bare_list stripes) ≡ stripes + 2
bare_count stripes = length-append (bare_stripes stripes) (parts.Queue (empty_queue false) ∷ parts.Desk (record { persisted = 0 }) ∷ []) ∙ ap (λ n. n + 2) (bare_length stripes)

-- each of the stripes has its index
bare_get : (n slot : ℕ) (x : Part) → slice_get (bare_stripes n) slot ≡ Some x → (slot < n) × (x ≡ parts.Stripe (empty_stripe false slot))
bare_get zero slot x is = absurd (cc)
bare_get (suc n) slot x is =
    let one = parts.Stripe (empty_stripe false n) in
    elim (cases_eq slot n) [
      | inl here ↦
          let last : slice_get (bare_stripes n ++ one ∷ []) slot ≡ Some one =
          ap (slice_get (bare_stripes n ++ one ∷ [])) (here ∙ sym (bare_length n)) ∙ get_push_last (bare_stripes n) one in
          let same : x ≡ one = (let e = sym last ∙ is in cc) in
          ((let h = here in omega arith), same ∙ ap (λ k. parts.Stripe (empty_stripe false k)) (sym here))
      | inr apart ↦
          let rest = bare_get n slot x (sym (get_push (bare_stripes n) one slot (λ e. apart (e ∙ bare_length n))) ∙ is) in
          ((let h = rest.0 in omega arith), rest.1)
    ]

-- each of them stands where nothing happened
stripe_bare : (config : Config) (id stripe : ℕ) → nat_lt stripe config.stripes ≡ true → StripeStands (bare_front config id) stripe (empty_stripe false stripe)
stripe_bare config id stripe here = record {
  there = here;
  index = refl;
  nodes = λ key node is. absurd (cc);
  gone = λ opened key at is. absurd (let e : false ≡ true = opened in cc);
  mark = refl;
  state = refl;
  opened = refl;
  places = tt;
  next = tt;
  closed = λ is. refl;
  is_told = refl;
}

queue_bare : (config : Config) (id : ℕ) → QueueStands (bare_front config id) (empty_queue false)
queue_bare config id = record { numbers = refl; items = λ told. refl; high = refl; maxcas = refl; persisted = refl; state = refl; opened = refl; uuid = refl }

-- a part by the tests of which place it has
abbrev named : Bool → Bool → ℕ → PartName
named low here slot = if low then Stripe slot else (if here then Queue else Desk)

at_stripe : (config : Config) (id slot : ℕ) (x : Part) → slot < config.stripes → x ≡ parts.Stripe (empty_stripe false slot) → part_stands (name_of config slot) (bare_front config id) x
at_stripe config id slot x low is =
    let test : nat_lt slot config.stripes ≡ true = grind (arith, nat_tests) in
    subst (λ (y : Part). part_stands (name_of config slot) (bare_front config id) y) (sym is)
    (subst (λ (b : Bool). part_stands (named b (slot == config.stripes) slot) (bare_front config id) (parts.Stripe (empty_stripe false slot))) (sym test) (stripe_bare config id slot test))

at_queue : (config : Config) (id slot : ℕ) (x : Part) → slot ≡ config.stripes → x ≡ parts.Queue (empty_queue false) → part_stands (name_of config slot) (bare_front config id) x
at_queue config id slot x here is =
    let low : nat_lt slot config.stripes ≡ false = grind (arith, nat_tests) in
    let test : (slot == config.stripes) ≡ true = grind (arith, nat_tests) in
    subst (λ (y : Part). part_stands (name_of config slot) (bare_front config id) y) (sym is)
    (subst (λ (b : Bool). part_stands (named b (slot == config.stripes) slot) (bare_front config id) (parts.Queue (empty_queue false))) (sym low)
    (subst (λ (b : Bool). part_stands (named false b slot) (bare_front config id) (parts.Queue (empty_queue false))) (sym test) (queue_bare config id)))

at_desk : (config : Config) (id slot : ℕ) (x : Part) → slot ≡ config.stripes + 1 → x ≡ parts.Desk (record { persisted = 0 }) → part_stands (name_of config slot) (bare_front config id) x
at_desk config id slot x here is =
    let low : nat_lt slot config.stripes ≡ false = grind (arith, nat_tests) in
    let test : (slot == config.stripes) ≡ false = grind (arith, nat_tests) in
    subst (λ (y : Part). part_stands (name_of config slot) (bare_front config id) y) (sym is)
    (subst (λ (b : Bool). part_stands (named b (slot == config.stripes) slot) (bare_front config id) (parts.Desk (record { persisted = 0 }))) (sym low)
    (subst (λ (b : Bool). part_stands (named false b slot) (bare_front config id) (parts.Desk (record { persisted = 0 }))) (sym test) refl))

-- a list with one more behind has it at its end, and the others before
last_or_before : {A : Type 0} (xs : List A) (y x : A) (slot : ℕ) → slice_get (xs ++ y ∷ []) slot ≡ Some x → ((slot ≡ length xs) × (x ≡ y)) ⊎ (slice_get xs slot ≡ Some x)
last_or_before {A} xs y x slot is =
    elim (cases_eq slot (length xs)) [
      | inl here ↦ inl (here, (let e : Some y ≡ Some x = sym (ap (slice_get (xs ++ y ∷ [])) here ∙ get_push_last xs y) ∙ is in cc))
      | inr apart ↦ inr (sym (get_push xs y slot apart) ∙ is)
    ]

bare_at : (config : Config) (id n slot : ℕ) (x : Part) → config.stripes ≡ n → slice_get ((bare_stripes n ++ parts.Queue (empty_queue false) ∷ []) ++ parts.Desk (record { persisted = 0 }) ∷ []) slot ≡ Some x
    → part_stands (name_of config slot) (bare_front config id) x
bare_at config id n slot x stripes is =
    let queue = parts.Queue (empty_queue false) in
    let size : length (bare_stripes n ++ queue ∷ []) ≡ n + 1 = length-append (bare_stripes n) (queue ∷ []) ∙ ap (λ k. k + 1) (bare_length n) in
    elim (last_or_before (bare_stripes n ++ queue ∷ []) (parts.Desk (record { persisted = 0 })) x slot is) [
      | inl desk ↦ at_desk config id slot x (desk.0 ∙ size ∙ ap (λ k. k + 1) (sym stripes)) desk.1
      | inr before ↦ elim (last_or_before (bare_stripes n) queue x slot before) [
        | inl here ↦ at_queue config id slot x (here.0 ∙ bare_length n ∙ sym stripes) here.1
        | inr low ↦ let k = bare_get n slot x low in at_stripe config id slot x (let h = k.0 in omega arith) k.1
      ]
    ]

-- the stripes, behind them the queue, and the desk at the end
abbrev in_turn : List Part → QueueData → List Part
in_turn list q = (list ++ parts.Queue q ∷ []) ++ parts.Desk (record { persisted = 0 }) ∷ []

pub made_items : (stripes : ℕ) (first then_queue then_desk : List Part) (q : QueueData) → first ≡ bare_stripes stripes → q ≡ empty_queue false
    → then_queue ≡ first ++ parts.Queue q ∷ [] → then_desk ≡ then_queue ++ parts.Desk (record { persisted = 0 }) ∷ [] → then_desk ≡ bare_list stripes
made_items stripes first then_queue then_desk q is queue second third =
    third ∙ ap (λ (l : List Part). l ++ parts.Desk (record { persisted = 0 }) ∷ []) second
    ∙ ap (λ (l : List Part). in_turn l q) is ∙ ap (λ (r : QueueData). in_turn (bare_stripes stripes) r) queue
    ∙ append_assoc (bare_stripes stripes) (parts.Queue (empty_queue false) ∷ []) (parts.Desk (record { persisted = 0 }) ∷ [])

pub made_stand : (stripes : ℕ) (list : List Part) → list ≡ bare_list stripes → (config : Config) (id : ℕ) → config.stripes ≡ stripes → StandBare part_stands config id list
made_stand stripes list is config id same slot x found =
    bare_at config id stripes slot x same
    (ap (λ (l : List Part). slice_get l slot) (append_assoc (bare_stripes stripes) (parts.Queue (empty_queue false) ∷ []) (parts.Desk (record { persisted = 0 }) ∷ []) ∙ sym is) ∙ found)

pub made_count : (stripes : ℕ) (list : List Part) → list ≡ bare_list stripes → length list ≡ stripes + 2
made_count stripes list is = ap (λ (l : List Part). length l) is ∙ bare_count stripes
