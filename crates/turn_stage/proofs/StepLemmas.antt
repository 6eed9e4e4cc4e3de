-- Each atomic step of a pass keeps the rule.
use Rattle.std.proofs.Common.{◌≡◌, ◌≢◌, ◌⊎◌, ℕ, zero, suc, ◌+◌, ◌-◌, ◌%◌, ◌^◌, ◌<◌, ◌≤◌, ◌==◌, Bool, true, false, ◌||◌, List, [], ◌∷◌, ◌++◌, length, set, get_or, Option, Some, None, refl, sym, ap, ◌∙◌, subst, arith, ⊎_elim, inl, inr, length-append}
use Rattle.std.proofs.lemmas.List.{get_or-set_other, set-get_or}
use Rattle.std.specs.Prelude.{slice_index}
use Rattle.std.specs.List.{AllByRecursion}
use mathlib.Core.Option.{some, none}
use lib.ListN.{get_elem?}
use prog.Atomic.{either}
use Rattle.atomic_table.specs.Table.{State, Me, keeps, takes, gives, step, Allows}
use Rattle.atomic_table.proofs.Lists.{set_here, exchanged}
use Rattle.ep_model.specs.declared.config.Config.{Config}
use Rattle.ep_model.specs.declared.event.PartName.{PartName}
use Rattle.ep_model.specs.declared.data.EventData.{EventData}
use Rattle.ep_model.specs.declared.data.FrontData.{FrontData}
use Rattle.ep_model.specs.Front.{with_event}
use Rattle.ep_model.specs.Legal.{May, IsLegal}
use Rattle.hold_stage.specs.Touches.{there, same_part, touches}
use Rattle.hold_stage.specs.Grows.{Grown}
use Rattle.turn_stage.specs.declared.data.View.{View}
use Rattle.hold_stage.specs.Slots.{slot_of, name_of}
use Rattle.turn_stage.specs.Slots.{turn_of, has, without_part}
use Rattle.turn_stage.specs.Rule.{IsHeld, PassFits, Apart, AnySeat, IsHome, Turned, WasTaken}
use Rattle.turn_stage.specs.Plays.{part_of, Looked, Won, Lost, Tried, PutDown, PickedUp, Gave, Told}
use Rattle.hold_stage.proofs.SlotLemmas.{same_itself, slot_within, name_of_slot}
use Rattle.turn_stage.proofs.PartLemmas.{not_both, is_false, same_or, has_more, without_less, without_this, without_other}
use Rattle.hold_stage.proofs.GrowsLemmas.{grown_nothing, grown_fewer, keeps_along}
use Rattle.turn_stage.proofs.SeatLemmas.{at_one}
use Rattle.turn_stage.proofs.FrontLemmas.{start_bare}
use Rattle.turn_stage.proofs.MoveLemmas.{turn_here, turn_other, filled_other, held_other, moved}

pub all_each : {A : Type 0} (P Q : A → Type 0) (xs : List A) → ((x : A) → P x → Q x) → AllByRecursion P xs → AllByRecursion Q xs
all_each P Q [] step h = tt
all_each P Q (x ∷ xs) step h = (step x h.0, all_each P Q xs step h.1)

pub grown_length : (f h : FrontData) (held : PartName → Bool) (caller : ℕ) (desk : Bool) → Grown f h held caller desk → length f.events ≤ length h.events
grown_length f h held caller desk g = let e = ap (λ (l : List EventData). length l) g.events in let k = length-append f.events g.more in omega arith

-- a front that goes up to the history's end
pub apart_up : (u v : View) (h : FrontData) → Grown u.front h (has u.held) u.caller u.desk → Apart u v → Apart u (record v { front = h })
apart_up u v h g a = record {
  parts = a.parts;
  callers = a.callers;
  desks = a.desks;
  givers = a.givers;
  later = λ _ _. grown_length u.front h (has u.held) u.caller u.desk g;
  sooner = λ bare put. absurd (put (start_bare u.front h (has u.held) u.caller u.desk g bare));
  ended = a.ended;
  ends = a.ends;
}

module _ {P : Type 0} (stands : PartName → FrontData → P → Type 0) (keep : (p : PartName) (f : FrontData) (event : EventData) (x : P) → IsLegal f → May f event → touches f event p ≡ false → stands p f x → stands p (with_event f event) x) where
  -- only the view changes
  viewed : (s : State (Option P) View) (t : Turned stands s) (id : ℕ) (v w : View) → get_elem? s.views id ≡ some v → v.live ≡ true → w.live ≡ true
      → PassFits s.words s.homes t.history t.given w → ((u : View) → PassFits s.words s.homes t.history t.given u → Apart u v → Apart u w)
      → (w.front ≡ t.history) ⊎ (w.front ≡ v.front) → w.held ≡ v.held → w.desk ≡ v.desk → w.share ≡ v.share
      → Turned stands (record { words = s.words; homes = s.homes; views = set s.views id w })
  viewed s t id v w at live lives mine apart front held desk share =
      moved stands s t id v w s.words s.homes t.history.start t.history.events at live lives (record {
        legal = t.legal;
        counted = t.counted;
        wide = refl;
        slotted = refl;
        home = t.home;
        owned = λ part here taken. inr (taken, λ h. ap (λ (l : List PartName). has l part) held ∙ h);
        others = λ u alive f a. f;
        mine = mine;
        apart = apart;
        longest = ⊎_elim (λ e. inl e) (λ e. inr (refl, refl, e)) front;
        desk = λ h. desk ∙ h;
        unspoken = t.unspoken;
        share = share;
      })

  -- a word is read
  read : (s : State (Option P) View) (i id : ℕ) (w : View) → Turned stands (record { words = s.words; homes = s.homes; views = set s.views id w }) → Turned stands (record { words = set s.words i (slice_index s.words i); homes = s.homes; views = set s.views id w })
  read s i id w t = subst (λ (l : List ℕ). Turned stands (record { words = l; homes = s.homes; views = set s.views id w })) (sym (set-get_or s.words i 0)) t

  fits_up : (s : State (Option P) View) (t : Turned stands s) (v : View) → PassFits s.words s.homes t.history t.given v → PassFits s.words s.homes t.history t.given (record v { front = t.history })
  fits_up s t v f = record {
    follows = grown_nothing t.history (has v.held) v.caller v.desk;
    legal = t.legal;
    holds = f.holds;
    known = f.known;
    numbers = f.numbers;
    shares = f.shares;
    ended = f.ended;
    own = f.own;
    last = f.last;
  }

  pub looks : (slots id i : ℕ) (v : View) (c : List (ℕ × Option P)) → v.live ≡ true → Allows (Turned stands) slots id (v, c) i (λ n. n) (λ n m. Looked stands (v, c) m)
  looks slots id i v c live s t _ at _ =
      let f = t.fits id v at live in
      let w : View = record v { front = t.history } in (
        w,
        keeps,
        tt,
        read s i id w (viewed s t id v w at live live (fits_up s t v f) (λ u k a. apart_up u v t.history k.follows a) (inl refl) refl refl refl),
        record { is = refl; grown = f.follows; legal = t.legal; kept = keeps_along stands keep v.front t.history (has v.held) v.caller v.desk f.follows t.legal },
      )

  pub tells : (slots id i : ℕ) (v : View) (c : List (ℕ × Option P)) → v.live ≡ true → Allows (Turned stands) slots id (v, c) i (λ n. n) (λ n m. Told (v, c) m)
  tells slots id i v c live s t _ at _ =
      let f = t.fits id v at live in
      let w : View = record v { last = [] } in (
        w,
        keeps,
        tt,
        read s i id w (viewed s t id v w at live live
            (record { follows = f.follows; legal = f.legal; holds = f.holds; known = f.known; numbers = f.numbers; shares = f.shares; ended = f.ended; own = f.own; last = tt })
            (λ u k a. record { parts = a.parts; callers = a.callers; desks = a.desks; givers = a.givers; later = a.later; sooner = a.sooner; ended = a.ended; ends = a.ends })
            (inr refl) refl refl refl),
        record { is = refl; all = f.last },
      )

  -- the turn and the slot of one part change
  changed : (s : State (Option P) View) (t : Turned stands s) (id : ℕ) (v w : View) (part : PartName) (n : ℕ) (z : mathlib.Core.Option.Option (Option P)) → get_elem? s.views id ≡ some v → v.live ≡ true → w.live ≡ true
      → there t.history.config part ≡ true
      → ((u : View) → PassFits s.words s.homes t.history t.given u → Apart u v → has u.held part ≡ false)
      → (n ≡ 0 → IsHome stands (set s.homes (slot_of t.history.config part) z) t.history part)
      → (n ≢ 0 → has w.held part ≡ true)
      → ((q : PartName) → (q ≡ part → ⊥) → has v.held q ≡ true → has w.held q ≡ true)
      → PassFits (set s.words (slot_of t.history.config part + 1) n) (set s.homes (slot_of t.history.config part) z) t.history t.given w
      → ((u : View) → PassFits s.words s.homes t.history t.given u → Apart u v → Apart u w)
      → (w.front ≡ t.history) ⊎ (w.front ≡ v.front) → w.desk ≡ v.desk → w.share ≡ v.share
      → Turned stands (record { words = set s.words (slot_of v.front.config part + 1) n; homes = set s.homes (slot_of v.front.config part) z; views = set s.views id w })
  changed s t id v w part n z at live lives here alone home owned kept mine apart front desk share =
      subst (λ (c : Config). Turned stands (record { words = set s.words (slot_of c part + 1) n; homes = set s.homes (slot_of c part) z; views = set s.views id w })) (t.fits id v at live).follows.config
      (moved stands s t id v w (set s.words (slot_of t.history.config part + 1) n) (set s.homes (slot_of t.history.config part) z) t.history.start t.history.events at live lives (record {
        legal = t.legal;
        counted = get_or-set_other s.words (slot_of t.history.config part + 1) 0 n 0 (λ e. omega arith) ∙ t.counted;
        wide = search (Rattle.std.proofs.Common.length-set);
        slotted = search (Rattle.std.proofs.Common.length-set);
        home = λ q there free. same_or q part
            (λ e. subst (λ (r : PartName). IsHome stands (set s.homes (slot_of t.history.config part) z) t.history r) (sym e)
            (home (sym (turn_here s.words t.history.config part n within) ∙ subst (λ (r : PartName). turn_of (set s.words (slot_of t.history.config part + 1) n) t.history.config r ≡ 0) e free)))
            (λ other. let k = t.home q there (sym (turn_other s.words t.history.config part q n here there other) ∙ free) in
            record { value = k.value; at = filled_other s.homes t.history.config part q z here there other ∙ k.at; fine = k.fine });
        owned = λ q there taken. same_or q part
            (λ e. inl (subst (λ (r : PartName). has w.held r ≡ true) (sym e) (owned (λ free. taken (ap (λ (r : PartName). turn_of (set s.words (slot_of t.history.config part + 1) n) t.history.config r) e ∙ (turn_here s.words t.history.config part n within ∙ free))))))
            (λ other. inr ((λ free. taken (turn_other s.words t.history.config part q n here there other ∙ free)), kept q other));
        others = λ u alive f a. record {
          follows = f.follows;
          legal = f.legal;
          holds = λ q h. held_other s.words s.homes t.history.config u.hand part q n z here (λ e. not_both (has u.held part) (subst (λ (r : PartName). has u.held r ≡ true) e h) (alone u f a)) (f.holds q h);
          known = f.known;
          numbers = f.numbers;
          shares = f.shares;
          ended = f.ended;
          own = f.own;
          last = f.last;
        };
        mine = mine;
        apart = apart;
        longest = ⊎_elim (λ e. inl e) (λ e. inr (refl, refl, e)) front;
        desk = λ h. desk ∙ h;
        unspoken = t.unspoken;
        share = share;
      }))
    where
      within : slot_of t.history.config part + 1 < length s.words
      within = let k = slot_within t.history.config part here in let e = t.wide in omega arith

  -- a compare and exchange on a turn that isn't held
  won : (s : State (Option P) View) (t : Turned stands s) (id : ℕ) (v : View) (part : PartName) → get_elem? s.views id ≡ some v → v.live ≡ true → v.hand ≡ None
      → there t.history.config part ≡ true → turn_of s.words t.history.config part ≡ 0
      → Turned stands (record { words = set s.words (slot_of v.front.config part + 1) 1; homes = set s.homes (slot_of v.front.config part) none; views = set s.views id (record v { front = t.history; held = part ∷ v.held; hand = Some part }) })
  won s t id v part at live empty here free =
      let f = t.fits id v at live in
      let w : View = record v { front = t.history; held = part ∷ v.held; hand = Some part } in
      let mine_here : turn_of (set s.words (slot_of t.history.config part + 1) 1) t.history.config part ≡ 1 = turn_here s.words t.history.config part 1 (let k = slot_within t.history.config part here in let e = t.wide in omega arith) in
      changed s t id v w part 1 none at live live here alone
      (λ e. absurd (omega arith))
      (λ _. ap (λ (b : Bool). b || has v.held part) (same_itself part))
      (λ q other h. later (same_part q part) (has v.held q) h)
      (record {
        follows = grown_nothing t.history (has w.held) v.caller v.desk;
        legal = t.legal;
        holds = λ q h. has_more part v.held q h
            (λ e. subst (λ (r : PartName). IsHeld (set s.words (slot_of t.history.config part + 1) 1) (set s.homes (slot_of t.history.config part) none) t.history.config (Some part) r) (sym e)
            (record { there = here; taken = λ k. let m = mine_here in omega arith; home = λ k. absurd (k refl) }))
            (λ k. let was = f.holds q k in
            held_other s.words s.homes t.history.config (Some part) part q 1 none here (λ e. was.taken (ap (λ (r : PartName). turn_of s.words t.history.config r) e ∙ free))
            (record { there = was.there; taken = was.taken; home = λ _. was.home (λ e. let d = sym empty ∙ e in absurd (cc)) }));
        known = f.known;
        numbers = f.numbers;
        shares = f.shares;
        ended = f.ended;
        own = f.own;
        last = f.last;
      })
      (λ u k a. let up = apart_up u v t.history k.follows a in record {
        parts = λ q h. is_false (has w.held q) (λ m. has_more part v.held q m (λ e. not_both (has u.held part) (subst (λ (r : PartName). has u.held r ≡ true) e h) (alone u k a)) (λ n. not_both (has v.held q) n (a.parts q h)));
        callers = up.callers;
        desks = up.desks;
        givers = up.givers;
        later = up.later;
        sooner = up.sooner;
        ended = up.ended;
        ends = up.ends;
      })
      (inl refl) refl refl
    where
      alone : (u : View) → PassFits s.words s.homes t.history t.given u → Apart u v → has u.held part ≡ false
      alone u f a = is_false (has u.held part) (λ h. (f.holds part h).taken free)

      later : (a b : Bool) → b ≡ true → (a || b) ≡ true
      later true b e = refl
      later false b e = e

  -- who finds a turn taken knows that somebody else has the part
  pub taken_by : (s : State (Option P) View) → Turned stands s → (id : ℕ) (v : View) (part : PartName) → get_elem? s.views id ≡ some v → v.live ≡ true
      → there v.front.config part ≡ true → turn_of s.words v.front.config part ≢ 0 → WasTaken stands part v
  taken_by s t id v part at live here taken = record {
    state = s;
    rule = t;
    seat = id;
    at = at;
    turn = taken;
    holder = λ free. record {
      seat = owner.seat;
      view = owner.view;
      at = owner.at;
      live = owner.live;
      has = (owner.has, t.apart id owner.seat v owner.view at owner.at live owner.live (λ e. not_both (has v.held part) (ap (λ (u : View). has u.held part) (at_one s.views id owner.seat v owner.view at owner.at e) ∙ owner.has) free));
    };
  }
    where
      config : v.front.config ≡ t.history.config
      config = sym (t.fits id v at live).follows.config

      owner : AnySeat (λ u. has u.held part ≡ true) s.views
      owner = t.owned part (subst (λ (k : Config). there k part ≡ true) config here) (subst (λ (k : Config). turn_of s.words k part ≢ 0) config taken)

  pub named : (slots a b : ℕ) (v : View) (part : PartName) → there v.front.config part ≡ true → part_of (step {S = Option P} slots (slot_of v.front.config part + 1) a b none) v ≡ part
  named slots a b v part here =
      let e : slot_of v.front.config part + 1 - 1 ≡ slot_of v.front.config part = omega arith in
      ap (name_of v.front.config) e ∙ name_of_slot v.front.config part here

  pub tries : (slots id : ℕ) (v : View) (c : List (ℕ × Option P)) (part : PartName) → v.live ≡ true → v.hand ≡ None → there v.front.config part ≡ true
      → Allows (Turned stands) slots id (v, c) (slot_of v.front.config part + 1) (λ n. either (n == 0) 1 n) (λ n m. Tried stands (step slots (slot_of v.front.config part + 1) 0 1 none) (v, c) n m)
  tries slots id v c part live empty here s t _ at _ =
      exchanged (slice_index s.words i) 0 1 (λ n. (w : View) × (a : Rattle.atomic_table.specs.Table.Act (Option P)) × Rattle.atomic_table.specs.Table.Valid s.homes c a × Turned stands (Rattle.atomic_table.specs.Table.stepped s i n id c w a) × Tried stands st (v, c) (slice_index s.words i) (w, Rattle.atomic_table.specs.Table.carried_after c a))
      (λ e.
      let free : turn_of s.words t.history.config part ≡ 0 = ap (λ (k : Config). turn_of s.words k part) config ∙ e in
      let home = t.home part there_now free in (
        record v { front = t.history; held = part ∷ v.held; hand = Some part },
        takes (slot_of v.front.config part) (Some home.value),
        ap (λ (k : Config). get_elem? s.homes (slot_of k part)) (sym config) ∙ home.at,
        won s t id v part at live empty there_now free,
        record {
          won = λ _. subst (λ (p : PartName). Won stands p (v, c) (record v { front = t.history; held = part ∷ v.held; hand = Some part }, (slot_of v.front.config part, Some home.value) ∷ c)) same
              (record { value = home.value; is = refl; grown = f.follows; legal = t.legal; kept = keeps_along stands keep v.front t.history (has v.held) v.caller v.desk f.follows t.legal; fine = home.fine });
          lost = λ n. absurd (n e);
        },
      ))
      (λ n. (
        record v { losses = v.losses + 1 },
        keeps,
        tt,
        read s i id (record v { losses = v.losses + 1 })
            (viewed s t id v (record v { losses = v.losses + 1 }) at live live
            (record { follows = f.follows; legal = f.legal; holds = f.holds; known = f.known; numbers = f.numbers; shares = f.shares; ended = f.ended; own = f.own; last = f.last })
            (λ u k a. record { parts = a.parts; callers = a.callers; desks = a.desks; givers = a.givers; later = a.later; sooner = a.sooner; ended = a.ended; ends = a.ends })
            (inr refl) refl refl refl),
        record {
          won = λ e. absurd (n e);
          lost = λ _. subst (λ (p : PartName). Lost stands p (v, c) (record v { losses = v.losses + 1 }, c)) same (record { is = refl; taken = was_taken n; legal = f.legal });
        },
      ))
    where
      i : ℕ
      i = slot_of v.front.config part + 1

      st : Rattle.atomic_table.specs.Table.Step (Option P)
      st = step slots (slot_of v.front.config part + 1) 0 1 none

      f : PassFits s.words s.homes t.history t.given v
      f = t.fits id v at live

      config : t.history.config ≡ v.front.config
      config = f.follows.config

      there_now : there t.history.config part ≡ true
      there_now = subst (λ (k : Config). there k part ≡ true) (sym config) here

      same : part ≡ part_of st v
      same = sym (named slots 0 1 v part here)

      was_taken : slice_index s.words i ≢ 0 → WasTaken stands part v
      was_taken n = taken_by s t id v part at live here n

  -- the same pass with another part on the way
  apart_hand : (u v : View) (hand : Option PartName) → Apart u v → Apart u (record v { hand = hand })
  apart_hand u v hand a = record { parts = a.parts; callers = a.callers; desks = a.desks; givers = a.givers; later = a.later; sooner = a.sooner; ended = a.ended; ends = a.ends }

  abbrev from : {A : Type 0} → A → Option A → A
  from d None = d
  from d (Some x) = x

  one_hand : (hand : Option PartName) (p q : PartName) → hand ≡ Some p → hand ≡ Some q → p ≡ q
  one_hand hand p q a b = ap (from p) (sym a ∙ b)

  -- while a turn is held its slot is put down and taken up
  hands : (s : State (Option P) View) (t : Turned stands s) (id : ℕ) (v : View) (part : PartName) (hand : Option PartName) (z : mathlib.Core.Option.Option (Option P)) → get_elem? s.views id ≡ some v → v.live ≡ true
      → has v.held part ≡ true
      → (hand ≢ Some part → (y : Option P) × (z ≡ some y))
      → ((q : PartName) → (q ≡ part → ⊥) → hand ≢ Some q → v.hand ≢ Some q)
      → Turned stands (record { words = set s.words (slot_of v.front.config part + 1) (slice_index s.words (slot_of v.front.config part + 1)); homes = set s.homes (slot_of v.front.config part) z; views = set s.views id (record v { hand = hand }) })
  hands s t id v part hand z at live held full others =
      changed s t id v (record v { hand = hand }) part n z at live live was.there
      (λ u k a. is_false (has u.held part) (λ h. not_both (has v.held part) held (a.parts part h)))
      (λ e. absurd (taken e))
      (λ _. held)
      (λ q other h. h)
      (record {
        follows = f.follows;
        legal = f.legal;
        holds = λ q h. same_or q part
            (λ e. subst (λ (r : PartName). IsHeld (set s.words (slot_of t.history.config part + 1) n) (set s.homes (slot_of t.history.config part) z) t.history.config hand r) (sym e)
            (record {
              there = was.there;
              taken = λ k. taken (sym (turn_here s.words t.history.config part n (let m = slot_within t.history.config part was.there in let w = t.wide in omega arith)) ∙ k);
              home = λ k. let y = full k in (y.0, set_here s.homes (slot_of t.history.config part) z (let m = slot_within t.history.config part was.there in let w = t.slotted in omega arith) ∙ ap some y.1);
            }))
            (λ other. let k = f.holds q h in
            held_other s.words s.homes t.history.config hand part q n z was.there other (record { there = k.there; taken = k.taken; home = λ m. k.home (others q other m) }));
        known = f.known;
        numbers = f.numbers;
        shares = f.shares;
        ended = f.ended;
        own = f.own;
        last = f.last;
      })
      (λ u k a. apart_hand u v hand a)
      (inr refl) refl refl
    where
      f : PassFits s.words s.homes t.history t.given v
      f = t.fits id v at live

      was : IsHeld s.words s.homes t.history.config v.hand part
      was = f.holds part held

      n : ℕ
      n = slice_index s.words (slot_of v.front.config part + 1)

      taken : n ≢ 0
      taken e = was.taken (ap (λ (k : Config). turn_of s.words k part) f.follows.config ∙ e)

  pub puts_down : (slots id : ℕ) (v : View) (c : List (ℕ × Option P)) (part : PartName) (y : Option P) → v.live ≡ true → v.hand ≡ Some part → has v.held part ≡ true
      → Allows (Turned stands) slots id (v, (slot_of v.front.config part, y) ∷ c) (slot_of v.front.config part + 1) (λ n. n) (λ n m. PutDown (v, (slot_of v.front.config part, y) ∷ c) m)
  puts_down slots id v c part y live hand held s t _ at _ = (
    record v { hand = None },
    gives,
    tt,
    hands s t id v part None (some y) at live held (λ _. (y, refl)) (λ q other _ e. other (one_hand v.hand q part e hand)),
    refl,
  )

  pub picks_up : (slots id : ℕ) (v : View) (c : List (ℕ × Option P)) (part : PartName) → v.live ≡ true → v.hand ≡ None → has v.held part ≡ true → there v.front.config part ≡ true
      → Allows (Turned stands) slots id (v, c) (slot_of v.front.config part + 1) (λ n. n) (λ n m. PickedUp (part_of (step {S = Option P} slots (slot_of v.front.config part + 1) 0 0 none) v) (v, c) m)
  picks_up slots id v c part live empty held here s t _ at _ =
      let f = t.fits id v at live in
      let y = (f.holds part held).home (λ e. let d = sym empty ∙ e in absurd (cc)) in (
        record v { hand = Some part },
        takes (slot_of v.front.config part) y.0,
        ap (λ (k : Config). get_elem? s.homes (slot_of k part)) (sym f.follows.config) ∙ y.1,
        hands s t id v part (Some part) none at live held (λ n. absurd (n refl)) (λ q other _ e. let d = sym empty ∙ e in absurd (cc)),
        subst (λ (p : PartName). PickedUp p (v, c) (record v { hand = Some part }, (slot_of v.front.config part, y.0) ∷ c)) (sym (named slots 0 0 v part here)) (record { found = y.0; is = refl }),
      )

  pub gives_back : (slots id : ℕ) (v : View) (c : List (ℕ × Option P)) (part : PartName) (x : P) → v.live ≡ true → v.hand ≡ Some part → has v.held part ≡ true → there v.front.config part ≡ true → stands part v.front x
      → Allows (Turned stands) slots id (v, (slot_of v.front.config part, Some x) ∷ c) (slot_of v.front.config part + 1) (λ _. 0)
      (λ _ m. Gave (part_of (step {S = Option P} slots (slot_of v.front.config part + 1) 0 0 none) v) (v, (slot_of v.front.config part, Some x) ∷ c) m)
  gives_back slots id v c part x live hand held here fine s t _ at _ = (
    w,
    gives,
    tt,
    changed s t id v w part 0 (some (Some x)) at live live was.there
        (λ u k a. is_false (has u.held part) (λ h. not_both (has v.held part) held (a.parts part h)))
        (λ _. record {
          value = x;
          at = set_here s.homes (slot_of t.history.config part) (some (Some x)) (let m = slot_within t.history.config part was.there in let e = t.slotted in omega arith);
          fine = keeps_along stands keep v.front t.history (has v.held) v.caller v.desk f.follows t.legal part x held fine;
        })
        (λ n. absurd (n refl))
        (λ q other h. without_other part v.held q h other)
        (record {
          follows = grown_fewer v.front t.history (has v.held) (has w.held) v.caller v.desk (λ q h. without_less part v.held q h) f.follows;
          legal = f.legal;
          holds = λ q h.
              let other = without_this part v.held q h in
              let k = f.holds q (without_less part v.held q h) in
              held_other s.words s.homes t.history.config None part q 0 (some (Some x)) was.there other (record { there = k.there; taken = k.taken; home = λ _. k.home (λ e. other (one_hand v.hand q part e hand)) });
          known = f.known;
          numbers = f.numbers;
          shares = f.shares;
          ended = f.ended;
          own = f.own;
          last = f.last;
        })
        (λ u k a. record {
          parts = λ q h. is_false (has w.held q) (λ m. not_both (has v.held q) (without_less part v.held q m) (a.parts q h));
          callers = a.callers;
          desks = a.desks;
          givers = a.givers;
          later = a.later;
          sooner = a.sooner;
          ended = a.ended;
          ends = a.ends;
        })
        (inr refl) refl refl,
    ap (λ (p : PartName). (record v { hand = None; held = without_part p v.held }, c)) (sym (named slots 0 0 v part here)),
  )
    where
      w : View
      w = record v { hand = None; held = without_part part v.held }

      f : PassFits s.words s.homes t.history t.given v
      f = t.fits id v at live

      was : IsHeld s.words s.homes t.history.config v.hand part
      was = f.holds part held
