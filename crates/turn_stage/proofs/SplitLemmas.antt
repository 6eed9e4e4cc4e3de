-- Passes are split off and joined: the rule is kept.
use Rattle.std.proofs.Common.{◌≡◌, ◌≢◌, ◌⊎◌, ℕ, ◌+◌, ◌-◌, ◌<◌, ◌≤◌, Bool, true, false, ◌||◌, List, [], ◌∷◌, ◌++◌, length, set, Option, None, if◌then◌else◌, refl, sym, ap, ◌∙◌, subst, arith, ⊎_elim, inl, inr}
use Rattle.std.specs.List.{AllByRecursion}
use mathlib.Core.Option.{some}
use mathlib.Core.Logic.{dite}
use native.Mathlib.Decide.{ℕ_discrete}
use lib.ListN.{get_elem?}
use Rattle.atomic_table.specs.Table.{State, Splits, Joins}
use Rattle.atomic_table.proofs.Lists.{at_set, set_here, set_else}
use Rattle.ep_model.specs.declared.event.PartName.{PartName}
use Rattle.ep_model.specs.declared.data.EventData.{EventData}
use Rattle.ep_model.specs.declared.data.FrontData.{FrontData}
use Rattle.ep_model.specs.Front.{with_start}
use Rattle.hold_stage.specs.Touches.{is_of}
use Rattle.hold_stage.specs.Grows.{IsNone, Grown}
use Rattle.hold_stage.proofs.GrowsLemmas.{grown_fewer, grown_still}
use Rattle.hold_stage.proofs.LaterLemmas.{all_append}
use Rattle.turn_stage.specs.declared.data.View.{View}
use Rattle.turn_stage.specs.Slots.{has}
use Rattle.turn_stage.specs.Rule.{IsEnded, PassFits, Apart, AnySeat, IsUnspoken, Turned}
use Rattle.turn_stage.specs.Plays.{longer, without_number, with_number, gives, joined_view, spent_view}
use Rattle.turn_stage.proofs.PartLemmas.{not_both}
use Rattle.turn_stage.proofs.SeatLemmas.{at_within, at_one, each_set, two_set, any_set, each_push, two_push, any_push, shares_set, shares_push}
use Rattle.turn_stage.proofs.MoveLemmas.{apart_turned}
use Rattle.turn_stage.proofs.StepLemmas.{all_each}
use Rattle.turn_stage.proofs.LongerLemmas.{IsOthers, quiet_others, others_quiet, Before, ordered, shorter_grown, longer_mine, longer_other, longer_whole}

all_back : {A : Type 0} (P : A → Type 0) (xs ys : List A) → AllByRecursion P (xs ++ ys) → AllByRecursion P ys
all_back P [] ys all = all
all_back P (x ∷ xs) ys all = all_back P xs ys all.1

-- who is seen as somebody who holds nothing, isn't the desk's and has this number
pub grown_as : (f h : FrontData) (held : PartName → Bool) (caller other : ℕ) (desk : Bool) → Grown f h held caller desk → ((more : List EventData) → h.events ≡ f.events ++ more → AllByRecursion (λ event. is_of other event ≡ false) more)
    → Grown f h (λ _. false) other false
grown_as f h held caller other desk g silent = record {
  more = g.more;
  config = g.config;
  id = g.id;
  events = g.events;
  quiet = others_quiet (with_start f h.start) (λ _. false) other false g.more (λ _. refl) (all_each (λ e. is_of other e ≡ false) (IsOthers other false) g.more (λ e k. (k, λ c. absurd (cc))) (silent g.more g.events));
  start = ⊎_elim (λ k. inl k) (λ k. inr (k.0, (λ _. refl), refl)) g.start;
}

-- a pass that ended
pub grown_ended : (f h : FrontData) (held : PartName → Bool) (caller : ℕ) (desk : Bool) → Grown f h held caller desk → Grown f h (λ _. false) caller false
grown_ended f h held caller desk g = record {
  more = g.more;
  config = g.config;
  id = g.id;
  events = g.events;
  quiet = others_quiet (with_start f h.start) (λ _. false) caller false g.more (λ _. refl)
      (all_each (IsOthers caller desk) (IsOthers caller false) g.more (λ e k. (k.0, λ c. absurd (cc))) (quiet_others (with_start f h.start) held caller desk g.more g.quiet));
  start = ⊎_elim (λ k. inl k) (λ k. inr (k.0, (λ _. refl), refl)) g.start;
}

module _ {P : Type 0} (stands : PartName → FrontData → P → Type 0) where
  -- one number more was given
  fits_more : (s : State (Option P) View) (t : Turned stands s) (u v : View) → PassFits s.words s.homes t.history t.given u → Apart u v → v.next < v.end → PassFits s.words s.homes t.history (t.given + 1) u
  fits_more s t u v f a gives = record {
    follows = f.follows;
    legal = f.legal;
    holds = f.holds;
    known = let k = f.known in omega arith;
    numbers = λ h. absurd (⊎_elim (λ e. omega arith) (λ e. omega arith) a.givers);
    shares = f.shares;
    ended = all_each (IsEnded t.history t.given) (IsEnded t.history (t.given + 1)) u.ended (λ e k. record { below = (let b = k.below in omega arith); grown = k.grown }) f.ended;
    own = f.own;
    last = f.last;
  }

  below_next : (s : State (Option P) View) (t : Turned stands s) (next : ℕ) (ended : List (ℕ × FrontData)) → next ≡ t.given → AllByRecursion (IsEnded t.history t.given) ended → AllByRecursion (λ e. e.0 ≢ next) ended
  below_next s t next ended is all = all_each (IsEnded t.history t.given) (λ e. e.0 ≢ next) ended (λ e k same. let b = k.below in absurd (omega arith)) all

  split_rule : (s : State (Option P) View) (t : Turned stands s) (id : ℕ) (v : View) → get_elem? s.views id ≡ some v → v.live ≡ true → v.next < v.end
      → Turned stands (record { words = s.words; homes = s.homes; views = set s.views id (without_number v) ++ with_number v ∷ [] })
  split_rule s t id v at live number = record {
    history = t.history;
    given = t.given + 1;
    legal = t.legal;
    striped = t.striped;
    counted = t.counted;
    wide = t.wide;
    slotted = t.slotted;
    home = t.home;
    owned = λ p here taken. any_push (λ u. has u.held p ≡ true) left new (any_set (λ u. has u.held p ≡ true) s.views id v l at (t.owned p here taken) (λ h. (live, h)));
    fits = each_push (PassFits s.words s.homes t.history (t.given + 1)) left new
        (each_set (PassFits s.words s.homes t.history (t.given + 1)) s.views id l (λ i u other there alive. fits_more s t u v (t.fits i u there alive) (t.apart i id u v there at alive live other) number) (λ _. mine))
        theirs;
    apart = two_push Apart apart_turned left new
        (two_set Apart apart_turned s.views id l t.apart (λ i u other there alive _. still u (t.apart i id u v there at alive live other)))
        (each_set (λ u. Apart u new) s.views id l (λ i u other there alive. beside u (t.fits i u there alive) (t.apart i id u v there at alive live other)) (λ _. between));
    longest = any_push (λ u. u.front ≡ t.history) left new (any_set (λ u. u.front ≡ t.history) s.views id v l at t.longest (λ h. (live, h)));
    desked = any_push (λ u. u.desk ≡ true) left new (any_set (λ u. u.desk ≡ true) s.views id v l at t.desked (λ h. (live, h)));
    unspoken = λ caller above. t.unspoken caller (omega arith);
    total = let e = shares_set s.views id v l at in let k = shares_push left new in let a = t.total in let b = f.shares in omega arith;
  }
    where
      l : View
      l = without_number v

      new : View
      new = with_number v

      left : List View
      left = set s.views id (without_number v)

      f : PassFits s.words s.homes t.history t.given v
      f = t.fits id v at live

      is : v.next ≡ t.given
      is = f.numbers number

      mine : PassFits s.words s.homes t.history (t.given + 1) (without_number v)
      mine = record {
        follows = f.follows;
        legal = f.legal;
        holds = f.holds;
        known = let k = f.known in omega arith;
        numbers = λ h. let k = is in omega arith;
        shares = let k = f.shares in omega arith;
        ended = all_each (IsEnded t.history t.given) (IsEnded t.history (t.given + 1)) v.ended (λ e k. record { below = (let b = k.below in omega arith); grown = k.grown }) f.ended;
        own = f.own;
        last = f.last;
      }

      theirs : PassFits s.words s.homes t.history (t.given + 1) (with_number v)
      theirs = record {
        follows = grown_as v.front t.history (has v.held) v.caller v.next v.desk f.follows
            (λ more e. all_back (λ event. is_of v.next event ≡ false) v.front.events more (subst (λ (events : List EventData). IsUnspoken events v.next) e (t.unspoken v.next (let k = is in omega arith))));
        legal = f.legal;
        holds = λ p h. absurd (cc);
        known = let k = is in omega arith;
        numbers = λ h. absurd (omega arith);
        shares = omega arith;
        ended = tt;
        own = tt;
        last = tt;
      }

      still : (u : View) → Apart u v → Apart u (without_number v)
      still u a = record {
        parts = a.parts;
        callers = a.callers;
        desks = a.desks;
        givers = ⊎_elim (λ e. inl e) (λ e. inr (omega arith)) a.givers;
        later = a.later;
        sooner = a.sooner;
        ended = a.ended;
        ends = a.ends;
      }

      beside : (u : View) → PassFits s.words s.homes t.history t.given u → Apart u v → Apart u (with_number v)
      beside u k a = record {
        parts = λ p h. refl;
        callers = λ e. let b = k.known in let c = is in absurd (omega arith);
        desks = λ h. refl;
        givers = inr (omega arith);
        later = a.later;
        sooner = a.sooner;
        ended = below_next s t v.next u.ended is k.ended;
        ends = tt;
      }

      between : Apart (without_number v) (with_number v)
      between = record {
        parts = λ p h. refl;
        callers = λ e. let b = f.known in let c = is in absurd (omega arith);
        desks = λ h. refl;
        givers = inr (omega arith);
        later = λ _ _. omega arith;
        sooner = λ _ _. omega arith;
        ended = below_next s t v.next v.ended is f.ended;
        ends = tt;
      }

  pub splits : (id : ℕ) (v : View) → v.live ≡ true → v.next < v.end → Splits (Turned stands) id v (without_number v) (with_number v)
  splits id v live number s t at = split_rule s t id v at live number

  -- joining
  if_view : (t : Bool) (R : ℕ → ℕ → Type 0) (a b c d : ℕ) → (t ≡ true → R a b) → (t ≡ false → R c d) → R (if t then a else c) (if t then b else d)
  if_view true R a b c d hit miss = hit refl
  if_view false R a b c d hit miss = miss refl

  join_rule : (s : State (Option P) View) (t : Turned stands s) (id : ℕ) (v : View) (other : ℕ) (w : View) → get_elem? s.views id ≡ some v → other ≢ id → get_elem? s.views other ≡ some w
      → v.live ≡ true → w.live ≡ true → IsNone (has v.held) → IsNone (has w.held)
      → Turned stands (record { words = s.words; homes = s.homes; views = set (set s.views id (joined_view v w)) other spent_view })
  join_rule s t id v other w at apart there live alive bare_v bare_w = record {
    history = t.history;
    given = t.given;
    legal = t.legal;
    striped = t.striped;
    counted = t.counted;
    wide = t.wide;
    slotted = t.slotted;
    home = t.home;
    owned = λ p here taken. any_joined (λ u. has u.held p ≡ true) (t.owned p here taken) (λ h. absurd (not_both (has v.held p) h (bare_v p))) (λ h. absurd (not_both (has w.held p) h (bare_w p)));
    fits = λ i u found lives. ⊎_elim
        (λ (k : (i ≡ id) × (b ≡ u)). subst (PassFits s.words s.homes t.history t.given) k.1 mine)
        (λ (k : (i ≢ id) × (i ≢ other) × (get_elem? s.views i ≡ some u)). t.fits i u k.2 lives)
        (which i u found lives);
    apart = λ i j x y ix jy lx ly n. ⊎_elim
        (λ (k : (i ≡ id) × (b ≡ x)). ⊎_elim
        (λ (m : (j ≡ id) × (b ≡ y)). absurd (n (k.0 ∙ sym m.0)))
        (λ (m : (j ≢ id) × (j ≢ other) × (get_elem? s.views j ≡ some y)). subst (λ (z : View). Apart z y) k.1 (apart_turned y b (beside y (t.apart j id y v m.2 at ly live m.0) (t.apart j other y w m.2 there ly alive m.1))))
        (which j y jy ly))
        (λ (k : (i ≢ id) × (i ≢ other) × (get_elem? s.views i ≡ some x)). ⊎_elim
        (λ (m : (j ≡ id) × (b ≡ y)). subst (λ (z : View). Apart x z) m.1 (beside x (t.apart i id x v k.2 at lx live k.0) (t.apart i other x w k.2 there lx alive k.1)))
        (λ (m : (j ≢ id) × (j ≢ other) × (get_elem? s.views j ≡ some y)). t.apart i j x y k.2 m.2 lx ly n)
        (which j y jy ly))
        (which i x ix lx);
    longest = any_joined (λ u. u.front ≡ t.history) t.longest whole_v whole_w;
    desked = any_joined (λ u. u.desk ≡ true) t.desked (λ h. or_left v.desk w.desk h) (λ h. or_right v.desk w.desk h);
    unspoken = t.unspoken;
    total = let e = shares_set s.views id v b at in let k = shares_set (set s.views id b) other w spent_view (set_else s.views id other b apart ∙ there) in let a = t.total in omega arith;
  }
    where
      b : View
      b = joined_view v w

      f : PassFits s.words s.homes t.history t.given v
      f = t.fits id v at live

      g : PassFits s.words s.homes t.history t.given w
      g = t.fits other w there alive

      two : Apart v w
      two = t.apart id other v w at there live alive (λ e. apart (sym e))

      which : (i : ℕ) (u : View) → get_elem? (set (set s.views id (joined_view v w)) other spent_view) i ≡ some u → u.live ≡ true → ((i ≡ id) × (joined_view v w ≡ u)) ⊎ ((i ≢ id) × (i ≢ other) × (get_elem? s.views i ≡ some u))
      which i u found lives = ⊎_elim
          (λ (k : (i ≡ other) × (spent_view ≡ u)). absurd (not_both u.live lives (ap (λ (z : View). z.live) (sym k.1))))
          (λ (k : (i ≢ other) × (get_elem? (set s.views id (joined_view v w)) i ≡ some u)). ⊎_elim
          (λ (m : (i ≡ id) × (joined_view v w ≡ u)). inl m)
          (λ (m : (i ≢ id) × (get_elem? s.views i ≡ some u)). inr (m.0, k.0, m.1))
          (at_set s.views id i (joined_view v w) u k.1))
          (at_set (set s.views id (joined_view v w)) other i spent_view u found)

      here : get_elem? (set (set s.views id (joined_view v w)) other spent_view) id ≡ some (joined_view v w)
      here = set_else (set s.views id (joined_view v w)) other id spent_view (λ e. apart (sym e)) ∙ set_here s.views id (joined_view v w) (at_within s.views id v at)

      any_joined : (R : View → Type 0) → AnySeat R s.views → (R v → R (joined_view v w)) → (R w → R (joined_view v w)) → AnySeat R (set (set s.views id (joined_view v w)) other spent_view)
      any_joined R any first second = dite (ℕ_discrete any.seat id)
          (λ e. record { seat = id; view = joined_view v w; at = here; live = live; has = first (subst R (at_one s.views any.seat id any.view v any.at at e) any.has) })
          (λ n. dite (ℕ_discrete any.seat other)
          (λ e. record { seat = id; view = joined_view v w; at = here; live = live; has = second (subst R (at_one s.views any.seat other any.view w any.at there e) any.has) })
          (λ m. record { seat = any.seat; view = any.view; at = set_else (set s.views id (joined_view v w)) other any.seat spent_view m ∙ (set_else s.views id any.seat (joined_view v w) n ∙ any.at); live = any.live; has = any.has }))

      or_left : (x y : Bool) → x ≡ true → (x || y) ≡ true
      or_left true y h = refl
      or_left false y h = absurd (cc)

      or_right : (x y : Bool) → y ≡ true → (x || y) ≡ true
      or_right true y h = refl
      or_right false y h = h

      order : ((longer v.front w.front ≡ w.front) × Before v.front w.front) ⊎ ((longer v.front w.front ≡ v.front) × Before w.front v.front)
      order = ordered v.front w.front two.later two.sooner

      follows : Grown (longer v.front w.front) t.history (has v.held) v.caller (v.desk || w.desk)
      follows = ⊎_elim
          (λ (k : (longer v.front w.front ≡ w.front) × Before v.front w.front). subst (λ (z : FrontData). Grown z t.history (has v.held) v.caller (v.desk || w.desk)) (sym k.0)
          (longer_mine v.front w.front t.history (has v.held) (has w.held) v.caller w.caller v.desk w.desk f.follows g.follows bare_v bare_w k.1))
          (λ (k : (longer v.front w.front ≡ v.front) × Before w.front v.front). subst (λ (z : FrontData). Grown z t.history (has v.held) v.caller (v.desk || w.desk)) (sym k.0)
          (longer_other w.front v.front t.history (has w.held) (has v.held) w.caller v.caller w.desk v.desk g.follows f.follows bare_w bare_v k.1))
          order

      one_front : (longer v.front w.front ≡ w.front) ⊎ (longer v.front w.front ≡ v.front)
      one_front = ⊎_elim (λ k. inl k.0) (λ k. inr k.0) order

      on_front : (R : FrontData → Type 0) → R v.front → R w.front → R (longer v.front w.front)
      on_front R p q = ⊎_elim (λ k. subst R (sym k) q) (λ k. subst R (sym k) p) one_front

      whole_v : v.front ≡ t.history → longer v.front w.front ≡ t.history
      whole_v e = ⊎_elim
          (λ (k : (longer v.front w.front ≡ w.front) × Before v.front w.front). k.0 ∙ longer_whole v.front w.front t.history (has v.held) (has w.held) v.caller w.caller v.desk w.desk f.follows g.follows bare_v bare_w k.1 e)
          (λ (k : (longer v.front w.front ≡ v.front) × Before w.front v.front). k.0 ∙ e)
          order

      whole_w : w.front ≡ t.history → longer v.front w.front ≡ t.history
      whole_w e = ⊎_elim
          (λ (k : (longer v.front w.front ≡ w.front) × Before v.front w.front). k.0 ∙ e)
          (λ (k : (longer v.front w.front ≡ v.front) × Before w.front v.front). k.0 ∙ longer_whole w.front v.front t.history (has w.held) (has v.held) w.caller v.caller w.desk v.desk g.follows f.follows bare_w bare_v k.1 e)
          order

      first_grown : Grown v.front (longer v.front w.front) (λ _. false) v.caller v.desk
      first_grown = ⊎_elim
          (λ (k : (longer v.front w.front ≡ w.front) × Before v.front w.front). subst (λ (z : FrontData). Grown v.front z (λ _. false) v.caller v.desk) (sym k.0)
          (grown_fewer v.front w.front (has v.held) (λ _. false) v.caller v.desk (λ p h. absurd (cc)) (shorter_grown v.front w.front t.history (has v.held) (has w.held) v.caller w.caller v.desk w.desk f.follows g.follows bare_v bare_w k.1)))
          (λ (k : (longer v.front w.front ≡ v.front) × Before w.front v.front). grown_still v.front (longer v.front w.front) (λ _. false) v.caller v.desk k.0)
          order

      second_grown : Grown w.front (longer v.front w.front) (λ _. false) w.caller w.desk
      second_grown = ⊎_elim
          (λ (k : (longer v.front w.front ≡ w.front) × Before v.front w.front). grown_still w.front (longer v.front w.front) (λ _. false) w.caller w.desk k.0)
          (λ (k : (longer v.front w.front ≡ v.front) × Before w.front v.front). subst (λ (z : FrontData). Grown w.front z (λ _. false) w.caller w.desk) (sym k.0)
          (grown_fewer w.front v.front (has w.held) (λ _. false) w.caller w.desk (λ p h. absurd (cc)) (shorter_grown w.front v.front t.history (has w.held) (has v.held) w.caller v.caller w.desk v.desk g.follows f.follows bare_w bare_v k.1)))
          order

      mine : PassFits s.words s.homes t.history t.given (joined_view v w)
      mine = record {
        follows = follows;
        legal = on_front Rattle.ep_model.specs.Legal.IsLegal f.legal g.legal;
        holds = λ p h. absurd (not_both (has v.held p) h (bare_v p));
        known = f.known;
        numbers = if_view (gives w) (λ x y. x < y → x ≡ t.given) w.next w.end v.next v.end (λ _. g.numbers) (λ _. f.numbers);
        shares = if_view (gives w) (λ x y. y - x < v.share + w.share) w.next w.end v.next v.end (λ _. let k = g.shares in omega arith) (λ _. let k = f.shares in omega arith);
        ended = all_append (IsEnded t.history t.given) v.ended ((w.caller, w.front) ∷ w.ended) f.ended
            (record { below = g.known; grown = grown_ended w.front t.history (has w.held) w.caller w.desk g.follows }, g.ended);
        own = all_append (λ e. e.0 ≢ v.caller) v.ended ((w.caller, w.front) ∷ w.ended) f.own ((λ e. two.callers (sym e)), two.ends);
        last = (record { one = one_front; grown = first_grown; other = second_grown }, tt);
      }

      beside : (u : View) → Apart u v → Apart u w → Apart u (joined_view v w)
      beside u x y = record {
        parts = λ p h. bare_v p;
        callers = x.callers;
        desks = λ h. neither v.desk w.desk (x.desks h) (y.desks h);
        givers = if_view (gives w) (λ m n. (u.end ≤ u.next) ⊎ (n ≤ m)) w.next w.end v.next v.end (λ _. y.givers) (λ _. x.givers);
        later = on_front (λ z. u.front.start ≡ None → z.start ≢ None → length u.front.events ≤ length z.events) x.later y.later;
        sooner = on_front (λ z. z.start ≡ None → u.front.start ≢ None → length z.events ≤ length u.front.events) x.sooner y.sooner;
        ended = x.ended;
        ends = all_append (λ e. e.0 ≢ u.caller) v.ended ((w.caller, w.front) ∷ w.ended) x.ends ((λ e. y.callers (sym e)), y.ends);
      }
        where
          neither : (p q : Bool) → p ≡ false → q ≡ false → (p || q) ≡ false
          neither true q k l = k
          neither false q k l = l

  pub joins : (id : ℕ) (v : View) (other : ℕ) (w : View) → v.live ≡ true → w.live ≡ true → IsNone (has v.held) → IsNone (has w.held) → Joins (Turned stands) id v other w (joined_view v w) spent_view
  joins id v other w live alive bare_v bare_w s t at apart found =
      join_rule s t id v other w at apart (sym (set_else s.views id other (joined_view v w) apart) ∙ found) live alive bare_v bare_w
