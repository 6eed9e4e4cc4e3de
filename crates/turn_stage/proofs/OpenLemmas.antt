-- The rule at the start, and what it says at the end.
use Rattle.std.proofs.Common.{◌≡◌, ◌≢◌, ℕ, zero, suc, ◌+◌, ◌^◌, ◌<◌, ◌≤◌, Bool, true, false, ◌==◌, if◌then◌else◌, List, [], ◌∷◌, length, map, replicate, Option, Some, None, refl, sym, ap, ◌∙◌, subst, arith}
use Rattle.std.specs.Prelude.{slice_get, slice_index}
use Rattle.std.proofs.lemmas.List.{length-replicate}
use Rattle.std.specs.List.{AllByRecursion}
use mathlib.Core.Option.{some, some-injective, some-ne-none}
use mathlib.Core.Logic.{dite}
use native.Mathlib.Decide.{ℕ_discrete}
use lib.ListN.{get_elem?}
use Rattle.atomic_table.specs.Table.{opening, Final, Seen}
use Rattle.ep_model.specs.declared.config.Config.{Config}
use Rattle.ep_model.specs.declared.event.PartName.{PartName}
use Rattle.ep_model.specs.declared.data.FrontData.{FrontData}
use Rattle.ep_model.specs.Legal.{IsLegal}
use Rattle.ep_model.proofs.HistoryLemmas.{legal-bare}
use Rattle.hold_stage.specs.Touches.{there}
use Rattle.hold_stage.specs.Grows.{IsNone, Grown}
use Rattle.hold_stage.proofs.GrowsLemmas.{grown_nothing}
use Rattle.turn_stage.specs.declared.data.View.{View}
use Rattle.std.specs.Prelude.{nat_lt}
use Rattle.std.proofs.lemmas.Option.{slice_get_within}
use Rattle.std.proofs.lemmas.Bool.{ltb-false, eq-eqb, cases_eq}
use Rattle.ep_model.specs.declared.event.PartName.TheVariants.{Stripe, Queue, Desk}
use Rattle.turn_stage.specs.Filled.{AreFilled}
use Rattle.hold_stage.specs.Slots.{slot_of, name_of, bare_front}
use Rattle.turn_stage.specs.Slots.{turn_of, has}
use Rattle.turn_stage.specs.Rule.{IsEnded, PassFits, Turned, SoleTakes}
use Rattle.turn_stage.specs.Parts.{AreParts, first_view}
use Rattle.hold_stage.proofs.SlotLemmas.{slot_within, name_of_slot}
use Rattle.turn_stage.proofs.PartLemmas.{not_both}
use Rattle.turn_stage.proofs.SeatLemmas.{at_one, shares_two}
use Rattle.turn_stage.proofs.StepLemmas.{all_each}

only_first : {A : Type 0} (a b : A) (i : ℕ) → get_elem? (a ∷ []) i ≡ some b → (i ≡ 0) × (a ≡ b)
only_first a b zero e = (refl, some-injective a b e)
only_first a b (suc i) e = absurd (some-ne-none b (sym e))

abbrev zeros_of : ℕ → List ℕ
zeros_of n = replicate n 0

all_zero : (n i : ℕ) → slice_index (zeros_of n) i ≡ 0
all_zero zero i = refl
all_zero (suc n) zero = refl
all_zero (suc n) (suc i) = all_zero n i

-- what is in a list at a place
in_place : {P : Type 0} (parts : List P) (i : ℕ) → i < length parts → (x : P) × (slice_get parts i ≡ Some x) × (get_elem? (map some (map Some parts)) i ≡ some (some (Some x)))
in_place [] i h = absurd (omega arith)
in_place (x ∷ parts) zero h = (x, refl, refl)
in_place (x ∷ parts) (suc i) h = in_place parts i (omega arith)

length_homes : {P : Type 0} (parts : List P) → length (map some (map Some parts)) ≡ length parts
length_homes [] = refl
length_homes (x ∷ parts) = let h = length_homes parts in omega arith

length_some : {P : Type 0} (items : List P) → length (map Some items) ≡ length items
length_some [] = refl
length_some (x ∷ items) = let h = length_some items in omega arith

-- each slot is some part's
slot_named : (c : Config) (k : ℕ) → k < c.stripes + 2 → (there c (name_of c k) ≡ true) × (slot_of c (name_of c k) ≡ k)
slot_named c k within = first (nat_lt k c.stripes) refl
  where
    last : (t : Bool) → (k == c.stripes) ≡ t → c.stripes ≤ k → (there c (if t then Queue else Desk) ≡ true) × (slot_of c (if t then Queue else Desk) ≡ k)
    last true e le = (refl, sym (Rattle.std.proofs.lemmas.Bool.eqb-true k c.stripes e))
    last false e le = (refl, let n = Rattle.std.proofs.lemmas.Bool.eqb-false k c.stripes e in at_end n)
      where
        at_end : (k ≡ c.stripes → ⊥) → c.stripes + 1 ≡ k
        at_end n = dite (ℕ_discrete (c.stripes + 1) k) (λ e. e) (λ m. absurd (n (let u : k ≤ c.stripes + 1 = omega arith in let w : k ≢ c.stripes + 1 = (λ q. m (sym q)) in omega arith)))

    first : (t : Bool) → nat_lt k c.stripes ≡ t → (there c (if t then Stripe k else (if k == c.stripes then Queue else Desk)) ≡ true) × (slot_of c (if t then Stripe k else (if k == c.stripes then Queue else Desk)) ≡ k)
    first true e = (e, refl)
    first false e = last (k == c.stripes) refl (ltb-false k c.stripes e)

same_at : {P : Type 0} (items : List P) (k : ℕ) (x y : P) → slice_get items k ≡ Some x → get_elem? (map Some items) k ≡ some (Some y) → y ≡ x
same_at [] k x y a b = absurd (some-ne-none (Some y) (sym b))
same_at (z ∷ items) zero x y a b = let c = some-injective (Some z) (Some y) b in let d = sym c ∙ a in search (d)
same_at (z ∷ items) (suc k) x y a b = same_at items k x y a b

module _ {P : Type 0} (stands : PartName → FrontData → P → Type 0) where
  pub opens : (config : Config) (id : ℕ) (parts : List P) (words : List ℕ) → 0 < config.stripes → AreParts stands (bare_front config id) parts → words ≡ replicate (config.stripes + 3) 0
      → Turned stands (opening words (map Some parts) (first_view config id))
  opens config id parts words striped are zeros = record {
    history = bare_front config id;
    given = 1;
    legal = legal-bare config id None;
    striped = striped;
    counted = ap (λ (l : List ℕ). slice_index l 0) zeros ∙ all_zero (config.stripes + 3) 0;
    wide = ap (λ (l : List ℕ). length l) zeros ∙ length-replicate (config.stripes + 3) 0;
    slotted = length_homes parts ∙ are.count;
    home = λ p here free.
        let k = in_place parts (slot_of config p) (let w = slot_within config p here in let c = are.count in omega arith) in
        record { value = k.0; at = k.2; fine = subst (λ (r : PartName). stands r (bare_front config id) k.0) (name_of_slot config p here) (are.stand (slot_of config p) k.0 k.1) };
    owned = λ p here taken. absurd (taken (ap (λ (l : List ℕ). slice_index l (slot_of config p + 1)) zeros ∙ all_zero (config.stripes + 3) (slot_of config p + 1)));
    fits = λ i u at live. subst (PassFits words (map some (map Some parts)) (bare_front config id) 1) (only_first (first_view config id) u i at).1 mine;
    apart = λ i j x y ix jy lx ly n. absurd (n ((only_first (first_view config id) x i ix).0 ∙ sym (only_first (first_view config id) y j jy).0));
    longest = record { seat = 0; view = first_view config id; at = refl; live = refl; has = refl };
    desked = record { seat = 0; view = first_view config id; at = refl; live = refl; has = refl };
    unspoken = λ caller above. tt;
    total = refl;
  }
    where
      mine : PassFits words (map some (map Some parts)) (bare_front config id) 1 (first_view config id)
      mine = record {
        follows = grown_nothing (bare_front config id) (λ _. false) 0 true;
        legal = legal-bare config id None;
        holds = λ p h. absurd (cc);
        known = omega arith;
        numbers = λ h. refl;
        shares = omega arith;
        ended = tt;
        own = tt;
        last = tt;
      }

  -- what is known once no pass but one is left, which holds nothing
  pub record Closing (v : View) (slots : List (Option P)) : Type 0 where
    pub count : length slots ≡ v.front.config.stripes + 2
    pub legal : IsLegal v.front
    pub desk : v.desk ≡ true
    pub parts : (part : PartName) → there v.front.config part ≡ true → (x : P) × (get_elem? slots (slot_of v.front.config part) ≡ some (Some x)) × stands part v.front x
    pub ended : AllByRecursion (λ e. Grown e.1 v.front (λ _. false) e.0 false) v.ended

  pub closes : (words : List ℕ) (slots : List (Option P)) (id : ℕ) (v : View) → v.live ≡ true → v.share ≡ 2 ^ 64 → IsNone (has v.held) → Final (Seen (Turned stands) id v) words slots → Closing v slots
  closes words slots id v live share bare (s, (t, at), same, count, homes) =
      subst (λ (f : FrontData). Closing (record v { front = f }) slots) (sym whole) (record {
        count = sym count ∙ t.slotted;
        legal = t.legal;
        desk = let d = t.desked in ap (λ (u : View). u.desk) (sym (at_one s.views d.seat id d.view v d.at at (alone d.seat d.view d.at d.live))) ∙ d.has;
        parts = λ p here. let k = t.home p here (free p here) in (k.value, homes (slot_of t.history.config p) (Some k.value) k.at, k.fine);
        ended = all_each (IsEnded t.history t.given) (λ e. Grown e.1 t.history (λ _. false) e.0 false) v.ended (λ e k. k.grown) (t.fits id v at live).ended;
      })
    where
      -- each seat is this one
      alone : (i : ℕ) (u : View) → get_elem? s.views i ≡ some u → u.live ≡ true → i ≡ id
      alone i u there alive = dite (ℕ_discrete i id) (λ e. e) (λ n.
          let k = shares_two s.views i id u v n there at in
          let a = (t.fits i u there alive).shares in
          let b = t.total in
          absurd (omega arith))

      whole : v.front ≡ t.history
      whole = let l = t.longest in ap (λ (u : View). u.front) (sym (at_one s.views l.seat id l.view v l.at at (alone l.seat l.view l.at l.live))) ∙ l.has

      free : (p : PartName) → there t.history.config p ≡ true → turn_of s.words t.history.config p ≡ 0
      free p here = dite (ℕ_discrete (turn_of s.words t.history.config p) 0) (λ e. e) (λ n.
          let o = t.owned p here n in
          absurd (not_both (has o.view.held p) o.has (ap (λ (u : View). has u.held p) (at_one s.views o.seat id o.view v o.at at (alone o.seat o.view o.at o.live)) ∙ bare p)))

  pub sole_takes : SoleTakes stands
  sole_takes part v all free w =
      let h = w.holder free in
      let other : w.seat ≢ h.seat = λ e. h.has.1.callers (ap (λ (u : View). u.caller) (at_one w.state.views w.seat h.seat v h.view w.at h.at e)) in
      let two = shares_two w.state.views w.seat h.seat v h.view other w.at h.at in
      let some = (w.rule.fits h.seat h.view h.at h.live).shares in
      let total = w.rule.total in
      omega arith

  pub filled : (v : View) (slots : List (Option P)) → Closing v slots → AreFilled slots
  filled v slots c k within =
      let n = slot_named v.front.config k (let e = c.count in omega arith) in
      let p = c.parts (name_of v.front.config k) n.0 in
      (p.0, ap (λ (i : ℕ). get_elem? slots i) (sym n.1) ∙ p.1)

  pub parted : (v : View) (slots : List (Option P)) (items : List P) → Closing v slots → map Some items ≡ slots → AreParts stands v.front items
  parted v slots items c same = record {
    count = sym (length_some items) ∙ (ap (λ (l : List (Option P)). length l) same ∙ c.count);
    stand = λ slot x at.
        let within : slot < length items = slice_get_within items slot x at in
        let n = slot_named v.front.config slot (let e = c.count in let l = length_some items in let m = ap (λ (l : List (Option P)). length l) same in omega arith) in
        let k = c.parts (name_of v.front.config slot) n.0 in
        subst (λ (y : P). stands (name_of v.front.config slot) v.front y) (same_at items slot x k.0 at (ap (λ (l : List (Option P)). get_elem? l slot) same ∙ (ap (λ (i : ℕ). get_elem? slots i) (sym n.1) ∙ k.1))) k.2;
  }
