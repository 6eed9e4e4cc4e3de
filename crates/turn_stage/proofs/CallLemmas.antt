-- What a pass's calls are, out of their steps.
use Rattle.std.proofs.Common.{◌≡◌, ◌≢◌, ℕ, ◌+◌, ◌==◌, Bool, true, false, ◌||◌, List, [], ◌∷◌, Option, Some, None, IfSome, IfNone, refl, sym, ap, ◌∙◌, subst, ⊎_elim, inl, inr}
use Rattle.std.specs.Prelude.{Result, Ok, Err, IfOk, OnErr}
use mathlib.Core.Option.{none}
use prog.Atomic.{either}
use Rattle.atomic_table.specs.Table.{Me, step, rest, Allows}
use Rattle.ep_model.specs.declared.config.Config.{Config}
use Rattle.ep_model.specs.declared.event.PartName.{PartName}
use Rattle.ep_model.specs.declared.data.EventData.{EventData}
use Rattle.ep_model.specs.declared.data.FrontData.{FrontData}
use Rattle.ep_model.specs.Front.{with_event}
use Rattle.ep_model.specs.Legal.{May, IsLegal}
use Rattle.hold_stage.specs.Touches.{there, touches}
use Rattle.turn_stage.specs.declared.data.View.{View}
use Rattle.hold_stage.specs.Slots.{slot_of}
use Rattle.turn_stage.specs.Slots.{has, without_part}
use Rattle.std.specs.List.{AllByRecursion}
use Rattle.hold_stage.specs.Grows.{Grown}
use Rattle.turn_stage.specs.declared.data.JoinData.{JoinData}
use Rattle.turn_stage.specs.Passes.{Joined}
use Rattle.turn_stage.specs.Rule.{IsLonger, Turned, WasTaken}
use Rattle.turn_stage.specs.Plays.{part_of, Won, Tried, PutDown, PickedUp, Gave, Told, longer, joined_view}
use Rattle.turn_stage.specs.Seats.{IsResting, Taken, Missed}
use Rattle.hold_stage.proofs.SlotLemmas.{same_itself}
use Rattle.hold_stage.proofs.GrowsLemmas.{grown_nothing}
use Rattle.turn_stage.proofs.StepLemmas.{tries, puts_down, picks_up, gives_back, named}

module _ {P : Type 0} (stands : PartName → FrontData → P → Type 0) (keep : (p : PartName) (f : FrontData) (event : EventData) (x : P) → IsLegal f → May f event → touches f event p ≡ false → stands p f x → stands p (with_event f event) x) where
  pub tries_at : (slots id : ℕ) (m : Me (Option P) View) (part : PartName) (slot : ℕ) → IsResting m → slot ≡ slot_of m.0.front.config part → there m.0.front.config part ≡ true
      → Allows (Turned stands) slots id m (slot + 1) (λ n. either (n == 0) 1 n) (λ n r. Tried stands (step slots (slot + 1) 0 1 none) m n r)
  tries_at slots id m part slot rests at here =
      subst (λ (k : ℕ). Allows (Turned stands) slots id m (k + 1) (λ n. either (n == 0) 1 n) (λ n r. Tried stands (step slots (k + 1) 0 1 none) m n r)) (sym at)
      (tries stands keep slots id m.0 m.1 part rests.live rests.hand here)

  named_at : (slots a b slot : ℕ) (v : View) (part : PartName) → slot ≡ slot_of v.front.config part → there v.front.config part ≡ true → part_of (step {S = Option P} slots (slot + 1) a b none) v ≡ part
  named_at slots a b slot v part at here = ap (λ (k : ℕ). part_of (step {S = Option P} slots (k + 1) a b none) v) at ∙ named stands keep slots a b v part here

  pub won_at : (slots : ℕ) (m n : Me (Option P) View) (part : PartName) (slot found : ℕ) → slot ≡ slot_of m.0.front.config part → there m.0.front.config part ≡ true
      → Tried stands (step slots (slot + 1) 0 1 none) m found n → found ≡ 0 → Won stands part m n
  won_at slots m n part slot found at here tried free = subst (λ (p : PartName). Won stands p m n) (named_at slots 0 1 slot m.0 part at here) (tried.won free)

  -- the slot that was won is the one taken last
  pub won_slot : (m n : Me (Option P) View) (part : PartName) (slot : ℕ) → slot ≡ slot_of m.0.front.config part → Won stands part m n → (x : Option P) × (n.1 ≡ (slot, x) ∷ rest n.1)
  won_slot m n part slot at won =
      let e : n.1 ≡ (slot, Some won.value) ∷ m.1 = ap (λ (r : Me (Option P) View). r.1) won.is ∙ ap (λ (k : ℕ). (k, Some won.value) ∷ m.1) (sym at) in
      (Some won.value, e ∙ ap (λ (l : List (ℕ × Option P)). (slot, Some won.value) ∷ l) (sym (ap (λ (l : List (ℕ × Option P)). rest l) e)))

  -- the part was moved out, and the slot is on the way
  away : (m n p : Me (Option P) View) (part : PartName) (slot : ℕ) → slot ≡ slot_of m.0.front.config part → Won stands part m n → p ≡ (n.0, (slot, None) ∷ rest n.1)
      → p ≡ (record m.0 { front = n.0.front; held = part ∷ m.0.held; hand = Some part }, (slot_of n.0.front.config part, None) ∷ m.1)
  away m n p part slot at won is =
      let same : slot ≡ slot_of n.0.front.config part = at ∙ ap (λ (c : Config). slot_of c part) (sym won.grown.config) in
      is ∙ λ i. ((won.is i).0, (same i, None) ∷ rest (won.is i).1)

  pub puts_down_at : (slots id : ℕ) (m n p : Me (Option P) View) (part : PartName) (slot : ℕ) → IsResting m → slot ≡ slot_of m.0.front.config part → Won stands part m n → p ≡ (n.0, (slot, None) ∷ rest n.1)
      → Allows (Turned stands) slots id p (slot + 1) (λ n. n) (λ n r. PutDown p r)
  puts_down_at slots id m n p part slot rests at won is =
      let same : slot_of n.0.front.config part ≡ slot = ap (λ (c : Config). slot_of c part) won.grown.config ∙ sym at in
      subst (λ (q : Me (Option P) View). Allows (Turned stands) slots id q (slot + 1) (λ n. n) (λ n r. PutDown q r)) (sym (away m n p part slot at won is))
      (subst (λ (k : ℕ). Allows (Turned stands) slots id (record m.0 { front = n.0.front; held = part ∷ m.0.held; hand = Some part }, (slot_of n.0.front.config part, None) ∷ m.1) (k + 1) (λ word. word)
      (λ word r. PutDown (record m.0 { front = n.0.front; held = part ∷ m.0.held; hand = Some part }, (slot_of n.0.front.config part, None) ∷ m.1) r)) same
      (puts_down stands keep slots id (record m.0 { front = n.0.front; held = part ∷ m.0.held; hand = Some part }) m.1 part None rests.live refl (ap (λ (b : Bool). b || has m.0.held part) (same_itself part))))

  head_of : Option P → List (ℕ × Option P) → Option P
  head_of d [] = d
  head_of d (x ∷ xs) = x.1

  -- the part is out, and its slot at home
  pub record Took (part : PartName) (m q : Me (Option P) View) (value : Option P) : Type 0 where
    pub found : IfSome value (λ x. Taken stands part m.0 q.0 x)
    pub never : IfNone value (Missed stands part m.0 q.0)
    pub rests : IsResting q

  pub took : (m n p q : Me (Option P) View) (part : PartName) (slot : ℕ) (value : Option P) → IsResting m → slot ≡ slot_of m.0.front.config part → Won stands part m n
      → n.1 ≡ (slot, value) ∷ rest n.1 → p ≡ (n.0, (slot, None) ∷ rest n.1) → PutDown p q → Took part m q value
  unfolding head_of
  took m n p q part slot value rests at won carried is down =
      let w : View = record m.0 { front = n.0.front; held = part ∷ m.0.held } in
      let gone = away m n p part slot at won is in
      let view : q ≡ (record m.0 { front = n.0.front; held = part ∷ m.0.held; hand = None }, m.1) = down ∙ λ i. (record (gone i).0 { hand = None }, rest (gone i).1) in
      let same : q.0 ≡ w = ap (λ (r : Me (Option P) View). r.0) view ∙ ap (λ (h : Option PartName). record m.0 { front = n.0.front; held = part ∷ m.0.held; hand = h }) (sym rests.hand) in
      let is_value : Some won.value ≡ value = ap (head_of None) (sym (ap (λ (r : Me (Option P) View). r.1) won.is) ∙ carried) in
      record {
        found = subst (λ (o : Option P). IfSome o (λ x. Taken stands part m.0 q.0 x)) is_value
            (subst (λ (u : View). Taken stands part m.0 u won.value) (sym same) (record { is = refl; grown = won.grown; legal = won.legal; kept = won.kept; fine = won.fine }));
        never = subst (λ (o : Option P). IfNone o (Missed stands part m.0 q.0)) is_value tt;
        rests = record {
          carried = ap (λ (r : Me (Option P) View). r.1) view ∙ rests.carried;
          hand = ap (λ (r : Me (Option P) View). r.0.hand) view;
          live = ap (λ (r : Me (Option P) View). r.0.live) view ∙ rests.live;
        };
      }

  pub lost_at : (slots : ℕ) (m n : Me (Option P) View) (part : PartName) (slot found : ℕ) → IsResting m → slot ≡ slot_of m.0.front.config part → there m.0.front.config part ≡ true
      → Tried stands (step slots (slot + 1) 0 1 none) m found n → found ≢ 0 → IsResting n × Missed stands part m.0 n.0
  lost_at slots m n part slot found rests slotted here tried not_free =
      let lost = tried.lost not_free in
      let e = lost.is in (
        record {
          carried = ap (λ (r : Me (Option P) View). r.1) e ∙ rests.carried;
          hand = ap (λ (r : Me (Option P) View). r.0.hand) e ∙ rests.hand;
          live = ap (λ (r : Me (Option P) View). r.0.live) e ∙ rests.live;
        },
        record { is = ap (λ (r : Me (Option P) View). r.0) e; taken = subst (λ (p : PartName). WasTaken stands p m.0) (named_at slots 0 1 slot m.0 part slotted here) lost.taken; legal = lost.legal },
      )

  -- whether the part was taken or not, the front grew
  pub tried_grown : {E : Type 0} (v w : View) (part : PartName) (r : Result P E) → IfOk r (λ x. Taken stands part v w x) → OnErr r (Missed stands part v w) → Grown v.front w.front (has v.held) v.caller v.desk
  tried_grown v w part (Ok x) taken lost = taken.grown
  tried_grown v w part (Err e) taken lost = subst (λ (u : View). Grown v.front u.front (has v.held) v.caller v.desk) (sym lost.is) (grown_nothing v.front (has v.held) v.caller v.desk)

  -- giving
  pub picks_up_at : (slots id : ℕ) (m : Me (Option P) View) (part : PartName) (slot : ℕ) → IsResting m → slot ≡ slot_of m.0.front.config part → there m.0.front.config part ≡ true → has m.0.held part ≡ true
      → Allows (Turned stands) slots id m (slot + 1) (λ n. n) (λ n r. PickedUp (part_of (step {S = Option P} slots (slot + 1) 0 0 none) m.0) m r)
  picks_up_at slots id m part slot rests at here held =
      subst (λ (k : ℕ). Allows (Turned stands) slots id m (k + 1) (λ n. n) (λ n r. PickedUp (part_of (step {S = Option P} slots (k + 1) 0 0 none) m.0) m r)) (sym at)
      (picks_up stands keep slots id m.0 m.1 part rests.live rests.hand held here)

  -- the slot is on the way, with the part in it
  back : (slots : ℕ) (m n p : Me (Option P) View) (part : PartName) (slot : ℕ) (x : P) → slot ≡ slot_of m.0.front.config part → there m.0.front.config part ≡ true
      → PickedUp (part_of (step {S = Option P} slots (slot + 1) 0 0 none) m.0) m n → p ≡ (n.0, (slot, Some x) ∷ rest n.1)
      → p ≡ (record m.0 { hand = Some part }, (slot_of m.0.front.config part, Some x) ∷ m.1)
  back slots m n p part slot x at here picked is =
      let e = named_at slots 0 0 slot m.0 part at here in
      is ∙ ((λ i. ((picked.is i).0, (at i, Some x) ∷ rest (picked.is i).1)) ∙ ap (λ (q : PartName). (record m.0 { hand = Some q }, (slot_of m.0.front.config part, Some x) ∷ m.1)) e)

  pub gives_at : (slots id : ℕ) (m n p : Me (Option P) View) (part : PartName) (slot : ℕ) (x : P) → IsResting m → slot ≡ slot_of m.0.front.config part → there m.0.front.config part ≡ true → has m.0.held part ≡ true → stands part m.0.front x
      → PickedUp (part_of (step {S = Option P} slots (slot + 1) 0 0 none) m.0) m n → p ≡ (n.0, (slot, Some x) ∷ rest n.1)
      → Allows (Turned stands) slots id p (slot + 1) (λ _. 0) (λ _ r. Gave (part_of (step {S = Option P} slots (slot + 1) 0 0 none) p.0) p r)
  gives_at slots id m n p part slot x rests at here held fine picked is =
      subst (λ (q : Me (Option P) View). Allows (Turned stands) slots id q (slot + 1) (λ _. 0) (λ _ r. Gave (part_of (step {S = Option P} slots (slot + 1) 0 0 none) q.0) q r)) (sym (back slots m n p part slot x at here picked is))
      (subst (λ (k : ℕ). Allows (Turned stands) slots id (record m.0 { hand = Some part }, (slot_of m.0.front.config part, Some x) ∷ m.1) (k + 1) (λ _. 0)
      (λ _ r. Gave (part_of (step {S = Option P} slots (k + 1) 0 0 none) (record m.0 { hand = Some part })) (record m.0 { hand = Some part }, (slot_of m.0.front.config part, Some x) ∷ m.1) r)) (sym at)
      (gives_back stands keep slots id (record m.0 { hand = Some part }) m.1 part x rests.live refl held here fine))

  pub record GaveIt (part : PartName) (m q : Me (Option P) View) : Type 0 where
    pub given : q.0 ≡ record m.0 { held = without_part part m.0.held }
    pub rests : IsResting q

  pub gave : (slots : ℕ) (m n p q : Me (Option P) View) (part : PartName) (slot : ℕ) (x : P) → IsResting m → slot ≡ slot_of m.0.front.config part → there m.0.front.config part ≡ true
      → PickedUp (part_of (step {S = Option P} slots (slot + 1) 0 0 none) m.0) m n → p ≡ (n.0, (slot, Some x) ∷ rest n.1) → Gave (part_of (step {S = Option P} slots (slot + 1) 0 0 none) p.0) p q → GaveIt part m q
  gave slots m n p q part slot x rests at here picked is given =
      let e = back slots m n p part slot x at here picked is in
      let which : part_of (step {S = Option P} slots (slot + 1) 0 0 none) p.0 ≡ part = ap (λ (r : Me (Option P) View). part_of (step {S = Option P} slots (slot + 1) 0 0 none) r.0) e ∙ named_at slots 0 0 slot m.0 part at here in
      let view : q ≡ (record m.0 { hand = None; held = without_part part m.0.held }, m.1) = given ∙ (λ i. (record (e i).0 { hand = None; held = without_part (which i) (e i).0.held }, rest (e i).1)) in
      record {
        given = ap (λ (r : Me (Option P) View). r.0) view ∙ ap (λ (h : Option PartName). record m.0 { hand = h; held = without_part part m.0.held }) (sym rests.hand);
        rests = record {
          carried = ap (λ (r : Me (Option P) View). r.1) view ∙ rests.carried;
          hand = ap (λ (r : Me (Option P) View). r.0.hand) view;
          live = ap (λ (r : Me (Option P) View). r.0.live) view ∙ rests.live;
        };
      }

module _ {P : Type 0} where
  pub joined_at : (m n r : Me (Option P) View) (w : View) → n ≡ (joined_view m.0 w, m.1) → Told n r → Joined m.0 w r.0
  joined_at m n r w e told =
      let longer_is = (subst (λ (x : Me (Option P) View). AllByRecursion IsLonger x.0.last) e told.all).0 in
      let view : r.0 ≡ record (joined_view m.0 w) { last = [] } = ap (λ (x : Me (Option P) View). x.0) told.is ∙ ap (λ (x : Me (Option P) View). record x.0 { last = [] }) e in
      let front : r.0.front ≡ longer m.0.front w.front = ap (λ (x : View). x.front) view in
      record {
        is = view ∙ ap (λ (l : List JoinData). record (joined_view m.0 w) { last = l }) (sym (ap (λ (x : View). x.last) view));
        one = ⊎_elim (λ k. inl (front ∙ k)) (λ k. inr (front ∙ k)) longer_is.one;
        grown = subst (λ (f : FrontData). Grown m.0.front f (λ _. false) m.0.caller m.0.desk) (sym front) longer_is.grown;
        other = subst (λ (f : FrontData). Grown w.front f (λ _. false) w.caller w.desk) (sym front) longer_is.other;
      }
