-- A step that changes one view, and with it the history, one word or one slot, keeps the rule.
use Rattle.std.proofs.Common.{◌≡◌, ◌≢◌, ◌⊎◌, ℕ, ◌+◌, ◌%◌, ◌^◌, ◌<◌, ◌≤◌, true, List, length, set, Option, sym, ◌∙◌, subst, arith, ⊎_elim, inl, inr}
use Rattle.std.proofs.lemmas.List.{get_or-set_same, get_or-set_other}
use Rattle.std.specs.Prelude.{slice_index}
use mathlib.Core.Option.{some, none}
use lib.ListN.{get_elem?}
use Rattle.atomic_table.specs.Table.{State}
use Rattle.atomic_table.proofs.Lists.{set_else}
use Rattle.ep_model.specs.declared.config.Config.{Config}
use Rattle.ep_model.specs.declared.event.PartName.{PartName}
use Rattle.ep_model.specs.declared.data.EventData.{EventData}
use Rattle.ep_model.specs.declared.data.FrontData.{FrontData}
use Rattle.ep_model.specs.declared.data.StartData.{StartData}
use Rattle.ep_model.specs.Legal.{IsLegal}
use Rattle.hold_stage.specs.Touches.{there}
use Rattle.turn_stage.specs.declared.data.View.{View}
use Rattle.hold_stage.specs.Slots.{slot_of}
use Rattle.turn_stage.specs.Slots.{turn_of, has}
use Rattle.turn_stage.specs.Rule.{IsHeld, PassFits, Apart, AnySeat, IsHome, IsUnspoken, Turned}
use Rattle.hold_stage.proofs.SlotLemmas.{slots_apart}
use Rattle.turn_stage.proofs.PartLemmas.{not_both, is_false}
use Rattle.turn_stage.proofs.SeatLemmas.{each_set, two_set, any_set, any_mine, shares_set}

-- being apart is mutual
pub apart_turned : (v w : View) → Apart v w → Apart w v
apart_turned v w a = record {
  parts = λ p h. is_false (has v.held p) (λ k. not_both (has w.held p) h (a.parts p k));
  callers = λ e. a.callers (sym e);
  desks = λ h. is_false v.desk (λ k. not_both w.desk h (a.desks k));
  givers = ⊎_elim (λ e. inr e) (λ e. inl e) a.givers;
  later = a.sooner;
  sooner = a.later;
  ended = a.ends;
  ends = a.ended;
}

-- a change at the turn and the slot of one part leaves those of every other
pub turn_here : (words : List ℕ) (config : Config) (part : PartName) (n : ℕ) → slot_of config part + 1 < length words → turn_of (set words (slot_of config part + 1) n) config part ≡ n
turn_here words config part n within = get_or-set_same words (slot_of config part + 1) n 0 within

pub turn_other : (words : List ℕ) (config : Config) (part q : PartName) (n : ℕ) → there config part ≡ true → there config q ≡ true → (q ≡ part → ⊥) → turn_of (set words (slot_of config part + 1) n) config q ≡ turn_of words config q
turn_other words config part q n here there apart =
    let k = slots_apart config q part there here apart in
    get_or-set_other words (slot_of config part + 1) (slot_of config q + 1) n 0 (λ e. k (omega arith))

pub turn_count : (words : List ℕ) (config : Config) (q : PartName) (n : ℕ) → turn_of (set words 0 n) config q ≡ turn_of words config q
turn_count words config q n = get_or-set_other words 0 (slot_of config q + 1) n 0 (λ e. omega arith)

module _ {P : Type 0} where
  pub filled_other : (homes : List (mathlib.Core.Option.Option (Option P))) (config : Config) (part q : PartName) (z : mathlib.Core.Option.Option (Option P)) → there config part ≡ true → there config q ≡ true → (q ≡ part → ⊥)
      → get_elem? (set homes (slot_of config part) z) (slot_of config q) ≡ get_elem? homes (slot_of config q)
  filled_other homes config part q z here there apart = set_else homes (slot_of config part) (slot_of config q) z (slots_apart config q part there here apart)

  pub held_other : (words : List ℕ) (homes : List (mathlib.Core.Option.Option (Option P))) (config : Config) (hand : Option PartName) (part q : PartName) (n : ℕ) (z : mathlib.Core.Option.Option (Option P)) → there config part ≡ true → (q ≡ part → ⊥)
      → IsHeld words homes config hand q → IsHeld (set words (slot_of config part + 1) n) (set homes (slot_of config part) z) config hand q
  held_other words homes config hand part q n z here apart h = record {
    there = h.there;
    taken = λ e. h.taken (sym (turn_other words config part q n here h.there apart) ∙ e);
    home = λ k. let f = h.home k in (f.0, filled_other homes config part q z here h.there apart ∙ f.1);
  }

  pub held_count : (words : List ℕ) (homes : List (mathlib.Core.Option.Option (Option P))) (config : Config) (hand : Option PartName) (q : PartName) (n : ℕ) → IsHeld words homes config hand q → IsHeld (set words 0 n) homes config hand q
  held_count words homes config hand q n h = record { there = h.there; taken = λ e. h.taken (sym (turn_count words config q n) ∙ e); home = h.home }

-- What a step owes that takes a view v to w, and the history, the words and the slots to new ones.
pub record Moves {P : Type 0} (stands : PartName → FrontData → P → Type 0) (s : State (Option P) View) (t : Turned stands s) (v w : View) (words : List ℕ) (homes : List (mathlib.Core.Option.Option (Option P))) (begun : Option StartData) (events : List EventData) : Type 0 where
  pub legal : IsLegal (record t.history { start = begun; events = events })
  pub counted : slice_index words 0 ≡ length events % 2 ^ 64
  pub wide : length words ≡ length s.words
  pub slotted : length homes ≡ length s.homes
  pub home : (part : PartName) → there t.history.config part ≡ true → turn_of words t.history.config part ≡ 0 → IsHome stands homes (record t.history { start = begun; events = events }) part
  pub owned : (part : PartName) → there t.history.config part ≡ true → turn_of words t.history.config part ≢ 0
      → (has w.held part ≡ true) ⊎ ((turn_of s.words t.history.config part ≢ 0) × (has v.held part ≡ true → has w.held part ≡ true))
  pub others : (u : View) → u.live ≡ true → PassFits s.words s.homes t.history t.given u → Apart u v → PassFits words homes (record t.history { start = begun; events = events }) t.given u
  pub mine : PassFits words homes (record t.history { start = begun; events = events }) t.given w
  pub apart : (u : View) → PassFits s.words s.homes t.history t.given u → Apart u v → Apart u w
  pub longest : w.front ≡ record t.history { start = begun; events = events } ⊎ ((begun ≡ t.history.start) × (events ≡ t.history.events) × (w.front ≡ v.front))
  pub desk : v.desk ≡ true → w.desk ≡ true
  pub unspoken : (caller : ℕ) → t.given ≤ caller → IsUnspoken events caller
  pub share : w.share ≡ v.share

module _ {P : Type 0} (stands : PartName → FrontData → P → Type 0) where
  pub moved : (s : State (Option P) View) (t : Turned stands s) (id : ℕ) (v w : View) (words : List ℕ) (homes : List (mathlib.Core.Option.Option (Option P))) (begun : Option StartData) (events : List EventData)
      → get_elem? s.views id ≡ some v → v.live ≡ true → w.live ≡ true → Moves stands s t v w words homes begun events
      → Turned stands (record { words = words; homes = homes; views = set s.views id w })
  moved s t id v w words homes begun events at live lives m =
      let history : FrontData = record t.history { start = begun; events = events } in
      record {
        history = history;
        given = t.given;
        legal = m.legal;
        striped = t.striped;
        counted = m.counted;
        wide = m.wide ∙ t.wide;
        slotted = m.slotted ∙ t.slotted;
        home = m.home;
        owned = λ part here taken. ⊎_elim
            (λ (k : has w.held part ≡ true). any_mine (λ u. has u.held part ≡ true) s.views id v w at lives k)
            (λ (k : (turn_of s.words t.history.config part ≢ 0) × (has v.held part ≡ true → has w.held part ≡ true)).
            any_set (λ u. has u.held part ≡ true) s.views id v w at (t.owned part here k.0) (λ h. (lives, k.1 h)))
            (m.owned part here taken);
        fits = each_set (PassFits words homes history t.given) s.views id w
            (λ i u other there alive. m.others u alive (t.fits i u there alive) (t.apart i id u v there at alive live other))
            (λ _. m.mine);
        apart = two_set Apart apart_turned s.views id w t.apart
            (λ i u other there alive _. m.apart u (t.fits i u there alive) (t.apart i id u v there at alive live other));
        longest = ⊎_elim
            (λ (k : w.front ≡ history). any_mine (λ u. u.front ≡ history) s.views id v w at lives k)
            (λ (k : (begun ≡ t.history.start) × (events ≡ t.history.events) × (w.front ≡ v.front)).
            let same : t.history ≡ history = λ i. record t.history { start = sym k.0 i; events = sym k.1 i } in
            subst (λ (h : FrontData). AnySeat (λ u. u.front ≡ h) (set s.views id w)) same (any_set (λ u. u.front ≡ t.history) s.views id v w at t.longest (λ h. (lives, k.2 ∙ h))))
            m.longest;
        desked = any_set (λ u. u.desk ≡ true) s.views id v w at t.desked (λ h. (lives, m.desk h));
        unspoken = m.unspoken;
        total = let e = shares_set s.views id v w at in let k = m.share in let a = t.total in omega arith;
      }
