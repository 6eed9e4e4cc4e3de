-- An event is noted, and a start is put: each keeps the rule.
use Rattle.std.proofs.Common.{◌≡◌, ◌≢◌, ◌⊎◌, ℕ, zero, suc, ◌+◌, ◌%◌, ◌^◌, ◌<◌, ◌≤◌, Bool, true, false, List, [], ◌∷◌, ◌++◌, length, set, Option, Some, None, refl, sym, ap, ◌∙◌, subst, arith, inl, inr, length-append}
use Rattle.std.proofs.lemmas.List.{get_or-set_same, set-get_or}
use Rattle.std.proofs.Math.Nat.{mod-add-mod}
use Rattle.std.specs.Prelude.{slice_index}
use Rattle.std.specs.List.{AllByRecursion}
use mathlib.Core.Option.{some}
use lib.ListN.{get_elem?}
use Rattle.atomic_table.specs.Table.{State, keeps, Allows}
use Rattle.ep_model.specs.declared.config.Config.{Config}
use Rattle.ep_model.specs.declared.event.PartName.{PartName}
use Rattle.ep_model.specs.declared.data.EventData.{EventData}
use Rattle.ep_model.specs.declared.data.FrontData.{FrontData}
use Rattle.ep_model.specs.declared.data.StartData.{StartData}
use Rattle.ep_model.specs.Front.{with_event, with_events, with_start}
use Rattle.ep_model.specs.Legal.{May, IsLegal}
use Rattle.ep_model.proofs.HistoryLemmas.{legal-push}
use Rattle.hold_stage.specs.Touches.{there, touches, is_of, is_desks}
use Rattle.hold_stage.specs.Grows.{Quiet, Covered, Grown, Keeps, IsOwn}
use Rattle.hold_stage.proofs.CallerLemmas.{of_one, of_call, touches_later, touches_some}
use Rattle.hold_stage.proofs.LaterLemmas.{all_append}
use Rattle.hold_stage.proofs.LegalLemmas.{legal_later}
use Rattle.hold_stage.proofs.StartLemmas.{legal_begun}
use Rattle.turn_stage.specs.declared.data.View.{View}
use Rattle.turn_stage.specs.Slots.{has}
use Rattle.turn_stage.specs.Rule.{IsEnded, PassFits, Turned}
use Rattle.turn_stage.specs.Plays.{Notes, Begins}
use Rattle.turn_stage.proofs.PartLemmas.{not_both, is_false}
use Rattle.hold_stage.proofs.GrowsLemmas.{grown_nothing, keeps_along}
use Rattle.turn_stage.proofs.FrontLemmas.{grown_noted, grown_begun, start_held, start_desk, start_bare, quiet_own, is_more}
use Rattle.turn_stage.proofs.MoveLemmas.{turn_count, held_count, moved}
use Rattle.turn_stage.proofs.StepLemmas.{all_each, grown_length}

module _ {P : Type 0} (stands : PartName → FrontData → P → Type 0) (keep : (p : PartName) (f : FrontData) (event : EventData) (x : P) → IsLegal f → May f event → touches f event p ≡ false → stands p f x → stands p (with_event f event) x) where
  -- word 0 was read, and the words are the same
  same_count : (words : List ℕ) → set words 0 (slice_index words 0) ≡ words
  same_count words = set-get_or words 0 0

  -- the start is put
  begin_rule : (s : State (Option P) View) (t : Turned stands s) (id : ℕ) (v : View) (start : StartData) → get_elem? s.views id ≡ some v → v.live ≡ true → v.front.start ≡ None → v.desk ≡ true
      → ((p : PartName) → there t.history.config p ≡ true → has v.held p ≡ true)
      → Turned stands (record { words = s.words; homes = s.homes; views = set s.views id (record v { front = with_start t.history (Some start) }) })
  begin_rule s t id v start at live bare desk all =
      moved stands s t id v (record v { front = with_start t.history (Some start) }) s.words s.homes (Some start) t.history.events at live live (record {
        legal = legal_begun t.history start none t.legal;
        counted = t.counted;
        wide = refl;
        slotted = refl;
        home = λ p here free. absurd ((f.holds p (all p here)).taken free);
        owned = λ p here taken. inl (all p here);
        others = λ u alive k a. record {
          follows = grown_begun u.front t.history (has u.held) u.caller u.desk start k.follows (start_bare u.front t.history (has u.held) u.caller u.desk k.follows none)
              (λ p. is_false (has u.held p) (λ h. not_both (has v.held p) (all p (k.holds p h).there) (a.parts p h)))
              (is_false u.desk (λ h. not_both v.desk desk (a.desks h)));
          legal = k.legal;
          holds = k.holds;
          known = k.known;
          numbers = k.numbers;
          shares = k.shares;
          ended = ended_begun u.ended k.ended;
          own = k.own;
          last = k.last;
        };
        mine = record {
          follows = grown_nothing (with_start t.history (Some start)) (has v.held) v.caller v.desk;
          legal = legal_begun t.history start none t.legal;
          holds = f.holds;
          known = f.known;
          numbers = f.numbers;
          shares = f.shares;
          ended = ended_begun v.ended f.ended;
          own = f.own;
          last = f.last;
        };
        apart = λ u k a. record {
          parts = a.parts;
          callers = a.callers;
          desks = a.desks;
          givers = a.givers;
          later = λ _ _. grown_length u.front t.history (has u.held) u.caller u.desk k.follows;
          sooner = λ e _. absurd (cc);
          ended = a.ended;
          ends = a.ends;
        };
        longest = inl refl;
        desk = λ h. h;
        unspoken = t.unspoken;
        share = refl;
      })
    where
      f : PassFits s.words s.homes t.history t.given v
      f = t.fits id v at live

      none : t.history.start ≡ None
      none = start_desk v.front t.history (has v.held) v.caller v.desk f.follows desk ∙ bare

      ended_begun : (ended : List (ℕ × FrontData)) → AllByRecursion (IsEnded t.history t.given) ended → AllByRecursion (IsEnded (with_start t.history (Some start)) t.given) ended
      ended_begun ended h = all_each (IsEnded t.history t.given) (IsEnded (with_start t.history (Some start)) t.given) ended
          (λ e k. record { below = k.below; grown = grown_begun e.1 t.history (λ _. false) e.0 false start k.grown (start_bare e.1 t.history (λ _. false) e.0 false k.grown none) (λ _. refl) refl })
          h

  pub begins : (slots id : ℕ) (v : View) (c : List (ℕ × Option P)) (start : StartData) → v.live ≡ true → v.front.start ≡ None → v.desk ≡ true
      → ((p : PartName) → there v.front.config p ≡ true → has v.held p ≡ true)
      → Allows (Turned stands) slots id (v, c) 0 (λ n. n) (λ n m. Begins start (v, c) m)
  begins slots id v c start live bare desk all s t _ at _ =
      let f = t.fits id v at live in
      let w : View = record v { front = with_start t.history (Some start) } in (
        w,
        keeps,
        tt,
        subst (λ (l : List ℕ). Turned stands (record { words = l; homes = s.homes; views = set s.views id w })) (sym (same_count s.words))
            (begin_rule s t id v start at live bare desk (λ p here. all p (subst (λ (k : Config). there k p ≡ true) f.follows.config here))),
        record {
          is = refl;
          begun = record { between = t.history; grown = subst (λ (d : Bool). Grown v.front t.history (has v.held) v.caller d) desk f.follows; last = refl };
          legal = legal_begun t.history start (start_desk v.front t.history (has v.held) v.caller v.desk f.follows desk ∙ bare) t.legal;
        },
      )

  -- an event is noted
  counted_more : (words : List ℕ) (events : List EventData) (event : EventData) → 0 < length words → slice_index words 0 ≡ length events % 2 ^ 64
      → slice_index (set words 0 ((slice_index words 0 + 1) % 2 ^ 64)) 0 ≡ length (events ++ event ∷ []) % 2 ^ 64
  counted_more words events event wide counted =
      let e : length (events ++ event ∷ []) ≡ length events + 1 = length-append events (event ∷ []) in
      get_or-set_same words 0 ((slice_index words 0 + 1) % 2 ^ 64) 0 wide
      ∙ (ap (λ (n : ℕ). (n + 1) % 2 ^ 64) counted ∙ (mod-add-mod (length events) (2 ^ 64) 1 ∙ ap (λ (n : ℕ). n % 2 ^ 64) (sym e)))

  note_rule : (s : State (Option P) View) (t : Turned stands s) (id n : ℕ) (v : View) (event : EventData) → get_elem? s.views id ≡ some v → v.live ≡ true
      → n ≡ (slice_index s.words 0 + 1) % 2 ^ 64
      → Covered (has v.held) t.history event → May t.history event → IsOwn v.caller v.desk event
      → Turned stands (record { words = set s.words 0 n; homes = s.homes; views = set s.views id (record v { front = with_event t.history event }) })
  note_rule s t id n v event at live is covered may own =
      moved stands s t id v (record v { front = with_event t.history event }) (set s.words 0 n) s.homes t.history.start (t.history.events ++ event ∷ []) at live live (record {
        legal = legal-push t.history event t.legal may;
        counted = subst (λ (k : ℕ). slice_index (set s.words 0 k) 0 ≡ length (t.history.events ++ event ∷ []) % 2 ^ 64) (sym is) (counted_more s.words t.history.events event (let e = t.wide in omega arith) t.counted);
        wide = search (Rattle.std.proofs.Common.length-set);
        slotted = refl;
        home = λ p here free.
            let free_now = sym (turn_count s.words t.history.config p n) ∙ free in
            let k = t.home p here free_now in
            record {
              value = k.value;
              at = k.at;
              fine = keep p t.history event k.value t.legal may (is_false (touches t.history event p) (λ h. (f.holds p (covered p h)).taken free_now)) k.fine;
            };
        owned = λ p here taken. inr ((λ e. taken (turn_count s.words t.history.config p n ∙ e)), λ h. h);
        others = λ u alive k a. record {
          follows = grown_noted u.front t.history (has u.held) u.caller u.desk event k.follows (record {
            apart = λ p h. is_false (touches t.history event p) (λ touched. not_both (has v.held p) (covered p touched) (a.parts p h));
            others = is_false (is_of u.caller event) (λ h. a.callers (of_one event u.caller v.caller h (own.own (of_call event u.caller h))));
            desks = λ h. is_false (is_desks event) (λ d. not_both v.desk (own.desks d) (a.desks h));
          });
          legal = k.legal;
          holds = λ p h. held_count s.words s.homes t.history.config u.hand p n (k.holds p h);
          known = k.known;
          numbers = k.numbers;
          shares = k.shares;
          ended = ended_noted u.ended k.ended a.ended;
          own = k.own;
          last = k.last;
        };
        mine = record {
          follows = grown_nothing (with_event t.history event) (has v.held) v.caller v.desk;
          legal = legal-push t.history event t.legal may;
          holds = λ p h. held_count s.words s.homes t.history.config v.hand p n (f.holds p h);
          known = f.known;
          numbers = f.numbers;
          shares = f.shares;
          ended = ended_noted v.ended f.ended f.own;
          own = f.own;
          last = f.last;
        };
        apart = λ u k a. record {
          parts = a.parts;
          callers = a.callers;
          desks = a.desks;
          givers = a.givers;
          later = λ _ _. let e = grown_length u.front t.history (has u.held) u.caller u.desk k.follows in let m = length-append t.history.events (event ∷ []) in omega arith;
          sooner = λ e put. absurd (put (start_bare u.front t.history (has u.held) u.caller u.desk k.follows e));
          ended = a.ended;
          ends = a.ends;
        };
        longest = inl refl;
        desk = λ h. h;
        unspoken = λ caller above. all_append (λ (e : EventData). is_of caller e ≡ false) t.history.events (event ∷ []) (t.unspoken caller above)
            (is_false (is_of caller event) (λ h. let e = of_one event caller v.caller h (own.own (of_call event caller h)) in let k = f.known in absurd (omega arith)), tt);
        share = refl;
      })
    where
      f : PassFits s.words s.homes t.history t.given v
      f = t.fits id v at live

      ended_noted : (ended : List (ℕ × FrontData)) → AllByRecursion (IsEnded t.history t.given) ended → AllByRecursion (λ e. e.0 ≢ v.caller) ended → AllByRecursion (IsEnded (with_event t.history event) t.given) ended
      ended_noted [] h others = tt
      ended_noted (e ∷ ended) h others = (
        record {
          below = h.0.below;
          grown = grown_noted e.1 t.history (λ _. false) e.0 false event h.0.grown (record {
            apart = λ p k. absurd (cc);
            others = is_false (is_of e.0 event) (λ k. others.0 (of_one event e.0 v.caller k (own.own (of_call event e.0 k))));
            desks = λ k. absurd (cc);
          });
        },
        ended_noted ended h.1 others.1,
      )

  pub notes : (slots id : ℕ) (v : View) (c : List (ℕ × Option P)) (event : EventData) → v.live ≡ true
      → Covered (has v.held) v.front event → May v.front event → IsOwn v.caller v.desk event
      → Allows (Turned stands) slots id (v, c) 0 (λ n. (n + 1) % 2 ^ 64) (λ n m. Notes stands event (v, c) m)
  notes slots id v c event live covered may own s t _ at _ = (
    record v { front = with_event t.history event },
    keeps,
    tt,
    note_rule s t id ((slice_index s.words 0 + 1) % 2 ^ 64) v event at live refl covered_now may_now own,
    record {
      is = refl;
      noted = record {
        between = t.history;
        grown = f.follows;
        last = refl;
        kept = kept;
        apart = λ p x held untouched here. keep p t.history event x t.legal may_now (touches_now p ∙ untouched) (kept p x held here);
      };
      legal = legal-push t.history event t.legal may_now;
    },
  )
    where
      f : PassFits s.words s.homes t.history t.given v
      f = t.fits id v at live

      kept : Keeps stands (has v.held) v.front t.history
      kept = keeps_along stands keep v.front t.history (has v.held) v.caller v.desk f.follows t.legal

      -- some part is held, so the start is the front's
      put : t.history.start ≡ v.front.start
      put = let p = touches_some v.front event in start_held v.front t.history (has v.held) v.caller v.desk f.follows p.0 (covered p.0 p.1)

      same : t.history ≡ with_events v.front f.follows.more
      same = is_more v.front t.history (has v.held) v.caller v.desk f.follows put

      striped : 0 < v.front.config.stripes
      striped = subst (λ (k : Config). 0 < k.stripes) f.follows.config t.striped

      legal : IsLegal (with_events v.front f.follows.more)
      legal = subst IsLegal same t.legal

      quiet : Quiet v.front (has v.held) v.caller v.desk f.follows.more
      quiet = quiet_own v.front t.history (has v.held) v.caller v.desk f.follows put

      touches_now : (p : PartName) → touches t.history event p ≡ touches v.front event p
      touches_now p = ap (λ (h : FrontData). touches h event p) same ∙ touches_later v.front event (has v.held) v.caller v.desk f.follows.more striped legal may covered own.own quiet p

      covered_now : Covered (has v.held) t.history event
      covered_now p h = covered p (sym (touches_now p) ∙ h)

      may_now : May t.history event
      may_now = subst (λ (h : FrontData). May h event) (sym same)
          (legal_later v.front event (has v.held) v.caller v.desk f.follows.more striped legal may covered own.own quiet)
