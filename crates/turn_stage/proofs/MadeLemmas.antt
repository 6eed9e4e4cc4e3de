-- What is known of the calls that threads made.
use Rattle.std.proofs.Common.{◌≡◌, ℕ, suc, ◌+◌, Bool, true, false, List, [], ◌∷◌, ◌++◌, refl, sym, ap, subst, ◌∙◌, append-nil, arith}
use Rattle.std.specs.Prelude.{Some, None, Result, Ok, Err}
use Rattle.std.specs.Result.{is_ok}
use Rattle.std.proofs.lemmas.Bool.{eq-eqb}
use Rattle.ep_model.specs.declared.config.Config.{Config}
use Rattle.ep_model.specs.declared.data.EventData.{EventData}
use Rattle.ep_model.specs.declared.data.FrontData.{FrontData}
use Rattle.ep_model.specs.declared.event.PartName.{PartName}
use Rattle.hold_stage.specs.Touches.{is_of}
use Rattle.hold_stage.specs.Grows.{IsNone}
use Rattle.hold_stage.specs.Went.{Went, own_events, own_of}
use Rattle.hold_stage.proofs.GrowsLemmas.{grown_own}
use Rattle.hold_stage.proofs.WentLemmas.{went_own}
use Rattle.turn_stage.specs.declared.data.View.{View}
use Rattle.turn_stage.specs.declared.data.PassData.{PassData}
use Rattle.turn_stage.specs.declared.pass.TurnPass.{TurnPass}
use Rattle.turn_stage.specs.declared.table.Turns.{Turns}
use Rattle.turn_stage.specs.Slots.{has}
use Rattle.turn_stage.specs.Passes.{view_of, IsPassOf, Joined, AreJoined}
use Rattle.turn_stage.specs.Plays.{without_number, with_number}
use Rattle.turn_stage.specs.Parts.{first_view}
use Rattle.turn_stage.specs.Made.{refusal, noted_by, only_if, key_at, made, MadeCalls, AreMade, AreEnded, HasJoined}

append_assoc : {A : Type 0} (xs ys zs : List A) → (xs ++ ys) ++ zs ≡ xs ++ (ys ++ zs)
append_assoc [] ys zs = refl
append_assoc (x ∷ xs) ys zs = ap (λ (l : List _). x ∷ l) (append_assoc xs ys zs)

-- a refusal is its caller's
own_refusal : (caller : ℕ) (key : List ℕ) (now : ℕ) → own_of caller (Some (refusal caller key now)) ≡ refusal caller key now ∷ []
unfolding is_of
own_refusal caller key now = rw (eq-eqb caller caller refl) refl

-- a call that went so adds its event to its caller's, or nothing
pub own_went : {A E : Type 0} (f g : FrontData) (held : PartName → Bool) (caller : ℕ) (desk : Bool) (key : List ℕ) (now : ℕ) (r : Result A E)
    → Went f g held caller desk (noted_by (refusal caller key now) r) → own_events caller g.events ≡ own_events caller f.events ++ only_if (is_ok r) (refusal caller key now)
own_went f g held caller desk key now (Ok a) went =
    went_own f g held caller desk (Some (refusal caller key now)) went ∙ ap (λ (l : List EventData). own_events caller f.events ++ l) (own_refusal caller key now)
own_went f g held caller desk key now (Err e) went = went_own f g held caller desk None went

-- one call more
pub made_more : (old now new : List EventData) (caller first n : ℕ) → now ≡ old ++ made caller first n → new ≡ now ++ refusal caller (key_at first n) n ∷ [] → new ≡ old ++ made caller first (n + 1)
made_more old now new caller first n before is =
    let e : suc n ≡ n + 1 = omega arith in
    subst (λ (k : ℕ). new ≡ old ++ made caller first k) e
    (is ∙ ap (λ (l : List EventData). l ++ refusal caller (key_at first n) n ∷ []) before ∙ append_assoc old (made caller first n) (refusal caller (key_at first n) n ∷ []))

-- What was made by callers whose passes were joined stands in the front that is left.
pub ended_made : (front : FrontData) (ended : List (ℕ × FrontData)) (caller : ℕ) (ns : List ℕ) → AreJoined front ended → AreEnded ended caller ns → AreMade front caller ns
ended_made front [] caller [] joined are = tt
ended_made front [] caller (n ∷ ns) joined are = absurd are
ended_made front (e ∷ ended) caller [] joined are = absurd are
ended_made front (e ∷ ended) caller (n ∷ ns) joined are = (
  ap (λ (k : ℕ). own_events k front.events) (sym are.0) ∙ grown_own e.1 front (λ _. false) e.0 false joined.0 ∙ ap (λ (k : ℕ). own_events k e.1.events) are.0 ∙ are.1,
  ended_made front ended (caller + 1) ns joined.1 are.2,
)

-- The first of two passes that are joined keeps its own events, and those of the other are ended.
pub joined_own : (v w both : View) → Joined v w both → own_events v.caller both.front.events ≡ own_events v.caller v.front.events
joined_own v w both j = grown_own v.front both.front (λ _. false) v.caller v.desk j.grown

-- What a stage's call leaves is known of its pass: `v` is the pass before, `w` the same in the stage, and `x` the stage's pass after.
pub ran_own : {A E : Type 0} (v w x : View) (held : PartName → Bool) (desk : Bool) (key : List ℕ) (now : ℕ) (r : Result A E) (b : Bool) → w ≡ v
    → Went w.front x.front held w.caller desk (noted_by (refusal w.caller key now) r) → x.caller ≡ w.caller → b ≡ is_ok r
    → own_events x.caller x.front.events ≡ own_events v.caller v.front.events ++ only_if b (refusal v.caller key now)
ran_own v w x held desk key now r b same went caller is =
    subst (λ (u : View). own_events x.caller x.front.events ≡ own_events u.caller u.front.events ++ only_if b (refusal u.caller key now)) same
    (ap (λ (k : ℕ). own_events k x.front.events) caller
    ∙ (own_went w.front x.front held w.caller desk key now r went ∙ ap (λ (t : Bool). own_events w.caller w.front.events ++ only_if t (refusal w.caller key now)) (sym is)))

module _ {P : Type 0} where
  -- nothing was made yet, and a call more, or none where its part was busy
  pub ran_nothing : (turns : Turns P) (pass : TurnPass P) (first : ℕ) → IsPassOf turns pass → IsNone (has (view_of pass).held) → MadeCalls turns pass pass (made (view_of pass).caller first 0)
  ran_nothing turns pass first of none = record { of = of; none = none; numbers = refl; caller = refl; own = sym (append-nil (own_events (view_of pass).caller (view_of pass).front.events)) }

  pub ran_more : (turns : Turns P) (before now after : TurnPass P) (first n : ℕ) (key : List ℕ) (moment : ℕ) → key ≡ key_at first n → moment ≡ n
      → MadeCalls turns before now (made (view_of before).caller first n) → MadeCalls turns now after (refusal (view_of now).caller key moment ∷ [])
      → MadeCalls turns before after (made (view_of before).caller first (n + 1))
  ran_more turns before now after first n key moment at is ran more = record {
    of = more.of;
    none = more.none;
    numbers = more.numbers ∙ ran.numbers;
    caller = more.caller ∙ ran.caller;
    own =
        made_more (own_events (view_of before).caller (view_of before).front.events) (own_events (view_of now).caller (view_of now).front.events) (own_events (view_of after).caller (view_of after).front.events) (view_of before).caller first n
        ran.own
        (more.own ∙ ap (λ (e : EventData). own_events (view_of now).caller (view_of now).front.events ++ e ∷ [])
        (ap (λ (k : ℕ). refusal k key moment) ran.caller ∙ (ap (λ (l : List ℕ). refusal (view_of before).caller l moment) at ∙ ap (λ (t : ℕ). refusal (view_of before).caller (key_at first n) t) is)));
  }

  pub ran_same : (turns : Turns P) (before now after : TurnPass P) (made : List EventData) → MadeCalls turns before now made → MadeCalls turns now after [] → MadeCalls turns before after made
  ran_same turns before now after made ran more = record {
    of = more.of;
    none = more.none;
    numbers = more.numbers ∙ ran.numbers;
    caller = more.caller ∙ ran.caller;
    own = more.own ∙ (append-nil (own_events (view_of now).caller (view_of now).front.events) ∙ ran.own);
  }

-- The callers 0 to 3, joined one after the other, and their last fronts.
pub four_joined : (v w x y vw vx vy : View) (n m k l : ℕ) → Joined v w vw → Joined vw x vx → Joined vx y vy → v.caller ≡ 0 → w.caller ≡ 1 → x.caller ≡ 2 → y.caller ≡ 3
    → v.ended ≡ [] → w.ended ≡ [] → x.ended ≡ [] → y.ended ≡ []
    → own_events v.caller v.front.events ≡ made 0 0 n → own_events w.caller w.front.events ≡ made 1 1 m → own_events x.caller x.front.events ≡ made 2 2 k → own_events y.caller y.front.events ≡ made 3 3 l
    → HasJoined vy n (m ∷ k ∷ l ∷ [])
four_joined v w x y vw vx vy n m k l a b c v0 w1 x2 y3 ve we xe ye vm wm xm ym =
    let one : vw.caller ≡ 0 = ap (λ (u : View). u.caller) a.is ∙ v0 in
    let two : vx.caller ≡ 0 = ap (λ (u : View). u.caller) b.is ∙ one in
    let e : vy.ended ≡ (w.caller, w.front) ∷ (x.caller, x.front) ∷ (y.caller, y.front) ∷ [] =
    ap (λ (u : View). u.ended) c.is
    ∙ (ap (λ (l : List (ℕ × FrontData)). l ++ (y.caller, y.front) ∷ y.ended) (ap (λ (u : View). u.ended) b.is ∙ ap (λ (l : List (ℕ × FrontData)). l ++ (x.caller, x.front) ∷ x.ended) (ap (λ (u : View). u.ended) a.is
    ∙ (ap (λ (l : List (ℕ × FrontData)). l ++ (w.caller, w.front) ∷ w.ended) ve ∙ ap (λ (l : List (ℕ × FrontData)). (w.caller, w.front) ∷ l) we))
    ∙ ap (λ (l : List (ℕ × FrontData)). (w.caller, w.front) ∷ (x.caller, x.front) ∷ l) xe)
    ∙ ap (λ (l : List (ℕ × FrontData)). (w.caller, w.front) ∷ (x.caller, x.front) ∷ (y.caller, y.front) ∷ l) ye) in (
      ap (λ (i : ℕ). own_events i vy.front.events) (sym two) ∙ (joined_own vx y vy c
          ∙ (ap (λ (i : ℕ). own_events i vx.front.events) (two ∙ sym one) ∙ (joined_own vw x vx b
          ∙ (ap (λ (i : ℕ). own_events i vw.front.events) (one ∙ sym v0) ∙ (joined_own v w vw a ∙ vm))))),
      subst (λ (ended : List (ℕ × FrontData)). AreEnded ended 1 (m ∷ k ∷ l ∷ [])) (sym e) (
        w1,
        ap (λ (i : ℕ). own_events i w.front.events) (sym w1) ∙ wm,
        (
          x2,
          ap (λ (i : ℕ). own_events i x.front.events) (sym x2) ∙ xm,
          (y3, ap (λ (i : ℕ). own_events i y.front.events) (sym y3) ∙ ym, tt),
        ),
      ),
    )

pub closed_made : (v : View) (n : ℕ) (ns : List ℕ) → HasJoined v n ns → AreJoined v.front v.ended → AreMade v.front 0 (n ∷ ns)
closed_made v n ns has joined = (has.0, ended_made v.front v.ended 1 ns joined has.1)

module _ {P : Type 0} where
  -- a loop's step: one call more where the stripe was free, else none
  pub ran_free : (turns : Turns P) (before now after : TurnPass P) (first n k : ℕ) (key : List ℕ) (moment : ℕ) (b : Bool) → key ≡ key_at first n → moment ≡ n → b ≡ true → k ≡ n + 1
      → MadeCalls turns before now (made (view_of before).caller first n) → MadeCalls turns now after (only_if b (refusal (view_of now).caller key moment))
      → MadeCalls turns before after (made (view_of before).caller first k)
  ran_free turns before now after first n k key moment b at is free more ran last =
      subst (λ (i : ℕ). MadeCalls turns before after (made (view_of before).caller first i)) (sym more)
      (ran_more turns before now after first n key moment at is ran
      (subst (λ (t : Bool). MadeCalls turns now after (only_if t (refusal (view_of now).caller key moment))) free last))

  pub ran_busy : (turns : Turns P) (before now after : TurnPass P) (first n k : ℕ) (key : List ℕ) (moment : ℕ) (b : Bool) → b ≡ false → k ≡ n
      → MadeCalls turns before now (made (view_of before).caller first n) → MadeCalls turns now after (only_if b (refusal (view_of now).caller key moment))
      → MadeCalls turns before after (made (view_of before).caller first k)
  ran_busy turns before now after first n k key moment b busy same ran last =
      subst (λ (i : ℕ). MadeCalls turns before after (made (view_of before).caller first i)) (sym same)
      (ran_same turns before now after (made (view_of before).caller first n) ran
      (subst (λ (t : Bool). MadeCalls turns now after (only_if t (refusal (view_of now).caller key moment))) busy last))

  -- a pass that knew of nothing made calls
  ran_bare : (turns : Turns P) (before after : TurnPass P) (u : View) (i n : ℕ) → view_of before ≡ u → u.caller ≡ i → u.front.events ≡ [] → u.ended ≡ []
      → MadeCalls turns before after (made (view_of before).caller i n)
      → ((view_of after).caller ≡ i) × ((view_of after).ended ≡ []) × (own_events (view_of after).caller (view_of after).front.events ≡ made i i n)
  ran_bare turns before after u i n e caller events ended ran =
      let named : (view_of before).caller ≡ i = ap (λ (v : View). v.caller) e ∙ caller in
      let bare : own_events (view_of before).caller (view_of before).front.events ≡ [] = ap (λ (l : List EventData). own_events (view_of before).caller l) (ap (λ (v : View). v.front.events) e ∙ events) in (
        ran.caller ∙ named,
        ap (λ (d : PassData). d.ended) ran.numbers ∙ (ap (λ (v : View). v.ended) e ∙ ended),
        ran.own ∙ (ap (λ (l : List EventData). l ++ made (view_of before).caller i n) bare ∙ ap (λ (k : ℕ). made k i n) named),
      )

  -- Four passes of one that knew of nothing made calls and were joined.
  pub four_made : (turns : Turns P) (config : Config) (id : ℕ) (f : View) (a b c d p q r s : TurnPass P) (vw vx vy : View) (n m k l : ℕ) → f ≡ first_view config id
      → view_of a ≡ without_number (without_number (without_number f)) → view_of b ≡ with_number f → view_of c ≡ with_number (without_number f) → view_of d ≡ with_number (without_number (without_number f))
      → MadeCalls turns a p (made (view_of a).caller 0 n) → MadeCalls turns b q (made (view_of b).caller 1 m) → MadeCalls turns c r (made (view_of c).caller 2 k) → MadeCalls turns d s (made (view_of d).caller 3 l)
      → Joined (view_of p) (view_of q) vw → Joined vw (view_of r) vx → Joined vx (view_of s) vy → HasJoined vy n (m ∷ k ∷ l ∷ [])
  four_made turns config id f a b c d p q r s vw vx vy n m k l first ea eb ec ed ra rb rc rd one two three =
      let pa = ran_bare turns a p (without_number (without_number (without_number (first_view config id)))) 0 n (ea ∙ ap (λ (v : View). without_number (without_number (without_number v))) first) refl refl refl ra in
      let pb = ran_bare turns b q (with_number (first_view config id)) 1 m (eb ∙ ap with_number first) refl refl refl rb in
      let pc = ran_bare turns c r (with_number (without_number (first_view config id))) 2 k (ec ∙ ap (λ (v : View). with_number (without_number v)) first) refl refl refl rc in
      let pd = ran_bare turns d s (with_number (without_number (without_number (first_view config id)))) 3 l (ed ∙ ap (λ (v : View). with_number (without_number (without_number v))) first) refl refl refl rd in
      four_joined (view_of p) (view_of q) (view_of r) (view_of s) vw vx vy n m k l one two three pa.0 pb.0 pc.0 pd.0 pa.1 pb.1 pc.1 pd.1 pa.2 pb.2 pc.2 pd.2
