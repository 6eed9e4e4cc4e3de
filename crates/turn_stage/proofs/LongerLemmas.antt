-- The longer of two fronts of one history, of passes that hold no part.
use Rattle.std.proofs.Common.{◌≡◌, ◌≢◌, ◌⊎◌, ℕ, zero, suc, ◌+◌, ◌<◌, ◌≤◌, Bool, true, false, ◌||◌, List, [], ◌∷◌, ◌++◌, length, Option, Some, None, if◌then◌else◌, refl, sym, ap, ◌∙◌, subst, arith, ⊎_elim, inl, inr}
use Rattle.std.specs.Prelude.{nat_lt}
use Rattle.std.proofs.lemmas.Bool.{ltb-true, ltb-false}
use Rattle.std.specs.List.{AllByRecursion}
use Rattle.ep_model.specs.declared.event.PartName.{PartName}
use Rattle.ep_model.specs.declared.data.EventData.{EventData}
use Rattle.ep_model.specs.declared.data.FrontData.{FrontData}
use Rattle.ep_model.specs.declared.data.StartData.{StartData}
use Rattle.ep_model.specs.Front.{with_event, with_start}
use Rattle.hold_stage.specs.Touches.{is_of, is_desks}
use Rattle.hold_stage.specs.Grows.{Quiet, IsNone, Grown}
use Rattle.turn_stage.specs.Plays.{longer_of, longer}
use Rattle.turn_stage.proofs.PartLemmas.{not_both}

-- who holds nothing knows of the events that came only whose they are
abbrev pub IsOthers : ℕ → Bool → EventData → Type 0
IsOthers caller desk event = (is_of caller event ≡ false) × (desk ≡ true → is_desks event ≡ false)

pub quiet_others : (f : FrontData) (held : PartName → Bool) (caller : ℕ) (desk : Bool) (events : List EventData) → Quiet f held caller desk events → AllByRecursion (IsOthers caller desk) events
quiet_others f held caller desk [] quiet = tt
quiet_others f held caller desk (e ∷ events) quiet = ((quiet.0.others, quiet.0.desks), quiet_others (with_event f e) held caller desk events quiet.1)

pub others_quiet : (f : FrontData) (held : PartName → Bool) (caller : ℕ) (desk : Bool) (events : List EventData) → IsNone held → AllByRecursion (IsOthers caller desk) events → Quiet f held caller desk events
others_quiet f held caller desk [] none all = tt
others_quiet f held caller desk (e ∷ events) none all =
    (record { apart = λ p h. absurd (not_both (held p) h (none p)); others = all.0.0; desks = all.0.1 }, others_quiet (with_event f e) held caller desk events none all.1)

all_cut : {A : Type 0} (P : A → Type 0) (xs ys : List A) → AllByRecursion P (xs ++ ys) → AllByRecursion P xs × AllByRecursion P ys
all_cut P [] ys all = (tt, all)
all_cut P (x ∷ xs) ys all = let k = all_cut P xs ys all.1 in ((all.0, k.0), k.1)

-- of both
both_others : (caller : ℕ) (a b : Bool) (events : List EventData) → AllByRecursion (IsOthers caller a) events → (b ≡ true → AllByRecursion (λ event. is_desks event ≡ false) events) → AllByRecursion (IsOthers caller (a || b)) events
both_others caller a b [] all desks = tt
both_others caller true b (e ∷ events) all desks = (all.0, both_others caller true b events all.1 (λ h. (desks h).1))
both_others caller false b (e ∷ events) all desks = ((all.0.0, λ h. (desks h).0), both_others caller false b events all.1 (λ h. (desks h).1))

only_desks : (caller : ℕ) (b : Bool) (events : List EventData) → AllByRecursion (IsOthers caller b) events → b ≡ true → AllByRecursion (λ event. is_desks event ≡ false) events
only_desks caller b [] all h = tt
only_desks caller b (e ∷ events) all h = (all.0.1 h, only_desks caller b events all.1 h)

-- two beginnings of one list
abbrev head_or : EventData → List EventData → EventData
head_or d [] = d
head_or d (x ∷ xs) = x

abbrev tail_of : List EventData → List EventData
tail_of [] = []
tail_of (x ∷ xs) = xs

prefixes : (xs ys ms ns : List EventData) → xs ++ ms ≡ ys ++ ns → length xs ≤ length ys → (rest : List EventData) × (ys ≡ xs ++ rest) × (ms ≡ rest ++ ns)
prefixes [] ys ms ns e le = (ys, refl, e)
prefixes (x ∷ xs) [] ms ns e le = absurd (omega arith)
prefixes (x ∷ xs) (y ∷ ys) ms ns e le =
    let k = prefixes xs ys ms ns (ap tail_of e) (omega arith) in
    let h : y ≡ x = sym (ap (head_or x) e) in
    (k.0, (λ i. h i ∷ k.1 i), k.2)

-- the one front comes before the other
pub record Before (f g : FrontData) : Type 0 where
  pub shorter : length f.events ≤ length g.events
  pub bare : g.start ≡ None → f.start ≡ None

-- what is known of two fronts of one history
module _ (f g h : FrontData) (a b : PartName → Bool) (m n : ℕ) (d e : Bool) (gf : Grown f h a m d) (gg : Grown g h b n e) (none_a : IsNone a) (none_b : IsNone b) (before : Before f g) where
  rest_of : (rest : List EventData) × (g.events ≡ f.events ++ rest) × (gf.more ≡ rest ++ gg.more)
  rest_of = prefixes f.events g.events gf.more gg.more (sym gf.events ∙ gg.events) before.shorter

  first_others : AllByRecursion (IsOthers m d) rest_of.0 × AllByRecursion (IsOthers m d) gg.more
  first_others = all_cut (IsOthers m d) rest_of.0 gg.more (subst (AllByRecursion (IsOthers m d)) rest_of.2 (quiet_others (with_start f h.start) a m d gf.more gf.quiet))

  second_others : AllByRecursion (IsOthers n e) gg.more
  second_others = quiet_others (with_start g h.start) b n e gg.more gg.quiet

  -- the shorter one grew to the longer
  pub shorter_grown : Grown f g a m d
  shorter_grown = record {
    more = rest_of.0;
    config = sym gg.config ∙ gf.config;
    id = sym gg.id ∙ gf.id;
    events = rest_of.1;
    quiet = others_quiet (with_start f g.start) a m d rest_of.0 none_a first_others.0;
    start = ⊎_elim
        (λ (same : h.start ≡ g.start). ⊎_elim (λ (k : h.start ≡ f.start). inl (sym same ∙ k)) (λ k. inr k) gf.start)
        (λ k. inl (k.0 ∙ sym (before.bare k.0)))
        gg.start;
  }

  -- and the history goes on behind the longer, for whoever had the shorter one
  pub longer_mine : Grown g h a m (d || e)
  longer_mine = record {
    more = gg.more;
    config = gg.config;
    id = gg.id;
    events = gg.events;
    quiet = others_quiet (with_start g h.start) a m (d || e) gg.more none_a (both_others m d e gg.more first_others.1 (only_desks n e gg.more second_others));
    start = ⊎_elim
        (λ (same : h.start ≡ g.start). inl same)
        (λ k. ⊎_elim (λ (same : h.start ≡ f.start). inl (same ∙ (before.bare k.0 ∙ sym k.0))) (λ l. inr (k.0, none_a, either_false d e l.2 k.2)) gf.start)
        gg.start;
  }
    where
      either_false : (x y : Bool) → x ≡ false → y ≡ false → (x || y) ≡ false
      either_false true y p q = p
      either_false false y p q = q

  -- or for whoever has the longer one
  pub longer_other : Grown g h b n (e || d)
  longer_other = record {
    more = gg.more;
    config = gg.config;
    id = gg.id;
    events = gg.events;
    quiet = others_quiet (with_start g h.start) b n (e || d) gg.more none_b (both_others n e d gg.more second_others (only_desks m d gg.more first_others.1));
    start = ⊎_elim
        (λ (same : h.start ≡ g.start). inl same)
        (λ k. ⊎_elim (λ (same : h.start ≡ f.start). inl (same ∙ (before.bare k.0 ∙ sym k.0))) (λ l. inr (k.0, none_b, either_false e d k.2 l.2)) gf.start)
        gg.start;
  }
    where
      either_false : (x y : Bool) → x ≡ false → y ≡ false → (x || y) ≡ false
      either_false true y p q = p
      either_false false y p q = q

  -- where the shorter one is the whole history, so is the longer
  pub longer_whole : f ≡ h → g ≡ h
  longer_whole whole =
      let end : gg.more ≡ [] = no_more g.events gg.more (let l = before.shorter in let k = ap (λ (u : FrontData). length u.events) whole in let s = ap (λ (l : List EventData). length l) gg.events in omega arith) in
      let same : h.start ≡ g.start = ⊎_elim (λ (k : h.start ≡ g.start). k) (λ k. sym (ap (λ (u : FrontData). u.start) whole) ∙ (before.bare k.0 ∙ sym k.0)) gg.start in
      λ i. record {
        config = sym gg.config i;
        id = sym gg.id i;
        start = sym same i;
        events = sym (gg.events ∙ (ap (λ (l : List EventData). g.events ++ l) end ∙ Rattle.std.proofs.Common.append-nil g.events)) i;
      }
    where
      no_more : (xs ys : List EventData) → length (xs ++ ys) ≤ length xs → ys ≡ []
      no_more [] [] le = refl
      no_more [] (y ∷ ys) le = absurd (omega arith)
      no_more (x ∷ xs) ys le = no_more xs ys (omega arith)

-- which of the two is taken
pub ordered : (f g : FrontData) → (f.start ≡ None → g.start ≢ None → length f.events ≤ length g.events) → (g.start ≡ None → f.start ≢ None → length g.events ≤ length f.events)
    → ((longer f g ≡ g) × Before f g) ⊎ ((longer f g ≡ f) × Before g f)
ordered f g later sooner = at f.start g.start refl refl
  where
    by_length : (t : Bool) → nat_lt (length f.events) (length g.events) ≡ t → (f.start ≡ None → g.start ≡ None) → (g.start ≡ None → f.start ≡ None)
        → (((if t then g else f) ≡ g) × Before f g) ⊎ (((if t then g else f) ≡ f) × Before g f)
    by_length true k there back = inl (refl, record { shorter = (let l = ltb-true (length f.events) (length g.events) k in omega arith); bare = back })
    by_length false k there back = inr (refl, record { shorter = ltb-false (length f.events) (length g.events) k; bare = there })

    at : (x y : Option StartData) → f.start ≡ x → g.start ≡ y → ((longer_of x y f g ≡ g) × Before f g) ⊎ ((longer_of x y f g ≡ f) × Before g f)
    at None None p q = by_length (nat_lt (length f.events) (length g.events)) refl (λ _. q) (λ _. p)
    at None (Some s) p q = inl (refl, record { shorter = later p (λ k. let c = sym q ∙ k in absurd (cc)); bare = λ k. let c = sym q ∙ k in absurd (cc) })
    at (Some s) None p q = inr (refl, record { shorter = sooner q (λ k. let c = sym p ∙ k in absurd (cc)); bare = λ k. let c = sym p ∙ k in absurd (cc) })
    at (Some s) (Some r) p q = by_length (nat_lt (length f.events) (length g.events)) refl (λ k. let c = sym p ∙ k in absurd (cc)) (λ k. let c = sym q ∙ k in absurd (cc))
