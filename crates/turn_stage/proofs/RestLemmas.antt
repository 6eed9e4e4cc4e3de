-- What a pass knows of its seat between calls.
use Rattle.std.proofs.Common.{◌≡◌, ℕ, Bool, true, false, ◌&&◌, if◌then◌else◌, List, [], ◌∷◌, Option, Some, None, refl, sym, ap, subst, true≢false}
use Rattle.atomic_table.specs.Table.{Me}
use Rattle.ep_model.specs.declared.config.Config.{Config}
use Rattle.ep_model.specs.declared.event.PartName.{PartName}
use Rattle.hold_stage.specs.Touches.{there, same_part}
use Rattle.turn_stage.specs.declared.data.View.{View}
use Rattle.turn_stage.specs.Slots.{has, without_part}
use Rattle.turn_stage.specs.Seats.{is_resting, is_empty, is_none, all_there, IsResting}
use Rattle.turn_stage.proofs.PartLemmas.{has_more}

and_both : (a b : Bool) → a && b ≡ true → (a ≡ true) × (b ≡ true)
and_both true b h = (refl, h)
and_both false b h = absurd (true≢false (sym h))

and_true : (a b : Bool) → a ≡ true → b ≡ true → a && b ≡ true
and_true true b h k = k
and_true false b h k = absurd (true≢false (sym h))

empty_is : {A : Type 0} (l : List A) → is_empty l ≡ true → l ≡ []
empty_is [] h = refl
empty_is (x ∷ l) h = absurd (true≢false (sym h))

none_is : {A : Type 0} (o : Option A) → is_none o ≡ true → o ≡ None
none_is None h = refl
none_is (Some x) h = absurd (true≢false (sym h))

pub rests : {P : Type 0} (me : Me (Option P) View) → is_resting me ≡ true → IsResting me
rests me h =
    let a = and_both (is_empty me.1) (is_none me.0.hand && me.0.live) h in
    let b = and_both (is_none me.0.hand) me.0.live a.1 in
    record { carried = empty_is me.1 a.0; hand = none_is me.0.hand b.0; live = b.1 }

pub resting : {P : Type 0} (me : Me (Option P) View) → IsResting me → is_resting me ≡ true
resting {P} me r = and_true (is_empty me.1) (is_none me.0.hand && me.0.live) (ap (λ (l : List (ℕ × Option P)). is_empty l) r.carried)
    (and_true (is_none me.0.hand) me.0.live (ap (λ (o : Option PartName). is_none o) r.hand) r.live)

pub held_there : (config : Config) (parts : List PartName) (part : PartName) → all_there config parts ≡ true → has parts part ≡ true → there config part ≡ true
held_there config [] part all h = absurd (true≢false (sym h))
held_there config (first ∷ parts) part all h =
    let k = and_both (there config first) (all_there config parts) all in
    has_more first parts part h (λ e. subst (λ (p : PartName). there config p ≡ true) (sym e) k.0) (λ m. held_there config parts part k.1 m)

pub there_more : (config : Config) (parts : List PartName) (part : PartName) → there config part ≡ true → all_there config parts ≡ true → all_there config (part ∷ parts) ≡ true
there_more config parts part here all = and_true (there config part) (all_there config parts) here all

pub there_less : (config : Config) (parts : List PartName) (part : PartName) → all_there config parts ≡ true → all_there config (without_part part parts) ≡ true
there_less config [] part all = refl
there_less config (first ∷ parts) part all =
    let k = and_both (there config first) (all_there config parts) all in
    pick (same_part first part) (without_part part parts) (there_less config parts part k.1) k.0
  where
    pick : (b : Bool) (rest : List PartName) → all_there config rest ≡ true → there config first ≡ true → all_there config (if b then rest else (first ∷ rest)) ≡ true
    pick true rest h here = h
    pick false rest h here = and_true (there config first) (all_there config rest) here h
