-- What a step at one vBucket leaves of the others, and when a core's vBuckets are ready again.
use Rattle.std.proofs.Common.{◌≡◌, ◌≢◌, ◌<◌, ℕ, zero, suc, Bool, true, false, cond, ◌⊎◌, inl, inr, List, [], ◌∷◌, length, map, filter, take, drop, slice_get, refl, sym, ap, subst, ◌∙◌, add-one, arith}
use Rattle.std.specs.Prelude.{Option, Some, None, IsSome, ◌==◌, not, if◌then◌else◌}
use Rattle.std.proofs.lemmas.Bool.{cases_eq}
use Rattle.std.proofs.lemmas.Bool.Decides.{Decides-eqb, nat_tests}
use Rattle.ep_model.specs.declared.config.Config.{Config}
use Rattle.ep_model.specs.declared.event.PartName.{PartName}
use Rattle.ep_model.specs.declared.event.PartName.TheVariants.{Queue}
use Rattle.ep_model.specs.declared.data.EventData.{EventData}
use Rattle.ep_model.specs.declared.data.FrontData.{FrontData}
use Rattle.ep_model.specs.declared.data.StartData.{StartData}
use Rattle.hold_stage.specs.Touches.{there}
use Rattle.hold_stage.specs.Grows.{IsNone}
use Rattle.vb_world.specs.declared.place.Place.{Place}
use Rattle.vb_world.specs.declared.place.Place.TheVariants.{Home, Out}
use Rattle.vb_world.specs.declared.data.BucketData.{BucketData}
use Rattle.vb_world.specs.declared.data.WorldData.{WorldData}
use Rattle.vb_world.specs.declared.data.FixedData.{FixedData}
use Rattle.vb_world.specs.History.{events_of}
use Rattle.vb_world.specs.World.{slot_of, place_at, place_in, home_of, part_in, is_out_with, has_out, start_of, front_in, fixed_in}
use Rattle.ep_drill.specs.declared.part.Part.{Part}
use Rattle.hold_stage.specs.Went.{with_noted}
use Rattle.ep_drill.specs.Calls.{AreHome}
use Rattle.ep_drill.specs.Core.{Ready, Moved, Rested}

module _ {A : Type 0} where
  get_behind : (xs : List A) (u : ℕ) → slice_get xs (suc u) ≡ slice_get (drop 1 xs) u
  get_behind [] u = refl
  get_behind (x ∷ xs) u = refl

  -- two lists that differ at one index alone have the same elsewhere
  get_apart : (xs ys : List A) (n u : ℕ) → take n ys ≡ take n xs → drop (suc n) ys ≡ drop (suc n) xs → u ≢ n → slice_get ys u ≡ slice_get xs u
  get_apart xs ys zero zero before behind differ = absurd (differ refl)
  get_apart xs ys zero (suc u) before behind differ = get_behind ys u ∙ ap (λ (l : List A). slice_get l u) behind ∙ sym (get_behind xs u)
  get_apart [] [] (suc n) u before behind differ = refl
  get_apart [] (y ∷ ys) (suc n) u before behind differ = absurd (cc)
  get_apart (x ∷ xs) [] (suc n) u before behind differ = absurd (cc)
  get_apart (x ∷ xs) (y ∷ ys) (suc n) zero before behind differ = let head : y ≡ x = cc in ap Some head
  get_apart (x ∷ xs) (y ∷ ys) (suc n) (suc u) before behind differ =
      let tail : take n ys ≡ take n xs = cc in
      get_apart xs ys n u tail behind (λ e. differ (ap suc e))

  -- and where that index is in both, they are equally long
  length_apart : (xs ys : List A) (n : ℕ) → take n ys ≡ take n xs → drop (suc n) ys ≡ drop (suc n) xs → n < length xs → n < length ys → length ys ≡ length xs
  length_apart [] ys n before behind in-old in-new = absurd (omega arith)
  length_apart (x ∷ xs) [] n before behind in-old in-new = absurd (omega arith)
  length_apart (x ∷ xs) (y ∷ ys) zero before behind in-old in-new = ap (λ (l : List A). suc (length l)) behind
  length_apart (x ∷ xs) (y ∷ ys) (suc n) before behind in-old in-new =
      let tail : take n ys ≡ take n xs = cc in
      ap suc (length_apart xs ys n tail behind (omega arith) (omega arith))

-- the events of the other vBuckets
abbrev elsewhere : ℕ → List (ℕ × EventData) → List (ℕ × EventData)
elsewhere vb pairs = filter (λ (pair : ℕ × EventData). not (pair.0 == vb)) pairs

-- the events of one vBucket among these with one more in front, as the test of that one says
abbrev taken : Bool → ℕ → ℕ × EventData → List (ℕ × EventData) → List EventData
taken b u p pairs = map (λ (q : ℕ × EventData). q.1) (cond b (p ∷ filter (λ (q : ℕ × EventData). q.0 == u) pairs) (filter (λ (q : ℕ × EventData). q.0 == u) pairs))

-- the history of a vBucket is found among the events that are not another's
events_apart : (vb u : ℕ) → u ≢ vb → (pairs : List (ℕ × EventData)) → events_of u pairs ≡ events_of u (elsewhere vb pairs)
events_apart vb u differ [] = refl
events_apart vb u differ (p ∷ pairs) =
    let rest = events_apart vb u differ pairs in
    elim (p.0 == vb) as (λ c. (p.0 == vb) ≡ c → taken (p.0 == u) u p pairs ≡ events_of u (cond (not c) (p ∷ elsewhere vb pairs) (elsewhere vb pairs))) [
      | true ↦ λ is.
          let here : p.0 ≡ vb = (Decides-eqb p.0 vb).0 is in
          let apart : (p.0 == u) ≡ false = grind (arith, nat_tests) in
          ap (λ (b : Bool). taken b u p pairs) apart ∙ rest
      | false ↦ λ is. elim (p.0 == u) as (λ b. taken b u p pairs ≡ taken b u p (elsewhere vb pairs)) [
        | true ↦ ap (λ (l : List EventData). p.1 ∷ l) rest
        | false ↦ rest
      ]
    ] refl

abbrev front_made : Config → ℕ → Option StartData → List EventData → FrontData
front_made config id start events = record { config = config; id = id; start = start; events = events }

module _ {P : Type 0} where
  behind_same : (a b : WorldData P) (vb : ℕ) → fixed_in b vb ≡ fixed_in a vb → drop (suc vb) b.buckets ≡ drop (suc vb) a.buckets
  behind_same a b vb fixed = subst (λ (n : ℕ). drop n b.buckets ≡ drop n a.buckets) (add-one vb) (ap (λ (d : FixedData P). d.behind) fixed)

  buckets_apart : (a b : WorldData P) (vb u : ℕ) → fixed_in b vb ≡ fixed_in a vb → u ≢ vb → slice_get b.buckets u ≡ slice_get a.buckets u
  buckets_apart a b vb u fixed differ =
      get_apart a.buckets b.buckets vb u (ap (λ (d : FixedData P). d.before) fixed) (behind_same a b vb fixed) differ

  -- what is known of another vBucket
  pub front_same : (a b : WorldData P) (vb u : ℕ) → fixed_in b vb ≡ fixed_in a vb → u ≢ vb → front_in b u ≡ front_in a u
  front_same a b vb u fixed differ =
      let layout : b.config ≡ a.config = ap (λ (d : FixedData P). d.config) fixed in
      let buckets : slice_get b.buckets u ≡ slice_get a.buckets u = buckets_apart a b vb u fixed differ in
      let others : elsewhere vb b.history ≡ elsewhere vb a.history = ap (λ (d : FixedData P). d.elsewhere) fixed in
      let events : events_of u b.history ≡ events_of u a.history = events_apart vb u differ b.history ∙ ap (events_of u) others ∙ sym (events_apart vb u differ a.history) in
      ap (λ (k : Config). front_made k u (start_of (slice_get b.buckets u)) (events_of u b.history)) layout
      ∙ ap (λ (o : Option (BucketData P)). front_made a.config u (start_of o) (events_of u b.history)) buckets
      ∙ ap (λ (l : List EventData). front_made a.config u (start_of (slice_get a.buckets u)) l) events

  abbrev part_made : Config → Option (BucketData P) → PartName → Option P
  part_made config o p = home_of (if there config p then place_at o (slot_of config p) else None)

  -- and its parts
  pub part_same : (a b : WorldData P) (vb u : ℕ) → fixed_in b vb ≡ fixed_in a vb → u ≢ vb → (p : PartName) → part_in b u p ≡ part_in a u p
  part_same a b vb u fixed differ p =
      ap (λ (k : Config). part_made k (slice_get b.buckets u) p) (ap (λ (d : FixedData P). d.config) fixed)
      ∙ ap (λ (o : Option (BucketData P)). part_made a.config o p) (buckets_apart a b vb u fixed differ)

  -- a part that isn't there is told as none
  part_missing : (world : WorldData P) (vb : ℕ) (p : PartName) → there world.config p ≡ false → part_in world vb p ≡ None
  part_missing world vb p is = ap (λ (t : Bool). home_of (if t then place_at (slice_get world.buckets vb) (slot_of world.config p) else None)) is

  -- so where the parts that are there are told as before, all are
  pub parts_kept : (a b : WorldData P) (vb : ℕ) → b.config ≡ a.config → ((p : PartName) → there a.config p ≡ true → part_in b vb p ≡ part_in a vb p) → (p : PartName) → part_in b vb p ≡ part_in a vb p
  parts_kept a b vb layout told p =
      elim (there a.config p) as (λ t. there a.config p ≡ t → part_in b vb p ≡ part_in a vb p) [
        | true ↦ λ is. told p is
        | false ↦ λ is. part_missing b vb p (ap (λ (k : Config). there k p) layout ∙ is) ∙ sym (part_missing a vb p is)
      ] refl

  home_not_out : (caller : ℕ) (o : Option (Place P)) → IsSome (home_of o) → is_out_with caller o ≡ false
  home_not_out caller None home = refl
  home_not_out caller (Some (Home x)) home = refl
  home_not_out caller (Some (Out other)) home = absurd (cc)

  -- where all parts are at home nobody has one out
  pub free_at : (world : WorldData P) (vb caller : ℕ) → AreHome world.config (part_in world vb) → IsNone (has_out world vb caller)
  free_at world vb caller home p =
      elim (there world.config p) as (λ t. there world.config p ≡ t → is_out_with caller (place_in world vb p) ≡ false) [
        | true ↦ λ is. home_not_out caller (place_in world vb p) (home p is)
        | false ↦ λ is. ap (λ (t : Bool). is_out_with caller (if t then place_at (slice_get world.buckets vb) (slot_of world.config p) else None)) is
      ] refl

  within_where : (xs : List (BucketData P)) (vb slot : ℕ) → IsSome (home_of (place_at (slice_get xs vb) slot)) → vb < length xs
  within_where [] vb slot home = absurd (cc)
  within_where (x ∷ xs) zero slot home = omega arith
  within_where (x ∷ xs) (suc vb) slot home = let rest = within_where xs vb slot home in omega arith

-- Where one vBucket's parts are at home again and nothing else was changed, all are.
ready_again : (config : Config) (a b : WorldData Part) (vb : ℕ) → Ready config a → vb < config.vbuckets → fixed_in b vb ≡ fixed_in a vb → AreHome config (part_in b vb) → Ready config b
ready_again config a b vb ready within fixed home =
    let in-old : vb < length a.buckets = let count = ready.count in omega arith in
    let in-new : vb < length b.buckets = within_where b.buckets vb (slot_of b.config Queue) (home Queue refl) in
    let same : length b.buckets ≡ length a.buckets =
    length_apart a.buckets b.buckets vb (ap (λ (d : FixedData Part). d.before) fixed) (behind_same a b vb fixed) in-old in-new in
    let homes : (u : ℕ) → u < config.vbuckets → (u ≡ vb) ⊎ (u ≡ vb → ⊥) → AreHome config (part_in b u) = λ u there c. elim c as (λ _. AreHome config (part_in b u)) [
      | inl is ↦ subst (λ (n : ℕ). AreHome config (part_in b n)) (sym is) home
      | inr differ ↦ λ p t. subst (λ (o : Option Part). IsSome o) (sym (part_same a b vb u fixed differ p)) (ready.home u there p t)
    ] in
    record { fault = ready.fault; eviction = ready.eviction; layout = ap (λ (d : FixedData Part). d.config) fixed ∙ ready.layout; count = same ∙ ready.count; home = λ u there. homes u there (cases_eq u vb) }

-- A step at one vBucket that noted this event or none, and gave back all parts.
pub moved_by : (config : Config) (a b : WorldData Part) (vb : ℕ) (event : Option EventData)
    → Ready config a → vb < config.vbuckets → fixed_in b vb ≡ fixed_in a vb → AreHome config (part_in b vb) → front_in b vb ≡ with_noted (front_in a vb) event → Moved config vb event a b
moved_by config a b vb event ready within fixed home front =
    record { ready = ready_again config a b vb ready within fixed home; front = front; others = λ u differ. front_same a b vb u fixed differ; apart = λ u differ p. part_same a b vb u fixed differ p }

-- More room alone moves nothing.
pub moved_room : (config : Config) (a b : WorldData Part) (vb n m : ℕ) → Ready config a → b ≡ record a { event_room = n; byte_room = m } → Moved config vb None a b
moved_room config a b vb n m ready is =
    subst (λ (w : WorldData Part). Moved config vb None a w) (sym is)
    (record { ready = record { fault = ready.fault; eviction = ready.eviction; layout = ready.layout; count = ready.count; home = ready.home }; front = refl; others = λ u differ. refl; apart = λ u differ p. refl })

-- Where one vBucket's history and parts are as they were, and nothing else was changed, all are.
pub rested_by : (config : Config) (a b : WorldData Part) (vb : ℕ) → Ready config a → vb < config.vbuckets → fixed_in b vb ≡ fixed_in a vb → AreHome config (part_in b vb) → front_in b vb ≡ front_in a vb
    → ((p : PartName) → there a.config p ≡ true → part_in b vb p ≡ part_in a vb p) → Rested config a b
rested_by config a b vb ready within fixed home front told =
    let kept = parts_kept a b vb (ap (λ (d : FixedData Part). d.config) fixed) told in
    let fronts : (u : ℕ) → (u ≡ vb) ⊎ (u ≡ vb → ⊥) → front_in b u ≡ front_in a u = λ u c. elim c as (λ _. front_in b u ≡ front_in a u) [
      | inl is ↦ subst (λ (n : ℕ). front_in b n ≡ front_in a n) (sym is) front
      | inr differ ↦ front_same a b vb u fixed differ
    ] in
    let parts : (u : ℕ) (p : PartName) → (u ≡ vb) ⊎ (u ≡ vb → ⊥) → part_in b u p ≡ part_in a u p = λ u p c. elim c as (λ _. part_in b u p ≡ part_in a u p) [
      | inl is ↦ subst (λ (n : ℕ). part_in b n p ≡ part_in a n p) (sym is) (kept p)
      | inr differ ↦ part_same a b vb u fixed differ p
    ] in
    record { ready = ready_again config a b vb ready within fixed home; fronts = λ u. fronts u (cases_eq u vb); parts = λ u p. parts u p (cases_eq u vb) }

-- More room alone changes nothing.
pub room_rests : (config : Config) (a b : WorldData Part) (n m : ℕ) → Ready config a → b ≡ record a { event_room = n; byte_room = m } → Rested config a b
room_rests config a b n m ready is =
    subst (λ (w : WorldData Part). Rested config a w) (sym is)
    (record { ready = record { fault = ready.fault; eviction = ready.eviction; layout = ready.layout; count = ready.count; home = ready.home }; fronts = λ u. refl; parts = λ u p. refl })

-- nothing happened twice
pub rested_then : (config : Config) (a b c : WorldData Part) → Rested config a b → Rested config b c → Rested config a c
rested_then config a b c first second =
    record { ready = second.ready; fronts = λ u. second.fronts u ∙ first.fronts u; parts = λ u p. second.parts u p ∙ first.parts u p }
