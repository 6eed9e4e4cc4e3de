-- What opening the next vBucket does to the whole world.
use Rattle.std.proofs.Common.{◌≡◌, ◌≢◌, ◌<◌, ℕ, zero, suc, ◌+◌, inl, inr, List, [], ◌∷◌, ◌++◌, length, map, take, drop, slice_get, refl, sym, ap, subst, ◌∙◌, add-one, length-append, arith}
use Rattle.std.specs.Prelude.{Option, Some, None, IsSome}
use Rattle.std.specs.Option.{option_map}
use Rattle.std.proofs.lemmas.Bool.{cases_eq}
use Rattle.std.proofs.lemmas.Option.{slice_get-map}
use Rattle.ep_model.specs.declared.config.Config.{Config}
use Rattle.ep_model.specs.declared.event.PartName.{PartName}
use Rattle.ep_model.specs.declared.event.PartName.TheVariants.{Queue}
use Rattle.ep_model.specs.declared.data.EventData.TheVariants as events
use Rattle.ep_model.specs.declared.data.FrontData.{FrontData}
use Rattle.ep_model.specs.Front.{empty_start, with_event, with_start}
use Rattle.hold_stage.specs.Grows.{IsNone}
use Rattle.vb_world.specs.declared.place.Place.{Place}
use Rattle.vb_world.specs.declared.place.Place.TheVariants.{Home}
use Rattle.vb_world.specs.declared.data.BucketData.{BucketData}
use Rattle.vb_world.specs.declared.data.WorldData.{WorldData}
use Rattle.vb_world.specs.declared.data.FixedData.{FixedData}
use Rattle.vb_world.specs.World.{slot_of, place_at, home_of, part_in, has_out, front_in, fixed_in, bare_front, bucket_of, with_bucket, Sound}
use Rattle.vb_world.proofs.ListLemmas.{get_within, get_push_last}
use Rattle.hold_stage.proofs.SlotLemmas.{slot_within}
use Rattle.vb_world.proofs.PlaceLemmas.{home_within, part_there, part_pushed}
use Rattle.vb_world.proofs.SoundLemmas.{front_pushed, front_bare}
use Rattle.ep_drill.specs.declared.part.Part.{Part}
use Rattle.ep_drill.specs.Parts.{part_stands}
use Rattle.ep_drill.specs.Calls.{AreHome}
use Rattle.ep_drill.specs.Opens.{Added}
use Rattle.ep_drill.proofs.WorldLemmas.{front_same, part_same, free_at}

-- how long a list is, from what is before and behind one of its places
length_split : {A : Type 0} (xs : List A) (n : ℕ) → n < length xs → length xs ≡ length (take n xs) + 1 + length (drop (suc n) xs)
length_split {A} [] n within = absurd (omega arith)
length_split {A} (x ∷ xs) zero within = omega arith
length_split {A} (x ∷ xs) (suc n) within = let rest = length_split xs n (omega arith) in omega arith

home_some : (w : WorldData Part) (vb : ℕ) (o : Option Part) → part_in w vb Queue ≡ o → IsSome o → vb < length w.buckets
home_some w vb None is some = absurd (cc)
home_some w vb (Some x) is some = (home_within w vb Queue x is).0

-- The parts of a new vBucket are at home.
pushed_home : (w : WorldData Part) (list : List Part) → length list ≡ w.config.stripes + 2 → AreHome w.config (part_in (with_bucket w list) (length w.buckets))
pushed_home w list count p here =
    let slot = slot_of w.config p in
    let within : slot < length list = (let low = slot_within w.config p here in omega arith) in
    let x = get_within list slot within in
    let placed : slice_get (map Home list) slot ≡ Some (Home x.0) = slice_get-map Home list slot ∙ ap (option_map Home) x.1 in
    let is : part_in (with_bucket w list) (length w.buckets) p ≡ Some x.0 =
    part_there (with_bucket w list) (length w.buckets) p here
    ∙ ap (λ (o : Option (BucketData Part)). home_of (place_at o slot)) (get_push_last w.buckets (bucket_of list))
    ∙ ap (λ (o : Option (Place Part)). home_of o) placed in
    subst (λ (o : Option Part). IsSome o) (sym is) refl

-- A vBucket that was added, and then other room: it is bare, and its parts are at home. A stage for it begins there.
module _ (config : Config) (a b r : WorldData Part) (list : List Part) (n m : ℕ) (sound : Sound part_stands a) (layout : a.config ≡ config) (count : length list ≡ a.config.stripes + 2)
    (added : b ≡ with_bucket a list) (room : r ≡ record b { event_room = n; byte_room = m }) where
  abbrev roomed : WorldData Part
  roomed = record (with_bucket a list) { event_room = n; byte_room = m }

  is_roomed : r ≡ roomed
  is_roomed = room ∙ ap (λ (w : WorldData Part). record w { event_room = n; byte_room = m }) added

  pub new_bare : front_in r (length a.buckets) ≡ bare_front config (length a.buckets)
  new_bare =
      ap (λ (w : WorldData Part). front_in w (length a.buckets)) is_roomed ∙ front_pushed a list (length a.buckets) ∙ front_bare part_stands a sound ∙ ap (λ (k : Config). bare_front k (length a.buckets)) layout

  new_within : length a.buckets < length r.buckets
  new_within =
      let more : length (a.buckets ++ bucket_of list ∷ []) ≡ length a.buckets + 1 = length-append a.buckets (bucket_of list ∷ []) in
      let same : length r.buckets ≡ length (a.buckets ++ bucket_of list ∷ []) = ap (λ (w : WorldData Part). length w.buckets) is_roomed in
      omega arith

  pub new_home : AreHome r.config (part_in r (length a.buckets))
  new_home = subst (λ (w : WorldData Part). AreHome w.config (part_in w (length a.buckets))) (sym is_roomed) (pushed_home a list count)

  pub new_free : (caller : ℕ) → IsNone (has_out r (length a.buckets) caller)
  new_free caller = free_at r (length a.buckets) caller new_home

  -- Once it has opened at the stage it is added.
  module _ (z : WorldData Part) (fixed : fixed_in z (length a.buckets) ≡ fixed_in r (length a.buckets)) (home : AreHome (front_in r (length a.buckets)).config (part_in z (length a.buckets)))
      (front : front_in z (length a.buckets) ≡ with_event (with_start (front_in r (length a.buckets)) (Some empty_start)) events.Opened)
      (homes : (vb : ℕ) → vb < length a.buckets → AreHome config (part_in a vb)) where
    layout_r : r.config ≡ config
    layout_r = ap (λ (w : WorldData Part). w.config) is_roomed ∙ layout

    home_here : AreHome config (part_in z (length a.buckets))
    home_here = subst (λ (k : Config). AreHome k (part_in z (length a.buckets))) layout_r home

    size : length z.buckets ≡ length a.buckets + 1
    size =
        let vb = length a.buckets in
        let within = home_some z vb (part_in z vb Queue) refl (home Queue refl) in
        let before : take vb z.buckets ≡ take vb r.buckets = ap (λ (d : FixedData Part). d.before) fixed in
        let behind : drop (suc vb) z.buckets ≡ drop (suc vb) r.buckets = subst (λ (k : ℕ). drop k z.buckets ≡ drop k r.buckets) (add-one vb) (ap (λ (d : FixedData Part). d.behind) fixed) in
        let left : length (take vb z.buckets) ≡ length (take vb r.buckets) = ap (λ (l : List (BucketData Part)). length l) before in
        let right : length (drop (suc vb) z.buckets) ≡ length (drop (suc vb) r.buckets) = ap (λ (l : List (BucketData Part)). length l) behind in
        let new = length_split z.buckets vb within in
        let old = length_split r.buckets vb new_within in
        let more : length (a.buckets ++ bucket_of list ∷ []) ≡ length a.buckets + 1 = length-append a.buckets (bucket_of list ∷ []) in
        let same : length r.buckets ≡ length (a.buckets ++ bucket_of list ∷ []) = ap (λ (w : WorldData Part). length w.buckets) is_roomed in
        omega arith

    others : (u : ℕ) → u ≢ length a.buckets → front_in z u ≡ front_in a u
    others u differ = front_same r z (length a.buckets) u fixed differ ∙ ap (λ (w : WorldData Part). front_in w u) is_roomed ∙ front_pushed a list u

    part_before : (u : ℕ) → u ≢ length a.buckets → (p : PartName) → part_in z u p ≡ part_in a u p
    part_before u differ p = part_same r z (length a.buckets) u fixed differ p ∙ ap (λ (w : WorldData Part). part_in w u p) is_roomed ∙ part_pushed a list u p differ

    all_home : (u : ℕ) → u < length z.buckets → AreHome config (part_in z u)
    all_home u there_u = elim (cases_eq u (length a.buckets)) as (λ _. AreHome config (part_in z u)) [
      | inl is ↦ subst (λ (k : ℕ). AreHome config (part_in z k)) (sym is) home_here
      | inr differ ↦ λ p t. subst (λ (o : Option Part). IsSome o) (sym (part_before u differ p)) (homes u (let all = size in omega arith) p t)
    ]

    pub is_added : Added config a z
    is_added = record {
      layout = ap (λ (d : FixedData Part). d.config) fixed ∙ layout_r;
      count = size;
      front = front ∙ ap (λ (f : FrontData). with_event (with_start f (Some empty_start)) events.Opened) new_bare;
      others = others;
      home = all_home;
    }

-- The same of a stage: what it is opened by, and what is left.
module _ (config : Config) (a b r s : WorldData Part) (list : List Part) (n m count vb : ℕ) (sound : Sound part_stands a) (layout : a.config ≡ config) (parts : length list ≡ config.stripes + 2)
    (added : b ≡ with_bucket a list) (room : r ≡ record b { event_room = n; byte_room = m }) (world : s ≡ r) (number : count ≡ length a.buckets) (at : vb ≡ count) where
  here : vb ≡ length a.buckets
  here = at ∙ number

  parts_here : length list ≡ a.config.stripes + 2
  parts_here = parts ∙ ap (λ (k : Config). k.stripes + 2) (sym layout)

  -- a stage is at this world and vBucket
  at_stage : (Q : WorldData Part → ℕ → Type 0) → Q r (length a.buckets) → Q s vb
  at_stage Q q = subst (λ (w : WorldData Part). Q w vb) (sym world) (subst (λ (k : ℕ). Q r k) (sym here) q)

  from_stage : (Q : WorldData Part → ℕ → Type 0) → Q s vb → Q r (length a.buckets)
  from_stage Q q = subst (λ (k : ℕ). Q r k) here (subst (λ (w : WorldData Part). Q w vb) world q)

  pub stage_bare : ((front_in s vb).start ≡ None) × ((front_in s vb).events ≡ [])
  stage_bare =
      let bare = new_bare config a b r list n m sound layout parts_here added room in
      at_stage (λ w k. ((front_in w k).start ≡ None) × ((front_in w k).events ≡ [])) (ap (λ (f : FrontData). f.start) bare, ap (λ (f : FrontData). f.events) bare)

  pub stage_home : AreHome (front_in s vb).config (part_in s vb)
  stage_home = at_stage (λ w k. AreHome w.config (part_in w k)) (new_home config a b r list n m sound layout parts_here added room)

  pub stage_free : (caller : ℕ) → IsNone (has_out s vb caller)
  stage_free caller = at_stage (λ w k. IsNone (has_out w k caller)) (new_free config a b r list n m sound layout parts_here added room caller)

  pub stage_added : (z : WorldData Part) (zv : ℕ) → fixed_in z zv ≡ fixed_in s vb → AreHome (front_in s vb).config (part_in z zv) → front_in z zv ≡ with_event (with_start (front_in s vb) (Some empty_start)) events.Opened
      → ((u : ℕ) → u < length a.buckets → AreHome config (part_in a u)) → Added config a z
  stage_added z zv fixed home front homes =
      let same : zv ≡ vb = ap (λ (d : FixedData Part). d.vb) fixed in
      is_added config a b r list n m sound layout parts_here added room z
      (from_stage (λ w k. fixed_in z k ≡ fixed_in w k) (subst (λ (k : ℕ). fixed_in z k ≡ fixed_in s vb) same fixed))
      (from_stage (λ w k. AreHome (front_in w k).config (part_in z k)) (subst (λ (k : ℕ). AreHome (front_in s vb).config (part_in z k)) same home))
      (from_stage (λ w k. front_in z k ≡ with_event (with_start (front_in w k) (Some empty_start)) events.Opened) (subst (λ (k : ℕ). front_in z k ≡ with_event (with_start (front_in s vb) (Some empty_start)) events.Opened) same front))
      homes
