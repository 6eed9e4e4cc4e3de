-- What is true of every world stays true with each change of it.
use Rattle.std.proofs.Common.{◌≡◌, ℕ, ◌+◌, ◌<◌, Bool, true, false, nat_lt, if◌then◌else◌, List, [], ◌∷◌, ◌++◌, length, slice_get, Option, Some, None, refl, sym, ap, ◌∙◌, subst, arith, inl, inr}
use Rattle.std.specs.List.{AllByRecursion}
use Rattle.std.specs.Option.{option_map}
use Rattle.std.proofs.lemmas.List.{length-set, length-append, length-map}
use Rattle.std.proofs.lemmas.Option.{slice_get_past}
use Rattle.std.proofs.lemmas.Bool.{cases_eq, ne_eqb, or_parts, ltb-false}
use Rattle.ep_model.specs.declared.config.Config.{Config}
use Rattle.ep_model.specs.declared.config.Field.{Field}
use Rattle.ep_model.specs.declared.config.Field.TheVariants.{Vbuckets, Stripes}
use Rattle.ep_model.specs.declared.event.PartName.{PartName}
use Rattle.ep_model.specs.declared.data.EventData.{EventData}
use Rattle.ep_model.specs.declared.data.FrontData.{FrontData}
use Rattle.ep_model.specs.declared.data.StartData.{StartData}
use Rattle.ep_model.specs.Config.{config_fault, is_outside}
use Rattle.ep_model.specs.Front.{with_event, with_start}
use Rattle.ep_model.specs.Legal.{May, IsLegal}
use Rattle.ep_model.proofs.HistoryLemmas.{legal-push, legal-bare}
use Rattle.hold_stage.specs.Touches.{there, same_part, touches}
use Rattle.hold_stage.specs.Laws.{LegalBegun}
use Rattle.vb_world.specs.History.{events_of}
use Rattle.vb_world.specs.declared.place.Place.{Place}
use Rattle.vb_world.specs.declared.place.Place.TheVariants.{Home}
use Rattle.vb_world.specs.declared.data.BucketData.{BucketData}
use Rattle.vb_world.specs.declared.data.WorldData.{WorldData}
use Rattle.vb_world.specs.World.{slot_of, home_of, part_in, put_place, put_start, start_of, front_in, bare_front, with_place, with_origin, with_bucket, bucket_of, no_buckets, StandBare, Sound}
use Rattle.vb_world.proofs.ListLemmas.{get-changed, get-changed_other, get-changed_kept, length-changed, all-changed, all-push, all-map, get_push, get_push_last, get_within}
use Rattle.vb_world.proofs.HistoryLemmas.{events_of-push, events_of-push-other}
use Rattle.hold_stage.proofs.SlotLemmas.{name_of_slot, part_same}
use Rattle.vb_world.proofs.PlaceLemmas.{place_other, part_put, home_within, place_begun, part_pushed, part_new}

-- a vBucket has no events where all are of vBuckets below it
pub events_below : (n : ℕ) (pairs : List (ℕ × EventData)) → AllByRecursion (λ (pair : ℕ × EventData). pair.0 < n) pairs → events_of n pairs ≡ []
events_below n [] all = refl
events_below n (pair ∷ pairs) all = let h : pair.0 < n = all.0 in rw (ne_eqb pair.0 n (λ e. omega arith)) (events_below n pairs all.1)

fault_none : (b : Bool) (field : Field) (fault : Option Field) → (if b then Some field else fault) ≡ None → (b ≡ false) × (fault ≡ None)
fault_none true field fault e = absurd (cc)
fault_none false field fault e = (refl, e)

abbrev front_of : Config → ℕ → Option StartData → List EventData → FrontData
front_of config id start events = record { config = config; id = id; start = start; events = events }

module _ {P : Type 0} where
  -- a world whose parts alone are changed has the same fronts
  pub front_placed : (w : WorldData P) (id : ℕ) (part : PartName) (place : Place P) (other : ℕ) → front_in (with_place w id part place) other ≡ front_in w other
  front_placed w id part place other =
      ap (λ (start : Option StartData). record (front_in w other) { start = start })
      (get-changed_kept (put_place (slot_of w.config part) place) start_of (λ (bucket : BucketData P). refl) w.buckets id other)

  pub front_begun : (w : WorldData P) (id : ℕ) (start : StartData) → id < length w.buckets → front_in (with_origin w id start) id ≡ with_start (front_in w id) (Some start)
  front_begun w id start within =
      let at = get_within w.buckets id within in
      ap (λ (o : Option (BucketData P)). record (front_in w id) { start = start_of o }) (get-changed (put_start start) w.buckets id ∙ ap (option_map (put_start start)) at.1)

  pub front_begun_other : (w : WorldData P) (id : ℕ) (start : StartData) (other : ℕ) → (other ≡ id → ⊥) → front_in (with_origin w id start) other ≡ front_in w other
  front_begun_other w id start other h = ap (λ (o : Option (BucketData P)). record (front_in w other) { start = start_of o }) (get-changed_other (put_start start) w.buckets id other h)

  pub front_pushed : (w : WorldData P) (parts : List P) (other : ℕ) → front_in (with_bucket w parts) other ≡ front_in w other
  front_pushed w parts other =
      ap (λ (start : Option StartData). record (front_in w other) { start = start }) (elim (cases_eq other (length w.buckets)) [
        | inl e ↦ ap (λ (n : ℕ). start_of (slice_get (w.buckets ++ bucket_of parts ∷ []) n)) e ∙ (ap start_of (get_push_last w.buckets (bucket_of parts))
            ∙ sym (ap start_of (slice_get_past w.buckets other (omega arith))))
        | inr h ↦ ap start_of (get_push w.buckets (bucket_of parts) other h)
      ])

  -- the world with one more event of a vBucket, and other room for more
  abbrev pub noted : WorldData P → ℕ → EventData → ℕ → ℕ → WorldData P
  noted w id event events bytes = record w { history = w.history ++ (id, event) ∷ []; event_room = events; byte_room = bytes }

  pub front_noted : (w : WorldData P) (id : ℕ) (event : EventData) (events bytes : ℕ) → front_in (noted w id event events bytes) id ≡ with_event (front_in w id) event
  front_noted w id event events bytes = ap (λ (es : List EventData). record (front_in w id) { events = es }) (events_of-push id w.history event)

  pub front_noted_other : (w : WorldData P) (id : ℕ) (event : EventData) (events bytes other : ℕ) → (other ≡ id → ⊥) → front_in (noted w id event events bytes) other ≡ front_in w other
  front_noted_other w id event events bytes other h = ap (λ (es : List EventData). record (front_in w other) { events = es }) (events_of-push-other other id w.history event (λ e. h (sym e)))

  module _ (stands : PartName → FrontData → P → Type 0) where
    placed_here : (w : WorldData P) (id : ℕ) (part : PartName) (place : Place P) → Sound stands w → ((x : P) → home_of (Some place) ≡ Some x → stands part (front_in w id) x)
        → (q : PartName) (x : P) (b : Bool) → same_part part q ≡ b → (if b then home_of (Some place) else part_in w id q) ≡ Some x → stands q (front_in w id) x
    placed_here w id part place s given q x true e h = subst (λ (p : PartName). stands p (front_in w id) x) (part_same part q e) (given x h)
    placed_here w id part place s given q x false e h = s.stand id q x h

    placed_at : (w : WorldData P) (id : ℕ) (part : PartName) (place : Place P) → Sound stands w → there w.config part ≡ true → id < length w.buckets
        → ((x : P) → home_of (Some place) ≡ Some x → stands part (front_in w id) x)
        → (q : PartName) (x : P) → part_in (with_place w id part place) id q ≡ Some x → stands q (front_in w id) x
    placed_at w id part place s here within given q x e =
        placed_here w id part place s given q x (same_part part q) refl (sym (part_put w id part place q here within s.shapes) ∙ e)

    placed_stand : (w : WorldData P) (id : ℕ) (part : PartName) (place : Place P) → Sound stands w → there w.config part ≡ true → id < length w.buckets
        → ((x : P) → home_of (Some place) ≡ Some x → stands part (front_in w id) x)
        → (other : ℕ) (q : PartName) (x : P) → part_in (with_place w id part place) other q ≡ Some x → stands q (front_in w other) x
    placed_stand w id part place s here within given other q x e =
        elim (cases_eq other id) [
          | inl i ↦ subst (λ (n : ℕ). part_in (with_place w id part place) n q ≡ Some x → stands q (front_in w n) x) (sym i) (placed_at w id part place s here within given q x) e
          | inr h ↦ s.stand other q x (sym (ap home_of (place_other w id part place other q h)) ∙ e)
        ]

    -- a part was taken out, or given back while it stands
    pub sound_placed : (w : WorldData P) (id : ℕ) (part : PartName) (place : Place P) → Sound stands w → there w.config part ≡ true → id < length w.buckets
        → ((x : P) → home_of (Some place) ≡ Some x → stands part (front_in w id) x) → Sound stands (with_place w id part place)
    sound_placed w id part place s here within given =
        let put = put_place {P = P} (slot_of w.config part) place in
        record {
          least = s.least;
          most = s.most;
          count = rw (length-changed put w.buckets id) s.count;
          shapes = all-changed (λ (bucket : BucketData P). length bucket.places ≡ w.config.stripes + 2) put (λ bucket h. length-set bucket.places (slot_of w.config part) place ∙ h) w.buckets id s.shapes;
          below = rw (length-changed put w.buckets id) s.below;
          legal = λ other. subst IsLegal (sym (front_placed w id part place other)) (s.legal other);
          stand = λ other q x e. subst (λ (f : FrontData). stands q f x) (sym (front_placed w id part place other)) (placed_stand w id part place s here within given other q x e);
        }

    -- what is no part of a vBucket or of its history changes
    pub sound_beside : (w : WorldData P) (losses events bytes : ℕ) → Sound stands w → Sound stands (record w { losses = losses; event_room = events; byte_room = bytes })
    sound_beside w losses events bytes s = record { least = s.least; most = s.most; count = s.count; shapes = s.shapes; below = s.below; legal = s.legal; stand = s.stand }

    abbrev pub TouchesLaw : Type 0
    TouchesLaw = (p : PartName) (f : FrontData) (event : EventData) (x : P) → IsLegal f → May f event → touches f event p ≡ false → stands p f x → stands p (with_event f event) x

    noted_here : (w : WorldData P) (id : ℕ) (event : EventData) → TouchesLaw → Sound stands w → May (front_in w id) event
        → ((p : PartName) → touches (front_in w id) event p ≡ true → part_in w id p ≡ None)
        → (q : PartName) (x : P) → part_in w id q ≡ Some x → (b : Bool) → touches (front_in w id) event q ≡ b → stands q (with_event (front_in w id) event) x
    noted_here w id event keeps s may away q x e true t = let gone : part_in w id q ≡ None = away q t in absurd (cc)
    noted_here w id event keeps s may away q x e false t = keeps q (front_in w id) event x (s.legal id) may t (s.stand id q x e)

    noted_stand : (w : WorldData P) (id : ℕ) (event : EventData) (events bytes : ℕ) → TouchesLaw → Sound stands w → May (front_in w id) event
        → ((p : PartName) → touches (front_in w id) event p ≡ true → part_in w id p ≡ None)
        → (other : ℕ) (q : PartName) (x : P) → part_in w other q ≡ Some x → stands q (front_in (noted w id event events bytes) other) x
    noted_stand w id event events bytes keeps s may away other q x e =
        elim (cases_eq other id) [
          | inl i ↦ subst (λ (n : ℕ). part_in w n q ≡ Some x → stands q (front_in (noted w id event events bytes) n) x) (sym i)
              (λ k. subst (λ (f : FrontData). stands q f x) (sym (front_noted w id event events bytes)) (noted_here w id event keeps s may away q x k (touches (front_in w id) event q) refl)) e
          | inr h ↦ subst (λ (f : FrontData). stands q f x) (sym (front_noted_other w id event events bytes other h)) (s.stand other q x e)
        ]

    noted_legal : (w : WorldData P) (id : ℕ) (event : EventData) (events bytes : ℕ) → Sound stands w → May (front_in w id) event → (other : ℕ) → IsLegal (front_in (noted w id event events bytes) other)
    noted_legal w id event events bytes s may other =
        elim (cases_eq other id) [
          | inl i ↦ subst (λ (n : ℕ). IsLegal (front_in (noted w id event events bytes) n)) (sym i) (subst IsLegal (sym (front_noted w id event events bytes)) (legal-push (front_in w id) event (s.legal id) may))
          | inr h ↦ subst IsLegal (sym (front_noted_other w id event events bytes other h)) (s.legal other)
        ]

    -- an event was noted while no part that it touches was at home
    pub sound_noted : (w : WorldData P) (id : ℕ) (event : EventData) (events bytes : ℕ) → TouchesLaw → Sound stands w → id < length w.buckets → May (front_in w id) event
        → ((p : PartName) → touches (front_in w id) event p ≡ true → part_in w id p ≡ None) → Sound stands (noted w id event events bytes)
    sound_noted w id event events bytes keeps s within may away = record {
      least = s.least;
      most = s.most;
      count = s.count;
      shapes = s.shapes;
      below = all-push (λ (pair : ℕ × EventData). pair.0 < length w.buckets) w.history (id, event) s.below within;
      legal = noted_legal w id event events bytes s may;
      stand = noted_stand w id event events bytes keeps s may away;
    }

    begun_legal : (w : WorldData P) (id : ℕ) (start : StartData) → LegalBegun → Sound stands w → id < length w.buckets → (front_in w id).start ≡ None → (other : ℕ) → IsLegal (front_in (with_origin w id start) other)
    begun_legal w id start law s within bare other =
        elim (cases_eq other id) [
          | inl i ↦ subst (λ (n : ℕ). IsLegal (front_in (with_origin w id start) n)) (sym i) (subst IsLegal (sym (front_begun w id start within)) (law (front_in w id) start bare (s.legal id)))
          | inr h ↦ subst IsLegal (sym (front_begun_other w id start other h)) (s.legal other)
        ]

    begun_stand : (w : WorldData P) (id : ℕ) (start : StartData) → Sound stands w → ((p : PartName) → part_in w id p ≡ None)
        → (other : ℕ) (q : PartName) (x : P) → part_in w other q ≡ Some x → stands q (front_in (with_origin w id start) other) x
    begun_stand w id start s away other q x e =
        elim (cases_eq other id) [
          | inl i ↦ let gone : part_in w other q ≡ None = ap (λ (n : ℕ). part_in w n q) i ∙ away q in absurd (cc)
          | inr h ↦ subst (λ (f : FrontData). stands q f x) (sym (front_begun_other w id start other h)) (s.stand other q x e)
        ]

    -- a start was put while no part was at home
    pub sound_begun : (w : WorldData P) (id : ℕ) (start : StartData) → LegalBegun → Sound stands w → id < length w.buckets → (front_in w id).start ≡ None
        → ((p : PartName) → part_in w id p ≡ None) → Sound stands (with_origin w id start)
    sound_begun w id start law s within bare away =
        let put = put_start {P = P} start in
        record {
          least = s.least;
          most = s.most;
          count = rw (length-changed put w.buckets id) s.count;
          shapes = all-changed (λ (bucket : BucketData P). length bucket.places ≡ w.config.stripes + 2) put (λ bucket h. h) w.buckets id s.shapes;
          below = rw (length-changed put w.buckets id) s.below;
          legal = begun_legal w id start law s within bare;
          stand = λ other q x e. begun_stand w id start s away other q x (sym (ap home_of (place_begun w id start other q)) ∙ e);
        }

    -- the front of a vBucket that there isn't is bare
    pub front_bare : (w : WorldData P) → Sound stands w → front_in w (length w.buckets) ≡ bare_front w.config (length w.buckets)
    front_bare w s =
        let n = length w.buckets in
        ap (λ (o : Option (BucketData P)). front_of w.config n (start_of o) (events_of n w.history)) (slice_get_past w.buckets n (omega arith))
        ∙ ap (λ (es : List EventData). front_of w.config n None es) (events_below n w.history s.below)

    pushed_new : (w : WorldData P) (parts : List P) → Sound stands w → StandBare stands w.config (length w.buckets) parts
        → (q : PartName) (x : P) → part_in (with_bucket w parts) (length w.buckets) q ≡ Some x → stands q (front_in w (length w.buckets)) x
    pushed_new w parts s bare q x e =
        let k = part_new w parts q x e in
        subst (λ (f : FrontData). stands q f x) (sym (front_bare w s))
        (subst (λ (p : PartName). stands p (bare_front w.config (length w.buckets)) x) (name_of_slot w.config q k.0) (bare (slot_of w.config q) x k.1))

    pushed_stand : (w : WorldData P) (parts : List P) → Sound stands w → StandBare stands w.config (length w.buckets) parts
        → (other : ℕ) (q : PartName) (x : P) → part_in (with_bucket w parts) other q ≡ Some x → stands q (front_in w other) x
    pushed_stand w parts s bare other q x e =
        elim (cases_eq other (length w.buckets)) [
          | inl i ↦ subst (λ (n : ℕ). part_in (with_bucket w parts) n q ≡ Some x → stands q (front_in w n) x) (sym i) (pushed_new w parts s bare q x) e
          | inr h ↦ s.stand other q x (sym (part_pushed w parts other q h) ∙ e)
        ]

    -- a vBucket was added
    pub sound_pushed : (w : WorldData P) (parts : List P) → Sound stands w → length w.buckets < w.config.vbuckets → length parts ≡ w.config.stripes + 2
        → StandBare stands w.config (length w.buckets) parts → Sound stands (with_bucket w parts)
    sound_pushed w parts s room shape bare =
        let n = length w.buckets in
        let more : length (w.buckets ++ bucket_of parts ∷ []) ≡ n + 1 = length-append w.buckets (bucket_of parts ∷ []) in
        record {
          least = s.least;
          most = s.most;
          count = omega arith;
          shapes = all-push (λ (bucket : BucketData P). length bucket.places ≡ w.config.stripes + 2) w.buckets (bucket_of parts) s.shapes (length-map parts (λ (x : P). Home x) ∙ shape);
          below = all-map (λ (pair : ℕ × EventData). pair.0 < n) (λ (pair : ℕ × EventData). pair.0 < length (w.buckets ++ bucket_of parts ∷ [])) (λ pair h. omega arith) w.history s.below;
          legal = λ other. subst IsLegal (sym (front_pushed w parts other)) (s.legal other);
          stand = λ other q x e. subst (λ (f : FrontData). stands q f x) (sym (front_pushed w parts other)) (pushed_stand w parts s bare other q x e);
        }

    -- a world with no vBucket
    pub sound_empty : (config : Config) → config_fault config ≡ None → Sound stands (no_buckets config)
    sound_empty config e =
        let a = fault_none (is_outside config.vbuckets 1 1024) Vbuckets _ e in
        let b = fault_none (is_outside config.stripes 1 64) Stripes _ a.1 in
        let p = or_parts (nat_lt config.stripes 1) (nat_lt 64 config.stripes) b.0 in
        let w : WorldData P = no_buckets config in
        record {
          least = ltb-false config.stripes 1 p.0;
          most = ltb-false 64 config.stripes p.1;
          count = omega arith;
          shapes = tt;
          below = tt;
          legal = λ id. legal-bare config id None;
          stand = λ id q x h. let k : id < 0 = (home_within w id q x h).0 in absurd (omega arith);
        }
