-- What a stage promises of its calls, out of what the calls of its world do.
use Rattle.std.proofs.Common.{◌≡◌, ℕ, ◌+◌, ◌-◌, ◌^◌, ◌<◌, min, Bool, true, false, not, ◌==◌, if◌then◌else◌, List, [], ◌∷◌, ◌++◌, length, filter, drop, Some, None, Result, Ok, Err, IfOk, IfErr, OnOk, OnErr, MatchResult, refl, sym, ap, ◌∙◌, subst, arith, add-one, append-nil, inl}
use Rattle.std.proofs.lemmas.Bool.{eq-eqb}
use Rattle.std.proofs.lemmas.List.Elements.{filter-append}
use Rattle.ep_model.specs.declared.event.Busy.{Busy}
use Rattle.ep_model.specs.declared.event.PartName.{PartName}
use Rattle.ep_model.specs.declared.event.PartName.TheVariants.{Queue}
use Rattle.ep_model.specs.declared.data.EventData.{EventData}
use Rattle.ep_model.specs.declared.data.FrontData.{FrontData}
use Rattle.ep_model.specs.declared.data.StartData.{StartData}
use Rattle.ep_model.specs.Front.{with_event, with_start}
use Rattle.ep_model.specs.Legal.{May}
use Rattle.hold_stage.specs.Touches.{there, same_part}
use Rattle.ep_model.specs.Counts.{Rose}
use Rattle.hold_stage.specs.Grows.{and_this, but_this, Covered, Grown, Noted, Begun}
use Rattle.hold_stage.specs.Laws.{TouchesSome}
use Rattle.vb_world.specs.declared.place.Place.TheVariants.{Home, Out}
use Rattle.vb_world.specs.declared.data.BucketData.{BucketData}
use Rattle.vb_world.specs.declared.data.WorldData.{WorldData}
use Rattle.vb_world.specs.World.{slot_of, home_of, part_in, has_out, front_in, fixed_in, is_out_with, put_place, put_start, changed_at, with_place, with_origin, with_loss, Sound}
use Rattle.vb_world.proofs.ListLemmas.{take-changed, drop-changed}
use Rattle.hold_stage.proofs.SlotLemmas.{part_same}
use Rattle.vb_world.proofs.PlaceLemmas.{part_put, out_taken, out_given, out_within, out_away, home_within, nowhere, place_begun}
use Rattle.vb_world.proofs.SoundLemmas.{noted, front_placed, front_begun, front_noted, TouchesLaw as KeepsAll}

-- nothing was noted meanwhile
pub grown_nothing : (f : FrontData) (held : PartName → Bool) (caller : ℕ) (desk : Bool) → Grown f f held caller desk
grown_nothing f held caller desk = record { more = []; config = refl; id = refl; events = sym (append-nil f.events); quiet = tt; start = inl refl }

pub grown_same : (f g : FrontData) (held : PartName → Bool) (caller : ℕ) (desk : Bool) → g ≡ f → Grown f g held caller desk
grown_same f g held caller desk e = subst (λ (h : FrontData). Grown f h held caller desk) (sym e) (grown_nothing f held caller desk)

rose : (old new : ℕ) → new ≡ min (old + 1) (2 ^ 64 - 1) → Rose old new
rose old new e = omega arith

module _ {P : Type 0} where
  changed_fixed : (d : WorldData P) (vb : ℕ) (f : BucketData P → BucketData P) → fixed_in (record d { buckets = changed_at f d.buckets vb }) vb ≡ fixed_in d vb
  changed_fixed d vb f =
      let behind : drop (vb + 1) (changed_at f d.buckets vb) ≡ drop (vb + 1) d.buckets = rw add-one (drop-changed f d.buckets vb) in
      ap (λ (bs : List (BucketData P)). record (fixed_in d vb) { before = bs; behind = drop (vb + 1) (changed_at f d.buckets vb) }) (take-changed f d.buckets vb)
      ∙ ap (λ (bs : List (BucketData P)). record (fixed_in d vb) { behind = bs }) behind

  noted_elsewhere : (d : WorldData P) (vb : ℕ) (event : EventData) → filter (λ (pair : ℕ × EventData). not (pair.0 == vb)) (d.history ++ (vb, event) ∷ []) ≡ filter (λ (pair : ℕ × EventData). not (pair.0 == vb)) d.history
  noted_elsewhere d vb event =
      let last : filter (λ (pair : ℕ × EventData). not (pair.0 == vb)) ((vb, event) ∷ []) ≡ [] = rw (eq-eqb vb vb refl) refl in
      filter-append (λ (pair : ℕ × EventData). not (pair.0 == vb)) d.history ((vb, event) ∷ [])
      ∙ (ap (λ (pairs : List (ℕ × EventData)). filter (λ (pair : ℕ × EventData). not (pair.0 == vb)) d.history ++ pairs) last ∙ append-nil _)

  -- taking
  pub take_fixed : (d e : WorldData P) (vb caller : ℕ) (part : PartName) (r : Result P Busy) → OnOk r (e ≡ with_place d vb part (Out caller)) → OnErr r (e ≡ with_loss d) → fixed_in e vb ≡ fixed_in d vb
  take_fixed d e vb caller part (Ok x) out lost = ap (λ (w : WorldData P). fixed_in w vb) out ∙ changed_fixed d vb (put_place (slot_of d.config part) (Out caller))
  take_fixed d e vb caller part (Err b) out lost = ap (λ (w : WorldData P). fixed_in w vb) lost

  pub take_front : (d e : WorldData P) (vb caller : ℕ) (part : PartName) (r : Result P Busy) → OnOk r (e ≡ with_place d vb part (Out caller)) → OnErr r (e ≡ with_loss d) → front_in e vb ≡ front_in d vb
  take_front d e vb caller part (Ok x) out lost = ap (λ (w : WorldData P). front_in w vb) out ∙ front_placed d vb part (Out caller) vb
  take_front d e vb caller part (Err b) out lost = ap (λ (w : WorldData P). front_in w vb) lost

  abbrev Now : WorldData P → ℕ → PartName → Result P Busy → Type 0
  Now d vb part r = IfOk r (λ x. part_in d vb part ≡ Some x)

  pub take_tells : (d e : WorldData P) (vb caller : ℕ) (part : PartName) (r : Result P Busy) (stands : PartName → FrontData → P → Type 0) → Sound stands d → there d.config part ≡ true
      → Now d vb part r → OnOk r (e ≡ with_place d vb part (Out caller)) → OnErr r (part_in d vb part ≡ None) → OnErr r (e ≡ with_loss d)
      → (p : PartName) → part_in e vb p ≡ (if same_part part p then None else part_in d vb p)
  take_tells d e vb caller part (Ok x) stands s here taken out away lost p =
      ap (λ (w : WorldData P). part_in w vb p) out ∙ part_put d vb part (Out caller) p here (home_within d vb part x taken).0 s.shapes
  take_tells d e vb caller part (Err b) stands s here taken out away lost p =
      let go : (t : Bool) → same_part part p ≡ t → part_in d vb p ≡ (if t then None else part_in d vb p) =
      λ t. elim t as (λ v. same_part part p ≡ v → part_in d vb p ≡ (if v then None else part_in d vb p)) [
        | true ↦ λ k. ap (λ (q : PartName). part_in d vb q) (sym (part_same part p k)) ∙ away
        | false ↦ λ k. refl
      ] in
      ap (λ (w : WorldData P). part_in w vb p) lost ∙ go (same_part part p) refl

  pub take_held : (d e : WorldData P) (vb caller : ℕ) (part : PartName) (r : Result P Busy) (stands : PartName → FrontData → P → Type 0) → Sound stands d → there d.config part ≡ true
      → Now d vb part r → OnOk r (e ≡ with_place d vb part (Out caller)) → OnErr r (e ≡ with_loss d)
      → MatchResult r (λ _. (p : PartName) → has_out e vb caller p ≡ and_this part (has_out d vb caller) p) (λ _. (p : PartName) → has_out e vb caller p ≡ has_out d vb caller p)
  take_held d e vb caller part (Ok x) stands s here taken out lost =
      λ p. ap (λ (w : WorldData P). has_out w vb caller p) out ∙ out_taken d vb caller part p here (home_within d vb part x taken).0 s.shapes
  take_held d e vb caller part (Err b) stands s here taken out lost = λ p. ap (λ (w : WorldData P). has_out w vb caller p) lost

  pub take_taken : (d e : WorldData P) (vb caller : ℕ) (part : PartName) (r : Result P Busy) (stands : PartName → FrontData → P → Type 0) → Sound stands d
      → Now d vb part r → OnOk r (e ≡ with_place d vb part (Out caller)) → IfErr r (λ b. b.part ≡ part) → OnErr r (e ≡ with_loss d)
      → MatchResult r (λ x. stands part (front_in e vb) x × (e.losses ≡ d.losses)) (λ b. (b.part ≡ part) × Rose d.losses e.losses)
  take_taken d e vb caller part (Ok x) stands s taken out busy lost =
      (subst (λ (f : FrontData). stands part f x) (sym (ap (λ (w : WorldData P). front_in w vb) out ∙ front_placed d vb part (Out caller) vb)) (s.stand vb part x taken), ap (λ (w : WorldData P). w.losses) out)
  take_taken d e vb caller part (Err b) stands s taken out busy lost = (busy, rose d.losses e.losses (ap (λ (w : WorldData P). w.losses) lost))

  -- noting
  pub held_within : TouchesSome → (d : WorldData P) (vb caller : ℕ) (event : EventData) → Covered (λ part. has_out d vb caller part) (front_in d vb) event → vb < length d.buckets
  held_within law d vb caller event covered = let some = law (front_in d vb) event in (out_within d vb caller some.0 (covered some.0 some.1)).0

  pub note_front : (d e : WorldData P) (vb : ℕ) (event : EventData) (events bytes : ℕ) → e ≡ noted d vb event events bytes → front_in e vb ≡ with_event (front_in d vb) event
  note_front d e vb event events bytes is = ap (λ (w : WorldData P). front_in w vb) is ∙ front_noted d vb event events bytes

  pub note_noted : (d e : WorldData P) (vb caller : ℕ) (event : EventData) (events bytes : ℕ) (stands : PartName → FrontData → P → Type 0) → KeepsAll stands → Sound stands d
      → e ≡ noted d vb event events bytes → May (front_in d vb) event → Noted stands (front_in d vb) (front_in e vb) (λ part. has_out d vb caller part) caller true event
  note_noted d e vb caller event events bytes stands keeps s is may =
      let last : front_in e vb ≡ with_event (front_in d vb) event = note_front d e vb event events bytes is in
      record {
        between = front_in d vb;
        grown = grown_nothing (front_in d vb) (λ part. has_out d vb caller part) caller true;
        last = last;
        kept = λ p x h k. k;
        apart = λ p x h t k. subst (λ (f : FrontData). stands p f x) (sym last) (keeps p (front_in d vb) event x (s.legal vb) may t k);
      }

  pub note_fixed : (d e : WorldData P) (vb : ℕ) (event : EventData) (events bytes : ℕ) → e ≡ noted d vb event events bytes → fixed_in e vb ≡ fixed_in d vb
  note_fixed d e vb event events bytes is =
      ap (λ (w : WorldData P). fixed_in w vb) is ∙ ap (λ (pairs : List (ℕ × EventData)). record (fixed_in d vb) { elsewhere = pairs }) (noted_elsewhere d vb event)

  -- putting the start
  pub all_within : (d : WorldData P) (vb caller : ℕ) → ((p : PartName) → there d.config p ≡ true → has_out d vb caller p ≡ true) → vb < length d.buckets
  all_within d vb caller all = (out_within d vb caller Queue (all Queue refl)).0

  pub all_away : (d : WorldData P) (vb caller : ℕ) → ((p : PartName) → there d.config p ≡ true → has_out d vb caller p ≡ true) → (p : PartName) → part_in d vb p ≡ None
  all_away d vb caller all p =
      let go : (t : Bool) → there d.config p ≡ t → part_in d vb p ≡ None =
      λ t. elim t as (λ v. there d.config p ≡ v → part_in d vb p ≡ None) [ true ↦ λ k. out_away d vb caller p (all p k) | false ↦ λ k. nowhere d vb p k ] in
      go (there d.config p) refl

  pub begin_fixed : (d e : WorldData P) (vb : ℕ) (start : StartData) → e ≡ with_origin d vb start → fixed_in e vb ≡ fixed_in d vb
  begin_fixed d e vb start is = ap (λ (w : WorldData P). fixed_in w vb) is ∙ changed_fixed d vb (put_start start)

  pub begin_front : (d e : WorldData P) (vb : ℕ) (start : StartData) → e ≡ with_origin d vb start → vb < length d.buckets → front_in e vb ≡ with_start (front_in d vb) (Some start)
  begin_front d e vb start is within = ap (λ (w : WorldData P). front_in w vb) is ∙ front_begun d vb start within

  pub begin_begun : (d e : WorldData P) (vb caller : ℕ) (start : StartData) → e ≡ with_origin d vb start → vb < length d.buckets
      → Begun (front_in d vb) (front_in e vb) (λ part. has_out d vb caller part) caller start
  begin_begun d e vb caller start is within = record {
    between = front_in d vb;
    grown = grown_nothing (front_in d vb) (λ part. has_out d vb caller part) caller true;
    last = begin_front d e vb start is within;
  }

  pub begin_held : (d e : WorldData P) (vb caller : ℕ) (start : StartData) → e ≡ with_origin d vb start → (p : PartName) → has_out e vb caller p ≡ has_out d vb caller p
  begin_held d e vb caller start is p = ap (λ (w : WorldData P). has_out w vb caller p) is ∙ ap (is_out_with caller) (place_begun d vb start vb p)

  pub begin_tells : (d e : WorldData P) (vb : ℕ) (start : StartData) → e ≡ with_origin d vb start → (p : PartName) → part_in e vb p ≡ part_in d vb p
  begin_tells d e vb start is p = ap (λ (w : WorldData P). part_in w vb p) is ∙ ap home_of (place_begun d vb start vb p)

  -- giving back
  pub give_fixed : (d e : WorldData P) (vb : ℕ) (part : PartName) (x : P) → e ≡ with_place d vb part (Home x) → fixed_in e vb ≡ fixed_in d vb
  give_fixed d e vb part x is = ap (λ (w : WorldData P). fixed_in w vb) is ∙ changed_fixed d vb (put_place (slot_of d.config part) (Home x))

  pub give_front : (d e : WorldData P) (vb : ℕ) (part : PartName) (x : P) → e ≡ with_place d vb part (Home x) → front_in e vb ≡ front_in d vb
  give_front d e vb part x is = ap (λ (w : WorldData P). front_in w vb) is ∙ front_placed d vb part (Home x) vb

  pub give_held : (d e : WorldData P) (vb caller : ℕ) (part : PartName) (x : P) (stands : PartName → FrontData → P → Type 0) → Sound stands d → has_out d vb caller part ≡ true
      → e ≡ with_place d vb part (Home x) → (p : PartName) → has_out e vb caller p ≡ but_this part (has_out d vb caller) p
  give_held d e vb caller part x stands s held is p =
      let k = out_within d vb caller part held in
      ap (λ (w : WorldData P). has_out w vb caller p) is ∙ out_given d vb caller part x p k.1 k.0 s.shapes

  pub give_tells : (d e : WorldData P) (vb caller : ℕ) (part : PartName) (x : P) (stands : PartName → FrontData → P → Type 0) → Sound stands d → has_out d vb caller part ≡ true
      → e ≡ with_place d vb part (Home x) → (p : PartName) → part_in e vb p ≡ (if same_part part p then Some x else part_in d vb p)
  give_tells d e vb caller part x stands s held is p =
      let k = out_within d vb caller part held in
      ap (λ (w : WorldData P). part_in w vb p) is ∙ part_put d vb part (Home x) p k.1 k.0 s.shapes
