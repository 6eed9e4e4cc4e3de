-- A world that one thread has, with one vBucket of one stripe.
use Rattle.std.proofs.Common.{◌≡◌, ℕ, ◌+◌, ◌%◌, true, false, List, [], ◌∷◌, ◌++◌, length, refl, sym, ap, subst, ◌∙◌, arith}
use Rattle.std.specs.Prelude.{Option, Some, None, Result, Ok, Err}
use Rattle.std.specs.Result.{is_ok}
use Rattle.ep_model.specs.declared.config.Config.{Config}
use Rattle.ep_model.specs.declared.event.PartName.{PartName}
use Rattle.ep_model.specs.declared.event.PartName.TheVariants.{Stripe}
use Rattle.ep_model.specs.declared.data.EventData.{EventData}
use Rattle.ep_model.specs.declared.data.FrontData.{FrontData}
use Rattle.ep_model.specs.Stripes.{stripe_of}
use Rattle.hold_stage.specs.Went.{with_noted}
use Rattle.vb_world.specs.declared.data.WorldData.{WorldData}
use Rattle.vb_world.specs.World.{front_in, part_in, has_out, no_buckets, with_bucket}
use Rattle.vb_world.specs.History.{events_of}
use Rattle.vb_world.proofs.PlaceLemmas.{out_pushed, out_nowhere}
use Rattle.turn_stage.specs.Made.{noted_by, StripeBecomes}

pub one_stripe : (key : List ℕ) → stripe_of key 1 ≡ 0
unfolding stripe_of
one_stripe key = omega arith

noted_free : {A E : Type 0} (f : FrontData) (event : EventData) (r : Result A E) → is_ok r ≡ true → f.events ≡ [] → (with_noted f (noted_by event r)).events ≡ event ∷ []
noted_free f event (Ok a) free bare = ap (λ (l : List EventData). l ++ event ∷ []) bare
noted_free f event (Err e) free bare = absurd (cc)

module _ {P : Type 0} where
  -- the first part of a world's first vBucket is at home
  first_home : (config : Config) (parts : List P) → config.stripes ≡ 1 → length parts ≡ 3 → (x : P) × (part_in (with_bucket (no_buckets config) parts) 0 (Stripe 0) ≡ Some x)
  first_home config [] one three = absurd (omega arith)
  first_home config (x ∷ parts) one three = (x, rw one refl)

  is_free : {A E : Type 0} (old new : Option P) (f : P → P) (r : Result A E) (x : P) → old ≡ Some x → StripeBecomes old new f r → is_ok r ≡ true
  is_free old new f (Ok a) x home becomes = refl
  is_free None new f (Err e) x home becomes = absurd (cc)
  is_free (Some y) new f (Err e) x home becomes = let gone = becomes.0 in absurd (cc)

  -- A world to which one vBucket was added and room was made.
  abbrev pub IsFirst : Config → List P → WorldData P → Type 0
  IsFirst config parts w = w ≡ record (with_bucket (no_buckets config) parts) { event_room = w.event_room; byte_room = w.byte_room }

  pub first_world : (a b w : WorldData P) (config : Config) (parts : List P) → a ≡ no_buckets config → b ≡ with_bucket a parts → w ≡ record b { event_room = w.event_room; byte_room = w.byte_room } → IsFirst config parts w
  first_world a b w config parts new added reserved =
      reserved ∙ ap (λ (x : WorldData P). record x { event_room = w.event_room; byte_room = w.byte_room }) (added ∙ ap (λ (x : WorldData P). with_bucket x parts) new)

  pub first_free : (w : WorldData P) (config : Config) (parts : List P) (caller : ℕ) (p : PartName) → IsFirst config parts w → has_out w 0 caller p ≡ false
  first_free w config parts caller p first =
      ap (λ (x : WorldData P). has_out x 0 caller p) first ∙ out_pushed (no_buckets config) parts 0 caller p (out_nowhere (no_buckets config) 0 caller p refl)

  -- so a call there is refused, and that is all that happened
  pub first_refused : {A E : Type 0} (w : WorldData P) (config : Config) (parts : List P) (key : List ℕ) (new : Option P) (f : P → P) (r : Result A E) → IsFirst config parts w → config.stripes ≡ 1 → length parts ≡ 3
      → StripeBecomes (part_in w 0 (Stripe (stripe_of key 1))) new f r → is_ok r ≡ true
  first_refused w config parts key new f r first one three becomes =
      let home = first_home config parts one three in
      is_free (part_in w 0 (Stripe (stripe_of key 1))) new f r home.0
      (ap (λ (s : ℕ). part_in w 0 (Stripe s)) (one_stripe key) ∙ (ap (λ (x : WorldData P). part_in x 0 (Stripe 0)) first ∙ home.1)) becomes

  pub first_events : {A E : Type 0} (w x : WorldData P) (config : Config) (parts : List P) (event : EventData) (r : Result A E) → IsFirst config parts w → is_ok r ≡ true
      → front_in x 0 ≡ with_noted (front_in w 0) (noted_by event r) → events_of 0 x.history ≡ event ∷ []
  first_events w x config parts event r first free front =
      ap (λ (f : FrontData). f.events) front ∙ noted_free (front_in w 0) event r free (ap (λ (u : WorldData P). events_of 0 u.history) first)
