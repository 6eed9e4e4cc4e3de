-- What a step at a stage of one vBucket does to the whole world.
use Rattle.std.proofs.Common.{◌≡◌, ◌<◌, ℕ, Bool, refl, sym, ap, subst, ◌∙◌}
use Rattle.std.specs.Prelude.{List, Option, None, IsSome, IfSome, true, false, Result, Ok, Err, IfOk, OnErr}
use Rattle.ep_model.specs.declared.config.Config.{Config}
use Rattle.ep_model.specs.declared.data.CallData.{CallData}
use Rattle.ep_model.specs.declared.data.EventData.{EventData}
use Rattle.ep_model.specs.declared.data.FrontData.{FrontData}
use Rattle.hold_stage.specs.Touches.{there, is_call}
use Rattle.vb_world.specs.declared.data.FixedData.{FixedData}
use Rattle.vb_world.specs.declared.data.WorldData.{WorldData}
use Rattle.vb_world.specs.World.{front_in, part_in, fixed_in}
use Rattle.ep_model.specs.declared.event.PartName.{PartName}
use Rattle.ep_model.specs.declared.event.Ticket.{Ticket}
use Rattle.flat_parts.specs.declared.data.Step.{Step}
use Rattle.ep_drill.specs.declared.part.Part.{Part}
use Rattle.hold_stage.specs.Went.{with_noted}
use Rattle.ep_drill.specs.Calls.{event_of, AreHome}
use Rattle.hold_stage.specs.Stays.{KeptBut}
use Rattle.ep_drill.specs.Core.{Ready, Moved, Rested, Worked}
use Rattle.ep_drill.proofs.WorldLemmas.{moved_by, moved_room, rested_by, room_rests, rested_then}

moved_from : (config : Config) (a r z : WorldData Part) (vb : ℕ) (event : Option EventData) → Moved config vb None a r → vb < config.vbuckets → fixed_in z vb ≡ fixed_in r vb → AreHome r.config (part_in z vb)
    → front_in z vb ≡ with_noted (front_in r vb) event → Moved config vb event a z
moved_from config a r z vb event before within fixed home front =
    let moved = moved_by config r z vb event before.ready within fixed (subst (λ (k : Config). AreHome k (part_in z vb)) before.ready.layout home) front in
    record { ready = moved.ready; front = moved.front ∙ ap (λ (f : FrontData). with_noted f event) before.front; others = λ u differ. moved.others u differ ∙ before.others u differ; apart = λ u differ p. moved.apart u differ p ∙ before.apart u differ p }

module _ (config : Config) (a r s z : WorldData Part) (vb sv zv : ℕ) (event other : Option EventData) where
  moved_by_stage : Moved config vb None a r → vb < config.vbuckets → s ≡ r → sv ≡ vb → fixed_in z zv ≡ fixed_in s sv → AreHome (front_in s sv).config (part_in z zv) → front_in z zv ≡ with_noted (front_in s sv) other → other ≡ event → Moved config vb event a z
  moved_by_stage before within w at fixed home front same =
      let v : zv ≡ vb = ap (λ (k : FixedData Part). k.vb) fixed ∙ at in
      moved_from config a r z vb event before within
      (subst (λ (k : WorldData Part). fixed_in z vb ≡ fixed_in k vb) w (subst (λ k. fixed_in z vb ≡ fixed_in s k) at (subst (λ k. fixed_in z k ≡ fixed_in s sv) v fixed)))
      (subst (λ (k : WorldData Part). AreHome k.config (part_in z vb)) w (subst (λ k. AreHome s.config (part_in z k)) v home))
      (subst (λ (e : Option EventData). front_in z vb ≡ with_noted (front_in r vb) e) same
      (subst (λ (k : WorldData Part). front_in z vb ≡ with_noted (front_in k vb) other) w (subst (λ k. front_in z vb ≡ with_noted (front_in s k) other) at (subst (λ k. front_in z k ≡ with_noted (front_in s sv) other) v front))))

  -- A step at a stage that began at the world `r`, which is the world `a` with other room.
  pub moved_with_room : (n m : ℕ) → Ready config a → vb < config.vbuckets → r ≡ record a { event_room = n; byte_room = m } → s ≡ r → sv ≡ vb
      → fixed_in z zv ≡ fixed_in s sv → AreHome (front_in s sv).config (part_in z zv) → front_in z zv ≡ with_noted (front_in s sv) other → other ≡ event → Moved config vb event a z
  moved_with_room n m ready within room = moved_by_stage (moved_room config a r vb n m ready room) within

-- A step at a stage that began at the world itself.
pub moved_still : (config : Config) (a s z : WorldData Part) (vb sv zv : ℕ) → Ready config a → vb < config.vbuckets → s ≡ a → sv ≡ vb
    → fixed_in z zv ≡ fixed_in s sv → AreHome (front_in s sv).config (part_in z zv) → front_in z zv ≡ front_in s sv → Moved config vb None a z
moved_still config a s z vb sv zv ready within w at fixed home front =
    moved_by_stage config a a s z vb sv zv None None (record { ready = ready; front = refl; others = λ u differ. refl; apart = λ u differ p. refl }) within w at fixed home front refl

-- A step at a stage that left its history and its parts as they were.
module _ (config : Config) (a r s z : WorldData Part) (vb sv zv : ℕ) where
  rested_by_stage : Rested config a r → vb < config.vbuckets → s ≡ r → sv ≡ vb → fixed_in z zv ≡ fixed_in s sv → AreHome (front_in s sv).config (part_in z zv) → front_in z zv ≡ front_in s sv
      → ((p : PartName) → there (front_in s sv).config p ≡ true → part_in z zv p ≡ part_in s sv p) → Rested config a z
  rested_by_stage before within w at fixed home front told =
      let v : zv ≡ vb = ap (λ (k : FixedData Part). k.vb) fixed ∙ at in
      let fixed-here : fixed_in z vb ≡ fixed_in r vb =
      subst (λ (k : WorldData Part). fixed_in z vb ≡ fixed_in k vb) w (subst (λ (k : ℕ). fixed_in z vb ≡ fixed_in s k) at (subst (λ (k : ℕ). fixed_in z k ≡ fixed_in s sv) v fixed)) in
      let home-here : AreHome r.config (part_in z vb) =
      subst (λ (k : WorldData Part). AreHome k.config (part_in z vb)) w (subst (λ (k : ℕ). AreHome s.config (part_in z k)) v home) in
      let front-here : front_in z vb ≡ front_in r vb =
      subst (λ (k : WorldData Part). front_in z vb ≡ front_in k vb) w (subst (λ (k : ℕ). front_in z vb ≡ front_in s k) at (subst (λ (k : ℕ). front_in z k ≡ front_in s sv) v front)) in
      let told-here : (p : PartName) → there r.config p ≡ true → part_in z vb p ≡ part_in r vb p =
      subst (λ (k : WorldData Part). (p : PartName) → there k.config p ≡ true → part_in z vb p ≡ part_in k vb p) w
      (subst (λ (k : ℕ). (p : PartName) → there s.config p ≡ true → part_in z vb p ≡ part_in s k p) at
      (subst (λ (k : ℕ). (p : PartName) → there s.config p ≡ true → part_in z k p ≡ part_in s sv p) v told)) in
      rested_then config a r z before
      (rested_by config r z vb before.ready within fixed-here (subst (λ (k : Config). AreHome k (part_in z vb)) before.ready.layout home-here) front-here told-here)

  -- It began at the world `r`, which is the world `a` with other room.
  pub rested_with_room : (n m : ℕ) → Ready config a → vb < config.vbuckets → r ≡ record a { event_room = n; byte_room = m } → s ≡ r → sv ≡ vb → fixed_in z zv ≡ fixed_in s sv → AreHome (front_in s sv).config (part_in z zv)
      → front_in z zv ≡ front_in s sv → ((p : PartName) → there (front_in s sv).config p ≡ true → part_in z zv p ≡ part_in s sv p) → Rested config a z
  rested_with_room n m ready within room = rested_by_stage (room_rests config a r n m ready room) within

-- What a call came to is noted, and where memory was wanting nothing is, and the parts are as they were.
pub tried_at : {E : Type 0} (config : Config) (a r s z : WorldData Part) (vb sv zv n m number caller now : ℕ) (call spoken : CallData) (prior : Option Ticket) (value : List ℕ) (result : Result Step E)
    → Ready config a → vb < config.vbuckets → r ≡ record a { event_room = n; byte_room = m } → s ≡ r → sv ≡ vb → caller ≡ number → spoken ≡ call → fixed_in z zv ≡ fixed_in s sv → AreHome (front_in s sv).config (part_in z zv)
    → IfOk result (λ step. front_in z zv ≡ with_noted (front_in s sv) (event_of caller spoken now prior value step)) → OnErr result (front_in z zv ≡ front_in s sv)
    → OnErr result ((p : PartName) → there (front_in s sv).config p ≡ true → part_in z zv p ≡ part_in s sv p)
    → (IfOk result (λ step. Moved config vb (event_of number call now prior value step) a z)) × OnErr result (Rested config a z)
tried_at config a r s z vb sv zv n m number caller now call spoken prior value (Ok step) ready within room w at is same fixed home ok err told =
    (moved_with_room config a r s z vb sv zv (event_of number call now prior value step) (event_of caller spoken now prior value step) n m ready within room w at fixed home ok (ap (λ k. event_of k spoken now prior value step) is ∙ ap (λ (k : CallData). event_of number k now prior value step) same), tt)
tried_at config a r s z vb sv zv n m number caller now call spoken prior value (Err e) ready within room w at is same fixed home ok err told =
    (tt, rested_with_room config a r s z vb sv zv n m ready within room w at fixed home err told)

-- a step that notes no call
pub worked_by : (config : Config) (a b : WorldData Part) (vb : ℕ) (event : Option EventData) → Moved config vb event a b → IfSome event (λ e. is_call e ≡ false) → Worked config vb a b
worked_by config a b vb event moved quiet = record { event = event; moved = moved; quiet = quiet }

-- The parts that a call at a stage didn't touch are as they were.
module _ (config : Config) (a s z : WorldData Part) (vb sv zv : ℕ) (layout : s.config ≡ config) (begun : (p : PartName) → part_in s sv p ≡ part_in a vb p) (at : sv ≡ vb) (fixed : fixed_in z zv ≡ fixed_in s sv) where
  pub kept_at : (touched : Config → PartName → Bool) → KeptBut (front_in s sv).config (touched (front_in s sv).config) (part_in s sv) (part_in z zv) → KeptBut config (touched config) (part_in a vb) (part_in z vb)
  kept_at touched kept = λ p is apart.
      let v : zv ≡ vb = ap (λ (k : FixedData Part). k.vb) fixed ∙ at in
      ap (λ (k : ℕ). part_in z k p) (sym v) ∙ kept p (ap (λ (k : Config). there k p) layout ∙ is) (ap (λ (k : Config). touched k p) layout ∙ apart) ∙ begun p

-- A stage's parts are the vBucket's, where it began at its world with other room,
pub begun_with_room : (a r s : WorldData Part) (vb sv n m : ℕ) → r ≡ record a { event_room = n; byte_room = m } → s ≡ r → sv ≡ vb → (p : PartName) → part_in s sv p ≡ part_in a vb p
begun_with_room a r s vb sv n m room w at p = ap (λ (k : ℕ). part_in s k p) at ∙ ap (λ (k : WorldData Part). part_in k vb p) (w ∙ room)

-- and its layout is the world's
pub layout_with_room : (config : Config) (a r s : WorldData Part) (n m : ℕ) → a.config ≡ config → r ≡ record a { event_room = n; byte_room = m } → s ≡ r → s.config ≡ config
layout_with_room config a r s n m layout room w = ap (λ (k : WorldData Part). k.config) (w ∙ room) ∙ layout

-- and all of them are at home
pub home_with_room : (config : Config) (a r s : WorldData Part) (vb sv n m : ℕ) → Ready config a → vb < config.vbuckets → r ≡ record a { event_room = n; byte_room = m } → s ≡ r → sv ≡ vb → AreHome s.config (part_in s sv)
home_with_room config a r s vb sv n m ready within room w at p is =
    subst (λ (o : Option Part). IsSome o) (sym (begun_with_room a r s vb sv n m room w at p))
    (ready.home vb within p (ap (λ (k : Config). there k p) (sym (layout_with_room config a r s n m ready.layout room w)) ∙ is))
