-- What a call is refused for by the quota is what memory has of the parts that the call touches.
use Rattle.std.proofs.Common.{◌≡◌, ◌<◌, ◌+◌, ℕ, Bool, true, false, cond, List, [], ◌∷◌, ◌++◌, refl, sym, ap, subst, ◌∙◌, max}
use Rattle.std.specs.Prelude.{Option, Some, None, IsSome, not, ◌==◌, ◌&&◌, ◌||◌, nat_lt, if◌then◌else◌}
use Rattle.std.specs.Ordering.{nat_cmp}
use Rattle.std.specs.declared.cmp.Ordering.TheVariants.{Equal}
use Rattle.std.specs.Cmp.Lexicographic.{slice_cmp, nat_list_cmp_total}
use Rattle.std.specs.Option.{is_none}
use Rattle.std.specs.FinMap as finmap
use Rattle.std.specs.FinMap.{get, get-retain_keys, same_map, slice_cmp-IsAntisymmetric, nat_cmp-IsAntisymmetric}
use Rattle.std.proofs.lemmas.Bool.Decides.{Decides-eqb}
use Rattle.std.specs.Str.{bytes_eq}
use Rattle.ep_model.specs.declared.event.PartName.{PartName}
use Rattle.ep_model.specs.declared.event.PartName.TheVariants.{Stripe, Queue}
use Rattle.ep_model.specs.declared.config.Config.{Config}
use Rattle.ep_model.specs.declared.config.Eviction.{Eviction}
use Rattle.ep_model.specs.declared.data.CallData.{CallData}
use Rattle.ep_model.specs.declared.data.EventData.{EventData}
use Rattle.ep_model.specs.declared.data.EventData.TheVariants.{Called, Refused, Expired, Persisted, Marked, Asked, ReadFailed, Opened}
use Rattle.ep_model.specs.declared.data.FrontData.{FrontData}
use Rattle.ep_model.specs.World.{Doc, Docs, World, Item}
use Rattle.ep_model.specs.Stripes.{stripe_of}
use Rattle.ep_model.specs.Answer.{Effect, Nothing, Puts, Sets, Answer, answer}
use Rattle.ep_model.specs.History.{step, after}
use Rattle.ep_model.specs.Calls.{key_of, written_key}
use Rattle.ep_model.specs.Mutations.{put_by, mutation_of}
use Rattle.ep_model.specs.Needs.{needs, own_refusal}
use Rattle.ep_model.specs.Front.{begun, world_of, with_event, with_events, marked}
use Rattle.ep_model.specs.Checkpoints.{Checkpoints, first_checkpoints, queued, queued_if, cut_after, cut_in, cut, items_above, item_blocks}
use Rattle.ep_model.specs.Quota.{is_other, others_in, pinned_sum, pinned, blocks_if, standing_blocks, old_blocks, need, exceeds, stripe_is_full, is_overfull, is_short}
use Rattle.ep_model.proofs.EffectLemmas.{IsDone, answer_done}
use Rattle.hold_stage.specs.Touches.{holds_key, is_queue, touches_call, touches}
use Rattle.hold_stage.specs.Grows.{Quiet}
use Rattle.hold_stage.proofs.ViewLemmas.{SameStripe, SameQueue, SameFrame, frame_after, no_mutation, written_touches}
use Rattle.hold_stage.proofs.LaterLemmas.{quiet_queue, same_frame, quiet_mark}

-- a restriction of documents by a test of their keys
restricted : (docs : Docs) (test : List ℕ → Bool) (q : List ℕ) → get (finmap.retain_keys docs test) q ≡ cond (test q) (get docs q) None
restricted docs test q = get-retain_keys docs test q (λ x tied. ap test (sym (slice_cmp-IsAntisymmetric nat_cmp-IsAntisymmetric q x tied)))

-- two of them are the same where the documents under the keys are
pub same_restricted : (v w : Docs) (test : List ℕ → Bool) → ((q : List ℕ) → test q ≡ true → get w q ≡ get v q) → finmap.retain_keys w test ≡ finmap.retain_keys v test
same_restricted v w test same =
    same_map nat_list_cmp_total (slice_cmp-IsAntisymmetric nat_cmp-IsAntisymmetric) (finmap.retain_keys w test) (finmap.retain_keys v test)
    (λ q. restricted w test q ∙ at q (test q) refl ∙ sym (restricted v test q))
  where
    at : (q : List ℕ) (b : Bool) → test q ≡ b → cond (test q) (get w q) None ≡ cond (test q) (get v q) None
    at q true is = ap (λ (o : Option Doc). cond (test q) o None) (same q is)
    at q false is = ap (λ b. cond b (get w q) None) is ∙ sym (ap (λ b. cond b (get v q) None) is)

and_first : (a b : Bool) → (a && b) ≡ true → a ≡ true
and_first true b is = refl
and_first false b is = is

-- the other documents of a stripe
pub same_others : (stripes stripe : ℕ) (key : List ℕ) (v w : World) → SameStripe stripes stripe v w → others_in stripes stripe key w.docs ≡ others_in stripes stripe key v.docs
same_others stripes stripe key v w same =
    same_restricted v.docs w.docs (is_other stripes stripe key)
    (λ q is. same.docs q ((Decides-eqb (stripe_of q stripes) stripe).0 (and_first (stripe_of q stripes == stripe) (not (bytes_eq q key)) is)))

-- what is pinned of a stripe
pub same_pinned : (config_stripes stripe mark : ℕ) (key : List ℕ) (v w : World) → v.stripes ≡ config_stripes → SameStripe config_stripes stripe v w → SameFrame v w → pinned w stripe mark key ≡ pinned v stripe mark key
same_pinned stripes stripe mark key v w layout same frame =
    ap (λ (e : Eviction). pinned_sum e mark (finmap.entries (others_in w.stripes stripe key w.docs))) frame.eviction
    ∙ ap (λ n. pinned_sum v.eviction mark (finmap.entries (others_in n stripe key w.docs))) (frame.stripes ∙ layout)
    ∙ ap (λ (docs : Docs). pinned_sum v.eviction mark (finmap.entries docs)) (same_others stripes stripe key v w same)
    ∙ sym (ap (λ n. pinned_sum v.eviction mark (finmap.entries (others_in n stripe key v.docs))) layout)

-- the stripes of a front's worlds are those of its layout
pub layout_of : (f : FrontData) → (world_of f).stripes ≡ f.config.stripes
layout_of f = (frame_after (begun f) f.events).stripes

-- what a call needs, by its answer and the old document's blocks
abbrev need_of : Answer → ℕ → ℕ
need_of a old = max (blocks_if (put_by a.effect)) old

pub same_need : (v w : World) (key : List ℕ) (call : CallData) (now : ℕ) → answer w call now ≡ answer v call now → get w.docs key ≡ get v.docs key → SameFrame v w → need w key call now ≡ need v key call now
same_need v w key call now same docs frame =
    ap (λ (a : Answer). need_of a (old_blocks w key call)) same
    ∙ ap (λ (e : Eviction). need_of (answer v call now) (cond (needs e call && is_none (own_refusal w.fit call)) (standing_blocks key (get w.docs key)) 0)) frame.eviction
    ∙ ap (λ n. need_of (answer v call now) (cond (needs v.eviction call && is_none (own_refusal n call)) (standing_blocks key (get w.docs key)) 0)) frame.fit
    ∙ ap (λ (o : Option Doc). need_of (answer v call now) (cond (needs v.eviction call && is_none (own_refusal v.fit call)) (standing_blocks key o) 0)) docs

-- Checkpoints: of two parts of a history, and what an event leaves that doesn't touch the queue.
pub cut_append : (most : ℕ) (w : World) (c : Checkpoints) (xs ys : List EventData) → cut_in most w c (xs ++ ys) ≡ cut_in most (after w xs) (cut_in most w c xs) ys
cut_append most w c [] ys = refl
cut_append most w c (x ∷ xs) ys = cut_append most (step w x) (cut_after most w c x) xs ys

cut_queued : (most : ℕ) (c : Checkpoints) (item : Option Item) → item ≡ None → queued_if most item c ≡ c
cut_queued most c item is = ap (λ (o : Option Item). queued_if most o c) is

step_cut : (f : FrontData) (most : ℕ) (w : World) (c : Checkpoints) (event : EventData) → touches f event Queue ≡ false → cut_after most w c event ≡ c
unfolding touches
step_cut f most w c (Called caller call now reply value) apart = cut_queued most c _ (no_mutation f w (Called caller call now reply value) apart)
step_cut f most w c (Refused caller call now cause) apart = refl
step_cut f most w c (Expired key now) apart = absurd (cc)
step_cut f most w c (Persisted number) apart = absurd (cc)
step_cut f most w c (Marked stripe number) apart = refl
step_cut f most w c (Asked ticket caller call) apart = refl
step_cut f most w c (ReadFailed ticket fault) apart = refl
step_cut f most w c Opened apart = refl

quiet_cut_in : (f : FrontData) (held : PartName → Bool) (caller : ℕ) (desk : Bool) (most : ℕ) (w : World) (c : Checkpoints) (more : List EventData) → held Queue ≡ true → Quiet f held caller desk more → cut_in most w c more ≡ c
quiet_cut_in f held caller desk most w c [] has quiet = refl
quiet_cut_in f held caller desk most w c (event ∷ more) has quiet =
    ap (λ (k : Checkpoints). cut_in most (step w event) k more) (step_cut f most w c event (quiet.0.apart Queue has))
    ∙ quiet_cut_in (with_event f event) held caller desk most (step w event) c more has quiet.1

-- so whoever holds the queue finds the checkpoints as they were
pub quiet_cut : (f : FrontData) (held : PartName → Bool) (caller : ℕ) (desk : Bool) (more : List EventData) → held Queue ≡ true → Quiet f held caller desk more → cut (with_events f more) ≡ cut f
unfolding cut
quiet_cut f held caller desk more has quiet =
    cut_append f.config.ckpt_max (begun f) first_checkpoints f.events more
    ∙ quiet_cut_in f held caller desk f.config.ckpt_max (world_of f) (cut_in f.config.ckpt_max (begun f) first_checkpoints f.events) more has quiet

-- where a call puts a document it touches the queue
puts_touch : (config : Config) (w : World) (call : CallData) (now : ℕ) (effect : Effect) → IsDone w call now effect → IsSome (put_by effect) → touches_call config call Queue ≡ true
puts_touch config w call now Nothing done some = absurd (cc)
puts_touch config w call now (Puts key doc) done some = written_touches config call key Queue done.0
puts_touch config w call now (Sets state) done some = absurd (cc)

-- a call finds no room later where it found none, and room where it found room
module _ (f : FrontData) (held : PartName → Bool) (caller : ℕ) (desk : Bool) (more : List EventData) (quiet : Quiet f held caller desk more) where
  overfull_at : (item : Option Item) → (IsSome item → held Queue ≡ true) → is_overfull (with_events f more) item ≡ is_overfull f item
  overfull_at None has = refl
  overfull_at (Some item) has =
      let same = quiet_cut f held caller desk more (has refl) quiet in
      let q = quiet_queue f held caller desk more (has refl) quiet in
      ap (λ (c : Checkpoints). nat_lt f.config.ckpt_blocks (item_blocks (items_above (world_of (with_events f more)).persisted (queued f.config.ckpt_max item c)))) same
      ∙ ap (λ n. nat_lt f.config.ckpt_blocks (item_blocks (items_above n (queued f.config.ckpt_max item (cut f))))) q.persisted

  pub short_later : (key : List ℕ) (call : CallData) (now : ℕ) → held (Stripe (stripe_of key f.config.stripes)) ≡ true
      → ((p : PartName) → touches_call f.config call p ≡ true → held p ≡ true)
      → SameStripe f.config.stripes (stripe_of key f.config.stripes) (world_of f) (world_of (with_events f more))
      → answer (world_of (with_events f more)) call now ≡ answer (world_of f) call now → is_short (with_events f more) key call now ≡ is_short f key call now
  short_later key call now has covers same given =
      let stripe : ℕ = stripe_of key f.config.stripes in
      let frame = same_frame f more in
      let mark = quiet_mark f stripe held caller desk more has quiet in
      let pins = same_pinned f.config.stripes stripe (marked f stripe) key (world_of f) (world_of (with_events f more)) (layout_of f) same frame in
      let needed = same_need (world_of f) (world_of (with_events f more)) key call now given (same.docs key refl) frame in
      let effect = (answer (world_of f) call now).effect in
      ap (λ (a : Answer). stripe_is_full (with_events f more) key call now || is_overfull (with_events f more) (put_by a.effect)) given
      ∙ ap (λ b. stripe_is_full (with_events f more) key call now || b) (overfull_at (put_by effect) (λ some. covers Queue (puts_touch f.config (world_of f) call now effect (answer_done (world_of f) call now) some)))
      ∙ ap (λ n. exceeds f.config.blocks (pinned (world_of (with_events f more)) stripe n key) (need (world_of (with_events f more)) key call now) || is_overfull f (put_by effect)) mark
      ∙ ap (λ n. exceeds f.config.blocks n (need (world_of (with_events f more)) key call now) || is_overfull f (put_by effect)) pins
      ∙ ap (λ n. exceeds f.config.blocks (pinned (world_of f) stripe (marked f stripe) key) n || is_overfull f (put_by effect)) needed
