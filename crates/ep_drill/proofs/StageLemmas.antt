-- What the store's side notes is legal, its own, and touches what it holds; and what it leaves stands.
use Rattle.hold_stage.proofs.RisesLemmas.{opened_unstored}
use Rattle.std.proofs.Common.{◌≡◌, ℕ, ◌+◌, false, List, [], ◌∷◌, ◌++◌, take, add-one, refl, sym, ap, subst, ◌∙◌, arith}
use Rattle.std.specs.Prelude.{Option, Some, slice_get}
use Rattle.std.specs.Option.{option_map}
use Rattle.std.specs.FinMap.{get, insert}
use Rattle.std.proofs.Math.Seq.{take-suc}
use Rattle.std.proofs.lemmas.Option.{slice_get_within, get_or_from_slice_get}
use Rattle.ep_model.specs.declared.data.EventData.TheVariants as events
use Rattle.ep_model.specs.declared.data.FrontData.{FrontData}
use Rattle.ep_model.specs.World.{Doc, Docs, World}
use Rattle.ep_model.specs.Front.{begun, world_of, with_event}
use Rattle.ep_model.specs.Legal.{May, IsLegal}
use Rattle.ep_model.specs.Mutations.{mutations, above, laid_on}
use Rattle.hold_stage.proofs.LaterLemmas.{world_step}
use Rattle.hold_stage.proofs.BoundLemmas.{legal_bounds}
use Rattle.hold_stage.proofs.StoredLemmas.{laid_append}
use Rattle.kv_keeper.specs.declared.data.BatchData.{BatchData}
use Rattle.kv_keeper.specs.declared.data.DeskData.{DeskData}
use Rattle.kv_keeper.specs.declared.keeper.StoreState.{StoreState}
use Rattle.kv_keeper.specs.Batch.{AreDistinct, laid, empty_batch}
use Rattle.kv_keeper.specs.Content.{Content, KeeperData}
use Rattle.kv_keeper.specs.Desk.{IsSure}
use Rattle.kv_keeper.specs.Kept.{IsDoubtful, all_committed}
use Rattle.flat_parts.specs.declared.data.QueueData.{QueueData}
use Rattle.ep_drill.specs.declared.store.Flushed.TheVariants as flushes
use Rattle.hold_stage.specs.Numbers.{numbers_of}
use Rattle.hold_stage.proofs.NumbersLemmas.{laid_alike}
use Rattle.ep_drill.specs.Stands.{QueueStands, DeskStands, BatchStands}
use Rattle.ep_drill.specs.StoreSide.{IsTaken, IsFlushed, state_for, whole}
use Rattle.ep_drill.proofs.StoreLemmas.{batch_taken, has_start}
use Rattle.ep_drill.proofs.PartLemmas.{may_persist, persisted_queue, persisted_desk, doubted_desk}

-- one more of a list's elements
take_more : {A : Type 0} (xs : List A) (i : ℕ) (x : A) → slice_get xs i ≡ Some x → take (i + 1) xs ≡ take i xs ++ x ∷ []
take_more xs i x is =
    ap (λ n. take n xs) (add-one i) ∙ take-suc xs i x (slice_get_within xs i x is) ∙ ap (λ y. take i xs ++ y ∷ []) (get_or_from_slice_get xs i x x is)

-- a batch with one more of a queue's mutations
pub laid_more : (first rows more items : List (List ℕ × Doc)) (i : ℕ) (key other : List ℕ) (doc same : Doc)
    → ((docs : Docs) → laid rows docs ≡ laid_on (laid first docs) (take i items)) → slice_get items i ≡ Some (key, doc) → other ≡ key → same ≡ doc → ((docs : Docs) → laid more docs ≡ insert (laid rows docs) other same)
    → (docs : Docs) → laid more docs ≡ laid_on (laid first docs) (take (i + 1) items)
laid_more first rows more items i key other doc same before is key-is doc-is added docs =
    added docs
    ∙ ap (λ (l : List ℕ). insert (laid rows docs) l same) key-is
    ∙ ap (λ (d : Doc). insert (laid rows docs) key d) doc-is
    ∙ ap (λ (w : Docs). insert w key doc) (before docs)
    ∙ sym (laid_append (laid first docs) (take i items) ((key, doc) ∷ []))
    ∙ sym (ap (laid_on (laid first docs)) (take_more items i (key, doc) is))

-- What a queue holds makes a batch that stands and goes up to the last mutation, where not all of it is stored.
pub taken_stands : (f₀ f : FrontData) (desk : DeskData) (high persisted : ℕ) (q : QueueData) (empty filled : BatchData)
    → f ≡ f₀ → DeskStands f₀ desk → IsLegal f → QueueStands f q → high ≡ q.high → persisted ≡ q.persisted → (high ≡ persisted → ⊥)
    → empty ≡ empty_batch q.high q.maxcas → filled.to ≡ empty.to → filled.maxcas ≡ empty.maxcas → ((docs : Docs) → laid filled.rows docs ≡ laid_on (laid empty.rows docs) q.items)
    → AreDistinct filled.rows → IsTaken f₀ desk.stored (Some filled)
taken_stands f₀ f desk high persisted q empty filled front d legal s high-is persisted-is differs begins to maxcas laid-is distinct =
    let d-low = d.low in
    let stored-is = ap (λ (g : FrontData). (world_of g).persisted) front in
    let high-of = ap (λ (g : FrontData). (world_of g).high) front in
    let bounds = (legal_bounds f legal).stored in
    let all = s.high in let known = s.persisted in
    let there : IsLegal f₀ = subst IsLegal front legal in
    let d-top = d.top (has_start f₀ there (opened_unstored f₀ there (omega arith))) in
    let whole : filled.to ≡ q.high = to ∙ ap (λ (b : BatchData). b.to) begins in
    let lays : (docs : Docs) → laid filled.rows docs ≡ laid_on docs q.items = λ docs. laid-is docs ∙ ap (λ (b : BatchData). laid_on (laid b.rows docs) q.items) begins in (
      subst (λ (g : FrontData). BatchStands g desk.stored filled) front
          (batch_taken f q filled desk.stored legal s (omega arith) (omega arith) (omega arith)
          whole
          (maxcas ∙ ap (λ (b : BatchData). b.maxcas) begins)
          lays),
      whole ∙ s.high ∙ ap (λ (g : FrontData). (world_of g).high) front,
      distinct,
      λ told docs. lays docs ∙ ap (λ (l : List (List ℕ × Doc)). laid_on docs l) (s.items (ap (λ (g : FrontData). (world_of g).told) front ∙ told) ∙ ap (λ (g : FrontData). above (world_of g).persisted (mutations (begun g) g.events)) front),
      λ docs key.
          ap (λ (d : Docs). option_map numbers_of (get d key)) (lays docs)
          ∙ laid_alike q.items (above (world_of f).persisted (mutations (begun f) f.events)) docs docs s.numbers (λ k. refl) key
          ∙ ap (λ (g : FrontData). option_map numbers_of (get (laid_on docs (above (world_of g).persisted (mutations (begun g) g.events))) key)) front,
    )

-- not all is stored where a queue's last number isn't
pub not_all_stored : (f₀ f : FrontData) (high persisted : ℕ) (q : QueueData) → f ≡ f₀ → QueueStands f q → high ≡ q.high → persisted ≡ q.persisted → (high ≡ persisted → ⊥) → (world_of f₀).high ≡ (world_of f₀).persisted → ⊥
not_all_stored f₀ f high persisted q front s high-is persisted-is differs is =
    let all = s.high ∙ ap (λ (g : FrontData). (world_of g).high) front in
    let known = s.persisted ∙ ap (λ (g : FrontData). (world_of g).persisted) front in
    differs (omega arith)

-- A commit, from what it says and what the taking of the queue and the desk says.
module _ (f₀ f₁ f : FrontData) (desk : DeskData) (number : ℕ) (batch : BatchData) (first : f₁ ≡ f₀) (second : f ≡ f₁) (to : number ≡ batch.to) (legal : IsLegal f₀)
    (d : DeskStands f₀ desk) (sure : IsSure desk) (b : BatchStands f₀ desk.stored batch) where
  pub flush_may : May f (events.Persisted number)
  flush_may =
      subst (λ (g : FrontData). May g (events.Persisted number)) (sym (second ∙ first))
      (subst (λ n. May f₀ (events.Persisted n)) (sym to)
      (may_persist f₀ desk batch legal d sure b))

  flushed : (g : FrontData) → g ≡ with_event f (events.Persisted number) → g ≡ with_event f₀ (events.Persisted batch.to)
  flushed g last = last ∙ ap (λ (h : FrontData). with_event h (events.Persisted number)) (second ∙ first) ∙ ap (λ n. with_event f₀ (events.Persisted n)) to

  pub flushed_part : (g : FrontData) → g ≡ with_event f (events.Persisted number) → number ≡ (world_of g).persisted
  flushed_part g last = sym (ap (λ (h : FrontData). (world_of h).persisted) last ∙ ap (λ (w : World). w.persisted) (world_step f (events.Persisted number)))

  pub flushed_queue : (g h : FrontData) (q r : QueueData) → g ≡ with_event f (events.Persisted number) → h ≡ g → QueueStands f₁ q → r ≡ record q { items = above number q.items; persisted = number } → QueueStands h r
  flushed_queue g h q r last given s keeps =
      subst (λ (x : FrontData). QueueStands x r) (sym (given ∙ flushed g last))
      (subst (λ (x : QueueData). QueueStands (with_event f₀ (events.Persisted batch.to)) x) (sym (keeps ∙ ap (λ n. record q { items = above n q.items; persisted = n }) to))
      (persisted_queue f₀ desk batch legal d sure b q (subst (λ (x : FrontData). QueueStands x q) first s)))

-- how a commit leaves the history and the desk
module _ (f₀ : FrontData) (before : DeskData) (number : ℕ) (given : StoreState) (batch : BatchData) (legal : IsLegal f₀)
    (d : DeskStands f₀ before) (sure : IsSure before) (b : BatchStands f₀ before.stored batch) (to : number ≡ batch.to) (under : given ≡ state_for batch) where
  whole_is : all_committed before.keeper.content batch given ≡ whole before.keeper batch
  whole_is = ap (λ (s : StoreState). all_committed before.keeper.content batch s) under

  pub commit_none : (m : DeskData) → m ≡ record before { keeper = m.keeper } → m.keeper ≡ before.keeper → before.keeper.roomy ≡ false → IsFlushed f₀ f₀ before m batch flushes.NoMemory
  commit_none m after same wanting = (refl, after ∙ ap (λ (k : KeeperData). record before { keeper = k }) same, wanting)

  pub commit_failed : (m : DeskData) → m ≡ record before { keeper = m.keeper; doubt = Some batch.to } → IsDoubtful before.keeper (all_committed before.keeper.content batch given) m.keeper → IsFlushed f₀ f₀ before m batch flushes.Failed
  commit_failed m after doubtful =
      let known : IsDoubtful before.keeper (whole before.keeper batch) m.keeper = subst (λ (o : Option Content). IsDoubtful before.keeper o m.keeper) whole_is doubtful in
      (refl, subst (λ (x : DeskData). DeskStands f₀ x) (sym after) (doubted_desk f₀ before batch legal d sure b m.keeper known), after, known)

  pub commit_good : (f₁ f g h i : FrontData) (m desk : DeskData) → f₁ ≡ f₀ → f ≡ f₁ → g ≡ with_event f (events.Persisted number) → h ≡ g → i ≡ h
      → m ≡ record before { keeper = m.keeper; stored = batch.to } → m.keeper ≡ record before.keeper { content = all_committed before.keeper.content batch given } → desk ≡ record m { noted = m.stored }
      → IsFlushed f₀ i before desk batch (flushes.Stored number)
  commit_good f₁ f g h i m desk first second last third fourth after holds notes =
      let front : i ≡ with_event f₀ (events.Persisted batch.to) = fourth ∙ third ∙ flushed f₀ f₁ f before number batch first second to legal d sure b g last in
      let kept : m.keeper ≡ record before.keeper { content = whole before.keeper batch } = holds ∙ ap (λ (o : Option Content). record before.keeper { content = o }) whole_is in
      let done : DeskData = record before { keeper = record before.keeper { content = whole before.keeper batch }; stored = batch.to; noted = batch.to } in
      let at : desk ≡ done =
      notes ∙ ap (λ (x : DeskData). record x { noted = x.stored }) after ∙ ap (λ (k : KeeperData). record before { keeper = k; stored = batch.to; noted = batch.to }) kept in (
        to,
        front,
        subst (λ (x : DeskData). DeskStands i x) (sym at)
            (subst (λ (x : FrontData). DeskStands x done) (sym front)
            (subst (λ (o : Option ℕ). DeskStands (with_event f₀ (events.Persisted batch.to)) (record done { doubt = o })) (sym sure) (persisted_desk f₀ before batch legal d sure b))),
        at,
      )
