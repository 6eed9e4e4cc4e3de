-- What a vBucket's desk, batch and reads are to its history, after each thing that a core does with them.
use Rattle.std.proofs.Common.{◌≡◌, ◌≢◌, ◌<◌, ◌≤◌, ◌+◌, ℕ, zero, suc, true, false, ◌⊎◌, inl, inr, List, [], ◌∷◌, length, slice_get, slice_set, refl, sym, ap, subst, ◌∙◌, arith}
use Rattle.std.specs.Prelude.{Option, Some, None, IsSome, IfSome}
use Rattle.std.proofs.lemmas.List.{length-set}
use Rattle.ep_model.specs.declared.config.Config.{Config}
use Rattle.ep_model.specs.declared.event.Ticket.{Ticket}
use Rattle.ep_model.specs.declared.data.EventData.{EventData}
use Rattle.ep_model.specs.declared.data.EventData.TheVariants as events
use Rattle.ep_model.specs.declared.data.FrontData.{FrontData}
use Rattle.ep_model.specs.declared.data.StartData.{StartData}
use Rattle.ep_model.specs.History.{step}
use Rattle.ep_model.specs.Front.{empty_start, started, world_of, with_event}
use Rattle.ep_model.specs.Legal.{IsLegal}
use Rattle.hold_stage.specs.Touches.{is_desks}
use Rattle.kv_keeper.specs.declared.data.BatchData.{BatchData}
use Rattle.kv_keeper.specs.declared.data.DeskData.{DeskData}
use Rattle.kv_keeper.specs.Content.{Content, KeeperData, empty_content}
use Rattle.kv_keeper.specs.Desk.{new_desk, after_failed_read}
use Rattle.hold_stage.proofs.LaterLemmas.{same_told}
use Rattle.hold_stage.proofs.RisesLemmas.{opened_stays, may_of, started_low}
use Rattle.ep_drill.specs.declared.data.BenchData.{BenchData}
use Rattle.ep_drill.specs.declared.part.Part.{Part}
use Rattle.ep_drill.specs.declared.fetch.Merging.{Merging}
use Rattle.ep_drill.specs.declared.fetch.Merging.TheVariants as mergings
use Rattle.ep_drill.specs.declared.store.Flushed.{Flushed}
use Rattle.ep_drill.specs.declared.store.Flushed.TheVariants as flushes
use Rattle.ep_drill.specs.declared.data.FetchedData.{FetchedData}
use Rattle.ep_drill.specs.declared.data.FoundData.{FoundData}
use Rattle.ep_drill.specs.declared.data.FoundData.TheVariants as founds
use Rattle.hold_stage.specs.Went.{with_noted}
use Rattle.hold_stage.proofs.DeskLemmas.{persisted_same}
use Rattle.ep_drill.specs.StoreSide.{IsFlushed, state_for}
use Rattle.ep_drill.specs.Fetches.{Reads, IsMerged}
use Rattle.ep_drill.specs.Stands.{HoldsIfTelling, DeskStands, BatchStands, FetchedStands}
use Rattle.ep_drill.specs.Core.{BenchStands}
use Rattle.ep_drill.proofs.StoreLemmas.{tells_whole, tells_on, desk_keeps_standing, more_faults, desk_tells, batch_keeps, no_fault_same, IsApart, fetched_keeps}

-- an event that isn't the desk's tells of no failed read
apart_same : (found : FoundData) (event : EventData) → is_desks event ≡ false → IsApart found event
apart_same (founds.Row doc) event test = tt
apart_same founds.Absent event test = tt
apart_same (founds.Failed fault) event test = no_fault_same fault event test
apart_same founds.NoMemory event test = tt

-- a batch that may be missing stands on behind an event
batch_later : (f : FrontData) (event : EventData) (stored : ℕ) (batch : Option BatchData) → (started f.start).high ≤ stored → (step (world_of f) event).persisted ≡ (world_of f).persisted → IfSome batch (λ b. BatchStands f stored b) → IfSome batch (λ b. BatchStands (with_event f event) stored b)
batch_later f event stored None start same b = tt
batch_later f event stored (Some batch) start same b = batch_keeps f event stored batch start same b

-- a vBucket has opened, and its start is told
abbrev IsKnown : FrontData → Type 0
IsKnown f = ((world_of f).opened ≡ true) × ((world_of f).told ≡ true)

known_of : (f : FrontData) (bench : BenchData) → BenchStands f bench → IsKnown f
known_of f bench b = (b.opened, b.told)

known_stays : (f : FrontData) (event : EventData) → IsKnown f → IsKnown (with_event f event)
known_stays f event h = (opened_stays f event h.0, same_told f event ∙ h.1)

-- A desk and a batch change, and each read that is there stands on, where the count of failed reads doesn't fall.
with_desk : (f g : FrontData) (bench : BenchData) (now : DeskData) (batch : Option BatchData) → BenchStands f bench
    → g.config.stripes ≡ f.config.stripes → IsKnown g → DeskStands g now → IsSome now.keeper.content → now.stored ≡ now.noted
    → IfSome batch (λ b. BatchStands g now.stored b) → IfSome batch (λ _. now.doubt ≡ None) → ((r : FetchedData) → FetchedStands f r → FetchedStands g r) → bench.desk.read_faults ≤ now.read_faults
    → BenchStands g (record { desk = now; batch = batch; reads = bench.reads })
with_desk f g bench now batch b config opened desk tells known stands sure keeps more = record {
  opened = opened.0;
  told = opened.1;
  desk = desk;
  tells = tells;
  known = known;
  batch = stands;
  sure = sure;
  count = b.count ∙ sym config;
  reads = λ stripe r is. let h = b.reads stripe r is in (keeps r h.0, h.1);
  faults = λ stripe r fault is found. let h = b.faults stripe r fault is found in (h.0, (let top = h.1 in omega arith));
  apart = b.apart;
}

-- an event that isn't the desk's is noted, or none is
pub bench_noted : (f : FrontData) (event : Option EventData) (bench : BenchData) → IsLegal f → IsLegal (with_noted f event) → IfSome event (λ e. is_desks e ≡ false) → BenchStands f bench → BenchStands (with_noted f event) bench
bench_noted f None bench legal then test b = b
bench_noted f (Some event) bench legal then test b =
    let start = started_low f legal in
    let low = b.desk.low in
    let may = may_of f event then in
    with_desk f (with_event f event) bench bench.desk bench.batch b refl (known_stays f event (known_of f bench b))
    (desk_keeps_standing f event bench.desk legal test b.desk) b.tells b.known
    (batch_later f event bench.desk.stored bench.batch (omega arith) (persisted_same (world_of f) event test) b.batch) b.sure (λ r s. fetched_keeps f event r may (apart_same r.found event test) s) (omega arith)

-- a batch is taken, where no commit failed
pub bench_taken : (f : FrontData) (bench : BenchData) (batch : Option BatchData) → BenchStands f bench → bench.desk.doubt ≡ None → IfSome batch (λ b. BatchStands f bench.desk.stored b) → BenchStands f (record bench { batch = batch })
bench_taken f bench batch b sure stands = with_desk f f bench bench.desk batch b refl (b.opened, b.told) b.desk b.tells b.known stands (at batch) (λ r s. s) (omega arith)
  where
    at : (batch : Option BatchData) → IfSome batch (λ _. bench.desk.doubt ≡ None)
    at None = tt
    at (Some x) = sure

-- a read stands on behind an event that isn't about it
fetched_moves : (f g : FrontData) (event : EventData) (r : FetchedData) → g ≡ with_event f event → IsLegal g → IsApart r.found event → FetchedStands f r → FetchedStands g r
fetched_moves f g event r is legal apart s =
    subst (λ (h : FrontData). FetchedStands h r) (sym is) (fetched_keeps f event r (may_of f event (subst IsLegal is legal)) apart s)

apart_persisted : (found : FoundData) (number : ℕ) → IsApart found (events.Persisted number)
apart_persisted (founds.Row doc) number = tt
apart_persisted founds.Absent number = tt
apart_persisted (founds.Failed fault) number = tt
apart_persisted founds.NoMemory number = tt

known_moves : (f g : FrontData) (event : EventData) → g ≡ with_event f event → IsKnown f → IsKnown g
known_moves f g event is h = subst IsKnown (sym is) (known_stays f event h)

-- A batch is committed, or that fails, or memory was wanting: it isn't there any more.
pub bench_committed : (f g : FrontData) (bench : BenchData) (now : DeskData) (batch : BatchData) (flushed : Flushed) → IsLegal f → IsLegal g → BenchStands f bench
    → IsFlushed f g bench.desk now batch flushed → BenchStands g (record { desk = now; batch = None; reads = bench.reads })
bench_committed f g bench now batch (flushes.Stored number) legal then b is =
    let e : now.read_faults ≡ bench.desk.read_faults = ap (λ (d : DeskData). d.read_faults) is.3 in
    let stored : now.stored ≡ batch.to = ap (λ (d : DeskData). d.stored) is.3 in
    let noted : now.noted ≡ batch.to = ap (λ (d : DeskData). d.noted) is.3 in
    with_desk f g bench now None b (ap (λ (h : FrontData). h.config.stripes) is.1) (known_moves f g (events.Persisted batch.to) is.1 (known_of f bench b)) is.2
    (subst (λ (d : DeskData). IsSome d.keeper.content) (sym is.3) (tells_whole bench.desk.keeper.content batch (state_for batch) b.tells)) (stored ∙ sym noted) tt tt
    (λ r s. fetched_moves f g (events.Persisted batch.to) r is.1 then (apart_persisted r.found batch.to) s) (omega arith)
bench_committed f g bench now batch flushes.Failed legal then b is =
    let e : now.read_faults ≡ bench.desk.read_faults = ap (λ (d : DeskData). d.read_faults) is.2 in
    let stored : now.stored ≡ bench.desk.stored = ap (λ (d : DeskData). d.stored) is.2 in
    let noted : now.noted ≡ bench.desk.noted = ap (λ (d : DeskData). d.noted) is.2 in
    with_desk f g bench now None b (ap (λ (h : FrontData). h.config.stripes) is.0) (subst IsKnown (sym is.0) (known_of f bench b)) is.1
    (tells_on bench.desk.keeper now.keeper batch b.tells is.3) (stored ∙ b.known ∙ sym noted) tt tt
    (λ r s. subst (λ (h : FrontData). FetchedStands h r) (sym is.0) s) (omega arith)
bench_committed f g bench now batch flushes.NoMemory legal then b is =
    subst (λ (h : FrontData). BenchStands h (record { desk = now; batch = None; reads = bench.reads })) (sym is.0)
    (subst (λ (d : DeskData). BenchStands f (record { desk = d; batch = None; reads = bench.reads })) (sym is.1)
    (with_desk f f bench bench.desk None b refl (b.opened, b.told) b.desk b.tells b.known tt tt (λ r s. s) (omega arith)))

-- what a read leaves of the desk: it failed once more, or is as it was
abbrev IsAsked : DeskData → DeskData → Type 0
IsAsked old now = (now ≡ old) ⊎ (now ≡ after_failed_read old)

asked_by : (old now : DeskData) (found : FoundData) → Reads old now found → IsAsked old now
asked_by old now (founds.Row doc) is = inl is
asked_by old now founds.Absent is = inl is
asked_by old now (founds.Failed fault) is = inr is.1
asked_by old now founds.NoMemory is = inl is

asked_more : (old now : DeskData) → IsAsked old now → old.read_faults ≤ now.read_faults
asked_more old now asked = elim asked [
  | inl is ↦ let e : now.read_faults ≡ old.read_faults = ap (λ (d : DeskData). d.read_faults) is in (let more : old.read_faults ≤ now.read_faults = omega arith in more)
  | inr is ↦ let e : now.read_faults ≡ old.read_faults + 1 = ap (λ (d : DeskData). d.read_faults) is in (let more : old.read_faults ≤ now.read_faults = omega arith in more)
]

batch_at : (f : FrontData) (old now : ℕ) (batch : Option BatchData) → now ≡ old → IfSome batch (λ b. BatchStands f old b) → IfSome batch (λ b. BatchStands f now b)
batch_at f old now None is h = tt
batch_at f old now (Some batch) is h = subst (λ n. BatchStands f n batch) (sym is) h

sure_at : (old now : Option ℕ) (batch : Option BatchData) → now ≡ old → IfSome batch (λ _. old ≡ None) → IfSome batch (λ _. now ≡ None)
sure_at old now None is h = tt
sure_at old now (Some batch) is h = is ∙ h

-- the store was read
bench_asked : (f : FrontData) (bench : BenchData) (now : DeskData) → BenchStands f bench → IsAsked bench.desk now → BenchStands f (record { desk = now; batch = bench.batch; reads = bench.reads })
bench_asked f bench now b asked = elim asked [
  | inl is ↦ subst (λ (d : DeskData). BenchStands f (record { desk = d; batch = bench.batch; reads = bench.reads })) (sym is) b
  | inr is ↦
      subst (λ (d : DeskData). BenchStands f (record { desk = d; batch = bench.batch; reads = bench.reads })) (sym is)
      (with_desk f f bench (after_failed_read bench.desk) bench.batch b refl (b.opened, b.told) (more_faults f bench.desk b.desk) b.tells b.known b.batch b.sure (λ r s. s) (omega arith))
]

-- a read that stands behind another one's place was there before, or is the other
replaced : (reads : List (Option FetchedData)) (stripe i : ℕ) (q r : FetchedData) → slice_get (slice_set reads stripe (Some q)) i ≡ Some (Some r) → ((i ≡ stripe) × (r ≡ q)) ⊎ (slice_get reads i ≡ Some (Some r))
replaced [] stripe i q r is = absurd (cc)
replaced (x ∷ reads) zero zero q r is = inl (refl, (let e : r ≡ q = cc in e))
replaced (x ∷ reads) zero (suc i) q r is = inr is
replaced (x ∷ reads) (suc stripe) zero q r is = inr is
replaced (x ∷ reads) (suc stripe) (suc i) q r is = elim (replaced reads stripe i q r is) [ inl h ↦ inl (ap suc h.0, h.1) | inr h ↦ inr h ]

-- one that stands where one was taken away was there before, at another place
left_over : (reads : List (Option FetchedData)) (stripe i : ℕ) (r : FetchedData) → slice_get (slice_set reads stripe None) i ≡ Some (Some r) → (i ≢ stripe) × (slice_get reads i ≡ Some (Some r))
left_over [] stripe i r is = absurd (cc)
left_over (x ∷ reads) zero zero r is = absurd (cc)
left_over (x ∷ reads) zero (suc i) r is = ((λ e. absurd (omega arith)), is)
left_over (x ∷ reads) (suc stripe) zero r is = ((λ e. absurd (omega arith)), is)
left_over (x ∷ reads) (suc stripe) (suc i) r is = let h = left_over reads stripe i r is in ((λ e. h.0 (let same : i ≡ stripe = omega arith in same)), h.1)

-- a failed read that was just made has a number above the old count, and the new count is as high
counted : (old now : DeskData) (fault : ℕ) (found : FoundData) → Reads old now found → found ≡ founds.Failed fault → (old.read_faults < fault) × (fault ≤ now.read_faults)
counted old now fault found is failed =
    let c : (fault ≡ old.read_faults + 1) × (now ≡ after_failed_read old) = subst (λ (o : FoundData). Reads old now o) failed is in
    let n = c.0 in
    let e : now.read_faults ≡ old.read_faults + 1 = ap (λ (d : DeskData). d.read_faults) c.1 in
    ((let low : old.read_faults < fault = omega arith in low), (let top : fault ≤ now.read_faults = omega arith in top))

-- A read was made for a stripe. Where it failed its number is above those of all that failed before.
pub bench_read : (f : FrontData) (bench : BenchData) (now : DeskData) (stripe : ℕ) (fetched : FetchedData) → BenchStands f bench → stripe < f.config.stripes
    → FetchedStands f fetched → fetched.ticket.stripe ≡ stripe → Reads bench.desk now fetched.found → BenchStands f (record { desk = now; batch = bench.batch; reads = slice_set bench.reads stripe (Some fetched) })
bench_read f bench now stripe fetched b there stands here read =
    let by = asked_by bench.desk now fetched.found read in
    let asked = bench_asked f bench now b by in
    let more = asked_more bench.desk now by in
    record {
      opened = asked.opened;
      told = asked.told;
      desk = asked.desk;
      tells = asked.tells;
      known = asked.known;
      batch = asked.batch;
      sure = asked.sure;
      count = length-set bench.reads stripe (Some fetched) ∙ b.count;
      reads = λ i r is. elim (replaced bench.reads stripe i fetched r is) [
        | inl h ↦ subst (λ (q : FetchedData). FetchedStands f q × (q.ticket.stripe ≡ i)) (sym h.1) (stands, here ∙ sym h.0)
        | inr h ↦ b.reads i r h
      ];
      faults = λ i r fault is found. elim (replaced bench.reads stripe i fetched r is) [
        | inl h ↦ let c = new r fault h.1 found in let low = c.0 in ((let some : 1 ≤ fault = omega arith in some), c.1)
        | inr h ↦ let c = b.faults i r fault h found in let top = c.1 in (c.0, (let within : fault ≤ now.read_faults = omega arith in within))
      ];
      apart = λ i j r q x y differ at to first second. elim (replaced bench.reads stripe i fetched r at) [
        | inl h ↦ elim (replaced bench.reads stripe j fetched q to) [
          | inl k ↦ absurd (differ (h.0 ∙ sym k.0))
          | inr k ↦ λ e. let low = (new r x h.1 first).0 in let top = (b.faults j q y k second).1 in absurd (omega arith)
        ]
        | inr h ↦ elim (replaced bench.reads stripe j fetched q to) [
          | inl k ↦ λ e. let low = (new q y k.1 second).0 in let top = (b.faults i r x h first).1 in absurd (omega arith)
          | inr k ↦ b.apart i j r q x y differ h k first second
        ]
      ];
    }
  where
    new : (r : FetchedData) (fault : ℕ) → r ≡ fetched → r.found ≡ founds.Failed fault → (bench.desk.read_faults < fault) × (fault ≤ now.read_faults)
    new r fault same found = counted bench.desk now fault fetched.found read (ap (λ (q : FetchedData). q.found) (sym same) ∙ found)

-- a stripe's read goes, and the others stand on
cleared : (f g : FrontData) (bench : BenchData) (stripe : ℕ) → BenchStands f bench → g.config.stripes ≡ f.config.stripes → IsKnown g
    → DeskStands g bench.desk → IfSome bench.batch (λ b. BatchStands g bench.desk.stored b)
    → ((i : ℕ) (r : FetchedData) → i ≢ stripe → slice_get bench.reads i ≡ Some (Some r) → FetchedStands f r → FetchedStands g r)
    → BenchStands g (record bench { reads = slice_set bench.reads stripe None })
cleared f g bench stripe b config opened desk batch keeps = record {
  opened = opened.0;
  told = opened.1;
  desk = desk;
  tells = b.tells;
  known = b.known;
  batch = batch;
  sure = b.sure;
  count = length-set bench.reads stripe None ∙ b.count ∙ sym config;
  reads = λ i r is. let l = left_over bench.reads stripe i r is in let h = b.reads i r l.1 in (keeps i r l.0 l.1 h.0, h.1);
  faults = λ i r fault is found. b.faults i r fault (left_over bench.reads stripe i r is).1 found;
  apart = λ i j r q x y differ at to first second. b.apart i j r q x y differ (left_over bench.reads stripe i r at).1 (left_over bench.reads stripe j q to).1 first second;
}

-- where no event is noted
cleared_same : (f g : FrontData) (bench : BenchData) (stripe : ℕ) → BenchStands f bench → g ≡ f → BenchStands g (record bench { reads = slice_set bench.reads stripe None })
cleared_same f g bench stripe b is =
    subst (λ (h : FrontData). BenchStands h (record bench { reads = slice_set bench.reads stripe None })) (sym is) (cleared f f bench stripe b refl (b.opened, b.told) b.desk b.batch (λ i r differ at s. s))

-- a failed read with another number isn't told of
apart_failed : (found : FoundData) (ticket : Ticket) (fault : ℕ) → ((other : ℕ) → found ≡ founds.Failed other → fault ≢ other) → IsApart found (events.ReadFailed ticket fault)
apart_failed (founds.Row doc) ticket fault h = tt
apart_failed founds.Absent ticket fault h = tt
apart_failed (founds.Failed other) ticket fault h = h other refl
apart_failed founds.NoMemory ticket fault h = tt

cleared_failed : (f : FrontData) (bench : BenchData) (stripe fault : ℕ) (fetched : FetchedData) → IsLegal f → IsLegal (with_event f (events.ReadFailed fetched.ticket fault)) → BenchStands f bench
    → slice_get bench.reads stripe ≡ Some (Some fetched) → fetched.found ≡ founds.Failed fault → BenchStands (with_event f (events.ReadFailed fetched.ticket fault)) (record bench { reads = slice_set bench.reads stripe None })
cleared_failed f bench stripe fault fetched legal then b at failed =
    let event = events.ReadFailed fetched.ticket fault in
    let some = b.faults stripe fetched fault at failed in
    let start = started_low f legal in let low = b.desk.low in
    cleared f (with_event f event) bench stripe b refl (known_stays f event (known_of f bench b))
    (desk_tells f fetched.ticket fault bench.desk legal some.0 some.1 b.desk)
    (batch_later f event bench.desk.stored bench.batch (omega arith) refl b.batch)
    (λ i r differ to s. fetched_keeps f event r (may_of f event then)
    (apart_failed r.found fetched.ticket fault (λ other found. b.apart stripe i fetched r fault other (λ e. differ (sym e)) at to failed found)) s)

-- a read is merged, or is stale: it isn't there any more
pub bench_merged : (f g : FrontData) (bench : BenchData) (stripe : ℕ) (fetched : FetchedData) (part left : Option Part) (merging : Merging) → IsLegal f → IsLegal g → BenchStands f bench
    → slice_get bench.reads stripe ≡ Some (Some fetched) → IsMerged f g part left fetched merging → BenchStands g (record bench { reads = slice_set bench.reads stripe None })
bench_merged f g bench stripe fetched part left mergings.Merged legal then b at is = cleared_same f g bench stripe b is.0
bench_merged f g bench stripe fetched part left mergings.Absent legal then b at is = cleared_same f g bench stripe b is.0
bench_merged f g bench stripe fetched part left mergings.Stale legal then b at is = cleared_same f g bench stripe b is.0
bench_merged f g bench stripe fetched part left mergings.Failed legal then b at is =
    subst (λ (h : FrontData). BenchStands h (record bench { reads = slice_set bench.reads stripe None })) (sym is.2)
    (cleared_failed f bench stripe is.0 fetched legal (subst IsLegal is.2 then) b at is.1)
bench_merged f g bench stripe fetched part left mergings.NoMemory legal then b at is = cleared_same f g bench stripe b is.0

empty_holds : (config : Config) (id : ℕ) (content : Option Content) → content ≡ Some empty_content → HoldsIfTelling (record { config = config; id = id; start = Some empty_start; events = events.Opened ∷ [] }) content 0
empty_holds config id None is = tt
empty_holds config id (Some content) is =
    let same : content ≡ empty_content = cc in
    record { docs = λ told. ap (λ (c : Content). c.docs) same; version = ap (λ (c : Content). c.version) same; high = ap (λ (c : Content). c.high) same; maxcas = ap (λ (c : Content). c.maxcas) same }

new_stands : (config : Config) (id : ℕ) (keeper : KeeperData) (reads : List (Option FetchedData)) → keeper.content ≡ Some empty_content → keeper.sure ≡ true → length reads ≡ config.stripes → ((stripe : ℕ) (r : FetchedData) → slice_get reads stripe ≡ Some (Some r) → ⊥)
    → BenchStands (record { config = config; id = id; start = Some empty_start; events = events.Opened ∷ [] }) (record { desk = new_desk keeper; batch = None; reads = reads })
new_stands config id keeper reads holds sure count none = record {
  opened = refl;
  told = refl;
  desk = record {
    low = omega arith;
    top = λ _. omega arith;
    holds = λ _. empty_holds config id keeper.content holds;
    persisted = refl;
    faults = (tt, tt);
    sure = sure;
    tells = λ _ told. subst (λ (o : Option Content). IsSome o) (sym holds) refl;
    both = λ _ told. tt;
  };
  tells = subst (λ (o : Option Content). IsSome o) (sym holds) refl;
  known = refl;
  batch = tt;
  sure = tt;
  count = count;
  reads = λ stripe r is. absurd (none stripe r is);
  faults = λ stripe r fault is found. absurd (none stripe r is);
  apart = λ a b r q x y differ at to first second. absurd (none a r at);
}

-- a desk before an empty store, where a vBucket just opened with nothing and no read was made
pub bench_new : (f : FrontData) (keeper : KeeperData) (reads : List (Option FetchedData)) → f.start ≡ Some empty_start → f.events ≡ events.Opened ∷ [] → keeper.content ≡ Some empty_content → keeper.sure ≡ true → length reads ≡ f.config.stripes
    → ((stripe : ℕ) (r : FetchedData) → slice_get reads stripe ≡ Some (Some r) → ⊥) → BenchStands f (record { desk = new_desk keeper; batch = None; reads = reads })
bench_new f keeper reads start is holds sure count none =
    let bench : BenchData = record { desk = new_desk keeper; batch = None; reads = reads } in
    subst (λ (l : List EventData). BenchStands (record f { events = l }) bench) (sym is)
    (subst (λ (s : Option StartData). BenchStands (record { config = f.config; id = f.id; start = s; events = events.Opened ∷ [] }) bench) (sym start) (new_stands f.config f.id keeper reads holds sure count none))
