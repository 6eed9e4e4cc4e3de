-- What a desk, a batch and a read are to a history, while other events are noted.
use Rattle.std.proofs.Common.{◌≡◌, ◌+◌, ◌<◌, ◌≤◌, ℕ, true, false, inl, inr, List, [], ◌∷◌, ◌++◌, refl, sym, ap, subst, ◌∙◌, arith}
use Rattle.std.specs.Prelude.{Option, Some, None, IsSome, ◌==◌, ◌||◌, ◌&&◌, not}
use Rattle.std.specs.List.{AllByRecursion}
use Rattle.std.specs.Option.{option_map}
use Rattle.std.specs.FinMap.{get}
use Rattle.std.proofs.lemmas.Bool.Decides.{Decides-eqb}
use Rattle.ep_model.specs.Calls.{key_of}
use Rattle.ep_model.specs.declared.config.Eviction.TheVariants.{Value}
use Rattle.ep_model.specs.declared.event.Ticket.{Ticket}
use Rattle.ep_model.specs.declared.data.EventData.{EventData}
use Rattle.ep_model.specs.declared.data.EventData.TheVariants as events
use Rattle.ep_model.specs.declared.data.FrontData.{FrontData}
use Rattle.ep_model.specs.World.{Doc, Docs, World}
use Rattle.ep_model.specs.History.{step, upto}
use Rattle.ep_model.specs.Front.{begun, started, world_of, with_event, with_events}
use Rattle.ep_model.specs.declared.data.StartData.{StartData}
use Rattle.ep_model.specs.Legal.{IsBelow, IsNoFault, HasAsked, May, AreLegal, IsLegal}
use Rattle.hold_stage.specs.Touches.{is_desks}
use Rattle.ep_model.specs.Mutations.{mutation_of, mutations, above, laid_on}
use Rattle.hold_stage.specs.Waits.{is_on, puts_on, is_ask, is_waiting, waits_after, IsFaultWithin, IsAbsent}
use Rattle.hold_stage.proofs.LaterLemmas.{same_told, world_step, all_append, more_events}
use Rattle.hold_stage.proofs.GrowsLemmas.{nothing_more}
use Rattle.hold_stage.proofs.LegalLemmas.{has_more, one_asker}
use Rattle.hold_stage.proofs.BoundLemmas.{legal_bounds, all_in, waiting_step}
use Rattle.hold_stage.proofs.MutationLemmas.{upto_append}
use Rattle.hold_stage.proofs.StoredLemmas.{upto_last, doc_upto}
use Rattle.kv_keeper.specs.declared.data.BatchData.{BatchData}
use Rattle.kv_keeper.specs.declared.data.DeskData.{DeskData}
use Rattle.kv_keeper.specs.Content.{Content, KeeperData}
use Rattle.kv_keeper.specs.Desk.{after_failed_read}
use Rattle.kv_keeper.specs.Kept.{IsDoubtful, all_committed, failed_keeper}
use Rattle.kv_keeper.specs.declared.keeper.StoreState.{StoreState}
use Rattle.ep_drill.specs.StoreSide.{state_for, whole}
use Rattle.kv_keeper.specs.Batch.{laid}
use Rattle.flat_parts.specs.declared.data.QueueData.{QueueData}
use Rattle.hold_stage.proofs.DeskLemmas.{persisted_same}
use Rattle.hold_stage.proofs.RisesLemmas.{high_rises}
use Rattle.ep_drill.specs.declared.data.FetchedData.{FetchedData}
use Rattle.ep_drill.specs.declared.data.FoundData.{FoundData}
use Rattle.ep_drill.specs.declared.data.FoundData.TheVariants as founds
use Rattle.hold_stage.specs.Numbers.{numbers_of}
use Rattle.hold_stage.proofs.NumbersLemmas.{laid_alike}
use Rattle.ep_drill.specs.Stands.{QueueStands, HoldsAt, HoldsIfTelling, ContentStands, DeskStands, BatchStands, FoundStands, FetchedStands}
use Rattle.hold_stage.proofs.WaitLemmas.{and_left, and_right, not_true, docs_apart, waiting_asked, waiting_low}
use Rattle.hold_stage.proofs.HistoryLemmas.{batch_law}

none_put : (start : Option StartData) → start ≡ None → IsSome start → ⊥
none_put None is h = cc
none_put (Some s) is h = cc

-- without a start a vBucket doesn't open
stays_shut : (f : FrontData) (event : EventData) → f.start ≡ None → (world_of f).opened ≡ false → May f event → (world_of (with_event f event)).opened ≡ false
unfolding May
stays_shut f (events.Called caller call now reply value) bare shut may = absurd (let h = may.opened in cc)
stays_shut f (events.Refused caller call now cause) bare shut may = ap (λ (w : World). w.opened) (world_step f (events.Refused caller call now cause)) ∙ shut
stays_shut f (events.Expired key now) bare shut may = absurd (let h = may.serving.opened in cc)
stays_shut f (events.Persisted number) bare shut may = absurd (let h = may.opened in cc)
stays_shut f (events.Marked stripe number) bare shut may = absurd (let h = may.opened in cc)
stays_shut f (events.Asked ticket caller call) bare shut may = absurd (let h = may.serving.opened in cc)
stays_shut f (events.ReadFailed ticket fault) bare shut may = ap (λ (w : World). w.opened) (world_step f (events.ReadFailed ticket fault)) ∙ shut
stays_shut f events.Opened bare shut may = absurd (none_put f.start bare may.put)

shut_along : (f : FrontData) (list : List EventData) → f.start ≡ None → (world_of f).opened ≡ false → AreLegal f list → (world_of (with_events f list)).opened ≡ false
unfolding AreLegal
shut_along f [] bare shut legal = ap (λ (g : FrontData). (world_of g).opened) (nothing_more f) ∙ shut
shut_along f (event ∷ list) bare shut legal =
    ap (λ (g : FrontData). (world_of g).opened) (sym (more_events f event list)) ∙ shut_along (with_event f event) list bare (stays_shut f event bare shut legal.0) legal.1

-- a vBucket that has opened has a start
pub has_start : (f : FrontData) → IsLegal f → (world_of f).opened ≡ true → IsSome f.start
unfolding IsLegal
has_start f legal opened = elim f.start as (λ s. f.start ≡ s → IsSome s) [
  | None ↦ λ bare. absurd (let h : (world_of f).opened ≡ false = shut_along (record f { events = [] }) f.events bare refl legal in let t = sym h ∙ opened in cc)
  | Some s ↦ λ is. refl
] refl

-- a store that tells goes on telling through a commit
pub tells_whole : (content : Option Content) (batch : BatchData) (state : StoreState) → IsSome content → IsSome (all_committed content batch state)
tells_whole None batch state h = absurd (cc)
tells_whole (Some content) batch state h = refl

pub tells_on : (old now : KeeperData) (batch : BatchData) → IsSome old.content → IsDoubtful old (whole old batch) now → IsSome now.content
tells_on old now batch h doubtful = elim doubtful.which [
  | inl x ↦ subst (λ (o : Option Content). IsSome o) (sym x.0) h
  | inr y ↦ subst (λ (o : Option Content). IsSome o) (sym y.0) (tells_whole old.content batch (state_for batch) h)
]

-- and so does the other of two that may be the true one
pub tells_both : (old now : KeeperData) (batch : BatchData) → IsSome old.content → IsDoubtful old (whole old batch) now → IsSome now.second
tells_both old now batch h doubtful = elim doubtful.which [
  | inl x ↦ subst (λ (o : Option Content). IsSome o) (sym x.1) (tells_whole old.content batch (state_for batch) h)
  | inr y ↦ subst (λ (o : Option Content). IsSome o) (sym y.1) h
]

-- what was there at a number of a front is there at it later
pub upto_step : (f : FrontData) (event : EventData) (number : ℕ) → (started f.start).high ≤ number → number ≤ (world_of f).high → upto (begun f) (with_event f event).events number ≡ upto (begun f) f.events number
upto_step f event number low top = upto_append (begun f) f.events (event ∷ []) number low top

within_same : (faults : ℕ) (event : EventData) → is_desks event ≡ false → IsFaultWithin faults event
unfolding is_desks
within_same faults (events.Called caller call now reply value) test = tt
within_same faults (events.Refused caller call now cause) test = tt
within_same faults (events.Expired key now) test = tt
within_same faults (events.Persisted number) test = tt
within_same faults (events.Marked stripe number) test = tt
within_same faults (events.Asked ticket caller call) test = tt
within_same faults (events.ReadFailed ticket fault) test = absurd (cc)
within_same faults events.Opened test = tt

pub no_fault_same : (fault : ℕ) (event : EventData) → is_desks event ≡ false → IsNoFault fault event
unfolding is_desks
no_fault_same fault (events.Called caller call now reply value) test = tt
no_fault_same fault (events.Refused caller call now cause) test = tt
no_fault_same fault (events.Expired key now) test = tt
no_fault_same fault (events.Persisted number) test = tt
no_fault_same fault (events.Marked stripe number) test = tt
no_fault_same fault (events.Asked ticket caller call) test = tt
no_fault_same fault (events.ReadFailed ticket other) test = absurd (cc)
no_fault_same fault events.Opened test = tt

holds_later : (f : FrontData) (event : EventData) (content : Content) (number : ℕ) → (started f.start).high ≤ number → number ≤ (world_of f).high → HoldsAt f content number → HoldsAt (with_event f event) content number
holds_later f event content number low top h =
    let same = upto_step f event number low top in
    record { docs = λ told. h.docs (sym (same_told f event) ∙ told) ∙ ap (λ (w : World). w.docs) (sym same); version = h.version; high = h.high; maxcas = h.maxcas ∙ ap (λ (w : World). w.maxcas) (sym same) }

telling_later : (f : FrontData) (event : EventData) (content : Option Content) (number : ℕ) → (started f.start).high ≤ number → number ≤ (world_of f).high → HoldsIfTelling f content number → HoldsIfTelling (with_event f event) content number
telling_later f event None number low top h = tt
telling_later f event (Some content) number low top h = holds_later f event content number low top h

content_later : (f : FrontData) (event : EventData) (keeper : KeeperData) (stored : ℕ) (doubt : Option ℕ) → (started f.start).high ≤ stored → stored ≤ (world_of f).high → ContentStands f keeper stored doubt → ContentStands (with_event f event) keeper stored doubt
content_later f event keeper stored None low top h = telling_later f event keeper.content stored low top h
content_later f event keeper stored (Some doubt) low top h =
    let more = high_rises f event in let a = h.0 in let b = h.1 in
    let up : (started f.start).high ≤ doubt = omega arith in (
      a,
      omega arith,
      elim h.2 [
        | inl x ↦ inl (telling_later f event keeper.content stored low top x.0, telling_later f event keeper.second doubt up b x.1)
        | inr y ↦ inr (telling_later f event keeper.content doubt up b y.0, telling_later f event keeper.second stored low top y.1)
      ],
    )

-- a desk goes on standing while others note what isn't the desk's
pub desk_keeps_standing : (f : FrontData) (event : EventData) (desk : DeskData) → IsLegal f → is_desks event ≡ false → DeskStands f desk → DeskStands (with_event f event) desk
desk_keeps_standing f event desk legal test d =
    let p = ap (λ (w : World). w.persisted) (world_step f event) ∙ persisted_same (world_of f) event test in
    let b = legal_bounds f legal in
    let low = d.low in let start = b.start in
    record {
      low = omega arith;
      top = λ put. let h = high_rises f event in let t = d.top put in omega arith;
      holds = λ put. content_later f event desk.keeper desk.stored desk.doubt (omega arith) (d.top put) (d.holds put);
      persisted = d.persisted ∙ sym p;
      faults = all_append (IsFaultWithin desk.read_faults) f.events (event ∷ []) d.faults (within_same desk.read_faults event test, tt);
      sure = d.sure;
      tells = λ put told. d.tells put (sym (same_told f event) ∙ told);
      both = λ put told. d.both put (sym (same_told f event) ∙ told);
    }

-- more faults than were told are enough
within_more : (a b : ℕ) (event : EventData) → a ≤ b → IsFaultWithin a event → IsFaultWithin b event
within_more a b (events.Called caller call now reply value) le h = tt
within_more a b (events.Refused caller call now cause) le h = tt
within_more a b (events.Expired key now) le h = tt
within_more a b (events.Persisted number) le h = tt
within_more a b (events.Marked stripe number) le h = tt
within_more a b (events.Asked ticket caller call) le h = tt
within_more a b (events.ReadFailed ticket fault) le h = (h.0, (let x = h.1 in omega arith))
within_more a b events.Opened le h = tt

pub all_within_more : (a b : ℕ) (list : List EventData) → a ≤ b → AllByRecursion (IsFaultWithin a) list → AllByRecursion (IsFaultWithin b) list
all_within_more a b [] le h = tt
all_within_more a b (event ∷ list) le h = (within_more a b event le h.0, all_within_more a b list le h.1)

faults_hold : (f : FrontData) (keeper : KeeperData) (stored : ℕ) (doubt : Option ℕ) → ContentStands f keeper stored doubt → ContentStands f (failed_keeper keeper) stored doubt
faults_hold f keeper stored None h = h
faults_hold f keeper stored (Some doubt) h = h

-- a desk of which one more read failed stands
pub more_faults : (f : FrontData) (desk : DeskData) → DeskStands f desk → DeskStands f (after_failed_read desk)
more_faults f desk d = record {
  low = d.low;
  top = d.top;
  holds = λ put. faults_hold f desk.keeper desk.stored desk.doubt (d.holds put);
  persisted = d.persisted;
  faults = all_within_more desk.read_faults (desk.read_faults + 1) f.events (omega arith) d.faults;
  sure = d.sure;
  tells = d.tells;
  both = d.both;
}

-- the desk tells of a failed read
pub desk_tells : (f : FrontData) (ticket : Ticket) (fault : ℕ) (desk : DeskData) → IsLegal f → 1 ≤ fault → fault ≤ desk.read_faults → DeskStands f desk → DeskStands (with_event f (events.ReadFailed ticket fault)) desk
desk_tells f ticket fault desk legal some within d =
    let event = events.ReadFailed ticket fault in
    let p = ap (λ (w : World). w.persisted) (world_step f event) in
    let b = legal_bounds f legal in
    let low = d.low in let start = b.start in
    record {
      low = omega arith;
      top = λ put. let h = high_rises f event in let t = d.top put in omega arith;
      holds = λ put. content_later f event desk.keeper desk.stored desk.doubt (omega arith) (d.top put) (d.holds put);
      persisted = d.persisted ∙ sym p;
      faults = all_append (IsFaultWithin desk.read_faults) f.events (event ∷ []) d.faults ((some, within), tt);
      sure = d.sure;
      tells = λ put told. d.tells put (sym (same_told f event) ∙ told);
      both = λ put told. d.both put (sym (same_told f event) ∙ told);
    }

-- so does a batch, over the same store, where the event leaves what is persisted
pub batch_keeps : (f : FrontData) (event : EventData) (stored : ℕ) (batch : BatchData) → (started f.start).high ≤ stored → (step (world_of f) event).persisted ≡ (world_of f).persisted → BatchStands f stored batch → BatchStands (with_event f event) stored batch
batch_keeps f event stored batch start same b =
    let low = b.low in let top = b.top in
    let p = ap (λ (w : World). w.persisted) (world_step f event) ∙ same in
    let at = upto_step f event stored start (omega arith) in
    let to = upto_step f event batch.to (omega arith) top in
    record {
      above = let more = b.above in omega arith;
      low = low;
      top = let h = high_rises f event in omega arith;
      numbers = λ key. ap (λ (w : World). option_map numbers_of (get (laid batch.rows w.docs) key)) at ∙ b.numbers key ∙ ap (λ (w : World). option_map numbers_of (get w.docs key)) (sym to);
      docs = λ told. ap (λ (w : World). laid batch.rows w.docs) at ∙ b.docs (sym (same_told f event) ∙ told) ∙ ap (λ (w : World). w.docs) (sym to);
      maxcas = b.maxcas ∙ ap (λ (w : World). w.maxcas) (sym to);
    }

-- a ticket isn't asked again
not_again : (f : FrontData) (ticket : Ticket) (key : List ℕ) (event : EventData) → HasAsked f.events ticket → May f event → is_ask ticket key event ≡ true → ⊥
unfolding May
not_again f ticket key (events.Called caller call now reply value) asked may is = cc
not_again f ticket key (events.Refused caller call now cause) asked may is = cc
not_again f ticket key (events.Expired other now) asked may is = cc
not_again f ticket key (events.Persisted number) asked may is = cc
not_again f ticket key (events.Marked stripe number) asked may is = cc
not_again f ticket key (events.Asked other caller call) asked may is =
    let tests = and_left (other.stripe == ticket.stripe && other.number == ticket.number) (is_on key (key_of call)) is in
    let same_stripe : other.stripe ≡ ticket.stripe = (Decides-eqb other.stripe ticket.stripe).0 (and_left (other.stripe == ticket.stripe) (other.number == ticket.number) tests) in
    let same_number : other.number ≡ ticket.number = (Decides-eqb other.number ticket.number).0 (and_right (other.stripe == ticket.stripe) (other.number == ticket.number) tests) in
    let below : ticket.number < other.number = all_in (IsBelow other) f.events asked.before asked.later (events.Asked ticket asked.caller asked.call) asked.asked may.above (sym same_stripe) in
    absurd (omega arith)
not_again f ticket key (events.ReadFailed other fault) asked may is = cc
not_again f ticket key events.Opened asked may is = cc

-- who waits behind an event waited before, and the event left its document
waited : (f : FrontData) (ticket : Ticket) (key : List ℕ) (event : EventData) → HasAsked f.events ticket → May f event → is_waiting (with_event f event) ticket key ≡ true
    → (is_waiting f ticket key ≡ true) × (get (world_of (with_event f event)).docs key ≡ get (world_of f).docs key)
waited f ticket key event asked may is =
    let now : waits_after ticket key (is_waiting f ticket key) (world_of f) event ≡ true = sym (waiting_step f ticket key event) ∙ is in
    elim (is_ask ticket key event) as (λ b. is_ask ticket key event ≡ b → (b || (is_waiting f ticket key && not (puts_on key (mutation_of (world_of f) event)))) ≡ true → (is_waiting f ticket key ≡ true) × (get (world_of (with_event f event)).docs key ≡ get (world_of f).docs key)) [
      | true ↦ λ asks _. absurd (not_again f ticket key event asked may asks)
      | false ↦ λ _ both. (
        and_left (is_waiting f ticket key) _ both,
        docs_apart f event key (not_true _ (and_right (is_waiting f ticket key) (not (puts_on key (mutation_of (world_of f) event))) both)),
      )
    ] refl now

-- the event tells of no failed read that this one has still to tell
abbrev pub IsApart : FoundData → EventData → Type 0
IsApart (founds.Row doc) event = Unit {0}
IsApart founds.Absent event = Unit {0}
IsApart (founds.Failed fault) event = IsNoFault fault event
IsApart founds.NoMemory event = Unit {0}

found_keeps : (f : FrontData) (event : EventData) (ticket : Ticket) (found : FoundData) → HasAsked f.events ticket → May f event → IsApart found event → FoundStands f ticket found → FoundStands (with_event f event) ticket found
found_keeps f event ticket (founds.Row doc) asked may apart h = λ told key is. let w = waited f ticket key event asked may is in w.1 ∙ h (sym (same_told f event) ∙ told) key w.0
found_keeps f event ticket founds.Absent asked may apart h = λ told key is. let w = waited f ticket key event asked may is in subst IsAbsent (sym w.1) (h (sym (same_told f event) ∙ told) key w.0)
found_keeps f event ticket (founds.Failed fault) asked may apart h = all_append (IsNoFault fault) f.events (event ∷ []) h (apart, tt)
found_keeps f event ticket founds.NoMemory asked may apart h = tt

pub fetched_keeps : (f : FrontData) (event : EventData) (fetched : FetchedData) → May f event → IsApart fetched.found event → FetchedStands f fetched → FetchedStands (with_event f event) fetched
fetched_keeps f event fetched may apart r = record {
  asked = record { before = r.asked.before; later = r.asked.later ++ event ∷ []; caller = r.asked.caller; call = r.asked.call; asked = has_more f.events r.asked.before r.asked.later (events.Asked fetched.ticket r.asked.caller r.asked.call) event r.asked.asked };
  keyed = r.keyed;
  found = found_keeps f event fetched.ticket fetched.found r.asked may apart r.found;
}

-- at a ticket one key waits
pub one_key : (f : FrontData) (ticket : Ticket) (a b : List ℕ) → IsLegal f → is_waiting f ticket a ≡ true → is_waiting f ticket b ≡ true → a ≡ b
one_key f ticket a b legal p q =
    let x = waiting_asked f ticket a p in
    let y = waiting_asked f ticket b q in
    let calls = (one_asker f ticket x.asked.caller y.asked.caller x.asked.call y.asked.call x.asked.before y.asked.before x.asked.later y.asked.later legal x.asked.asked y.asked.asked).1 in
    let keys : Some a ≡ Some b = sym x.keyed ∙ ap key_of calls ∙ y.keyed in
    cc

-- what a store that isn't in doubt holds, where it tells that
sure_holds : (f : FrontData) (keeper : KeeperData) (content : Content) (stored : ℕ) (doubt : Option ℕ) → doubt ≡ None → keeper.content ≡ Some content → ContentStands f keeper stored doubt → HoldsAt f content stored
sure_holds f keeper content stored doubt sure told h =
    let here : ContentStands f keeper stored None = subst (λ (o : Option ℕ). ContentStands f keeper stored o) sure h in
    subst (λ (o : Option Content). HoldsIfTelling f o stored) told here

-- what the store holds of a key that waits is its document
pub waiting_stored : (f : FrontData) (ticket : Ticket) (key : List ℕ) (desk : DeskData) (content : Content) → IsLegal f → f.config.eviction ≡ Value → desk.doubt ≡ None → desk.keeper.content ≡ Some content → DeskStands f desk → IsSome f.start → (world_of f).told ≡ true → is_waiting f ticket key ≡ true
    → (doc : Doc) × (get content.docs key ≡ Some doc) × (get (world_of f).docs key ≡ Some doc) × (doc.deleted ≡ false)
waiting_stored f ticket key desk content legal eviction sure holds d put told is =
    let l = waiting_low f ticket key told legal eviction is in
    let b = legal_bounds f legal in
    let m = b.marked ticket.stripe in let low = l.low in let s = d.low in
    (l.doc, ap (λ (docs : Docs). get docs key) ((sure_holds f desk.keeper content desk.stored desk.doubt sure holds (d.holds put)).docs told) ∙ doc_upto (begun f) f.events desk.stored key l.doc l.found (omega arith), l.found, l.stays)

-- What is to be stored makes a batch that stands.
pub batch_taken : (f : FrontData) (q : QueueData) (batch : BatchData) (stored : ℕ) → IsLegal f → QueueStands f q → (world_of f).persisted ≤ stored → stored ≤ (world_of f).high → (world_of f).persisted < q.high → batch.to ≡ q.high → batch.maxcas ≡ q.maxcas
    → ((docs : Docs) → laid batch.rows docs ≡ laid_on docs q.items) → BatchStands f stored batch
batch_taken f q batch stored legal s low top more to maxcas laid-is =
    let b = legal_bounds f legal in
    let start = b.start in let within = b.stored in
    let last = upto_last (begun f) f.events in
    let at : batch.to ≡ (world_of f).high = to ∙ s.high in
    let known = (upto (begun f) f.events stored).docs in
    let puts = above (world_of f).persisted (mutations (begun f) f.events) in
    let all : laid_on known puts ≡ (upto (begun f) f.events batch.to).docs =
    batch_law f (world_of f).persisted stored puts (record { low = start; top = within }) low top (λ key. refl)
    ∙ last.docs ∙ ap (λ n. (upto (begun f) f.events n).docs) (sym at) in
    record {
      above = let e = to in omega arith;
      low = let e = to in omega arith;
      top = omega arith;
      numbers = λ key.
          ap (λ (d : Docs). option_map numbers_of (get d key)) (laid-is known)
          ∙ laid_alike q.items puts known known s.numbers (λ k. refl) key
          ∙ ap (λ (d : Docs). option_map numbers_of (get d key)) all;
      docs = λ told. laid-is known ∙ ap (λ (l : List (List ℕ × Doc)). laid_on known l) (s.items told) ∙ all;
      maxcas = maxcas ∙ s.maxcas ∙ last.maxcas ∙ ap (λ n. (upto (begun f) f.events n).maxcas) (sym at);
    }

-- the key of a read is that of whoever waits at its ticket
pub fetched_key : (f : FrontData) (fetched : FetchedData) (key : List ℕ) → IsLegal f → FetchedStands f fetched → is_waiting f fetched.ticket key ≡ true → key ≡ fetched.key
fetched_key f fetched key legal r is =
    let x = waiting_asked f fetched.ticket key is in
    let calls = (one_asker f fetched.ticket x.asked.caller r.asked.caller x.asked.call r.asked.call x.asked.before r.asked.before x.asked.later r.asked.later legal x.asked.asked r.asked.asked).1 in
    let keys : Some key ≡ Some fetched.key = sym x.keyed ∙ ap key_of calls ∙ r.keyed in
    cc

-- whoever waits at a ticket asked there
pub fetched_any : (f : FrontData) (ticket : Ticket) (key : List ℕ) (fetched : FetchedData) → is_waiting f ticket key ≡ true → fetched.ticket ≡ ticket → fetched.key ≡ key
    → FoundStands f fetched.ticket fetched.found → FetchedStands f fetched
fetched_any f ticket key fetched is t k found =
    let l = waiting_asked f ticket key is in
    let a = l.asked in
    record {
      asked = record { before = a.before; later = a.later; caller = a.caller; call = a.call; asked = a.asked ∙ ap (λ (x : Ticket). a.before ++ events.Asked x a.caller a.call ∷ a.later) (sym t) };
      keyed = l.keyed ∙ ap Some (sym k);
      found = found;
    }

-- a read of the store for whoever waits at a ticket stands
pub fetched_row : (f : FrontData) (ticket : Ticket) (key : List ℕ) (doc : Doc) (fetched : FetchedData) → IsLegal f → is_waiting f ticket key ≡ true → ((world_of f).told ≡ true → get (world_of f).docs key ≡ Some doc)
    → fetched.ticket ≡ ticket → fetched.key ≡ key → fetched.found ≡ founds.Row doc → FetchedStands f fetched
fetched_row f ticket key doc fetched legal is found t k r =
    fetched_any f ticket key fetched is t k
    (subst (λ (o : FoundData). FoundStands f fetched.ticket o) (sym r) (λ told other waits.
    ap (λ (l : List ℕ). get (world_of f).docs l) (one_key f ticket other key legal (subst (λ (x : Ticket). is_waiting f x other ≡ true) t waits) is) ∙ found told))
