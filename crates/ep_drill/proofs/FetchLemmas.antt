-- What a read of the store is to a history, and how it ends.
use Rattle.std.proofs.Common.{◌≡◌, ◌<◌, ℕ, Bool, true, false, cond, inl, inr, List, [], ◌∷◌, length, refl, sym, ap, subst, ◌∙◌, arith}
use Rattle.std.specs.Prelude.{Option, Some, None, IsSome, ◌==◌, ◌||◌, not, Vec}
use Rattle.std.specs.Option.{is_some}
use Rattle.std.specs.List.{AllByRecursion}
use Rattle.std.specs.FinMap.{get}
use Rattle.std.specs.declared.alloc.Global.{Global}
use Rattle.std.proofs.lemmas.Bool.Decides.{Decides-eqb}
use Rattle.std.proofs.lemmas.Slice.Eq.{bytes_eq-Decides}
use Rattle.ep_model.specs.declared.call.Meta.{Meta}
use Rattle.ep_model.specs.declared.config.Eviction.TheVariants.{Value}
use Rattle.ep_model.specs.declared.event.PartName.{PartName}
use Rattle.ep_model.specs.declared.event.PartName.TheVariants.{Stripe, Queue, Desk}
use Rattle.ep_model.specs.declared.event.Ticket.{Ticket}
use Rattle.ep_model.specs.declared.data.EventData.{EventData}
use Rattle.ep_model.specs.declared.data.EventData.TheVariants as events
use Rattle.ep_model.specs.declared.data.FrontData.{FrontData}
use Rattle.ep_model.specs.World.{Doc, World, meta_of, doc_from}
use Rattle.ep_model.specs.Stripes.{stripe_of}
use Rattle.ep_model.specs.Front.{world_of, with_event, marked}
use Rattle.ep_model.specs.Legal.{IsNoFault, May, IsLegal}
use Rattle.hold_stage.specs.Touches.{there, same_part, touches, is_call, is_of, is_desks}
use Rattle.hold_stage.specs.Grows.{Same, and_this, Covered, IsOwn}
use Rattle.hold_stage.specs.Waits.{is_waiting, IsFaultWithin}
use Rattle.hold_stage.proofs.LaterLemmas.{world_step}
use Rattle.kv_keeper.specs.declared.data.DeskData.{DeskData}
use Rattle.kv_keeper.specs.Content.{Content}
use Rattle.flat_parts.specs.declared.data.NodeData.{NodeData}
use Rattle.flat_parts.specs.declared.data.Outcome.{Outcome}
use Rattle.flat_parts.specs.declared.data.Outcome.TheVariants as outcomes
use Rattle.flat_parts.specs.declared.data.PlaceData.{PlaceData}
use Rattle.flat_parts.specs.declared.data.StripeData.{StripeData}
use Rattle.ep_drill.specs.declared.data.FetchedData.{FetchedData}
use Rattle.ep_drill.specs.declared.data.FoundData.{FoundData}
use Rattle.ep_drill.specs.declared.data.FoundData.TheVariants as founds
use Rattle.ep_drill.specs.declared.part.Part.{Part}
use Rattle.ep_drill.specs.declared.part.Part.TheVariants as parts
use Rattle.flat_parts.specs.Nodes.{node_of, node_at, outcome_at, settled, is_waiting_outcome, first_waiting}
use Rattle.ep_drill.specs.Stands.{MayBeGone, OutcomeStands, ticket_of, PlaceStands, StripeStands, DeskStands, FoundStands, FetchedStands}
use Rattle.ep_drill.specs.Parts.{Becomes}
use Rattle.ep_drill.specs.Fetches.{settles, put_back_value, put_back_node, put_back_found, IsOldest, IsFoundIn, Reads, IsBack, TicketHasPlace, HasOutcome, HasValue}
use Rattle.ep_drill.proofs.AskLemmas.{place_at, ticket_is}
use Rattle.hold_stage.proofs.WaitLemmas.{waiting_low}
use Rattle.ep_drill.proofs.StoreLemmas.{waiting_stored, fetched_key, fetched_any, fetched_row, has_start}
use Rattle.ep_drill.proofs.PartLemmas.{settled_stands, may_fail, failed_stands, restored_stands}
use Rattle.ep_drill.proofs.SetLemmas.{node_at_put}

abbrev fetched_of : Ticket → List ℕ → FoundData → FetchedData
fetched_of ticket key found = record { ticket = ticket; key = key; found = found }

-- what is known of all places is known of the first that waits
first_at : (P : PlaceData → Type 0) (places : List PlaceData) (place : PlaceData) → first_waiting places ≡ Some place → AllByRecursion P places → P place
first_at P [] place is all = absurd (cc)
first_at P (first ∷ places) place is all =
    elim (is_waiting_outcome first.outcome) as (λ b. cond b (Some first) (first_waiting places) ≡ Some place → P place) [
      | true ↦ λ e. subst P (let h : first ≡ place = cc in h) all.0
      | false ↦ λ e. first_at P places place e all.1
    ] is

oldest_is : (first : Option PlaceData) (number : ℕ) (key room : Vec ℕ Global) → IsOldest first (Some (number, key, room)) → (place : PlaceData) × (first ≡ Some place) × (number ≡ place.number) × (key.items ≡ place.key)
oldest_is None number key room h = absurd h
oldest_is (Some place) number key room h = (place, refl, h.0, h.1)

opens : (b : Bool) → (b ≡ false → ⊥) → b ≡ true
opens true h = refl
opens false h = absurd (h refl)

no_oldest : (first : Option PlaceData) (number : ℕ) (key room : Vec ℕ Global) → first ≡ None → IsOldest first (Some (number, key, room)) → ⊥
no_oldest None number key room is h = h
no_oldest (Some place) number key room is h = cc

-- whoever waits longest waits at its place's ticket
oldest_waits : (f : FrontData) (stripe : ℕ) (x : StripeData) (number : ℕ) (key room : Vec ℕ Global) → StripeStands f stripe x → IsOldest (first_waiting x.places) (Some (number, key, room)) → is_waiting f (ticket_of stripe number) key.items ≡ true
oldest_waits f stripe x number key room s oldest =
    let o = oldest_is (first_waiting x.places) number key room oldest in
    let p = first_at (PlaceStands f stripe) x.places o.0 o.1 s.places in
    ap (λ n. is_waiting f (ticket_of stripe n) key.items) o.2 ∙ ap (λ (k : List ℕ). is_waiting f (ticket_of stripe o.0.number) k) o.3 ∙ p.waiting

-- a fault above those that were told is told by no event
fresh_fault : (faults fault : ℕ) (event : EventData) → faults < fault → IsFaultWithin faults event → IsNoFault fault event
fresh_fault faults fault (events.Called caller call now reply value) more h = tt
fresh_fault faults fault (events.Refused caller call now cause) more h = tt
fresh_fault faults fault (events.Expired key now) more h = tt
fresh_fault faults fault (events.Persisted number) more h = tt
fresh_fault faults fault (events.Marked stripe number) more h = tt
fresh_fault faults fault (events.Asked ticket caller call) more h = tt
fresh_fault faults fault (events.ReadFailed ticket other) more h = λ is. let le = h.1 in omega arith
fresh_fault faults fault events.Opened more h = tt

fresh_faults : (faults fault : ℕ) (list : List EventData) → faults < fault → AllByRecursion (IsFaultWithin faults) list → AllByRecursion (IsNoFault fault) list
fresh_faults faults fault [] more h = tt
fresh_faults faults fault (event ∷ list) more h = (fresh_fault faults fault event more h.0, fresh_faults faults fault list more h.1)

-- a store that tells holds something
pub telling_content : (content : Option Content) → IsSome content → (c : Content) × (content ≡ Some c)
telling_content None h = absurd (cc)
telling_content (Some c) h = (c, refl)

-- what a store holds of a key is what was found, where it tells what it holds
abbrev IsFoundAt : DeskData → List ℕ → FoundData → Type 0
IsFoundAt desk key found = (c : Content) → desk.keeper.content ≡ Some c → IsFoundIn c key found

-- what was found at a sure desk stands for whoever waits at a ticket
found_stands : (f : FrontData) (ticket : Ticket) (key : List ℕ) (desk now : DeskData) (found : FoundData) → IsLegal f → f.config.eviction ≡ Value → desk.doubt ≡ None → DeskStands f desk → IsSome f.start
    → is_waiting f ticket key ≡ true → IsFoundAt desk key found → Reads desk now found → FetchedStands f (fetched_of ticket key found)
found_stands f ticket key desk now (founds.Row doc) legal eviction sure d put waits is reads =
    fetched_row f ticket key doc (fetched_of ticket key (founds.Row doc)) legal waits
    (λ told.
    let holds = telling_content desk.keeper.content (d.tells put told) in
    let w = waiting_stored f ticket key desk holds.0 legal eviction sure holds.1 d put told waits in
    let same : w.0 ≡ doc = (let e = sym w.1 ∙ is holds.0 holds.1 in cc) in
    w.2 ∙ ap Some same)
    refl refl refl
found_stands f ticket key desk now founds.Absent legal eviction sure d put waits is reads =
    fetched_any f ticket key (fetched_of ticket key founds.Absent) waits refl refl
    (λ told.
    let holds = telling_content desk.keeper.content (d.tells put told) in
    let w = waiting_stored f ticket key desk holds.0 legal eviction sure holds.1 d put told waits in
    absurd (let e = sym w.1 ∙ is holds.0 holds.1 in cc))
found_stands f ticket key desk now (founds.Failed fault) legal eviction sure d put waits is reads =
    fetched_any f ticket key (fetched_of ticket key (founds.Failed fault)) waits refl refl (fresh_faults desk.read_faults fault f.events (let n = reads.0 in omega arith) d.faults)
found_stands f ticket key desk now founds.NoMemory legal eviction sure d put waits is reads =
    fetched_any f ticket key (fetched_of ticket key founds.NoMemory) waits refl refl tt

-- A read for whoever waits longest in a stripe stands.
pub read_at : (f₀ f : FrontData) (stripe : ℕ) (x : StripeData) (number : ℕ) (key room : Vec ℕ Global) (desk now : DeskData) (found : FoundData) → f ≡ f₀ → IsLegal f → f₀.config.eviction ≡ Value → StripeStands f stripe x
    → desk.doubt ≡ None → DeskStands f₀ desk → IsOldest (first_waiting x.places) (Some (number, key, room)) → ((c : Content) → desk.keeper.content ≡ Some c → IsFoundIn c key.items found) → Reads desk now found
    → FetchedStands f₀ (fetched_of (ticket_of stripe number) key.items found)
read_at f₀ f stripe x number key room desk now found front legal eviction s sure d oldest is reads =
    let there : IsLegal f₀ = subst IsLegal front legal in
    let here : StripeStands f₀ stripe x = subst (λ (g : FrontData). StripeStands g stripe x) front s in
    let opened : (world_of f₀).opened ≡ true = opens (world_of f₀).opened (λ shut. no_oldest (first_waiting x.places) number key room (ap (λ (l : List PlaceData). first_waiting l) (here.closed shut)) oldest) in
    found_stands f₀ (ticket_of stripe number) key.items desk now found there eviction sure d (has_start f₀ there opened)
    (oldest_waits f₀ stripe x number key room here oldest) is reads

-- a place that isn't missing is one
some_outcome : (o : Option Outcome) → (o ≡ None → ⊥) → (outcome : Outcome) × (o ≡ Some outcome)
some_outcome None has = absurd (has refl)
some_outcome (Some outcome) has = (outcome, refl)

-- a place that a test found stands
pub has_place : (o : Option Outcome) (none : Bool) (places : List PlaceData) (number : ℕ) → o ≡ outcome_at places number → is_some o ≡ not none → none ≡ false → outcome_at places number ≡ None → ⊥
has_place o none places number is test stands gone =
    let e = ap (λ (p : Option Outcome). is_some p) (sym (is ∙ gone)) ∙ test ∙ ap not stands in cc

-- A read is settled at a ticket that somebody waits at.
module _ (f : FrontData) (ticket : Ticket) (key : List ℕ) (found : FoundData) (x : StripeData) (legal : IsLegal f) (value-eviction : f.config.eviction ≡ Value) (r : FetchedStands f (fetched_of ticket key found)) (s : StripeStands f ticket.stripe x) where
  -- whoever waits at the ticket waits for the key
  place_waits : (place : PlaceData) → place.number ≡ ticket.number → PlaceStands f ticket.stripe place → is_waiting f ticket place.key ≡ true
  place_waits place is p = subst (λ (t : Ticket). is_waiting f t place.key ≡ true) (ticket_is ticket.stripe place.number ticket refl is) p.waiting

  place_key : (place : PlaceData) → place.number ≡ ticket.number → PlaceStands f ticket.stripe place → place.key ≡ key
  place_key place is p = fetched_key f (fetched_of ticket key found) place.key legal r (place_waits place is p)

  key_waits : (outcome_at x.places ticket.number ≡ None → ⊥) → (is_waiting f ticket key ≡ true) × (stripe_of key f.config.stripes ≡ ticket.stripe)
  key_waits has =
      let o = some_outcome (outcome_at x.places ticket.number) has in
      let p = place_at (PlaceStands f ticket.stripe) x.places ticket.number o.0 o.1 s.places in
      let k = place_key p.0 p.1 p.3 in
      (subst (λ (l : List ℕ). is_waiting f ticket l ≡ true) k (place_waits p.0 p.1 p.3), subst (λ (l : List ℕ). stripe_of l f.config.stripes ≡ ticket.stripe) k p.3.here)

  is_opened : (outcome_at x.places ticket.number ≡ None → ⊥) → (world_of f).opened ≡ true
  is_opened has = opens (world_of f).opened (λ shut. has (ap (λ (l : List PlaceData). outcome_at l ticket.number) (s.closed shut)))

  -- the store has no live document
  pub absent_stands : found ≡ founds.Absent → (place : PlaceData) → place.number ≡ ticket.number → PlaceStands f ticket.stripe place → OutcomeStands f (ticket_of ticket.stripe place.number) place.key outcomes.Absent
  absent_stands is place number p = subst (λ (o : FoundData). FoundStands f ticket o) is r.found s.is_told place.key (place_waits place number p)

  module _ (meta : Meta) (value : List ℕ) (is : found ≡ founds.Row (doc_from meta value)) (has : outcome_at x.places ticket.number ≡ None → ⊥) where
    row_doc : get (world_of f).docs key ≡ Some (doc_from meta value)
    row_doc = subst (λ (o : FoundData). FoundStands f ticket o) is r.found s.is_told key (key_waits has).0

    row_stays : meta.deleted ≡ false
    row_stays =
        let l = waiting_low f ticket key s.is_told legal value-eviction (key_waits has).0 in
        let e : l.doc ≡ doc_from meta value = (let h = sym l.found ∙ row_doc in cc) in
        ap (λ (d : Doc). d.deleted) (sym e) ∙ l.stays

    -- its value is in memory, or goes there
    back_stands : (y : StripeData) → IsBack x key meta value y true → StripeStands f ticket.stripe y
    back_stands y back = elim back.2 [
      | inl same ↦ subst (λ (z : StripeData). StripeStands f ticket.stripe z) (sym same.1) s
      | inr away ↦ subst (λ (z : StripeData). StripeStands f ticket.stripe z) (sym away.2) (restored_stands f ticket.stripe key (doc_from meta value) x back.0 back.1 row_doc s)
    ]

    -- so it can't be that it does not
    no_gone : (docs : Option Doc) → docs ≡ Some (doc_from meta value) → MayBeGone (marked f ticket.stripe) docs → ⊥
    no_gone None is-doc gone = cc
    no_gone (Some doc) is-doc gone =
        let e : doc ≡ doc_from meta value = cc in
        let t = sym gone.1 ∙ ap (λ (d : Doc). d.deleted) e ∙ row_stays in cc

    no_node : (node : NodeData) → meta.len ≡ length value → node_at x.nodes key ≡ Some node → node.meta ≡ meta
    no_node node measured at =
        let n = s.nodes key node at in
        let e : n.doc ≡ doc_from meta value = (let h = sym n.found ∙ row_doc in cc) in
        n.meta ∙ ap meta_of e ∙ ap (λ k. record meta { len = k }) (sym measured)

    not_back : (y : StripeData) → meta.len ≡ length value → IsBack x key meta value y false → ⊥
    not_back y measured back =
        elim (node_at x.nodes key) as (λ o. node_at x.nodes key ≡ o → ⊥) [
          | None ↦ λ at. no_gone (get (world_of f).docs key) row_doc (s.gone (is_opened has) key (key_waits has).1 at)
          | Some node ↦ λ at. (back.1 node at).1 (no_node node measured at)
        ] refl

-- The same, from what the taking of the stripe says.
module _ (f₀ f : FrontData) (ticket : Ticket) (key : List ℕ) (found : FoundData) (x : StripeData) (front : f ≡ f₀) (legal : IsLegal f) (value-eviction : f₀.config.eviction ≡ Value) (r : FetchedStands f₀ (fetched_of ticket key found)) (s : StripeStands f ticket.stripe x) where
  eviction_is : f.config.eviction ≡ Value
  eviction_is = ap (λ (g : FrontData). g.config.eviction) front ∙ value-eviction

  read_is : FetchedStands f (fetched_of ticket key found)
  read_is = subst (λ (g : FrontData). FetchedStands g (fetched_of ticket key found)) (sym front) r

  -- `lent` is the key as a slice
  pub merged_at : (meta : Meta) (value lent : List ℕ) (y : StripeData) (test : Bool) → found ≡ founds.Row (doc_from meta value) → lent ≡ key → (outcome_at x.places ticket.number ≡ None → ⊥) → IsBack x lent meta value y test → test ≡ true
      → StripeStands f ticket.stripe (settles y ticket.number outcomes.Merged)
  merged_at meta value lent y test is same has back goes =
      settled_stands f ticket.stripe ticket.number outcomes.Merged y (λ place number p. tt)
      (back_stands f ticket key found x legal eviction_is read_is s meta value is has y (subst (λ b. IsBack x key meta value y b) goes (subst (λ (l : List ℕ). IsBack x l meta value y test) same back)))

  pub never_at : (meta : Meta) (value lent : List ℕ) (y : StripeData) (test : Bool) → found ≡ founds.Row (doc_from meta value) → lent ≡ key → (outcome_at x.places ticket.number ≡ None → ⊥) → meta.len ≡ length value → IsBack x lent meta value y test → test ≡ false → ⊥
  never_at meta value lent y test is same has measured back stays =
      not_back f ticket key found x legal eviction_is read_is s meta value is has y measured (subst (λ b. IsBack x key meta value y b) stays (subst (λ (l : List ℕ). IsBack x l meta value y test) same back))

  pub absent_at : found ≡ founds.Absent → StripeStands f ticket.stripe (settles x ticket.number outcomes.Absent)
  absent_at is = settled_stands f ticket.stripe ticket.number outcomes.Absent x (absent_stands f ticket key found x legal eviction_is read_is s is) s

pub no_memory_at : (f : FrontData) (ticket : Ticket) (x : StripeData) → StripeStands f ticket.stripe x → StripeStands f ticket.stripe (settles x ticket.number outcomes.NoMemory)
no_memory_at f ticket x s = settled_stands f ticket.stripe ticket.number outcomes.NoMemory x (λ place number p. tt) s

or_false : (b : Bool) → (b || false) ≡ true → b ≡ true
or_false true h = refl
or_false false h = absurd (cc)

-- A failed read is told while its stripe and the desk are held.
pub fail_covers : (f : FrontData) (ticket : Ticket) (fault : ℕ) (old one both : PartName → Bool) → Same one (and_this (Stripe ticket.stripe) old) → Same both (and_this Desk one) → Covered both f (events.ReadFailed ticket fault)
unfolding touches
fail_covers f ticket fault old one both first second (Stripe other) is =
    let t : other ≡ ticket.stripe = (Decides-eqb other ticket.stripe).0 (or_false (other == ticket.stripe) is) in
    second (Stripe other) ∙ first (Stripe other) ∙ ap (λ b. b || old (Stripe other)) ((Decides-eqb ticket.stripe other).1 (sym t))
fail_covers f ticket fault old one both first second Queue is = absurd (cc)
fail_covers f ticket fault old one both first second Desk is = second Desk

pub fail_own : (number : ℕ) (desk : Bool) (ticket : Ticket) (fault : ℕ) → desk ≡ true → IsOwn number desk (events.ReadFailed ticket fault)
unfolding is_of is_call is_desks
fail_own number desk ticket fault is = record { own = λ t. absurd (cc); desks = λ t. is }

-- the fronts are those when the read is merged, and behind the taking of the stripe and of the desk
module _ (f₀ f g : FrontData) (ticket : Ticket) (key : List ℕ) (found : FoundData) (fault : ℕ) (first : f ≡ f₀) (second : g ≡ f) (r : FetchedStands f₀ (fetched_of ticket key found)) (is : found ≡ founds.Failed fault) where
  abbrev failure : EventData
  failure = events.ReadFailed ticket fault

  told_read : FetchedStands g (fetched_of ticket key found)
  told_read = subst (λ (h : FrontData). FetchedStands h (fetched_of ticket key found)) (sym (second ∙ first)) r

  once : AllByRecursion (IsNoFault fault) g.events
  once = subst (λ (o : FoundData). FoundStands g ticket o) is told_read.found

  pub fail_may : (x : StripeData) → StripeStands f ticket.stripe x → May g failure
  fail_may x s = may_fail g ticket.stripe fault ticket x refl told_read.asked once (subst (λ (h : FrontData). StripeStands h ticket.stripe x) (sym second) s)

  pub fail_desk : (h : FrontData) (persisted : ℕ) → h ≡ with_event g failure → persisted ≡ (world_of g).persisted → persisted ≡ (world_of h).persisted
  fail_desk h persisted noted stands = stands ∙ sym (ap (λ (w : World). w.persisted) (ap world_of noted ∙ world_step g failure))

  pub fail_stripe : (h i : FrontData) (x : StripeData) → h ≡ with_event g failure → i ≡ h → StripeStands f ticket.stripe x → StripeStands i ticket.stripe (settles x ticket.number (outcomes.Failed fault))
  fail_stripe h i x noted given s =
      subst (λ (k : FrontData). StripeStands k ticket.stripe (settles x ticket.number (outcomes.Failed fault))) (sym (given ∙ noted))
      (failed_stands g ticket.stripe fault ticket x refl told_read.asked once (subst (λ (k : FrontData). StripeStands k ticket.stripe x) (sym second) s))

-- a place that stands has the outcome that is settled
settled_at : (places : List PlaceData) (number : ℕ) (outcome : Outcome) → (outcome_at places number ≡ None → ⊥) → outcome_at (settled places number outcome) number ≡ Some outcome
settled_at [] number outcome has = absurd (has refl)
settled_at (place ∷ places) number outcome has =
    elim (place.number == number) as (λ b. place.number == number ≡ b → (cond b (Some place.outcome) (outcome_at places number) ≡ None → ⊥) → outcome_at (cond b (record place { outcome = outcome }) place ∷ settled places number outcome) number ≡ Some outcome) [
      | true ↦ λ is has. ap (λ b. cond b (Some outcome) (outcome_at (settled places number outcome) number)) is
      | false ↦ λ is has. ap (λ b. cond b (Some place.outcome) (outcome_at (settled places number outcome) number)) is ∙ settled_at places number outcome has
    ] refl has

-- what the settling tells of the stripe itself
here_told : (ticket : Ticket) (left now other : Option Part) → left ≡ cond (same_part (Stripe ticket.stripe) (Stripe ticket.stripe)) now other → left ≡ now
here_told ticket left now other is = is ∙ ap (λ b. cond b now other) ((Decides-eqb ticket.stripe ticket.stripe).1 refl)

-- the place of a ticket that a part has
pub part_place : (part : Option Part) (ticket : Ticket) (x : StripeData) → part ≡ Some (parts.Stripe x) → (outcome_at x.places ticket.number ≡ None → ⊥) → TicketHasPlace part ticket
part_place part ticket x is has = subst (λ (o : Option Part). TicketHasPlace o ticket) (sym is) has

-- A stripe was settled and given back: `tells` and `new` are what is told of the parts before and after.
module _ (f₀ f : FrontData) (ticket : Ticket) (telling : Bool) (tells new : PartName → Option Part) (x : StripeData) (outcome : Outcome)
    (config : f.config ≡ f₀.config) (there-is : there f₀.config (Stripe ticket.stripe) ≡ true) (telling-is : telling ≡ true)
    (told : telling ≡ true → (p : PartName) → there f.config p ≡ true → new p ≡ cond (same_part (Stripe ticket.stripe) p) (Some (parts.Stripe (settles x ticket.number outcome))) (tells p)) where
  told_here : new (Stripe ticket.stripe) ≡ Some (parts.Stripe (settles x ticket.number outcome))
  told_here =
      here_told ticket (new (Stripe ticket.stripe)) (Some (parts.Stripe (settles x ticket.number outcome))) (tells (Stripe ticket.stripe))
      (told telling-is (Stripe ticket.stripe) (ap (λ k. there k (Stripe ticket.stripe)) config ∙ there-is))

  -- whoever waits at the ticket finds the outcome
  pub part_outcome : (outcome_at x.places ticket.number ≡ None → ⊥) → HasOutcome (new (Stripe ticket.stripe)) ticket outcome
  part_outcome has = subst (λ (o : Option Part). HasOutcome o ticket outcome) (sym told_here) (settled_at x.places ticket.number outcome has)

  -- and the stripe is another at this alone
  pub part_becomes : (part : Option Part) → part ≡ Some (parts.Stripe x) → Becomes part (new (Stripe ticket.stripe)) (λ y. settles y ticket.number outcome)
  part_becomes part is = subst (λ (o : Option Part). Becomes o (new (Stripe ticket.stripe)) (λ y. settles y ticket.number outcome)) (sym is) told_here

  part_value : (key : List ℕ) (node : NodeData) → node_at x.nodes key ≡ Some node → (node.value ≡ None → ⊥) → HasValue (new (Stripe ticket.stripe)) key
  part_value key node at has = subst (λ (o : Option Part). HasValue o key) (sym told_here) (node, at, has)

  -- the stripe was one before with the value put back
  module _ (key lent : List ℕ) (meta : Meta) (value : List ℕ) (old : StripeData) (test : Bool) (same : lent ≡ key) (back : IsBack old lent meta value x test) (goes : test ≡ true) where
    back_is : IsBack old key meta value x true
    back_is = subst (λ b. IsBack old key meta value x b) goes (subst (λ (l : List ℕ). IsBack old l meta value x test) same back)

    pub back_outcome : (outcome_at old.places ticket.number ≡ None → ⊥) → HasOutcome (new (Stripe ticket.stripe)) ticket outcome
    back_outcome has =
        let e : x.places ≡ old.places = elim back_is.2 [
          | inl stays ↦ ap (λ (z : StripeData). z.places) stays.1
          | inr away ↦ ap (λ (z : StripeData). z.places) away.2
        ] in
        part_outcome (λ gone. has (ap (λ (l : List PlaceData). outcome_at l ticket.number) (sym e) ∙ gone))

    pub back_value : HasValue (new (Stripe ticket.stripe)) key
    back_value = elim back_is.2 [
      | inl stays ↦ part_value key back_is.0 (ap (λ (z : StripeData). node_at z.nodes key) stays.1 ∙ back_is.1) stays.0
      | inr away ↦
          part_value key (node_of key (doc_from meta value))
          (ap (λ (z : StripeData). node_at z.nodes key) away.2 ∙ node_at_put old.nodes (node_of key (doc_from meta value)) key ∙ ap (λ b. cond b (Some (node_of key (doc_from meta value))) (node_at old.nodes key)) ((bytes_eq-Decides key key).1 refl))
          (λ e. cc)
    ]

    -- a value that is in memory stays
    still : (o : Option (List ℕ)) → (o ≡ None → ⊥) → old ≡ put_back_value old key (doc_from meta value) o
    still None has = absurd (has refl)
    still (Some kept) has = refl

    put_back_is : x ≡ put_back_node old key (doc_from meta value) (node_at old.nodes key)
    put_back_is =
        let at-node : x ≡ put_back_node old key (doc_from meta value) (Some back_is.0) = elim back_is.2 [
          | inl stays ↦ stays.1 ∙ still back_is.0.value stays.0
          | inr away ↦ away.2 ∙ ap (λ (o : Option (List ℕ)). put_back_value old key (doc_from meta value) o) (sym away.0)
        ] in
        at-node ∙ ap (λ (o : Option NodeData). put_back_node old key (doc_from meta value) o) (sym back_is.1)

    -- the stripe is another at the value and the place alone
    pub back_becomes : (part : Option Part) (found : FoundData) → part ≡ Some (parts.Stripe old) → found ≡ founds.Row (doc_from meta value)
        → Becomes part (new (Stripe ticket.stripe)) (λ y. settles (put_back_found y key found) ticket.number outcome)
    back_becomes part found is row =
        let told-so : new (Stripe ticket.stripe) ≡ Some (parts.Stripe (settles (put_back_found old key found) ticket.number outcome)) =
        told_here ∙ ap (λ (z : StripeData). Some (parts.Stripe (settles z ticket.number outcome))) (put_back_is ∙ ap (λ (k : FoundData). put_back_found old key k) (sym row)) in
        subst (λ (o : Option Part). Becomes o (new (Stripe ticket.stripe)) (λ y. settles (put_back_found y key found) ticket.number outcome)) (sym is) told-so
