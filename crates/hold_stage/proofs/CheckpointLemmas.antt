-- What the checkpoints of a history hold.
use Rattle.std.proofs.Common.{◌≡◌, ◌≢◌, ◌<◌, ◌≤◌, ℕ, ◌+◌, Bool, true, false, cond, List, [], ◌∷◌, ◌++◌, length, refl, sym, ap, subst, ◌∙◌, arith, append_assoc, append-nil}
use Rattle.std.specs.Prelude.{Option, Some, None, not, nat_lt, nat_le, filter, option_to_list}
use Rattle.std.specs.Option.{option_or}
use Rattle.std.specs.List.{AllByRecursion}
use Rattle.std.specs.Str.{bytes_eq}
use Rattle.std.proofs.lemmas.Slice.Eq.{bytes_eq-Decides}
use Rattle.std.proofs.lemmas.Bool.Decides.{nat_tests}
use Rattle.std.proofs.lemmas.List.Elements.{filter-append}
use Rattle.ep_model.specs.declared.data.CheckpointData.{CheckpointData}
use Rattle.ep_model.specs.declared.data.CheckpointsData.{CheckpointsData}
use Rattle.ep_model.specs.declared.data.EventData.{EventData}
use Rattle.ep_model.specs.declared.data.EventData.TheVariants.{Called, Refused, Expired, Persisted, Marked, Asked, ReadFailed, Opened}
use Rattle.ep_model.specs.declared.data.FrontData.{FrontData}
use Rattle.ep_model.specs.World.{Doc, World, Item}
use Rattle.ep_model.specs.Answer.{Effect, Nothing, Puts, Sets, apply}
use Rattle.ep_model.specs.History.{call_effect, step, after}
use Rattle.ep_model.specs.Mutations.{mutation_of, mutations, above}
use Rattle.ep_model.specs.Front.{begun, world_of, with_event, with_events}
use Rattle.ep_model.specs.Legal.{May, AreLegal, IsLegal}
use Rattle.ep_model.specs.Checkpoints.{Checkpoint, Checkpoints, first_checkpoints, then_opened, closed_at, has_item, but_item, queued, queued_if, cut_after, cut_in, cut, all_items, items_above}
use Rattle.hold_stage.specs.Histories.{last_of, OpenIsUnstored, KeptAreLast}
use Rattle.hold_stage.proofs.MutationLemmas.{IsNextPut, mutation_is_next, IsPut, step_is_put, step_rises}
use Rattle.hold_stage.proofs.LaterLemmas.{world_step, more_events, all_append}
use Rattle.hold_stage.proofs.BoundLemmas.{Bounds, bounds_step, legal_bounds}
use Rattle.hold_stage.proofs.HistoryLemmas.{or_none, or_assoc, last_append}

-- all items, the oldest first
abbrev items_of : Checkpoints → List Item
items_of c = all_items c.closed ++ c.last.items

all_items_append : (xs ys : List CheckpointData) → all_items (xs ++ ys) ≡ all_items xs ++ all_items ys
all_items_append [] ys = refl
all_items_append (x ∷ xs) ys = ap (λ (l : List Item). x.items ++ l) (all_items_append xs ys) ∙ sym (append_assoc x.items (all_items xs) (all_items ys))

-- to open the next checkpoint moves nothing
opened_items : (c : Checkpoints) (items : List Item) → items_of (then_opened c items) ≡ items_of c ++ items
opened_items c items =
    ap (λ (l : List Item). l ++ items) (all_items_append c.closed (c.last ∷ []) ∙ ap (λ (l : List Item). all_items c.closed ++ l) (append-nil c.last.items))

closed_items : (items : List Item) (c : Checkpoints) → items_of (closed_at items c) ≡ items_of c
closed_items [] c = refl
closed_items (item ∷ items) c = opened_items c [] ∙ append-nil (items_of c)

-- a mutation is put last, in place of an older one of its key at most
data IsQueued (item : Item) (c d : Checkpoints) : Type 0 where
  Adds : items_of d ≡ items_of c ++ item ∷ [] → IsQueued item c d
  Replaces : items_of d ≡ all_items c.closed ++ (but_item item.0 c.last.items ++ item ∷ []) → IsQueued item c d

is_queued : (most : ℕ) (item : Item) (c : Checkpoints) → IsQueued item c (queued most item c)
is_queued most item c =
    elim (has_item item.0 c.last.items) as (λ b. IsQueued item c (cond b (record c { last = record c.last { items = but_item item.0 c.last.items ++ item ∷ [] } }) (cond (nat_le most (length c.last.items)) (then_opened c (item ∷ [])) (record c { last = record c.last { items = c.last.items ++ item ∷ [] } })))) [
      | true ↦ Replaces refl
      | false ↦ elim (nat_le most (length c.last.items)) as (λ b. IsQueued item c (cond b (then_opened c (item ∷ [])) (record c { last = record c.last { items = c.last.items ++ item ∷ [] } }))) [
        | true ↦ Adds (opened_items c (item ∷ []))
        | false ↦ Adds (sym (append_assoc (all_items c.closed) c.last.items (item ∷ [])))
      ]
    ]

-- items up to a number
abbrev AreLow : ℕ → List Item → Type 0
AreLow number items = AllByRecursion (λ (item : Item). item.1.seqno ≤ number) items

lower : (a b : ℕ) (items : List Item) → a ≤ b → AreLow a items → AreLow b items
lower a b [] le h = tt
lower a b (item ∷ items) le h = ((let x = h.0 in omega arith), lower a b items le h.1)

low_front : (number : ℕ) (xs ys : List Item) → AreLow number (xs ++ ys) → AreLow number xs
low_front number [] ys h = tt
low_front number (x ∷ xs) ys h = (h.0, low_front number xs ys h.1)

low_back : (number : ℕ) (xs ys : List Item) → AreLow number (xs ++ ys) → AreLow number ys
low_back number [] ys h = h
low_back number (x ∷ xs) ys h = low_back number xs ys h.1

low_append : (number : ℕ) (xs ys : List Item) → AreLow number xs → AreLow number ys → AreLow number (xs ++ ys)
low_append number xs ys p q = all_append (λ (item : Item). item.1.seqno ≤ number) xs ys p q

all_but : (P : Item → Type 0) (key : List ℕ) (items : List Item) → AllByRecursion P items → AllByRecursion P (but_item key items)
all_but P key [] h = tt
all_but P key (item ∷ items) h = elim (not (bytes_eq item.0 key)) as (λ b. AllByRecursion P (cond b (item ∷ but_item key items) (but_item key items))) [ true ↦ (h.0, all_but P key items h.1) | false ↦ all_but P key items h.1 ]

low_above : (a number : ℕ) (items : List Item) → AreLow a items → a ≤ number → above number items ≡ []
low_above a number [] h le = refl
low_above a number (item ∷ items) h le =
    let other_is : nat_lt number item.1.seqno ≡ false = (let x = h.0 in grind (arith, nat_tests)) in
    ap (λ b. cond b (item ∷ above number items) (above number items)) other_is ∙ low_above a number items h.1 le

-- what was queued is up to the last number
low_queued : (a b : ℕ) (item : Item) (c d : Checkpoints) → a ≤ b → item.1.seqno ≤ b → AreLow a (items_of c) → IsQueued item c d → AreLow b (items_of d)
low_queued a b item c d le top h (Adds is) = subst (AreLow b) (sym is) (low_append b (items_of c) (item ∷ []) (lower a b (items_of c) le h) (top, tt))
low_queued a b item c d le top h (Replaces is) =
    let all = lower a b (items_of c) le h in
    subst (AreLow b) (sym is)
    (low_append b (all_items c.closed) (but_item item.0 c.last.items ++ item ∷ []) (low_front b (all_items c.closed) c.last.items all)
    (low_append b (but_item item.0 c.last.items) (item ∷ []) (all_but (λ (i : Item). i.1.seqno ≤ b) item.0 c.last.items (low_back b (all_items c.closed) c.last.items all)) (top, tt)))

-- the last of another key isn't replaced
last_but : (number : ℕ) (key other : List ℕ) (items : List Item) → bytes_eq other key ≡ false → last_of key (above number (but_item other items)) ≡ last_of key (above number items)
last_but number key other [] differ = refl
last_but number key other (item ∷ items) differ =
    elim (bytes_eq item.0 other) as (λ b. bytes_eq item.0 other ≡ b → last_of key (above number (cond (not b) (item ∷ but_item other items) (but_item other items))) ≡ last_of key (above number (item ∷ items))) [
      | true ↦ λ is.
          let same : item.0 ≡ other = (bytes_eq-Decides item.0 other).0 is in
          let other_is : bytes_eq item.0 key ≡ false = ap (λ (k : List ℕ). bytes_eq k key) same ∙ differ in
          last_but number key other items differ ∙ sym (gone other_is (nat_lt number item.1.seqno))
      | false ↦ λ is. one (last_but number key other items differ) (nat_lt number item.1.seqno)
    ] refl
  where
    gone : bytes_eq item.0 key ≡ false → (b : Bool) → last_of key (cond b (item ∷ above number items) (above number items)) ≡ last_of key (above number items)
    gone other_is true = ap (λ t. option_or (last_of key (above number items)) (cond t (Some item.1) None)) other_is ∙ or_none (last_of key (above number items))
    gone other_is false = refl

    one : last_of key (above number (but_item other items)) ≡ last_of key (above number items) → (b : Bool)
        → last_of key (cond b (item ∷ above number (but_item other items)) (above number (but_item other items))) ≡ last_of key (cond b (item ∷ above number items) (above number items))
    one rest true = ap (λ (o : Option Doc). option_or o (cond (bytes_eq item.0 key) (Some item.1) None)) rest
    one rest false = rest

above_append : (number : ℕ) (xs ys : List Item) → above number (xs ++ ys) ≡ above number xs ++ above number ys
above_append number xs ys = filter-append (λ (p : Item). nat_lt number p.1.seqno) xs ys

last_above : (key : List ℕ) (number : ℕ) (xs ys : List Item) → last_of key (above number (xs ++ ys)) ≡ option_or (last_of key (above number ys)) (last_of key (above number xs))
last_above key number xs ys = ap (λ (l : List Item). last_of key l) (above_append number xs ys) ∙ last_append key (above number xs) (above number ys)

-- the last of a key, once a mutation was queued that is numbered above all
last_queued : (key : List ℕ) (number top : ℕ) (item : Item) (c d : Checkpoints) → AreLow top (items_of c) → item.1.seqno ≡ top + 1 → IsQueued item c d
    → last_of key (above number (items_of d)) ≡ option_or (last_of key (above number (item ∷ []))) (last_of key (above number (items_of c)))
last_queued key number top item c d low is (Adds adds) = ap (λ (l : List Item). last_of key (above number l)) adds ∙ last_above key number (items_of c) (item ∷ [])
last_queued key number top item c d low is (Replaces replaces) =
    elim (nat_lt number item.1.seqno) as (λ b. nat_lt number item.1.seqno ≡ b → last_of key (above number (items_of d)) ≡ option_or (last_of key (above number (item ∷ []))) (last_of key (above number (items_of c)))) [
      | true ↦ λ passes.
          ap (λ (l : List Item). last_of key (above number l)) replaces
          ∙ last_above key number (all_items c.closed) (but_item item.0 c.last.items ++ item ∷ [])
          ∙ ap (λ (o : Option Doc). option_or o (last_of key (above number (all_items c.closed)))) (last_above key number (but_item item.0 c.last.items) (item ∷ []))
          ∙ or_assoc (last_of key (above number (item ∷ []))) (last_of key (above number (but_item item.0 c.last.items))) (last_of key (above number (all_items c.closed)))
          ∙ here passes (bytes_eq item.0 key) refl
          ∙ ap (λ (o : Option Doc). option_or (last_of key (above number (item ∷ []))) o) (sym (last_above key number (all_items c.closed) c.last.items))
      | false ↦ λ fails.
          let le : top + 1 ≤ number = grind (arith, nat_tests) in
          let all = low_queued top (top + 1) item c d (omega arith) (omega arith) low (Replaces replaces) in
          ap (λ (l : List Item). last_of key l) (low_above (top + 1) number (items_of d) all le)
          ∙ sym (ap (λ b. option_or (last_of key (cond b (item ∷ []) [])) (last_of key (above number (items_of c)))) fails ∙ ap (λ (l : List Item). last_of key l) (low_above top number (items_of c) low (omega arith)))
    ] refl
  where
    here : nat_lt number item.1.seqno ≡ true → (b : Bool) → bytes_eq item.0 key ≡ b
        → option_or (last_of key (above number (item ∷ []))) (option_or (last_of key (above number (but_item item.0 c.last.items))) (last_of key (above number (all_items c.closed))))
        ≡ option_or (last_of key (above number (item ∷ []))) (option_or (last_of key (above number c.last.items)) (last_of key (above number (all_items c.closed))))
    here passes true same =
        let found : last_of key (above number (item ∷ [])) ≡ Some item.1 = ap (λ b. last_of key (cond b (item ∷ []) [])) passes ∙ ap (λ b. cond b (Some item.1) None) same in
        ap (λ (o : Option Doc). option_or o (option_or (last_of key (above number (but_item item.0 c.last.items))) (last_of key (above number (all_items c.closed))))) found
        ∙ sym (ap (λ (o : Option Doc). option_or o (option_or (last_of key (above number c.last.items)) (last_of key (above number (all_items c.closed))))) found)
    here passes false differ =
        ap (λ (o : Option Doc). option_or (last_of key (above number (item ∷ []))) (option_or o (last_of key (above number (all_items c.closed))))) (last_but number key item.0 c.last.items differ)

-- One event further: the items are up to the last number, and the last of each key is that of the event or as before.
record IsCut (key : List ℕ) (number : ℕ) (w v : World) (p : Option Item) (c d : Checkpoints) : Type 0 where
  low : AreLow v.high (items_of d)
  last : last_of key (above number (items_of d)) ≡ option_or (last_of key (above number (option_to_list p))) (last_of key (above number (items_of c)))

cut_put : (key : List ℕ) (number most : ℕ) (w v : World) (p : Option Item) (c : Checkpoints) → IsNextPut w p → IsPut w v p → AreLow w.high (items_of c) → IsCut key number w v p c (queued_if most p c)
cut_put key number most w v None c next put low = record { low = lower w.high v.high (items_of c) (let e = put.high in omega arith) low; last = refl }
cut_put key number most w v (Some item) c next put low = record {
  low = low_queued w.high v.high item c (queued most item c) (let a = next.0 in let b = put.1 in omega arith) (let b = put.1 in omega arith) low (is_queued most item c);
  last = last_queued key number w.high item c (queued most item c) low next.0 (is_queued most item c);
}

cut_event : (key : List ℕ) (number most : ℕ) (w : World) (c : Checkpoints) (event : EventData) → AreLow w.high (items_of c) → IsCut key number w (step w event) (mutation_of w event) c (cut_after most w c event)
cut_event key number most w c (Called caller call now reply value) low = cut_put key number most w (step w (Called caller call now reply value)) (mutation_of w (Called caller call now reply value)) c (mutation_is_next w (Called caller call now reply value)) (step_is_put w (Called caller call now reply value)) low
cut_event key number most w c (Refused caller call now cause) low = record { low = low; last = refl }
cut_event key number most w c (Expired k now) low = cut_put key number most w (step w (Expired k now)) (mutation_of w (Expired k now)) c (mutation_is_next w (Expired k now)) (step_is_put w (Expired k now)) low
cut_event key number most w c (Persisted n) low = record {
  low = subst (AreLow w.high) (sym (closed_items c.last.items c)) low;
  last = ap (λ (l : List Item). last_of key (above number l)) (closed_items c.last.items c);
}
cut_event key number most w c (Marked stripe n) low = record { low = low; last = refl }
cut_event key number most w c (Asked ticket caller call) low = record { low = low; last = refl }
cut_event key number most w c (ReadFailed ticket fault) low = record { low = low; last = refl }
cut_event key number most w c Opened low = record { low = low; last = refl }

last_in : (key : List ℕ) (number most : ℕ) (w : World) (c : Checkpoints) (events : List EventData) → AreLow w.high (items_of c)
    → last_of key (above number (items_of (cut_in most w c events))) ≡ option_or (last_of key (above number (mutations w events))) (last_of key (above number (items_of c)))
last_in key number most w c [] low = refl
last_in key number most w c (event ∷ events) low =
    let here = cut_event key number most w c event low in
    last_in key number most (step w event) (cut_after most w c event) events here.low
    ∙ ap (λ (o : Option Doc). option_or (last_of key (above number (mutations (step w event) events))) o) here.last
    ∙ sym (or_assoc (last_of key (above number (mutations (step w event) events))) (last_of key (above number (option_to_list (mutation_of w event)))) (last_of key (above number (items_of c))))
    ∙ ap (λ (o : Option Doc). option_or o (last_of key (above number (items_of c)))) (sym (last_above key number (option_to_list (mutation_of w event)) (mutations (step w event) events)))

pub kept_are_last : KeptAreLast
unfolding cut
kept_are_last f key = last_in key (world_of f).persisted f.config.ckpt_max (begun f) first_checkpoints f.events tt ∙ or_none (last_of key (above (world_of f).persisted (mutations (begun f) f.events)))

-- The open checkpoint.
abbrev IsOver : ℕ → Checkpoints → Type 0
IsOver number c = AllByRecursion (λ (item : Item). number < item.1.seqno) c.last.items

over_queued : (number most : ℕ) (item : Item) (c : Checkpoints) → number < item.1.seqno → IsOver number c → IsOver number (queued most item c)
over_queued number most item c more h =
    elim (has_item item.0 c.last.items) as (λ b. IsOver number (cond b (record c { last = record c.last { items = but_item item.0 c.last.items ++ item ∷ [] } }) (cond (nat_le most (length c.last.items)) (then_opened c (item ∷ [])) (record c { last = record c.last { items = c.last.items ++ item ∷ [] } })))) [
      | true ↦ all_append (λ (i : Item). number < i.1.seqno) (but_item item.0 c.last.items) (item ∷ []) (all_but (λ (i : Item). number < i.1.seqno) item.0 c.last.items h) (more, tt)
      | false ↦ elim (nat_le most (length c.last.items)) as (λ b. IsOver number (cond b (then_opened c (item ∷ [])) (record c { last = record c.last { items = c.last.items ++ item ∷ [] } }))) [
        | true ↦ (more, tt)
        | false ↦ all_append (λ (i : Item). number < i.1.seqno) c.last.items (item ∷ []) h (more, tt)
      ]
    ]

over_put : (number most : ℕ) (w : World) (p : Option Item) (c : Checkpoints) → number ≤ w.high → IsNextPut w p → IsOver number c → IsOver number (queued_if most p c)
over_put number most w None c low next h = h
over_put number most w (Some item) c low next h = over_queued number most item c (let a = next.0 in omega arith) h

over_closed : (number : ℕ) (items : List Item) (c : Checkpoints) → c.last.items ≡ items → IsOver number (closed_at items c)
over_closed number [] c is = subst (λ (l : List Item). AllByRecursion (λ (item : Item). number < item.1.seqno) l) (sym is) tt
over_closed number (item ∷ items) c is = tt

persisted_apply : (w : World) (effect : Effect) → (apply w effect).persisted ≡ w.persisted
persisted_apply w Nothing = refl
persisted_apply w (Puts key doc) = refl
persisted_apply w (Sets state) = refl

over_event : (most : ℕ) (w : World) (c : Checkpoints) (event : EventData) → w.persisted ≤ w.high → IsOver w.persisted c → IsOver (step w event).persisted (cut_after most w c event)
over_event most w c (Called caller call now reply value) low h =
    subst (λ n. IsOver n (cut_after most w c (Called caller call now reply value))) (sym (persisted_apply w (call_effect w call now reply)))
    (over_put w.persisted most w (mutation_of w (Called caller call now reply value)) c low (mutation_is_next w (Called caller call now reply value)) h)
over_event most w c (Refused caller call now cause) low h = h
over_event most w c (Expired key now) low h = over_put w.persisted most w (mutation_of w (Expired key now)) c low (mutation_is_next w (Expired key now)) h
over_event most w c (Persisted number) low h = over_closed number c.last.items c refl
over_event most w c (Marked stripe number) low h = h
over_event most w c (Asked ticket caller call) low h = h
over_event most w c (ReadFailed ticket fault) low h = h
over_event most w c Opened low h = h

over_along : (most : ℕ) (f : FrontData) (c : Checkpoints) (events : List EventData) → Bounds f → AreLegal f events → IsOver (world_of f).persisted c
    → IsOver (world_of (with_events f events)).persisted (cut_in most (world_of f) c events)
unfolding AreLegal
over_along most f c [] b legal h = subst (λ (l : List EventData). IsOver (world_of (record f { events = l })).persisted c) (sym (append-nil f.events)) h
over_along most f c (event ∷ events) b legal h =
    let here = over_event most (world_of f) c event b.stored h in
    let w = sym (world_step f event) in
    let later = over_along most (with_event f event) (cut_after most (world_of f) c event) events (bounds_step f event b legal.0) legal.1 (subst (λ (v : World). IsOver v.persisted (cut_after most (world_of f) c event)) w here) in
    subst (λ (g : FrontData). IsOver (world_of g).persisted (cut_in most (world_of f) c (event ∷ events))) (more_events f event events)
    (subst (λ (v : World). IsOver (world_of (with_events (with_event f event) events)).persisted (cut_in most v (cut_after most (world_of f) c event) events)) (world_step f event) later)

pub open_is_unstored : OpenIsUnstored
unfolding cut IsLegal
open_is_unstored f legal = over_along f.config.ckpt_max (record f { events = [] }) first_checkpoints f.events (record { start = omega arith; stored = omega arith; marked = λ stripe. omega arith }) legal tt
