-- A queue that stands holds the last mutation of each key that isn't stored.
use Rattle.std.proofs.Common.{◌≡◌, ℕ, ◌<◌, ◌≤◌, Bool, true, false, cond, List, [], ◌∷◌, ◌++◌, map, take, drop, refl, sym, ap, subst, ◌∙◌, arith}
use Rattle.std.specs.Prelude.{Option, Some, None, nat_lt}
use Rattle.std.specs.Option.{option_map, option_or}
use Rattle.std.specs.Str.{bytes_eq}
use Rattle.std.proofs.lemmas.Bool.Decides.{nat_tests}
use Rattle.std.proofs.lemmas.List.{take-append-drop}
use Rattle.ep_model.specs.declared.data.FrontData.{FrontData}
use Rattle.ep_model.specs.World.{Doc, Item, doc_from}
use Rattle.ep_model.specs.Mutations.{above}
use Rattle.ep_model.specs.Front.{started, world_of}
use Rattle.ep_model.specs.Checkpoints.{cut, all_items}
use Rattle.hold_stage.specs.Histories.{puts_of, last_of, AreNumbered}
use Rattle.hold_stage.proofs.CheckpointLemmas.{kept_are_last}
use Rattle.hold_stage.proofs.HistoryLemmas.{mutations_are_numbered}
use Rattle.ckpt_items.specs.declared.data.ItemData.{ItemData}
use Rattle.ckpt_manager.specs.declared.data.QueueData.{QueueData}
use Rattle.ckpt_manager.specs.Queue.{held, items_above, least_cursor}
use Rattle.ckpt_manager.specs.Sound.{RiseAbove, IsSoundQueue}
use Rattle.ckpt_manager.proofs.RoomLemmas.{least-le}
use Rattle.vb_front.specs.Stands.{IsItem, AreItems, QueueStands}
use Rattle.hold_stage.specs.Numbers.{Numbers, numbers_of}
use Rattle.vb_front.specs.Batches.{item_of, read_behind, QueuesHoldBatches, QueuesHoldNumbers}
use Rattle.vb_front.proofs.KeptLemmas.{above_append, above_passed}

-- each has a greater number than the one before
abbrev Rises : ℕ → List Item → Type 0
Rises number [] = Unit {0}
Rises number (x ∷ xs) = (number < x.1.seqno) × Rises x.1.seqno xs

numbered_rise : (number : ℕ) (xs : List Item) → AreNumbered number xs → Rises number xs
numbered_rise number [] h = tt
numbered_rise number (x ∷ xs) h = ((let e = h.0 in omega arith), numbered_rise x.1.seqno xs (subst (λ n. AreNumbered n xs) (sym h.0) h.1))

held_rise : (number : ℕ) (xs : List ItemData) → RiseAbove number xs → Rises number (map item_of xs)
held_rise number [] h = tt
held_rise number (x ∷ xs) h = (h.0, held_rise x.meta.seqno xs h.1)

-- a document that is numbered above this
abbrev over : ℕ → Option Doc → Option Doc
over number None = None
over number (Some doc) = cond (nat_lt number doc.seqno) (Some doc) None

-- of those that are all above it none goes
all_over : (number low : ℕ) (xs : List Item) → number ≤ low → Rises low xs → above number xs ≡ xs
all_over number low [] le h = refl
all_over number low (x ∷ xs) le h =
    let is : nat_lt number x.1.seqno ≡ true = (let l = h.0 in grind (arith, nat_tests)) in
    ap (λ b. cond b (x ∷ above number xs) (above number xs)) is ∙ ap (λ (l : List Item). x ∷ l) (all_over number x.1.seqno xs (let l = h.0 in omega arith) h.1)

last_over : (number low : ℕ) (key : List ℕ) (xs : List Item) → number ≤ low → Rises low xs → over number (last_of key xs) ≡ last_of key xs
last_over number low key [] le h = refl
last_over number low key (x ∷ xs) le h = one (last_of key xs) (last_over number x.1.seqno key xs (let l = h.0 in omega arith) h.1)
  where
    is : nat_lt number x.1.seqno ≡ true
    is = let l = h.0 in grind (arith, nat_tests)

    one : (o : Option Doc) → over number o ≡ o → over number (option_or o (cond (bytes_eq x.0 key) (Some x.1) None)) ≡ option_or o (cond (bytes_eq x.0 key) (Some x.1) None)
    one (Some doc) same = same
    one None same = elim (bytes_eq x.0 key) as (λ b. over number (cond b (Some x.1) None) ≡ cond b (Some x.1) None) [ true ↦ ap (λ b. cond b (Some x.1) None) is | false ↦ refl ]

-- The last of a key above a number is the last above a lesser one, if that is above it.
last_later : (less number low : ℕ) (key : List ℕ) (xs : List Item) → less ≤ number → Rises low xs → last_of key (above number xs) ≡ over number (last_of key (above less xs))
last_later less number low key [] le h = refl
last_later less number low key (x ∷ xs) le h =
    elim (nat_lt number x.1.seqno) as (λ b. nat_lt number x.1.seqno ≡ b → last_of key (cond b (x ∷ above number xs) (above number xs)) ≡ over number (last_of key (above less (x ∷ xs)))) [
      | true ↦ λ is.
          let top : number < x.1.seqno = grind (arith, nat_tests) in
          let tail = all_over number x.1.seqno xs (omega arith) h.1 in
          let whole = all_over less less (x ∷ xs) (omega arith) ((omega arith), h.1) in
          ap (λ (l : List Item). last_of key (x ∷ l)) tail
          ∙ sym (ap (λ (l : List Item). over number (last_of key l)) whole ∙ last_over number number key (x ∷ xs) (omega arith) (top, h.1))
      | false ↦ λ is. last_later less number x.1.seqno key xs le h.1 ∙ passed is (nat_lt less x.1.seqno)
    ] refl
  where
    low_one : nat_lt number x.1.seqno ≡ false → (o : Option Doc) → over number o ≡ over number (option_or o (cond (bytes_eq x.0 key) (Some x.1) None))
    low_one is (Some doc) = refl
    low_one is None = elim (bytes_eq x.0 key) as (λ b. None ≡ over number (cond b (Some x.1) None)) [ true ↦ sym (ap (λ b. cond b (Some x.1) None) is) | false ↦ refl ]

    passed : nat_lt number x.1.seqno ≡ false → (b : Bool) → over number (last_of key (above less xs)) ≡ over number (last_of key (cond b (x ∷ above less xs) (above less xs)))
    passed is true = low_one is (last_of key (above less xs))
    passed is false = refl

-- reading on is from the documents' numbers
read_is : (number : ℕ) (xs : List ItemData) → map item_of (items_above number xs) ≡ above number (map item_of xs)
read_is number [] = refl
read_is number (x ∷ xs) =
    elim (nat_lt number x.meta.seqno) as (λ b. map item_of (cond b (x ∷ items_above number xs) (items_above number xs)) ≡ cond b (item_of x ∷ above number (map item_of xs)) (above number (map item_of xs))) [
      | true ↦ ap (λ (l : List Item). item_of x ∷ l) (read_is number xs)
      | false ↦ read_is number xs
    ]

-- what is seen of documents, with their numbers
module _ {X : Type 0} (see : Doc → X) (number_of : X → ℕ) (numbered : (doc : Doc) → number_of (see doc) ≡ doc.seqno) where
  abbrev seen_over : ℕ → Option X → Option X
  seen_over number None = None
  seen_over number (Some x) = cond (nat_lt number (number_of x)) (Some x) None

  over_seen : (number : ℕ) (o : Option Doc) → option_map see (over number o) ≡ seen_over number (option_map see o)
  over_seen number None = refl
  over_seen number (Some doc) =
      choose (nat_lt number doc.seqno) ∙ sym (ap (λ n. cond (nat_lt number n) (Some (see doc)) None) (numbered doc))
    where
      choose : (b : Bool) → option_map see (cond b (Some doc) None) ≡ cond b (Some (see doc)) None
      choose true = refl
      choose false = refl

  module _ (f : FrontData) (same : (held : ItemData) (item : Item) → IsItem f held item → see (doc_from held.meta held.value) ≡ see item.1) where
    -- held items show what the history put, each in its place
    same_last : (number : ℕ) (key : List ℕ) (held : List ItemData) (items : List Item) → AreItems f held items
        → option_map see (last_of key (above number (map item_of held))) ≡ option_map see (last_of key (above number items))
    same_last number key [] [] h = refl
    same_last number key [] (item ∷ items) h = absurd h
    same_last number key (x ∷ held) [] h = absurd h
    same_last number key (x ∷ held) (item ∷ items) h =
        ap (λ n. option_map see (last_of key (cond (nat_lt number n) (item_of x ∷ above number (map item_of held)) (above number (map item_of held))))) h.0.number
        ∙ choose (same_last number key held items h.1) (nat_lt number item.1.seqno)
      where
        seen_or : (o : Option Doc) (doc : Doc) (b : Bool) → option_map see (option_or o (cond b (Some doc) None)) ≡ option_or (option_map see o) (cond b (Some (see doc)) None)
        seen_or (Some d) doc b = refl
        seen_or None doc true = refl
        seen_or None doc false = refl

        choose : option_map see (last_of key (above number (map item_of held))) ≡ option_map see (last_of key (above number items)) → (b : Bool)
            → option_map see (last_of key (cond b (item_of x ∷ above number (map item_of held)) (above number (map item_of held)))) ≡ option_map see (last_of key (cond b (item ∷ above number items) (above number items)))
        choose rest true =
            seen_or (last_of key (above number (map item_of held))) (doc_from x.meta x.value) (bytes_eq x.key key)
            ∙ ap (λ (o : Option X). option_or o (cond (bytes_eq x.key key) (Some (see (doc_from x.meta x.value))) None)) rest
            ∙ ap (λ (k : List ℕ). option_or (option_map see (last_of key (above number items))) (cond (bytes_eq k key) (Some (see (doc_from x.meta x.value))) None)) h.0.key
            ∙ ap (λ (s : X). option_or (option_map see (last_of key (above number items))) (cond (bytes_eq item.0 key) (Some s) None)) (same x item h.0)
            ∙ sym (seen_or (last_of key (above number items)) item.1 (bytes_eq item.0 key))
        choose rest false = rest

    are_items : (xs ys : List ItemData) (ds es : List Item) → AreItems f xs ds → AreItems f ys es → AreItems f (xs ++ ys) (ds ++ es)
    are_items [] ys [] es h k = k
    are_items [] ys (a ∷ ds) es h k = absurd h
    are_items (x ∷ xs) ys [] es h k = absurd h
    are_items (x ∷ xs) ys (a ∷ ds) es h k = (h.0, are_items xs ys ds es h.1 k)

    -- what is read behind what is stored
    read_stored : (q : QueueData) (key : List ℕ) → QueueStands f q
        → option_map see (last_of key (above (world_of f).persisted (map item_of (held q)))) ≡ option_map see (last_of key (above (world_of f).persisted (puts_of f)))
    read_stored q key s =
        let number : ℕ = (world_of f).persisted in
        let closed : List Item = all_items (cut f).closed in
        let open_items : List Item = (cut f).last.items in
        let low : least_cursor q ≤ number = (let l = least-le q in let e = s.persisted in omega arith) in
        let gone : above number (drop s.expelled closed) ≡ above number closed =
        sym (ap (λ (l : List Item). above number l) (sym (take-append-drop s.expelled closed)) ∙ above_append number (take s.expelled closed) (drop s.expelled closed)
        ∙ ap (λ (l : List Item). l ++ above number (drop s.expelled closed)) (above_passed number q (take s.expelled closed) low s.passed)) in
        same_last number key (held q) (drop s.expelled closed ++ open_items) (are_items q.closed q.last (drop s.expelled closed) open_items s.closed s.last)
        ∙ ap (λ (l : List Item). option_map see (last_of key l)) (above_append number (drop s.expelled closed) open_items ∙ ap (λ (l : List Item). l ++ above number open_items) gone ∙ sym (above_append number closed open_items))
        ∙ ap (option_map see) (kept_are_last f key)

    read_last : (q : QueueData) (number : ℕ) (key : List ℕ) → IsSoundQueue q → QueueStands f q → (world_of f).persisted ≤ number
        → option_map see (last_of key (read_behind q number)) ≡ option_map see (last_of key (above number (puts_of f)))
    read_last q number key sound s le =
        let stored : ℕ = (world_of f).persisted in
        ap (λ (l : List Item). option_map see (last_of key l)) (read_is number (held q))
        ∙ ap (option_map see) (last_later stored number 0 key (map item_of (held q)) le (held_rise 0 (held q) sound.numbers))
        ∙ over_seen number (last_of key (above stored (map item_of (held q))))
        ∙ ap (seen_over number) (read_stored q key s)
        ∙ sym (over_seen number (last_of key (above stored (puts_of f))))
        ∙ sym (ap (option_map see) (last_later stored number (started f.start).high key (puts_of f) le (numbered_rise (started f.start).high (puts_of f) (mutations_are_numbered f).0)))

seen_all : (o : Option Doc) → option_map (λ (doc : Doc). doc) o ≡ o
seen_all None = refl
seen_all (Some doc) = refl

pub queues_hold_batches : QueuesHoldBatches
queues_hold_batches f q number told sound s le key =
    sym (seen_all (last_of key (read_behind q number)))
    ∙ read_last (λ (doc : Doc). doc) (λ (doc : Doc). doc.seqno) (λ doc. refl) f (λ held item is. is.shown told) q number key sound s le
    ∙ seen_all (last_of key (above number (puts_of f)))

numbers_same : (f : FrontData) (held : ItemData) (item : Item) → IsItem f held item → numbers_of (doc_from held.meta held.value) ≡ numbers_of item.1
numbers_same f held item is =
    ap (λ n. record { seqno = n; cas = held.meta.cas }) is.number ∙ ap (λ n. record { seqno = item.1.seqno; cas = n }) is.cas

pub queues_hold_numbers : QueuesHoldNumbers
queues_hold_numbers f q number sound s le key = read_last numbers_of (λ (n : Numbers). n.seqno) (λ doc. refl) f (numbers_same f) q number key sound s le
