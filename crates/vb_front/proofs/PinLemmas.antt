-- What no ejecting frees of a stripe that shows the documents is what the history says that is pinned.
use Rattle.std.proofs.Common.{◌≡◌, ℕ, zero, suc, ◌+◌, Bool, true, false, cond, List, [], ◌∷◌, refl, sym, ap, subst, ◌∙◌, arith}
use Rattle.std.specs.Prelude.{Option, Some, None, nat_lt, nat_le, not, T, ◌&&◌, ◌||◌, ◌==◌, length, sum_by}
use Rattle.std.specs.Ordering.{nat_cmp, eq_by_cmp, is_eq, is_lt}
use Rattle.std.specs.declared.cmp.Ordering.{Ordering}
use Rattle.std.specs.declared.cmp.Ordering.TheVariants.{Less, Equal, Greater}
use Rattle.std.specs.Cmp.Lexicographic.{slice_cmp, nat_list_cmp_total, texts_ties}
use Rattle.std.specs.List.{AllByRecursion, position_from}
use Rattle.std.specs.Str.{bytes_eq}
use Rattle.std.specs.FinMap as finmap
use Rattle.std.specs.FinMap.{IsAntisymmetric, get, entries_sorted, entries-insert, get-entries, get-retain_keys, get-insert, get-remove, same_map, slice_cmp-IsAntisymmetric, nat_cmp-IsAntisymmetric, is_sorted, find, put}
use Rattle.std.specs.FinMap.Entries.{by_order, below_all}
use Rattle.std.proofs.lemmas.Slice.Eq.{bytes_eq-Decides}
use Rattle.std.proofs.lemmas.Bool.Decides.{Decides-eqb, nat_tests}
use Rattle.std.proofs.lemmas.List.Sums.{sum_by-cons}
use Rattle.ep_model.specs.declared.config.Eviction.{Eviction}
use Rattle.ep_model.specs.declared.config.Eviction.TheVariants.{Value, Full}
use Rattle.ep_model.specs.declared.data.FrontData.{FrontData}
use Rattle.ep_model.specs.World.{Doc, Docs, meta_of, blocks, doc_blocks, Item}
use Rattle.ep_model.specs.Stripes.{stripe_of}
use Rattle.ep_model.specs.Front.{world_of, marked}
use Rattle.ep_model.specs.Quota.{clean_blocks, pinned_blocks, is_other, others_in, pinned}
use Rattle.hash_stripe.specs.Nodes.{NodeData, Slot, sum_of, at, slot_of, node_in, node_at, is_keyed, value_blocks, slot_pinned, others_pinned}
use Rattle.hash_stripe.specs.Nodes as nodes
use Rattle.hash_stripe.specs.Stripes.{StripeData, has_key, AreApart}
use Rattle.vb_front.specs.Stands.{IsShownValue, IsAwayBelow, IsGone, TableShows, TableStands}
use Rattle.vb_front.proofs.AskLemmas.{and_left}

abbrev order : List ℕ → List ℕ → Ordering
order = slice_cmp nat_cmp

antisymmetric : IsAntisymmetric order
antisymmetric = slice_cmp-IsAntisymmetric nat_cmp-IsAntisymmetric

-- two keys tie where they are one
ties : (a b : List ℕ) → eq_by_cmp order a b ≡ bytes_eq a b
ties a b = sym (texts_ties a b)

same_key : (a : List ℕ) → eq_by_cmp order a a ≡ true
same_key a = ties a a ∙ (bytes_eq-Decides a a).1 refl

-- the entries behind one are of other keys
behind : (key : List ℕ) (es : List Item) → T (below_all order key es)
    → AllByRecursion (λ (e : Item). eq_by_cmp order e.0 key ≡ false) es
behind key [] h = tt
behind key (e ∷ es) h = (at (eq_by_cmp order e.0 key) refl, behind key es (second (is_lt (order key e.0)) (below_all order key es) h))
  where
    second : (a b : Bool) → T (a && b) → T b
    second true b p = p
    second false b p = absurd p

    first : (a b : Bool) → T (a && b) → T a
    first true b p = tt
    first false b p = p

    at : (b : Bool) → eq_by_cmp order e.0 key ≡ b → eq_by_cmp order e.0 key ≡ false
    at true is =
        let same : e.0 ≡ key = (bytes_eq-Decides e.0 key).0 (texts_ties e.0 key ∙ is) in
        let less : T (is_lt (order key key)) = subst (λ k. T (is_lt (order key k))) same (first (is_lt (order key e.0)) (below_all order key es) h) in
        absurd (not_less (order key key) (same_key key) less)
      where
        not_less : (o : Ordering) → is_eq o ≡ true → T (is_lt o) → ⊥
        not_less Less e t = cc
        not_less Equal e t = t
        not_less Greater e t = t
    at false is = is

-- each entry of a map is what is found under its key
found_more : (e : Item) (es xs : List Item) → AllByRecursion (λ (x : Item). eq_by_cmp order x.0 e.0 ≡ false) xs
    → AllByRecursion (λ (x : Item). find order x.0 es ≡ Some x.1) xs
    → AllByRecursion (λ (x : Item). find order x.0 (e ∷ es) ≡ Some x.1) xs
found_more e es [] differ h = tt
found_more e es (x ∷ xs) differ h = (ap (λ b. cond b (Some e.1) (find order x.0 es)) differ.0 ∙ h.0, found_more e es xs differ.1 h.1)

found_sorted : (es : List Item) → T (is_sorted order es)
    → AllByRecursion (λ (x : Item). find order x.0 es ≡ Some x.1) es
found_sorted [] h = tt
found_sorted (e ∷ es) h = (
  ap (λ b. cond b (Some e.1) (find order e.0 es)) (same_key e.0),
  found_more e es es (behind e.0 es (first (below_all order e.0 es) (is_sorted order es) h)) (found_sorted es (second (below_all order e.0 es) (is_sorted order es) h)),
)
  where
    first : (a b : Bool) → T (a && b) → T a
    first true b p = tt
    first false b p = p

    second : (a b : Bool) → T (a && b) → T b
    second true b p = p
    second false b p = absurd p

-- nothing is counted where each entry counts nothing
sum_none : (g : Item → ℕ) (es : List Item) → AllByRecursion (λ (x : Item). g x ≡ 0) es → sum_by g es ≡ 0
sum_none g [] h = refl
sum_none g (e ∷ es) h = let a = sum_by-cons g e es in let b = h.0 in let c = sum_none g es h.1 in omega arith

all_at : (P Q : Item → Type 0) (es : List Item) → ((x : Item) → P x → Q x) → AllByRecursion P es → AllByRecursion Q es
all_at P Q [] h all = tt
all_at P Q (e ∷ es) h all = (h e all.0, all_at P Q es h all.1)

sum_empty : (g : Item → ℕ) (docs : Docs) → ((key : List ℕ) (doc : Doc) → get docs key ≡ Some doc → g (key, doc) ≡ 0)
    → sum_by g (finmap.entries docs) ≡ 0
sum_empty g docs none =
    sum_none g (finmap.entries docs)
    (all_at (λ (x : Item). find order x.0 (finmap.entries docs) ≡ Some x.1) (λ (x : Item). g x ≡ 0) (finmap.entries docs) (λ x is. none x.0 x.1 (get-entries docs x.0 ∙ is))
    (found_sorted (finmap.entries docs) (entries_sorted docs)))

-- an entry with a new key adds what it counts
sum_put : (g : Item → ℕ) (key : List ℕ) (doc : Doc) (es : List Item) → find order key es ≡ None
    → sum_by g (put order key doc es) ≡ g (key, doc) + sum_by g es
sum_put g key doc [] none = sum_by-cons g (key, doc) []
sum_put g key doc (e ∷ es) none =
    elim (order key e.0) as (λ (r : Ordering). order key e.0 ≡ r → sum_by g (by_order r ((key, doc) ∷ e ∷ es) ((e.0, doc) ∷ es) (e ∷ put order key doc es)) ≡ g (key, doc) + sum_by g (e ∷ es)) [
      | Less ↦ λ is. sum_by-cons g (key, doc) (e ∷ es)
      | Equal ↦ λ is. absurd (let h : Some e.1 ≡ None = sym (ap (λ r. cond (is_eq r) (Some e.1) (find order key es)) is) ∙ none in cc)
      | Greater ↦ λ is.
          let rest : find order key es ≡ None = sym (ap (λ r. cond (is_eq r) (Some e.1) (find order key es)) is) ∙ none in
          let more = sum_put g key doc es rest in
          let a = sum_by-cons g e (put order key doc es) in
          let b = sum_by-cons g e es in
          omega arith
    ] refl

-- what is found is counted, and all but it
removed : (docs : Docs) (key other : List ℕ)
    → get (finmap.remove docs key) other ≡ cond (bytes_eq other key) None (get docs other)
removed docs key other = get-remove nat_list_cmp_total docs key other ∙ ap (λ b. cond b None (get docs other)) (ties other key)

put_back : (docs : Docs) (key : List ℕ) (doc : Doc) → get docs key ≡ Some doc
    → docs ≡ finmap.insert (finmap.remove docs key) key doc
put_back docs key doc is = same_map nat_list_cmp_total antisymmetric docs (finmap.insert (finmap.remove docs key) key doc) (λ q.
    at q (bytes_eq q key) refl ∙ sym (get-insert nat_list_cmp_total (finmap.remove docs key) key doc q ∙ ap (λ b. cond b (Some doc) (get (finmap.remove docs key) q)) (ties q key)))
  where
    at : (q : List ℕ) (b : Bool) → bytes_eq q key ≡ b
        → get docs q ≡ cond (bytes_eq q key) (Some doc) (get (finmap.remove docs key) q)
    at q true t = ap (λ k. get docs k) ((bytes_eq-Decides q key).0 t) ∙ is ∙ sym (ap (λ b. cond b (Some doc) (get (finmap.remove docs key) q)) t)
    at q false t = sym (ap (λ b. cond b (Some doc) (get (finmap.remove docs key) q)) t ∙ removed docs key q ∙ ap (λ b. cond b None (get docs q)) t)

sum_found : (g : Item → ℕ) (docs : Docs) (key : List ℕ) (doc : Doc) → get docs key ≡ Some doc
    → sum_by g (finmap.entries docs) ≡ g (key, doc) + sum_by g (finmap.entries (finmap.remove docs key))
sum_found g docs key doc is =
    let rest = finmap.remove docs key in
    let none : find order key (finmap.entries rest) ≡ None = sym (get-entries rest key) ∙ removed docs key key ∙ ap (λ b. cond b None (get docs key)) ((bytes_eq-Decides key key).1 refl) in
    ap (λ (d : Docs). sum_by g (finmap.entries d)) (put_back docs key doc is)
    ∙ ap (sum_by g) (entries-insert nat_list_cmp_total rest key doc)
    ∙ sum_put g key doc (finmap.entries rest) none

-- the document of a node counts what the node does
abbrev IsCounted : (Item → ℕ) → (Slot → ℕ) → List ℕ → Docs → Slot → Type 0
IsCounted g count key docs None = count None ≡ 0
IsCounted g count key docs (Some node) = bytes_eq node.key key ≡ false → (doc : Doc) × (get docs node.key ≡ Some doc) × (count (Some node) ≡ g (node.key, doc))

-- the sum over slots but for a key's
abbrev others_sum : (Slot → ℕ) → List ℕ → List Slot → ℕ
others_sum count key slots = sum_of (λ (slot : Slot). cond (is_keyed key slot) 0 (count slot)) slots

-- a node's key is none of the others'
counted_less : (g : Item → ℕ) (count : Slot → ℕ) (key gone : List ℕ) (docs : Docs) (slots : List Slot)
    → has_key gone slots ≡ false → AllByRecursion (IsCounted g count key docs) slots
    → AllByRecursion (IsCounted g count key (finmap.remove docs gone)) slots
counted_less g count key gone docs [] none h = tt
counted_less g count key gone docs (None ∷ slots) none h = (h.0, counted_less g count key gone docs slots none h.1)
counted_less g count key gone docs (Some node ∷ slots) none h = (
  λ other.
      let d = h.0 other in
      (d.0, removed docs gone node.key ∙ ap (λ b. cond b None (get docs node.key)) (left (bytes_eq node.key gone) (has_key gone slots) none) ∙ d.1, d.2),
  counted_less g count key gone docs slots (right (bytes_eq node.key gone) (has_key gone slots) none) h.1,
)
  where
    left : (a b : Bool) → (a || b) ≡ false → a ≡ false
    left true b p = p
    left false b p = refl

    right : (a b : Bool) → (a || b) ≡ false → b ≡ false
    right true b p = absurd (cc)
    right false b p = p

-- a document that is there has no node of the key that isn't
not_own : (at key other : List ℕ) (doc : Doc) (docs : Docs) (slots : List Slot) → bytes_eq at key ≡ true
    → get docs key ≡ None → get docs other ≡ Some doc → has_key other slots ≡ false
    → (bytes_eq at other || has_key other slots) ≡ false
not_own at key other doc docs slots is own found none =
    elim (bytes_eq at other) as (λ b. bytes_eq at other ≡ b → (b || has_key other slots) ≡ false) [
      | true ↦ λ t.
          let same : other ≡ key = sym ((bytes_eq-Decides at other).0 t) ∙ (bytes_eq-Decides at key).0 is in
          absurd (let e : Some doc ≡ None = sym found ∙ ap (λ k. get docs k) same ∙ own in cc)
      | false ↦ λ t. none
    ] refl

removed_none : (docs : Docs) (key other : List ℕ) → get docs other ≡ None → get (finmap.remove docs key) other ≡ None
removed_none docs key other none =
    removed docs key other ∙ elim (bytes_eq other key) as (λ b. cond b None (get docs other) ≡ None) [ true ↦ refl | false ↦ none ]

-- what is left when one is removed is another's, and was there
not_removed : (docs : Docs) (key other : List ℕ) (doc : Doc) → get (finmap.remove docs key) other ≡ Some doc
    → (bytes_eq key other ≡ false) × (get docs other ≡ Some doc)
not_removed docs key other doc found =
    elim (bytes_eq other key) as (λ b. bytes_eq other key ≡ b → (bytes_eq key other ≡ false) × (get docs other ≡ Some doc)) [
      | true ↦ λ t. absurd (let e : None ≡ Some doc = sym (removed docs key other ∙ ap (λ b. cond b None (get docs other)) t) ∙ found in cc)
      | false ↦ λ t. (
        elim (bytes_eq key other) as (λ b. bytes_eq key other ≡ b → b ≡ false) [ true ↦ λ u. absurd (let e = (bytes_eq-Decides other key).1 (sym ((bytes_eq-Decides key other).0 u)) in cc) | false ↦ λ u. refl ] refl,
        sym (removed docs key other ∙ ap (λ b. cond b None (get docs other)) t) ∙ found,
      )
    ] refl

sum_slots : (g : Item → ℕ) (count : Slot → ℕ) (key : List ℕ) (docs : Docs) (slots : List Slot) → count None ≡ 0
    → get docs key ≡ None → AreApart slots → AllByRecursion (IsCounted g count key docs) slots
    → ((other : List ℕ) (doc : Doc) → get docs other ≡ Some doc → has_key other slots ≡ false → g (other, doc) ≡ 0) → sum_by g (finmap.entries docs) ≡ others_sum count key slots
sum_slots g count key docs [] empty own apart counted rest = sum_empty g docs (λ other doc is. rest other doc is refl)
sum_slots g count key docs (None ∷ slots) empty own apart counted rest = let h = sum_slots g count key docs slots empty own apart.1 counted.1 rest in omega arith
sum_slots g count key docs (Some node ∷ slots) empty own apart counted rest =
    elim (bytes_eq node.key key) as (λ b. bytes_eq node.key key ≡ b → sum_by g (finmap.entries docs) ≡ cond b 0 (count (Some node)) + others_sum count key slots) [
      | true ↦ λ is.
          let h = sum_slots g count key docs slots empty own apart.1 counted.1 (λ other doc found none. rest other doc found (not_own node.key key other doc docs slots is own found none)) in
          omega arith
      | false ↦ λ is.
          let d = counted.0 is in
          let h = sum_slots g count key (finmap.remove docs node.key) slots empty (removed_none docs node.key key own) apart.1 (counted_less g count key node.key docs slots apart.0 counted.1)
          (λ other doc found none. let n = not_removed docs node.key other doc found in rest other doc n.1 (ap (λ b. b || has_key other slots) n.0 ∙ none)) in
          let s = sum_found g docs node.key d.0 d.1 in
          let c = d.2 in
          omega arith
    ] refl

-- The node of a key is the first that has it.
abbrev node_for : List ℕ → List Slot → Slot
node_for key [] = None
node_for key (slot ∷ slots) = cond (is_keyed key slot) slot (node_for key slots)

abbrev IsFirst : List Slot → ℕ → Slot → Option ℕ → Type 0
IsFirst slots n node None = node ≡ None
IsFirst slots n node (Some m) = (i : ℕ) × (n + i ≡ m) × (at slots i ≡ node)

first_is : (key : List ℕ) (n : ℕ) (slots : List Slot)
    → IsFirst slots n (node_for key slots) (position_from (is_keyed key) n slots)
first_is key n [] = refl
first_is key n (slot ∷ slots) =
    elim (is_keyed key slot) as (λ b. IsFirst (slot ∷ slots) n (cond b slot (node_for key slots)) (cond b (Some n) (position_from (is_keyed key) (n + 1) slots))) [
      | true ↦ (zero, omega arith, refl)
      | false ↦ later (position_from (is_keyed key) (n + 1) slots) (first_is key (n + 1) slots)
    ]
  where
    later : (o : Option ℕ) → IsFirst slots (n + 1) (node_for key slots) o
        → IsFirst (slot ∷ slots) n (node_for key slots) o
    later None h = h
    later (Some m) h = (suc h.0, (let e = h.1 in omega arith), h.2)

node_first : (slots : List Slot) (key : List ℕ) → node_at slots key ≡ node_for key slots
node_first slots key = by (slot_of slots key) (first_is key 0 slots)
  where
    by : (o : Option ℕ) → IsFirst slots 0 (node_for key slots) o → node_in slots o ≡ node_for key slots
    by None h = sym h
    by (Some m) h = ap (at slots) (let e = h.1 in omega arith) ∙ h.2

-- where no two nodes have one key, each is its key's
abbrev IsOwn : List Slot → Slot → Type 0
IsOwn slots None = Unit {0}
IsOwn slots (Some node) = node_for node.key slots ≡ Some node

not_keyed : (key : List ℕ) (slots : List Slot) → has_key key slots ≡ false → node_for key slots ≡ None
not_keyed key [] none = refl
not_keyed key (slot ∷ slots) none = ap (λ b. cond b slot (node_for key slots)) (left (is_keyed key slot) (has_key key slots) none) ∙ not_keyed key slots (right (is_keyed key slot) (has_key key slots) none)
  where
    left : (a b : Bool) → (a || b) ≡ false → a ≡ false
    left true b p = p
    left false b p = refl

    right : (a b : Bool) → (a || b) ≡ false → b ≡ false
    right true b p = absurd (cc)
    right false b p = p

own_later : (slot : Slot) (slots xs : List Slot) → ((key : List ℕ) → is_keyed key slot ≡ true → has_key key xs ≡ false)
    → AllByRecursion (IsOwn slots) xs → AllByRecursion (IsOwn (slot ∷ slots)) xs
own_later slot slots [] apart h = tt
own_later slot slots (None ∷ xs) apart h = (tt, own_later slot slots xs apart h.1)
own_later slot slots (Some node ∷ xs) apart h = (
  elim (is_keyed node.key slot) as (λ b. is_keyed node.key slot ≡ b → cond (is_keyed node.key slot) slot (node_for node.key slots) ≡ Some node) [
    | true ↦ λ t. absurd (let none = apart node.key t in let some = (bytes_eq-Decides node.key node.key).1 refl in let e : true ≡ false = sym (ap (λ b. b || has_key node.key xs) some) ∙ none in cc)
    | false ↦ λ t. ap (λ b. cond b slot (node_for node.key slots)) t ∙ h.0
  ] refl,
  own_later slot slots xs (λ key t. right (is_keyed key (Some node)) (has_key key xs) (apart key t)) h.1,
)
  where
    right : (a b : Bool) → (a || b) ≡ false → b ≡ false
    right true b p = absurd (cc)
    right false b p = p

own_all : (slots : List Slot) → AreApart slots → AllByRecursion (IsOwn slots) slots
own_all [] apart = tt
own_all (None ∷ slots) apart = (tt, own_later None slots slots (λ key t. absurd (cc)) (own_all slots apart.1))
own_all (Some node ∷ slots) apart = (
  ap (λ b. cond b (Some node) (node_for node.key slots)) ((bytes_eq-Decides node.key node.key).1 refl),
  own_later (Some node) slots slots (λ key t. subst (λ k. has_key k slots ≡ false) ((bytes_eq-Decides node.key key).0 t) apart.0) (own_all slots apart.1),
)

-- what a node and its document count
node_count : (eviction : Eviction) (mark : ℕ) (node : NodeData) (doc : Doc) → node.meta ≡ meta_of doc
    → IsShownValue doc node.value → IsAwayBelow mark node node.value
    → slot_pinned eviction mark (Some node) ≡ pinned_blocks eviction mark node.key doc
node_count eviction mark node doc meta value away =
    subst (λ m. cond (nat_le m.seqno mark) (cond (nodes.is_full_eviction eviction || m.deleted) 0 (blocks (length node.key))) (nodes.node_blocks node) ≡ pinned_blocks eviction mark node.key doc) (sym meta) (
    elim (nat_le doc.seqno mark) as (λ b. nat_le doc.seqno mark ≡ b → cond b (cond (nodes.is_full_eviction eviction || doc.deleted) 0 (blocks (length node.key))) (nodes.node_blocks node) ≡ cond (nat_lt mark doc.seqno) (doc_blocks node.key doc) (clean_blocks eviction node.key doc)) [
      | true ↦ λ low.
          let t : nat_lt mark doc.seqno ≡ false = grind (arith, nat_tests) in
          clean eviction doc.deleted ∙ sym (ap (λ b. cond b (doc_blocks node.key doc) (clean_blocks eviction node.key doc)) t)
      | false ↦ λ high.
          let t : nat_lt mark doc.seqno ≡ true = grind (arith, nat_tests) in
          ap (λ n. blocks (length node.key) + n) (resident node.value value away high) ∙ sym (ap (λ b. cond b (doc_blocks node.key doc) (clean_blocks eviction node.key doc)) t)
    ] refl)
  where
    clean : (e : Eviction) (deleted : Bool)
        → cond (nodes.is_full_eviction e || deleted) 0 (blocks (length node.key)) ≡ clean_blocks e node.key (record doc { deleted = deleted })
    clean Value true = refl
    clean Value false = refl
    clean Full deleted = refl

    resident : (v : Option (List ℕ)) → IsShownValue doc v → IsAwayBelow mark node v → nat_le doc.seqno mark ≡ false
        → value_blocks v ≡ blocks (length doc.value)
    resident None of below high = absurd (let e = ap (λ m. m.seqno) meta in let l = below.0 in let t : nat_le doc.seqno mark ≡ true = grind (arith, nat_tests) in cc)
    resident (Some v) of below high = ap (λ l. blocks (length l)) of

gone_count : (eviction : Eviction) (mark : ℕ) (key : List ℕ) (doc : Doc) → IsGone eviction mark (Some doc)
    → pinned_blocks eviction mark key doc ≡ 0
gone_count Value mark key doc gone =
    let low = gone.0 in
    let t : nat_lt mark doc.seqno ≡ false = grind (arith, nat_tests) in
    ap (λ b. cond b (doc_blocks key doc) (cond doc.deleted 0 (blocks (length key)))) t ∙ ap (λ b. cond b 0 (blocks (length key))) gone.1
gone_count Full mark key doc low =
    let t : nat_lt mark doc.seqno ≡ false = grind (arith, nat_tests) in
    ap (λ b. cond b (doc_blocks key doc) 0) t

restricted : (docs : Docs) (test : List ℕ → Bool) (q : List ℕ)
    → get (finmap.retain_keys docs test) q ≡ cond (test q) (get docs q) None
restricted docs test q = get-retain_keys docs test q (λ x tied. ap test (sym (antisymmetric q x tied)))

-- The blocks of other keys that no ejecting frees are those that the history says.
module _ (f : FrontData) (stripe : ℕ) (key : List ℕ) (s : StripeData) (h : TableStands f stripe s) (shown : TableShows f stripe s) (opened : (world_of f).opened ≡ true) (apart : AreApart s.slots)
    (layout : (world_of f).stripes ≡ f.config.stripes) (evicts : (world_of f).eviction ≡ f.config.eviction) where
  abbrev docs : Docs
  docs = others_in (world_of f).stripes stripe key (world_of f).docs

  abbrev g : Item → ℕ
  g x = pinned_blocks (world_of f).eviction (marked f stripe) x.0 x.1

  abbrev count : Slot → ℕ
  count slot = slot_pinned (world_of f).eviction (marked f stripe) slot

  -- a document of another key of this stripe
  inside : (other : List ℕ) → stripe_of other f.config.stripes ≡ stripe → bytes_eq other key ≡ false
      → get docs other ≡ get (world_of f).docs other
  inside other here differ =
      let t : is_other (world_of f).stripes stripe key other ≡ true =
      ap (λ b. b && not (bytes_eq other key)) ((Decides-eqb (stripe_of other (world_of f).stripes) stripe).1 (ap (λ n. stripe_of other n) layout ∙ here)) ∙ ap not differ in
      restricted (world_of f).docs (is_other (world_of f).stripes stripe key) other ∙ ap (λ b. cond b (get (world_of f).docs other) None) t

  slot_counted : (slot : Slot) → IsOwn s.slots slot → IsCounted g count key docs slot
  slot_counted None own = refl
  slot_counted (Some node) own = λ other.
      let found : node_at s.slots node.key ≡ Some node = node_first s.slots node.key ∙ own in
      let n = shown.nodes node.key node found in
      let at = h.nodes node.key node found in (
        n.doc,
        inside node.key at.here other ∙ n.found,
        node_count (world_of f).eviction (marked f stripe) node n.doc n.meta n.value at.away,
      )

  slots_counted : (slots : List Slot) → AllByRecursion (IsOwn s.slots) slots
      → AllByRecursion (IsCounted g count key docs) slots
  slots_counted [] own = tt
  slots_counted (slot ∷ slots) own = (slot_counted slot own.0, slots_counted slots own.1)

  -- a document without a node counts nothing
  rest : (other : List ℕ) (doc : Doc) → get docs other ≡ Some doc → has_key other s.slots ≡ false → g (other, doc) ≡ 0
  rest other doc found none = at (is_other (world_of f).stripes stripe key other) refl
    where
      at : (b : Bool) → is_other (world_of f).stripes stripe key other ≡ b → g (other, doc) ≡ 0
      at true t =
          let here : stripe_of other f.config.stripes ≡ stripe = ap (λ n. stripe_of other n) (sym layout) ∙ (Decides-eqb (stripe_of other (world_of f).stripes) stripe).0 (and_left (stripe_of other (world_of f).stripes == stripe) (not (bytes_eq other key)) t) in
          let there : get (world_of f).docs other ≡ Some doc = sym (restricted (world_of f).docs (is_other (world_of f).stripes stripe key) other ∙ ap (λ b. cond b (get (world_of f).docs other) None) t) ∙ found in
          let gone = shown.gone opened other here (node_first s.slots other ∙ not_keyed other s.slots none) in
          gone_count (world_of f).eviction (marked f stripe) other doc (subst (λ e. IsGone e (marked f stripe) (Some doc)) (sym evicts) (subst (λ (o : Option Doc). IsGone f.config.eviction (marked f stripe) o) there gone))
      at false t = absurd (let e : None ≡ Some doc = sym (restricted (world_of f).docs (is_other (world_of f).stripes stripe key) other ∙ ap (λ b. cond b (get (world_of f).docs other) None) t) ∙ found in cc)

  own_none : get docs key ≡ None
  own_none =
      let t : is_other (world_of f).stripes stripe key key ≡ false = ap (λ b. (stripe_of key (world_of f).stripes == stripe) && not b) ((bytes_eq-Decides key key).1 refl) ∙ and_false (stripe_of key (world_of f).stripes == stripe) in
      restricted (world_of f).docs (is_other (world_of f).stripes stripe key) key ∙ ap (λ b. cond b (get (world_of f).docs key) None) t
    where
      and_false : (b : Bool) → (b && false) ≡ false
      and_false true = refl
      and_false false = refl

  pub pinned_is : pinned (world_of f) stripe (marked f stripe) key ≡ others_pinned s.eviction s.mark key s.slots
  pinned_is =
      sum_slots g count key docs s.slots refl own_none apart (slots_counted s.slots (own_all s.slots apart)) rest
      ∙ ap (λ e. others_pinned e (marked f stripe) key s.slots) (evicts ∙ sym h.eviction)
      ∙ ap (λ m. others_pinned s.eviction m key s.slots) (sym h.mark)
