-- Slots as documents are ejected and put.
use Rattle.std.proofs.Common.{◌≡◌, ◌<◌, ◌≤◌, ℕ, suc, zero, ◌+◌, ◌∙◌, Bool, true, false, not, cond, ◌&&◌, ◌||◌, List, [], ◌∷◌, length, get_or, nat_eq, nat_le, refl, sym, ap, subst, add-one, arith}
use Rattle.std.proofs.Math.ListN.{set}
use Rattle.std.specs.Prelude.{Option, Some, None, map, count_by, take}
use Rattle.std.specs.Int.{from_bool}
use Rattle.std.proofs.lemmas.List.{take_all}
use Rattle.std.proofs.lemmas.List.Sums.{sum_by_more}
use Rattle.std.specs.List.{position_from}
use Rattle.std.specs.Option.{is_none}
use Rattle.std.specs.Str.{bytes_eq}
use Rattle.std.proofs.lemmas.Bool.{and_parts}
use Rattle.std.proofs.lemmas.Slice.Eq.{bytes_eq-Decides}
use Rattle.std.proofs.lemmas.List.{length-set, set-set}
use Rattle.ep_model.specs.declared.config.Eviction.{Eviction}
use Rattle.ep_model.specs.World.{blocks}
use Rattle.hash_stripe.specs.Nodes.{NodeData, Slot, sum_of, used, at, slot_blocks, node_blocks, is_clean, slot_pinned, others_pinned, is_keyed, slot_of, node_in, others_blocks, is_ejectable, is_ejectable_slot, is_full_eviction, eject_slot, eject_at, is_victim, first_of_age, or_else, victim, Ejects, EjectsOthers, first_empty, placed, with_slot, cooled}
use Rattle.hash_stripe.specs.Stripes.{has_key, IsApart, AreApart, AreKeyed}
use Rattle.hash_stripe.proofs.ChainLemmas.{sum_of-set}

-- where a test first passes
pub first : (test : Slot → Bool) (xs : List Slot) (n m : ℕ) → position_from test n xs ≡ Some m → (i : ℕ) × (n + i ≡ m) × (i < length xs) × (test (at xs i) ≡ true)
first test [] n m e = absurd (cc)
first test (x ∷ xs) n m e =
    elim (test x) as (λ b. test x ≡ b → cond b (Some n) (position_from test (n + 1) xs) ≡ Some m → (i : ℕ) × (n + i ≡ m) × (i < length (x ∷ xs)) × (test (at (x ∷ xs) i) ≡ true)) [
      | true ↦ λ is e. (0, (let same : n ≡ m = cc in omega arith), omega arith, is)
      | false ↦ λ is e. let r = first test xs (n + 1) m e in (suc r.0, omega arith, omega arith, r.3)
    ] refl e

pub first-slot : (test : Slot → Bool) (xs : List Slot) (m : ℕ) → position_from test 0 xs ≡ Some m → (m < length xs) × (test (at xs m) ≡ true)
first-slot test xs m e =
    let r = first test xs 0 m e in
    let same : r.0 ≡ m = omega arith in
    (omega arith, subst (λ (k : ℕ). test (at xs k) ≡ true) same r.3)

-- which slots a search that finds nothing has passed
pub passed : (test : Slot → Bool) (xs : List Slot) (n : ℕ) → position_from test n xs ≡ None → (k : ℕ) → k < length xs → test (at xs k) ≡ false
passed test [] n e k h = absurd (omega arith)
passed test (x ∷ xs) n e zero h =
    elim (test x) as (λ b. cond b (Some n) (position_from test (n + 1) xs) ≡ None → b ≡ false) [ true ↦ λ e. absurd (cc) | false ↦ λ e. refl ] e
passed test (x ∷ xs) n e (suc k) h =
    elim (test x) as (λ b. cond b (Some n) (position_from test (n + 1) xs) ≡ None → test (at xs k) ≡ false) [
      | true ↦ λ e. absurd (cc)
      | false ↦ λ e. passed test xs (n + 1) e k (omega arith)
    ] e

-- the nodes of other keys take what all take, where the key has none
pub others-all : (key : List ℕ) (slots : List Slot) → has_key key slots ≡ false → others_blocks key slots ≡ used slots
others-all key [] none = refl
others-all key (s ∷ slots) none =
    elim (is_keyed key s) as (λ b. (b || has_key key slots) ≡ false → cond b 0 (slot_blocks s) + others_blocks key slots ≡ slot_blocks s + used slots) [
      | true ↦ λ e. absurd (cc)
      | false ↦ λ e. ap (λ n. slot_blocks s + n) (others-all key slots e)
    ] none

pub keyed-has : (key : List ℕ) (slots : List Slot) (i : ℕ) → i < length slots → is_keyed key (at slots i) ≡ true → has_key key slots ≡ true
keyed-has key [] i h is = absurd (omega arith)
keyed-has key (s ∷ slots) zero h is = ap (λ b. b || has_key key slots) is
keyed-has key (s ∷ slots) (suc i) h is =
    elim (is_keyed key s) as (λ b. (b || has_key key slots) ≡ true) [ true ↦ refl | false ↦ keyed-has key slots i (omega arith) is ]

-- the node of a key stands in no later slot
pub apart-key : (key : List ℕ) (s : Slot) (slots : List Slot) → is_keyed key s ≡ true → IsApart s slots → has_key key slots ≡ false
apart-key key None slots is apart = absurd (cc)
apart-key key (Some node) slots is apart =
    subst (λ (k : List ℕ). has_key k slots ≡ false) ((bytes_eq-Decides node.key key).0 is) apart

-- what all take is what the nodes of other keys take and what the key's takes
pub used-split : (key : List ℕ) (slots : List Slot) (i : ℕ) → AreApart slots → i < length slots → is_keyed key (at slots i) ≡ true → used slots ≡ others_blocks key slots + slot_blocks (at slots i)
used-split key [] i apart h is = absurd (omega arith)
used-split key (s ∷ slots) zero apart h is =
    let rest = others-all key slots (apart-key key s slots is apart.0) in
    let here : cond (is_keyed key s) 0 (slot_blocks s) ≡ 0 = ap (λ (b : Bool). cond {A = ℕ} b 0 (slot_blocks s)) is in
    omega arith
used-split key (s ∷ slots) (suc i) apart h is =
    elim (is_keyed key s) as (λ b. is_keyed key s ≡ b → slot_blocks s + used slots ≡ cond b 0 (slot_blocks s) + others_blocks key slots + slot_blocks (at slots i)) [
      | true ↦ λ e.
          let none = apart-key key s slots e apart.0 in
          let some = keyed-has key slots i (omega arith) is in
          absurd (cc)
      | false ↦ λ e. let rest = used-split key slots i apart.1 (omega arith) is in omega arith
    ] refl

pub none-has : (key : List ℕ) (slots : List Slot) (n : ℕ) → position_from (is_keyed key) n slots ≡ None → has_key key slots ≡ false
none-has key [] n e = refl
none-has key (s ∷ slots) n e =
    elim (is_keyed key s) as (λ b. cond b (Some n) (position_from (is_keyed key) (n + 1) slots) ≡ None → (b || has_key key slots) ≡ false) [
      | true ↦ λ e. absurd (cc)
      | false ↦ λ e. none-has key slots (n + 1) e
    ] e

pub split-of : (key : List ℕ) (slots : List Slot) (o : Option ℕ) → slot_of slots key ≡ o → AreApart slots → used slots ≡ others_blocks key slots + slot_blocks (node_in slots o)
split-of key slots None e apart = let rest = others-all key slots (none-has key slots 0 e) in omega arith
split-of key slots (Some i) e apart = let f = first-slot (is_keyed key) slots i e in used-split key slots i apart f.0 f.1

-- what is known of the document that is ejected next
pub record IsNext (mark : ℕ) (key : List ℕ) (slots : List Slot) (i : ℕ) : Type 0 where
  pub inside : i < length slots
  pub may : is_ejectable_slot mark (at slots i) ≡ true
  pub other : is_keyed key (at slots i) ≡ false

unlike : (b : Bool) → not b ≡ true → b ≡ false
unlike true e = absurd (cc)
unlike false e = refl

victim-facts : (mark : ℕ) (key : List ℕ) (age : ℕ) (s : Slot) → is_victim mark key age s ≡ true → (is_ejectable_slot mark s ≡ true) × (is_keyed key s ≡ false)
victim-facts mark key age None is = absurd (cc)
victim-facts mark key age (Some node) is =
    let parts = and_parts (is_ejectable mark node) (not (bytes_eq node.key key) && nat_eq node.age age) is in
    (parts.0, unlike (bytes_eq node.key key) ((and_parts (not (bytes_eq node.key key)) (nat_eq node.age age) parts.1).0))

aged-next : (mark : ℕ) (key : List ℕ) (age : ℕ) (slots : List Slot) (i : ℕ) → first_of_age mark key age slots ≡ Some i → IsNext mark key slots i
aged-next mark key age slots i e =
    let f = first-slot (is_victim mark key age) slots i e in
    let v = victim-facts mark key age (at slots i) f.1 in
    record { inside = f.0; may = v.0; other = v.1 }

either : {P : Type 0} (a b : Option ℕ) (i : ℕ) → or_else a b ≡ Some i → (a ≡ Some i → P) → (b ≡ Some i → P) → P
either None b i e left right = right e
either (Some x) b i e left right = left e

pub next-facts : (mark : ℕ) (key : List ℕ) (slots : List Slot) (i : ℕ) → victim mark key slots ≡ Some i → IsNext mark key slots i
next-facts mark key slots i e =
    either (first_of_age mark key 3 slots) (or_else (first_of_age mark key 2 slots) (or_else (first_of_age mark key 1 slots) (first_of_age mark key 0 slots))) i e
    (aged-next mark key 3 slots i)
    (λ e. either (first_of_age mark key 2 slots) (or_else (first_of_age mark key 1 slots) (first_of_age mark key 0 slots)) i e
    (aged-next mark key 2 slots i)
    (λ e. either (first_of_age mark key 1 slots) (first_of_age mark key 0 slots) i e (aged-next mark key 1 slots i) (aged-next mark key 0 slots i)))

-- ejecting one document of another key
pub ejected-keyed : (e : Eviction) (key : List ℕ) (s : Slot) → is_keyed key s ≡ false → is_keyed key (eject_slot e s) ≡ false
ejected-keyed e key None other = refl
ejected-keyed e key (Some node) other =
    elim (is_full_eviction e || node.meta.deleted) as (λ b. is_keyed key (cond b None (Some (record node { value = None }))) ≡ false) [ true ↦ refl | false ↦ other ]

-- the blocks that another key's slot counts for the others are all its blocks
other-counts : (key : List ℕ) (s : Slot) → is_keyed key s ≡ false → cond (is_keyed key s) 0 (slot_blocks s) ≡ slot_blocks s
other-counts key s other = ap (λ (b : Bool). cond {A = ℕ} b 0 (slot_blocks s)) other

pub own-stays : (e : Eviction) (mark : ℕ) (key : List ℕ) (slots : List Slot) (i own : ℕ) → IsNext mark key slots i → used slots ≡ others_blocks key slots + own → used (eject_at e slots i) ≡ others_blocks key (eject_at e slots i) + own
own-stays e mark key slots i own next split =
    let new = eject_slot e (at slots i) in
    let all = sum_of-set slot_blocks slots i new None next.inside in
    let others = sum_of-set (λ (s : Slot). cond (is_keyed key s) 0 (slot_blocks s)) slots i new None next.inside in
    let was = other-counts key (at slots i) next.other in
    let is = other-counts key new (ejected-keyed e key (at slots i) next.other) in
    omega arith

-- how many documents may be ejected
abbrev pub ejectables : ℕ → List Slot → ℕ
ejectables mark slots = sum_of (λ (s : Slot). cond (is_ejectable_slot mark s) 1 0) slots

bare : (mark : ℕ) (clean deleted : Bool) → deleted ≡ false → (clean && (false || deleted)) ≡ false
bare mark true deleted is = is
bare mark false deleted is = refl

pub no-more : (e : Eviction) (mark : ℕ) (s : Slot) → is_ejectable_slot mark (eject_slot e s) ≡ false
no-more e mark None = refl
no-more e mark (Some node) =
    elim node.meta.deleted as (λ d. node.meta.deleted ≡ d → is_ejectable_slot mark (cond (is_full_eviction e || d) None (Some (record node { value = None }))) ≡ false) [
      | true ↦ λ is. elim (is_full_eviction e) as (λ b. is_ejectable_slot mark (cond (b || true) None (Some (record node { value = None }))) ≡ false) [ true ↦ refl | false ↦ refl ]
      | false ↦ λ is. elim (is_full_eviction e) as (λ b. is_ejectable_slot mark (cond (b || false) None (Some (record node { value = None }))) ≡ false) [
        | true ↦ refl
        | false ↦ bare mark (nat_le node.meta.seqno mark) node.meta.deleted is
      ]
    ] refl

pub ejectables-fall : (e : Eviction) (mark : ℕ) (key : List ℕ) (slots : List Slot) (i : ℕ) → IsNext mark key slots i → ejectables mark (eject_at e slots i) < ejectables mark slots
ejectables-fall e mark key slots i next =
    let new = eject_slot e (at slots i) in
    let sums = sum_of-set (λ (s : Slot). cond {A = ℕ} (is_ejectable_slot mark s) 1 0) slots i new None next.inside in
    let was : cond {A = ℕ} (is_ejectable_slot mark (at slots i)) 1 0 ≡ 1 = ap (λ (b : Bool). cond {A = ℕ} b 1 0) next.may in
    let is : cond {A = ℕ} (is_ejectable_slot mark new) 1 0 ≡ 0 = ap (λ (b : Bool). cond {A = ℕ} b 1 0) (no-more e mark (at slots i)) in
    omega arith

-- one document more
pub ejects-more : (e : Eviction) (mark : ℕ) (key : List ℕ) (need n : ℕ) (old mid : List Slot) (i : ℕ) → Ejects e mark key need n old mid → victim mark key mid ≡ Some i → length mid < others_blocks key mid + need → Ejects e mark key need (suc n) old (eject_at e mid i)
ejects-more e mark key need zero old mid i same next short =
    (i, ap (victim mark key) (sym same) ∙ next, subst (λ (s : List Slot). length s < others_blocks key s + need) same short, ap (λ (s : List Slot). eject_at e s i) same)
ejects-more e mark key need (suc n) old mid i chain next short =
    (chain.0, chain.1, chain.2, ejects-more e mark key need n (eject_at e old chain.0) mid i chain.3 next short)

-- how far room is made: documents were ejected, and what all take is what those of other keys take, and `own`
pub record MakesRoom (e : Eviction) (mark : ℕ) (key : List ℕ) (need own : ℕ) (old new : List Slot) : Type 0 where
  pub chain : EjectsOthers e mark key need old new
  pub split : used new ≡ others_blocks key new + own

pub made-more : (e : Eviction) (mark : ℕ) (key : List ℕ) (need own : ℕ) (old mid new : List Slot) (o : Option ℕ) (i : ℕ) → MakesRoom e mark key need own old mid → length mid < others_blocks key mid + need → o ≡ victim mark key mid → o ≡ Some i → new ≡ eject_at e mid i → MakesRoom e mark key need own old new × (ejectables mark new < ejectables mark mid)
made-more e mark key need own old mid new o i made short o-is some new-is =
    let is : victim mark key mid ≡ Some i = sym o-is ∙ some in
    let next = next-facts mark key mid i is in
    let all : MakesRoom e mark key need own old (eject_at e mid i) × (ejectables mark (eject_at e mid i) < ejectables mark mid) = (
      record {
        chain = record { count = suc made.chain.count; chain = ejects-more e mark key need made.chain.count old mid i made.chain.chain is short };
        split = own-stays e mark key mid i own next made.split;
      },
      ejectables-fall e mark key mid i next,
    ) in
    subst (λ (s : List Slot). MakesRoom e mark key need own old s × (ejectables mark s < ejectables mark mid)) (sym new-is) all

-- an empty slot
none-slot : (s : Slot) → is_none s ≡ true → s ≡ None
none-slot None is = refl
none-slot (Some node) is = absurd (cc)

pub empty-slot : (slots : List Slot) (o : Option ℕ) (i : ℕ) → o ≡ first_empty slots → o ≡ Some i → at slots i ≡ None
empty-slot slots o i o-is some = none-slot (at slots i) ((first-slot is_none slots i (sym o-is ∙ some)).1)

filled-up : (slots : List Slot) → AreKeyed slots → ((k : ℕ) → k < length slots → is_none (at slots k) ≡ false) → length slots ≤ used slots
filled-up [] keyed full = omega arith
filled-up (None ∷ slots) keyed full = absurd (let e = full 0 (omega arith) in cc)
filled-up (Some node ∷ slots) keyed full =
    let rest = filled-up slots keyed.1 (λ k h. full (suc k) (omega arith)) in
    let here = keyed.0 in
    omega arith

-- where nothing is empty, nothing is free
pub no-empty : (slots : List Slot) (o : Option ℕ) → AreKeyed slots → o ≡ first_empty slots → o ≡ None → length slots ≤ used slots
no-empty slots o keyed o-is none = filled-up slots keyed (passed is_none slots 0 (sym o-is ∙ none))

pub clear-room : (key : List ℕ) (slots new : List Slot) (o : Option ℕ) (i need : ℕ) → AreApart slots → o ≡ slot_of slots key → o ≡ Some i → others_blocks key slots + need ≤ length slots → new ≡ set slots i None → used new + need ≤ length new
clear-room key slots new o i need apart o-is some fits new-is =
    let f = first-slot (is_keyed key) slots i (sym o-is ∙ some) in
    let split = used-split key slots i apart f.0 f.1 in
    let sums = sum_of-set slot_blocks slots i None None f.0 in
    let len = length-set {A = Slot} slots i None in
    let all : used (set slots i None) + need ≤ length (set slots i None) = omega arith in
    subst (λ (s : List Slot). used s + need ≤ length s) (sym new-is) all

pub absent-room : (key : List ℕ) (slots : List Slot) (o : Option ℕ) (need : ℕ) → o ≡ slot_of slots key → o ≡ None → others_blocks key slots + need ≤ length slots → used slots + need ≤ length slots
absent-room key slots o need o-is none fits =
    let same = others-all key slots (none-has key slots 0 (sym o-is ∙ none)) in
    omega arith

pub put-there : (slots mid new : List Slot) (o : Option ℕ) (i : ℕ) (node : NodeData) → o ≡ slot_of slots node.key → o ≡ Some i → mid ≡ set slots i None → new ≡ set mid i (Some node) → new ≡ placed slots node
put-there slots mid new o i node o-is some mid-is new-is =
    new-is
    ∙ ap (λ (s : List Slot). set s i (Some node)) mid-is
    ∙ set-set slots i None (Some node)
    ∙ ap (λ (x : Option ℕ). with_slot slots (or_else x (first_empty slots)) (Some node)) (sym some ∙ o-is)

-- the first so many nodes are one older
abbrev pub cooled_to : ℕ → List Slot → List Slot
cooled_to zero slots = slots
cooled_to (suc n) [] = []
cooled_to (suc n) (s ∷ slots) = cooled s ∷ cooled_to n slots

cooled-step : (slots : List Slot) (i : ℕ) → i < length slots → set (cooled_to i slots) i (cooled (at (cooled_to i slots) i)) ≡ cooled_to (suc i) slots
cooled-step [] i h = absurd (omega arith)
cooled-step (s ∷ slots) zero h = refl
cooled-step (s ∷ slots) (suc i) h = ap (λ (ss : List Slot). cooled s ∷ ss) (cooled-step slots i (omega arith))

pub cooled-more : (old mid new : List Slot) (i : ℕ) → i < length old → mid ≡ cooled_to i old → new ≡ set mid i (cooled (at mid i)) → new ≡ cooled_to (i + 1) old
cooled-more old mid new i h mid-is new-is =
    new-is
    ∙ ap (λ (s : List Slot). set s i (cooled (at s i))) mid-is
    ∙ cooled-step old i h
    ∙ ap (λ n. cooled_to n old) (sym (add-one i))

pub cooled-length : (slots : List Slot) (n : ℕ) → length (cooled_to n slots) ≡ length slots
cooled-length slots zero = refl
cooled-length [] (suc n) = refl
cooled-length (s ∷ slots) (suc n) = ap suc (cooled-length slots n)

pub cooled-all : (slots : List Slot) (n : ℕ) → length slots ≤ n → cooled_to n slots ≡ map cooled slots
cooled-all [] zero h = refl
cooled-all [] (suc n) h = refl
cooled-all (s ∷ slots) zero h = absurd (omega arith)
cooled-all (s ∷ slots) (suc n) h = ap (λ (ss : List Slot). cooled s ∷ ss) (cooled-all slots n (omega arith))

-- how many of the first so many pass a test
pub record Counts (test : Slot → Bool) (slots : List Slot) (i n : ℕ) : Type 0 where
  pub count : n ≡ count_by test (take i slots)
  pub few : n ≤ i

one-of : (b : Bool) (n : ℕ) → n ≡ from_bool b → (n ≡ cond b 1 0) × (n ≤ 1)
one-of true n is = (is, omega arith)
one-of false n is = (is, omega arith)

pub counts-more : (test : Slot → Bool) (slots : List Slot) (i n m : ℕ) (b : Bool) → Counts test slots i n → i < length slots → b ≡ test (at slots i) → m ≡ from_bool b → Counts test slots (i + 1) (n + m)
counts-more test slots i n m b counts h b-is m-is =
    let one = one-of b m m-is in
    record {
      count =
          let here : m ≡ cond (test (at slots i)) 1 0 = one.0 ∙ ap (λ (t : Bool). cond {A = ℕ} t 1 0) b-is in
          let more = sum_by_more (λ (s : Slot). cond {A = ℕ} (test s) 1 0) slots i None h in
          let so-far = counts.count in
          omega arith;
      few = (let few = counts.few in let m-few = one.1 in omega arith);
    }

pub counts-all : (test : Slot → Bool) (slots : List Slot) (i n : ℕ) → length slots ≤ i → Counts test slots i n → n ≡ count_by test slots
counts-all test slots i n h counts = counts.count ∙ ap (count_by test) (take_all i slots h)

-- a node's pinned blocks are among its blocks
slot-pinned-within : (e : Eviction) (mark : ℕ) (s : Slot) → slot_pinned e mark s ≤ slot_blocks s
slot-pinned-within e mark None = omega arith
slot-pinned-within e mark (Some node) =
    elim (is_clean mark node) as (λ b. cond b (cond (is_full_eviction e || node.meta.deleted) 0 (blocks (length node.key))) (node_blocks node) ≤ node_blocks node) [
      | true ↦ elim (is_full_eviction e || node.meta.deleted) as (λ b. cond b 0 (blocks (length node.key)) ≤ node_blocks node) [ true ↦ omega arith | false ↦ omega arith ]
      | false ↦ omega arith
    ]

-- what the first so many slots pin beside a key's
pub record Pins (e : Eviction) (mark : ℕ) (key : List ℕ) (slots : List Slot) (i n : ℕ) : Type 0 where
  pub sum : n ≡ others_pinned e mark key (take i slots)
  pub few : n ≤ used (take i slots)

sum_of-take : {X : Type 0} (count : X → ℕ) (xs : List X) (i : ℕ) (d : X) → i < length xs → sum_of count (take (i + 1) xs) ≡ sum_of count (take i xs) + count (get_or xs i d)
sum_of-take count [] i d h = absurd (omega arith)
sum_of-take count (x ∷ xs) zero d h = omega arith
sum_of-take count (x ∷ xs) (suc i) d h =
    let rest = sum_of-take count xs i d (omega arith) in
    let same : suc i + 1 ≡ suc (i + 1) = omega arith in
    let later : sum_of count (take (suc i + 1) (x ∷ xs)) ≡ count x + sum_of count (take (i + 1) xs) = ap (λ k. sum_of count (take k (x ∷ xs))) same in
    omega arith

sum_of-taken : {X : Type 0} (count : X → ℕ) (xs : List X) (i : ℕ) → sum_of count (take i xs) ≤ sum_of count xs
sum_of-taken count [] zero = omega arith
sum_of-taken count [] (suc i) = omega arith
sum_of-taken count (x ∷ xs) zero = omega arith
sum_of-taken count (x ∷ xs) (suc i) = let rest = sum_of-taken count xs i in omega arith

pub pins-none : (e : Eviction) (mark : ℕ) (key : List ℕ) (slots : List Slot) → Pins e mark key slots 0 0
pins-none e mark key slots = record { sum = refl; few = omega arith }

pub pins-more : (e : Eviction) (mark : ℕ) (key : List ℕ) (slots : List Slot) (i n m : ℕ) → Pins e mark key slots i n → i < length slots → m ≡ cond (is_keyed key (at slots i)) 0 (slot_pinned e mark (at slots i)) → Pins e mark key slots (i + 1) (n + m)
pins-more e mark key slots i n m pins h m-is =
    let more = sum_of-take (λ (s : Slot). cond (is_keyed key s) 0 (slot_pinned e mark s)) slots i None h in
    let blocks = sum_of-take slot_blocks slots i None h in
    let within : m ≤ slot_blocks (at slots i) =
    subst (λ k. k ≤ slot_blocks (at slots i)) (sym m-is) (elim (is_keyed key (at slots i)) as (λ b. cond b 0 (slot_pinned e mark (at slots i)) ≤ slot_blocks (at slots i)) [ true ↦ omega arith | false ↦ slot-pinned-within e mark (at slots i) ]) in
    let s = pins.sum in
    let f = pins.few in
    record { sum = omega arith; few = omega arith }

pub pins-few : (e : Eviction) (mark : ℕ) (key : List ℕ) (slots : List Slot) (i n : ℕ) → Pins e mark key slots i n → n ≤ used slots
pins-few e mark key slots i n pins = let a = sum_of-taken slot_blocks slots i in let b = pins.few in omega arith

pub pins-all : (e : Eviction) (mark : ℕ) (key : List ℕ) (slots : List Slot) (i n : ℕ) → length slots ≤ i → Pins e mark key slots i n → n ≡ others_pinned e mark key slots
pins-all e mark key slots i n h pins = pins.sum ∙ ap (others_pinned e mark key) (take_all i slots h)
