-- What a table's calls show and leave.
use Rattle.std.proofs.Common.{◌≡◌, ◌<◌, ◌≤◌, ℕ, suc, zero, ◌+◌, ◌∙◌, Bool, true, false, cond, List, [], ◌∷◌, ◌++◌, length, refl, sym, ap, subst, arith}
use Rattle.std.proofs.Math.ListN.{set, get_or-map}
use Rattle.std.specs.Prelude.{Option, Some, None, MatchOption, slice_get, take, drop, replicate, IsTrue, IsNone, ◌↔◌}
use Rattle.std.specs.List.{position_from}
use Rattle.std.specs.Option.{option_map, option_copied, is_none}
use Rattle.std.specs.Str.{bytes_eq}
use Rattle.std.specs.Borrow.{Bor}
use Rattle.std.proofs.lemmas.Bool.Decides.{same_from_decides}
use Rattle.std.proofs.lemmas.Slice.Eq.{bytes_eq-Decides}
use Rattle.std.proofs.lemmas.List.{get_or-set_same, length-set, map-set, set-set, length-append, length-take, length-take-le, length-drop, append_assoc, take-append-drop, take_at, drop_at, drop-drop, append-nil}
use Rattle.std.proofs.lemmas.Option.{slice_get_within, get_or_from_slice_get, slice_get-get_or}
use Rattle.ep_model.specs.declared.call.Meta.{Meta}
use Rattle.value_pool.specs.Pools.{Held, blocks_of, all_free, Puts, TakesBack}
use Rattle.stored_value.specs.declared.node.Node.{Node}
use Rattle.hash_stripe.specs.Nodes.{NodeData, Slot, used, at, slot_blocks, is_keyed, aged}
use Rattle.hash_stripe.specs.Looks.{without_value}
use Rattle.hash_stripe.specs.Chains.{NodePlace, text, slot_in, slots_of, value_chains, place_chains, IsKept}
use Rattle.hash_stripe.proofs.ChainLemmas.{puts-kept, backs-kept, swap-kept, Leaves, new-kept, slots-empty}

-- a slot shows what is in its place
pub shown : (texts : List (List ℕ)) (places : List NodePlace) (s : List Slot) (i : ℕ) (place : NodePlace) → slots_of texts places ≡ s → slice_get places i ≡ Some place → at s i ≡ slot_in texts place
shown texts places s i place view is =
    ap (λ (ss : List Slot). at ss i) (sym view)
    ∙ get_or-map (slot_in texts) places i None
    ∙ ap (slot_in texts) (get_or_from_slice_get places i place None is)

pub keyed : (texts : List (List ℕ)) (places : List NodePlace) (s : List Slot) (i : ℕ) (o : Option (Bor (Node ℕ))) (node : Bor (Node ℕ)) (key : List ℕ) (r : Bool) → slots_of texts places ≡ s → slice_get places i ≡ Some (option_copied o) → o ≡ Some node → IsTrue r ↔ (text texts node.now.key ≡ key) → r ≡ is_keyed key (at s i)
keyed texts places s i o node key r view is some equals =
    same_from_decides r (bytes_eq (text texts node.now.key) key) (equals.0, equals.1) (bytes_eq-Decides (text texts node.now.key) key)
    ∙ sym (ap (is_keyed key) (shown texts places s i (Some node.now) view (is ∙ ap (λ (x : Option (Bor (Node ℕ))). Some (option_copied x)) some)))

pub slot_blocks-within : (slots : List Slot) (i : ℕ) → slot_blocks (at slots i) ≤ used slots
slot_blocks-within [] i = omega arith
slot_blocks-within (s ∷ slots) zero = omega arith
slot_blocks-within (s ∷ slots) (suc i) = let rest = slot_blocks-within slots i in omega arith

value-blocked : (texts : List (List ℕ)) (key : ℕ) (meta : Meta) (age : ℕ) (v : Option ℕ) (a b : ℕ) → a ≡ blocks_of (length (text texts key)) → MatchOption v (b ≡ 0) (λ c. b ≡ blocks_of (length (text texts c))) → a + b ≡ slot_blocks (Some (record { key = text texts key; meta = meta; value = option_map (text texts) v; age = age }))
value-blocked texts key meta age None a b a-is b-is = omega arith
value-blocked texts key meta age (Some c) a b a-is b-is = omega arith

pub blocked : (texts : List (List ℕ)) (places : List NodePlace) (s : List Slot) (i : ℕ) (o : Option (Bor (Node ℕ))) (node : Bor (Node ℕ)) (a b : ℕ) → slots_of texts places ≡ s → slice_get places i ≡ Some (option_copied o) → o ≡ Some node → a ≡ blocks_of (length (text texts node.now.key)) → MatchOption node.now.value (b ≡ 0) (λ c. b ≡ blocks_of (length (text texts c))) → a + b ≡ slot_blocks (at s i)
blocked texts places s i o node a b view is some a-is b-is =
    value-blocked texts node.now.key node.now.meta node.now.age node.now.value a b a-is b-is
    ∙ sym (ap slot_blocks (shown texts places s i (Some node.now) view (is ∙ ap (λ (x : Option (Bor (Node ℕ))). Some (option_copied x)) some)))

pub blocked-few : (p : Held) (places : List NodePlace) (s : List Slot) (i n : ℕ) → IsKept p places [] → slots_of p.texts places ≡ s → n ≡ slot_blocks (at s i) → n ≤ 16777216
blocked-few p places s i n kept view is =
    let within = slot_blocks-within s i in
    let same : used (slots_of p.texts places) ≡ used s = ap used view in
    let exact = kept.exact in
    let few = kept.few in
    omega arith

pub none-empty : (texts : List (List ℕ)) (places : List NodePlace) (n : ℕ) → position_from is_none n places ≡ position_from is_none n (slots_of texts places)
none-empty texts [] n = refl
none-empty texts (None ∷ places) n = refl
none-empty texts (Some node ∷ places) n = none-empty texts places (n + 1)

-- a loop that looks from the first slot on
pub position-at : (test : Slot → Bool) (xs : List Slot) (n m i : ℕ) → m ≡ n + i → ((k : ℕ) → k < i → test (at xs k) ≡ false) → i < length xs → test (at xs i) ≡ true → Some m ≡ position_from test n xs
position-at test [] n m i m-is below inside here = absurd (omega arith)
position-at test (x ∷ xs) n m zero m-is below inside here =
    let same : m ≡ n = omega arith in
    ap (λ (k : ℕ). Some k) same ∙ sym (ap (λ b. cond b (Some n) (position_from test (n + 1) xs)) here)
position-at test (x ∷ xs) n m (suc i) m-is below inside here =
    position-at test xs (n + 1) m i (omega arith) (λ k h. below (suc k) (omega arith)) (omega arith) here
    ∙ sym (ap (λ b. cond b (Some n) (position_from test (n + 1) xs)) (below 0 (omega arith)))

pub position-none : (test : Slot → Bool) (xs : List Slot) (n : ℕ) → ((k : ℕ) → k < length xs → test (at xs k) ≡ false) → None ≡ position_from test n xs
position-none test [] n below = refl
position-none test (x ∷ xs) n below =
    position-none test xs (n + 1) (λ k h. below (suc k) (omega arith))
    ∙ sym (ap (λ b. cond b (Some n) (position_from test (n + 1) xs)) (below 0 (omega arith)))

emptied : (places : List NodePlace) (i : ℕ) → i < length places → slice_get (set places i None) i ≡ Some None
emptied places i inside =
    slice_get-get_or (set places i None) i None (let same = length-set {A = NodePlace} places i None in omega arith)
    ∙ ap (λ (x : NodePlace). Some x) (get_or-set_same places i None None inside)

-- a table as a call leaves it: it is kept, and shows these slots
pub record Holds (p : Held) (places : List NodePlace) (s : List Slot) : Type 0 where
  pub kept : IsKept p places []
  pub view : slots_of p.texts places ≡ s

-- a place that was empty is emptied
pub none-changed : (p : Held) (places new : List NodePlace) (s : List Slot) (i : ℕ) (f : Slot → Slot) → f None ≡ None → IsKept p places [] → slots_of p.texts places ≡ s → slice_get places i ≡ Some None → new ≡ set places i None → Holds p new (set s i (f (at s i)))
none-changed p places new s i f f-is kept view is new-is =
    let there : f (at s i) ≡ None = ap f (shown p.texts places s i None view is) ∙ f-is in
    let all : Holds p (set places i None) (set s i None) = record {
      kept = swap-kept p places i None None is kept;
      view = map-set (slot_in p.texts) places i None ∙ ap (λ (ss : List Slot). set ss i None) view;
    } in
    subst (λ (ps : List NodePlace). Holds p ps (set s i (f (at s i)))) (sym new-is)
    (subst (λ (x : Slot). Holds p (set places i None) (set s i x)) (sym there) all)

-- a node is taken out, and with the pool in another state a changed one is put in, whose chains are what is loose
put-in : (p q : Held) (places : List NodePlace) (s : List Slot) (i : ℕ) (node new : Node ℕ) → slice_get places i ≡ Some (Some node) → Leaves p q (set places i None) (node.key ∷ []) (place_chains (Some new)) → slots_of p.texts places ≡ s → Holds q (set (set places i None) i (Some new)) (set s i (slot_in q.texts (Some new)))
put-in p q places s i node new is left view =
    let inside = slice_get_within places i (Some node) is in
    record {
      kept = swap-kept q (set places i None) i None (Some new) (emptied places i inside) left.stands;
      view =
          map-set (slot_in q.texts) (set places i None) i (Some new)
          ∙ ap (λ (ss : List Slot). set ss i (slot_in q.texts (Some new))) (left.slots ∙ map-set (slot_in p.texts) places i None)
          ∙ set-set (slots_of p.texts places) i None (slot_in q.texts (Some new))
          ∙ ap (λ (ss : List Slot). set ss i (slot_in q.texts (Some new))) view;
    }

stays : (p : Held) (places : List NodePlace) (loose : List ℕ) (key : ℕ) → IsKept p places loose → Leaves p p places (key ∷ []) loose
stays p places loose key kept = record { stands = kept; slots = refl; same = (refl, tt) }

pub set-aged : (p : Held) (places first new : List NodePlace) (s : List Slot) (i : ℕ) (by : ℕ → ℕ) (node changed : Node ℕ) → IsKept p places [] → slots_of p.texts places ≡ s → slice_get places i ≡ Some (Some node) → first ≡ set places i None → changed ≡ record node { age = by node.age } → new ≡ set first i (Some changed) → Holds p new (set s i (aged by (at s i)))
set-aged p places first new s i by node changed kept view is first-is changed-is new-is =
    let out = swap-kept p places i (Some node) None is kept in
    let all = put-in p p places s i node (record node { age = by node.age }) is (stays p (set places i None) (place_chains (Some node)) node.key out) view in
    let there : aged by (at s i) ≡ slot_in p.texts (Some (record node { age = by node.age })) = ap (aged by) (shown p.texts places s i (Some node) view is) in
    let new-here : new ≡ set (set places i None) i (Some (record node { age = by node.age })) =
    new-is ∙ ap (λ (ps : List NodePlace). set ps i (Some changed)) first-is ∙ ap (λ (x : Node ℕ). set (set places i None) i (Some x)) changed-is in
    subst (λ (ps : List NodePlace). Holds p ps (set s i (aged by (at s i)))) (sym new-here)
    (subst (λ (x : Slot). Holds p (set (set places i None) i (Some (record node { age = by node.age }))) (set s i x)) (sym there) all)

-- a loose node's value is taken back
value-back : (p q : Held) (places : List NodePlace) (key : ℕ) (v : Option ℕ) → IsKept p places (value_chains v (key ∷ [])) → MatchOption v (q ≡ p) (λ c. TakesBack p q c) → Leaves p q places (key ∷ []) (key ∷ [])
value-back p q places key None kept back =
    subst (λ (x : Held). Leaves p x places (key ∷ []) (key ∷ [])) (sym back) (stays p places (key ∷ []) key kept)
value-back p q places key (Some c) kept back = backs-kept p q places (key ∷ []) c kept back

pub set-dropped : (p q : Held) (places first new : List NodePlace) (s : List Slot) (i : ℕ) (node changed : Node ℕ) → IsKept p places [] → slots_of p.texts places ≡ s → slice_get places i ≡ Some (Some node) → first ≡ set places i None → MatchOption node.value (q ≡ p) (λ c. TakesBack p q c) → changed ≡ record node { value = None } → new ≡ set first i (Some changed) → Holds q new (set s i (without_value (at s i)))
set-dropped p q places first new s i node changed kept view is first-is back changed-is new-is =
    let bare : Node ℕ = record node { value = None } in
    let out = swap-kept p places i (Some node) None is kept in
    let left = value-back p q (set places i None) node.key node.value out back in
    let all = put-in p q places s i node bare is left view in
    let key-same : text q.texts node.key ≡ text p.texts node.key = left.same.0 in
    let there : without_value (at s i) ≡ slot_in q.texts (Some bare) =
    ap without_value (shown p.texts places s i (Some node) view is)
    ∙ ap (λ (k : List ℕ). let d : NodeData = record { key = k; meta = node.meta; value = None; age = node.age } in Some d) (sym key-same) in
    let new-here : new ≡ set (set places i None) i (Some bare) =
    new-is ∙ ap (λ (ps : List NodePlace). set ps i (Some changed)) first-is ∙ ap (λ (x : Node ℕ). set (set places i None) i (Some x)) changed-is in
    subst (λ (ps : List NodePlace). Holds q ps (set s i (without_value (at s i)))) (sym new-here)
    (subst (λ (x : Slot). Holds q (set (set places i None) i (Some bare)) (set s i x)) (sym there) all)

pub set-cleared : (p q r : Held) (places new : List NodePlace) (s : List Slot) (i : ℕ) (node changed : Node ℕ) → IsKept p places [] → slots_of p.texts places ≡ s → slice_get places i ≡ Some (Some node) → new ≡ set places i None → MatchOption node.value (q ≡ p) (λ c. TakesBack p q c) → changed ≡ record node { value = None } → TakesBack q r changed.key → Holds r new (set s i None)
set-cleared p q r places new s i node changed kept view is new-is back changed-is key-back =
    let out = swap-kept p places i (Some node) None is kept in
    let left = value-back p q (set places i None) node.key node.value out back in
    let key-is : changed.key ≡ node.key = ap (λ (x : Node ℕ). x.key) changed-is in
    let last = backs-kept q r (set places i None) [] node.key left.stands (subst (TakesBack q r) key-is key-back) in
    let all : Holds r (set places i None) (set s i None) = record {
      kept = last.stands;
      view = last.slots ∙ left.slots ∙ map-set (slot_in p.texts) places i None ∙ ap (λ (ss : List Slot). set ss i None) view;
    } in
    subst (λ (ps : List NodePlace). Holds r ps (set s i None)) (sym new-is) all

was-empty : (texts : List (List ℕ)) (place : NodePlace) → slot_in texts place ≡ None → place ≡ None
was-empty texts None is = refl
was-empty texts (Some node) is = absurd (cc)

pub set-filled : (p q r : Held) (places new : List NodePlace) (s : List Slot) (i : ℕ) (old : NodePlace) (key value : List ℕ) (k v : ℕ) (meta : Meta) → IsKept p places [] → slots_of p.texts places ≡ s → slice_get places i ≡ Some old → at s i ≡ None → Puts p q k key → Puts q r v value → new ≡ set places i (Some (record { key = k; value = Some v; meta = meta; age = 0 })) → Holds r new (set s i (Some (record { key = key; meta = meta; value = Some value; age = 0 })))
set-filled p q r places new s i old key value k v meta kept view is empty key-put value-put new-is =
    let node : Node ℕ = record { key = k; value = Some v; meta = meta; age = 0 } in
    let none : old ≡ None = was-empty p.texts old (sym (shown p.texts places s i old view is) ∙ empty) in
    let there : slice_get places i ≡ Some None = is ∙ ap (λ (x : NodePlace). Some x) none in
    let one = puts-kept p q places [] k key kept key-put in
    let two = puts-kept q r places (k ∷ []) v value one.0.stands value-put in
    let key-is : text r.texts k ≡ key = two.0.same.0 ∙ one.1 in
    let shows : slot_in r.texts (Some node) ≡ Some (record { key = key; meta = meta; value = Some value; age = 0 }) =
    ap (λ (b : List ℕ). let d : NodeData = record { key = b; meta = meta; value = Some (text r.texts v); age = 0 } in Some d) key-is
    ∙ ap (λ (b : List ℕ). let d : NodeData = record { key = key; meta = meta; value = Some b; age = 0 } in Some d) two.1 in
    let all : Holds r (set places i (Some node)) (set s i (Some (record { key = key; meta = meta; value = Some value; age = 0 }))) = record {
      kept = swap-kept r places i None (Some node) there two.0.stands;
      view =
          map-set (slot_in r.texts) places i (Some node)
          ∙ ap (λ (ss : List Slot). set ss i (slot_in r.texts (Some node))) (two.0.slots ∙ one.0.slots ∙ view)
          ∙ ap (set s i) shows;
    } in
    subst (λ (ps : List NodePlace). Holds r ps (set s i (Some (record { key = key; meta = meta; value = Some value; age = 0 })))) (sym new-is) all

pub set-bare : (p q : Held) (places new : List NodePlace) (s : List Slot) (i : ℕ) (old : NodePlace) (key : List ℕ) (k : ℕ) (meta : Meta) → IsKept p places [] → slots_of p.texts places ≡ s → slice_get places i ≡ Some old → at s i ≡ None → Puts p q k key → new ≡ set places i (Some (record { key = k; value = None; meta = meta; age = 0 })) → Holds q new (set s i (Some (record { key = key; meta = meta; value = None; age = 0 })))
set-bare p q places new s i old key k meta kept view is empty key-put new-is =
    let node : Node ℕ = record { key = k; value = None; meta = meta; age = 0 } in
    let none : old ≡ None = was-empty p.texts old (sym (shown p.texts places s i old view is) ∙ empty) in
    let there : slice_get places i ≡ Some None = is ∙ ap (λ (x : NodePlace). Some x) none in
    let one = puts-kept p q places [] k key kept key-put in
    let shows : slot_in q.texts (Some node) ≡ Some (record { key = key; meta = meta; value = None; age = 0 }) =
    ap (λ (b : List ℕ). let d : NodeData = record { key = b; meta = meta; value = None; age = 0 } in Some d) one.1 in
    let all : Holds q (set places i (Some node)) (set s i (Some (record { key = key; meta = meta; value = None; age = 0 }))) = record {
      kept = swap-kept q places i None (Some node) there one.0.stands;
      view =
          map-set (slot_in q.texts) places i (Some node)
          ∙ ap (λ (ss : List Slot). set ss i (slot_in q.texts (Some node))) (one.0.slots ∙ view)
          ∙ ap (set s i) shows;
    } in
    subst (λ (ps : List NodePlace). Holds q ps (set s i (Some (record { key = key; meta = meta; value = None; age = 0 })))) (sym new-is) all

-- a new table
pub table-new : (pool : Held) (places : List NodePlace) (blocks : ℕ) → blocks ≤ 16777216 → pool ≡ all_free blocks → places ≡ replicate blocks None → Holds pool places (replicate blocks None)
table-new pool places blocks few pool-is places-is =
    let all : Holds (all_free blocks) (replicate blocks None) (replicate blocks None) = record {
      kept = new-kept blocks few;
      view = slots-empty (replicate blocks []) blocks;
    } in
    subst (λ (p : Held). Holds p places (replicate blocks None)) (sym pool-is)
    (subst (λ (ps : List NodePlace). Holds (all_free blocks) ps (replicate blocks None)) (sym places-is) all)

-- the pieces of a chain, one after the other
pub piece-fits : (out pieces b0 all piece : List ℕ) (spare spare0 : ℕ) → out ++ pieces ≡ b0 ++ all → spare + length out ≡ spare0 + length b0 → length all ≤ spare0 → piece ≡ take 128 pieces → length piece ≤ spare
piece-fits out pieces b0 all piece spare spare0 joined room fits is =
    let both = ap (λ (x : List ℕ). length x) joined in
    let left = length-append out pieces in
    let right = length-append b0 all in
    let here = ap (λ (x : List ℕ). length x) is in
    let front = length-take 128 pieces in
    omega arith

pub piece-more : (out pieces b0 all piece rest out2 : List ℕ) (spare spare0 spare2 : ℕ) → out ++ pieces ≡ b0 ++ all → spare + length out ≡ spare0 + length b0 → piece ≡ take 128 pieces → rest ≡ drop 128 pieces → out2 ≡ out ++ piece → spare2 + length piece ≡ spare → (out2 ++ rest ≡ b0 ++ all) × (spare2 + length out2 ≡ spare0 + length b0)
piece-more out pieces b0 all piece rest out2 spare spare0 spare2 joined room is rest-is out-is spare-is = (
  ap (λ (x : List ℕ). x ++ rest) (out-is ∙ ap (λ (x : List ℕ). out ++ x) is)
      ∙ ap (λ (x : List ℕ). (out ++ take 128 pieces) ++ x) rest-is
      ∙ append_assoc out (take 128 pieces) (drop 128 pieces)
      ∙ ap (λ (x : List ℕ). out ++ x) (take-append-drop 128 pieces)
      ∙ joined,
  (let len = ap (λ (x : List ℕ). length x) out-is in let both = length-append out piece in omega arith),
)

pub piece-less : (o : Option (Bor (List ℕ))) (p : Bor (List ℕ)) (pieces rest : List ℕ) → IsNone o ↔ (pieces ≡ []) → o ≡ Some p → rest ≡ drop 128 pieces → length rest < length pieces
piece-less o p [] rest end some is = let none = subst (λ (x : Option (Bor (List ℕ))). IsNone x) some (end.1 refl) in absurd (cc)
piece-less o p (x ∷ pieces) rest end some is =
    let len = ap (λ (y : List ℕ). length y) is in
    let back = length-drop 128 (x ∷ pieces) in
    omega arith

-- The first `n` bytes of `into` with the rest of the pieces are all of them, and behind those `into` is as it was.
pub record IsCopied (n : ℕ) (into pieces old all : List ℕ) : Type 0 where
  pub joined : take n into ++ pieces ≡ all
  pub behind : drop n into ≡ drop n old
  pub count : n + length pieces ≡ length all
  pub size : length into ≡ 250

pub copied-fits : (n : ℕ) (into pieces old all piece : List ℕ) → IsCopied n into pieces old all → piece ≡ take 128 pieces → length all ≤ 250 → n + length piece ≤ 250
copied-fits n into pieces old all piece was is fits =
    let len = ap (λ (x : List ℕ). length x) is in
    let part = length-take 128 pieces in
    let count = was.count in
    omega arith

pub copied-more : (n m : ℕ) (into pieces old all piece rest new : List ℕ) → IsCopied n into pieces old all → length all ≤ 250 → piece ≡ take 128 pieces → rest ≡ drop 128 pieces → m ≡ n + length piece → new ≡ take n into ++ piece ++ drop (n + length piece) into → IsCopied m new rest old all
copied-more n m into pieces old all piece rest new was fits is rest-is m-is new-is =
    let part : length piece + length rest ≡ length pieces = sym (length-append piece rest) ∙ ap (λ (x : List ℕ). length x) both in
    let within : n ≤ length into = let count = was.count in let size = was.size in omega arith in
    let front : length (take n into) ≡ n = length-take-le n into within in
    let start : length (take n into ++ piece) ≡ m = length-append (take n into) piece ∙ ap (λ (k : ℕ). k + length piece) front ∙ sym m-is in
    let made : new ≡ (take n into ++ piece) ++ drop m into = new-is ∙ ap (λ (k : ℕ). (take n into ++ piece) ++ drop k into) (sym m-is) in
    record {
      joined = ap (λ (x : List ℕ). take m x ++ rest) made ∙ ap (λ (x : List ℕ). x ++ rest) (take_at (take n into ++ piece) (drop m into) m start) ∙ append_assoc (take n into) piece rest ∙ ap (λ (x : List ℕ). take n into ++ x) both ∙ was.joined;
      behind = ap (λ (x : List ℕ). drop m x) made ∙ drop_at (take n into ++ piece) (drop m into) m start ∙ ap (λ (k : ℕ). drop k into) m-is ∙ sym (drop-drop (length piece) n into) ∙ ap (λ (x : List ℕ). drop (length piece) x) was.behind ∙ drop-drop (length piece) n old ∙ ap (λ (k : ℕ). drop k old) (sym m-is);
      count = let count = was.count in omega arith;
      size = ap (λ (x : List ℕ). length x) made ∙ length-append (take n into ++ piece) (drop m into) ∙ (let back = length-drop m into in let count = was.count in let size = was.size in omega arith);
    }
  where
    both : piece ++ rest ≡ pieces
    both = ap (λ (x : List ℕ). x ++ rest) is ∙ ap (λ (x : List ℕ). take 128 pieces ++ x) rest-is ∙ take-append-drop 128 pieces

pub copied-all : (n : ℕ) (into pieces old all : List ℕ) → IsCopied n into pieces old all → pieces ≡ [] → (n ≡ length all) × (into ≡ all ++ drop (length all) old)
copied-all n into pieces old all was end =
    let none = ap (λ (x : List ℕ). length x) end in
    let count : n ≡ length all = let count = was.count in omega arith in (
      count,
      sym (take-append-drop n into) ∙ ap (λ (x : List ℕ). take n into ++ x) was.behind ∙ ap (λ (x : List ℕ). x ++ drop n old) (sym (append-nil (take n into)) ∙ ap (λ (x : List ℕ). take n into ++ x) (sym end) ∙ was.joined) ∙ ap (λ (k : ℕ). all ++ drop k old) count,
    )
