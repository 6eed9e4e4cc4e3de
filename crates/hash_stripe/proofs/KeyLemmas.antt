-- What calls leave under each key.
use Rattle.std.proofs.Common.{◌≡◌, ◌≢◌, inl, inr, ◌⊎◌, ℕ, suc, zero, ◌<◌, ◌≤◌, ◌∙◌, true, false, cond, ◌||◌, List, [], ◌∷◌, length, refl, sym, ap, subst, arith}
use Rattle.std.proofs.Math.ListN.{set}
use Rattle.std.proofs.lemmas.List.{get_or-set_same, get_or-set_other, length-set, length-map}
use Rattle.std.proofs.lemmas.Slice.Eq.{bytes_eq-Decides}
use Rattle.std.specs.Prelude.{Option, Some, None, map}
use Rattle.std.specs.Option.{is_none}
use Rattle.std.specs.Str.{bytes_eq}
use Rattle.ep_model.specs.declared.config.Eviction.{Eviction}
use Rattle.hash_stripe.specs.Nodes.{NodeData, Slot, at, node_blocks, is_keyed, slot_of, node_in, node_at, first_empty, is_full_eviction, eject_slot, eject_at, Ejects, EjectsOthers, IsLeft, Restores, or_else, with_slot, placed, heated, cooled}
use Rattle.hash_stripe.specs.Stripes.{StripeData, has_key, AreApart, IsStripe, Fits, at_slot, at_key}
use Rattle.hash_stripe.specs.Laws.{IsChanged, IsRestored, HasSlot}
use Rattle.hash_stripe.proofs.RoomLemmas.{first-slot, none-has, keyed-has, apart-key, IsNext, next-facts, ejected-keyed, empty-slot, no-empty, absent-room}
use Rattle.hash_stripe.proofs.StripeLemmas.{has-set, KeepsKey, apart-changed, apart-put, keyed-slots, stripe-ejects, cooled-has, cooled-apart}
use Rattle.hash_stripe.proofs.LeftLemmas.{left-on}
use Rattle.hash_stripe.proofs.CallLemmas.{key-same}

-- where a key has a node: in some slot, or in none
data Stands (key : List ℕ) (slots : List Slot) : Type 0 where
  stands-at : (i : ℕ) → i < length slots → is_keyed key (at slots i) ≡ true → node_at slots key ≡ at slots i → Stands key slots
  nowhere : has_key key slots ≡ false → node_at slots key ≡ None → Stands key slots

stands-in : (key : List ℕ) (slots : List Slot) (o : Option ℕ) → slot_of slots key ≡ o → Stands key slots
stands-in key slots None is = nowhere (none-has key slots 0 is) (ap (node_in slots) is)
stands-in key slots (Some i) is =
    let f = first-slot (is_keyed key) slots i is in
    stands-at i f.0 f.1 (ap (node_in slots) is)

stands : (key : List ℕ) (slots : List Slot) → Stands key slots
stands key slots = stands-in key slots (slot_of slots key) refl

-- no other slot has the key
only-at : (key : List ℕ) (slots : List Slot) (i j : ℕ) → AreApart slots → i < length slots → j < length slots → is_keyed key (at slots i) ≡ true → is_keyed key (at slots j) ≡ true → i ≡ j
only-at key [] i j apart hi hj is-i is-j = absurd (omega arith)
only-at key (s ∷ slots) zero zero apart hi hj is-i is-j = refl
only-at key (s ∷ slots) zero (suc j) apart hi hj is-i is-j =
    absurd (let none = apart-key key s slots is-i apart.0 in let some = keyed-has key slots j (omega arith) is-j in cc)
only-at key (s ∷ slots) (suc i) zero apart hi hj is-i is-j =
    absurd (let none = apart-key key s slots is-j apart.0 in let some = keyed-has key slots i (omega arith) is-i in cc)
only-at key (s ∷ slots) (suc i) (suc j) apart hi hj is-i is-j =
    ap suc (only-at key slots i j apart.1 (omega arith) (omega arith) is-i is-j)

node-there : (key : List ℕ) (slots : List Slot) (i : ℕ) → AreApart slots → i < length slots → is_keyed key (at slots i) ≡ true → node_at slots key ≡ at slots i
node-there key slots i apart inside is =
    elim (stands key slots) [
      | stands-at j h keyed there ↦ there ∙ ap (at slots) (only-at key slots j i apart h inside keyed is)
      | nowhere none there ↦ absurd (let some = keyed-has key slots i inside is in cc)
    ]

node-nowhere : (key : List ℕ) (slots : List Slot) → has_key key slots ≡ false → node_at slots key ≡ None
node-nowhere key slots none =
    elim (stands key slots) [
      | stands-at j h keyed there ↦ absurd (let some = keyed-has key slots j h keyed in cc)
      | nowhere gone there ↦ there
    ]

-- nodes in slots are nodes of keys
some-inside : (slots : List Slot) (i : ℕ) (node : NodeData) → at slots i ≡ Some node → i < length slots
some-inside [] i node is = absurd (cc)
some-inside (s ∷ slots) zero node is = omega arith
some-inside (s ∷ slots) (suc i) node is = let rest = some-inside slots i node is in omega arith

own-keyed : (s : Slot) (node : NodeData) → s ≡ Some node → is_keyed node.key s ≡ true
own-keyed s node is = ap (is_keyed node.key) is ∙ (bytes_eq-Decides node.key node.key).1 refl

pub slot-keyed : (s : StripeData) (i : ℕ) (node : NodeData) → IsStripe s → at s.slots i ≡ Some node → node_at s.slots node.key ≡ Some node
slot-keyed s i node stripe is =
    node-there node.key s.slots i stripe.apart (some-inside s.slots i node is) (own-keyed (at s.slots i) node is) ∙ is

pub key-slot : (slots : List Slot) (key : List ℕ) (node : NodeData) → node_at slots key ≡ Some node → HasSlot slots key node
key-slot slots key node is =
    elim (stands key slots) [
      | stands-at i h keyed there ↦ record { slot = i; within = h; there = sym there ∙ is; keyed = key-same key slots node is }
      | nowhere none there ↦ absurd (cc)
    ]

pub slots-apart : (s : StripeData) (i j : ℕ) (node twin : NodeData) → IsStripe s → at s.slots i ≡ Some node → at s.slots j ≡ Some twin → node.key ≡ twin.key → i ≡ j
slots-apart s i j node twin stripe is-i is-j same =
    only-at node.key s.slots i j stripe.apart (some-inside s.slots i node is-i) (some-inside s.slots j twin is-j)
    (own-keyed (at s.slots i) node is-i)
    (subst (λ (key : List ℕ). is_keyed key (at s.slots j) ≡ true) (sym same) (own-keyed (at s.slots j) twin is-j))

-- what is under a key after one slot is changed
other-slot : (key : List ℕ) (slots : List Slot) (i : ℕ) (x : Slot) → AreApart (set slots i x) → i < length slots → is_keyed key (at slots i) ≡ false → is_keyed key x ≡ false → node_at (set slots i x) key ≡ node_at slots key
other-slot key slots i x apart inside was is =
    elim (stands key slots) [
      | stands-at j h keyed there ↦
          let differ : (j ≡ i → ⊥) = λ same. let here = subst (λ (k : ℕ). is_keyed key (at slots k) ≡ true) same keyed in absurd (cc) in
          let stays = get_or-set_other slots i j x None differ in
          let len = length-set {A = Slot} slots i x in
          node-there key (set slots i x) j apart (omega arith) (ap (is_keyed key) stays ∙ keyed) ∙ stays ∙ sym there
      | nowhere none there ↦ node-nowhere key (set slots i x) (has-set key slots i x none is) ∙ sym there
    ]

new-slot : (key : List ℕ) (slots : List Slot) (i : ℕ) (x : Slot) → AreApart (set slots i x) → i < length slots → is_keyed key x ≡ true → node_at (set slots i x) key ≡ x
new-slot key slots i x apart inside is =
    let same = get_or-set_same slots i x None inside in
    let len = length-set {A = Slot} slots i x in
    node-there key (set slots i x) i apart (omega arith) (ap (is_keyed key) same ∙ is) ∙ same

emptied : (key : List ℕ) (slots : List Slot) (i : ℕ) → AreApart slots → i < length slots → is_keyed key (at slots i) ≡ true → has_key key (set slots i None) ≡ false
emptied key [] i apart inside is = absurd (omega arith)
emptied key (s ∷ slots) zero apart inside is = apart-key key s slots is apart.0
emptied key (s ∷ slots) (suc i) apart inside is =
    elim (is_keyed key s) as (λ b. is_keyed key s ≡ b → (b || has_key key (set slots i None)) ≡ false) [
      | true ↦ λ e. absurd (let none = apart-key key s slots e apart.0 in let some = keyed-has key slots i (omega arith) is in cc)
      | false ↦ λ e. emptied key slots i apart.1 (omega arith) is
    ] refl

-- a slot gets a node of the same key, or none
changed-slot : (key : List ℕ) (slots : List Slot) (i : ℕ) (x : Slot) → AreApart slots → AreApart (set slots i x) → i < length slots → is_keyed key (at slots i) ≡ true → (x ≡ None) ⊎ (is_keyed key x ≡ true) → node_at (set slots i x) key ≡ x
changed-slot key slots i x apart then inside is (inl none) =
    subst (λ (y : Slot). node_at (set slots i y) key ≡ y) (sym none) (node-nowhere key (set slots i None) (emptied key slots i apart inside is))
changed-slot key slots i x apart then inside is (inr keyed) = new-slot key slots i x then inside keyed

-- ejecting
ejected-key : (e : Eviction) (key : List ℕ) (s : Slot) → is_keyed key s ≡ true → (eject_slot e s ≡ None) ⊎ (is_keyed key (eject_slot e s) ≡ true)
ejected-key e key None is = absurd (cc)
ejected-key e key (Some node) is =
    elim (is_full_eviction e || node.meta.deleted) as (λ b. (cond b None (Some (record node { value = None })) ≡ None) ⊎ (is_keyed key (cond b None (Some (record node { value = None }))) ≡ true)) [
      | true ↦ inl refl
      | false ↦ inr is
    ]

eject-keeps : (e : Eviction) (s : Slot) → KeepsKey s (eject_slot e s)
eject-keeps e None key is = is
eject-keeps e (Some node) key is =
    elim (is_full_eviction e || node.meta.deleted) as (λ b. is_keyed key (cond b None (Some (record node { value = None }))) ≡ true → is_keyed key (Some node) ≡ true) [
      | true ↦ λ k. absurd (cc)
      | false ↦ λ k. k
    ] is

one-ejected : (e : Eviction) (mark : ℕ) (key other : List ℕ) (slots : List Slot) (i : ℕ) → AreApart slots → AreApart (eject_at e slots i) → IsNext mark key slots i → IsLeft e mark key (node_at slots other) (node_at (eject_at e slots i) other)
one-ejected e mark key other slots i apart then next =
    elim (is_keyed other (at slots i)) as (λ b. is_keyed other (at slots i) ≡ b → IsLeft e mark key (node_at slots other) (node_at (eject_at e slots i) other)) [
      | true ↦ λ is.
          let was = node-there other slots i apart next.inside is in
          let now = changed-slot other slots i (eject_slot e (at slots i)) apart then next.inside is (ejected-key e other (at slots i) is) in
          subst (λ (s : Slot). IsLeft e mark key s (node_at (eject_at e slots i) other)) (sym was) (inr (next.may, next.other, now))
      | false ↦ λ is. inl (other-slot other slots i (eject_slot e (at slots i)) then next.inside is (ejected-keyed e other (at slots i) is))
    ] refl

keywise : (e : Eviction) (mark : ℕ) (key other : List ℕ) (need n : ℕ) (old new : List Slot) → AreApart old → Ejects e mark key need n old new → IsLeft e mark key (node_at old other) (node_at new other)
keywise e mark key other need zero old new apart same = inl (ap (λ (s : List Slot). node_at s other) same)
keywise e mark key other need (suc n) old new apart chain =
    let slot = chain.0 in
    let next = next-facts mark key old slot chain.1 in
    let then = apart-changed old slot (eject_slot e (at old slot)) next.inside apart (eject-keeps e (at old slot)) in
    left-on e mark key (node_at old other) (node_at (eject_at e old slot) other) (node_at new other)
    (one-ejected e mark key other old slot apart then next)
    (keywise e mark key other need n (eject_at e old slot) new then chain.3)

pub ejecting-keywise : (s : StripeData) (key : List ℕ) (need : ℕ) (new : List Slot) → IsStripe s → EjectsOthers s.eviction s.mark key need s.slots new → (other : List ℕ) → IsLeft s.eviction s.mark key (node_at s.slots other) (node_at new other)
ejecting-keywise s key need new stripe ejects other = keywise s.eviction s.mark key other need ejects.count s.slots new stripe.apart ejects.chain

-- putting
unlike-keys : (a b : List ℕ) → a ≢ b → bytes_eq a b ≡ false
unlike-keys a b differ =
    elim (bytes_eq a b) as (λ t. bytes_eq a b ≡ t → t ≡ false) [
      | true ↦ λ is. absurd (differ ((bytes_eq-Decides a b).0 is))
      | false ↦ λ is. refl
    ] refl

not-other : (key other : List ℕ) (s : Slot) → is_keyed key s ≡ true → other ≢ key → is_keyed other s ≡ false
not-other key other None is differ = refl
not-other key other (Some node) is differ =
    unlike-keys node.key other (λ same. differ (sym same ∙ (bytes_eq-Decides node.key key).0 is))

own-key : (node : NodeData) → is_keyed node.key (Some node) ≡ true
own-key node = (bytes_eq-Decides node.key node.key).1 refl

put-at : (slots : List Slot) (node : NodeData) (i : ℕ) → i < length slots → AreApart (set slots i (Some node)) → ((other : List ℕ) → other ≢ node.key → is_keyed other (at slots i) ≡ false) → IsChanged slots (set slots i (Some node)) node.key (Some node)
put-at slots node i inside apart others = record {
  there = new-slot node.key slots i (Some node) apart inside (own-key node);
  rest = λ other differ. other-slot other slots i (Some node) apart inside (others other differ) (not-other node.key other (Some node) (own-key node) differ);
}

put-by : (s : StripeData) (node : NodeData) (o p : Option ℕ) → IsStripe s → 1 ≤ length node.key → Fits node.key (node_blocks node) s.slots → slot_of s.slots node.key ≡ o → first_empty s.slots ≡ p → IsChanged s.slots (with_slot s.slots (or_else o p) (Some node)) node.key (Some node)
put-by s node (Some i) p stripe keyed fits is empty =
    let f = first-slot (is_keyed node.key) s.slots i is in
    put-at s.slots node i f.0
    (apart-changed s.slots i (Some node) f.0 stripe.apart
    (λ key k. subst (λ (y : List ℕ). is_keyed y (at s.slots i) ≡ true) ((bytes_eq-Decides node.key key).0 k) f.1))
    (λ other differ. not-other node.key other (at s.slots i) f.1 differ)
put-by s node None (Some i) stripe keyed fits is empty =
    let f = first-slot is_none s.slots i empty in
    let here : at s.slots i ≡ None = empty-slot s.slots (first_empty s.slots) i refl empty in
    put-at s.slots node i f.0 (apart-put s.slots i node stripe.apart (none-has node.key s.slots 0 is))
    (λ other differ. ap (is_keyed other) here)
put-by s node None None stripe keyed fits is empty =
    absurd (
    let full = no-empty s.slots (first_empty s.slots) (keyed-slots s.index s.stripes s.eviction s.mark s.slots stripe.nodes) refl empty in
    let room = absent-room node.key s.slots (slot_of s.slots node.key) (node_blocks node) refl is fits in
    omega arith
    )

pub placing-keywise : (s : StripeData) (node : NodeData) → IsStripe s → 1 ≤ length node.key → Fits node.key (node_blocks node) s.slots → IsChanged s.slots (placed s.slots node) node.key (Some node)
placing-keywise s node stripe keyed fits = put-by s node (slot_of s.slots node.key) (first_empty s.slots) stripe keyed fits refl refl

-- ejecting, and then putting
pub restoring-keywise : (s : StripeData) (node : NodeData) (new : List Slot) → IsStripe s → 1 ≤ length node.key → Restores s.eviction s.mark (node_blocks node) node s.slots new → IsRestored s node new
restoring-keywise s node new stripe keyed restores =
    let mid = (stripe-ejects s node.key (node_blocks node) restores.ejects.count restores.room stripe restores.ejects.chain).0 in
    let put = placing-keywise (record s { slots = restores.room }) node mid keyed restores.fits in
    record {
      there = ap (λ (x : List Slot). node_at x node.key) restores.puts ∙ put.there;
      rest = λ other differ.
          subst (λ (x : Slot). IsLeft s.eviction s.mark node.key (node_at s.slots other) x)
          (sym (ap (λ (x : List Slot). node_at x other) restores.puts ∙ put.rest other differ))
          (ejecting-keywise s node.key (node_blocks node) restores.room stripe restores.ejects other);
    }

-- a change of nodes that keeps their keys, or drops them
record KeepsNodes (change : Slot → Slot) : Type 0 where
  none : change None ≡ None
  keyed : (s : Slot) (key : List ℕ) → is_keyed key (change s) ≡ true → is_keyed key s ≡ true
  stays : (s : Slot) (key : List ℕ) → is_keyed key s ≡ true → (change s ≡ None) ⊎ (is_keyed key (change s) ≡ true)

still-off : (key : List ℕ) (s x : Slot) → (is_keyed key x ≡ true → is_keyed key s ≡ true) → is_keyed key s ≡ false → is_keyed key x ≡ false
still-off key s x keeps off =
    elim (is_keyed key x) as (λ b. is_keyed key x ≡ b → b ≡ false) [
      | true ↦ λ e. absurd (let yes = keeps e in cc)
      | false ↦ λ e. refl
    ] refl

-- changing the node of a key
changed-by : (s : StripeData) (change : Slot → Slot) (key : List ℕ) (o : Option ℕ) → IsStripe s → KeepsNodes change → slot_of s.slots key ≡ o → IsChanged s.slots (at_slot change s.slots o) key (change (node_at s.slots key))
changed-by s change key None stripe keeps is =
    let gone : node_at s.slots key ≡ None = ap (node_in s.slots) is in
    record { there = gone ∙ sym (ap change gone ∙ keeps.none); rest = λ other differ. refl }
changed-by s change key (Some i) stripe keeps is =
    let f = first-slot (is_keyed key) s.slots i is in
    let was : node_at s.slots key ≡ at s.slots i = ap (node_in s.slots) is in
    let apart = apart-changed s.slots i (change (at s.slots i)) f.0 stripe.apart (λ k. keeps.keyed (at s.slots i) k) in
    record {
      there = changed-slot key s.slots i (change (at s.slots i)) stripe.apart apart f.0 f.1 (keeps.stays (at s.slots i) key f.1) ∙ sym (ap change was);
      rest = λ other differ. other-slot other s.slots i (change (at s.slots i)) apart f.0 (not-other key other (at s.slots i) f.1 differ)
          (still-off other (at s.slots i) (change (at s.slots i)) (keeps.keyed (at s.slots i) other) (not-other key other (at s.slots i) f.1 differ));
    }

heat-keyed : (s : Slot) (key : List ℕ) → is_keyed key (heated s) ≡ true → is_keyed key s ≡ true
heat-keyed None key is = is
heat-keyed (Some node) key is = is

heat-stays : (s : Slot) (key : List ℕ) → is_keyed key s ≡ true → (heated s ≡ None) ⊎ (is_keyed key (heated s) ≡ true)
heat-stays None key is = inl refl
heat-stays (Some node) key is = inr is

heat-keeps : KeepsNodes heated
heat-keeps = record { none = refl; keyed = heat-keyed; stays = heat-stays }

eject-nodes : (e : Eviction) → KeepsNodes (eject_slot e)
eject-nodes e = record { none = refl; keyed = eject-keeps e; stays = λ s key is. ejected-key e key s is }

pub heating-keywise : (s : StripeData) (key : List ℕ) → IsStripe s → IsChanged s.slots (at_key heated s.slots key) key (heated (node_at s.slots key))
heating-keywise s key stripe = changed-by s heated key (slot_of s.slots key) stripe heat-keeps refl

pub dropping-keywise : (s : StripeData) (key : List ℕ) → IsStripe s → IsChanged s.slots (at_key (eject_slot s.eviction) s.slots key) key (eject_slot s.eviction (node_at s.slots key))
dropping-keywise s key stripe = changed-by s (eject_slot s.eviction) key (slot_of s.slots key) stripe (eject-nodes s.eviction) refl

-- cooling
at-cooled : (slots : List Slot) (i : ℕ) → at (map cooled slots) i ≡ cooled (at slots i)
at-cooled [] i = refl
at-cooled (s ∷ slots) zero = refl
at-cooled (s ∷ slots) (suc i) = at-cooled slots i

keyed-cooled : (key : List ℕ) (s : Slot) → is_keyed key (cooled s) ≡ is_keyed key s
keyed-cooled key None = refl
keyed-cooled key (Some node) = refl

pub cooling-keywise : (s : StripeData) (key : List ℕ) → IsStripe s → node_at (map cooled s.slots) key ≡ cooled (node_at s.slots key)
cooling-keywise s key stripe =
    elim (stands key s.slots) [
      | stands-at i h keyed there ↦
          let same = at-cooled s.slots i in
          let len = length-map s.slots cooled in
          node-there key (map cooled s.slots) i (cooled-apart s.slots stripe.apart) (omega arith) (ap (is_keyed key) same ∙ keyed-cooled key (at s.slots i) ∙ keyed)
          ∙ same ∙ ap cooled (sym there)
      | nowhere none there ↦ node-nowhere key (map cooled s.slots) (cooled-has key s.slots ∙ none) ∙ ap cooled (sym there)
    ]
