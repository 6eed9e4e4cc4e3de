-- What the calls of a stripe show, and that they keep what is so of it.
use Rattle.std.proofs.Common.{◌≡◌, ◌<◌, ◌≤◌, ℕ, ◌+◌, ◌∙◌, Bool, true, false, List, [], ◌++◌, length, nat_le, refl, sym, ap, subst, append-nil, arith}
use Rattle.std.proofs.Math.ListN.{set}
use Rattle.std.specs.Prelude.{Option, Some, None}
use Rattle.std.specs.Option.{is_some, is_none}
use Rattle.std.proofs.lemmas.Bool.{leb-false}
use Rattle.std.proofs.lemmas.Slice.Eq.{bytes_eq-Decides}
use Rattle.std.proofs.lemmas.List.{length-set}
use Rattle.ep_model.specs.declared.call.Meta.{Meta}
use Rattle.ep_model.specs.declared.config.Eviction.{Eviction}
use Rattle.ep_model.specs.declared.config.Eviction.TheVariants as evictions
use Rattle.ep_model.specs.Limits.{IsKey}
use Rattle.ep_model.specs.Stripes.{stripe_of}
use Rattle.hash_stripe.specs.declared.found.Found.{Found}
use Rattle.hash_stripe.specs.declared.found.Found.TheVariants.{Nothing}
use Rattle.hash_stripe.specs.declared.found.Look.{Look}
use Rattle.hash_stripe.specs.Nodes.{NodeData, Slot, used, at, node_blocks, slot_blocks, is_keyed, slot_of, node_in, node_at, first_empty, others_blocks, is_full_eviction, is_ejectable_slot, eject_at, victim, or_else, with_slot, placed, heated}
use Rattle.hash_stripe.specs.Looks.{look_of, found_look}
use Rattle.hash_stripe.specs.Stripes.{StripeData, IsNode, IsSlot, IsStripe, Fits, IsValueOf, IsShown, found, found_value, key_of, age_of}
use Rattle.hash_stripe.proofs.ChainLemmas.{sum_of-set}
use Rattle.hash_stripe.proofs.RoomLemmas.{first-slot, others-all, none-has, used-split, empty-slot}
use Rattle.hash_stripe.proofs.StripeLemmas.{slots-changed, slot-at, key-few, apart-changed, apart-put, stripe-changed, stripe-ejected, marked-slots, heated-slot}

pub found-nothing : (s : Slot) (o : Option Look) → o ≡ look_of s → o ≡ None → Nothing ≡ found s
found-nothing None o is none = refl
found-nothing (Some node) o is none = absurd (cc)

value-found : (meta : Meta) (v : Option (List ℕ)) (age : ℕ) (key : List ℕ) → found_look (record { meta = meta; is_resident = is_some v; age = age }) ≡ found (Some (record { key = key; meta = meta; value = v; age = age }))
value-found meta None age key = refl
value-found meta (Some v) age key = refl

pub found-some : (s : Slot) (o : Option Look) (look : Look) → o ≡ look_of s → o ≡ Some look → found_look look ≡ found s
found-some None o look is some = absurd (cc)
found-some (Some node) o look is some =
    let mine : Look = record { meta = node.meta; is_resident = is_some node.value; age = node.age } in
    let same : look ≡ mine = cc in
    ap found_look same ∙ value-found node.meta node.value node.age node.key

pub age-none : (s : Slot) (o : Option Look) → o ≡ look_of s → o ≡ None → None ≡ age_of s
age-none None o is none = refl
age-none (Some node) o is none = absurd (cc)

pub age-some : (s : Slot) (o : Option Look) (look : Look) → o ≡ look_of s → o ≡ Some look → Some look.age ≡ age_of s
age-some None o look is some = absurd (cc)
age-some (Some node) o look is some =
    let mine : Look = record { meta = node.meta; is_resident = is_some node.value; age = node.age } in
    let same : look ≡ mine = cc in
    ap (λ (l : Look). Some l.age) same

-- the document that is ejected next
pub record IsOldest (s : StripeData) (some : Bool) (key : List ℕ) : Type 0 where
  pub there : some ≡ is_some (victim s.mark [] s.slots)
  pub named : key ≡ key_of (node_in s.slots (victim s.mark [] s.slots))

pub oldest-is : (x s : StripeData) (o p : Option ℕ) → x ≡ s → o ≡ victim x.mark [] x.slots → o ≡ p → IsOldest s (is_some p) (key_of (node_in x.slots p))
oldest-is x s o p same o-is p-is =
    let here : p ≡ victim x.mark [] x.slots = sym p-is ∙ o-is in
    record {
      there = ap is_some here ∙ ap (λ (y : StripeData). is_some (victim y.mark [] y.slots)) same;
      named = ap (λ (q : Option ℕ). key_of (node_in x.slots q)) here ∙ ap (λ (y : StripeData). key_of (node_in y.slots (victim y.mark [] y.slots))) same;
    }

pub nothing-more : (bytes key : List ℕ) → [] ≡ key → bytes ≡ bytes ++ key
nothing-more bytes key is = sym (append-nil bytes) ∙ ap (λ (k : List ℕ). bytes ++ k) is

pub stripe-marked : (x s : StripeData) (number : ℕ) → x ≡ s → IsStripe x → s.mark ≤ number → IsStripe (record x { mark = number })
stripe-marked x s number same stripe h =
    let mark = ap (λ (y : StripeData). y.mark) same in
    record {
      place = stripe.place;
      few = stripe.few;
      room = stripe.room;
      nodes = marked-slots x.index x.stripes x.eviction x.mark number x.slots (omega arith) stripe.nodes;
      apart = stripe.apart;
    }

pub stripe-with : (s : StripeData) (new x : List Slot) → new ≡ x → IsStripe (record s { slots = x }) → IsStripe (record s { slots = new })
stripe-with s new x is stripe = subst (λ (y : List Slot). IsStripe (record s { slots = y })) (sym is) stripe

pub stripe-heated : (s : StripeData) (new : List Slot) (i : ℕ) → IsStripe s → i < length s.slots → new ≡ set s.slots i (heated (at s.slots i)) → IsStripe (record s { slots = new })
stripe-heated s new i stripe inside is =
    let all = heated-slot s.index s.stripes s.eviction s.mark (at s.slots i) (slot-at s.index s.stripes s.eviction s.mark s.slots i stripe.nodes) in
    stripe-with s new (set s.slots i (heated (at s.slots i))) is (stripe-changed s i (heated (at s.slots i)) stripe inside all.0 all.1 all.2)

pub stripe-eject : (x s : StripeData) (key : List ℕ) (new : List Slot) (o : Option ℕ) (i : ℕ) → x ≡ s → IsStripe x → o ≡ slot_of x.slots key → o ≡ Some i → i < length x.slots → is_ejectable_slot s.mark (node_at s.slots key) ≡ true → new ≡ eject_at x.eviction x.slots i → IsStripe (record x { slots = new })
stripe-eject x s key new o i same stripe o-is some inside may is =
    let mine : is_ejectable_slot x.mark (at x.slots i) ≡ true =
    ap (λ (q : Option ℕ). is_ejectable_slot x.mark (node_in x.slots q)) (sym some ∙ o-is)
    ∙ ap (λ (y : StripeData). is_ejectable_slot y.mark (node_at y.slots key)) same
    ∙ may in
    stripe-with x new (eject_at x.eviction x.slots i) is (stripe-ejected x i stripe inside mine)

absent-in : (slots : List Slot) (key : List ℕ) (o : Option ℕ) → slot_of slots key ≡ o → node_in slots o ≡ None → o ≡ None
absent-in slots key None is none = refl
absent-in slots key (Some i) is none =
    let here = (first-slot (is_keyed key) slots i is).1 in
    let not-here : is_keyed key (at slots i) ≡ false = ap (is_keyed key) none in
    absurd (cc)

-- a key without a node has no slot
pub absent-slot : (x s : StripeData) (key : List ℕ) → x ≡ s → node_at s.slots key ≡ None → slot_of x.slots key ≡ None
absent-slot x s key same none =
    absent-in x.slots key (slot_of x.slots key) refl (ap (λ (y : StripeData). node_at y.slots key) same ∙ none)

-- a node in place of its key's
placed-there : (s : StripeData) (node : NodeData) (i : ℕ) → IsStripe s → IsNode s.index s.stripes s.eviction s.mark node → others_blocks node.key s.slots + node_blocks node ≤ length s.slots → slot_of s.slots node.key ≡ Some i → IsStripe (record s { slots = set s.slots i (Some node) })
placed-there s node i stripe is fits some =
    let f = first-slot (is_keyed node.key) s.slots i some in
    let split = used-split node.key s.slots i stripe.apart f.0 f.1 in
    let sums = sum_of-set slot_blocks s.slots i (Some node) None f.0 in
    let len = length-set {A = Slot} s.slots i (Some node) in
    let few = stripe.few in
    record {
      place = stripe.place;
      few = omega arith;
      room = omega arith;
      nodes = slots-changed s.index s.stripes s.eviction s.mark s.slots i (Some node) stripe.nodes is;
      apart = apart-changed s.slots i (Some node) f.0 stripe.apart
          (λ key k. subst (λ (y : List ℕ). is_keyed y (at s.slots i) ≡ true) ((bytes_eq-Decides node.key key).0 k) f.1);
    }

placed-new : (s : StripeData) (node : NodeData) (i : ℕ) → IsStripe s → IsNode s.index s.stripes s.eviction s.mark node → others_blocks node.key s.slots + node_blocks node ≤ length s.slots → slot_of s.slots node.key ≡ None → first_empty s.slots ≡ Some i → IsStripe (record s { slots = set s.slots i (Some node) })
placed-new s node i stripe is fits none empty =
    let f = first-slot is_none s.slots i empty in
    let here : at s.slots i ≡ None = empty-slot s.slots (first_empty s.slots) i refl empty in
    let nothing : slot_blocks (at s.slots i) ≡ 0 = ap slot_blocks here in
    let absent = none-has node.key s.slots 0 none in
    let all = others-all node.key s.slots absent in
    let sums = sum_of-set slot_blocks s.slots i (Some node) None f.0 in
    let len = length-set {A = Slot} s.slots i (Some node) in
    let few = stripe.few in
    record {
      place = stripe.place;
      few = omega arith;
      room = omega arith;
      nodes = slots-changed s.index s.stripes s.eviction s.mark s.slots i (Some node) stripe.nodes is;
      apart = apart-put s.slots i node stripe.apart absent;
    }

placed-by : (s : StripeData) (node : NodeData) (o p : Option ℕ) → IsStripe s → IsNode s.index s.stripes s.eviction s.mark node → others_blocks node.key s.slots + node_blocks node ≤ length s.slots → slot_of s.slots node.key ≡ o → first_empty s.slots ≡ p → IsStripe (record s { slots = with_slot s.slots (or_else o p) (Some node) })
placed-by s node (Some i) p stripe is fits some empty = placed-there s node i stripe is fits some
placed-by s node None (Some i) stripe is fits none empty = placed-new s node i stripe is fits none empty
placed-by s node None None stripe is fits none empty = stripe

pub stripe-placed : (s : StripeData) (node : NodeData) (new : List Slot) → IsStripe s → IsNode s.index s.stripes s.eviction s.mark node → others_blocks node.key s.slots + node_blocks node ≤ length s.slots → new ≡ placed s.slots node → IsStripe (record s { slots = new })
stripe-placed s node new stripe is fits new-is =
    stripe-with s new (placed s.slots node) new-is (placed-by s node (slot_of s.slots node.key) (first_empty s.slots) stripe is fits refl refl)

pub stripe-put : (x s : StripeData) (key : List ℕ) (meta : Meta) (value : List ℕ) (new : List Slot) → x ≡ s → IsStripe x → IsKey key → stripe_of key s.stripes ≡ s.index → length value ≤ 1048576 → meta.len ≡ length value → (meta.deleted ≡ true → value ≡ []) → others_blocks key s.slots + node_blocks (record { key = key; meta = meta; value = Some value; age = 0 }) ≤ length s.slots → new ≡ placed x.slots (record { key = key; meta = meta; value = Some value; age = 0 }) → IsStripe (record x { slots = new })
stripe-put x s key meta value new same stripe keyed home short len dead fits is =
    let node : NodeData = record { key = key; meta = meta; value = Some value; age = 0 } in
    stripe-placed x node new stripe
    (record {
      key = keyed;
      home = subst (λ (y : StripeData). stripe_of key y.stripes ≡ y.index) (sym same) home;
      value = (short, len, dead);
      ejected = λ e. absurd (cc);
      age = omega arith;
    })
    (subst (λ (y : StripeData). others_blocks key y.slots + node_blocks node ≤ length y.slots) (sym same) fits)
    is

clean-at : (seqno mark : ℕ) → seqno ≤ mark → nat_le seqno mark ≡ true
clean-at seqno mark h =
    elim (nat_le seqno mark) as (λ b. nat_le seqno mark ≡ b → b ≡ true) [
      | true ↦ λ e. refl
      | false ↦ λ e. let above = leb-false seqno mark e in absurd (omega arith)
    ] refl

pub stripe-added : (x s : StripeData) (key : List ℕ) (meta : Meta) (new : List Slot) (need free : ℕ) → x ≡ s → IsStripe x → IsKey key → stripe_of key s.stripes ≡ s.index → s.eviction ≡ evictions.Value → meta.seqno ≤ s.mark → meta.deleted ≡ false → meta.len ≤ 1048576 → node_at s.slots key ≡ None → free + used x.slots ≡ length x.slots → node_blocks (record { key = key; meta = meta; value = None; age = 0 }) ≤ free → new ≡ placed x.slots (record { key = key; meta = meta; value = None; age = 0 }) → IsStripe (record x { slots = new })
stripe-added x s key meta new need free same stripe keyed home evicts stored live few none free-is fits is =
    let node : NodeData = record { key = key; meta = meta; value = None; age = 0 } in
    let absent = none-has key x.slots 0 (absent-slot x s key same none) in
    let all = others-all key x.slots absent in
    let mark = ap (λ (y : StripeData). y.mark) same in
    stripe-placed x node new stripe
    (record {
      key = keyed;
      home = subst (λ (y : StripeData). stripe_of key y.stripes ≡ y.index) (sym same) home;
      value = (live, few);
      ejected = λ e. (
        clean-at meta.seqno x.mark (omega arith),
        ap is_full_eviction (ap (λ (y : StripeData). y.eviction) same ∙ evicts),
      );
      age = omega arith;
    })
    (omega arith)
    is

pub added-fits : (x s : StripeData) (key : List ℕ) (free need : ℕ) → x ≡ s → node_at s.slots key ≡ None → free + used x.slots ≡ length x.slots → need ≤ free → Fits key need s.slots
added-fits x s key free need same none free-is fits =
    let absent = none-has key x.slots 0 (absent-slot x s key same none) in
    let all = others-all key x.slots absent in
    subst (λ (y : StripeData). others_blocks key y.slots + need ≤ length y.slots) same (omega arith)

-- each key fits into 250 bytes
pub key-fits : (s : StripeData) (o : Option ℕ) → IsStripe s → length (key_of (node_in s.slots o)) ≤ 250
key-fits s None is = omega arith
key-fits s (Some slot) is = key-few s.index s.stripes s.eviction s.mark s.slots slot is.nodes

-- what is so of each node is so of a key's, and its key is this one
sound-in : (s : StripeData) (o : Option ℕ) → IsStripe s → IsSlot s.index s.stripes s.eviction s.mark (node_in s.slots o)
sound-in s None is = tt
sound-in s (Some slot) is = slot-at s.index s.stripes s.eviction s.mark s.slots slot is.nodes

pub key-sound : (x s : StripeData) (key : List ℕ) → x ≡ s → IsStripe x → IsSlot s.index s.stripes s.eviction s.mark (node_at s.slots key)
key-sound x s key same is = sound-in s (slot_of s.slots key) (subst IsStripe same is)

keyed-in : (key : List ℕ) (slots : List Slot) (o : Option ℕ) (node : NodeData) → slot_of slots key ≡ o → node_in slots o ≡ Some node → node.key ≡ key
keyed-in key slots None node is some = absurd (cc)
keyed-in key slots (Some slot) node is some =
    (bytes_eq-Decides node.key key).0 (sym (ap (is_keyed key) some) ∙ (first-slot (is_keyed key) slots slot is).1)

pub key-same : (key : List ℕ) (slots : List Slot) (node : NodeData) → node_at slots key ≡ Some node → node.key ≡ key
key-same key slots node some = keyed-in key slots (slot_of slots key) node refl some

-- what was found says of the key's slot
shown-in : (key : List ℕ) (meta : Meta) (v : Option (List ℕ)) (age : ℕ) → IsValueOf meta v → IsShown (found_value meta v) (Some (record { key = key; meta = meta; value = v; age = age }))
shown-in key meta None age is = (refl, refl)
shown-in key meta (Some value) age is = (refl, sym is.1)

shown-of : (index stripes : ℕ) (e : Eviction) (mark : ℕ) (s : Slot) → IsSlot index stripes e mark s → IsShown (found s) s
shown-of index stripes e mark None is = refl
shown-of index stripes e mark (Some node) is = shown-in node.key node.meta node.value node.age is.value

pub key-shown : (index stripes : ℕ) (e : Eviction) (mark : ℕ) (s : Slot) (f : Found) → f ≡ found s → IsSlot index stripes e mark s → IsShown f s
key-shown index stripes e mark s f shows is =
    subst (λ (g : Found). IsShown g s) (sym shows) (shown-of index stripes e mark s is)
