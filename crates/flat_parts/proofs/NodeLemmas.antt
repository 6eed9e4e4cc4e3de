-- Lists of nodes: what a scan finds, and what a change leaves, as plain data.
use Rattle.std.proofs.Common.{◌≡◌, ◌<◌, ◌≤◌, ℕ, suc, zero, ◌+◌, ◌-◌, ◌^◌, min, Bool, true, false, cond, List, [], ◌∷◌, ◌++◌, length, get_or, take, refl, sym, ap, subst, ◌∙◌, arith}
use Rattle.std.proofs.Math.ListN.{set}
use Rattle.std.specs.Prelude.{Option, Some, None, map, sum_by, count_by, slice_get, Vec}
use Rattle.std.specs.Option.{option_map, option_copied}
use Rattle.std.specs.List.{find, position_from}
use Rattle.std.specs.Int.{from_bool}
use Rattle.std.specs.Str.{bytes_eq}
use Rattle.std.specs.Borrow.{Bor}
use Rattle.std.proofs.lemmas.List.{length-map, length-set, take_more_set, map-set, take_all}
use Rattle.std.proofs.lemmas.List.Sums.{sum_by_push, sum_by_more}
use Rattle.std.proofs.lemmas.Option.{get_or_from_slice_get, slice_get_read}
use Rattle.std.proofs.lemmas.Slice.Eq.{bytes_eq-Decides}
use Rattle.std.specs.declared.alloc.Global.{Global}
use Rattle.flat_parts.specs.declared.data.NodeData.{NodeData}
use Rattle.flat_parts.specs.declared.node.Node.{Node}
use Rattle.flat_parts.specs.Nodes.{node_at, put_node, ejected, is_ejectable, node_blocks}
use Rattle.flat_parts.specs.Flat.{node_data, nodes_data, place_of}
use Rattle.flat_parts.proofs.ListLemmas.{find-map, swept, swept-more, swept-all, swept-at}

at-find : (ds : List NodeData) (key : List ℕ) → find (λ (d : NodeData). bytes_eq d.key key) ds ≡ node_at ds key
at-find [] key = refl
at-find (d ∷ ds) key = ap (cond (bytes_eq d.key key) (Some d)) (at-find ds key)

pub node-found : (nodes : List Node) (key : List ℕ) (o : Option (Bor Node)) → option_copied o ≡ find (λ (node : Node). bytes_eq node.key.items key) nodes → option_map node_data (option_copied o) ≡ node_at (nodes_data nodes) key
node-found nodes key o is =
    ap (option_map node_data) is
    ∙ find-map node_data (λ (d : NodeData). bytes_eq d.key key) nodes
    ∙ at-find (nodes_data nodes) key

-- a node that is found has the key
pub key-found : (ds : List NodeData) (key : List ℕ) (d : NodeData) → node_at ds key ≡ Some d → d.key ≡ key
key-found [] key d is = absurd (cc)
key-found (e ∷ ds) key d is =
    elim (bytes_eq e.key key) as (λ b. bytes_eq e.key key ≡ b → cond b (Some e) (node_at ds key) ≡ Some d → d.key ≡ key) [
      | true ↦ λ same is. let e-is : e ≡ d = cc in ap (λ (n : NodeData). n.key) (sym e-is) ∙ (bytes_eq-Decides e.key key).0 same
      | false ↦ λ other is. key-found ds key d is
    ] refl is

-- the first node of a key stands at this index
abbrev pub IsFirstAt : List Node → List ℕ → ℕ → Type 0
IsFirstAt [] key k = ⊥
IsFirstAt (node ∷ nodes) key zero = bytes_eq node.key.items key ≡ true
IsFirstAt (node ∷ nodes) key (suc k) = (bytes_eq node.key.items key ≡ false) × IsFirstAt nodes key k

-- a scan that ends at an index ends at the first node of the key
first : (nodes : List Node) (key : List ℕ) (n m : ℕ) → position_from (λ (node : Node). bytes_eq node.key.items key) n nodes ≡ Some m → (k : ℕ) × (n + k ≡ m) × IsFirstAt nodes key k
first [] key n m e = absurd (cc)
first (node ∷ nodes) key n m e =
    elim (bytes_eq node.key.items key) as (λ b. bytes_eq node.key.items key ≡ b → cond b (Some n) (position_from (λ (node : Node). bytes_eq node.key.items key) (n + 1) nodes) ≡ Some m → (k : ℕ) × (n + k ≡ m) × IsFirstAt (node ∷ nodes) key k) [
      | true ↦ λ is e. (0, (let same : n ≡ m = cc in omega arith), is)
      | false ↦ λ is e. let r = first nodes key (n + 1) m e in (suc r.0, omega arith, (is, r.2))
    ] refl e

within : (nodes : List Node) (key : List ℕ) (k : ℕ) → IsFirstAt nodes key k → k < length nodes
within [] key k at = absurd at
within (node ∷ nodes) key zero at = omega arith
within (node ∷ nodes) key (suc k) at = let h = within nodes key k at.1 in omega arith

pub place-first : (nodes : List Node) (key : List ℕ) (m : ℕ) → Some m ≡ place_of nodes key → IsFirstAt nodes key m
place-first nodes key m e =
    let r = first nodes key 0 m (sym e) in
    let same : r.0 ≡ m = omega arith in
    subst (IsFirstAt nodes key) same r.2

pub place-within : (nodes : List Node) (key : List ℕ) (m : ℕ) → Some m ≡ place_of nodes key → m < length nodes
place-within nodes key m e = within nodes key m (place-first nodes key m e)

-- a node in place of the first of its key
pub put-at : (nodes : List Node) (new : Node) (k : ℕ) → IsFirstAt nodes new.key.items k → nodes_data (set nodes k new) ≡ put_node (nodes_data nodes) (node_data new)
put-at [] new k at = absurd at
put-at (node ∷ nodes) new zero at =
    sym (ap (λ b. cond b (node_data new ∷ nodes_data nodes) (node_data node ∷ put_node (nodes_data nodes) (node_data new))) at)
put-at (node ∷ nodes) new (suc k) at =
    ap (λ (ds : List NodeData). node_data node ∷ ds) (put-at nodes new k at.1)
    ∙ sym (ap (λ b. cond b (node_data new ∷ nodes_data nodes) (node_data node ∷ put_node (nodes_data nodes) (node_data new))) at.0)

-- a node behind the others, where its key has none
put-behind : (nodes : List Node) (new : Node) (n : ℕ) → None ≡ position_from (λ (node : Node). bytes_eq node.key.items new.key.items) n nodes → nodes_data (nodes ++ new ∷ []) ≡ put_node (nodes_data nodes) (node_data new)
put-behind [] new n e = refl
put-behind (node ∷ nodes) new n e =
    elim (bytes_eq node.key.items new.key.items) as (λ b. None ≡ cond b (Some n) (position_from (λ (node : Node). bytes_eq node.key.items new.key.items) (n + 1) nodes) → nodes_data ((node ∷ nodes) ++ new ∷ []) ≡ cond b (node_data new ∷ nodes_data nodes) (node_data node ∷ put_node (nodes_data nodes) (node_data new))) [
      | true ↦ λ e. absurd (cc)
      | false ↦ λ e. ap (λ (ds : List NodeData). node_data node ∷ ds) (put-behind nodes new (n + 1) e)
    ] e

-- the place of a node's key that a scan gave, with other names of the list and the key
placed : (nodes l : List Node) (key k : List ℕ) (place o : Option ℕ) → l ≡ nodes → k ≡ key → place ≡ place_of l k → place ≡ o → o ≡ place_of nodes key
placed nodes l key k place o l-is k-is place-is at =
    sym at ∙ place-is ∙ ap (λ (ns : List Node). place_of ns k) l-is ∙ ap (place_of nodes) k-is

pub put-place : (nodes l : List Node) (k : List ℕ) (place : Option ℕ) (new : Node) (m : ℕ) → l ≡ nodes → k ≡ new.key.items → place ≡ place_of l k → place ≡ Some m → nodes_data (set nodes m new) ≡ put_node (nodes_data nodes) (node_data new)
put-place nodes l k place new m l-is k-is place-is at =
    put-at nodes new m (place-first nodes new.key.items m (placed nodes l new.key.items k place (Some m) l-is k-is place-is at))

pub put-end : (nodes l : List Node) (k : List ℕ) (place : Option ℕ) (new : Node) → l ≡ nodes → k ≡ new.key.items → place ≡ place_of l k → place ≡ None → nodes_data (nodes ++ new ∷ []) ≡ put_node (nodes_data nodes) (node_data new)
put-end nodes l k place new l-is k-is place-is at =
    put-behind nodes new 0 (placed nodes l new.key.items k place None l-is k-is place-is at)

-- the first node of a key is the one that is found
at-first : (nodes : List Node) (key : List ℕ) (k : ℕ) → IsFirstAt nodes key k → node_at (nodes_data nodes) key ≡ option_map node_data (slice_get nodes k)
at-first [] key k at = absurd at
at-first (node ∷ nodes) key zero at = ap (λ b. cond b (Some (node_data node)) (node_at (nodes_data nodes) key)) at
at-first (node ∷ nodes) key (suc k) at =
    ap (λ b. cond b (Some (node_data node)) (node_at (nodes_data nodes) key)) at.0 ∙ at-first nodes key k at.1

-- where a scan finds no place, the key has no node
missing : (nodes : List Node) (key : List ℕ) (n : ℕ) → None ≡ position_from (λ (node : Node). bytes_eq node.key.items key) n nodes → node_at (nodes_data nodes) key ≡ None
missing [] key n e = refl
missing (node ∷ nodes) key n e =
    elim (bytes_eq node.key.items key) as (λ b. None ≡ cond b (Some n) (position_from (λ (node : Node). bytes_eq node.key.items key) (n + 1) nodes) → cond b (Some (node_data node)) (node_at (nodes_data nodes) key) ≡ None) [
      | true ↦ λ e. absurd (cc)
      | false ↦ λ e. missing nodes key (n + 1) e
    ] e

-- a document was put back at the place of its key
pub restore-place : (nodes l : List Node) (key : List ℕ) (place : Option ℕ) (k : ℕ) (x new : Node) (d : NodeData) → l ≡ nodes → place ≡ place_of l key → place ≡ Some k → x ≡ get_or nodes k x → new.key ≡ x.key → node_data new ≡ record d { key = new.key.items } → nodes_data (set nodes k new) ≡ put_node (nodes_data nodes) (record d { key = key })
restore-place nodes l key place k x new d l-is place-is at x-is key-is new-is =
    let here : Some k ≡ place_of nodes key = sym at ∙ place-is ∙ ap (λ (ns : List Node). place_of ns key) l-is in
    let is-first : IsFirstAt nodes key k = place-first nodes key k here in
    let found : node_at (nodes_data nodes) key ≡ Some (node_data x) = at-first nodes key k is-first ∙ ap (option_map node_data) (slice_get_read nodes (length nodes) k x refl (place-within nodes key k here) x-is) in
    let keyed : new.key.items ≡ key = ap (λ (v : Vec ℕ Global). v.items) key-is ∙ key-found (nodes_data nodes) key (node_data x) found in
    put-at nodes new k (subst (λ (q : List ℕ). IsFirstAt nodes q k) (sym keyed) is-first)
    ∙ ap (put_node (nodes_data nodes)) (new-is ∙ ap (λ (q : List ℕ). record d { key = q }) keyed)

pub restore-missing : (nodes l new : List Node) (key : List ℕ) (place : Option ℕ) (node d : NodeData) → l ≡ nodes → place ≡ place_of l key → place ≡ None → node_at (nodes_data nodes) key ≡ Some node → nodes_data new ≡ put_node (nodes_data nodes) d
restore-missing nodes l new key place node d l-is place-is at found =
    let none : node_at (nodes_data nodes) key ≡ None = missing nodes key 0 (sym at ∙ place-is ∙ ap (λ (ns : List Node). place_of ns key) l-is) in
    absurd (cc)

-- How far the pager is: the first i nodes are as it leaves them, and these are the blocks and the values that it
-- has counted.
pub record Paged (mark : ℕ) (ds : List NodeData) (nodes : List Node) (i used ejects : ℕ) : Type 0 where
  pub swept_so_far : nodes_data nodes ≡ swept (ejected mark) i ds
  pub same_length : length nodes ≡ length ds
  pub used_so_far : used ≡ min (sum_by node_blocks (take i (nodes_data nodes))) (2 ^ 64 - 1)
  pub ejected_so_far : ejects ≡ count_by (is_ejectable mark) (take i ds)

pub paged-none : (mark : ℕ) (nodes : List Node) → Paged mark (nodes_data nodes) nodes 0 0 0
paged-none mark nodes = record { swept_so_far = refl; same_length = sym (length-map nodes node_data); used_so_far = refl; ejected_so_far = refl }

counted : (b : Bool) (n : ℕ) → n ≡ from_bool b → n ≡ cond b 1 0
counted true n is = is
counted false n is = is

pub paged-more : (mark : ℕ) (ds : List NodeData) (nodes : List Node) (i used ejects : ℕ) (x y : Node) (b : Bool) (n more after : ℕ) → i < length nodes → x ≡ get_or nodes i x → node_data y ≡ ejected mark (node_data x) → b ≡ is_ejectable mark (node_data x) → n ≡ node_blocks (node_data y) → after ≡ min (used + n) (2 ^ 64 - 1) → more ≡ from_bool b → Paged mark ds nodes i used ejects → Paged mark ds (set nodes i y) (i + 1) after (ejects + more)
paged-more mark ds nodes i used ejects x y b n more after inside is new ejects-is n-is after-is more-is p = record {
  swept_so_far = swept-more node_data (ejected mark) nodes ds i x y inside p.swept_so_far is new;
  same_length = length-set nodes i y ∙ p.same_length;
  used_so_far =
      let e = ap (sum_by node_blocks) (ap (take (i + 1)) (map-set node_data nodes i y) ∙ take_more_set (nodes_data nodes) i (node_data y) (rw (length-map nodes node_data) inside)) ∙ sum_by_push node_blocks (take i (nodes_data nodes)) (node_data y) in
      omega (arith, p.used_so_far, e);
  ejected_so_far =
      let old = swept-at node_data (ejected mark) nodes ds i x inside p.swept_so_far is in
      let at : get_or ds i (node_data x) ≡ node_data x = get_or_from_slice_get ds i (node_data x) (node_data x) old in
      ap (λ k. k + more) p.ejected_so_far
      ∙ ap (λ k. count_by (is_ejectable mark) (take i ds) + k) (counted b more more-is)
      ∙ ap (λ t. count_by (is_ejectable mark) (take i ds) + cond t 1 0) (ejects-is ∙ ap (is_ejectable mark) (sym at))
      ∙ sym (sum_by_more (λ (d : NodeData). cond (is_ejectable mark d) 1 0) ds i (node_data x) (omega (arith, p.same_length)));
}

pub paged-all : (mark : ℕ) (ds : List NodeData) (nodes : List Node) (i used ejects : ℕ) → length nodes ≤ i → Paged mark ds nodes i used ejects → (nodes_data nodes ≡ map (ejected mark) ds) × (used ≡ min (sum_by node_blocks (map (ejected mark) ds)) (2 ^ 64 - 1)) × (ejects ≡ count_by (is_ejectable mark) ds)
paged-all mark ds nodes i used ejects all p =
    let whole : nodes_data nodes ≡ map (ejected mark) ds = p.swept_so_far ∙ swept-all (ejected mark) ds i (omega (arith, p.same_length)) in (
      whole,
      p.used_so_far ∙ ap (λ (xs : List NodeData). min (sum_by node_blocks xs) (2 ^ 64 - 1)) (take_all i (nodes_data nodes) (rw (length-map nodes node_data) all) ∙ whole),
      p.ejected_so_far ∙ ap (count_by (is_ejectable mark)) (take_all i ds (omega (arith, p.same_length))),
    )
