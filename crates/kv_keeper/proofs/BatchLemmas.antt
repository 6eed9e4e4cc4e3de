-- A batch's rows, as lists of documents under their keys: what one more row makes of them, and what they make of
-- documents that they are laid over.
use Rattle.std.proofs.Common.{◌≡◌, ℕ, suc, ◌+◌, Bool, true, false, cond, ◌||◌, Some, List, [], ◌∷◌, ◌++◌, length, refl, sym, ap, ◌∙◌, arith}
use Rattle.std.proofs.lemmas.Slice.Eq.{bytes_eq-Decides}
use Rattle.std.specs.Ordering.{nat_cmp, eq_by_cmp}
use Rattle.std.specs.Cmp.Lexicographic.{slice_cmp, nat_list_cmp_total, texts_ties}
use Rattle.std.specs.FinMap.{empty, insert, get, get-insert, same_map, IsAntisymmetric, slice_cmp-IsAntisymmetric, nat_cmp-IsAntisymmetric}
use Rattle.std.specs.Str.{bytes_eq}
use Rattle.ep_model.specs.World.{Doc, Docs, Item}
use Rattle.kv_keeper.specs.Batch.{has_row, with_row, laid, AreDistinct}
use Rattle.kv_keeper.specs.Rows.{docs_of}

-- only equal keys tie
pub exact_keys : IsAntisymmetric (slice_cmp nat_cmp)
exact_keys = slice_cmp-IsAntisymmetric nat_cmp-IsAntisymmetric

-- keys that differ in one order differ in the other
pub differ-symm : (x y : List ℕ) → bytes_eq x y ≡ false → bytes_eq y x ≡ false
differ-symm x y e =
    elim (bytes_eq y x) as (λ b. bytes_eq y x ≡ b → b ≡ false) [
      | true ↦ λ is. let same : x ≡ y = sym ((bytes_eq-Decides y x).0 is) in let is : bytes_eq x y ≡ true = (bytes_eq-Decides x y).1 same in absurd (cc)
      | false ↦ λ is. refl
    ] refl

-- a test that is repeated: the inner branch is never reached
pub shadowed : {A : Type 0} (b : Bool) (x y z : A) → cond b x (cond b y z) ≡ cond b x z
shadowed true x y z = refl
shadowed false x y z = refl

-- two tests of which only one can hold may change places
pub swapped : {A : Type 0} (a b : Bool) (x y z : A) → (a ≡ true → b ≡ true → ⊥) → cond a x (cond b y z) ≡ cond b y (cond a x z)
swapped true true x y z apart = absurd (apart refl refl)
swapped true false x y z apart = refl
swapped false b x y z apart = refl

-- keys of which one ties with q and the other doesn't are two
pub apart : (q x y : List ℕ) → bytes_eq x y ≡ false → eq_by_cmp (slice_cmp nat_cmp) q x ≡ true → eq_by_cmp (slice_cmp nat_cmp) q y ≡ true → ⊥
apart q x y differ a b =
    let qx : q ≡ x = (bytes_eq-Decides q x).0 (texts_ties q x ∙ a) in
    let qy : q ≡ y = (bytes_eq-Decides q y).0 (texts_ties q y ∙ b) in
    let xy : bytes_eq x y ≡ true = (bytes_eq-Decides x y).1 (sym qx ∙ qy) in
    cc

-- of two documents that are inserted under one key the later stays
pub insert-same : (docs : Docs) (key : List ℕ) (old new : Doc) → insert (insert docs key old) key new ≡ insert docs key new
insert-same docs key old new =
    same_map nat_list_cmp_total exact_keys _ _ (λ q.
    get-insert nat_list_cmp_total (insert docs key old) key new q
    ∙ ap (cond (eq_by_cmp (slice_cmp nat_cmp) q key) (Some new)) (get-insert nat_list_cmp_total docs key old q)
    ∙ shadowed (eq_by_cmp (slice_cmp nat_cmp) q key) (Some new) (Some old) (get docs q)
    ∙ sym (get-insert nat_list_cmp_total docs key new q))

-- two that are inserted under two keys may change places
pub insert-swap : (docs : Docs) (x y : List ℕ) (a b : Doc) → bytes_eq x y ≡ false → insert (insert docs y b) x a ≡ insert (insert docs x a) y b
insert-swap docs x y a b differ =
    same_map nat_list_cmp_total exact_keys _ _ (λ q.
    get-insert nat_list_cmp_total (insert docs y b) x a q
    ∙ ap (cond (eq_by_cmp (slice_cmp nat_cmp) q x) (Some a)) (get-insert nat_list_cmp_total docs y b q)
    ∙ swapped (eq_by_cmp (slice_cmp nat_cmp) q x) (eq_by_cmp (slice_cmp nat_cmp) q y) (Some a) (Some b) (get docs q) (apart q x y differ)
    ∙ sym (get-insert nat_list_cmp_total (insert docs x a) y b q
    ∙ ap (cond (eq_by_cmp (slice_cmp nat_cmp) q y) (Some b)) (get-insert nat_list_cmp_total docs x a q)))

-- one more row inserts its document over what the rows before made
pub laid-with_row : (rows : List Item) (key : List ℕ) (doc : Doc) (docs : Docs) → laid (with_row rows key doc) docs ≡ insert (laid rows docs) key doc
laid-with_row [] key doc docs = refl
laid-with_row (row ∷ rows) key doc docs =
    elim (bytes_eq row.0 key) as (λ b. bytes_eq row.0 key ≡ b → laid (cond b ((key, doc) ∷ rows) (row ∷ with_row rows key doc)) docs ≡ insert (laid (row ∷ rows) docs) key doc) [
      | true ↦ λ is.
          let same : row.0 ≡ key = (bytes_eq-Decides row.0 key).0 is in
          sym (ap (λ k. insert (insert (laid rows docs) k row.1) key doc) same ∙ insert-same (laid rows docs) key row.1 doc)
      | false ↦ λ is.
          ap (λ m. insert m row.0 row.1) (laid-with_row rows key doc docs)
          ∙ insert-swap (laid rows docs) row.0 key row.1 doc is
    ] refl

-- a row behind the others is laid first
pub laid-push : (rows : List Item) (row : Item) (docs : Docs) → laid (rows ++ row ∷ []) docs ≡ laid rows (insert docs row.0 row.1)
laid-push [] row docs = refl
laid-push (first ∷ rows) row docs = ap (λ m. insert m first.0 first.1) (laid-push rows row docs)

-- the documents of rows are the rows laid over none
pub docs_of-laid : (rows : List Item) → docs_of rows ≡ laid rows empty
docs_of-laid [] = refl
docs_of-laid (row ∷ rows) = ap (λ m. insert m row.0 row.1) (docs_of-laid rows)

-- and so are those of one row more
pub docs_of-with_row : (rows : List Item) (key : List ℕ) (doc : Doc) → docs_of (with_row rows key doc) ≡ insert (docs_of rows) key doc
docs_of-with_row rows key doc =
    docs_of-laid (with_row rows key doc) ∙ laid-with_row rows key doc empty ∙ ap (λ m. insert m key doc) (sym (docs_of-laid rows))

or-append : (a b c : Bool) → (a || (b || c)) ≡ ((a || b) || c)
or-append true b c = refl
or-append false b c = refl

or-same : (b h : Bool) → (b || h) ≡ ((b || h) || b)
or-same true h = refl
or-same false true = refl
or-same false false = refl

or-none : (b : Bool) → (b || false) ≡ b
or-none true = refl
or-none false = refl

-- which keys have a row, once there is one more
pub has_row-with_row : (rows : List Item) (key : List ℕ) (doc : Doc) (q : List ℕ) → has_row (with_row rows key doc) q ≡ (has_row rows q || bytes_eq key q)
has_row-with_row [] key doc q = or-none (bytes_eq key q)
has_row-with_row (row ∷ rows) key doc q =
    elim (bytes_eq row.0 key) as (λ b. bytes_eq row.0 key ≡ b → has_row (cond b ((key, doc) ∷ rows) (row ∷ with_row rows key doc)) q ≡ (has_row (row ∷ rows) q || bytes_eq key q)) [
      | true ↦ λ is.
          let same : row.0 ≡ key = (bytes_eq-Decides row.0 key).0 is in
          or-same (bytes_eq key q) (has_row rows q) ∙ ap (λ k. (bytes_eq k q || has_row rows q) || bytes_eq key q) (sym same)
      | false ↦ λ is.
          ap (λ b. bytes_eq row.0 q || b) (has_row-with_row rows key doc q)
          ∙ or-append (bytes_eq row.0 q) (has_row rows q) (bytes_eq key q)
    ] refl

-- no key has two rows, once there is one more
pub distinct-with_row : (rows : List Item) (key : List ℕ) (doc : Doc) → AreDistinct rows → AreDistinct (with_row rows key doc)
distinct-with_row [] key doc h = (refl, tt)
distinct-with_row (row ∷ rows) key doc h =
    elim (bytes_eq row.0 key) as (λ b. bytes_eq row.0 key ≡ b → AreDistinct (cond b ((key, doc) ∷ rows) (row ∷ with_row rows key doc))) [
      | true ↦ λ is.
          let same : row.0 ≡ key = (bytes_eq-Decides row.0 key).0 is in
          (ap (has_row rows) (sym same) ∙ h.0, h.1)
      | false ↦ λ is. (
        has_row-with_row rows key doc row.0
            ∙ ap (λ b. b || bytes_eq key row.0) h.0
            ∙ differ-symm row.0 key is,
        distinct-with_row rows key doc h.1,
      )
    ] refl

one_more : (b : Bool) (m n : ℕ) → n ≡ cond b m (m + 1) → suc n ≡ cond b (suc m) (suc m + 1)
one_more true m n e = omega arith
one_more false m n e = omega arith

-- how many rows there are, once there is one more
pub length-with_row : (rows : List Item) (key : List ℕ) (doc : Doc) → length (with_row rows key doc) ≡ cond (has_row rows key) (length rows) (length rows + 1)
length-with_row [] key doc = refl
length-with_row (row ∷ rows) key doc =
    elim (bytes_eq row.0 key) as (λ b. length (cond b ((key, doc) ∷ rows) (row ∷ with_row rows key doc)) ≡ cond (b || has_row rows key) (length (row ∷ rows)) (length (row ∷ rows) + 1)) [
      | true ↦ refl
      | false ↦ one_more (has_row rows key) (length rows) _ (length-with_row rows key doc)
    ]
