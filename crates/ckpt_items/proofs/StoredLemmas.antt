-- Items and the chains that hold them.
use Rattle.std.proofs.Common.{◌≡◌, ℕ, zero, suc, ◌+◌, ◌/◌, ◌<◌, ◌≤◌, List, [], ◌∷◌, ◌++◌, length, get_or, take, drop, map, refl, sym, ap, ◌∙◌, subst, inl, inr, arith}
use Rattle.std.specs.List.{remove, sum_by, All}
use Rattle.std.specs.List.Sorted.{IsNonDecreasingBy}
use Rattle.std.proofs.lemmas.Bool.{cases_eq}
use Rattle.std.proofs.lemmas.List.{append_assoc}
use Rattle.std.proofs.lemmas.List.Elements.{All-cons, All-head, All-tail}
use Rattle.std.proofs.lemmas.List.Sums.{sum_by-cons}
use Rattle.ep_model.specs.declared.call.Meta.{Meta}
use Rattle.value_pool.specs.Pools.{Held, bytes_at}
use Rattle.value_pool.specs.Owned.{Owns}
use Rattle.value_pool.proofs.OwnedLemmas.{owns_bytes}
use Rattle.ckpt_items.specs.declared.item.Item.{Item}
use Rattle.ckpt_items.specs.declared.data.ItemData.{ItemData}
use Rattle.ckpt_items.specs.Items.{item_blocks, blocks_of, IsFit}
use Rattle.ckpt_items.specs.Stored.{datas, chains_of, IsRising}

-- the items have the metadata of these data
pub record SameMetas (xs : List Item) (ds : List ItemData) : Type 0 where
  pub metas : map (λ (x : Item). x.meta) xs ≡ map (λ (d : ItemData). d.meta) ds

pub metas_of : (pool : Held) (xs : List Item) → SameMetas xs (datas pool xs)
metas_of pool [] = record { metas = refl }
metas_of pool (x ∷ xs) = let rest = metas_of pool xs in record { metas = ap (λ (ms : List Meta). x.meta ∷ ms) rest.metas }

abbrev pub made : List ℕ → Meta → List ℕ → ItemData
made key meta value = record { key = key; meta = meta; value = value }

kept_behind : (pool : Held) (front : List (ℕ × List ℕ)) (xs : List Item) (ds : List ItemData) → Owns pool (front ++ chains_of xs ds) → map (λ (x : Item). x.meta) xs ≡ map (λ (d : ItemData). d.meta) ds → datas pool xs ≡ ds
unfolding chains_of
kept_behind pool front [] [] owns metas = refl
kept_behind pool front [] (d ∷ ds) owns metas = absurd (cc)
kept_behind pool front (x ∷ xs) [] owns metas = absurd (cc)
kept_behind pool front (x ∷ xs) (d ∷ ds) owns metas =
    let P : List (ℕ × List ℕ) → Type 0 = λ cs. Owns pool cs in
    let key : bytes_at pool x.key ≡ d.key = owns_bytes pool front ((x.value, d.value) ∷ chains_of xs ds) x.key d.key owns in
    let behind = subst P (sym (append_assoc front ((x.key, d.key) ∷ []) ((x.value, d.value) ∷ chains_of xs ds))) owns in
    let value : bytes_at pool x.value ≡ d.value = owns_bytes pool (front ++ (x.key, d.key) ∷ []) (chains_of xs ds) x.value d.value behind in
    let rest = subst P (sym (append_assoc (front ++ (x.key, d.key) ∷ []) ((x.value, d.value) ∷ []) (chains_of xs ds))) behind in
    let meta : x.meta ≡ d.meta = cc in
    let tail : map (λ (x : Item). x.meta) xs ≡ map (λ (d : ItemData). d.meta) ds = cc in
    ap (λ (k : List ℕ). made k x.meta (bytes_at pool x.value) ∷ datas pool xs) key
    ∙ ap (λ (m : Meta). made d.key m (bytes_at pool x.value) ∷ datas pool xs) meta
    ∙ ap (λ (v : List ℕ). made d.key d.meta v ∷ datas pool xs) value
    ∙ ap (λ (es : List ItemData). d ∷ es) (kept_behind pool ((front ++ (x.key, d.key) ∷ []) ++ (x.value, d.value) ∷ []) xs ds rest tail)

-- items whose chains hold these data are seen as these data
pub kept : (pool : Held) (xs : List Item) (ds : List ItemData) → Owns pool (chains_of xs ds) → SameMetas xs ds → datas pool xs ≡ ds
kept pool xs ds owns same = kept_behind pool [] xs ds owns same.metas

pub chains-push : (xs : List Item) (ds : List ItemData) (x : Item) (d : ItemData) → length xs ≡ length ds → chains_of (xs ++ x ∷ []) (ds ++ d ∷ []) ≡ chains_of xs ds ++ (x.key, d.key) ∷ (x.value, d.value) ∷ []
unfolding chains_of
chains-push [] [] x d h = refl
chains-push [] (e ∷ es) x d h = absurd (omega arith)
chains-push (y ∷ ys) [] x d h = absurd (omega arith)
chains-push (y ∷ ys) (e ∷ es) x d h =
    ap (λ (cs : List (ℕ × List ℕ)). (y.key, e.key) ∷ (y.value, e.value) ∷ cs) (chains-push ys es x d (omega arith))

-- one item's chains stand between those before it and those behind it
pub chains-at : (xs : List Item) (ds : List ItemData) (i : ℕ) (x : Item) (d : ItemData) → length xs ≡ length ds → i < length xs → x ≡ get_or xs i x → d ≡ get_or ds i d → chains_of xs ds ≡ chains_of (take i xs) (take i ds) ++ (x.key, d.key) ∷ (x.value, d.value) ∷ chains_of (drop (suc i) xs) (drop (suc i) ds)
unfolding chains_of
chains-at [] ds i x d h l xi di = absurd (omega arith)
chains-at (y ∷ ys) [] i x d h l xi di = absurd (omega arith)
chains-at (y ∷ ys) (e ∷ es) zero x d h l xi di =
    ap (λ (z : Item). (z.key, e.key) ∷ (z.value, e.value) ∷ chains_of ys es) (sym xi)
    ∙ ap (λ (z : ItemData). (x.key, z.key) ∷ (x.value, z.value) ∷ chains_of ys es) (sym di)
chains-at (y ∷ ys) (e ∷ es) (suc i) x d h l xi di =
    ap (λ (cs : List (ℕ × List ℕ)). (y.key, e.key) ∷ (y.value, e.value) ∷ cs) (chains-at ys es i x d (omega arith) (omega arith) xi di)

pub chains-remove : (xs : List Item) (ds : List ItemData) (i : ℕ) → length xs ≡ length ds → chains_of (remove xs i) (remove ds i) ≡ chains_of (take i xs) (take i ds) ++ chains_of (drop (suc i) xs) (drop (suc i) ds)
unfolding chains_of
chains-remove [] [] zero h = refl
chains-remove [] [] (suc i) h = refl
chains-remove [] (e ∷ es) i h = absurd (omega arith)
chains-remove (y ∷ ys) [] i h = absurd (omega arith)
chains-remove (y ∷ ys) (e ∷ es) zero h = refl
chains-remove (y ∷ ys) (e ∷ es) (suc i) h =
    ap (λ (cs : List (ℕ × List ℕ)). (y.key, e.key) ∷ (y.value, e.value) ∷ cs) (chains-remove ys es i (omega arith))

pub blocks_chained : (xs : List Item) (ds : List ItemData) → length xs ≡ length ds → sum_by (λ (c : ℕ × List ℕ). (length c.1 + 127) / 128) (chains_of xs ds) ≡ blocks_of ds
unfolding chains_of
blocks_chained [] [] h = refl
blocks_chained [] (e ∷ es) h = absurd (omega arith)
blocks_chained (y ∷ ys) [] h = absurd (omega arith)
blocks_chained (y ∷ ys) (e ∷ es) h =
    let b = λ (c : ℕ × List ℕ). (length c.1 + 127) / 128 in
    sum_by-cons (λ (c : ℕ × List ℕ). (length c.1 + 127) / 128) (y.key, e.key) ((y.value, e.value) ∷ chains_of ys es)
    ∙ ap (λ (n : ℕ). (length e.key + 127) / 128 + n) (sum_by-cons (λ (c : ℕ × List ℕ). (length c.1 + 127) / 128) (y.value, e.value) (chains_of ys es))
    ∙ joined ((length e.key + 127) / 128) ((length e.value + 127) / 128) (sum_by (λ (c : ℕ × List ℕ). (length c.1 + 127) / 128) (chains_of ys es)) (blocks_of es) (blocks_chained ys es (omega arith))
    ∙ sym (sum_by-cons item_blocks e es)
  where
    joined : (a b s t : ℕ) → s ≡ t → a + (b + s) ≡ (a + b) + t
    joined a b s t e = omega arith

pub fit-remove : (ds : List ItemData) (i : ℕ) → All IsFit ds → All IsFit (remove ds i)
fit-remove [] zero h = h
fit-remove [] (suc i) h = h
fit-remove (e ∷ es) zero h = All-tail IsFit e es h
fit-remove (e ∷ es) (suc i) h =
    All-cons IsFit e (remove es i) (All-head IsFit e es h) (fit-remove es i (All-tail IsFit e es h))

-- each item has a block at least
pub count_blocks : (ds : List ItemData) → All IsFit ds → length ds ≤ blocks_of ds
count_blocks [] h = omega arith
count_blocks (e ∷ es) h =
    let fit = All-head IsFit e es h in
    let long = fit.key.0 in
    let more : blocks_of (e ∷ es) ≡ item_blocks e + blocks_of es = sum_by-cons item_blocks e es in
    let rest = count_blocks es (All-tail IsFit e es h) in
    let one : 1 ≤ (length e.key + 127) / 128 = omega arith in
    let own : item_blocks e ≡ (length e.key + 127) / 128 + (length e.value + 127) / 128 = refl in
    omega arith

pub rising_order : (items : List Item) → IsRising items → IsNonDecreasingBy (λ (i : Item). i.meta.seqno) items
rising_order items rising i j d le l =
    elim (cases_eq i j) [
      | inl e ↦ let same : (get_or items i d).meta.seqno ≡ (get_or items j d).meta.seqno = ap (λ (n : ℕ). (get_or items n d).meta.seqno) e in omega arith
      | inr ne ↦ let less = rising i j d (omega arith) l in omega arith
    ]
