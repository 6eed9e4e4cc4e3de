-- What the calls of items owe and know.
use Rattle.std.proofs.Common.{◌≡◌, ◌≢◌, ℕ, suc, ◌+◌, ◌-◌, ◌/◌, ◌<◌, ◌≤◌, eqb, true, false, List, [], ◌∷◌, ◌++◌, length, get_or, take, drop, sym, ap, ◌∙◌, subst, inl, inr, arith, length-append}
use Rattle.std.specs.Prelude.{None, Some}
use Rattle.std.specs.List.{find, remove, sum_by, All}
use Rattle.std.proofs.lemmas.Bool.{cases_lt, cases_order, lt-ltb, le-ltb, eq-eqb, ne_eqb}
use Rattle.std.proofs.lemmas.List.{append_assoc, append-nil, take-append-drop, take-append-le, drop-append-le, take_all, drop_all, length-map, length-set, length-replicate, map-append, get_or-map, get_or_append_left, get_or_push, get_or_default}
use Rattle.std.proofs.lemmas.List.Elements.{All-nil, All-push}
use Rattle.std.proofs.lemmas.List.Edits.{length-remove, get_or-remove_below, get_or-remove_above}
use Rattle.ep_model.specs.Limits.{IsKey, IsValue}
use Rattle.ep_model.specs.declared.call.Meta.{Meta}
use Rattle.ep_model.specs.declared.data.OutData.{OutData}
use Rattle.value_pool.specs.Pools.{Held, bytes_at, all_free, Puts, TakesBack}
use Rattle.value_pool.specs.Owned.{Owns}
use Rattle.value_pool.proofs.OwnedLemmas.{owns_none, owns-put, owns-take_back}
use Rattle.ckpt_items.specs.declared.item.Item.{Item}
use Rattle.ckpt_items.specs.declared.data.ItemData.{ItemData}
use Rattle.ckpt_items.specs.declared.data.ItemsData.{ItemsData}
use Rattle.ckpt_items.specs.Items.{all_items, blocks_of, free_of, is_above, has_number, number_of, without_number, IsFit, AreRising}
use Rattle.ckpt_items.specs.Stored.{data_of, datas, items_data, chains_of, IsRising, IsStored}
use Rattle.ckpt_items.proofs.ListLemmas.{find_first, find_none, map-remove, cut_parts}
use Rattle.ckpt_items.proofs.StoredLemmas.{SameMetas, metas_of, made, kept, chains-push, chains-at, chains-remove, blocks_chained, fit-remove, count_blocks}

abbrev laid_data : List ItemData → List ItemData → ℕ → ItemsData
laid_data closed last blocks = record { closed = closed; last = last; blocks = blocks }

-- an item of which nothing is known but its metadata
abbrev blank : ItemData → Item
blank d = record { key = 0; value = 0; meta = d.meta }

-- some bytes are appended, and these are left
pub record IsAppending (old : OutData) (all : List ℕ) (now : OutData) (rest : List ℕ) : Type 0 where
  pub bytes : now.bytes ++ rest ≡ old.bytes ++ all
  pub spare : now.spare + length all ≡ old.spare + length rest
  pub fits : length rest ≤ now.spare

pub appending_none : (old : OutData) (all rest : List ℕ) → rest ≡ all → length all ≤ old.spare → IsAppending old all old rest
appending_none old all rest is fits = record {
  bytes = ap (λ (ys : List ℕ). old.bytes ++ ys) is;
  spare = omega (arith, ap length is);
  fits = omega (arith, ap length is);
}

pub appending_more : (old : OutData) (all : List ℕ) (now new : OutData) (rest piece behind : List ℕ) → IsAppending old all now rest → piece ≡ take 128 rest → behind ≡ drop 128 rest → new.bytes ≡ now.bytes ++ piece → new.spare + length piece ≡ now.spare → IsAppending old all new behind
appending_more old all now new rest piece behind a piece_is behind_is bytes_is spare_is =
    let whole : piece ++ behind ≡ rest = ap (λ (ys : List ℕ). ys ++ behind) piece_is ∙ ap (λ (ys : List ℕ). take 128 rest ++ ys) behind_is ∙ take-append-drop 128 rest in
    let sum = sym (length-append piece behind) ∙ ap length whole in
    let spare : now.spare + length all ≡ old.spare + length rest = a.spare in
    let fits : length rest ≤ now.spare = a.fits in
    let more : new.spare + length all ≡ old.spare + length behind = omega arith in
    let room : length behind ≤ new.spare = omega arith in
    record {
      bytes = ap (λ (ys : List ℕ). ys ++ behind) bytes_is ∙ append_assoc now.bytes piece behind ∙ ap (λ (ys : List ℕ). now.bytes ++ ys) whole ∙ a.bytes;
      spare = more;
      fits = room;
    }

pub appending_done : (old : OutData) (all : List ℕ) (now : OutData) (rest : List ℕ) → IsAppending old all now rest → rest ≡ [] → (now.bytes ≡ old.bytes ++ all) × (now.spare + length all ≡ old.spare)
appending_done old all now rest a none =
    let bytes = sym (append-nil now.bytes) ∙ ap (λ (ys : List ℕ). now.bytes ++ ys) (sym none) ∙ a.bytes in
    let spare : now.spare + length all ≡ old.spare + length rest = a.spare in
    let nothing : length rest ≡ 0 = ap length none in
    (bytes, omega arith)

rising_datas : (pool : Held) (xs : List Item) → IsRising xs → AreRising (datas pool xs)
rising_datas pool xs rising i j d less l =
    let near : j < length xs = omega (arith, length-map xs (data_of pool)) in
    let front : (get_or (datas pool xs) i d).meta.seqno ≡ (get_or xs i (blank d)).meta.seqno = ap (λ (y : ItemData). y.meta.seqno) (get_or-map (data_of pool) xs i (blank d) d (omega arith)) in
    let back : (get_or (datas pool xs) j d).meta.seqno ≡ (get_or xs j (blank d)).meta.seqno = ap (λ (y : ItemData). y.meta.seqno) (get_or-map (data_of pool) xs j (blank d) d near) in
    let old = rising i j (blank d) less near in
    omega arith

module _ (pool : Held) (xs : List Item) (closed : ℕ) (old : ItemsData) (is : items_data pool xs closed ≡ old) where
  all_at : all_items old ≡ datas pool xs
  all_at = ap all_items (sym is) ∙ take-append-drop closed (datas pool xs)

  pub after_some : (n i : ℕ) (y : Item) → i < length xs → y ≡ get_or xs i y → ((k : ℕ) (d : Item) → k < i → (get_or xs k d).meta.seqno ≤ n) → ((k : ℕ) (d : Item) → i ≤ k → k < length xs → n < (get_or xs k d).meta.seqno) → Some y.meta.seqno ≡ number_of (find (is_above n) (all_items old))
  after_some n i y l y_is before behind =
      let same : y.meta.seqno ≡ (get_or xs i y).meta.seqno = ap (λ (x : Item). x.meta.seqno) y_is in
      let here = behind i y (omega arith) l in
      sym (ap (λ (ds : List ItemData). number_of (find (is_above n) ds)) all_at
      ∙ ap number_of (find_first (data_of pool) (is_above n) xs i y l y_is (λ k d h. le-ltb n (get_or xs k d).meta.seqno (before k d h)) (lt-ltb n y.meta.seqno (omega arith))))

  pub after_none : (n i : ℕ) → length xs ≤ i → ((k : ℕ) (d : Item) → k < i → (get_or xs k d).meta.seqno ≤ n) → None ≡ number_of (find (is_above n) (all_items old))
  after_none n i past before =
      sym (ap (λ (ds : List ItemData). number_of (find (is_above n) ds)) all_at
      ∙ ap number_of (find_none (data_of pool) (is_above n) xs (λ k d h. le-ltb n (get_or xs k d).meta.seqno (before k d (omega arith)))))

  pub item_some : (n i : ℕ) (y : Item) → IsRising xs → i < length xs → ((d : Item) → (get_or xs i d).meta.seqno ≡ n) → y ≡ get_or xs i y → find (has_number n) (all_items old) ≡ Some (data_of pool y)
  item_some n i y rising l number y_is =
      let own : y.meta.seqno ≡ n = ap (λ (x : Item). x.meta.seqno) y_is ∙ number y in
      ap (find (has_number n)) all_at
      ∙ find_first (data_of pool) (has_number n) xs i y l y_is
      (λ k d h. ne_eqb (get_or xs k d).meta.seqno n (λ e. let less = rising k i d h l in let here = number d in omega arith))
      (eq-eqb y.meta.seqno n own)

  pub item_none : (n : ℕ) → ((k : ℕ) (d : Item) → k < length xs → (get_or xs k d).meta.seqno ≢ n) → find (has_number n) (all_items old) ≡ None
  item_none n others =
      ap (find (has_number n)) all_at
      ∙ find_none (data_of pool) (has_number n) xs (λ k d h. ne_eqb (get_or xs k d).meta.seqno n (others k d h))

  blocks_at : length xs ≡ length (datas pool xs) → Owns pool (chains_of xs (datas pool xs)) → pool.free + blocks_of (all_items old) ≡ old.blocks
  blocks_at len owns =
      let sum : pool.free + sum_by (λ (c : ℕ × List ℕ). (length c.1 + 127) / 128) (chains_of xs (datas pool xs)) ≡ length pool.texts = owns.all in
      ap (λ (ds : List ItemData). pool.free + blocks_of ds) all_at
      ∙ ap (λ (n : ℕ). pool.free + n) (sym (blocks_chained xs (datas pool xs) len))
      ∙ sum
      ∙ ap (λ (o : ItemsData). o.blocks) is

  pub free_at : Owns pool (chains_of xs (datas pool xs)) → pool.free ≡ free_of old
  free_at owns =
      let sum = blocks_at (sym (length-map xs (data_of pool))) owns in
      omega arith

  pub held_at : Owns pool (chains_of xs (datas pool xs)) → blocks_of (all_items old) ≤ old.blocks
  held_at owns =
      let sum = blocks_at (sym (length-map xs (data_of pool))) owns in
      omega arith

  pub count_at : length xs ≡ length (all_items old)
  count_at = sym (length-map xs (data_of pool)) ∙ ap length (sym all_at)

  pub fit_at : All IsFit (datas pool xs) → All IsFit (all_items old)
  fit_at fit = subst (λ (ds : List ItemData). All IsFit ds) (sym all_at) fit

  pub rising_at : IsRising xs → AreRising (all_items old)
  rising_at rising = subst (λ (ds : List ItemData). AreRising ds) (sym all_at) (rising_datas pool xs rising)

  pub last_at : old.last ≡ drop closed (datas pool xs)
  last_at = ap (λ (o : ItemsData). o.last) (sym is)

-- there is room for an item of each block
pub room_at : (pool : Held) (xs : List Item) (closed capacity : ℕ) → IsStored pool xs closed capacity → (length xs ≤ length pool.texts - pool.free) × (pool.free ≤ length pool.texts)
room_at pool xs closed capacity s =
    let sum : pool.free + sum_by (λ (c : ℕ × List ℕ). (length c.1 + 127) / 128) (chains_of xs (datas pool xs)) ≡ length pool.texts = s.owns.all in
    let len : length (datas pool xs) ≡ length xs = length-map xs (data_of pool) in
    let blocks = blocks_chained xs (datas pool xs) (sym len) in
    let few = count_blocks (datas pool xs) s.fit in
    (omega arith, omega arith)

pub new_stored : (pool : Held) (xs : List Item) (blocks capacity : ℕ) → pool ≡ all_free blocks → xs ≡ [] → capacity ≡ blocks → blocks ≤ 16777216 → IsStored pool xs 0 capacity
unfolding chains_of
new_stored pool xs blocks capacity pool_is xs_is capacity_is few =
    let P : Held → Type 0 = λ p. IsStored p xs 0 capacity in
    let X : List Item → Type 0 = λ x. IsStored (all_free blocks) x 0 capacity in
    let len : length (all_free blocks).texts ≡ blocks = length-replicate {A = List ℕ} blocks [] in
    subst P (sym pool_is) (subst X (sym xs_is) (record {
      owns = owns_none blocks;
      bound = omega arith;
      room = omega arith;
      few = omega arith;
      fit = All-nil IsFit;
      rising = λ i j d l h. absurd (omega arith);
    }))

-- an item is put behind the others
pub pushed_owns : (p p1 p2 : Held) (xs : List Item) (x : Item) (key value : List ℕ) → Owns p (chains_of xs (datas p xs)) → Puts p p1 x.key key → Puts p1 p2 x.value value → Owns p2 (chains_of (xs ++ x ∷ []) (datas p xs ++ made key x.meta value ∷ []))
pushed_owns p p1 p2 xs x key value owns put_key put_value =
    let front = chains_of xs (datas p xs) in
    let P : List (ℕ × List ℕ) → Type 0 = λ cs. Owns p cs in
    let Q : List (ℕ × List ℕ) → Type 0 = λ cs. Owns p1 cs in
    let R : List (ℕ × List ℕ) → Type 0 = λ cs. Owns p2 cs in
    let one = owns-put p p1 (chains_of xs (datas p xs)) [] x.key key (subst P (sym (append-nil (chains_of xs (datas p xs)))) owns) put_key in
    let two = owns-put p1 p2 (chains_of xs (datas p xs) ++ (x.key, key) ∷ []) [] x.value value (subst Q (sym (append-nil (chains_of xs (datas p xs) ++ (x.key, key) ∷ []))) one) put_value in
    subst R (append_assoc (chains_of xs (datas p xs)) ((x.key, key) ∷ []) ((x.value, value) ∷ []) ∙ sym (chains-push xs (datas p xs) x (made key x.meta value) (sym (length-map xs (data_of p))))) two

pushed_metas : (p : Held) (xs : List Item) (x : Item) (key value : List ℕ) → SameMetas (xs ++ x ∷ []) (datas p xs ++ made key x.meta value ∷ [])
pushed_metas p xs x key value =
    let same = metas_of p xs in
    record { metas = map-append (λ (y : Item). y.meta) xs (x ∷ []) ∙ ap (λ (ms : List Meta). ms ++ x.meta ∷ []) same.metas ∙ sym (map-append (λ (d : ItemData). d.meta) (datas p xs) (made key x.meta value ∷ [])) }

pub pushed_datas : (p p1 p2 : Held) (xs : List Item) (x : Item) (key value : List ℕ) → Owns p (chains_of xs (datas p xs)) → Puts p p1 x.key key → Puts p1 p2 x.value value → datas p2 (xs ++ x ∷ []) ≡ datas p xs ++ made key x.meta value ∷ []
pushed_datas p p1 p2 xs x key value owns put_key put_value =
    kept p2 (xs ++ x ∷ []) (datas p xs ++ made key x.meta value ∷ []) (pushed_owns p p1 p2 xs x key value owns put_key put_value) (pushed_metas p xs x key value)

pushed_len : (p p1 p2 : Held) (k v : ℕ) (key value : List ℕ) → Puts p p1 k key → Puts p1 p2 v value → length p2.texts ≡ length p.texts
pushed_len p p1 p2 k v key value put_key put_value =
    ap length put_value.texts ∙ length-set p1.texts v value ∙ ap length put_key.texts ∙ length-set p.texts k key

rising_push : (p : Held) (xs : List Item) (x : Item) → IsRising xs → All (λ (d : ItemData). d.meta.seqno < x.meta.seqno) (datas p xs) → IsRising (xs ++ x ∷ [])
rising_push p xs x rising above i j d less within =
    let len : length (xs ++ x ∷ []) ≡ length xs + 1 = length-append xs (x ∷ []) in
    let near : i < length xs = omega arith in
    let front : (get_or (xs ++ x ∷ []) i d).meta.seqno ≡ (get_or xs i d).meta.seqno = ap (λ (y : Item). y.meta.seqno) (get_or_append_left xs (x ∷ []) d i near) in
    elim (cases_lt j (length xs)) [
      | inl w ↦
          let back : (get_or (xs ++ x ∷ []) j d).meta.seqno ≡ (get_or xs j d).meta.seqno = ap (λ (y : Item). y.meta.seqno) (get_or_append_left xs (x ∷ []) d j w) in
          let old = rising i j d less w in
          omega arith
      | inr w ↦
          let last : length xs ≡ j = omega arith in
          let back : (get_or (xs ++ x ∷ []) j d).meta.seqno ≡ x.meta.seqno = ap (λ (y : Item). y.meta.seqno) (get_or_push xs x d j last) in
          let same : (get_or (datas p xs) i (data_of p d)).meta.seqno ≡ (get_or xs i d).meta.seqno = ap (λ (e : ItemData). e.meta.seqno) (get_or-map (data_of p) xs i d (data_of p d) near) in
          let old = above i (data_of p d) (omega (arith, length-map xs (data_of p))) in
          omega arith
    ]

pub pushed_stored : (p p1 p2 : Held) (xs : List Item) (closed capacity capacity' : ℕ) (old : ItemsData) (x : Item) (key value : List ℕ) → IsStored p xs closed capacity → items_data p xs closed ≡ old → Puts p p1 x.key key → Puts p1 p2 x.value value → IsKey key → IsValue value → x.meta.len ≡ length value → All (λ (d : ItemData). d.meta.seqno < x.meta.seqno) (all_items old) → capacity' ≡ capacity → IsStored p2 (xs ++ x ∷ []) closed capacity'
pushed_stored p p1 p2 xs closed capacity capacity' old x key value s is put_key put_value is_key is_value len above same =
    let new = pushed_datas p p1 p2 xs x key value s.owns put_key put_value in
    let O : List ItemData → Type 0 = λ ds. Owns p2 (chains_of (xs ++ x ∷ []) ds) in
    let F : List ItemData → Type 0 = λ ds. All IsFit ds in
    let A : List ItemData → Type 0 = λ ds. All (λ (d : ItemData). d.meta.seqno < x.meta.seqno) ds in
    let texts = pushed_len p p1 p2 x.key x.value key value put_key put_value in
    let bound : closed ≤ length xs = s.bound in
    let room : length p.texts ≤ capacity = s.room in
    let few : length p.texts ≤ 16777216 = s.few in
    let more : length (xs ++ x ∷ []) ≡ length xs + 1 = length-append xs (x ∷ []) in
    let bound' : closed ≤ length (xs ++ x ∷ []) = omega arith in
    let room' : length p2.texts ≤ capacity' = omega arith in
    let few' : length p2.texts ≤ 16777216 = omega arith in
    record {
      owns = subst O (sym new) (pushed_owns p p1 p2 xs x key value s.owns put_key put_value);
      bound = bound';
      room = room';
      few = few';
      fit = subst F (sym new) (All-push IsFit (datas p xs) (made key x.meta value) s.fit (record { key = is_key; value = is_value; len = len }));
      rising = rising_push p xs x s.rising (subst A (all_at p xs closed old is) above);
    }

pub pushed_data : (p p1 p2 : Held) (xs : List Item) (closed capacity : ℕ) (old : ItemsData) (x : Item) (key value : List ℕ) → IsStored p xs closed capacity → items_data p xs closed ≡ old → Puts p p1 x.key key → Puts p1 p2 x.value value → items_data p2 (xs ++ x ∷ []) closed ≡ record old { last = old.last ++ made key x.meta value ∷ [] }
pushed_data p p1 p2 xs closed capacity old x key value s is put_key put_value =
    let new = pushed_datas p p1 p2 xs x key value s.owns put_key put_value in
    let bound : closed ≤ length (datas p xs) = let b : closed ≤ length xs = s.bound in omega (arith, length-map xs (data_of p)) in
    ap (λ (ds : List ItemData). laid_data (take closed ds) (drop closed ds) (length p2.texts)) new
    ∙ ap (λ (ds : List ItemData). laid_data ds (drop closed (datas p xs ++ made key x.meta value ∷ [])) (length p2.texts)) (take-append-le closed (datas p xs) (made key x.meta value ∷ []) bound)
    ∙ ap (λ (ds : List ItemData). laid_data (take closed (datas p xs)) ds (length p2.texts)) (drop-append-le closed (datas p xs) (made key x.meta value ∷ []) bound)
    ∙ ap (λ (n : ℕ). laid_data (take closed (datas p xs)) (drop closed (datas p xs) ++ made key x.meta value ∷ []) n) (pushed_len p p1 p2 x.key x.value key value put_key put_value)
    ∙ ap (λ (o : ItemsData). laid_data o.closed (o.last ++ made key x.meta value ∷ []) o.blocks) is

-- an item is dropped
dropped_owns : (p p1 p2 : Held) (xs : List Item) (i : ℕ) (x : Item) → Owns p (chains_of xs (datas p xs)) → i < length xs → x ≡ get_or xs i x → TakesBack p p1 x.key → TakesBack p1 p2 x.value → Owns p2 (chains_of (remove xs i) (remove (datas p xs) i))
dropped_owns p p1 p2 xs i x owns l x_is take_key take_value =
    let P : List (ℕ × List ℕ) → Type 0 = λ cs. Owns p cs in
    let R : List (ℕ × List ℕ) → Type 0 = λ cs. Owns p2 cs in
    let len : length xs ≡ length (datas p xs) = sym (length-map xs (data_of p)) in
    let d_is : data_of p x ≡ get_or (datas p xs) i (data_of p x) = ap (data_of p) x_is ∙ sym (get_or-map (data_of p) xs i x (data_of p x) l) in
    let cut = chains-at xs (datas p xs) i x (data_of p x) len l x_is d_is in
    let front = chains_of (take i xs) (take i (datas p xs)) in
    let back = chains_of (drop (suc i) xs) (drop (suc i) (datas p xs)) in
    let one = owns-take_back p p1 (chains_of (take i xs) (take i (datas p xs))) ((x.value, bytes_at p x.value) ∷ chains_of (drop (suc i) xs) (drop (suc i) (datas p xs))) x.key (bytes_at p x.key) (subst P cut owns) take_key in
    let two = owns-take_back p1 p2 (chains_of (take i xs) (take i (datas p xs))) (chains_of (drop (suc i) xs) (drop (suc i) (datas p xs))) x.value (bytes_at p x.value) one take_value in
    subst R (sym (chains-remove xs (datas p xs) i len)) two

dropped_metas : (p : Held) (xs : List Item) (i : ℕ) → SameMetas (remove xs i) (remove (datas p xs) i)
dropped_metas p xs i =
    let same = metas_of p xs in
    record { metas = map-remove (λ (y : Item). y.meta) xs i ∙ ap (λ (ms : List Meta). remove ms i) same.metas ∙ sym (map-remove (λ (d : ItemData). d.meta) (datas p xs) i) }

dropped_datas : (p p1 p2 : Held) (xs : List Item) (i : ℕ) (x : Item) → Owns p (chains_of xs (datas p xs)) → i < length xs → x ≡ get_or xs i x → TakesBack p p1 x.key → TakesBack p1 p2 x.value → datas p2 (remove xs i) ≡ remove (datas p xs) i
dropped_datas p p1 p2 xs i x owns l x_is take_key take_value =
    kept p2 (remove xs i) (remove (datas p xs) i) (dropped_owns p p1 p2 xs i x owns l x_is take_key take_value) (dropped_metas p xs i)

dropped_len : (p p1 p2 : Held) (k v : ℕ) → TakesBack p p1 k → TakesBack p1 p2 v → length p2.texts ≡ length p.texts
dropped_len p p1 p2 k v take_key take_value =
    ap length take_value.texts ∙ length-set {A = List ℕ} p1.texts v [] ∙ ap length take_key.texts ∙ length-set {A = List ℕ} p.texts k []

rising_remove : (xs : List Item) (i : ℕ) → i < length xs → IsRising xs → IsRising (remove xs i)
rising_remove xs i l rising a b d less within =
    let len : length (remove xs i) + 1 ≡ length xs = length-remove xs i l in
    elim (cases_lt b i) [
      | inl w ↦
          let at_a : (get_or (remove xs i) a d).meta.seqno ≡ (get_or xs a d).meta.seqno = ap (λ (y : Item). y.meta.seqno) (get_or-remove_below xs i d a (omega arith) l) in
          let at_b : (get_or (remove xs i) b d).meta.seqno ≡ (get_or xs b d).meta.seqno = ap (λ (y : Item). y.meta.seqno) (get_or-remove_below xs i d b w l) in
          let old = rising a b d less (omega arith) in
          omega arith
      | inr w ↦
          let at_b : (get_or (remove xs i) b d).meta.seqno ≡ (get_or xs (b + 1) d).meta.seqno = ap (λ (y : Item). y.meta.seqno) (get_or-remove_above xs i d b w l) in
          elim (cases_lt a i) [
            | inl v ↦
                let at_a : (get_or (remove xs i) a d).meta.seqno ≡ (get_or xs a d).meta.seqno = ap (λ (y : Item). y.meta.seqno) (get_or-remove_below xs i d a v l) in
                let old = rising a (b + 1) d (omega arith) (omega arith) in
                omega arith
            | inr v ↦
                let at_a : (get_or (remove xs i) a d).meta.seqno ≡ (get_or xs (a + 1) d).meta.seqno = ap (λ (y : Item). y.meta.seqno) (get_or-remove_above xs i d a v l) in
                let old = rising (a + 1) (b + 1) d (omega arith) (omega arith) in
                omega arith
          ]
    ]

pub dropped_stored : (p p1 p2 : Held) (xs : List Item) (closed closed' capacity capacity' i : ℕ) (x : Item) → IsStored p xs closed capacity → i < length xs → x ≡ get_or xs i x → TakesBack p p1 x.key → TakesBack p1 p2 x.value → (i < closed → closed' + 1 ≡ closed) → (closed ≤ i → closed' ≡ closed) → capacity' ≡ capacity → IsStored p2 (remove xs i) closed' capacity'
dropped_stored p p1 p2 xs closed closed' capacity capacity' i x s l x_is take_key take_value less same same_capacity =
    let new = dropped_datas p p1 p2 xs i x s.owns l x_is take_key take_value in
    let O : List ItemData → Type 0 = λ ds. Owns p2 (chains_of (remove xs i) ds) in
    let F : List ItemData → Type 0 = λ ds. All IsFit ds in
    let texts = dropped_len p p1 p2 x.key x.value take_key take_value in
    let bound : closed ≤ length xs = s.bound in
    let room : length p.texts ≤ capacity = s.room in
    let few : length p.texts ≤ 16777216 = s.few in
    let fewer : length (remove xs i) + 1 ≡ length xs = length-remove xs i l in
    let bound' : closed' ≤ length (remove xs i) = elim (cases_lt i closed) [ inl w ↦ let c = less w in omega arith | inr w ↦ let c = same w in omega arith ] in
    let room' : length p2.texts ≤ capacity' = omega arith in
    let few' : length p2.texts ≤ 16777216 = omega arith in
    record {
      owns = subst O (sym new) (dropped_owns p p1 p2 xs i x s.owns l x_is take_key take_value);
      bound = bound';
      room = room';
      few = few';
      fit = subst F (sym new) (fit-remove (datas p xs) i s.fit);
      rising = rising_remove xs i l s.rising;
    }

one_number : (p : Held) (xs : List Item) (n i : ℕ) → IsRising xs → i < length xs → ((d : Item) → (get_or xs i d).meta.seqno ≡ n) → ((k : ℕ) (d : ItemData) → k < length (datas p xs) → (k ≡ i → ⊥) → eqb (get_or (datas p xs) k d).meta.seqno n ≡ false) × ((d : ItemData) → eqb (get_or (datas p xs) i d).meta.seqno n ≡ true)
one_number p xs n i rising l number = (
  (λ k d h ne.
      let e : Item = blank d in
      let near : k < length xs = omega (arith, length-map xs (data_of p)) in
      let at : (get_or (datas p xs) k d).meta.seqno ≡ (get_or xs k (blank d)).meta.seqno = ap (λ (y : ItemData). y.meta.seqno) (get_or-map (data_of p) xs k (blank d) d near) in
      let here = number (blank d) in
      ne_eqb (get_or (datas p xs) k d).meta.seqno n (λ e. elim (cases_lt k i) [
        | inl w ↦ let less = rising k i (blank d) w l in omega arith
        | inr w ↦ let less = rising i k (blank d) (omega arith) near in omega arith
      ])),
  (λ d. eq-eqb (get_or (datas p xs) i d).meta.seqno n (ap (λ (y : ItemData). y.meta.seqno) (get_or-map (data_of p) xs i (blank d) d l) ∙ number (blank d))),
)

pub dropped_data : (p p1 p2 : Held) (xs : List Item) (closed closed' capacity i n : ℕ) (old : ItemsData) (x : Item) → IsStored p xs closed capacity → items_data p xs closed ≡ old → i < length xs → ((d : Item) → (get_or xs i d).meta.seqno ≡ n) → x ≡ get_or xs i x → TakesBack p p1 x.key → TakesBack p1 p2 x.value → (i < closed → closed' + 1 ≡ closed) → (closed ≤ i → closed' ≡ closed) → items_data p2 (remove xs i) closed' ≡ record old { closed = without_number old.closed n; last = without_number old.last n }
dropped_data p p1 p2 xs closed closed' capacity i n old x s is l number x_is take_key take_value less same =
    let new = dropped_datas p p1 p2 xs i x s.owns l x_is take_key take_value in
    let one = one_number p xs n i s.rising l number in
    let bound : closed ≤ length xs = s.bound in
    let cut = cut_parts (λ (d : ItemData). d.meta.seqno) n (datas p xs) closed i closed' (omega (arith, length-map xs (data_of p))) (omega (arith, length-map xs (data_of p))) one.1 one.0 less same in
    ap (λ (ds : List ItemData). laid_data (take closed' ds) (drop closed' ds) (length p2.texts)) new
    ∙ ap (λ (ds : List ItemData). laid_data ds (drop closed' (remove (datas p xs) i)) (length p2.texts)) cut.0
    ∙ ap (λ (ds : List ItemData). laid_data (without_number (take closed (datas p xs)) n) ds (length p2.texts)) cut.1
    ∙ ap (λ (m : ℕ). laid_data (without_number (take closed (datas p xs)) n) (without_number (drop closed (datas p xs)) n) m) (dropped_len p p1 p2 x.key x.value take_key take_value)
    ∙ ap (λ (o : ItemsData). laid_data (without_number o.closed n) (without_number o.last n) o.blocks) is

-- all items are of closed checkpoints
pub closed_data : (p : Held) (xs : List Item) (closed closed' : ℕ) (old : ItemsData) → items_data p xs closed ≡ old → closed' ≡ length xs → items_data p xs closed' ≡ record old { closed = all_items old; last = [] }
closed_data p xs closed closed' old is all =
    let len : length (datas p xs) ≤ closed' = omega (arith, length-map xs (data_of p)) in
    ap (λ (ds : List ItemData). laid_data ds (drop closed' (datas p xs)) (length p.texts)) (take_all closed' (datas p xs) len ∙ sym (all_at p xs closed old is))
    ∙ ap (λ (ds : List ItemData). laid_data (all_items old) ds (length p.texts)) (drop_all closed' (datas p xs) len)
    ∙ ap (λ (o : ItemsData). laid_data (all_items old) [] o.blocks) is

-- no item has a number that the first one from its place on hasn't
pub no_place : (xs : List Item) (n i : ℕ) (y : Item) → IsRising xs → ((k : ℕ) (d : Item) → k < i → (get_or xs k d).meta.seqno < n) → ((k : ℕ) (d : Item) → i ≤ k → k < length xs → n ≤ (get_or xs k d).meta.seqno) → y ≡ get_or xs i y → (y.meta.seqno ≡ n → ⊥) → (k : ℕ) (d : Item) → k < length xs → (get_or xs k d).meta.seqno ≢ n
no_place xs n i y rising before behind y_is apart k d l e =
    elim (cases_order k i) [
      | inl same ↦
          let inside : i < length xs = omega (arith, same) in
          let here : (get_or xs i y).meta.seqno ≡ (get_or xs k d).meta.seqno =
          ap (λ (x : Item). x.meta.seqno) (get_or_default xs i y d inside) ∙ ap (λ (m : ℕ). (get_or xs m d).meta.seqno) (sym same) in
          apart (ap (λ (x : Item). x.meta.seqno) y_is ∙ here ∙ e)
      | inr w ↦ elim w [
        | inl v ↦ let less = before k d v in omega arith
        | inr v ↦
            let from = behind i d (omega arith) (omega arith) in
            let less = rising i k d v l in
            omega arith
      ]
    ]
