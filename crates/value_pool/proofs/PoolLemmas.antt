-- What the calls of a pool make of its parts.
use Rattle.std.proofs.Common.{◌≡◌, ℕ, zero, suc, ◌+◌, ◌-◌, ◌<◌, ◌≤◌, List, [], ◌∷◌, length, get_or, refl, sym, ap, ◌∙◌, inl, inr, subst, ◌++◌, cond, eqb, arith, replicate}
use Rattle.std.proofs.Math.ListN.{set}
use Rattle.std.specs.List.{sum_by}
use Rattle.std.proofs.lemmas.List.{length-set, length-replicate, length-append, get_or-replicate, get_or_push, get_or_append_left, replicate_more, nil_from_length}
use Rattle.std.proofs.lemmas.List.Sums.{sum_by-set}
use Rattle.std.proofs.lemmas.List.Folds.{sum_by-replicate}
use Rattle.std.proofs.lemmas.Bool.{cond-false}
use Rattle.std.proofs.lemmas.Bool.Decides.{leb_tells, eqb_tells}
use Rattle.value_pool.specs.Pools.{Held, blocks_of, bytes_at, taken_blocks, all_free, Puts, TakesBack}
use Rattle.value_pool.specs.Layout.{walk, beyond, text, texts_from, times, chained, written, held_of, IsRoad, IsParted}
use Rattle.value_pool.proofs.WalkLemmas.{here, times_nil, times-cons, times_split, no_times, stands_one, walk-set, walk-relinked, beyond-relinked, times-last, beyond_within, stands_first, no_walk, chained-set, chained_has, chained-links}
use Rattle.value_pool.proofs.TextLemmas.{texts-links, texts-region, texts-set, texts-length, texts-get, text-length, texts-blocks}
use Rattle.value_pool.proofs.WriteLemmas.{written-length, written-other, written-whole, written-text}

-- a chain's blocks are there
pub chain_road : (region : List (List ℕ)) (links lens : List ℕ) (first free i : ℕ) → IsParted region links lens first free → IsRoad region links (blocks_of (get_or lens i 0)) i
chain_road region links lens first free i p = record {
  links_len = p.links_len;
  whole = p.whole;
  within = λ b l. let w = p.within b l in omega (arith, chained_has b links lens i 0 i (omega arith));
}

-- so are the free ones
pub free_road : (region : List (List ℕ)) (links lens : List ℕ) (first free k : ℕ) → IsParted region links lens first free → k ≤ free → IsRoad region links k first
free_road region links lens first free k p l = record {
  links_len = p.links_len;
  whole = p.whole;
  within = λ b far. let w = p.within b far in omega (arith, times_split b links k (free - k) free first (omega arith));
}

-- the texts' lengths and blocks
pub length_at : (region : List (List ℕ)) (links lens : List ℕ) (first free i : ℕ) → IsParted region links lens first free → length (bytes_at (held_of region links lens free) i) ≡ get_or lens i 0
length_at region links lens first free i p =
    let road = chain_road region links lens first free i p in
    ap length (texts-get region links lens i 0 i (omega arith))
    ∙ text-length region links (blocks_of (get_or lens i 0)) (get_or lens i 0) i p.whole road.within refl

pub text_at : (region : List (List ℕ)) (links lens : List ℕ) (free i : ℕ) → bytes_at (held_of region links lens free) i ≡ text region links (blocks_of (get_or lens i 0)) (get_or lens i 0) i
text_at region links lens free i = texts-get region links lens i 0 i (omega arith)

pub free_exact : (region : List (List ℕ)) (links lens : List ℕ) (first free : ℕ) → IsParted region links lens first free → free + taken_blocks (texts_from region links lens 0) ≡ length (texts_from region links lens 0)
free_exact region links lens first free p =
    let taken : taken_blocks (texts_from region links lens 0) ≡ sum_by blocks_of lens =
    texts-blocks region links lens 0 p.whole (λ b l. let w = p.within b l in omega arith) in
    let sizes : free + sum_by blocks_of lens ≡ length region = p.sizes in
    omega (arith, texts-length region links lens 0, p.lens_len)

-- no chain begins at a free block
first_none : (links lens : List ℕ) (first free : ℕ) → ((b : ℕ) → times b (walk links free first) + chained b links lens 0 ≤ 1) → 0 < free → blocks_of (get_or lens first 0) ≡ 0
first_none links lens first free once l =
    let o = once first in
    let has : times first (walk links (blocks_of (get_or lens first 0)) first) ≤ chained first links lens 0 =
    chained_has first links lens first 0 first (omega arith) in
    let split = times_split first links 1 (free - 1) free first (omega arith) in
    let one : 0 < times first (walk links 1 first) = stands_one links first in
    no_walk links (blocks_of (get_or lens first 0)) first (omega arith)

put_times : (b : ℕ) (links lens : List ℕ) (len first free m : ℕ) → blocks_of len ≡ m → m ≤ free → blocks_of (get_or lens first 0) ≡ 0 → first < length lens → times b (walk links (free - m) (beyond links m first)) + chained b links (set lens first len) 0 ≡ times b (walk links free first) + chained b links lens 0
put_times b links lens len first free m is enough none inside =
    let split = times_split b links m (free - m) free first (omega arith) in
    let set = chained-set b links lens first len 0 first inside (omega arith) in
    let old : times b (walk links (blocks_of (get_or lens first 0)) first) ≡ 0 = ap (λ (k : ℕ). times b (walk links k first)) none ∙ no_times b links first in
    let new : times b (walk links (blocks_of len) first) ≡ times b (walk links m first) = ap (λ (k : ℕ). times b (walk links k first)) is in
    omega arith

first_inside : (region : List (List ℕ)) (links : List ℕ) (k first : ℕ) → IsRoad region links k first → 0 < k → first < length region
unfolding beyond
first_inside region links k first road some = beyond_within links (length region) k 0 first road.within some

pub put_parted : (region : List (List ℕ)) (links lens bytes : List ℕ) (first free : ℕ) → IsParted region links lens first free → 0 < length bytes → blocks_of (length bytes) ≤ free → IsParted (written region links (blocks_of (length bytes)) first bytes) links (set lens first (length bytes)) (beyond links (blocks_of (length bytes)) first) (free - blocks_of (length bytes))
put_parted region links lens bytes first free p some enough =
    let road = free_road region links lens first free (blocks_of (length bytes)) p enough in
    let none : blocks_of (get_or lens first 0) ≡ 0 = first_none links lens first free p.once (omega arith) in
    let inside : first < length region = first_inside region links (blocks_of (length bytes)) first road (omega arith) in
    let new_len = written-length region links (blocks_of (length bytes)) first bytes in
    let lens_len = length-set lens first (length bytes) in
    let old_lens = p.lens_len in
    let moved = λ (b : ℕ). put_times b links lens (length bytes) first free (blocks_of (length bytes)) refl enough none (omega (arith, p.lens_len)) in
    record {
      links_len = p.links_len ∙ sym new_len;
      lens_len = lens_len ∙ p.lens_len ∙ sym new_len;
      few = let f = p.few in omega arith;
      whole = written-whole region links (blocks_of (length bytes)) first bytes road.within p.whole;
      once = λ b. let o = p.once b in omega (arith, moved b);
      within = λ b l. let o = p.within b (omega arith) in omega (arith, moved b);
      sizes = let s = p.sizes in omega (arith, sum_by-set blocks_of lens first (length bytes) 0 (omega arith), new_len);
    }

pub put_texts : (region : List (List ℕ)) (links lens bytes : List ℕ) (first free : ℕ) → IsParted region links lens first free → 0 < length bytes → blocks_of (length bytes) ≤ free → Puts (held_of region links lens free) (held_of (written region links (blocks_of (length bytes)) first bytes) links (set lens first (length bytes)) (free - blocks_of (length bytes))) first bytes
put_texts region links lens bytes first free p some enough =
    let road = free_road region links lens first free (blocks_of (length bytes)) p enough in
    let none : blocks_of (get_or lens first 0) ≡ 0 = first_none links lens first free p.once (omega arith) in
    let inside : first < length region = first_inside region links (blocks_of (length bytes)) first road (omega arith) in
    let split = λ (b : ℕ). times_split b links (blocks_of (length bytes)) (free - blocks_of (length bytes)) free first (omega arith) in
    record {
      texts =
          texts-set (written region links (blocks_of (length bytes)) first bytes) links lens first (length bytes) 0 first (omega arith)
          ∙ ap (λ (t : List ℕ). set (texts_from (written region links (blocks_of (length bytes)) first bytes) links lens 0) first t)
          (written-text region links (blocks_of (length bytes)) first bytes (λ b. let o = p.once b in omega (arith, split b)) road.within p.whole refl)
          ∙ ap (λ (ts : List (List ℕ)). set ts first bytes)
          (texts-region region (written region links (blocks_of (length bytes)) first bytes) links lens 0
          (λ b l. written-other region links (blocks_of (length bytes)) first bytes b (let o = p.once b in omega (arith, split b))));
      free = omega arith;
      fresh = nil_from_length (bytes_at (held_of region links lens free) first) (omega (arith, length_at region links lens first free first p));
      within = λ _. omega (arith, texts-length region links lens 0, p.lens_len);
      empty = λ e. absurd (omega (arith, ap length e));
    }

has_len : (lens : List ℕ) (c m : ℕ) → blocks_of (get_or lens c 0) ≡ suc m → c < length lens
has_len [] c m e = absurd (omega arith)
has_len (len ∷ lens) zero m e = omega arith
has_len (len ∷ lens) (suc c) m e = omega (arith, has_len lens c m e)

-- how often a chain's last block stands where
record IsLast (x : ℕ) (links lens : List ℕ) (first free c m : ℕ) : Type 0 where
  before : times x (walk links m c) ≡ 0
  unused : times x (walk links free first) ≡ 0
  others : chained x links (set lens c 0) 0 ≡ 0

is_last : (links lens : List ℕ) (first free c m : ℕ) → ((b : ℕ) → times b (walk links free first) + chained b links lens 0 ≤ 1) → blocks_of (get_or lens c 0) ≡ suc m → IsLast (beyond links m c) links lens first free c m
is_last links lens first free c m once is =
    let x = beyond links m c in
    let o = once (beyond links m c) in
    let set : chained (beyond links m c) links (set lens c 0) 0 + times (beyond links m c) (walk links (blocks_of (get_or lens c 0)) c) ≡ chained (beyond links m c) links lens 0 + times (beyond links m c) (walk links (blocks_of 0) c) =
    chained-set (beyond links m c) links lens c 0 0 c (has_len lens c m is) (omega arith) in
    let none : times (beyond links m c) (walk links (blocks_of 0) c) ≡ 0 = no_times (beyond links m c) links c in
    let all : times (beyond links m c) (walk links (blocks_of (get_or lens c 0)) c) ≡ times (beyond links m c) (walk links (suc m) c) =
    ap (λ (k : ℕ). times (beyond links m c) (walk links k c)) is in
    let last = times-last (beyond links m c) links m c in
    let one : 0 < times (beyond links m c) (beyond links m c ∷ []) = stands_first (beyond links m c) [] in
    record { before = omega arith; unused = omega arith; others = omega arith }

pub taken_times : (links lens : List ℕ) (first free c m : ℕ) → ((b : ℕ) → times b (walk links free first) + chained b links lens 0 ≤ 1) → blocks_of (get_or lens c 0) ≡ suc m → beyond links m c < length links → (b : ℕ) → times b (walk (set links (beyond links m c) first) (free + suc m) c) + chained b (set links (beyond links m c) first) (set lens c 0) 0 ≡ times b (walk links free first) + chained b links lens 0
taken_times links lens first free c m once is inside b =
    let last = is_last links lens first free c m once is in
    let split = times_split b (set links (beyond links m c) first) (suc m) free (free + suc m) c (omega arith) in
    let own : times b (walk (set links (beyond links m c) first) (suc m) c) ≡ times b (walk links (suc m) c) =
    ap (times b) (walk-relinked links (beyond links m c) first m c last.before) in
    let leads : times b (walk (set links (beyond links m c) first) free (beyond (set links (beyond links m c) first) (suc m) c)) ≡ times b (walk links free first) =
    ap (λ (n : ℕ). times b (walk (set links (beyond links m c) first) free n)) (beyond-relinked links (beyond links m c) first m c last.before refl inside)
    ∙ ap (times b) (walk-set links (beyond links m c) first free first last.unused) in
    let others = chained-links b (beyond links m c) first links (set lens c 0) 0 last.others in
    let set : chained b links (set lens c 0) 0 + times b (walk links (blocks_of (get_or lens c 0)) c) ≡ chained b links lens 0 + times b (walk links (blocks_of 0) c) =
    chained-set b links lens c 0 0 c (has_len lens c m is) (omega arith) in
    let none : times b (walk links (blocks_of 0) c) ≡ 0 = no_times b links c in
    let all : times b (walk links (blocks_of (get_or lens c 0)) c) ≡ times b (walk links (suc m) c) =
    ap (λ (k : ℕ). times b (walk links k c)) is in
    omega arith

pub last_within : (region : List (List ℕ)) (links lens : List ℕ) (first free c m j : ℕ) → IsParted region links lens first free → blocks_of (get_or lens c 0) ≡ suc m → j ≤ m → beyond links j c < length links
last_within region links lens first free c m j p is l =
    let road = chain_road region links lens first free c p in
    let inside : beyond links j c < length region = beyond_within links (length region) (blocks_of (get_or lens c 0)) j c road.within (omega arith) in
    omega (arith, p.links_len)

pub take_parted : (region : List (List ℕ)) (links lens : List ℕ) (first free c m : ℕ) → IsParted region links lens first free → blocks_of (get_or lens c 0) ≡ suc m → IsParted region (set links (beyond links m c) first) (set lens c 0) c (free + suc m)
take_parted region links lens first free c m p is =
    let moved = taken_times links lens first free c m p.once is (last_within region links lens first free c m m p is (omega arith)) in
    let inside : c < length lens = has_len lens c m is in
    record {
      links_len = length-set links (beyond links m c) first ∙ p.links_len;
      lens_len = length-set lens c 0 ∙ p.lens_len;
      few = p.few;
      whole = p.whole;
      once = λ b. let o = p.once b in omega (arith, moved b);
      within = λ b l. let o = p.within b l in omega (arith, moved b);
      sizes = let s = p.sizes in omega (arith, sum_by-set blocks_of lens c 0 0 inside);
    }

no_text : (region : List (List ℕ)) (links : List ℕ) (c : ℕ) → text region links (blocks_of 0) 0 c ≡ []
unfolding text
no_text region links c = refl

pub take_texts : (region : List (List ℕ)) (links lens : List ℕ) (first free c m : ℕ) → IsParted region links lens first free → blocks_of (get_or lens c 0) ≡ suc m → TakesBack (held_of region links lens free) (held_of region (set links (beyond links m c) first) (set lens c 0) (free + suc m)) c
take_texts region links lens first free c m p is = record {
  texts =
      texts-links region links (set lens c 0) (beyond links m c) first 0 (let last = is_last links lens first free c m p.once is in last.others)
      ∙ texts-set region links lens c 0 0 c (omega arith)
      ∙ ap (set (texts_from region links lens 0) c) (no_text region links c);
  free = let l = length_at region links lens first free c p in let e : blocks_of (length (bytes_at (held_of region links lens free) c)) ≡ suc m = ap (λ (n : ℕ). blocks_of n) l ∙ is in omega arith;
}

-- the first links lead each to the next block
pub record LeadOn (links : List ℕ) (count : ℕ) : Type 0 where
  pub len : length links ≡ count
  pub next : (i : ℕ) → i < count → get_or links i 0 ≡ i + 1

pub lead_none : LeadOn [] 0
lead_none = record { len = refl; next = λ i l. absurd (omega arith) }

pub lead_more : (links : List ℕ) (count : ℕ) → LeadOn links count → LeadOn (links ++ (count + 1) ∷ []) (count + 1)
lead_more links count lead = record {
  len = omega (arith, length-append links ((count + 1) ∷ []), lead.len);
  next = λ i l. elim (leb_tells count i) [
    | inl w ↦ let e : count ≡ i = omega (arith, w.1) in get_or_push links (count + 1) 0 i (lead.len ∙ e) ∙ ap (λ (n : ℕ). n + 1) e
    | inr w ↦ get_or_append_left links ((count + 1) ∷ []) 0 i (omega (arith, w.1, lead.len)) ∙ lead.next i w.1
  ];
}

fresh_times : (links : List ℕ) (n k c b : ℕ) → LeadOn links n → c + k ≤ n → (times b (walk links k c) ≤ 1) × (b < c → times b (walk links k c) ≡ 0) × (c + k ≤ b → times b (walk links k c) ≡ 0)
unfolding walk
fresh_times links n zero c b lead l = let e = times_nil b in (omega arith, λ _. e, λ _. e)
fresh_times links n (suc k) c b lead l =
    let next : get_or links c 0 ≡ c + 1 = lead.next c (omega arith) in
    let rest = fresh_times links n k (c + 1) b lead (omega arith) in
    let same : times b (walk links k (get_or links c 0)) ≡ times b (walk links k (c + 1)) = ap (λ (i : ℕ). times b (walk links k i)) next in
    let cons = times-cons b c (walk links k (get_or links c 0)) in
    elim (eqb_tells b c) [
      | inl w ↦
          let one : ◌≡◌ {A = ℕ} (cond (eqb b c) 1 0) 1 = here b c w.1 in
          let none = rest.1 (omega (arith, w.1)) in
          (omega arith, λ h. absurd (omega (arith, w.1)), λ h. absurd (omega (arith, w.1)))
      | inr w ↦
          let none : ◌≡◌ {A = ℕ} (cond (eqb b c) 1 0) 0 = cond-false (eqb b c) 1 0 w.0 in
          let few = rest.0 in
          (omega arith, λ h. let r = rest.1 (omega arith) in omega arith, λ h. let r = rest.2 (omega arith) in omega arith)
    ]

no_chains : (b : ℕ) (links : List ℕ) (n c : ℕ) → chained b links (replicate n 0) c ≡ 0
unfolding chained walk times
no_chains b links zero c = refl
no_chains b links (suc n) c = omega (arith, no_chains b links n (suc c))

no_texts : (region : List (List ℕ)) (links : List ℕ) (n c : ℕ) → texts_from region links (replicate n 0) c ≡ replicate n []
unfolding texts_from text
no_texts region links zero c = refl
no_texts region links (suc n) c = ap (λ (ts : List (List ℕ)). [] ∷ ts) (no_texts region links n (suc c))

no_blocks : (n : ℕ) → sum_by blocks_of (replicate n 0) ≡ 0
no_blocks n = omega (arith, sum_by-replicate blocks_of n 0)

-- the blocks that are made are zero, and lead each to the next
pub record IsLaidOut (region : List (List ℕ)) (links : List ℕ) (count : ℕ) : Type 0 where
  pub lead : LeadOn links count
  pub blocks : region ≡ replicate count (replicate 128 0)

pub laid_none : (region : List (List ℕ)) (links : List ℕ) → region ≡ [] → links ≡ [] → IsLaidOut region links 0
laid_none region links r_is l_is =
    let L : List ℕ → Type 0 = λ x. LeadOn x 0 in
    record { lead = subst L (sym l_is) lead_none; blocks = r_is }

pub laid_more : (region r : List (List ℕ)) (links l : List ℕ) (count : ℕ) → IsLaidOut region links count → r ≡ region ++ replicate 128 0 ∷ [] → l ≡ links ++ (count + 1) ∷ [] → IsLaidOut r l (count + 1)
laid_more region r links l count laid r_is l_is =
    let L : List ℕ → Type 0 = λ x. LeadOn x (count + 1) in
    record {
      lead = subst L (sym l_is) (lead_more links count laid.lead);
      blocks = r_is ∙ ap (λ (x : List (List ℕ)). x ++ replicate 128 0 ∷ []) laid.blocks ∙ replicate_more count (replicate 128 0);
    }

pub all_parted : (region : List (List ℕ)) (links lens : List ℕ) (n : ℕ) → IsLaidOut region links n → lens ≡ replicate n 0 → n ≤ 16777216 → IsParted region links lens 0 n
all_parted region links lens n laid lens_is few =
    let lead = laid.lead in
    let len : length region ≡ n = ap length laid.blocks ∙ length-replicate n (replicate 128 0) in
    let P : List ℕ → Type 0 = λ x. IsParted region links x 0 n in
    subst P (sym lens_is) (record {
      links_len = lead.len ∙ sym len;
      lens_len = length-replicate n 0 ∙ sym len;
      few = omega arith;
      whole = λ b l. ap (λ (x : List (List ℕ)). length (get_or x b [])) laid.blocks ∙ ap length (get_or-replicate n b (replicate 128 0) [] (omega arith)) ∙ length-replicate {A = ℕ} 128 0;
      once = λ b. let t = fresh_times links n n 0 b lead (omega arith) in let few = t.0 in omega (arith, no_chains b links n 0);
      within = λ b l. let t = fresh_times links n n 0 b lead (omega arith) in let e = t.2 (omega arith) in omega (arith, no_chains b links n 0);
      sizes = omega (arith, no_blocks n);
    })

abbrev held_at : ℕ → List (List ℕ) → Held
held_at n texts = record { texts = texts; free = n }

pub laid_whole_at : (region : List (List ℕ)) (links : List ℕ) (count n : ℕ) → IsLaidOut region links count → count ≡ n → IsLaidOut region links n
laid_whole_at region links count n laid e =
    let P : ℕ → Type 0 = λ m. IsLaidOut region links m in
    subst P e laid

pub all_held : (region : List (List ℕ)) (links lens : List ℕ) (n : ℕ) → lens ≡ replicate n 0 → held_of region links lens n ≡ all_free n
all_held region links lens n lens_is =
    ap (λ (x : List ℕ). held_of region links x n) lens_is ∙ ap (held_at n) (no_texts region links n 0)
