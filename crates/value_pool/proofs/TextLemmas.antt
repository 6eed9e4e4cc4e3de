-- The bytes of chains: what of the region, the links and the lengths they depend on.
use Rattle.std.proofs.Common.{◌≡◌, ℕ, zero, suc, ◌+◌, ◌-◌, ◌<◌, ◌≤◌, List, [], ◌∷◌, ◌++◌, length, get_or, take, drop, min, refl, sym, ap, ◌∙◌, subst, inl, inr, Bool, true, false, not, arith, length-append, length-drop}
use Rattle.std.proofs.Math.ListN.{set}
use Rattle.std.specs.List.{sum_by}
use Rattle.std.specs.Prelude.{Option, None, Some, IsNone, IsSome}
use Rattle.std.proofs.lemmas.List.{get_or-set_other, length-take, take_all, take_at, drop_at, drop_all, take_min, drop_min, take-append-drop, append-nil, nil_from_length}
use Rattle.std.proofs.lemmas.Bool.Decides.{leb_tells}
use Rattle.std.proofs.lemmas.Bool.{true≢false}
use Rattle.std.proofs.lemmas.Slice.Eq.{bytes_eq-Decides}
use Rattle.std.specs.Str.{bytes_eq}
use Rattle.std.proofs.lemmas.List.Sums.{sum_by-cons}
use Rattle.value_pool.specs.Pools.{blocks_of, taken_blocks}
use Rattle.value_pool.specs.Layout.{walk, text, texts_from, times, chained, IsRoad}
use Rattle.value_pool.proofs.WalkLemmas.{absent_first, absent_rest, stands_first, stands_rest, first_within, rest_within}

pub text-links : (region : List (List ℕ)) (links : List ℕ) (x v k len c : ℕ) → times x (walk links k c) ≡ 0 → text region (set links x v) k len c ≡ text region links k len c
unfolding walk text
text-links region links x v zero len c h = refl
text-links region links x v (suc k) len c h =
    let next = get_or-set_other links x c v 0 (λ e. absent_first x c (walk links k (get_or links c 0)) h (sym e)) in
    ap (λ (n : ℕ). take len (get_or region c []) ++ text region (set links x v) k (len - 128) n) next
    ∙ ap (λ (ys : List ℕ). take len (get_or region c []) ++ ys) (text-links region links x v k (len - 128) (get_or links c 0) (absent_rest x c (walk links k (get_or links c 0)) h))

pub texts-links : (region : List (List ℕ)) (links lens : List ℕ) (x v c : ℕ) → chained x links lens c ≡ 0 → texts_from region (set links x v) lens c ≡ texts_from region links lens c
unfolding chained texts_from
texts-links region links [] x v c h = refl
texts-links region links (len ∷ lens) x v c h =
    let first : times x (walk links (blocks_of len) c) ≡ 0 = omega arith in
    let rest : chained x links lens (suc c) ≡ 0 = omega arith in
    ap (λ (t : List ℕ). t ∷ texts_from region (set links x v) lens (suc c)) (text-links region links x v (blocks_of len) len c first)
    ∙ ap (λ (ts : List (List ℕ)). text region links (blocks_of len) len c ∷ ts) (texts-links region links lens x v (suc c) rest)

pub text-region : (old new : List (List ℕ)) (links : List ℕ) (k len c : ℕ) → ((b : ℕ) → 0 < times b (walk links k c) → get_or new b [] ≡ get_or old b []) → text new links k len c ≡ text old links k len c
unfolding walk text
text-region old new links zero len c h = refl
text-region old new links (suc k) len c h =
    let here = h c (stands_first c (walk links k (get_or links c 0))) in
    ap (λ (ys : List ℕ). take len ys ++ text new links k (len - 128) (get_or links c 0)) here
    ∙ ap (λ (ys : List ℕ). take len (get_or old c []) ++ ys) (text-region old new links k (len - 128) (get_or links c 0) (λ b l. h b (omega (arith, stands_rest b c (walk links k (get_or links c 0))))))

pub texts-region : (old new : List (List ℕ)) (links lens : List ℕ) (c : ℕ) → ((b : ℕ) → 0 < chained b links lens c → get_or new b [] ≡ get_or old b []) → texts_from new links lens c ≡ texts_from old links lens c
unfolding chained texts_from
texts-region old new links [] c h = refl
texts-region old new links (len ∷ lens) c h =
    ap (λ (t : List ℕ). t ∷ texts_from new links lens (suc c)) (text-region old new links (blocks_of len) len c (λ b l. h b (omega arith)))
    ∙ ap (λ (ts : List (List ℕ)). text old links (blocks_of len) len c ∷ ts) (texts-region old new links lens (suc c) (λ b l. h b (omega arith)))

pub texts-set : (region : List (List ℕ)) (links lens : List ℕ) (i new c place : ℕ) → place ≡ c + i → texts_from region links (set lens i new) c ≡ set (texts_from region links lens c) i (text region links (blocks_of new) new place)
unfolding texts_from
texts-set region links [] zero new c place e = refl
texts-set region links [] (suc i) new c place e = refl
texts-set region links (len ∷ lens) zero new c place e =
    let e' : c ≡ place = omega arith in
    ap (λ (n : ℕ). text region links (blocks_of new) new n ∷ texts_from region links lens (suc c)) e'
texts-set region links (len ∷ lens) (suc i) new c place e =
    ap (λ (ts : List (List ℕ)). text region links (blocks_of len) len c ∷ ts) (texts-set region links lens i new (suc c) place (omega arith))

pub texts-length : (region : List (List ℕ)) (links lens : List ℕ) (c : ℕ) → length (texts_from region links lens c) ≡ length lens
unfolding texts_from
texts-length region links [] c = refl
texts-length region links (len ∷ lens) c = ap suc (texts-length region links lens (suc c))

pub texts-get : (region : List (List ℕ)) (links lens : List ℕ) (i c place : ℕ) → place ≡ c + i → get_or (texts_from region links lens c) i [] ≡ text region links (blocks_of (get_or lens i 0)) (get_or lens i 0) place
unfolding texts_from text
texts-get region links [] zero c place e = refl
texts-get region links [] (suc i) c place e = refl
texts-get region links (len ∷ lens) zero c place e =
    let e' : c ≡ place = omega arith in
    ap (λ (n : ℕ). text region links (blocks_of len) len n) e'
texts-get region links (len ∷ lens) (suc i) c place e =
    texts-get region links lens i (suc c) place (omega arith)

pub text-length : (region : List (List ℕ)) (links : List ℕ) (k len c : ℕ) → ((b : ℕ) → b < length region → length (get_or region b []) ≡ 128) → ((b : ℕ) → length region ≤ b → times b (walk links k c) ≡ 0) → blocks_of len ≡ k → length (text region links k len c) ≡ len
unfolding text
text-length region links zero len c whole within e = omega arith
text-length region links (suc k) len c whole within e =
    let here : length (get_or region c []) ≡ 128 = whole c (first_within links (length region) k c within) in
    let rest : length (text region links k (len - 128) (get_or links c 0)) ≡ len - 128 =
    text-length region links k (len - 128) (get_or links c 0) whole (rest_within links (length region) k c within) (omega arith) in
    omega (arith, length-append (take len (get_or region c [])) (text region links k (len - 128) (get_or links c 0)), length-take len (get_or region c []))

pub texts-blocks : (region : List (List ℕ)) (links lens : List ℕ) (c : ℕ) → ((b : ℕ) → b < length region → length (get_or region b []) ≡ 128) → ((b : ℕ) → length region ≤ b → chained b links lens c ≡ 0) → taken_blocks (texts_from region links lens c) ≡ sum_by blocks_of lens
unfolding texts_from chained
texts-blocks region links [] c whole within = refl
texts-blocks region links (len ∷ lens) c whole within =
    let first : length (text region links (blocks_of len) len c) ≡ len =
    text-length region links (blocks_of len) len c whole (λ b l. let h = within b l in omega arith) refl in
    let rest = texts-blocks region links lens (suc c) whole (λ b l. let h = within b l in omega arith) in
    sum_by-cons (λ t. blocks_of (length t)) (text region links (blocks_of len) len c) (texts_from region links lens (suc c))
    ∙ ap (λ (n : ℕ). blocks_of n + taken_blocks (texts_from region links lens (suc c))) first
    ∙ ap (λ (n : ℕ). blocks_of len + n) rest
    ∙ sym (sum_by-cons blocks_of len lens)

blocks_more : (len k : ℕ) → blocks_of len ≡ suc k → blocks_of (len - 128) ≡ k
blocks_more len k e = omega arith

-- some bytes along a road: a first piece, and the others
pub road_here : (region : List (List ℕ)) (links : List ℕ) (len c : ℕ) → IsRoad region links (blocks_of len) c → 0 < len → c < length region
road_here region links len c road some =
    let e : blocks_of len ≡ suc (blocks_of (len - 128)) = omega arith in
    let R : ℕ → Type 0 = λ k. IsRoad region links k c in
    let road' = subst R e road in
    first_within links (length region) (blocks_of (len - 128)) c road'.within

pub road_rest : (region : List (List ℕ)) (links : List ℕ) (len c : ℕ) → IsRoad region links (blocks_of len) c → 0 < len → IsRoad region links (blocks_of (len - 128)) (get_or links c 0)
road_rest region links len c road some =
    let e : blocks_of len ≡ suc (blocks_of (len - 128)) = omega arith in
    let R : ℕ → Type 0 = λ k. IsRoad region links k c in
    let road' = subst R e road in
    record {
      links_len = road.links_len;
      whole = road.whole;
      within = rest_within links (length region) (blocks_of (len - 128)) c road'.within;
    }

text_step : (region : List (List ℕ)) (links : List ℕ) (k len c : ℕ) → text region links (suc k) len c ≡ take len (get_or region c []) ++ text region links k (len - 128) (get_or links c 0)
unfolding text
text_step region links k len c = refl

text_split : (region : List (List ℕ)) (links : List ℕ) (len c : ℕ) → 0 < len → text region links (blocks_of len) len c ≡ take len (get_or region c []) ++ text region links (blocks_of (len - 128)) (len - 128) (get_or links c 0)
text_split region links len c some =
    let e : blocks_of len ≡ suc (blocks_of (len - 128)) = omega arith in
    ap (λ (k : ℕ). text region links k len c) e ∙ text_step region links (blocks_of (len - 128)) len c

pub text_none : (region : List (List ℕ)) (links : List ℕ) (len c : ℕ) → len ≡ 0 → text region links (blocks_of len) len c ≡ []
unfolding text
text_none region links len c e = ap (λ (n : ℕ). text region links (blocks_of n) n c) e

pub text_len : (region : List (List ℕ)) (links : List ℕ) (len c : ℕ) → IsRoad region links (blocks_of len) c → length (text region links (blocks_of len) len c) ≡ len
text_len region links len c road = text-length region links (blocks_of len) len c road.whole road.within refl

-- a list cut behind its first block: a whole one with others behind it, or a part with nothing behind it
cut_piece : (block rest : List ℕ) (len : ℕ) → length block ≡ 128 → (len ≤ 128 → rest ≡ []) → (take 128 (take len block ++ rest) ≡ take (min len 128) block) × (drop 128 (take len block ++ rest) ≡ rest)
cut_piece block rest len whole short =
    elim (leb_tells len 128) [
      | inl w ↦
          let none = short w.1 in
          let small : length (take len block) ≤ 128 = omega (arith, length-take len block, w.1) in
          let least : min len 128 ≡ len = omega (arith, w.1) in (
            ap (λ (ys : List ℕ). take 128 (take len block ++ ys)) none
                ∙ ap (take 128) (append-nil (take len block))
                ∙ take_all 128 (take len block) small
                ∙ ap (λ (n : ℕ). take n block) (sym least),
            ap (λ (ys : List ℕ). drop 128 (take len block ++ ys)) none
                ∙ ap (drop 128) (append-nil (take len block))
                ∙ drop_all 128 (take len block) small
                ∙ sym none,
          )
      | inr w ↦
          let full : take len block ≡ block = take_all len block (omega (arith, w.1)) in
          let least : min len 128 ≡ 128 = omega (arith, w.1) in (
            ap (λ (ys : List ℕ). take 128 (ys ++ rest)) full
                ∙ take_at block rest 128 whole
                ∙ sym (take_all 128 block (omega arith))
                ∙ ap (λ (n : ℕ). take n block) (sym least),
            ap (λ (ys : List ℕ). drop 128 (ys ++ rest)) full ∙ drop_at block rest 128 whole,
          )
    ]

cut_text : (region : List (List ℕ)) (links : List ℕ) (len c : ℕ) → IsRoad region links (blocks_of len) c → 0 < len → (take 128 (take len (get_or region c []) ++ text region links (blocks_of (len - 128)) (len - 128) (get_or links c 0)) ≡ take (min len 128) (get_or region c [])) × (drop 128 (take len (get_or region c []) ++ text region links (blocks_of (len - 128)) (len - 128) (get_or links c 0)) ≡ text region links (blocks_of (len - 128)) (len - 128) (get_or links c 0))
cut_text region links len c road some =
    cut_piece (get_or region c []) (text region links (blocks_of (len - 128)) (len - 128) (get_or links c 0)) len
    (road.whole c (road_here region links len c road some))
    (λ l. text_none region links (len - 128) (get_or links c 0) (omega arith))

pub take-text : (region : List (List ℕ)) (links : List ℕ) (len c : ℕ) → IsRoad region links (blocks_of len) c → 0 < len → take 128 (text region links (blocks_of len) len c) ≡ take (min len 128) (get_or region c [])
take-text region links len c road some =
    let cut = cut_text region links len c road some in
    ap (take 128) (text_split region links len c some) ∙ cut.0

pub drop-text : (region : List (List ℕ)) (links : List ℕ) (len c : ℕ) → IsRoad region links (blocks_of len) c → 0 < len → drop 128 (text region links (blocks_of len) len c) ≡ text region links (blocks_of (len - 128)) (len - 128) (get_or links c 0)
drop-text region links len c road some =
    let cut = cut_text region links len c road some in
    ap (drop 128) (text_split region links len c some) ∙ cut.1

-- two lists are the same where their first pieces and their rests are
pub same_by_pieces : (xs ys : List ℕ) (n : ℕ) → n ≡ length (take 128 xs) → take n ys ≡ take 128 xs → drop 128 xs ≡ drop n ys → xs ≡ ys
same_by_pieces xs ys n is front rest =
    sym (take-append-drop 128 xs)
    ∙ ap (λ (zs : List ℕ). zs ++ drop 128 xs) (sym front)
    ∙ ap (λ (zs : List ℕ). take n ys ++ zs) rest
    ∙ take-append-drop n ys

pub same_rests : (xs ys : List ℕ) (n : ℕ) → n ≡ length (take 128 xs) → xs ≡ ys → drop 128 xs ≡ drop n ys
same_rests xs ys n is e =
    let m : n ≡ min 128 (length xs) = omega (arith, length-take 128 xs) in
    sym (drop_min 128 xs) ∙ ap (λ (k : ℕ). drop k xs) (sym m) ∙ ap (drop n) e

pub same_fronts : (xs ys : List ℕ) (n : ℕ) → n ≡ length (take 128 xs) → xs ≡ ys → take n ys ≡ take 128 xs
same_fronts xs ys n is e =
    let m : n ≡ min 128 (length xs) = omega (arith, length-take 128 xs) in
    ap (take n) (sym e) ∙ ap (λ (k : ℕ). take k xs) m ∙ take_min 128 xs

-- two lists whose first pieces were the same are the same where their rests are
pub record IsSameSoFar (all bytes pieces rest : List ℕ) : Type 0 where
  pub lengths : length pieces ≡ length rest
  pub back : pieces ≡ rest → all ≡ bytes
  pub on : all ≡ bytes → pieces ≡ rest

pub same_none : (all bytes : List ℕ) → length all ≡ length bytes → IsSameSoFar all bytes all bytes
same_none all bytes h = record { lengths = h; back = λ e. e; on = λ e. e }

same_more : (all bytes pieces rest : List ℕ) (n : ℕ) → IsSameSoFar all bytes pieces rest → n ≡ length (take 128 pieces) → take n rest ≡ take 128 pieces → IsSameSoFar all bytes (drop 128 pieces) (drop n rest)
same_more all bytes pieces rest n s is front =
    let lengths : length pieces ≡ length rest = s.lengths in
    record {
      lengths = omega (arith, length-drop 128 pieces, length-drop n rest, length-take 128 pieces);
      back = λ e. s.back (same_by_pieces pieces rest n is front e);
      on = λ e. same_rests pieces rest n is (s.on e);
    }

pub same_next : (all bytes pieces rest new behind : List ℕ) (n : ℕ) → IsSameSoFar all bytes pieces rest → n ≡ length (take 128 pieces) → take n rest ≡ take 128 pieces → new ≡ drop 128 pieces → behind ≡ drop n rest → IsSameSoFar all bytes new behind
same_next all bytes pieces rest new behind n s is front new_is behind_is =
    let N : List ℕ → Type 0 = λ x. IsSameSoFar all bytes x behind in
    let B : List ℕ → Type 0 = λ x. IsSameSoFar all bytes (drop 128 pieces) x in
    subst N (sym new_is) (subst B (sym behind_is) (same_more all bytes pieces rest n s is front))

pub same_apart : (all bytes pieces rest : List ℕ) (n : ℕ) → IsSameSoFar all bytes pieces rest → n ≡ length (take 128 pieces) → (take n rest ≡ take 128 pieces → ⊥) → all ≡ bytes → ⊥
same_apart all bytes pieces rest n s is apart e = apart (same_fronts pieces rest n is (s.on e))

pub same_all : (all bytes pieces rest : List ℕ) → IsSameSoFar all bytes pieces rest → pieces ≡ [] → all ≡ bytes
same_all all bytes pieces rest s e =
    s.back (e ∙ sym (nil_from_length rest (sym s.lengths ∙ ap length e)))

pub some_len : (xs : List ℕ) → (xs ≡ [] → ⊥) → 0 < length xs
some_len [] h = absurd (h refl)
some_len (x ∷ xs) h = omega arith

not_false : (b : Bool) → not b ≡ false → b ≡ true
not_false true h = refl
not_false false h = absurd (cc)

-- what `!=` tells
pub ne_apart : (xs ys : List ℕ) (r : Bool) → r ≡ not (bytes_eq xs ys) → r ≡ true → xs ≡ ys → ⊥
ne_apart xs ys r is told e =
    let same : bytes_eq xs ys ≡ true = (bytes_eq-Decides xs ys).1 e in
    true≢false (sym told ∙ is ∙ ap not same)

pub ne_same : (xs ys : List ℕ) (r : Bool) → r ≡ not (bytes_eq xs ys) → r ≡ false → xs ≡ ys
ne_same xs ys r is told = (bytes_eq-Decides xs ys).0 (not_false (bytes_eq xs ys) (sym is ∙ told))

pub some_unless : {T : Type 0} (r : Option T) → (IsNone r → ⊥) → IsSome r
some_unless None h = absurd (h refl)
some_unless (Some x) h = refl
