-- What bytes written along a walk make of the region.
use Rattle.std.proofs.Common.{◌≡◌, ℕ, zero, suc, ◌-◌, ◌<◌, ◌≤◌, List, [], ◌∷◌, ◌++◌, length, get_or, take, drop, refl, sym, ap, ◌∙◌, arith, length-append, length-drop, inl, inr, subst}
use Rattle.std.proofs.Math.ListN.{set}
use Rattle.std.proofs.lemmas.List.{get_or-set_other, get_or-set_same, length-set, length-take, take-append-drop, take_all, take_at, drop_all, append-nil}
use Rattle.std.proofs.lemmas.Bool.Decides.{leb_tells}
use Rattle.value_pool.specs.Pools.{blocks_of}
use Rattle.value_pool.specs.Layout.{walk, beyond, text, times, laid, written, IsRoad}
use Rattle.value_pool.proofs.WalkLemmas.{absent_first, absent_rest, once_first, stands_rest, first_within, rest_within}

pub length-laid : (bytes old : List ℕ) → length old ≡ 128 → length (laid (take 128 bytes) old) ≡ 128
length-laid bytes old h =
    omega (arith, length-append (take 128 bytes) (drop (length (take 128 bytes)) old), length-take 128 bytes, length-drop (length (take 128 bytes)) old)

pub written-length : (region : List (List ℕ)) (links : List ℕ) (k c : ℕ) (bytes : List ℕ) → length (written region links k c bytes) ≡ length region
unfolding written
written-length region links zero c bytes = refl
written-length region links (suc k) c bytes =
    written-length (set region c (laid (take 128 bytes) (get_or region c []))) links k (get_or links c 0) (drop 128 bytes)
    ∙ length-set region c (laid (take 128 bytes) (get_or region c []))

-- a block that isn't on the walk is as it was
pub written-other : (region : List (List ℕ)) (links : List ℕ) (k c : ℕ) (bytes : List ℕ) (b : ℕ) → times b (walk links k c) ≡ 0 → get_or (written region links k c bytes) b [] ≡ get_or region b []
unfolding written walk
written-other region links zero c bytes b h = refl
written-other region links (suc k) c bytes b h =
    written-other (set region c (laid (take 128 bytes) (get_or region c []))) links k (get_or links c 0) (drop 128 bytes) b (absent_rest b c (walk links k (get_or links c 0)) h)
    ∙ get_or-set_other region c b (laid (take 128 bytes) (get_or region c [])) [] (absent_first b c (walk links k (get_or links c 0)) h)

set_whole : (region : List (List ℕ)) (c : ℕ) (new : List ℕ) → ((b : ℕ) → b < length region → length (get_or region b []) ≡ 128) → length new ≡ 128 → (b : ℕ) → b < length (set region c new) → length (get_or (set region c new) b []) ≡ 128
set_whole [] c new h n b l = absurd (omega (arith, length-set {A = List ℕ} [] c new))
set_whole (x ∷ xs) zero new h n zero l = n
set_whole (x ∷ xs) zero new h n (suc b) l = h (suc b) l
set_whole (x ∷ xs) (suc c) new h n zero l = h zero (omega arith)
set_whole (x ∷ xs) (suc c) new h n (suc b) l =
    set_whole xs c new (λ i k. h (suc i) (omega arith)) n b (omega arith)

laid_whole : (region : List (List ℕ)) (c : ℕ) (bytes : List ℕ) → c < length region → ((b : ℕ) → b < length region → length (get_or region b []) ≡ 128) → (b : ℕ) → b < length (set region c (laid (take 128 bytes) (get_or region c []))) → length (get_or (set region c (laid (take 128 bytes) (get_or region c []))) b []) ≡ 128
laid_whole region c bytes within whole =
    set_whole region c (laid (take 128 bytes) (get_or region c [])) whole (length-laid bytes (get_or region c []) (whole c within))

pub written-whole : (region : List (List ℕ)) (links : List ℕ) (k c : ℕ) (bytes : List ℕ) → ((b : ℕ) → length region ≤ b → times b (walk links k c) ≡ 0) → ((b : ℕ) → b < length region → length (get_or region b []) ≡ 128) → (b : ℕ) → b < length (written region links k c bytes) → length (get_or (written region links k c bytes) b []) ≡ 128
unfolding written
written-whole region links zero c bytes within whole = whole
written-whole region links (suc k) c bytes within whole =
    let new = set region c (laid (take 128 bytes) (get_or region c [])) in
    let len : length (set region c (laid (take 128 bytes) (get_or region c []))) ≡ length region = length-set region c (laid (take 128 bytes) (get_or region c [])) in
    written-whole (set region c (laid (take 128 bytes) (get_or region c []))) links k (get_or links c 0) (drop 128 bytes)
    (λ b l. rest_within links (length region) k c within b (omega arith))
    (laid_whole region c bytes (first_within links (length region) k c within) whole)

take_piece : (bytes old : List ℕ) → length old ≡ 128 → take (length bytes) (laid (take 128 bytes) old) ≡ take 128 bytes
take_piece bytes old h =
    elim (leb_tells (length bytes) 128) [
      | inl w ↦
          let short : length (take 128 bytes) ≡ length bytes = omega (arith, length-take 128 bytes, w.1) in
          take_at (take 128 bytes) (drop (length (take 128 bytes)) old) (length bytes) short
      | inr w ↦
          let full : length (take 128 bytes) ≡ 128 = omega (arith, length-take 128 bytes, w.1) in
          let none : drop (length (take 128 bytes)) old ≡ [] =
          drop_all (length (take 128 bytes)) old (omega arith) in
          ap (λ (ys : List ℕ). take (length bytes) (take 128 bytes ++ ys)) none
          ∙ ap (take (length bytes)) (append-nil (take 128 bytes))
          ∙ take_all (length bytes) (take 128 bytes) (omega (arith, w.1))
    ]

-- the first piece lies in its block
take-laid : (bytes old : List ℕ) → length old ≡ 128 → take (length bytes) (laid (take 128 bytes) old) ++ drop 128 bytes ≡ bytes
take-laid bytes old h =
    ap (λ (ys : List ℕ). ys ++ drop 128 bytes) (take_piece bytes old h) ∙ take-append-drop 128 bytes

pub written-text : (region : List (List ℕ)) (links : List ℕ) (k c : ℕ) (bytes : List ℕ) → ((b : ℕ) → times b (walk links k c) ≤ 1) → ((b : ℕ) → length region ≤ b → times b (walk links k c) ≡ 0) → ((b : ℕ) → b < length region → length (get_or region b []) ≡ 128) → blocks_of (length bytes) ≡ k → text (written region links k c bytes) links k (length bytes) c ≡ bytes
unfolding written walk text
written-text region links zero c [] once within whole e = refl
written-text region links zero c (x ∷ xs) once within whole e = absurd (omega arith)
written-text region links (suc k) c bytes once within whole e =
    let piece = laid (take 128 bytes) (get_or region c []) in
    let next = get_or links c 0 in
    let absent : times c (walk links k (get_or links c 0)) ≡ 0 = once_first c (walk links k (get_or links c 0)) (once c) in
    let inside : c < length region = first_within links (length region) k c within in
    let len : length (set region c (laid (take 128 bytes) (get_or region c []))) ≡ length region = length-set region c (laid (take 128 bytes) (get_or region c [])) in
    let first : get_or (written (set region c (laid (take 128 bytes) (get_or region c []))) links k (get_or links c 0) (drop 128 bytes)) c [] ≡ laid (take 128 bytes) (get_or region c []) =
    written-other (set region c (laid (take 128 bytes) (get_or region c []))) links k (get_or links c 0) (drop 128 bytes) c absent
    ∙ get_or-set_same region c (laid (take 128 bytes) (get_or region c [])) [] inside in
    let short : length (drop 128 bytes) ≡ length bytes - 128 = length-drop 128 bytes in
    let rest : text (written (set region c (laid (take 128 bytes) (get_or region c []))) links k (get_or links c 0) (drop 128 bytes)) links k (length (drop 128 bytes)) (get_or links c 0) ≡ drop 128 bytes =
    written-text (set region c (laid (take 128 bytes) (get_or region c []))) links k (get_or links c 0) (drop 128 bytes)
    (λ b. let o = once b in omega (arith, stands_rest b c (walk links k (get_or links c 0))))
    (λ b l. rest_within links (length region) k c within b (omega arith))
    (laid_whole region c bytes inside whole)
    (omega arith) in
    ap (λ (ys : List ℕ). take (length bytes) ys ++ text (written (set region c (laid (take 128 bytes) (get_or region c []))) links k (get_or links c 0) (drop 128 bytes)) links k (length bytes - 128) (get_or links c 0)) first
    ∙ ap (λ (n : ℕ). take (length bytes) (laid (take 128 bytes) (get_or region c [])) ++ text (written (set region c (laid (take 128 bytes) (get_or region c []))) links k (get_or links c 0) (drop 128 bytes)) links k n (get_or links c 0)) (sym short)
    ∙ ap (λ (ys : List ℕ). take (length bytes) (laid (take 128 bytes) (get_or region c [])) ++ ys) rest
    ∙ take-laid bytes (get_or region c []) (whole c inside)

-- what is still to be written gives the region that was to be made
pub record IsWriting (start : List (List ℕ)) (links : List ℕ) (first : ℕ) (bytes : List ℕ) (region : List (List ℕ)) (block : ℕ) (rest : List ℕ) : Type 0 where
  pub road : IsRoad region links (blocks_of (length rest)) block
  pub goes : written region links (blocks_of (length rest)) block rest ≡ written start links (blocks_of (length bytes)) first bytes
  pub behind : beyond links (blocks_of (length rest)) block ≡ beyond links (blocks_of (length bytes)) first

pub writing_none : (start : List (List ℕ)) (links : List ℕ) (first : ℕ) (bytes : List ℕ) → IsRoad start links (blocks_of (length bytes)) first → IsWriting start links first bytes start first bytes
writing_none start links first bytes road = record { road = road; goes = refl; behind = refl }

some_blocks : (rest : List ℕ) → 0 < length rest → blocks_of (length rest) ≡ suc (blocks_of (length (drop 128 rest)))
some_blocks rest l = omega (arith, length-drop 128 rest)

pub road_next : (region : List (List ℕ)) (links : List ℕ) (k c : ℕ) (bytes : List ℕ) → IsRoad region links (suc k) c → IsRoad (set region c (laid (take 128 bytes) (get_or region c []))) links k (get_or links c 0)
road_next region links k c bytes road =
    let len : length (set region c (laid (take 128 bytes) (get_or region c []))) ≡ length region = length-set region c (laid (take 128 bytes) (get_or region c [])) in
    record {
      links_len = road.links_len ∙ sym len;
      whole = laid_whole region c bytes (first_within links (length region) k c road.within) road.whole;
      within = λ b l. rest_within links (length region) k c road.within b (omega arith);
    }

written_step : (region : List (List ℕ)) (links : List ℕ) (k c : ℕ) (bytes : List ℕ) → written region links (suc k) c bytes ≡ written (set region c (laid (take 128 bytes) (get_or region c []))) links k (get_or links c 0) (drop 128 bytes)
unfolding written
written_step region links k c bytes = refl

beyond_step : (links : List ℕ) (k c : ℕ) → beyond links (suc k) c ≡ beyond links k (get_or links c 0)
unfolding beyond
beyond_step links k c = refl

pub writing_more : (start : List (List ℕ)) (links : List ℕ) (first : ℕ) (bytes : List ℕ) (region new : List (List ℕ)) (block : ℕ) (rest : List ℕ) → IsWriting start links first bytes region block rest → 0 < length rest → new ≡ set region block (laid (take 128 rest) (get_or region block [])) → IsWriting start links first bytes new (get_or links block 0) (drop 128 rest)
writing_more start links first bytes region new block rest w some is =
    let one = some_blocks rest some in
    let P : List (List ℕ) → Type 0 = λ r. IsWriting start links first bytes r (get_or links block 0) (drop 128 rest) in
    let R : ℕ → Type 0 = λ k. IsRoad region links k block in
    subst P (sym is) (record {
      road = road_next region links (blocks_of (length (drop 128 rest))) block rest (subst R one w.road);
      goes =
          sym (written_step region links (blocks_of (length (drop 128 rest))) block rest)
          ∙ ap (λ (k : ℕ). written region links k block rest) (sym one)
          ∙ w.goes;
      behind =
          sym (beyond_step links (blocks_of (length (drop 128 rest))) block)
          ∙ ap (λ (k : ℕ). beyond links k block) (sym one)
          ∙ w.behind;
    })

nothing_written : (region : List (List ℕ)) (links : List ℕ) (c : ℕ) → written region links (blocks_of 0) c [] ≡ region
unfolding written
nothing_written region links c = refl

nothing_beyond : (links : List ℕ) (c : ℕ) → beyond links (blocks_of 0) c ≡ c
unfolding beyond
nothing_beyond links c = refl

-- all is written
pub writing_done : (start : List (List ℕ)) (links : List ℕ) (first : ℕ) (bytes : List ℕ) (region : List (List ℕ)) (block : ℕ) (rest : List ℕ) → IsWriting start links first bytes region block rest → rest ≡ [] → (region ≡ written start links (blocks_of (length bytes)) first bytes) × (block ≡ beyond links (blocks_of (length bytes)) first)
writing_done start links first bytes region block rest w e =
    let R : List ℕ → Type 0 = λ ys. (written region links (blocks_of (length ys)) block ys ≡ written start links (blocks_of (length bytes)) first bytes) × (beyond links (blocks_of (length ys)) block ≡ beyond links (blocks_of (length bytes)) first) in
    let both = subst R e (w.goes, w.behind) in
    (sym (nothing_written region links block) ∙ both.0, sym (nothing_beyond links block) ∙ both.1)
