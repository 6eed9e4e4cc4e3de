-- What a caller may count on of the chains that it owns, while it puts more and takes some back.
use Rattle.std.proofs.Common.{◌≡◌, ◌≢◌, ℕ, zero, suc, ◌+◌, ◌<◌, ◌≤◌, ◌⊎◌, List, [], ◌∷◌, ◌++◌, length, get_or, sym, ap, ◌∙◌, subst, refl, arith, inl, inr}
use Rattle.std.proofs.Math.ListN.{set}
use Rattle.std.specs.List.{sum_by}
use Rattle.std.proofs.lemmas.Bool.Decides.{leb_tells}
use Rattle.std.proofs.lemmas.List.{get_or-set_same, get_or-set_other, get_or_past, set-set, set_comm, set-get_or, set_past, length-set, length-replicate}
use Rattle.std.proofs.lemmas.List.Sums.{sum_by-cons, sum_by-append}
use Rattle.value_pool.specs.Pools.{Held, blocks_of, bytes_at, all_free, Puts, TakesBack}
use Rattle.value_pool.specs.Owned.{AreIn, Owns}

pub owns_none : (blocks : ℕ) → Owns (all_free blocks) []
unfolding AreIn
owns_none blocks =
    let len : length (all_free blocks).texts ≡ blocks = length-replicate {A = List ℕ} blocks [] in
    record { are_in = tt; all = omega arith }

-- a place that is past the end, or another one, isn't changed
abbrev IsFar : List (List ℕ) → ℕ → ℕ → Type 0
IsFar texts i chain = (length texts ≤ i) ⊎ (chain ≡ i → ⊥)

far_read : (texts : List (List ℕ)) (i chain : ℕ) (bytes : List ℕ) → IsFar texts i chain → get_or (set texts chain bytes) i [] ≡ get_or texts i []
far_read texts i chain bytes (inl past) =
    get_or_past (set texts chain bytes) i [] (omega (arith, length-set texts chain bytes)) ∙ sym (get_or_past texts i [] past)
far_read texts i chain bytes (inr apart) = get_or-set_other texts chain i bytes [] (λ e. apart (sym e))

far_set : (texts : List (List ℕ)) (i chain : ℕ) (bytes : List ℕ) → IsFar texts i chain → set (set texts chain bytes) i [] ≡ set (set texts i []) chain bytes
far_set texts i chain bytes (inl past) =
    set_past (set texts chain bytes) i [] (omega (arith, length-set texts chain bytes))
    ∙ ap (λ (ts : List (List ℕ)). set ts chain bytes) (sym (set_past texts i [] past))
far_set texts i chain bytes (inr apart) = set_comm texts chain i bytes [] apart

cleared : (texts : List (List ℕ)) (i chain : ℕ) → get_or texts chain [] ≡ [] → get_or (set texts i []) chain [] ≡ []
cleared [] zero chain h = h
cleared [] (suc i) chain h = h
cleared (t ∷ ts) zero zero h = refl
cleared (t ∷ ts) zero (suc chain) h = h
cleared (t ∷ ts) (suc i) zero h = h
cleared (t ∷ ts) (suc i) (suc chain) h = cleared ts i chain h

put_read : (texts : List (List ℕ)) (chain : ℕ) (bytes : List ℕ) → (bytes ≢ [] → chain < length texts) → (bytes ≡ [] → chain ≡ length texts) → get_or (set texts chain bytes) chain [] ≡ bytes
put_read texts chain [] within empty =
    let last : chain ≡ length texts = empty refl in
    get_or_past (set texts chain []) chain [] (omega (arith, length-set {A = List ℕ} texts chain []))
put_read texts chain (x ∷ xs) within empty = get_or-set_same texts chain (x ∷ xs) [] (within (λ e. absurd (cc)))

put_far : (texts : List (List ℕ)) (x : ℕ × List ℕ) (chain : ℕ) → get_or texts chain [] ≡ [] → get_or texts x.0 [] ≡ x.1 → (x.0 < length texts → x.1 ≢ []) → IsFar texts x.0 chain
put_far texts x chain fresh is some =
    elim (leb_tells (length texts) x.0) [
      | inl w ↦ inl w.1
      | inr w ↦ inr (λ e. some w.1 (sym is ∙ ap (λ (n : ℕ). get_or texts n []) (sym e) ∙ fresh))
    ]

in-put : (texts : List (List ℕ)) (xs ys : List (ℕ × List ℕ)) (chain : ℕ) (bytes : List ℕ) → get_or texts chain [] ≡ [] → (bytes ≢ [] → chain < length texts) → (bytes ≡ [] → chain ≡ length texts) → AreIn texts (xs ++ ys) → AreIn (set texts chain bytes) (xs ++ (chain, bytes) ∷ ys)
unfolding AreIn
in-put texts [] ys chain bytes fresh within empty h =
    let back : set (set texts chain bytes) chain [] ≡ texts = set-set texts chain bytes [] ∙ ap (set texts chain) (sym fresh) ∙ set-get_or texts chain [] in
    let P : List (List ℕ) → Type 0 = λ ts. AreIn ts ys in (
      put_read texts chain bytes within empty,
      (
        λ l e. let last : chain ≡ length texts = empty e in omega (arith, length-set texts chain bytes),
        subst P (sym back) h,
      ),
    )
in-put texts (x ∷ xs) ys chain bytes fresh within empty h =
    let far = put_far texts x chain fresh h.0 h.1.0 in
    let len : length (set texts x.0 []) ≡ length texts = length-set {A = List ℕ} texts x.0 [] in
    let P : List (List ℕ) → Type 0 = λ ts. AreIn ts (xs ++ (chain, bytes) ∷ ys) in (
      far_read texts x.0 chain bytes far ∙ h.0,
      (
        λ l. h.1.0 (omega (arith, length-set texts chain bytes)),
        subst P (sym (far_set texts x.0 chain bytes far))
            (in-put (set texts x.0 []) xs ys chain bytes (cleared texts x.0 chain fresh) (λ some. let l = within some in omega arith) (λ none. empty none ∙ sym len) h.1.1),
      ),
    )

in_some : (texts : List (List ℕ)) (xs ys : List (ℕ × List ℕ)) (chain : ℕ) (bytes : List ℕ) → AreIn texts (xs ++ (chain, bytes) ∷ ys) → chain < length texts → bytes ≢ []
unfolding AreIn
in_some texts [] ys chain bytes h l = h.1.0 l
in_some texts (x ∷ xs) ys chain bytes h l = in_some (set texts x.0 []) xs ys chain bytes h.1.1 (omega (arith, length-set {A = List ℕ} texts x.0 []))

own_far : (texts : List (List ℕ)) (i chain : ℕ) (bytes : List ℕ) → (chain < length texts → bytes ≢ []) → get_or (set texts i []) chain [] ≡ bytes → IsFar texts i chain
own_far texts i chain bytes some read =
    elim (leb_tells (length texts) i) [
      | inl w ↦ inl w.1
      | inr w ↦ inr (λ e.
          some (omega (arith, w.1)) (sym read ∙ ap (λ (n : ℕ). get_or (set texts i []) n []) e ∙ get_or-set_same texts i [] [] w.1))
    ]

far_back : (texts : List (List ℕ)) (i chain : ℕ) → IsFar texts i chain → get_or (set texts i []) chain [] ≡ get_or texts chain []
far_back texts i chain (inl past) = ap (λ (ts : List (List ℕ)). get_or ts chain []) (set_past texts i [] past)
far_back texts i chain (inr apart) = get_or-set_other texts i chain [] [] apart

in_read : (texts : List (List ℕ)) (xs ys : List (ℕ × List ℕ)) (chain : ℕ) (bytes : List ℕ) → AreIn texts (xs ++ (chain, bytes) ∷ ys) → get_or texts chain [] ≡ bytes
unfolding AreIn
in_read texts [] ys chain bytes h = h.0
in_read texts (x ∷ xs) ys chain bytes h =
    let read = in_read (set texts x.0 []) xs ys chain bytes h.1.1 in
    let far = own_far texts x.0 chain bytes (in_some texts (x ∷ xs) ys chain bytes h) read in
    sym (far_back texts x.0 chain far) ∙ read

in-take_back : (texts : List (List ℕ)) (xs ys : List (ℕ × List ℕ)) (chain : ℕ) (bytes : List ℕ) → AreIn texts (xs ++ (chain, bytes) ∷ ys) → AreIn (set texts chain []) (xs ++ ys)
unfolding AreIn
in-take_back texts [] ys chain bytes h = h.1.1
in-take_back texts (x ∷ xs) ys chain bytes h =
    let read = in_read (set texts x.0 []) xs ys chain bytes h.1.1 in
    let far = own_far texts x.0 chain bytes (in_some texts (x ∷ xs) ys chain bytes h) read in
    let P : List (List ℕ) → Type 0 = λ ts. AreIn ts (xs ++ ys) in (
      far_read texts x.0 chain [] far ∙ h.0,
      (
        λ l. h.1.0 (omega (arith, length-set {A = List ℕ} texts chain [])),
        subst P (sym (far_set texts x.0 chain [] far)) (in-take_back (set texts x.0 []) xs ys chain bytes h.1.1),
      ),
    )

abbrev blocks_in : List (ℕ × List ℕ) → ℕ
blocks_in chains = sum_by (λ x. blocks_of (length x.1)) chains

blocks_split : (xs ys : List (ℕ × List ℕ)) (chain : ℕ) (bytes : List ℕ) → blocks_in (xs ++ (chain, bytes) ∷ ys) ≡ blocks_in (xs ++ ys) + blocks_of (length bytes)
blocks_split xs ys chain bytes =
    let split : blocks_in (xs ++ (chain, bytes) ∷ ys) ≡ blocks_in xs + blocks_in ((chain, bytes) ∷ ys) = sum_by-append (λ x. blocks_of (length x.1)) xs ((chain, bytes) ∷ ys) in
    let cons : blocks_in ((chain, bytes) ∷ ys) ≡ blocks_of (length bytes) + blocks_in ys = sum_by-cons (λ x. blocks_of (length x.1)) (chain, bytes) ys in
    let join : blocks_in (xs ++ ys) ≡ blocks_in xs + blocks_in ys = sum_by-append (λ x. blocks_of (length x.1)) xs ys in
    omega arith

-- one more is put: it is another one than all that are owned, and these stand
pub owns-put : (old new : Held) (xs ys : List (ℕ × List ℕ)) (chain : ℕ) (bytes : List ℕ) → Owns old (xs ++ ys) → Puts old new chain bytes → Owns new (xs ++ (chain, bytes) ∷ ys)
owns-put old new xs ys chain bytes owns puts =
    let P : List (List ℕ) → Type 0 = λ ts. AreIn ts (xs ++ (chain, bytes) ∷ ys) in
    let all : old.free + blocks_in (xs ++ ys) ≡ length old.texts = owns.all in
    let len : length new.texts ≡ length old.texts = ap length puts.texts ∙ length-set old.texts chain bytes in
    let free : new.free + blocks_of (length bytes) ≡ old.free = puts.free in
    let more : blocks_in (xs ++ (chain, bytes) ∷ ys) ≡ blocks_in (xs ++ ys) + blocks_of (length bytes) = blocks_split xs ys chain bytes in
    let sum : new.free + blocks_in (xs ++ (chain, bytes) ∷ ys) ≡ length new.texts = omega arith in
    record {
      are_in = subst P (sym puts.texts) (in-put old.texts xs ys chain bytes puts.fresh puts.within puts.empty owns.are_in);
      all = sum;
    }

-- one is taken back: the others stand
pub owns-take_back : (old new : Held) (xs ys : List (ℕ × List ℕ)) (chain : ℕ) (bytes : List ℕ) → Owns old (xs ++ (chain, bytes) ∷ ys) → TakesBack old new chain → Owns new (xs ++ ys)
owns-take_back old new xs ys chain bytes owns takes =
    let P : List (List ℕ) → Type 0 = λ ts. AreIn ts (xs ++ ys) in
    let all : old.free + blocks_in (xs ++ (chain, bytes) ∷ ys) ≡ length old.texts = owns.all in
    let len : length new.texts ≡ length old.texts = ap length takes.texts ∙ length-set {A = List ℕ} old.texts chain [] in
    let read : bytes_at old chain ≡ bytes = in_read old.texts xs ys chain bytes owns.are_in in
    let free : new.free ≡ old.free + blocks_of (length bytes) = takes.free ∙ ap (λ (b : List ℕ). old.free + blocks_of (length b)) read in
    let more : blocks_in (xs ++ (chain, bytes) ∷ ys) ≡ blocks_in (xs ++ ys) + blocks_of (length bytes) = blocks_split xs ys chain bytes in
    let sum : new.free + blocks_in (xs ++ ys) ≡ length new.texts = omega arith in
    record {
      are_in = subst P (sym takes.texts) (in-take_back old.texts xs ys chain bytes owns.are_in);
      all = sum;
    }

-- each has its bytes
pub owns_bytes : (pool : Held) (xs ys : List (ℕ × List ℕ)) (chain : ℕ) (bytes : List ℕ) → Owns pool (xs ++ (chain, bytes) ∷ ys) → bytes_at pool chain ≡ bytes
owns_bytes pool xs ys chain bytes owns = in_read pool.texts xs ys chain bytes owns.are_in
