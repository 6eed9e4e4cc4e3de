-- What the calls of a pool owe and know, with each value that the code has under a name of its own.
use Rattle.std.proofs.Common.{◌≡◌, ℕ, suc, ◌+◌, ◌-◌, ◌<◌, ◌≤◌, List, [], length, get_or, refl, sym, ap, ◌∙◌, subst, inl, inr, arith}
use Rattle.std.proofs.Math.ListN.{set}
use Rattle.std.proofs.lemmas.List.{get_or_past, set_past, set-get_or, nil_from_length}
use Rattle.std.proofs.lemmas.Bool.Decides.{leb_tells}
use Rattle.value_pool.specs.Pools.{Held, blocks_of, bytes_at, taken_blocks, Puts, TakesBack}
use Rattle.value_pool.specs.Layout.{beyond, text, written, held_of, IsRoad, IsParted}
use Rattle.value_pool.proofs.TextLemmas.{texts-length}
use Rattle.value_pool.proofs.PoolLemmas.{chain_road, free_road, length_at, text_at, free_exact, put_parted, put_texts, take_parted, take_texts, last_within}

pub len_at : (region : List (List ℕ)) (links lens : List ℕ) (first free number : ℕ) (old : Held) (chain len : ℕ) → IsParted region links lens first free → held_of region links lens free ≡ old → number ≡ chain → len ≡ get_or lens number 0 → len ≡ length (bytes_at old chain)
len_at region links lens first free number old chain len p is number_is e =
    e ∙ sym (length_at region links lens first free number p)
    ∙ ap (λ (h : Held). length (bytes_at h number)) is
    ∙ ap (λ (n : ℕ). length (bytes_at old n)) number_is

lens_at : (region : List (List ℕ)) (links lens : List ℕ) (first free number : ℕ) (old : Held) (chain len : ℕ) → IsParted region links lens first free → held_of region links lens free ≡ old → number ≡ chain → len ≡ length (bytes_at old chain) → get_or lens number 0 ≡ len
lens_at region links lens first free number old chain len p is number_is e =
    len_at region links lens first free number old chain (get_or lens number 0) p is number_is refl ∙ sym e

pub road_at : (region r : List (List ℕ)) (links l lens : List ℕ) (first free number : ℕ) (old : Held) (chain len : ℕ) → IsParted region links lens first free → held_of region links lens free ≡ old → number ≡ chain → len ≡ length (bytes_at old chain) → r ≡ region → l ≡ links → IsRoad r l (blocks_of len) number
road_at region r links l lens first free number old chain len p is number_is e r_is l_is =
    let R : List (List ℕ) → Type 0 = λ x. IsRoad x l (blocks_of len) number in
    let L : List ℕ → Type 0 = λ x. IsRoad region x (blocks_of len) number in
    let N : ℕ → Type 0 = λ n. IsRoad region links (blocks_of n) number in
    subst R (sym r_is) (subst L (sym l_is) (subst N (lens_at region links lens first free number old chain len p is number_is e) (chain_road region links lens first free number p)))

pub pieces_at : (region r : List (List ℕ)) (links l lens : List ℕ) (first free number : ℕ) (old : Held) (chain len : ℕ) (result : List ℕ) → IsParted region links lens first free → held_of region links lens free ≡ old → number ≡ chain → len ≡ length (bytes_at old chain) → r ≡ region → l ≡ links → result ≡ text r l (blocks_of len) len number → result ≡ bytes_at old chain
pieces_at region r links l lens first free number old chain len result p is number_is e r_is l_is result_is =
    result_is
    ∙ ap (λ (x : List (List ℕ)). text x l (blocks_of len) len number) r_is
    ∙ ap (λ (x : List ℕ). text region x (blocks_of len) len number) l_is
    ∙ ap (λ (n : ℕ). text region links (blocks_of n) n number) (sym (lens_at region links lens first free number old chain len p is number_is e))
    ∙ sym (text_at region links lens free number)
    ∙ ap (λ (h : Held). bytes_at h number) is
    ∙ ap (bytes_at old) number_is

pub exact_at : (region : List (List ℕ)) (links lens : List ℕ) (first free : ℕ) (old : Held) → IsParted region links lens first free → held_of region links lens free ≡ old → free + taken_blocks old.texts ≡ length old.texts
exact_at region links lens first free old p is =
    let P : Held → Type 0 = λ h. free + taken_blocks h.texts ≡ length h.texts in
    subst P is (free_exact region links lens first free p)

-- the chain of no byte is there already
pub put_none_at : (region : List (List ℕ)) (links lens : List ℕ) (first free : ℕ) (old : Held) (bytes : List ℕ) (chain : ℕ) → held_of region links lens free ≡ old → bytes ≡ [] → chain ≡ length lens → Puts old old chain bytes
put_none_at region links lens first free old bytes chain is none chain_is =
    let last : chain ≡ length old.texts = chain_is ∙ sym (texts-length region links lens 0) ∙ ap (λ (h : Held). length h.texts) is in
    record {
      texts = sym (set_past old.texts chain bytes (omega arith));
      free = omega (arith, ap length none);
      fresh = get_or_past old.texts chain [] (omega arith);
      within = λ some. absurd (some none);
      empty = λ _. last;
    }

pub put_road_at : (region r : List (List ℕ)) (links l lens bytes : List ℕ) (first free need : ℕ) → IsParted region links lens first free → r ≡ region → l ≡ links → need ≡ blocks_of (length bytes) → need ≤ free → IsRoad r l (blocks_of (length bytes)) first
put_road_at region r links l lens bytes first free need p r_is l_is need_is enough =
    let R : List (List ℕ) → Type 0 = λ x. IsRoad x l (blocks_of (length bytes)) first in
    let L : List ℕ → Type 0 = λ x. IsRoad region x (blocks_of (length bytes)) first in
    subst R (sym r_is) (subst L (sym l_is) (free_road region links lens first free (blocks_of (length bytes)) p (omega arith)))

new_at : (region r new : List (List ℕ)) (links l bytes : List ℕ) (first : ℕ) → r ≡ region → l ≡ links → new ≡ written r l (blocks_of (length bytes)) first bytes → new ≡ written region links (blocks_of (length bytes)) first bytes
new_at region r new links l bytes first r_is l_is new_is =
    new_is
    ∙ ap (λ (x : List (List ℕ)). written x l (blocks_of (length bytes)) first bytes) r_is
    ∙ ap (λ (x : List ℕ). written region x (blocks_of (length bytes)) first bytes) l_is

pub put_parted_at : (region r new : List (List ℕ)) (links l lens bytes : List ℕ) (first free need behind : ℕ) → IsParted region links lens first free → r ≡ region → l ≡ links → need ≡ blocks_of (length bytes) → need ≤ free → 0 < length bytes → new ≡ written r l (blocks_of (length bytes)) first bytes → behind ≡ beyond l (blocks_of (length bytes)) first → IsParted new links (set lens first (length bytes)) behind (free - need)
put_parted_at region r new links l lens bytes first free need behind p r_is l_is need_is enough some new_is behind_is =
    let N : List (List ℕ) → Type 0 = λ x. IsParted x links (set lens first (length bytes)) behind (free - need) in
    let B : ℕ → Type 0 = λ b. IsParted (written region links (blocks_of (length bytes)) first bytes) links (set lens first (length bytes)) b (free - need) in
    let F : ℕ → Type 0 = λ n. IsParted (written region links (blocks_of (length bytes)) first bytes) links (set lens first (length bytes)) (beyond links (blocks_of (length bytes)) first) (free - n) in
    let behind' : behind ≡ beyond links (blocks_of (length bytes)) first = behind_is ∙ ap (λ (x : List ℕ). beyond x (blocks_of (length bytes)) first) l_is in
    subst N (sym (new_at region r new links l bytes first r_is l_is new_is))
    (subst B (sym behind')
    (subst F (sym need_is) (put_parted region links lens bytes first free p some (omega arith))))

pub put_texts_at : (region r new : List (List ℕ)) (links l lens bytes : List ℕ) (first free need : ℕ) (old : Held) → IsParted region links lens first free → held_of region links lens free ≡ old → r ≡ region → l ≡ links → need ≡ blocks_of (length bytes) → need ≤ free → 0 < length bytes → new ≡ written r l (blocks_of (length bytes)) first bytes → Puts old (held_of new links (set lens first (length bytes)) (free - need)) first bytes
put_texts_at region r new links l lens bytes first free need old p is r_is l_is need_is enough some new_is =
    let O : Held → Type 0 = λ h. Puts h (held_of new links (set lens first (length bytes)) (free - need)) first bytes in
    let N : List (List ℕ) → Type 0 = λ x. Puts (held_of region links lens free) (held_of x links (set lens first (length bytes)) (free - need)) first bytes in
    let F : ℕ → Type 0 = λ n. Puts (held_of region links lens free) (held_of (written region links (blocks_of (length bytes)) first bytes) links (set lens first (length bytes)) (free - n)) first bytes in
    subst O is
    (subst N (sym (new_at region r new links l bytes first r_is l_is new_is))
    (subst F (sym need_is) (put_texts region links lens bytes first free p some (omega arith))))

-- a chain that has bytes has a last block
last_of : (region : List (List ℕ)) (links lens : List ℕ) (first free number : ℕ) (old : Held) (chain len need : ℕ) → IsParted region links lens first free → held_of region links lens free ≡ old → number ≡ chain → len ≡ length (bytes_at old chain) → need ≡ blocks_of len → 0 < len → blocks_of (get_or lens number 0) ≡ suc (need - 1)
last_of region links lens first free number old chain len need p is number_is e need_is some =
    let same : get_or lens number 0 ≡ len = lens_at region links lens first free number old chain len p is number_is e in
    omega arith

pub steps_at : (region : List (List ℕ)) (links l lens : List ℕ) (first free number : ℕ) (old : Held) (chain len need j : ℕ) → IsParted region links lens first free → held_of region links lens free ≡ old → number ≡ chain → len ≡ length (bytes_at old chain) → need ≡ blocks_of len → 0 < len → l ≡ links → j ≤ need - 1 → beyond l j number < length l
steps_at region links l lens first free number old chain len need j p is number_is e need_is some l_is below =
    let L : List ℕ → Type 0 = λ x. beyond x j number < length x in
    subst L (sym l_is) (last_within region links lens first free number (need - 1) j p (last_of region links lens first free number old chain len need p is number_is e need_is some) below)

pub begins_at : (region : List (List ℕ)) (links lens : List ℕ) (first free number : ℕ) (old : Held) (chain len : ℕ) → IsParted region links lens first free → held_of region links lens free ≡ old → number ≡ chain → len ≡ length (bytes_at old chain) → 0 < len → number < length lens
begins_at region links lens first free number old chain len p is number_is e some =
    let same : get_or lens number 0 ≡ len = lens_at region links lens first free number old chain len p is number_is e in
    elim (leb_tells (length lens) number) [
      | inl w ↦ let past : get_or lens number 0 ≡ 0 = get_or_past lens number 0 w.1 in absurd (omega arith)
      | inr w ↦ w.1
    ]

pub take_parted_at : (region : List (List ℕ)) (links l lens : List ℕ) (first free number : ℕ) (old : Held) (chain len need last : ℕ) → IsParted region links lens first free → held_of region links lens free ≡ old → number ≡ chain → len ≡ length (bytes_at old chain) → need ≡ blocks_of len → 0 < len → l ≡ links → last ≡ beyond l (need - 1) number → IsParted region (set links last first) (set lens number 0) number (free + need)
take_parted_at region links l lens first free number old chain len need last p is number_is e need_is some l_is last_is =
    let last' : last ≡ beyond links (need - 1) number = last_is ∙ ap (λ (x : List ℕ). beyond x (need - 1) number) l_is in
    let more : suc (need - 1) ≡ need = omega arith in
    let P : ℕ → Type 0 = λ x. IsParted region (set links x first) (set lens number 0) number (free + need) in
    let F : ℕ → Type 0 = λ n. IsParted region (set links (beyond links (need - 1) number) first) (set lens number 0) number (free + n) in
    subst P (sym last') (subst F more (take_parted region links lens first free number (need - 1) p (last_of region links lens first free number old chain len need p is number_is e need_is some)))

pub take_texts_at : (region : List (List ℕ)) (links l lens : List ℕ) (first free number : ℕ) (old : Held) (chain len need last : ℕ) → IsParted region links lens first free → held_of region links lens free ≡ old → number ≡ chain → len ≡ length (bytes_at old chain) → need ≡ blocks_of len → 0 < len → l ≡ links → last ≡ beyond l (need - 1) number → TakesBack old (held_of region (set links last first) (set lens number 0) (free + need)) chain
take_texts_at region links l lens first free number old chain len need last p is number_is e need_is some l_is last_is =
    let last' : last ≡ beyond links (need - 1) number = last_is ∙ ap (λ (x : List ℕ). beyond x (need - 1) number) l_is in
    let more : suc (need - 1) ≡ need = omega arith in
    let O : Held → Type 0 = λ h. TakesBack h (held_of region (set links last first) (set lens number 0) (free + need)) chain in
    let P : ℕ → Type 0 = λ x. TakesBack (held_of region links lens free) (held_of region (set links x first) (set lens number 0) (free + need)) chain in
    let F : ℕ → Type 0 = λ n. TakesBack (held_of region links lens free) (held_of region (set links (beyond links (need - 1) number) first) (set lens number 0) (free + n)) chain in
    let C : ℕ → Type 0 = λ n. TakesBack (held_of region links lens free) (held_of region (set links (beyond links (need - 1) number) first) (set lens number 0) (free + suc (need - 1))) n in
    subst O is (subst P (sym last') (subst F more (subst C number_is (take_texts region links lens first free number (need - 1) p (last_of region links lens first free number old chain len need p is number_is e need_is some)))))

pub take_none_at : (old : Held) (chain len : ℕ) → len ≡ length (bytes_at old chain) → len ≡ 0 → TakesBack old old chain
take_none_at old chain len e none =
    let nothing : bytes_at old chain ≡ [] = nil_from_length (bytes_at old chain) (sym e ∙ none) in
    record {
      texts = sym (ap (set old.texts chain) (sym nothing) ∙ set-get_or old.texts chain []);
      free = omega (arith, ap length nothing);
    }
