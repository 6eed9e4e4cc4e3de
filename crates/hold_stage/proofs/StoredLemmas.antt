-- What is known to be stored, and what has still to be: the worlds at a number of a history, and the documents put above it.
use Rattle.std.proofs.Common.{◌≡◌, ◌≢◌, ◌<◌, ◌≤◌, ℕ, true, false, cond, List, [], ◌∷◌, ◌++◌, refl, sym, ap, ◌∙◌, arith}
use Rattle.std.specs.Prelude.{Option, Some, None, ◌==◌, nat_lt, option_to_list}
use Rattle.std.proofs.lemmas.Bool.Decides.{Decides-eqb, nat_tests}
use Rattle.std.proofs.lemmas.List.Elements.{filter-append}
use Rattle.std.specs.FinMap.{get, insert}
use Rattle.std.specs.Str.{bytes_eq}
use Rattle.std.proofs.lemmas.Slice.Eq.{bytes_eq-Decides}
use Rattle.ep_model.specs.declared.data.EventData.{EventData}
use Rattle.ep_model.specs.World.{Doc, Docs, World, put}
use Rattle.ep_model.specs.History.{step, after, upto}
use Rattle.ep_model.proofs.ReadBackLemmas.{get-put, get-put_other}
use Rattle.ep_model.specs.Mutations.{mutation_of, mutations, above, laid_on}
use Rattle.hold_stage.proofs.MutationLemmas.{IsNextPut, mutation_is_next, SameStored, stored_refl, stored_then, IsPut, step_is_put, step_rises, after_rises}

same_number : (a b : ℕ) → a ≡ b → (a == b) ≡ true
same_number a b is = (Decides-eqb a b).1 is

below_is : (a b : ℕ) → a < b → nat_lt a b ≡ true
below_is a b h = grind (arith, nat_tests)

below_not : (a b : ℕ) → b ≤ a → nat_lt a b ≡ false
below_not a b h = grind (arith, nat_tests)

-- an event that leaves the greatest number leaves what is stored
step_same : (w : World) (event : EventData) → (step w event).high ≡ w.high → SameStored w (step w event)
step_same w event is = at (mutation_of w event) (mutation_is_next w event) (step_is_put w event) is
  where
    at : {v w : World} (p : Option (List ℕ × Doc)) → IsNextPut v p → IsPut v w p → w.high ≡ v.high → SameStored v w
    at None next put is = put
    at (Some p) next put is = absurd (let a = next.0 in let b = put.1 in omega arith)

after_same : (w : World) (events : List EventData) → (after w events).high ≡ w.high → SameStored w (after w events)
after_same w [] is = stored_refl w
after_same w (event ∷ events) is =
    let a = (step_rises w event).low in
    let b = after_rises (step w event) events in
    let here : (step w event).high ≡ w.high = omega arith in
    stored_then w (step w event) (after (step w event) events) (step_same w event here) (after_same (step w event) events (omega arith))

-- the world at the greatest number stores what the world after all events does
pub upto_last : (w : World) (events : List EventData) → SameStored (upto w events (after w events).high) (after w events)
upto_last w [] = stored_refl w
upto_last w (event ∷ events) =
    let all = after (step w event) events in
    elim (w.high == all.high) as (λ b. w.high == all.high ≡ b → SameStored (cond b w (upto (step w event) events all.high)) all) [
      | true ↦ λ is. let e : all.high ≡ w.high = sym ((Decides-eqb w.high all.high).0 is) in after_same w (event ∷ events) e
      | false ↦ λ is. upto_last (step w event) events
    ] refl

-- what is put behind a number is put above it
pub above_all : (number : ℕ) (w : World) (events : List EventData) → number ≤ w.high → above number (mutations w events) ≡ mutations w events
above_all number w [] low = refl
above_all number w (event ∷ events) low =
    filter-append (λ (p : List ℕ × Doc). nat_lt number p.1.seqno) (option_to_list (mutation_of w event)) (mutations (step w event) events)
    ∙ ap (λ (l : List (List ℕ × Doc)). above number (option_to_list (mutation_of w event)) ++ l) (above_all number (step w event) events (let a = (step_rises w event).low in omega arith))
    ∙ ap (λ (l : List (List ℕ × Doc)). l ++ mutations (step w event) events) (first number w (mutation_of w event) low (mutation_is_next w event))
  where
    first : (number : ℕ) (w : World) (p : Option (List ℕ × Doc)) → number ≤ w.high → IsNextPut w p → above number (option_to_list p) ≡ option_to_list p
    first number w None low next = refl
    first number w (Some p) low next = ap (λ b. cond b (p ∷ []) []) (below_is number p.1.seqno (let a = next.0 in omega arith))

-- documents that are laid one after the other
pub laid_append : (docs : Docs) (xs ys : List (List ℕ × Doc)) → laid_on docs (xs ++ ys) ≡ laid_on (laid_on docs xs) ys
laid_append docs [] ys = refl
laid_append docs (x ∷ xs) ys = laid_append (insert docs x.0 x.1) xs ys

laid_step : (w : World) (event : EventData) → laid_on w.docs (option_to_list (mutation_of w event)) ≡ (step w event).docs
laid_step w event = at w (step w event) (mutation_of w event) (step_is_put w event)
  where
    at : (v w : World) (p : Option (List ℕ × Doc)) → IsPut v w p → laid_on v.docs (option_to_list p) ≡ w.docs
    at v w None put = sym put.docs
    at v w (Some p) put = sym put.0

laid_all : (w : World) (events : List EventData) → laid_on w.docs (mutations w events) ≡ (after w events).docs
laid_all w [] = refl
laid_all w (event ∷ events) =
    laid_append w.docs (option_to_list (mutation_of w event)) (mutations (step w event) events)
    ∙ ap (λ (d : Docs). laid_on d (mutations (step w event) events)) (laid_step w event)
    ∙ laid_all (step w event) events

-- The documents put above a number, laid over those at the number, are all.
pub laid_above : (w : World) (events : List EventData) (number : ℕ) → w.high ≤ number → number ≤ (after w events).high
    → laid_on (upto w events number).docs (above number (mutations w events)) ≡ (after w events).docs
laid_above w [] number low top = refl
laid_above w (event ∷ events) number low top =
    elim (w.high == number) as (λ b. w.high == number ≡ b → laid_on (cond b w (upto (step w event) events number)).docs (above number (mutations w (event ∷ events))) ≡ (after w (event ∷ events)).docs) [
      | true ↦ λ is.
          let e = (Decides-eqb w.high number).0 is in
          ap (λ (l : List (List ℕ × Doc)). laid_on w.docs l) (above_all number w (event ∷ events) (omega arith)) ∙ laid_all w (event ∷ events)
      | false ↦ λ is.
          let differ : w.high ≢ number = λ e. let t = same_number w.high number e in cc in
          let later : (step w event).high ≤ number = (let h = (step_rises w event).top in omega arith) in
          ap (λ (l : List (List ℕ × Doc)). laid_on (upto (step w event) events number).docs l) (skipped number w event events later) ∙ laid_above (step w event) events number later top
    ] refl
  where
    none : (number : ℕ) (v w : World) (p : Option (List ℕ × Doc)) → w.high ≤ number → IsPut v w p → above number (option_to_list p) ≡ []
    none number v w None low put = refl
    none number v w (Some p) low put = ap (λ b. cond b (p ∷ []) []) (below_not number p.1.seqno (let a = put.1 in omega arith))

    skipped : (number : ℕ) (w : World) (event : EventData) (events : List EventData) → (step w event).high ≤ number → above number (mutations w (event ∷ events)) ≡ above number (mutations (step w event) events)
    skipped number w event events low =
        filter-append (λ (p : List ℕ × Doc). nat_lt number p.1.seqno) (option_to_list (mutation_of w event)) (mutations (step w event) events)
        ∙ ap (λ (l : List (List ℕ × Doc)). l ++ above number (mutations (step w event) events)) (none number w (step w event) (mutation_of w event) low (step_is_put w event))

-- Where nothing is numbered above, there is nothing to store.
pub above_none : (w : World) (events : List EventData) (number : ℕ) → (after w events).high ≤ number → above number (mutations w events) ≡ []
above_none w [] number top = refl
above_none w (event ∷ events) number top =
    filter-append (λ (p : List ℕ × Doc). nat_lt number p.1.seqno) (option_to_list (mutation_of w event)) (mutations (step w event) events)
    ∙ ap (λ (l : List (List ℕ × Doc)). above number (option_to_list (mutation_of w event)) ++ l) (above_none (step w event) events number top)
    ∙ ap (λ (l : List (List ℕ × Doc)). l ++ []) (at number w (step w event) (mutation_of w event) (let a = after_rises (step w event) events in omega arith) (step_is_put w event))
  where
    at : (number : ℕ) (v w : World) (p : Option (List ℕ × Doc)) → w.high ≤ number → IsPut v w p → above number (option_to_list p) ≡ []
    at number v w None low put = refl
    at number v w (Some p) low put = ap (λ b. cond b (p ∷ []) []) (below_not number p.1.seqno (let a = put.1 in omega arith))

-- what was above a number is above a greater one where it still is
pub above_above : (low top : ℕ) (puts : List (List ℕ × Doc)) → low ≤ top → above top (above low puts) ≡ above top puts
above_above low top [] le = refl
above_above low top (p ∷ puts) le =
    elim (nat_lt low p.1.seqno) as (λ b. nat_lt low p.1.seqno ≡ b → above top (cond b (p ∷ above low puts) (above low puts)) ≡ above top (p ∷ puts)) [
      | true ↦ λ is. ap (λ (l : List (List ℕ × Doc)). cond (nat_lt top p.1.seqno) (p ∷ l) l) (above_above low top puts le)
      | false ↦ λ is.
          let no : nat_lt top p.1.seqno ≡ false = grind (arith, nat_tests) in
          above_above low top puts le ∙ sym (ap (λ b. cond b (p ∷ above top puts) (above top puts)) no)
    ] refl

-- a document that stands after an event, and isn't numbered above what was there before, was there before
kept_doc : (w : World) (event : EventData) (key : List ℕ) (doc : Doc) → get (step w event).docs key ≡ Some doc → doc.seqno ≤ w.high → get w.docs key ≡ Some doc
kept_doc w event key doc found low = at w (step w event) (mutation_of w event) key doc (mutation_is_next w event) (step_is_put w event) found low
  where
    at : (v w : World) (p : Option (List ℕ × Doc)) (key : List ℕ) (doc : Doc) → IsNextPut v p → IsPut v w p → get w.docs key ≡ Some doc → doc.seqno ≤ v.high → get v.docs key ≡ Some doc
    at v w None key doc next put found low = ap (λ (d : Docs). get d key) (sym put.docs) ∙ found
    at v w (Some p) key doc next put found low =
        let found' : get (insert v.docs p.0 p.1) key ≡ Some doc = ap (λ (d : Docs). get d key) (sym put.0) ∙ found in
        elim (bytes_eq key p.0) as (λ b. bytes_eq key p.0 ≡ b → get v.docs key ≡ Some doc) [
          | true ↦ λ is.
              let e : key ≡ p.0 = (bytes_eq-Decides key p.0).0 is in
              let same : Some p.1 ≡ Some doc = sym (ap (λ k. get (insert v.docs p.0 p.1) k) e ∙ get-put v p.0 p.1) ∙ found' in
              let d : p.1.seqno ≡ doc.seqno = ap (λ (x : Doc). x.seqno) (let s : p.1 ≡ doc = cc in s) in
              absurd (let a = next.0 in omega arith)
          | false ↦ λ is.
              let differ : key ≢ p.0 = λ e. let t = (bytes_eq-Decides key p.0).1 e in cc in
              sym (get-put_other v p.0 key p.1 differ) ∙ found'
        ] refl

no_doc : (w : World) (event : EventData) (key : List ℕ) → get (step w event).docs key ≡ None → get w.docs key ≡ None
no_doc w event key none-there = at w (step w event) (mutation_of w event) key (step_is_put w event) none-there
  where
    at : (v w : World) (p : Option (List ℕ × Doc)) (key : List ℕ) → IsPut v w p → get w.docs key ≡ None → get v.docs key ≡ None
    at v w None key put found = ap (λ (d : Docs). get d key) (sym put.docs) ∙ found
    at v w (Some p) key put found =
        let found' : get (insert v.docs p.0 p.1) key ≡ None = ap (λ (d : Docs). get d key) (sym put.0) ∙ found in
        elim (bytes_eq key p.0) as (λ b. bytes_eq key p.0 ≡ b → get v.docs key ≡ None) [
          | true ↦ λ is.
              let e : key ≡ p.0 = (bytes_eq-Decides key p.0).0 is in
              let same : Some p.1 ≡ None = sym (ap (λ k. get (insert v.docs p.0 p.1) k) e ∙ get-put v p.0 p.1) ∙ found' in
              absurd (cc)
          | false ↦ λ is.
              let differ : key ≢ p.0 = λ e. let t = (bytes_eq-Decides key p.0).1 e in cc in
              sym (get-put_other v p.0 key p.1 differ) ∙ found'
        ] refl

pub doc_before : (w : World) (events : List EventData) (key : List ℕ) (doc : Doc) → get (after w events).docs key ≡ Some doc → doc.seqno ≤ w.high → get w.docs key ≡ Some doc
doc_before w [] key doc found low = found
doc_before w (event ∷ events) key doc found low =
    let later = doc_before (step w event) events key doc found (let a = (step_rises w event).low in omega arith) in
    kept_doc w event key doc later low

pub none_before : (w : World) (events : List EventData) (key : List ℕ) → get (after w events).docs key ≡ None → get w.docs key ≡ None
none_before w [] key found = found
none_before w (event ∷ events) key found = no_doc w event key (none_before (step w event) events key found)

-- A document numbered up to a number is the one at that number, and where there is none there was none.
pub doc_upto : (w : World) (events : List EventData) (number : ℕ) (key : List ℕ) (doc : Doc) → get (after w events).docs key ≡ Some doc → doc.seqno ≤ number → get (upto w events number).docs key ≡ Some doc
doc_upto w [] number key doc found low = found
doc_upto w (event ∷ events) number key doc found low =
    elim (w.high == number) as (λ b. w.high == number ≡ b → get (cond b w (upto (step w event) events number)).docs key ≡ Some doc) [
      | true ↦ λ is. let e = (Decides-eqb w.high number).0 is in doc_before w (event ∷ events) key doc found (omega arith)
      | false ↦ λ is. doc_upto (step w event) events number key doc found low
    ] refl

pub none_upto : (w : World) (events : List EventData) (number : ℕ) (key : List ℕ) → get (after w events).docs key ≡ None → get (upto w events number).docs key ≡ None
none_upto w [] number key found = found
none_upto w (event ∷ events) number key found =
    elim (w.high == number) as (λ b. w.high == number ≡ b → get (cond b w (upto (step w event) events number)).docs key ≡ None) [
      | true ↦ λ is. none_before w (event ∷ events) key found
      | false ↦ λ is. none_upto (step w event) events number key found
    ] refl
