-- How the documents that a history puts make its world, and what of it is known to be stored.
use Rattle.std.proofs.Common.{◌≡◌, ◌≢◌, ◌<◌, ◌≤◌, ℕ, ◌+◌, true, false, cond, List, [], ◌∷◌, ◌++◌, refl, sym, ap, subst, ◌∙◌, arith, append_assoc}
use Rattle.std.specs.Prelude.{Option, Some, None, ◌==◌, option_to_list}
use Rattle.std.proofs.lemmas.Bool.Decides.{Decides-eqb, nat_tests}
use Rattle.std.specs.FinMap.{insert}
use Rattle.ep_model.specs.declared.data.CallData.{CallData}
use Rattle.ep_model.specs.declared.data.EventData.{EventData}
use Rattle.ep_model.specs.declared.data.EventData.TheVariants.{Called, Refused, Expired, Persisted, Marked, Asked, ReadFailed, Opened}
use Rattle.ep_model.specs.World.{Doc, World, stamp}
use Rattle.ep_model.specs.Answer.{Effect, Nothing, Puts, Sets, apply}
use Rattle.ep_model.specs.History.{call_effect, step, after, upto}
use Rattle.ep_model.specs.Mutations.{put_by, mutation_of, mutations}
use Rattle.ep_model.proofs.EffectLemmas.{IsDone, call_done, cas_rises}

-- a document that is put has the next sequence number, and a greater CAS than any before
abbrev pub IsNextPut : World → Option (List ℕ × Doc) → Type 0
IsNextPut w None = Unit {0}
IsNextPut w (Some p) = (p.1.seqno ≡ w.high + 1) × (w.maxcas < p.1.cas)

next_of_done : (w : World) (call : CallData) (now : ℕ) (effect : Effect) → IsDone w call now effect → IsNextPut w (put_by effect)
next_of_done w call now Nothing done = tt
next_of_done w call now (Puts key doc) done = (done.1.0, cas_rises w now doc done.1)
next_of_done w call now (Sets state) done = tt

pub mutation_is_next : (w : World) (event : EventData) → IsNextPut w (mutation_of w event)
mutation_is_next w (Called caller call now reply value) = next_of_done w call now (call_effect w call now reply) (call_done w call now reply)
mutation_is_next w (Refused caller call now cause) = tt
mutation_is_next w (Expired key now) = (refl, (let h : w.maxcas < stamp w now = omega arith in h))
mutation_is_next w (Persisted number) = tt
mutation_is_next w (Marked stripe number) = tt
mutation_is_next w (Asked ticket caller call) = tt
mutation_is_next w (ReadFailed ticket fault) = tt
mutation_is_next w Opened = tt

-- what a world stores: its documents and its greatest numbers
pub record SameStored (v w : World) : Type 0 where
  pub docs : w.docs ≡ v.docs
  pub high : w.high ≡ v.high
  pub maxcas : w.maxcas ≡ v.maxcas

pub stored_refl : (w : World) → SameStored w w
stored_refl w = record { docs = refl; high = refl; maxcas = refl }

pub stored_then : (u v w : World) → SameStored u v → SameStored v w → SameStored u w
stored_then u v w p q = record { docs = q.docs ∙ p.docs; high = q.high ∙ p.high; maxcas = q.maxcas ∙ p.maxcas }

-- the world after a document was put, or none
abbrev pub IsPut : World → World → Option (List ℕ × Doc) → Type 0
IsPut v w None = SameStored v w
IsPut v w (Some p) = (w.docs ≡ insert v.docs p.0 p.1) × (w.high ≡ p.1.seqno) × (w.maxcas ≡ p.1.cas)

put_of_effect : (w : World) (effect : Effect) → IsPut w (apply w effect) (put_by effect)
put_of_effect w Nothing = stored_refl w
put_of_effect w (Puts key doc) = (refl, refl, refl)
put_of_effect w (Sets state) = record { docs = refl; high = refl; maxcas = refl }

pub step_is_put : (w : World) (event : EventData) → IsPut w (step w event) (mutation_of w event)
step_is_put w (Called caller call now reply value) = put_of_effect w (call_effect w call now reply)
step_is_put w (Refused caller call now cause) = stored_refl w
step_is_put w (Expired key now) = (refl, refl, refl)
step_is_put w (Persisted number) = record { docs = refl; high = refl; maxcas = refl }
step_is_put w (Marked stripe number) = stored_refl w
step_is_put w (Asked ticket caller call) = stored_refl w
step_is_put w (ReadFailed ticket fault) = stored_refl w
step_is_put w Opened = record { docs = refl; high = refl; maxcas = refl }

-- numbers rise by one at most
pub record Rises (v w : World) : Type 0 where
  pub low : v.high ≤ w.high
  pub top : w.high ≤ v.high + 1

put_rises : (v w : World) (p : Option (List ℕ × Doc)) → IsNextPut v p → IsPut v w p → Rises v w
put_rises v w None next is = let e = is.high in record { low = omega arith; top = omega arith }
put_rises v w (Some p) next is = let a = next.0 in let b = is.1 in record { low = omega arith; top = omega arith }

pub step_rises : (w : World) (event : EventData) → Rises w (step w event)
step_rises w event = put_rises w (step w event) (mutation_of w event) (mutation_is_next w event) (step_is_put w event)

pub after_rises : (w : World) (events : List EventData) → w.high ≤ (after w events).high
after_rises w [] = omega arith
after_rises w (event ∷ events) = let a = (step_rises w event).low in let b = after_rises (step w event) events in omega arith

-- mutations of two parts of a history
pub mutations_append : (w : World) (xs ys : List EventData) → mutations w (xs ++ ys) ≡ mutations w xs ++ mutations (after w xs) ys
mutations_append w [] ys = refl
mutations_append w (x ∷ xs) ys =
    ap (λ (l : List (List ℕ × Doc)). option_to_list (mutation_of w x) ++ l) (mutations_append (step w x) xs ys)
    ∙ sym (append_assoc (option_to_list (mutation_of w x)) (mutations (step w x) xs) (mutations (after (step w x) xs) ys))

same_number : (a b : ℕ) → a ≡ b → (a == b) ≡ true
same_number a b is = (Decides-eqb a b).1 is

other_number : (a b : ℕ) → a ≢ b → (a == b) ≡ false
other_number a b differ = grind (arith, nat_tests)

-- what was put up to a number is the same behind more events
pub upto_append : (w : World) (xs ys : List EventData) (number : ℕ) → w.high ≤ number → number ≤ (after w xs).high → upto w (xs ++ ys) number ≡ upto w xs number
upto_append w [] [] number low top = refl
upto_append w [] (y ∷ ys) number low top =
    let e : w.high ≡ number = omega arith in
    ap (λ b. cond b w (upto (step w y) ys number)) (same_number w.high number e)
upto_append w (x ∷ xs) ys number low top =
    elim (w.high == number) as (λ b. w.high == number ≡ b → cond b w (upto (step w x) (xs ++ ys) number) ≡ cond b w (upto (step w x) xs number)) [
      | true ↦ λ is. refl
      | false ↦ λ is.
          let differ : w.high ≢ number = λ e. let t = same_number w.high number e in cc in
          let above : (step w x).high ≤ number = (let h = (step_rises w x).top in omega arith) in
          upto_append (step w x) xs ys number above top
    ] refl

pub upto_high : (w : World) (xs : List EventData) (number : ℕ) → w.high ≤ number → number ≤ (after w xs).high → (upto w xs number).high ≡ number
upto_high w [] number low top = omega arith
upto_high w (x ∷ xs) number low top =
    elim (w.high == number) as (λ b. w.high == number ≡ b → (cond b w (upto (step w x) xs number)).high ≡ number) [
      | true ↦ λ is. (Decides-eqb w.high number).0 is
      | false ↦ λ is.
          let differ : w.high ≢ number = λ e. let t = same_number w.high number e in cc in
          let above : (step w x).high ≤ number = (let h = (step_rises w x).top in omega arith) in
          upto_high (step w x) xs number above top
    ] refl
