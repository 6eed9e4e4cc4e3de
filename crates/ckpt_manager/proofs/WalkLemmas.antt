-- What a walk over the items above a number meets.
use Rattle.std.proofs.Common.{◌≡◌, ℕ, ◌<◌, Bool, true, false, cond, List, [], ◌∷◌, ◌++◌, length, Some, refl, sym, ap, subst, ◌∙◌, arith}
use Rattle.std.specs.Prelude.{filter, nat_lt}
use Rattle.std.specs.List.{find}
use Rattle.std.proofs.lemmas.List.{append-nil}
use Rattle.std.proofs.lemmas.Bool.Decides.{nat_tests}
use Rattle.ckpt_items.specs.declared.data.ItemData.{ItemData}
use Rattle.ckpt_items.specs.Items.{is_above}
use Rattle.ckpt_manager.specs.declared.data.QueueData.{QueueData}
use Rattle.ckpt_manager.specs.Queue.{held, items_above, last_of}
use Rattle.ckpt_manager.specs.Sound.{IsSoundQueue}
use Rattle.ckpt_manager.specs.Walk.{Meets, HasWalked, items_met, ReadsGoOn, ReadsMeetAll}
use Rattle.ckpt_manager.proofs.ItemLemmas.{all-found}
use Rattle.ckpt_manager.proofs.QueueLemmas.{WithinLimits}
use Rattle.ckpt_manager.proofs.CallLemmas.{found-number}

-- the first that a filter leaves is found
head-found : (p : ItemData → Bool) (i : ItemData) (xs ys : List ItemData) → filter p xs ≡ i ∷ ys → (find p xs ≡ Some i) × (p i ≡ true)
head-found p i [] ys is = absurd (cc)
head-found p i (x ∷ xs) ys is =
    (elim (p x) as (λ b. p x ≡ b → cond b (x ∷ filter p xs) (filter p xs) ≡ i ∷ ys → (cond b (Some x) (find p xs) ≡ Some i) × (p i ≡ true)) [
      | true ↦ λ e f. let same : x ≡ i = cc in (ap (λ (i : ItemData). Some i) same, ap p (sym same) ∙ e)
      | false ↦ λ e f. head-found p i xs ys f
    ]) refl is

lower : (n a : ℕ) → nat_lt n a ≡ true → n < a
lower n a is = grind (arith, nat_tests)

meets-next : (q : QueueData) (at : ℕ) (item : ItemData) → IsSoundQueue q → items_above at (held q) ≡ item ∷ items_above item.meta.seqno (held q) → Meets q at item.meta.seqno item
meets-next q at item s rest =
    let first : (find (is_above at) (held q) ≡ Some item) × (is_above at item ≡ true) = head-found (is_above at) item (held q) (items_above item.meta.seqno (held q)) rest in
    let within : WithinLimits item = all-found WithinLimits (is_above at) (held q) item s.within first.0 in
    record {
      above = lower at item.meta.seqno first.1;
      number = refl;
      there = found-number (is_above at) 0 (held q) item s.numbers first.0;
      fit = record {
        key = within.0;
        value = within.1;
        len = all-found (λ (i : ItemData). i.meta.len ≡ length i.value) (is_above at) (held q) item s.measured first.0;
      };
      rest = rest;
    }

meets : (q : QueueData) (at m : ℕ) (item : ItemData) → IsSoundQueue q → item.meta.seqno ≡ m → items_above at (held q) ≡ item ∷ items_above m (held q) → Meets q at m item
meets q at m item s is rest =
    let same : items_above at (held q) ≡ item ∷ items_above item.meta.seqno (held q) =
    rest ∙ ap (λ (k : ℕ). item ∷ items_above k (held q)) (sym is) in
    subst (λ (k : ℕ). Meets q at k item) is (meets-next q at item s same)

walked-on : (q : QueueData) (n at m : ℕ) (item : ItemData) (met : List (ℕ × ItemData)) → HasWalked q n met at → Meets q at m item → HasWalked q n (met ++ (m, item) ∷ []) m
walked-on q n at m item [] walked next = (subst (λ (k : ℕ). Meets q k m item) walked next, refl)
walked-on q n at m item (x ∷ xs) walked next = (walked.0, walked-on q x.0 at m item xs walked.1 next)

pub reads-go-on : ReadsGoOn
reads-go-on q n at m met s walked reads =
    let next : Meets q at m reads.0 = meets q at m reads.0 s reads.1 reads.2 in
    (reads.0, (next, walked-on q n at m reads.0 met walked next))

walked-all : (q : QueueData) (n at : ℕ) (met : List (ℕ × ItemData)) → HasWalked q n met at → items_above n (held q) ≡ items_met met ++ items_above at (held q)
walked-all q n at [] walked = ap (λ (k : ℕ). items_above k (held q)) (sym walked)
walked-all q n at (x ∷ xs) walked = walked.0.rest ∙ ap (λ (l : List ItemData). x.1 ∷ l) (walked-all q x.0 at xs walked.1)

pub reads-meet-all : ReadsMeetAll
reads-meet-all q n at met walked ended =
    let all : items_met met ≡ items_above n (held q) =
    sym (walked-all q n at met walked ∙ ap (λ (l : List ItemData). items_met met ++ l) ended ∙ append-nil (items_met met)) in
    record { all = all; last = λ (key : List ℕ). ap (last_of key) all }
