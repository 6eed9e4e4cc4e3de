-- A call more for a caller.
use Rattle.std.proofs.Common.{◌≡◌, ◌≢◌, ◌<◌, ◌+◌, ℕ, zero, suc, inl, inr, List, [], ◌∷◌, ◌++◌, length, map, slice_get, slice_set, get_or, refl, sym, ap, subst, ◌∙◌, arith}
use Rattle.std.specs.Prelude.{Some, None, Result, Ok, Err, OnOk, OnErr, is_ok, if◌then◌else◌}
use Rattle.std.proofs.lemmas.Bool.{cases_eq}
use Rattle.std.proofs.lemmas.List.{map_push}
use Rattle.ep_model.specs.declared.config.Eviction.TheVariants.{Value}
use Rattle.ep_model.specs.declared.data.EventData.TheVariants as events
use Rattle.ep_model.specs.Config.{config_fault}
use Rattle.ep_model.specs.Front.{empty_start}
use Rattle.vb_world.specs.World.{front_in, no_buckets}
use Rattle.ep_model.specs.declared.config.Config.{Config}
use Rattle.ep_model.specs.declared.data.CallData.{CallData}
use Rattle.vb_world.specs.declared.data.WorldData.{WorldData}
use Rattle.ep_drill.specs.declared.bench.Bench.{Bench}
use Rattle.ep_drill.specs.declared.part.Part.{Part}
use Rattle.ep_drill.specs.declared.data.CallerData.{CallerData}
use Rattle.ep_drill.specs.declared.data.CoreData.{CoreData}
use Rattle.ep_drill.specs.declared.owned.Caller.{Caller}
use Rattle.ep_drill.specs.declared.owned.Loaded.{Loaded}
use Rattle.ep_drill.specs.Callers.{loaded_data, caller_data}
use Rattle.ep_drill.specs.Core.{core_data, Ready, Interleaves}
use Rattle.ep_drill.specs.Opens.{loaded_at, FirstOpened, Added}
use Rattle.ep_drill.proofs.CoreLemmas.{core_loaded}

-- a caller with this call at the end
abbrev longer : ℕ × CallData → CallerData → CallerData
longer call caller = record caller { calls = caller.calls ++ call ∷ [] }

-- in a list of callers one was replaced by itself with a call more
set_longer : (xs : List Caller) (i : ℕ) (x y : Caller) (call : ℕ × CallData) → i < length xs → x ≡ get_or xs i x → caller_data y ≡ longer call (caller_data x) → map caller_data (slice_set xs i y) ≡ loaded_at i call (map caller_data xs)
set_longer [] i x y call within is new = absurd (omega arith)
set_longer (z ∷ xs) zero x y call within is new = ap (λ (d : CallerData). d ∷ map caller_data xs) (new ∙ ap (λ (c : Caller). longer call (caller_data c)) is)
set_longer (z ∷ xs) (suc i) x y call within is new = ap (λ (l : List CallerData). caller_data z ∷ l) (set_longer xs i x y call (omega arith) is new)

-- of a push that did or failed, and what the function answers then
pub items_ok : {A E : Type 0} (r : Result (Unit {0}) E) (u : Unit {0}) (n a b : List A) → r ≡ Ok u → n ≡ (if is_ok r then a else b) → n ≡ a
items_ok (Ok v) u n a b is e = e
items_ok (Err v) u n a b is e = absurd (cc)

pub items_err : {A E : Type 0} (r : Result (Unit {0}) E) (u : E) (n a b : List A) → r ≡ Err u → n ≡ (if is_ok r then a else b) → n ≡ b
items_err (Ok v) u n a b is e = absurd (cc)
items_err (Err v) u n a b is e = e

pub ok_here : {A E P : Type 0} (r : Result A E) → P → OnOk r P
ok_here (Ok v) p = p
ok_here (Err v) p = tt

pub not_ok : {A E : Type 0} (P : Type 0) (r : Result A E) (u : E) → r ≡ Err u → OnOk r P
not_ok P (Ok v) u is = absurd (cc)
not_ok P (Err v) u is = tt

pub err_here : {A E P : Type 0} (r : Result A E) → P → OnErr r P
err_here (Ok v) p = tt
err_here (Err v) p = p

pub not_err : {A E : Type 0} (P : Type 0) (r : Result A E) (u : A) → r ≡ Ok u → OnErr r P
not_err P (Ok v) u is = tt
not_err P (Err v) u is = absurd (cc)

pub pushed_call : (xs : List Caller) (j i : ℕ) (x y : Caller) (loaded : Loaded) → j ≡ i → i < length xs → x ≡ get_or xs j x → y.calls.items ≡ x.calls.items ++ loaded ∷ [] → y.answered ≡ x.answered → y.prior ≡ x.prior
    → map caller_data (slice_set xs j y) ≡ loaded_at i (loaded_data loaded) (map caller_data xs)
pushed_call xs j i x y loaded same within is calls answered prior =
    let all : map loaded_data y.calls.items ≡ map loaded_data x.calls.items ++ loaded_data loaded ∷ [] = ap (λ (l : List Loaded). map loaded_data l) calls ∙ map_push loaded_data x.calls.items loaded in
    let new : caller_data y ≡ longer (loaded_data loaded) (caller_data x) = cc in
    subst (λ (k : ℕ). map caller_data (slice_set xs k y) ≡ loaded_at i (loaded_data loaded) (map caller_data xs)) (sym same) (set_longer xs i x y (loaded_data loaded) within (subst (λ (k : ℕ). x ≡ get_or xs k x) same is) new)

-- one was replaced by itself
pub set_same : (xs : List Caller) (i : ℕ) (x y : Caller) → i < length xs → x ≡ get_or xs i x → y.calls.items ≡ x.calls.items → y.answered ≡ x.answered → y.prior ≡ x.prior → map caller_data (slice_set xs i y) ≡ map caller_data xs
set_same [] i x y within is calls answered prior = absurd (omega arith)
set_same (z ∷ xs) zero x y within is calls answered prior =
    let all : map loaded_data y.calls.items ≡ map loaded_data x.calls.items = ap (λ (l : List Loaded). map loaded_data l) calls in
    let new : caller_data y ≡ caller_data x = cc in
    ap (λ (d : CallerData). d ∷ map caller_data xs) (new ∙ ap (λ (c : Caller). caller_data c) is)
set_same (z ∷ xs) (suc i) x y within is calls answered prior = ap (λ (l : List CallerData). caller_data z ∷ l) (set_same xs i x y (omega arith) is calls answered prior)

-- who got the call is there, and replacing it is what was done
loaded_set : (cs : List CallerData) (i : ℕ) (call : ℕ × CallData) → i < length cs → (c : CallerData) × (slice_get cs i ≡ Some c) × (loaded_at i call cs ≡ slice_set cs i (longer call c))
loaded_set [] i call within = absurd (omega arith)
loaded_set (c ∷ cs) zero call within = (c, refl, refl)
loaded_set (c ∷ cs) (suc i) call within =
    let rest = loaded_set cs i call (omega arith) in
    (rest.0, rest.1, ap (λ (l : List CallerData). c ∷ l) rest.2)

-- a core in which a caller got a call more
pub core_loads : (core : CoreData) (number : ℕ) (call : ℕ × CallData) → Interleaves core → number < length core.callers → call.0 < core.config.vbuckets → Interleaves (record core { callers = loaded_at number call core.callers })
core_loads core number call i within on =
    let is = loaded_set core.callers number call within in
    subst (λ (l : List CallerData). Interleaves (record core { callers = l })) (sym is.2) (core_loaded core number is.0 call i is.1 on)

-- the same where the push may have failed, of a core that is looked at whole
pub core_pushes : {K : Type 0} {A E : Type 0} (r : Result A E) (config : Config) (world : WorldData Part) (benches : List (Bench K)) (old new : List Caller) (now : CoreData) (i : ℕ) (loaded : Loaded) → Interleaves (core_data config world benches old)
    → core_data config world benches old ≡ now → i < length now.callers → loaded.vb < now.config.vbuckets
    → OnOk r (map caller_data new ≡ loaded_at i (loaded_data loaded) (map caller_data old)) → OnErr r (map caller_data new ≡ map caller_data old) → Interleaves (core_data config world benches new)
core_pushes (Ok u) config world benches old new now i loaded stands view within on ok err =
    let core : CoreData = core_data config world benches old in
    subst (λ (l : List CallerData). Interleaves (record core { callers = l })) (sym ok)
    (core_loads core i (loaded_data loaded) stands (subst (λ (c : CoreData). i < length c.callers) (sym view) within) (subst (λ (c : CoreData). loaded.vb < c.config.vbuckets) (sym view) on))
core_pushes (Err u) config world benches old new now i loaded stands view within on ok err =
    let core : CoreData = core_data config world benches old in
    subst (λ (l : List CallerData). Interleaves (record core { callers = l })) (sym err) stands

-- no vBucket is there yet
pub none_opened : (config : Config) (world : WorldData Part) → world ≡ no_buckets config → FirstOpened config 0 world
none_opened config world is = subst (λ (w : WorldData Part). FirstOpened config 0 w) (sym is) (record { layout = refl; count = refl; fronts = λ vb low. absurd (omega arith); home = λ vb low. absurd (omega arith) })

below_last : (vb n m : ℕ) → vb < m → m ≡ n + 1 → vb ≢ n → vb < n
below_last vb n m low more apart = omega arith

-- one more
pub more_opened : (config : Config) (n m : ℕ) (old new : WorldData Part) → FirstOpened config n old → Added config old new → m ≡ n + 1 → FirstOpened config m new
more_opened config n m old new first added more =
    record {
      layout = added.layout;
      count = let c = first.count in let d = added.count in omega arith;
      fronts = λ vb low. elim (cases_eq vb (length old.buckets)) as (λ _. front_in new vb ≡ record { config = config; id = vb; start = Some empty_start; events = events.Opened ∷ [] }) [
        | inl is ↦ subst (λ (k : ℕ). front_in new k ≡ record { config = config; id = k; start = Some empty_start; events = events.Opened ∷ [] }) (sym is) added.front
        | inr differ ↦ added.others vb differ ∙ first.fronts vb (let c = first.count in let not_last : vb ≢ n = (λ e. differ (e ∙ sym c)) in let low : vb < n = below_last vb n m low more not_last in low)
      ];
      home = added.home;
    }

-- all of them
pub all_opened : (config : Config) (world : WorldData Part) → config_fault config ≡ None → config.eviction ≡ Value → FirstOpened config config.vbuckets world → Ready config world
all_opened config world fault eviction all = record { fault = fault; eviction = eviction; layout = all.layout; count = all.count; home = λ vb low. all.home vb (let c = all.count in omega arith) }

-- a call more for a caller makes no caller more
loaded_count : (i : ℕ) (call : ℕ × CallData) (list : List CallerData) → length (loaded_at i call list) ≡ length list
loaded_count i call [] = refl
loaded_count zero call (caller ∷ list) = refl
loaded_count (suc i) call (caller ∷ list) = ap suc (loaded_count i call list)

pub pushed_count : {K : Type 0} {A E : Type 0} (r : Result A E) (config : Config) (world : WorldData Part) (benches : List (Bench K)) (old new : List Caller) (now : CoreData) (i : ℕ) (loaded : Loaded) → core_data config world benches old ≡ now
    → OnOk r (map caller_data new ≡ loaded_at i (loaded_data loaded) (map caller_data old)) → OnErr r (map caller_data new ≡ map caller_data old) → (length (map caller_data new) ≡ length now.callers) × (config ≡ now.config)
pushed_count (Ok u) config world benches old new now i loaded view ok err =
    (ap (λ (l : List CallerData). length l) ok ∙ loaded_count i (loaded_data loaded) (map caller_data old) ∙ ap (λ (c : CoreData). length c.callers) view, ap (λ (c : CoreData). c.config) view)
pushed_count (Err u) config world benches old new now i loaded view ok err =
    (ap (λ (l : List CallerData). length l) err ∙ ap (λ (c : CoreData). length c.callers) view, ap (λ (c : CoreData). c.config) view)
