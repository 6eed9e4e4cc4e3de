-- Benches over keepers, each with reads that aren't made.
use Rattle.std.proofs.Common.{◌≡◌, ℕ, zero, suc, List, [], ◌∷◌, ◌++◌, ◌<◌, true, length, map, refl, sym, ap, subst, ◌∙◌, slice_get, get_or, arith}
use Rattle.std.specs.Prelude.{Option, Some, None, Vec}
use Rattle.std.specs.Option.{option_map}
use Rattle.std.specs.List.{zip, AllByRecursion}
use Rattle.ep_model.specs.declared.config.Config.{Config}
use Rattle.vb_world.specs.declared.data.WorldData.{WorldData}
use Rattle.vb_world.specs.World.{Sound}
use Rattle.vb_world.proofs.ListLemmas.{all-get, all-push}
use Rattle.ep_drill.specs.declared.data.CallerData.{CallerData}
use Rattle.ep_drill.specs.declared.part.Part.{Part}
use Rattle.ep_drill.specs.Parts.{part_stands}
use Rattle.ep_drill.specs.Core.{Ready, Interleaves}
use Rattle.ep_drill.proofs.CoreLemmas.{core_new}
use Rattle.std.specs.declared.alloc.Global.{Global}
use Rattle.std.proofs.lemmas.List.{map_push, length_push, length-map}
use Rattle.kv_keeper.specs.Content.{KeeperData}
use Rattle.ep_drill.specs.declared.data.BenchData.{BenchData}
use Rattle.ep_drill.specs.declared.fetched.Fetched.{Fetched}
use Rattle.ep_drill.specs.declared.data.FetchedData.{FetchedData}
use Rattle.ep_drill.specs.Fetches.{fetched_data}
use Rattle.ep_drill.specs.Opens.{copies, idle, reads_in, bench_over, TellsEmpty, AllTellEmpty, FirstOpened}

-- a bench of a keeper, as it is seen, and its reads
abbrev pub bench_from : {K : Type 0} → (K → KeeperData) → K × Vec (Option Fetched) Global → BenchData
bench_from seen pair = bench_over (map (option_map fetched_data) pair.1.items) (seen pair.0)

-- so many of one element are also one in front of the others
copies_front : {A : Type 0} (n : ℕ) (x : A) → x ∷ copies n x ≡ copies n x ++ x ∷ []
copies_front zero x = refl
copies_front (suc n) x = ap (λ l. l ++ x ∷ []) (copies_front n x)

-- no read is none as plain data too
map_none : (n : ℕ) → map (option_map fetched_data) (copies n None) ≡ copies n None
map_none zero = refl
map_none (suc n) = map_push (option_map fetched_data) (copies n None) None ∙ ap (λ (l : List (Option FetchedData)). l ++ None ∷ []) (map_none n)

pub zip_fresh : {K : Type 0} (seen : K → KeeperData) (stripes : ℕ) (keepers : List K) (reads : List (Vec (Option Fetched) Global)) → map reads_in reads ≡ copies (length keepers) (copies stripes None)
    → map (bench_from seen) (zip keepers reads) ≡ map (bench_over (copies stripes None)) (map seen keepers)
zip_fresh seen stripes [] reads is = refl
zip_fresh seen stripes (k ∷ ks) [] is =
    let none : List (Option Fetched) = copies stripes None in
    let e : [] ≡ none ∷ copies (length ks) none = is ∙ sym (copies_front (length ks) none) in
    absurd (cc)
zip_fresh seen stripes (k ∷ ks) (v ∷ vs) is =
    let none : List (Option Fetched) = copies stripes None in
    let e : reads_in v ∷ map reads_in vs ≡ none ∷ copies (length ks) none = is ∙ sym (copies_front (length ks) none) in
    let head : v.items ≡ none = cc in
    let rest : map reads_in vs ≡ copies (length ks) none = cc in
    let here : map (option_map fetched_data) v.items ≡ copies stripes None = ap (λ (l : List (Option Fetched)). map (option_map fetched_data) l) head ∙ map_none stripes in
    ap (λ (l : List (Option FetchedData)). bench_over l (seen k) ∷ map (bench_from seen) (zip ks vs)) here ∙ ap (λ (l : List BenchData). bench_over (copies stripes None) (seen k) ∷ l) (zip_fresh seen stripes ks vs rest)

-- each keeper that comes with its reads is fresh
pub fresh_at : {K R : Type 0} (seen : K → KeeperData) (keepers : List K) (reads : List R) (n : ℕ) (pair : K × R) → n < length (zip keepers reads) → pair ≡ get_or (zip keepers reads) n pair → AllTellEmpty (map seen keepers) → (seen pair.0).sure ≡ true
fresh_at seen [] reads n pair within is fresh = absurd (omega arith)
fresh_at seen (k ∷ ks) [] n pair within is fresh = absurd (omega arith)
fresh_at seen (k ∷ ks) (r ∷ rs) zero pair within is fresh = ap (λ p. (seen p.0).sure) is ∙ fresh.0.1
fresh_at seen (k ∷ ks) (r ∷ rs) (suc n) pair within is fresh = fresh_at seen ks rs n pair (omega arith) is fresh.1

-- pairs taken apart and put together
pub same_map : {A B : Type 0} (l : List (A × B)) → map (λ (p : A × B). (p.0, p.1)) l ≡ l
same_map [] = refl
same_map (p ∷ l) = ap (λ r. p ∷ r) (same_map l)

all_copies : {A : Type 0} (n : ℕ) (x : A) → AllByRecursion (λ (y : A). y ≡ x) (copies n x)
all_copies zero x = tt
all_copies {A} (suc n) x = all-push (λ (y : A). y ≡ x) (copies n x) x (all_copies n x) refl

length_copies : {A : Type 0} (n : ℕ) (x : A) → length (copies n x) ≡ n
length_copies zero x = refl
length_copies (suc n) x = let one = length_push (copies n x) x in let rest = length_copies n x in omega arith

bench_at : (reads : List (Option FetchedData)) (ks : List KeeperData) (vb : ℕ) (bench : BenchData) → slice_get (map (bench_over reads) ks) vb ≡ Some bench → (k : KeeperData) × (slice_get ks vb ≡ Some k) × (bench ≡ bench_over reads k)
bench_at reads [] vb bench at = absurd (cc)
bench_at reads (k ∷ ks) zero bench at = (k, refl, (let e : bench ≡ bench_over reads k = cc in e))
bench_at reads (k ∷ ks) (suc vb) bench at = bench_at reads ks vb bench at

-- a core that was made
pub core_made : (config : Config) (world : WorldData Part) (benches : List BenchData) (callers : List CallerData) (keepers : List KeeperData) (count : ℕ) → Ready config world → FirstOpened config config.vbuckets world → Sound part_stands world
    → benches ≡ map (bench_over (copies config.stripes None)) keepers → length keepers ≡ config.vbuckets → AllTellEmpty keepers → callers ≡ copies count idle → Interleaves (record { config = config; world = world; benches = benches; callers = callers })
core_made config world benches callers keepers count ready opened sound made long fresh idles =
    let none : List (Option FetchedData) = copies config.stripes None in
    let whole : Interleaves (record { config = config; world = world; benches = map (bench_over none) keepers; callers = copies count idle }) =
    core_new config world (map (bench_over none) keepers) (copies count idle) ready sound (length-map keepers (bench_over none) ∙ long) opened.fronts
    (λ vb bench at.
    let b = bench_at none keepers vb bench at in
    let f = all-get TellsEmpty keepers vb b.0 fresh b.1 in (
      b.0,
      ap (λ (x : BenchData). x.desk) b.2,
      f.0,
      f.1,
      ap (λ (x : BenchData). x.batch) b.2,
      ap (λ (x : BenchData). length x.reads) b.2 ∙ length_copies config.stripes None,
      λ stripe r is.
          let there : slice_get none stripe ≡ Some (Some r) = ap (λ (x : BenchData). slice_get x.reads stripe) (sym b.2) ∙ is in
          let no : Some r ≡ None = all-get (λ (o : Option FetchedData). o ≡ None) none stripe (Some r) (all_copies config.stripes None) there in
          absurd (cc),
    ))
    (λ number caller at. all-get (λ (c : CallerData). c ≡ idle) (copies count idle) number caller (all_copies count idle) at) in
    subst (λ (l : List BenchData). Interleaves (record { config = config; world = world; benches = l; callers = callers })) (sym made)
    (subst (λ (l : List CallerData). Interleaves (record { config = config; world = world; benches = map (bench_over none) keepers; callers = l })) (sym idles) whole)
