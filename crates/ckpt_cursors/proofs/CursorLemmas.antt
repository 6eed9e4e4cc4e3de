-- Lists of named positions.
use Rattle.std.proofs.Common.{◌≡◌, ℕ, ◌+◌, ◌<◌, ◌≤◌, Bool, true, false, not, cond, List, [], ◌∷◌, ◌++◌, length, get_or, take, Option, Some, None, refl, sym, ap, ◌∙◌, arith}
use Rattle.std.specs.Prelude.{filter, nat_eq, IsSome, is_some}
use Rattle.std.specs.List.{find}
use Rattle.std.specs.Option.{option_map}
use Rattle.std.proofs.lemmas.List.{take_more}
use Rattle.std.proofs.lemmas.Bool.Decides.{nat_tests}
use Rattle.ckpt_cursors.specs.Cursors.{Positions, position_of, without, lower_of, first_least, still_least}

three : (y d x : ℕ × ℕ) → lower_of y (Some (still_least (Some d) x)) ≡ still_least (Some (lower_of y (Some d))) x
three y d x = grind (arith, nat_tests)

two : (y x : ℕ × ℕ) (o : Option (ℕ × ℕ)) → lower_of y (Some (still_least o x)) ≡ still_least (Some (lower_of y o)) x
two y x None = refl
two y x (Some d) = three y d x

pub first_least-push : (cs : Positions) (x : ℕ × ℕ) → first_least (cs ++ x ∷ []) ≡ Some (still_least (first_least cs) x)
first_least-push [] x = refl
first_least-push (y ∷ ys) x =
    ap (λ (o : Option (ℕ × ℕ)). Some (lower_of y o)) (first_least-push ys x) ∙ ap (λ (c : ℕ × ℕ). Some c) (two y x (first_least ys))

pub first_least-more : (cs : Positions) (i : ℕ) (x : ℕ × ℕ) → i < length cs → x ≡ get_or cs i x → Some (still_least (first_least (take i cs)) x) ≡ first_least (take (i + 1) cs)
first_least-more cs i x within is =
    let more : take (i + 1) cs ≡ take i cs ++ x ∷ [] = take_more cs i x within ∙ ap (λ (y : ℕ × ℕ). take i cs ++ y ∷ []) (sym is) in
    sym (ap first_least more ∙ first_least-push (take i cs) x)

shorter : (p : ℕ × ℕ → Bool) (cs : Positions) → length (filter p cs) ≤ length cs
shorter p [] = omega arith
shorter p (c ∷ cs) =
    elim (p c) as (λ b. length (cond b (c ∷ filter p cs) (filter p cs)) ≤ length (c ∷ cs)) [
      | true ↦ omega (arith, shorter p cs)
      | false ↦ omega (arith, shorter p cs)
    ]

gone : (p : ℕ × ℕ → Bool) (cs : Positions) → IsSome (find p cs) → length (filter (λ (c : ℕ × ℕ). not (p c)) cs) < length cs
gone p [] some = absurd (cc)
gone p (c ∷ cs) some =
    elim (p c) as (λ b. IsSome (cond b (Some c) (find p cs)) → length (cond (not b) (c ∷ filter (λ (c : ℕ × ℕ). not (p c)) cs) (filter (λ (c : ℕ × ℕ). not (p c)) cs)) < length (c ∷ cs)) [
      | true ↦ λ s. omega (arith, shorter (λ (c : ℕ × ℕ). not (p c)) cs)
      | false ↦ λ s. omega (arith, gone p cs s)
    ] some

some-map : (o : Option (ℕ × ℕ)) → IsSome (option_map (λ (c : ℕ × ℕ). c.1) o) → IsSome o
some-map None some = some
some-map (Some c) some = some

-- without a name that stands there are fewer
pub fewer : (cs : Positions) (name : ℕ) → IsSome (position_of cs name) → length (without cs name) < length cs
fewer cs name some = gone (λ (c : ℕ × ℕ). nat_eq c.0 name) cs (some-map (find (λ (c : ℕ × ℕ). nat_eq c.0 name) cs) some)

-- what a retained list is, by the value that stood
pub kept : (now cs new : Positions) (name : ℕ) → cs ≡ now → new ≡ filter (λ (c : ℕ × ℕ). not (nat_eq c.0 name)) cs → new ≡ without now name
kept now cs new name is filtered = filtered ∙ ap (λ (cs : Positions). without cs name) is

pub kept-fewer : (now cs new : Positions) (name : ℕ) → cs ≡ now → new ≡ filter (λ (c : ℕ × ℕ). not (nat_eq c.0 name)) cs → IsSome (position_of now name) → length new < length cs
kept-fewer now cs new name is filtered some =
    let short : length (without now name) < length now = fewer now name some in
    omega (arith, short, ap (λ (cs : Positions). length cs) (kept now cs new name is filtered), ap (λ (cs : Positions). length cs) is)
