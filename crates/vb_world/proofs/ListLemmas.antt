-- Lists of which one element is changed, and elements by their index.
use Rattle.std.proofs.Common.{◌≡◌, ℕ, zero, suc, ◌<◌, List, [], ◌∷◌, ◌++◌, length, map, take, drop, slice_get, slice_set, Option, Some, refl, ap, subst, arith}
use Rattle.std.specs.List.{AllByRecursion}
use Rattle.std.specs.Option.{option_map}
use Rattle.vb_world.specs.World.{changed_at}

pub get-changed : {A : Type 0} (f : A → A) (xs : List A) (i : ℕ) → slice_get (changed_at f xs i) i ≡ option_map f (slice_get xs i)
get-changed f [] i = refl
get-changed f (x ∷ xs) zero = refl
get-changed f (x ∷ xs) (suc i) = get-changed f xs i

pub get-changed_other : {A : Type 0} (f : A → A) (xs : List A) (i j : ℕ) → (j ≡ i → ⊥) → slice_get (changed_at f xs i) j ≡ slice_get xs j
get-changed_other f [] i j h = refl
get-changed_other f (x ∷ xs) zero zero h = absurd (h refl)
get-changed_other f (x ∷ xs) zero (suc j) h = refl
get-changed_other f (x ∷ xs) (suc i) zero h = refl
get-changed_other f (x ∷ xs) (suc i) (suc j) h = get-changed_other f xs i j (λ e. h (ap suc e))

-- what f leaves is what it was at each index
pub get-changed_kept : {A B : Type 0} (f : A → A) (v : Option A → B) → ((x : A) → v (Some (f x)) ≡ v (Some x)) → (xs : List A) (i j : ℕ) → v (slice_get (changed_at f xs i) j) ≡ v (slice_get xs j)
get-changed_kept f v h [] i j = refl
get-changed_kept f v h (x ∷ xs) zero zero = h x
get-changed_kept f v h (x ∷ xs) zero (suc j) = refl
get-changed_kept f v h (x ∷ xs) (suc i) zero = refl
get-changed_kept f v h (x ∷ xs) (suc i) (suc j) = get-changed_kept f v h xs i j

pub length-changed : {A : Type 0} (f : A → A) (xs : List A) (i : ℕ) → length (changed_at f xs i) ≡ length xs
length-changed f [] i = refl
length-changed f (x ∷ xs) zero = refl
length-changed f (x ∷ xs) (suc i) = ap suc (length-changed f xs i)

pub take-changed : {A : Type 0} (f : A → A) (xs : List A) (i : ℕ) → take i (changed_at f xs i) ≡ take i xs
take-changed f [] i = refl
take-changed f (x ∷ xs) zero = refl
take-changed f (x ∷ xs) (suc i) = ap (λ ys. x ∷ ys) (take-changed f xs i)

pub drop-changed : {A : Type 0} (f : A → A) (xs : List A) (i : ℕ) → drop (suc i) (changed_at f xs i) ≡ drop (suc i) xs
drop-changed f [] i = refl
drop-changed f (x ∷ xs) zero = refl
drop-changed f (x ∷ xs) (suc i) = drop-changed f xs i

pub all-changed : {A : Type 0} (P : A → Type 0) (f : A → A) → ((x : A) → P x → P (f x)) → (xs : List A) (i : ℕ) → AllByRecursion P xs → AllByRecursion P (changed_at f xs i)
all-changed P f h [] i all = all
all-changed P f h (x ∷ xs) zero all = (h x all.0, all.1)
all-changed P f h (x ∷ xs) (suc i) all = (all.0, all-changed P f h xs i all.1)

pub all-get : {A : Type 0} (P : A → Type 0) (xs : List A) (i : ℕ) (x : A) → AllByRecursion P xs → slice_get xs i ≡ Some x → P x
all-get P [] i x all e = absurd (cc)
all-get P (y ∷ xs) zero x all e = let same : y ≡ x = cc in subst P same all.0
all-get P (y ∷ xs) (suc i) x all e = all-get P xs i x all.1 e

pub all-push : {A : Type 0} (P : A → Type 0) (xs : List A) (x : A) → AllByRecursion P xs → P x → AllByRecursion P (xs ++ x ∷ [])
all-push P [] x all p = (p, tt)
all-push P (y ∷ xs) x all p = (all.0, all-push P xs x all.1 p)

pub all-map : {A : Type 0} (P Q : A → Type 0) → ((x : A) → P x → Q x) → (xs : List A) → AllByRecursion P xs → AllByRecursion Q xs
all-map P Q h [] all = tt
all-map P Q h (x ∷ xs) all = (h x all.0, all-map P Q h xs all.1)

pub get_set : {A : Type 0} (xs : List A) (i : ℕ) (x : A) → i < length xs → slice_get (slice_set xs i x) i ≡ Some x
get_set [] i x h = absurd (omega arith)
get_set (y ∷ xs) zero x h = refl
get_set (y ∷ xs) (suc i) x h = get_set xs i x (omega arith)

pub get_set_other : {A : Type 0} (xs : List A) (i j : ℕ) (x : A) → (i ≡ j → ⊥) → slice_get (slice_set xs i x) j ≡ slice_get xs j
get_set_other [] i j x h = refl
get_set_other (y ∷ xs) zero zero x h = absurd (h refl)
get_set_other (y ∷ xs) zero (suc j) x h = refl
get_set_other (y ∷ xs) (suc i) zero x h = refl
get_set_other (y ∷ xs) (suc i) (suc j) x h = get_set_other xs i j x (λ e. h (ap suc e))

pub get_push : {A : Type 0} (xs : List A) (x : A) (j : ℕ) → (j ≡ length xs → ⊥) → slice_get (xs ++ x ∷ []) j ≡ slice_get xs j
get_push [] x zero h = absurd (h refl)
get_push [] x (suc j) h = refl
get_push (y ∷ xs) x zero h = refl
get_push (y ∷ xs) x (suc j) h = get_push xs x j (λ e. h (ap suc e))

pub get_push_last : {A : Type 0} (xs : List A) (x : A) → slice_get (xs ++ x ∷ []) (length xs) ≡ Some x
get_push_last [] x = refl
get_push_last (y ∷ xs) x = get_push_last xs x

pub get_within : {A : Type 0} (xs : List A) (i : ℕ) → i < length xs → (x : A) × (slice_get xs i ≡ Some x)
get_within [] i h = absurd (omega arith)
get_within (y ∷ xs) zero h = (y, refl)
get_within (y ∷ xs) (suc i) h = get_within xs i (omega arith)

-- A write at an index is a change there, seen through a view of the elements.
pub map-set_changed : {A B : Type 0} (v : A → B) (f : B → B) (xs : List A) (i : ℕ) (y : A) → ((x : A) → slice_get xs i ≡ Some x → v y ≡ f (v x)) → map v (slice_set xs i y) ≡ changed_at f (map v xs) i
map-set_changed v f [] i y h = refl
map-set_changed v f (x ∷ xs) zero y h = ap (λ z. z ∷ map v xs) (h x refl)
map-set_changed v f (x ∷ xs) (suc i) y h = ap (λ ys. v x ∷ ys) (map-set_changed v f xs i y h)

pub map-set_kept : {A B : Type 0} (v : A → B) (xs : List A) (i : ℕ) (y : A) → ((x : A) → slice_get xs i ≡ Some x → v y ≡ v x) → map v (slice_set xs i y) ≡ map v xs
map-set_kept v [] i y h = refl
map-set_kept v (x ∷ xs) zero y h = ap (λ z. z ∷ map v xs) (h x refl)
map-set_kept v (x ∷ xs) (suc i) y h = ap (λ ys. v x ∷ ys) (map-set_kept v xs i y h)
