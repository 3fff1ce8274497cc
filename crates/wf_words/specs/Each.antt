-- What holds of every element of a list, by recursion: at a place, where one is written, added, found or left out.
use Rattle.std.proofs.Common.{◌≡◌, ℕ, zero, suc, Bool, true, false, cond, List, [], ◌∷◌, ◌++◌, map, find, filter, set, slice_get, Some}
use Rattle.std.proofs.Common.{subst}
use Rattle.std.specs.List.{AllByRecursion}

-- what holds of all holds of the element at a place
pub each_at : {A : Type 0} (P : A → Type 0) (xs : List A) (i : ℕ) (x : A) → AllByRecursion P xs → slice_get xs i ≡ Some x → P x
each_at P [] i x all at = absurd cc
each_at P (z ∷ xs) zero x all at = let is : z ≡ x = cc in subst P is all.0
each_at P (z ∷ xs) (suc i) x all at = each_at P xs i x all.1 at

-- and of all where it holds of the one that was written
pub each_set : {A : Type 0} (P : A → Type 0) (xs : List A) (i : ℕ) (y : A) → AllByRecursion P xs → P y → AllByRecursion P (set xs i y)
each_set P [] i y all holds = tt
each_set P (z ∷ xs) zero y all holds = (holds, all.1)
each_set P (z ∷ xs) (suc i) y all holds = (all.0, each_set P xs i y all.1 holds)

pub each_more : {A : Type 0} (P : A → Type 0) (xs : List A) (y : A) → AllByRecursion P xs → P y → AllByRecursion P (xs ++ y ∷ [])
each_more P [] y all holds = (holds, tt)
each_more P (z ∷ xs) y all holds = (all.0, each_more P xs y all.1 holds)

pub each_other : {A : Type 0} (P Q : A → Type 0) → ((x : A) → P x → Q x) → (xs : List A) → AllByRecursion P xs → AllByRecursion Q xs
each_other P Q from [] all = tt
each_other P Q from (z ∷ xs) all = (from z all.0, each_other P Q from xs all.1)

pub each_found : {A : Type 0} (P : A → Type 0) (p : A → Bool) (xs : List A) (x : A) → AllByRecursion P xs → find p xs ≡ Some x → P x
each_found P p [] x all found = absurd cc
each_found P p (y ∷ xs) x all found = by_test (each_found P p xs x all.1) (p y) found
  where
    by_test : (find p xs ≡ Some x → P x) → (b : Bool) → cond b (Some y) (find p xs) ≡ Some x → P x
    by_test later true at = let same : y ≡ x = cc in subst P same all.0
    by_test later false at = later at

-- and of those that pass a test
pub each_filtered : {A : Type 0} (P : A → Type 0) (p : A → Bool) (xs : List A) → AllByRecursion P xs → AllByRecursion P (filter p xs)
each_filtered P p [] all = tt
each_filtered P p (x ∷ xs) all =
    let later = each_filtered P p xs all.1 in
    elim (p x) as (λ b. AllByRecursion P (cond b (x ∷ filter p xs) (filter p xs))) [ true ↦ (all.0, later) | false ↦ later ]

-- of the elements that a function gives, where it holds of each
pub each_mapped : {A B : Type 0} (P : A → Type 0) (Q : B → Type 0) (g : A → B) → ((x : A) → P x → Q (g x)) → (xs : List A)
    → AllByRecursion P xs
    → AllByRecursion Q (map g xs)
each_mapped P Q g from [] all = tt
each_mapped P Q g from (x ∷ xs) all = (from x all.0, each_mapped P Q g from xs all.1)
