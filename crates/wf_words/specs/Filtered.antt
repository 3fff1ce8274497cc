-- What is left of a list by a test, and what passes a test in all of it.
use Rattle.std.proofs.Common.{◌≡◌, ◌<◌, ◌≤◌, Bool, true, false, not, cond, ◌&&◌, ◌||◌, List, [], ◌∷◌, ◌++◌, length, map, filter, find}
use Rattle.std.proofs.Common.{count_by, Some, None, refl, sym, ap, ◌∙◌, add-zero, arith}
use Rattle.std.specs.List.{list_all, list_any}
use Rattle.std.proofs.lemmas.Bool.{and_from, and_parts}
use Rattle.std.proofs.lemmas.List.{append-nil}
use Rattle.std.proofs.lemmas.List.Elements.{filter-append}
use Rattle.std.proofs.lemmas.List.Sums.{sum_by-append}

-- two filters in either order
pub filter_swapped : {A : Type 0} (p q : A → Bool) (xs : List A) → filter p (filter q xs) ≡ filter q (filter p xs)
filter_swapped p q [] = refl
filter_swapped p q (x ∷ xs) = by_tests (p x) (q x) refl refl (filter_swapped p q xs)
  where
    by_tests : (a b : Bool) → p x ≡ a → q x ≡ b → filter p (filter q xs) ≡ filter q (filter p xs)
        → filter p (cond b (x ∷ filter q xs) (filter q xs)) ≡ filter q (cond a (x ∷ filter p xs) (filter p xs))
    by_tests true true pa qb later = rw (pa, qb) (ap (λ ys. x ∷ ys) later)
    by_tests true false pa qb later = rw qb later
    by_tests false true pa qb later = rw pa later
    by_tests false false pa qb later = later

-- what all pass, all those pass that pass another test
pub all_filtered : {A : Type 0} (q p : A → Bool) (xs : List A) → list_all q xs ≡ true → list_all q (filter p xs) ≡ true
all_filtered q p [] all = refl
all_filtered q p (x ∷ xs) all =
    let parts = and_parts (q x) (list_all q xs) all in
    let later = all_filtered q p xs parts.1 in
    elim (p x) as (λ b. list_all q (cond b (x ∷ filter p xs) (filter p xs)) ≡ true) [
      | true ↦ and_from (q x) (list_all q (filter p xs)) parts.0 later
      | false ↦ later
    ]

-- what a function gives of those that pass
pub filter_mapped : {A B : Type 0} (p : B → Bool) (g : A → B) (xs : List A) → filter p (map g xs) ≡ map g (filter (λ x. p (g x)) xs)
filter_mapped p g [] = refl
filter_mapped p g (x ∷ xs) =
    let later = filter_mapped p g xs in
    elim (p (g x)) as (λ b. cond b (g x ∷ filter p (map g xs)) (filter p (map g xs))
    ≡ map g (cond b (x ∷ filter (λ y. p (g y)) xs) (filter (λ y. p (g y)) xs))) [
      | true ↦ ap (λ ys. g x ∷ ys) later
      | false ↦ later
    ]

pub all_more : {A : Type 0} (p : A → Bool) (xs : List A) (y : A) → list_all p xs ≡ true → p y ≡ true → list_all p (xs ++ y ∷ []) ≡ true
all_more p [] y all passes = rw passes refl
all_more p (x ∷ xs) y all passes =
    let parts = and_parts (p x) (list_all p xs) all in
    and_from (p x) (list_all p (xs ++ y ∷ [])) parts.0 (all_more p xs y parts.1 passes)

pub all_other : {A : Type 0} (p q : A → Bool) → ((x : A) → p x ≡ true → q x ≡ true) → (xs : List A) → list_all p xs ≡ true
    → list_all q xs ≡ true
all_other p q from [] all = refl
all_other p q from (x ∷ xs) all =
    let parts = and_parts (p x) (list_all p xs) all in
    and_from (q x) (list_all q xs) (from x parts.0) (all_other p q from xs parts.1)

-- one more live handle passes a test or not
pub more_passed : {A : Type 0} (p : A → Bool) (xs : List A) (y : A) → p y ≡ true → filter p (xs ++ y ∷ []) ≡ filter p xs ++ y ∷ []
more_passed p xs y passes = filter-append p xs (y ∷ []) ∙ ap (λ b. filter p xs ++ cond b (y ∷ []) []) passes

pub more_left : {A : Type 0} (p : A → Bool) (xs : List A) (y : A) → p y ≡ false → filter p (xs ++ y ∷ []) ≡ filter p xs
more_left p xs y fails = filter-append p xs (y ∷ []) ∙ ap (λ b. filter p xs ++ cond b (y ∷ []) []) fails ∙ append-nil (filter p xs)

-- one more that does not pass is not counted
pub count_left : {A : Type 0} (p : A → Bool) (xs : List A) (y : A) → p y ≡ false → count_by p (xs ++ y ∷ []) ≡ count_by p xs
count_left p xs y fails = sum_by-append (λ x. cond (p x) 1 0) xs (y ∷ []) ∙ rw fails (add-zero (count_by p xs))

-- where none passes a test, what does not pass it is all
pub none_out : {A : Type 0} (p : A → Bool) (xs : List A) → find p xs ≡ None → filter (λ x. not (p x)) xs ≡ xs
none_out p [] none = refl
none_out p (x ∷ xs) none = by_test (none_out p xs) (p x) none
  where
    by_test : (find p xs ≡ None → filter (λ y. not (p y)) xs ≡ xs) → (b : Bool) → cond b (Some x) (find p xs) ≡ None
        → cond (not b) (x ∷ filter (λ y. not (p y)) xs) (filter (λ y. not (p y)) xs) ≡ x ∷ xs
    by_test later true at = absurd cc
    by_test later false at = ap (λ ys. x ∷ ys) (later at)

-- two tests are one
pub filter_twice : {A : Type 0} (p q r : A → Bool) → ((x : A) → (p x && q x) ≡ r x) → (xs : List A) → filter p (filter q xs) ≡ filter r xs
filter_twice p q r is [] = refl
filter_twice p q r is (x ∷ xs) = by_tests (p x) (q x) refl refl (filter_twice p q r is xs)
  where
    by_tests : (a b : Bool) → p x ≡ a → q x ≡ b → filter p (filter q xs) ≡ filter r xs
        → filter p (cond b (x ∷ filter q xs) (filter q xs)) ≡ cond (r x) (x ∷ filter r xs) (filter r xs)
    by_tests true true pa qb later = rw (pa, ← is x, pa, qb) (ap (λ ys. x ∷ ys) later)
    by_tests false true pa qb later = rw (pa, ← is x, pa) later
    by_tests true false pa qb later = rw (← is x, pa, qb) later
    by_tests false false pa qb later = rw (← is x, pa) later

-- a test that all pass keeps all
pub all_kept : {A : Type 0} (p : A → Bool) → ((x : A) → p x ≡ true) → (xs : List A) → filter p xs ≡ xs
all_kept p pass [] = refl
all_kept p pass (x ∷ xs) = rw (pass x) (ap (λ ys. x ∷ ys) (all_kept p pass xs))

-- whether any passes is left as it was by those that do not pass
pub any_left : {A : Type 0} (q p : A → Bool) → ((x : A) → p x ≡ true → q x ≡ false) → (xs : List A)
    → list_any q (filter (λ x. not (p x)) xs) ≡ list_any q xs
any_left q p fails [] = refl
any_left q p fails (x ∷ xs) = by_test (p x) refl (any_left q p fails xs)
  where
    by_test : (b : Bool) → p x ≡ b → list_any q (filter (λ y. not (p y)) xs) ≡ list_any q xs
        → list_any q (cond (not b) (x ∷ filter (λ y. not (p y)) xs) (filter (λ y. not (p y)) xs)) ≡ (q x || list_any q xs)
    by_test true is later = later ∙ sym (ap (λ b. b || list_any q xs) (fails x is))
    by_test false is later = ap (λ b. q x || b) later

-- a list is shorter without what is in it
pub shorter : {A : Type 0} (p : A → Bool) (xs : List A) (x : A) → find p xs ≡ Some x → length (filter (λ y. not (p y)) xs) < length xs
shorter p [] x found = absurd cc
shorter p (y ∷ xs) x found = by_test (shorter p xs x) (p y) found
  where
    at_most : (zs : List _) → length (filter (λ w. not (p w)) zs) ≤ length zs
    at_most [] = omega arith
    at_most (z ∷ zs) =
        let later = at_most zs in
        elim (p z) as (λ b. length (cond (not b) (z ∷ filter (λ w. not (p w)) zs) (filter (λ w. not (p w)) zs)) ≤ length (z ∷ zs)) [
          | true ↦ omega (arith, later)
          | false ↦ omega (arith, later)
        ]

    by_test : (find p xs ≡ Some x → length (filter (λ w. not (p w)) xs) < length xs) → (b : Bool) → cond b (Some y) (find p xs) ≡ Some x
        → length (cond (not b) (y ∷ filter (λ w. not (p w)) xs) (filter (λ w. not (p w)) xs)) < length (y ∷ xs)
    by_test later true at = omega (arith, at_most xs)
    by_test later false at = omega (arith, later at)
