-- What is found in a list by a test, and whether any element passes it.
use Rattle.std.proofs.Common.{◌≡◌, ℕ, zero, suc, ◌+◌, ◌<◌, ◌≤◌, nat_lt, Bool, true, false, not, cond, ◌&&◌, ◌||◌, List, [], ◌∷◌, length}
use Rattle.std.proofs.Common.{map, filter, find, position, slice_get, option_map, option_and_then, is_some, Option, Some, None, refl, sym}
use Rattle.std.proofs.Common.{ap, subst, ◌∙◌, arith}
use Rattle.std.specs.List.{list_any, position_or_len}
use Rattle.std.proofs.Math.Numerals.{one-add}
use Rattle.std.proofs.lemmas.Bool.{ltb-true, ltb-false}

-- what is found passes its test
pub passes : {A : Type 0} (p : A → Bool) (xs : List A) (x : A) → find p xs ≡ Some x → p x ≡ true
passes p [] x found = absurd cc
passes p (y ∷ xs) x found = by_test (passes p xs x) (p y) refl found
  where
    by_test : (find p xs ≡ Some x → p x ≡ true) → (b : Bool) → p y ≡ b → cond b (Some y) (find p xs) ≡ Some x → p x ≡ true
    by_test later true is at = let same : y ≡ x = cc in subst (λ (z : _). p z ≡ true) same is
    by_test later false is at = later at

pub any_found : {A : Type 0} (p : A → Bool) (xs : List A) → list_any p xs ≡ is_some (find p xs)
any_found p [] = refl
any_found p (x ∷ xs) =
    let later = any_found p xs in
    elim (p x) as (λ b. (b || list_any p xs) ≡ is_some (cond b (Some x) (find p xs))) [ true ↦ refl | false ↦ later ]

pub any_mapped : {A B : Type 0} (p : B → Bool) (g : A → B) (xs : List A) → list_any p (map g xs) ≡ list_any (λ x. p (g x)) xs
any_mapped p g [] = refl
any_mapped p g (x ∷ xs) = ap (λ b. p (g x) || b) (any_mapped p g xs)

-- what passes two tests is found among what passes the second
pub find_filtered : {A : Type 0} (p q : A → Bool) (xs : List A) → find (λ x. p x && q x) xs ≡ find p (filter q xs)
find_filtered p q [] = refl
find_filtered p q (x ∷ xs) =
    let later = find_filtered p q xs in
    elim (q x) as (λ b. cond (p x && b) (Some x) (find (λ y. p y && q y) xs) ≡ find p (cond b (x ∷ filter q xs) (filter q xs))) [
      | true ↦ elim (p x) as (λ b. cond (b && true) (Some x) (find (λ y. p y && q y) xs) ≡ cond b (Some x) (find p (filter q xs))) [
        | true ↦ refl
        | false ↦ later
      ]
      | false ↦ elim (p x) as (λ b. cond (b && false) (Some x) (find (λ y. p y && q y) xs) ≡ find p (filter q xs)) [
        | true ↦ later
        | false ↦ later
      ]
    ]

pub find_mapped : {A B : Type 0} (p : B → Bool) (g : A → B) (xs : List A) → find p (map g xs) ≡ option_map g (find (λ x. p (g x)) xs)
find_mapped p g [] = refl
find_mapped p g (x ∷ xs) =
    elim (p (g x)) as (λ b. cond b (Some (g x)) (find p (map g xs)) ≡ option_map g (cond b (Some x) (find (λ y. p (g y)) xs))) [
      | true ↦ refl
      | false ↦ find_mapped p g xs
    ]

-- what passes two tests passes the first
pub any_first : {A : Type 0} (p q : A → Bool) (xs : List A) → list_any (λ x. p x && q x) xs ≡ true → list_any p xs ≡ true
any_first p q [] any = absurd cc
any_first p q (x ∷ xs) any = by_test (any_first p q xs) (p x) any
  where
    by_test : (list_any (λ y. p y && q y) xs ≡ true → list_any p xs ≡ true) → (b : Bool)
        → ((b && q x) || list_any (λ y. p y && q y) xs) ≡ true → (b || list_any p xs) ≡ true
    by_test later true at = refl
    by_test later false at = later at

pub none_at : {A : Type 0} (p : A → Bool) (xs : List A) → list_any p xs ≡ false → find p xs ≡ None
none_at p xs none = of_found (find p xs) (sym (any_found p xs) ∙ none)
  where
    of_found : {A : Type 0} (o : Option A) → is_some o ≡ false → o ≡ None
    of_found None is = refl
    of_found (Some x) is = absurd cc

pub some_at : {A : Type 0} (p : A → Bool) (xs : List A) → list_any p xs ≡ true → (x : A) × (find p xs ≡ Some x)
some_at p xs some = of_found (find p xs) refl (sym (any_found p xs) ∙ some)
  where
    of_found : (o : Option _) → find p xs ≡ o → is_some o ≡ true → (x : _) × (find p xs ≡ Some x)
    of_found None at is = absurd cc
    of_found (Some x) at is = (x, at)

pub or_true : (a b : Bool) → b ≡ true → (a || b) ≡ true
or_true true b is = refl
or_true false b is = is

-- what is found passes another test
pub any_by : {A : Type 0} (p q : A → Bool) (xs : List A) (x : A) → find p xs ≡ Some x → q x ≡ true → list_any q xs ≡ true
any_by p q [] x found pass = absurd cc
any_by p q (y ∷ xs) x found pass = by_test (any_by p q xs x) (p y) found
  where
    by_test : (find p xs ≡ Some x → q x ≡ true → list_any q xs ≡ true) → (b : Bool) → cond b (Some y) (find p xs) ≡ Some x
        → (q y || list_any q xs) ≡ true
    by_test later true at = (let same : y ≡ x = cc in let here : q y ≡ true = ap q same ∙ pass in ap (λ b. b || list_any q xs) here)
    by_test later false at = or_true (q y) (list_any q xs) (later at pass)

-- what stands at a place passes a test
pub any_at : {A : Type 0} (q : A → Bool) (xs : List A) (i : ℕ) (x : A) → slice_get xs i ≡ Some x → q x ≡ true → list_any q xs ≡ true
any_at q [] i x at pass = absurd cc
any_at q (y ∷ xs) zero x at pass = let same : y ≡ x = cc in let here : q y ≡ true = ap q same ∙ pass in ap (λ b. b || list_any q xs) here
any_at q (y ∷ xs) (suc i) x at pass = or_true (q y) (list_any q xs) (any_at q xs i x at pass)

pub first_found : {A : Type 0} (p : A → Bool) (xs : List A) → position_or_len p xs < length xs
    → slice_get xs (position_or_len p xs) ≡ find p xs
first_found p [] within = absurd (omega (arith, within))
first_found p (x ∷ xs) within = by_test (first_found p xs) (p x) within
  where
    by_test : (position_or_len p xs < length xs → slice_get xs (position_or_len p xs) ≡ find p xs) → (b : Bool)
        → cond (not b) (1 + position_or_len p xs) 0 < suc (length xs)
        → slice_get (x ∷ xs) (cond (not b) (1 + position_or_len p xs) 0) ≡ cond b (Some x) (find p xs)
    by_test later true less = refl
    by_test later false less = rw one-add (later (omega (arith, less)))

pub none_found : {A : Type 0} (p : A → Bool) (xs : List A) → length xs ≤ position_or_len p xs → find p xs ≡ None
none_found p [] past = refl
none_found p (x ∷ xs) past = by_test (none_found p xs) (p x) past
  where
    by_test : (length xs ≤ position_or_len p xs → find p xs ≡ None) → (b : Bool)
        → suc (length xs) ≤ cond (not b) (1 + position_or_len p xs) 0 → cond b (Some x) (find p xs) ≡ None
    by_test later true more = absurd (omega (arith, more))
    by_test later false more = later (omega (arith, more))

-- the place of a number leads to what is found by it
pub get_position : {A : Type 0} (p : A → Bool) (xs : List A) → option_and_then (slice_get xs) (position p xs) ≡ find p xs
get_position p xs = by_test (nat_lt (position_or_len p xs) (length xs)) refl
  where
    by_test : (b : Bool) → nat_lt (position_or_len p xs) (length xs) ≡ b
        → option_and_then (slice_get xs) (cond b (Some (position_or_len p xs)) None) ≡ find p xs
    by_test true is = first_found p xs (ltb-true (position_or_len p xs) (length xs) is)
    by_test false is = sym (none_found p xs (ltb-false (position_or_len p xs) (length xs) is))
