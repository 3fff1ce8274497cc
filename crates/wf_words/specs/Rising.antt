-- Lists in which a number of each element rises, so that no two elements have one: what is found, and what a change leaves.
use Rattle.std.proofs.Common.{◌≡◌, ◌≢◌, ℕ, zero, suc, ◌<◌, ◌≤◌, Bool, true, false, not, cond, ◌==◌, ◌&&◌, List, [], ◌∷◌, ◌++◌, map}
use Rattle.std.proofs.Common.{filter, find, set, slice_get, option_and_then, Some, None, refl, sym, ap, subst, ◌∙◌, arith}
use Rattle.std.specs.List.{AllByRecursion}
use Rattle.std.proofs.lemmas.Bool.{eq-eqb, eqb-true}
use Rattle.std.proofs.lemmas.Bool.Decides.{nat_tests}
use Rattle.wf_words.specs.Found.{passes}
use Rattle.wf_words.specs.Keyed.{at_key, change}

-- the numbers rise from above `low` up to `high` at most
abbrev pub RisesTo : {A : Type 0} → (A → ℕ) → ℕ → List A → ℕ → Type 0
RisesTo f low [] high = low ≤ high
RisesTo f low (x ∷ xs) high = (low < f x) × RisesTo f (f x) xs high

-- the numbers rise from above `low`
abbrev pub Rises : {A : Type 0} → (A → ℕ) → ℕ → List A → Type 0
Rises f low [] = Unit {0}
Rises f low (x ∷ xs) = (low < f x) × Rises f (f x) xs

pub rises_lower : {A : Type 0} (f : A → ℕ) (low under : ℕ) (xs : List A) → under ≤ low → Rises f low xs → Rises f under xs
rises_lower f low under [] le rises = tt
rises_lower f low under (x ∷ xs) le rises = (omega (arith, le, rises.0), rises.1)

pub rises_filter : {A : Type 0} (f : A → ℕ) (p : A → Bool) (low : ℕ) (xs : List A) → Rises f low xs → Rises f low (filter p xs)
rises_filter f p low [] rises = tt
rises_filter f p low (x ∷ xs) rises =
    let later = rises_filter f p (f x) xs rises.1 in
    elim (p x) as (λ b. Rises f low (cond b (x ∷ filter p xs) (filter p xs))) [
      | true ↦ (rises.0, later)
      | false ↦ rises_lower f (f x) low (filter p xs) (omega (arith, rises.0)) later
    ]

pub rises_map : {A B : Type 0} (f : B → ℕ) (g : A → B) (low : ℕ) (xs : List A) → Rises f low (map g xs) → Rises (λ x. f (g x)) low xs
rises_map f g low [] rises = tt
rises_map f g low (x ∷ xs) rises = (rises.0, rises_map f g (f (g x)) xs rises.1)

-- none has a number up to the lowest one
pub none_below : {A : Type 0} (f : A → ℕ) (q : A → Bool) (low n : ℕ) (xs : List A) → Rises f low xs → n ≤ low
    → find (λ x. (f x == n) && q x) xs ≡ None
none_below f q low n [] rises le = refl
none_below f q low n (x ∷ xs) rises le =
    let apart : (f x == n) ≡ false = grind (arith, nat_tests, rises.0) in
    rw apart (none_below f q (f x) n xs rises.1 (omega (arith, rises.0)))

-- a test beside the number tells of the one that has it
pub find_tested : {A : Type 0} (f : A → ℕ) (q : A → Bool) (low n : ℕ) (xs : List A) → Rises f low xs
    → find (λ x. (f x == n) && q x) xs ≡ option_and_then (λ x. cond (q x) (Some x) None) (find (λ x. f x == n) xs)
find_tested f q low n [] rises = refl
find_tested f q low n (x ∷ xs) rises = by_number (find_tested f q (f x) n xs rises.1) (f x == n) refl
  where
    by_number : find (λ y. (f y == n) && q y) xs ≡ option_and_then (λ y. cond (q y) (Some y) None) (find (λ y. f y == n) xs)
        → (b : Bool) → (f x == n) ≡ b → find (λ y. (f y == n) && q y) (x ∷ xs)
        ≡ option_and_then (λ y. cond (q y) (Some y) None) (find (λ y. f y == n) (x ∷ xs))
    by_number later false is = rw is later
    by_number later true is =
        let same : f x ≡ n = eqb-true (f x) n is in
        let rest : find (λ y. (f y == n) && q y) xs ≡ None = none_below f q (f x) n xs rises.1 (omega (arith, same)) in
        rw is (elim (q x) as (λ b. cond b (Some x) (find (λ y. (f y == n) && q y) xs) ≡ cond b (Some x) None) [
          | true ↦ refl
          | false ↦ rest
        ])

-- what stands in the list has a number above the lowest one
pub above_low : {A : Type 0} (f : A → ℕ) (low : ℕ) (xs : List A) (i : ℕ) (x : A) → Rises f low xs → slice_get xs i ≡ Some x → low < f x
above_low f low [] i x rises at = absurd cc
above_low f low (y ∷ xs) zero x rises at = let same : y ≡ x = cc in subst (λ (z : _). low < f z) same rises.0
above_low f low (y ∷ xs) (suc i) x rises at = omega (arith, rises.0, above_low f (f y) xs i x rises.1 at)

-- what stands at a place is found by its number
pub found_at : {A : Type 0} (f : A → ℕ) (low : ℕ) (xs : List A) (i : ℕ) (x : A) → Rises f low xs → slice_get xs i ≡ Some x
    → at_key f (f x) xs ≡ Some x
found_at f low [] i x rises at = absurd cc
found_at f low (y ∷ xs) zero x rises at =
    let same : y ≡ x = cc in
    let here : (f y == f x) ≡ true = eq-eqb (f y) (f x) (ap f same) in
    rw here at
found_at f low (y ∷ xs) (suc i) x rises at =
    let over : f y < f x = above_low f (f y) xs i x rises.1 at in
    let apart : (f y == f x) ≡ false = grind (arith, nat_tests, over) in
    rw apart (found_at f (f y) xs i x rises.1 at)

-- what is found has a number above the lowest one, and is found by its number too
pub found_above : {A : Type 0} (f : A → ℕ) (p : A → Bool) (low : ℕ) (xs : List A) (x : A) → Rises f low xs → find p xs ≡ Some x
    → (low < f x) × (at_key f (f x) xs ≡ Some x)
found_above f p low [] x rises found = absurd cc
found_above f p low (y ∷ xs) x rises found = by_test (found_above f p (f y) xs x rises.1) (p y) found
  where
    by_test : (find p xs ≡ Some x → (f y < f x) × (at_key f (f x) xs ≡ Some x)) → (b : Bool) → cond b (Some y) (find p xs) ≡ Some x
        → (low < f x) × (at_key f (f x) (y ∷ xs) ≡ Some x)
    by_test later true at =
        let same : y ≡ x = cc in
        let here : (f y == f x) ≡ true = eq-eqb (f y) (f x) (ap f same) in
        (subst (λ (z : _). low < f z) same rises.0, rw here at)
    by_test later false at =
        let there = later at in
        let apart : (f y == f x) ≡ false = grind (arith, nat_tests, there.0) in
        (omega (arith, rises.0, there.0), rw apart there.1)

-- nothing is changed at a number up to the lowest one
pub change_below : {A : Type 0} (f : A → ℕ) (h : A → A) (low n : ℕ) (xs : List A) → Rises f low xs → n ≤ low → change f n h xs ≡ xs
change_below f h low n [] rises le = refl
change_below f h low n (x ∷ xs) rises le =
    let apart : (f x == n) ≡ false = grind (arith, nat_tests, rises.0) in
    rw apart (ap (λ ys. x ∷ ys) (change_below f h (f x) n xs rises.1 (omega (arith, rises.0))))

-- the change of a number is that of the one place where it stands
pub change_at : {A : Type 0} (f : A → ℕ) (h : A → A) (low : ℕ) (xs : List A) (i : ℕ) (x : A) → Rises f low xs → slice_get xs i ≡ Some x
    → change f (f x) h xs ≡ set xs i (h x)
change_at f h low [] i x rises at = absurd cc
change_at f h low (y ∷ xs) zero x rises at =
    let same : y ≡ x = cc in
    let here : (f y == f x) ≡ true = eq-eqb (f y) (f x) (ap f same) in
    let rest : change f (f x) h xs ≡ xs = change_below f h (f y) (f x) xs rises.1 (omega (arith, ap f same)) in
    rw here (ap (λ ys. h y ∷ ys) rest ∙ ap (λ z. h z ∷ xs) same)
change_at f h low (y ∷ xs) (suc i) x rises at =
    let over : f y < f x = above_low f (f y) xs i x rises.1 at in
    let apart : (f y == f x) ≡ false = grind (arith, nat_tests, over) in
    rw apart (ap (λ ys. y ∷ ys) (change_at f h (f y) xs i x rises.1 at))

-- what holds of all still holds where the one at a place is replaced, and what is changed is told by its number
pub each_replaced : {A : Type 0} (f : A → ℕ) (P Q : A → Type 0) (low : ℕ) (xs : List A) (i : ℕ) (x y : A) → Rises f low xs
    → slice_get xs i ≡ Some x → ((z : A) → f z ≢ f x → P z → Q z) → AllByRecursion P xs → Q y → AllByRecursion Q (set xs i y)
each_replaced f P Q low [] i x y rises at from all holds = tt
each_replaced f P Q low (z ∷ xs) zero x y rises at from all holds =
    let same : z ≡ x = cc in
    (holds, each_over (f z) xs rises.1 (λ w over. from w (λ equal. absurd (omega (arith, over, equal, ap f same)))) all.1)
  where
    each_over : (low : ℕ) (ws : List _) → Rises f low ws → ((w : _) → low < f w → P w → Q w) → AllByRecursion P ws → AllByRecursion Q ws
    each_over low [] up each ps = tt
    each_over low (w ∷ ws) up each ps = (each w up.0 ps.0, each_over (f w) ws up.1 (λ v over. each v (omega (arith, over, up.0))) ps.1)
each_replaced f P Q low (z ∷ xs) (suc i) x y rises at from all holds =
    let over : f z < f x = above_low f (f z) xs i x rises.1 at in
    (from z (λ equal. absurd (omega (arith, over, equal))) all.0, each_replaced f P Q (f z) xs i x y rises.1 at from all.1 holds)

-- what leaves no element out leaves all
pub all_stay : {A : Type 0} (f : A → ℕ) (n low : ℕ) (xs : List A) → Rises f low xs → n ≤ low → filter (λ x. not (f x == n)) xs ≡ xs
all_stay f n low [] rises le = refl
all_stay f n low (x ∷ xs) rises le =
    let apart : (f x == n) ≡ false = grind (arith, nat_tests, rises.0) in
    rw apart (ap (λ ys. x ∷ ys) (all_stay f n (f x) xs rises.1 (omega (arith, rises.0))))

-- a test that the one with a number does not pass keeps what it kept
pub left_of : {A : Type 0} (f : A → ℕ) (q : A → Bool) (n low : ℕ) (xs : List A) (x : A) → Rises f low xs → find (λ y. f y == n) xs ≡ Some x
    → q x ≡ false → filter q (filter (λ y. not (f y == n)) xs) ≡ filter q xs
left_of f q n low [] x rises found fails = refl
left_of f q n low (y ∷ xs) x rises found fails = by_test (left_of f q n (f y) xs x rises.1) (f y == n) refl found
  where
    by_test : (find (λ z. f z == n) xs ≡ Some x → q x ≡ false → filter q (filter (λ z. not (f z == n)) xs) ≡ filter q xs) → (b : Bool)
        → (f y == n) ≡ b → cond b (Some y) (find (λ z. f z == n) xs) ≡ Some x
        → filter q (cond (not b) (y ∷ filter (λ z. not (f z == n)) xs) (filter (λ z. not (f z == n)) xs))
        ≡ cond (q y) (y ∷ filter q xs) (filter q xs)
    by_test later true is at =
        let same : y ≡ x = cc in
        let out : q y ≡ false = ap q same ∙ fails in
        let number : f y ≡ n = eqb-true (f y) n is in
        let stays : filter (λ z. not (f z == n)) xs ≡ xs = all_stay f n (f y) xs rises.1 (omega (arith, number)) in
        ap (filter q) stays ∙ sym (ap (λ b. cond b (y ∷ filter q xs) (filter q xs)) out)
    by_test later false is at = ap (λ ys. cond (q y) (y ∷ ys) ys) (later at fails)

-- what is left of those that pass a test, where one that passes it leaves first
pub one_fewer : {A : Type 0} (f : A → ℕ) (p : A → Bool) (xs : List A) (x : A) → Rises f 0 xs → find p xs ≡ Some x
    → filter (λ y. not (p y)) (filter (λ y. not (f y == f x)) xs) ≡ filter (λ y. not (p y)) xs
one_fewer f p xs x rises found =
    left_of f (λ y. not (p y)) (f x) 0 xs x rises (found_above f p 0 xs x rises found).1 (ap not (passes p xs x found))

-- up to a highest number

pub rises_to : {A : Type 0} (f : A → ℕ) (low high : ℕ) (xs : List A) → RisesTo f low xs high → Rises f low xs
rises_to f low high [] rising = tt
rises_to f low high (x ∷ xs) rising = (rising.0, rises_to f (f x) high xs rising.1)

pub low_under : {A : Type 0} (f : A → ℕ) (low high : ℕ) (xs : List A) → RisesTo f low xs high → low ≤ high
low_under f low high [] rising = rising
low_under f low high (x ∷ xs) rising = omega (arith, rising.0, low_under f (f x) high xs rising.1)

-- none has a number above the highest one
pub none_over : {A : Type 0} (f : A → ℕ) (q : A → Bool) (low high n : ℕ) (xs : List A) → RisesTo f low xs high → high < n
    → find (λ x. (f x == n) && q x) xs ≡ None
none_over f q low high n [] rising over = refl
none_over f q low high n (x ∷ xs) rising over =
    let under : f x ≤ high = low_under f (f x) high xs rising.1 in
    let apart : (f x == n) ≡ false = grind (arith, nat_tests, under, over) in
    rw apart (none_over f q (f x) high n xs rising.1 over)

pub rises_to_lower : {A : Type 0} (f : A → ℕ) (low under high : ℕ) (xs : List A) → under ≤ low → RisesTo f low xs high
    → RisesTo f under xs high
rises_to_lower f low under high [] le rising = omega (arith, le, rising)
rises_to_lower f low under high (x ∷ xs) le rising = (omega (arith, le, rising.0), rising.1)

pub rises_to_filter : {A : Type 0} (f : A → ℕ) (p : A → Bool) (low high : ℕ) (xs : List A) → RisesTo f low xs high
    → RisesTo f low (filter p xs) high
rises_to_filter f p low high [] rising = rising
rises_to_filter f p low high (x ∷ xs) rising =
    let later = rises_to_filter f p (f x) high xs rising.1 in
    elim (p x) as (λ b. RisesTo f low (cond b (x ∷ filter p xs) (filter p xs)) high) [
      | true ↦ (rising.0, later)
      | false ↦ rises_to_lower f (f x) low high (filter p xs) (omega (arith, rising.0)) later
    ]

-- one more, above all others
pub rises_to_more : {A : Type 0} (f : A → ℕ) (low high top : ℕ) (xs : List A) (y : A) → high < f y → f y ≤ top → RisesTo f low xs high
    → RisesTo f low (xs ++ y ∷ []) top
rises_to_more f low high top [] y over le rising = (omega (arith, rising, over), le)
rises_to_more f low high top (x ∷ xs) y over le rising = (rising.0, rises_to_more f (f x) high top xs y over le rising.1)

pub rises_to_higher : {A : Type 0} (f : A → ℕ) (low high top : ℕ) (xs : List A) → high ≤ top → RisesTo f low xs high → RisesTo f low xs top
rises_to_higher f low high top [] le rising = omega (arith, le, rising)
rises_to_higher f low high top (x ∷ xs) le rising = (rising.0, rises_to_higher f (f x) high top xs le rising.1)

-- a change that keeps the numbers
pub rises_to_change : {A : Type 0} (f : A → ℕ) (h : A → A) (n low high : ℕ) (xs : List A) → ((x : A) → f (h x) ≡ f x)
    → RisesTo f low xs high → RisesTo f low (change f n h xs) high
rises_to_change f h n low high [] keeps rising = rising
rises_to_change f h n low high (x ∷ xs) keeps rising =
    let later : RisesTo f (f x) (change f n h xs) high = rises_to_change f h n (f x) high xs keeps rising.1 in
    elim (f x == n) as (λ b. RisesTo f low (cond b (h x) x ∷ change f n h xs) high) [
      | true ↦ (subst (λ m. low < m) (sym (keeps x)) rising.0, subst (λ m. RisesTo f m (change f n h xs) high) (sym (keeps x)) later)
      | false ↦ (rising.0, later)
    ]
