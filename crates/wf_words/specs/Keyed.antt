-- Lists whose elements have a number of their own, each number once; lists that are counted from 1; lists of numbers.
use Rattle.std.specs.List.{list_any}
use Rattle.std.proofs.Common.{◌≡◌, ℕ, zero, suc, Bool, true, false, not, cond, ◌==◌, List, [], ◌∷◌, map, filter, find, slice_get, Option}
use Rattle.std.proofs.Common.{Some, None, if◌then◌else◌, refl, ap, ◌∙◌}
use Rattle.std.proofs.lemmas.Bool.{eqb-true}
use Rattle.wf_words.specs.Found.{passes}

module _ {A : Type 0} where
  -- the element of a number
  abbrev pub at_key : (A → ℕ) → ℕ → List A → Option A
  at_key key n xs = find (λ x. key x == n) xs

  -- the list with the element of a number changed
  abbrev pub change : (A → ℕ) → ℕ → (A → A) → List A → List A
  change key n f xs = map (λ x. if key x == n then f x else x) xs

  -- the element at a place that is counted from 1
  abbrev pub nth : ℕ → List A → Option A
  nth zero xs = None
  nth (suc n) xs = slice_get xs n

-- a number is in a list
abbrev pub is_in : ℕ → List ℕ → Bool
is_in n xs = list_any (λ x. x == n) xs

-- each number of a list once, where it stands first
abbrev pub once : List ℕ → List ℕ
once [] = []
once (x ∷ xs) = x ∷ filter (λ y. not (y == x)) (once xs)

-- a change that keeps g of each element keeps g of all
pub map_change : {A B : Type 0} (key : A → ℕ) (n : ℕ) (f : A → A) (g : A → B) → ((x : A) → g (f x) ≡ g x) → (xs : List A)
    → map g (change key n f xs) ≡ map g xs
map_change key n f g keeps [] = refl
map_change key n f g keeps (x ∷ xs) =
    let later = map_change key n f g keeps xs in
    elim (key x == n) as (λ b. g (cond b (f x) x) ∷ map g (change key n f xs) ≡ g x ∷ map g xs) [
      | true ↦ ap (λ y. y ∷ map g (change key n f xs)) (keeps x) ∙ ap (λ ys. g x ∷ ys) later
      | false ↦ ap (λ ys. g x ∷ ys) later
    ]

-- a change of what has a number leaves the others
pub change_left : {A : Type 0} (key : A → ℕ) (n : ℕ) (f : A → A) → ((x : A) → key (f x) ≡ key x) → (xs : List A)
    → filter (λ x. not (key x == n)) (change key n f xs) ≡ filter (λ x. not (key x == n)) xs
change_left key n f keeps [] = refl
change_left key n f keeps (x ∷ xs) = by_test (key x == n) refl (change_left key n f keeps xs)
  where
    by_test : (b : Bool) → (key x == n) ≡ b → filter (λ y. not (key y == n)) (change key n f xs) ≡ filter (λ y. not (key y == n)) xs
        → filter (λ y. not (key y == n)) (cond b (f x) x ∷ change key n f xs)
        ≡ cond (not b) (x ∷ filter (λ y. not (key y == n)) xs) (filter (λ y. not (key y == n)) xs)
    by_test true is later = let there : (key (f x) == n) ≡ true = ap (λ m. m == n) (keeps x) ∙ is in rw there later
    by_test false is later = rw is (ap (λ ys. x ∷ ys) later)

-- what is found under a number has that number
pub has_key : {A : Type 0} (key : A → ℕ) (n : ℕ) (xs : List A) (x : A) → at_key key n xs ≡ Some x → key x ≡ n
has_key key n xs x found = eqb-true (key x) n (passes (λ y. key y == n) xs x found)
