-- The elements of a list by their places: one that is written, those that a function gives, and a loop that writes them one by one.
use Rattle.std.proofs.Common.{◌≡◌, ℕ, zero, suc, ◌+◌, ◌<◌, ◌≤◌, List, [], ◌∷◌, ◌++◌, length, get_or, set, slice_get, take, drop, map, Some}
use Rattle.std.proofs.Common.{refl, sym, ap, ◌∙◌, arith}

-- an element replaced by one with the same g keeps g of all
pub map_set : {A B : Type 0} (g : A → B) (xs : List A) (i : ℕ) (x y : A) → slice_get xs i ≡ Some x → g y ≡ g x
    → map g (set xs i y) ≡ map g xs
map_set g [] i x y at same = refl
map_set g (z ∷ xs) zero x y at same = let is : z ≡ x = cc in ap (λ b. b ∷ map g xs) (same ∙ sym (ap g is))
map_set g (z ∷ xs) (suc i) x y at same = ap (λ bs. g z ∷ bs) (map_set g xs i x y at same)

-- what was written at a place stands there
pub get_set : {A : Type 0} (xs : List A) (i : ℕ) (x y : A) → slice_get xs i ≡ Some x → slice_get (set xs i y) i ≡ Some y
get_set [] i x y at = absurd cc
get_set (z ∷ xs) zero x y at = refl
get_set (z ∷ xs) (suc i) x y at = get_set xs i x y at

pub get_map : {A B : Type 0} (f : A → B) (xs : List A) (i : ℕ) (x : A) → slice_get xs i ≡ Some x → slice_get (map f xs) i ≡ Some (f x)
get_map f [] i x found = absurd cc
get_map f (y ∷ ys) zero x found = (let same : y ≡ x = cc in ap (λ (z : _). Some (f z)) same)
get_map f (y ∷ ys) (suc i) x found = get_map f ys i x found

pub length_map : {A B : Type 0} (f : A → B) (xs ys : List A) → map f xs ≡ map f ys → length xs ≡ length ys
length_map f [] [] same = refl
length_map f [] (y ∷ ys) same = absurd cc
length_map f (x ∷ xs) [] same = absurd cc
length_map f (x ∷ xs) (y ∷ ys) same = ap suc (length_map f xs ys cc)

-- a place within the list has an element
pub within : {A : Type 0} (xs : List A) (i : ℕ) → i < length xs → (x : A) × (slice_get xs i ≡ Some x)
within [] i less = absurd (omega (arith, less))
within (x ∷ xs) zero less = (x, refl)
within (x ∷ xs) (suc i) less = within xs i (omega (arith, less))

pub get_within : {A : Type 0} (xs : List A) (i : ℕ) (x : A) → i < length xs → x ≡ get_or xs i x → slice_get xs i ≡ Some x
get_within xs i x within is = at xs i within ∙ ap (λ (y : _). Some y) (sym is)
  where
    at : (ys : List _) (j : ℕ) → j < length ys → slice_get ys j ≡ Some (get_or ys j x)
    at [] j within = absurd (omega (arith, within))
    at (y ∷ ys) zero within = refl
    at (y ∷ ys) (suc j) within = at ys j (omega (arith, within))

pub step_at : {A : Type 0} (f : A → A) (xs : List A) (i : ℕ) (d : A) → i < length xs
    → set (map f (take i xs) ++ drop i xs) i (f (get_or xs i d)) ≡ map f (take (suc i) xs) ++ drop (suc i) xs
step_at f [] i d within = absurd (omega (arith, within))
step_at f (x ∷ xs) zero d within = refl
step_at f (x ∷ xs) (suc i) d within = ap (λ (ys : List _). f x ∷ ys) (step_at f xs i d (omega (arith, within)))

-- the element at the place that comes next is as it was
pub next_is : {A : Type 0} (f : A → A) (xs : List A) (i : ℕ) (d : A) → i < length xs
    → get_or (map f (take i xs) ++ drop i xs) i d ≡ get_or xs i d
next_is f [] i d within = absurd (omega (arith, within))
next_is f (x ∷ xs) zero d within = refl
next_is f (x ∷ xs) (suc i) d within = next_is f xs i d (omega (arith, within))

-- one more
pub map_step : {A : Type 0} (f : A → A) (xs ys : List A) (i : ℕ) (d y : A) → i < length xs → ys ≡ map f (take i xs) ++ drop i xs
    → y ≡ f (get_or ys i d) → set ys i y ≡ map f (take (i + 1) xs) ++ drop (i + 1) xs
map_step f xs ys i d y within so_far is =
    ap (λ (zs : List _). set zs i y) so_far
    ∙ ap (λ (z : _). set (map f (take i xs) ++ drop i xs) i z) (is ∙ ap (λ (zs : List _). f (get_or zs i d)) so_far
    ∙ ap f (next_is f xs i d within))
    ∙ step_at f xs i d within
    ∙ (let next : suc i ≡ i + 1 = omega arith in ap (λ (n : ℕ). map f (take n xs) ++ drop n xs) next)

-- all of them
pub map_all : {A : Type 0} (f : A → A) (xs ys : List A) (i : ℕ) → length xs ≤ i → ys ≡ map f (take i xs) ++ drop i xs → ys ≡ map f xs
map_all f xs ys i end is = is ∙ whole xs i end
  where
    whole : (zs : List _) (j : ℕ) → length zs ≤ j → map f (take j zs) ++ drop j zs ≡ map f zs
    whole [] zero end = refl
    whole [] (suc j) end = refl
    whole (z ∷ zs) zero end = absurd (omega (arith, end))
    whole (z ∷ zs) (suc j) end = ap (λ (ws : List _). f z ∷ ws) (whole zs j (omega (arith, end)))
