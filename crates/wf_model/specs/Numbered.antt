-- The elements that a function gives of each one and its number, and a loop that writes them one by one.
use Rattle.std.proofs.Common.{◌≡◌, ◌∙◌, ℕ, zero, suc, ◌+◌, ◌<◌, ◌≤◌, List, [], ◌∷◌, ◌++◌, length, get_or, set, take, drop, refl, ap, arith}

-- the elements that a function gives, from a number on
abbrev pub each_from : {A B : Type 0} → (ℕ → A → B) → ℕ → List A → List B
each_from f n [] = []
each_from f n (x ∷ xs) = f n x ∷ each_from f (n + 1) xs

-- one more
pub from_step : {A : Type 0} (f : ℕ → A → A) (n : ℕ) (xs ys : List A) (i : ℕ) (d y : A) → i < length xs
    → ys ≡ each_from f n (take i xs) ++ drop i xs → y ≡ f (i + n) (get_or ys i d)
    → set ys i y ≡ each_from f n (take (i + 1) xs) ++ drop (i + 1) xs
from_step f n xs ys i d y within so_far is =
    let turned : i + n ≡ n + i = omega arith in
    ap (λ (zs : List _). set zs i y) so_far
    ∙ ap (λ (z : _). set (each_from f n (take i xs) ++ drop i xs) i z) (is ∙ ap (λ (m : ℕ). f m (get_or ys i d)) turned
    ∙ ap (λ (zs : List _). f (n + i) (get_or zs i d)) so_far)
    ∙ at n xs i within
    ∙ (let next : suc i ≡ i + 1 = omega arith in ap (λ (m : ℕ). each_from f n (take m xs) ++ drop m xs) next)
  where
    at : (k : ℕ) (zs : List _) (j : ℕ) → j < length zs
        → set (each_from f k (take j zs) ++ drop j zs) j (f (k + j) (get_or (each_from f k (take j zs) ++ drop j zs) j d))
        ≡ each_from f k (take (suc j) zs) ++ drop (suc j) zs
    at k [] j within = absurd (omega (arith, within))
    at k (z ∷ zs) zero within = (let here : k + 0 ≡ k = omega arith in ap (λ (m : ℕ). f m z ∷ zs) here)
    at k (z ∷ zs) (suc j) within =
        let next : k + suc j ≡ k + 1 + j = omega arith in
        ap (λ (ws : List _). f k z ∷ ws)
        (ap (λ (m : ℕ). set (each_from f (k + 1) (take j zs) ++ drop j zs) j
        (f m (get_or (each_from f (k + 1) (take j zs) ++ drop j zs) j d))) next ∙ at (k + 1) zs j (omega (arith, within)))

-- all of them
pub from_all : {A : Type 0} (f : ℕ → A → A) (n : ℕ) (xs ys : List A) (i : ℕ) → length xs ≤ i
    → ys ≡ each_from f n (take i xs) ++ drop i xs → ys ≡ each_from f n xs
from_all f n xs ys i end is = is ∙ whole n xs i end
  where
    whole : (k : ℕ) (zs : List _) (j : ℕ) → length zs ≤ j → each_from f k (take j zs) ++ drop j zs ≡ each_from f k zs
    whole k [] zero end = refl
    whole k [] (suc j) end = refl
    whole k (z ∷ zs) zero end = absurd (omega (arith, end))
    whole k (z ∷ zs) (suc j) end = ap (λ (ws : List _). f k z ∷ ws) (whole (k + 1) zs j (omega (arith, end)))
