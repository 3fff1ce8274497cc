-- Sums of lanes, modulo 2 ^ 32.
use Rattle.std.proofs.Common.{◌≡◌, ℕ, ◌+◌, ◌-◌, ◌%◌, ◌^◌, ◌<◌, List, [], ◌∷◌, length, sum, take, drop, replicate}
use Rattle.std.proofs.Common.{refl, sym, ap, subst, ◌∙◌, arith, length-drop}
use Rattle.std.proofs.lemmas.List.{take_all}
use Rattle.std.specs.Simd.Lanes.{zip2, chunk, sum_l, fold_l, dots, products}
use Rattle.std.proofs.Math.Seq.{take-add}
use Rattle.std.proofs.lemmas.Simd.{sum_dots, sum_by-ones, length-zip2}
use Rattle.std.proofs.lemmas.List.Sums.{sum_by-cons, sum_by-append, sum_by-take-drop}

abbrev plus : ℕ → ℕ → ℕ
plus a b = (a + b) % 2 ^ 32

-- a sum in the words of vectors
lanes_sum : (xs : List ℕ) → sum_l xs ≡ sum xs
lanes_sum [] = refl
lanes_sum (x ∷ xs) = ap (λ (s : ℕ). x + s) (lanes_sum xs) ∙ sym (sum_by-cons (λ y. y) x xs)

-- ---- four bytes in each lane
ones_sum : (n : ℕ) (xs : List ℕ) → length xs ≡ n → sum_l (products xs (replicate n 1)) ≡ sum_l xs
ones_sum n xs len = subst (λ (k : ℕ). sum_l (products xs (replicate k 1)) ≡ sum_l xs) len (sum_by-ones xs)

pub fours_count : (xs : List ℕ) → length xs ≡ 32 → length (dots xs (replicate 32 1)) ≡ 8
fours_count xs len = (sum_dots 8 xs (replicate 32 1) len refl).1

pub fours_sum : (xs : List ℕ) → length xs ≡ 32 → sum (dots xs (replicate 32 1)) ≡ sum xs
fours_sum xs len =
    sym (lanes_sum (dots xs (replicate 32 1))) ∙ (sum_dots 8 xs (replicate 32 1) len refl).0 ∙ ones_sum 32 xs len ∙ lanes_sum xs

-- ---- the lanes added, into one number and to others
added_up : (a : ℕ) (xs : List ℕ) → a < 2 ^ 32 → fold_l plus a xs ≡ (a + sum_l xs) % 2 ^ 32
added_up a [] fits = omega arith
added_up a (x ∷ xs) fits = let rest = added_up (plus a x) xs (omega arith) in omega arith

pub lanes_added_up : (xs : List ℕ) → fold_l plus 0 xs ≡ sum xs % 2 ^ 32
lanes_added_up xs = omega (arith, added_up 0 xs (omega arith), lanes_sum xs)

zip_sum : (n : ℕ) (xs ys : List ℕ) → length xs ≡ n → length ys ≡ n → sum_l (zip2 plus xs ys) % 2 ^ 32 ≡ (sum_l xs + sum_l ys) % 2 ^ 32
zip_sum n [] [] x y = refl
zip_sum n [] (b ∷ ys) x y = absurd (omega arith)
zip_sum n (a ∷ xs) [] x y = absurd (omega arith)
zip_sum n (a ∷ xs) (b ∷ ys) x y = let rest = zip_sum (n - 1) xs ys (omega arith) (omega arith) in omega arith

pub added_count : (n : ℕ) (xs ys : List ℕ) → length xs ≡ n → length ys ≡ n → length (zip2 plus xs ys) ≡ n
added_count n xs ys x y = length-zip2 plus xs ys (x ∙ sym y) ∙ x

pub added_sum : (n : ℕ) (xs ys : List ℕ) → length xs ≡ n → length ys ≡ n → sum (zip2 plus xs ys) % 2 ^ 32 ≡ (sum xs + sum ys) % 2 ^ 32
added_sum n xs ys x y = rw (← lanes_sum (zip2 plus xs ys), ← lanes_sum xs, ← lanes_sum ys) (zip_sum n xs ys x y)

-- ---- the blocks and the rest
pub one_more_block : (at next before piece after : ℕ) (xs : List ℕ) → next ≡ at + 32 → before % 2 ^ 32 ≡ sum (take at xs) % 2 ^ 32
    → piece ≡ sum (chunk at 32 xs) → after % 2 ^ 32 ≡ (before + piece) % 2 ^ 32 → after % 2 ^ 32 ≡ sum (take next xs) % 2 ^ 32
one_more_block at next before piece after xs next_is so_far piece_is added =
    let more : sum (take next xs) ≡ sum (take at xs) + sum (chunk at 32 xs) =
    ap (λ (j : ℕ). sum (take j xs)) next_is ∙ ap sum (take-add at 32 xs) ∙ sum_by-append (λ y. y) (take at xs) (chunk at 32 xs) in
    omega arith

pub blocks_and_rest : (at n total blocks both result : ℕ) (xs : List ℕ) → at + n ≡ length xs → blocks ≡ sum (take at xs) % 2 ^ 32
    → both ≡ (total + blocks) % 2 ^ 32 → result ≡ (both + sum (take n (drop at xs))) % 2 ^ 32 → result ≡ (total + sum xs) % 2 ^ 32
blocks_and_rest at n total blocks both result xs end blocks_are both_are result_is =
    let rest : take n (drop at xs) ≡ drop at xs = take_all n (drop at xs) (omega (arith, length-drop at xs)) in
    let rest_sum : sum (take n (drop at xs)) ≡ sum (drop at xs) = ap sum rest in
    let all : sum (take at xs) + sum (drop at xs) ≡ sum xs = sum_by-take-drop (λ y. y) xs at in
    omega arith
