-- Numbers of two lists together, and of a list turned round.
use Rattle.std.proofs.Common.{◌≡◌, ℕ, true, false, ◌==◌, ◌||◌, List, [], ◌∷◌, ◌++◌, reverse, sym, ◌∙◌}
use Rattle.std.proofs.lemmas.Bool.{or_parts}
use Rattle.std.proofs.lemmas.List.Folds.{list_any-append}
use Rattle.std.proofs.lemmas.List.Sorted.{IsPermutation-reverse, list_any-IsPermutation}
use Rattle.wf_words.specs.Keyed.{is_in}
use Rattle.wf_words.specs.Once.{NoneTwice, by_number}

pub is_in-append : (n : ℕ) (xs ys : List ℕ) → is_in n (xs ++ ys) ≡ (is_in n xs || is_in n ys)
is_in-append n xs ys = list_any-append (λ x. x == n) xs ys

pub is_in-reverse : (n : ℕ) (xs : List ℕ) → is_in n (reverse xs) ≡ is_in n xs
is_in-reverse n xs = sym (list_any-IsPermutation (λ x. x == n) xs (reverse xs) (IsPermutation-reverse xs))

-- where each stands once in two lists together, no member of the one is in the other

pub once_front : (xs ys : List ℕ) → NoneTwice (xs ++ ys) → NoneTwice xs
once_front [] ys once = tt
once_front (x ∷ xs) ys once = ((or_parts (is_in x xs) (is_in x ys) (sym (is_in-append x xs ys) ∙ once.0)).0, once_front xs ys once.1)

pub once_back : (xs ys : List ℕ) → NoneTwice (xs ++ ys) → NoneTwice ys
once_back [] ys once = once
once_back (x ∷ xs) ys once = once_back xs ys once.1

pub apart_back : (n : ℕ) (xs ys : List ℕ) → NoneTwice (xs ++ ys) → is_in n xs ≡ true → is_in n ys ≡ false
apart_back n [] ys once there = absurd cc
apart_back n (x ∷ xs) ys once there =
    by_number (is_in n ys ≡ false) x n
    (λ is same. rw same at ((or_parts (is_in x xs) (is_in x ys) (sym (is_in-append x xs ys) ∙ once.0)).1))
    (λ apart. apart_back n xs ys once.1 (rw apart at there))
