-- Members of a list: a list split at one of them, numbers that stand once, and how long a list of such numbers is.
use Rattle.std.proofs.Common.{◌≡◌, ℕ, zero, suc, ◌<◌, ◌≤◌, true, false, not, cond, ◌==◌, List, [], ◌∷◌, ◌++◌, length}
use Rattle.std.proofs.Common.{◌≢◌, refl, sym, ap, ◌∙◌, ne_eqb, arith}
use Rattle.std.proofs.lemmas.Bool.{eq-eqb, eqb-false, both_ways, or_from, or_parts, or_left, or_right, false_from_ne_true}
use Rattle.wf_words.specs.Keyed.{is_in}
use Rattle.wf_words.specs.Once.{NoneTwice, by_number, is_in-without, none_without, without_itself}
use Rattle.wf_links.specs.Lists.{without}
use Rattle.wf_links.specs.Together.{is_in-append, apart_back}

-- a list in front of one of its members and behind it
pub split_at : (n : ℕ) (xs : List ℕ) → is_in n xs ≡ true → (ys : List ℕ) × (zs : List ℕ) × (xs ≡ ys ++ n ∷ zs)
split_at n [] there = absurd cc
split_at n (x ∷ xs) there =
    by_number ((ys : List ℕ) × (zs : List ℕ) × (x ∷ xs ≡ ys ++ n ∷ zs)) x n
    (λ is same. ([], xs, ap (λ m. m ∷ xs) same))
    (λ apart. let later = split_at n xs (rw apart at there) in (x ∷ later.0, later.1, ap (λ ns. x ∷ ns) later.2))

-- and no member of the second is in the first
pub apart_front : (n : ℕ) (xs ys : List ℕ) → NoneTwice (xs ++ ys) → is_in n ys ≡ true → is_in n xs ≡ false
apart_front n xs ys once there = false_from_ne_true (is_in n xs) (λ front. both_ways (is_in n ys) (apart_back n xs ys once front) there)

-- two lists in which each stands once, and no member of the one is in the other
pub once_joined : (xs ys : List ℕ) → NoneTwice xs → NoneTwice ys → ((n : ℕ) → is_in n xs ≡ true → is_in n ys ≡ false) → NoneTwice (xs ++ ys)
once_joined [] ys xs_once ys_once apart = ys_once
once_joined (x ∷ xs) ys xs_once ys_once apart =
    let here : is_in x (x ∷ xs) ≡ true = or_left (x == x) (is_in x xs) (eq-eqb x x refl) in (
      is_in-append x xs ys ∙ or_from (is_in x xs) (is_in x ys) xs_once.0 (apart x here),
      once_joined xs ys xs_once.1 ys_once (λ n there. apart n (or_right (x == n) (is_in n xs) there)),
    )

-- one more that is in neither
pub once_inserted : (n : ℕ) (xs ys : List ℕ) → NoneTwice (xs ++ ys) → is_in n (xs ++ ys) ≡ false → NoneTwice (xs ++ n ∷ ys)
once_inserted n [] ys once absent = (absent, once)
once_inserted n (x ∷ xs) ys once absent =
    let parts = or_parts (x == n) (is_in n (xs ++ ys)) absent in
    let old = or_parts (is_in x xs) (is_in x ys) (sym (is_in-append x xs ys) ∙ once.0) in
    let other : (n == x) ≡ false = ne_eqb n x (λ same. both_ways (x == n) parts.0 (eq-eqb x n (sym same))) in (
      is_in-append x xs (n ∷ ys) ∙ or_from (is_in x xs) (is_in x (n ∷ ys)) old.0 (or_from (n == x) (is_in x ys) other old.1),
      once_inserted n xs ys once.1 parts.1,
    )

-- a list without what is not in it
pub without_absent : (n : ℕ) (xs : List ℕ) → is_in n xs ≡ false → without n xs ≡ xs
without_absent n [] absent = refl
without_absent n (x ∷ xs) absent =
    let parts = or_parts (x == n) (is_in n xs) absent in
    rw parts.0 (ap (λ ns. x ∷ ns) (without_absent n xs parts.1))

-- numbers below a bound of which each stands once are no more than the bound
pub few_below : (bound : ℕ) (xs : List ℕ) → NoneTwice xs → ((n : ℕ) → is_in n xs ≡ true → n < bound) → length xs ≤ bound
few_below zero [] once below = omega arith
few_below zero (x ∷ xs) once below = absurd (omega (arith, below x (or_left (x == x) (is_in x xs) (eq-eqb x x refl))))
few_below (suc bound) xs once below =
    let left : length (without bound xs) ≤ bound = few_below bound (without bound xs) (none_without bound xs once) less in
    omega (arith, left, one_left xs once)
  where
    less : (n : ℕ) → is_in n (without bound xs) ≡ true → n < bound
    less n there =
        by_number (n < bound) bound n
        (λ is same. absurd (both_ways (is_in bound (without bound xs)) (without_itself bound xs) (rw (← same) at there)))
        (λ apart. (let over : n ≢ bound = λ same. eqb-false bound n apart (sym same) in
        omega (arith, over, below n (sym (is_in-without n bound xs apart) ∙ there))))

    one_left : (ns : List ℕ) → NoneTwice ns → length ns ≤ suc (length (without bound ns))
    one_left [] none = omega arith
    one_left (n ∷ ns) none =
        by_number (length (n ∷ ns) ≤ suc (length (cond (not (n == bound)) (n ∷ without bound ns) (without bound ns)))) n bound
        (λ is same. rw is (let all : length (without bound ns) ≡ length ns = ap length (without_absent bound ns (rw same at none.0)) in
        omega (arith, all)))
        (λ apart. rw apart (omega (arith, one_left ns none.1)))
