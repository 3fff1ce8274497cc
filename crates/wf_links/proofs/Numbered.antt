-- Lists by their numbers: the one that has a node, and all of them one after another.
use Rattle.std.proofs.Common.{◌≡◌, ℕ, zero, suc, ◌+◌, ◌<◌, nat_lt, Bool, true, false, not, cond, ◌==◌, List, [], ◌∷◌, length}
use Rattle.std.proofs.Common.{position, option_map, Option, Some, None, refl, sym, ap, ◌∙◌, lt-ltb, inl, inr, arith}
use Rattle.std.specs.List.{AllByRecursion, concat, position_or_len}
use Rattle.std.proofs.Math.Numerals.{one-add}
use Rattle.std.proofs.lemmas.Bool.{eq-eqb, le-ltb, ltb-true, ltb-false, or_left, or_right, or_cases, false_from_ne_true}
use Rattle.std.proofs.lemmas.List.Quantifiers.{position-Some}
use Rattle.wf_words.specs.Keyed.{is_in}
use Rattle.wf_words.specs.Once.{NoneTwice}
use Rattle.wf_links.specs.Lists.{list_at, list_of}
use Rattle.wf_links.specs.Together.{is_in-append}
use Rattle.wf_links.proofs.Members.{once_joined}

-- the place of what passes a test in a longer list
pub position_more : {A : Type 0} (p : A → Bool) (x : A) (xs : List A)
    → position p (x ∷ xs) ≡ cond (p x) (Some 0) (option_map suc (position p xs))
position_more p x xs = by_test (p x) refl
  where
    past : (k l : ℕ) (b : Bool) → nat_lt k l ≡ b
        → cond (nat_lt (suc k) (suc l)) (Some (suc k)) None ≡ option_map suc (cond b (Some k) None)
    past k l true less =
        let more : nat_lt (suc k) (suc l) ≡ true = lt-ltb (suc k) (suc l) (omega (arith, ltb-true k l less)) in
        rw more refl
    past k l false less =
        let more : nat_lt (suc k) (suc l) ≡ false = le-ltb (suc k) (suc l) (omega (arith, ltb-false k l less)) in
        rw more refl

    by_test : (b : Bool) → p x ≡ b → cond (nat_lt (cond (not b) (1 + position_or_len p xs) 0) (suc (length xs)))
        (Some (cond (not b) (1 + position_or_len p xs) 0)) None ≡ cond b (Some 0) (option_map suc (position p xs))
    by_test true is = let first : nat_lt 0 (suc (length xs)) ≡ true = lt-ltb 0 (suc (length xs)) (omega arith) in rw first refl
    by_test false is = rw one-add (past (position_or_len p xs) (length xs) (nat_lt (position_or_len p xs) (length xs)) refl)

pub list_of_is : (n : ℕ) (lists : List (List ℕ)) (i : ℕ) → is_in n (list_at i lists) ≡ true
    → ((j : ℕ) → is_in n (list_at j lists) ≡ true → j ≡ i) → list_of n lists ≡ Some i
list_of_is n [] i there only = absurd cc
list_of_is n (xs ∷ lists) zero there only = position_more (is_in n) xs lists ∙ rw there refl
list_of_is n (xs ∷ lists) (suc i) there only =
    let not_first : is_in n xs ≡ false = false_from_ne_true (is_in n xs) (λ first. absurd (omega (arith, only 0 first))) in
    position_more (is_in n) xs lists
    ∙ rw not_first (ap (option_map suc) (list_of_is n lists i there (λ j h. omega (arith, only (suc j) h))))

pub list_of_none : (n : ℕ) (lists : List (List ℕ)) → ((j : ℕ) → is_in n (list_at j lists) ≡ false) → list_of n lists ≡ None
list_of_none n [] absent = refl
list_of_none n (xs ∷ lists) absent =
    position_more (is_in n) xs lists ∙ rw (absent 0) (ap (option_map suc) (list_of_none n lists (λ j. absent (suc j))))

pub in_list_of : (n : ℕ) (lists : List (List ℕ)) (i : ℕ) → list_of n lists ≡ Some i → is_in n (list_at i lists) ≡ true
in_list_of n lists i is = (position-Some (is_in n) lists i [] is).1

pub list_of_within : (n : ℕ) (lists : List (List ℕ)) (i : ℕ) → list_of n lists ≡ Some i → i < length lists
list_of_within n lists i is = (position-Some (is_in n) lists i [] is).0

pub in_no_list : (n : ℕ) (lists : List (List ℕ)) (j : ℕ) → list_of n lists ≡ None → is_in n (list_at j lists) ≡ false
in_no_list n [] j none = refl
in_no_list n (xs ∷ lists) j none =
    by_test (is_in n xs) refl (sym (position_more (is_in n) xs lists) ∙ none) (λ k none_later. in_no_list n lists k none_later) j
  where
    of_map : (o : Option ℕ) → option_map suc o ≡ None → o ≡ None
    of_map None is = refl
    of_map (Some k) is = absurd cc

    by_test : (b : Bool) → is_in n xs ≡ b → cond b (Some 0) (option_map suc (list_of n lists)) ≡ None
        → ((k : ℕ) → list_of n lists ≡ None → is_in n (list_at k lists) ≡ false) → (k : ℕ) → is_in n (list_at k (xs ∷ lists)) ≡ false
    by_test true here is later k = absurd cc
    by_test false here is later zero = here
    by_test false here is later (suc k) = later k (of_map (list_of n lists) is)

-- what is in one of the lists is in all of them one after another

pub in_all : (n : ℕ) (lists : List (List ℕ)) (i : ℕ) → is_in n (list_at i lists) ≡ true → is_in n (concat lists) ≡ true
in_all n [] i there = there
in_all n (xs ∷ lists) zero there = is_in-append n xs (concat lists) ∙ or_left (is_in n xs) (is_in n (concat lists)) there
in_all n (xs ∷ lists) (suc i) there =
    is_in-append n xs (concat lists) ∙ or_right (is_in n xs) (is_in n (concat lists)) (in_all n lists i there)

pub in_some : (n : ℕ) (lists : List (List ℕ)) → is_in n (concat lists) ≡ true → (i : ℕ) × (is_in n (list_at i lists) ≡ true)
in_some n [] there = absurd cc
in_some n (xs ∷ lists) there =
    elim (or_cases (is_in n xs) (is_in n (concat lists)) (sym (is_in-append n xs (concat lists)) ∙ there)) [
      | inl here ↦ (0, here)
      | inr later ↦ (let found = in_some n lists later in (suc found.0, found.1))
    ]

-- lists in which each stands once, and whose nodes know which of them they are in
pub all_once : (list : ℕ → Option ℕ) (first : ℕ) (lists : List (List ℕ)) → ((i : ℕ) → NoneTwice (list_at i lists))
    → ((i n : ℕ) → is_in n (list_at i lists) ≡ true → list n ≡ Some (first + i)) → NoneTwice (concat lists)
all_once list first [] once known = tt
all_once list first (xs ∷ lists) once known =
    once_joined xs (concat lists) (once 0)
    (all_once list (suc first) lists (λ i. once (suc i)) (λ i n h. known (suc i) n h ∙ ap (λ (k : ℕ). Some k) (omega arith)))
    (λ n here. false_from_ne_true (is_in n (concat lists)) (λ later. apart n here (in_some n lists later)))
  where
    apart : (n : ℕ) → is_in n xs ≡ true → (i : ℕ) × (is_in n (list_at i lists) ≡ true) → ⊥
    apart n here found =
        let same : Some (first + 0) ≡ Some (first + suc found.0) = sym (known 0 n here) ∙ known (suc found.0) n found.1 in
        let equal : first + 0 ≡ first + suc found.0 = cc in
        omega (arith, equal)

-- what holds of each number that is in a list
pub all_from_in : (P : ℕ → Type 0) (xs : List ℕ) → ((n : ℕ) → is_in n xs ≡ true → P n) → AllByRecursion P xs
all_from_in P [] each = tt
all_from_in P (x ∷ xs) each =
    (each x (or_left (x == x) (is_in x xs) (eq-eqb x x refl)), all_from_in P xs (λ n there. each n (or_right (x == n) (is_in n xs) there)))
