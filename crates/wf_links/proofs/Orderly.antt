-- Orderly lists: a node stands once in one list, and has the node above it that has it below.
use Rattle.std.proofs.Common.{◌≡◌, ◌≢◌, ℕ, zero, suc, ◌+◌, ◌<◌, ◌≤◌, true, false, cond, ◌==◌, List, [], ◌∷◌, ◌++◌, length, reverse, set}
use Rattle.std.proofs.Common.{count_by, Option, Some, None, refl, sym, ap, ◌∙◌, inl, inr, get_or-set_same, get_or-set_other, arith}
use Rattle.std.specs.List.{concat}
use Rattle.std.specs.Option.{ForSome}
use Rattle.std.proofs.lemmas.Bool.{eq-eqb, eqb-true, both_ways, or_left, or_right, or_parts, or_from, false_from_ne_true, cases_eq}
use Rattle.std.proofs.lemmas.List.Sums.{sum_by-cons}
use Rattle.std.proofs.lemmas.List.{reverse-append, reverse-reverse, set-set, set-get_or}
use Rattle.wf_words.specs.Keyed.{is_in}
use Rattle.wf_words.specs.Once.{NoneTwice, by_number}
use Rattle.wf_words.specs.Options.{◌>>=◌}
use Rattle.wf_links.specs.Lists.{list_at, list_of, lowest, next_after, above, below, put_above, inserted, without, removed}
use Rattle.wf_links.specs.Together.{is_in-append, once_front, once_back, apart_back}
use Rattle.wf_links.proofs.Members.{split_at, once_joined, apart_front}
use Rattle.wf_links.proofs.Numbered.{list_of_is, in_list_of, in_no_list, in_all}
use Rattle.wf_links.specs.Together.{is_in-reverse}
use Rattle.wf_links.proofs.Neighbours.{next_down_at}
use Rattle.wf_links.proofs.Changes.{last_or-append}
use Rattle.wf_links.proofs.Inserted.{IsPlace, at_bottom, above_node}
use Rattle.wf_links.proofs.Removed.{one_removed, without_at}

pub once_at : (lists : List (List ℕ)) (i : ℕ) → NoneTwice (concat lists) → NoneTwice (list_at i lists)
once_at [] i once = tt
once_at (xs ∷ lists) zero once = once_front xs (concat lists) once
once_at (xs ∷ lists) (suc i) once = once_at lists i (once_back xs (concat lists) once)

-- a node in two of the lists is in one
pub one_at_most : (n : ℕ) (lists : List (List ℕ)) (i j : ℕ) → NoneTwice (concat lists) → is_in n (list_at i lists) ≡ true
    → is_in n (list_at j lists) ≡ true → i ≡ j
one_at_most n [] i j once in_i in_j = absurd cc
one_at_most n (xs ∷ lists) zero zero once in_i in_j = refl
one_at_most n (xs ∷ lists) zero (suc j) once in_i in_j =
    absurd (both_ways (is_in n (concat lists)) (apart_back n xs (concat lists) once in_i) (in_all n lists j in_j))
one_at_most n (xs ∷ lists) (suc i) zero once in_i in_j =
    absurd (both_ways (is_in n (concat lists)) (apart_back n xs (concat lists) once in_j) (in_all n lists i in_i))
one_at_most n (xs ∷ lists) (suc i) (suc j) once in_i in_j =
    ap suc (one_at_most n lists i j (once_back xs (concat lists) once) in_i in_j)

-- what stands once is counted once at most

count_more : (n x : ℕ) (xs : List ℕ) → count_by (λ k. k == n) (x ∷ xs) ≡ cond (x == n) 1 0 + count_by (λ k. k == n) xs
count_more n x xs = sum_by-cons (λ k. cond (k == n) 1 0) x xs

none_counted : (n : ℕ) (xs : List ℕ) → is_in n xs ≡ false → count_by (λ x. x == n) xs ≡ 0
none_counted n [] absent = refl
none_counted n (x ∷ xs) absent =
    let parts = or_parts (x == n) (is_in n xs) absent in
    count_more n x xs ∙ rw (parts.0, none_counted n xs parts.1) refl

pub once_counted : (n : ℕ) (xs : List ℕ) → NoneTwice xs → count_by (λ x. x == n) xs ≤ 1
once_counted n [] once = omega arith
once_counted n (x ∷ xs) once =
    by_number (count_by (λ k. k == n) (x ∷ xs) ≤ 1) x n
    (λ is same. (let rest : count_by (λ k. k == n) xs ≡ 0 = none_counted n xs (rw (← same) once.0) in
    rw (count_more n x xs, is) (omega (arith, rest))))
    (λ apart. rw (count_more n x xs, apart) (omega (arith, once_counted n xs once.1)))

-- two nodes that stand next to one another
next_split : (n m : ℕ) (xs : List ℕ) → next_after n xs ≡ Some m → (ys : List ℕ) × (zs : List ℕ) × (xs ≡ (ys ++ n ∷ []) ++ m ∷ zs)
next_split n m [] next = absurd cc
next_split n m (x ∷ xs) next =
    by_number ((ys : List ℕ) × (zs : List ℕ) × (x ∷ xs ≡ (ys ++ n ∷ []) ++ m ∷ zs)) x n
    (λ is same. (let first : lowest xs ≡ Some m = rw is at next in let rest = at_first xs first in
    ([], rest.0, ap (λ k. k ∷ xs) same ∙ ap (λ ks. n ∷ ks) rest.1)))
    (λ apart. (let later = next_split n m xs (rw apart at next) in (x ∷ later.0, later.1, ap (λ ks. x ∷ ks) later.2)))
  where
    at_first : (ks : List ℕ) → lowest ks ≡ Some m → (zs : List ℕ) × (ks ≡ m ∷ zs)
    at_first [] first = absurd cc
    at_first (k ∷ ks) first = let same : k ≡ m = cc in (ks, ap (λ j. j ∷ ks) same)

-- the next one has it next from the top down
next_undone : (n m : ℕ) (xs : List ℕ) → NoneTwice xs → next_after n xs ≡ Some m → next_after m (reverse xs) ≡ Some n
next_undone n m xs once next =
    let parts = next_split n m xs next in
    let behind = once_back (parts.0 ++ n ∷ []) (m ∷ parts.1) (rw (← parts.2) once) in
    ap (λ ks. next_after m (reverse ks)) parts.2 ∙ next_down_at m (parts.0 ++ n ∷ []) parts.1 behind.0 ∙ last_or-append None parts.0 n

once_reversed : (xs : List ℕ) → NoneTwice xs → NoneTwice (reverse xs)
once_reversed [] once = tt
once_reversed (x ∷ xs) once =
    rw (reverse-append (x ∷ []) xs) (once_joined (reverse xs) (x ∷ []) (once_reversed xs once.1) (refl, tt)
    (λ n there. or_from (x == n) false (false_from_ne_true (x == n)
    (λ same. both_ways (is_in x xs) once.0 (rw (eqb-true x n same) (sym (is_in-reverse n xs) ∙ there)))) refl))

-- what stands above a node has that node below it, and the other way round

above_parts : (n m : ℕ) (lists : List (List ℕ)) → above n lists ≡ Some m
    → (i : ℕ) × (list_of n lists ≡ Some i) × (next_after n (list_at i lists) ≡ Some m)
above_parts n m lists up = by_list (list_of n lists) refl up
  where
    by_list : (o : Option ℕ) → list_of n lists ≡ o → (o >>= λ i. next_after n (list_at i lists)) ≡ Some m
        → (i : ℕ) × (list_of n lists ≡ Some i) × (next_after n (list_at i lists) ≡ Some m)
    by_list None is next = absurd cc
    by_list (Some i) is next = (i, is, next)

below_parts : (n m : ℕ) (lists : List (List ℕ)) → below n lists ≡ Some m
    → (i : ℕ) × (list_of n lists ≡ Some i) × (next_after n (reverse (list_at i lists)) ≡ Some m)
below_parts n m lists down = by_list (list_of n lists) refl down
  where
    by_list : (o : Option ℕ) → list_of n lists ≡ o → (o >>= λ i. next_after n (reverse (list_at i lists))) ≡ Some m
        → (i : ℕ) × (list_of n lists ≡ Some i) × (next_after n (reverse (list_at i lists)) ≡ Some m)
    by_list None is next = absurd cc
    by_list (Some i) is next = (i, is, next)

-- the next one is in the same list
next_in : (n m : ℕ) (xs : List ℕ) → next_after n xs ≡ Some m → is_in m xs ≡ true
next_in n m xs next =
    let parts = next_split n m xs next in
    rw parts.2 (is_in-append m (parts.0 ++ n ∷ []) (m ∷ parts.1)
    ∙ or_right (is_in m (parts.0 ++ n ∷ [])) (is_in m (m ∷ parts.1)) (or_left (m == m) (is_in m parts.1) (eq-eqb m m refl)))

pub list_of_member : (m : ℕ) (lists : List (List ℕ)) (i : ℕ) → NoneTwice (concat lists) → is_in m (list_at i lists) ≡ true
    → list_of m lists ≡ Some i
list_of_member m lists i once there = list_of_is m lists i there (λ j h. one_at_most m lists j i once h there)

pub below_above : (n m : ℕ) (lists : List (List ℕ)) → NoneTwice (concat lists) → above n lists ≡ Some m → below m lists ≡ Some n
below_above n m lists once up =
    let parts = above_parts n m lists up in
    let list = list_of_member m lists parts.0 once (next_in n m (list_at parts.0 lists) parts.2) in
    rw list (next_undone n m (list_at parts.0 lists) (once_at lists parts.0 once) parts.2)

pub above_below : (n m : ℕ) (lists : List (List ℕ)) → NoneTwice (concat lists) → below m lists ≡ Some n → above n lists ≡ Some m
above_below n m lists once down =
    let parts = below_parts m n lists down in
    let xs = list_at parts.0 lists in
    let there = sym (is_in-reverse n xs) ∙ next_in m n (reverse xs) parts.2 in
    let list = list_of_member n lists parts.0 once there in
    let up = next_undone m n (reverse xs) (once_reversed xs (once_at lists parts.0 once)) parts.2 in
    rw list (ap (next_after n) (sym (reverse-reverse xs)) ∙ up)

-- what was put into a list is in it, above what was given, and taken out again it leaves the lists as they were

pub some_place : (lists : List (List ℕ)) (list n : ℕ) (base : Option ℕ) → NoneTwice (concat lists)
    → ForSome base (λ b. list_of b lists ≡ Some list) → (front : List ℕ) × (behind : List ℕ) × IsPlace lists list n base front behind
some_place lists list n None once given = ([], list_at list lists, at_bottom lists list n)
some_place lists list n (Some base) once given =
    let parts = split_at base (list_at list lists) (in_list_of base lists list (given base refl)) in
    let once_there : NoneTwice (parts.0 ++ base ∷ parts.1) = rw (← parts.2) (once_at lists list once) in
    let here : is_in base (base ∷ parts.1) ≡ true = or_left (base == base) (is_in base parts.1) (eq-eqb base base refl) in
    let not_front = apart_front base parts.0 (base ∷ parts.1) once_there here in
    let not_behind = (once_back parts.0 (base ∷ parts.1) once_there).0 in
    (parts.0 ++ base ∷ [], parts.1, above_node lists list n base parts.0 parts.1 parts.2 not_front not_behind)

-- what is true of lists with a node between others of one list
pub record IsPut (lists : List (List ℕ)) (list n : ℕ) (base : Option ℕ) (put : List (List ℕ)) : Type 0 where
  pub in_list : list_of n put ≡ Some list
  pub above_base : below n put ≡ base
  pub back : removed n put ≡ lists

put_at_place : (lists : List (List ℕ)) (list n : ℕ) (base : Option ℕ) (front behind : List ℕ) → IsPlace lists list n base front behind
    → list < length lists → list_of n lists ≡ None → IsPut lists list n base (inserted list n base lists)
put_at_place lists list n base front behind place within absent =
    record {
      in_list = in_list;
      above_base = rw (in_list, at_list) (next_down_at n front behind not_in.1 ∙ sym place.below_is);
      back = one_removed n new list elsewhere ∙ ap (λ ks. set new list (without n ks)) at_list
          ∙ ap (set new list) (without_at n front behind not_in.0 not_in.1 ∙ sym place.split)
          ∙ set-set lists list (put_above base n (list_at list lists)) (list_at list lists) ∙ set-get_or lists list [];
    }
  where
    new : List (List ℕ)
    new = inserted list n base lists

    not_in : (is_in n front ≡ false) × (is_in n behind ≡ false)
    not_in = or_parts (is_in n front) (is_in n behind)
        (sym (is_in-append n front behind) ∙ ap (is_in n) (sym place.split) ∙ in_no_list n lists list absent)

    at_list : list_at list new ≡ front ++ n ∷ behind
    at_list = get_or-set_same lists list (put_above base n (list_at list lists)) [] within ∙ place.put

    elsewhere : (j : ℕ) → j ≢ list → is_in n (list_at j new) ≡ false
    elsewhere j other = rw (get_or-set_other lists list j (put_above base n (list_at list lists)) [] other) (in_no_list n lists j absent)

    only : (j : ℕ) → is_in n (list_at j new) ≡ true → j ≡ list
    only j there =
        elim (cases_eq j list) [
          | inl same ↦ same
          | inr other ↦ absurd (both_ways (is_in n (list_at j new)) (elsewhere j other) there)
        ]

    in_list : list_of n new ≡ Some list
    in_list = list_of_is n new list (rw at_list (is_in-append n front (n ∷ behind)
        ∙ or_right (is_in n front) (is_in n (n ∷ behind)) (or_left (n == n) (is_in n behind) (eq-eqb n n refl)))) only

pub is_put : (lists : List (List ℕ)) (list n : ℕ) (base : Option ℕ) → NoneTwice (concat lists) → list < length lists
    → list_of n lists ≡ None → ForSome base (λ b. list_of b lists ≡ Some list) → IsPut lists list n base (inserted list n base lists)
is_put lists list n base once within absent given =
    let place = some_place lists list n base once given in
    put_at_place lists list n base place.0 place.1 place.2 within absent
