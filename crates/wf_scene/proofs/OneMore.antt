-- A list of slots without one of them, and with one put in: how long it is, and what is in it.
use Rattle.std.proofs.Common.{◌≡◌, ℕ, suc, true, false, not, cond, ◌==◌, List, [], ◌∷◌, ◌++◌, length}
use Rattle.std.proofs.Common.{refl, ap, Option, Some, None}
use Rattle.std.specs.Prelude.{flat_map}
use Rattle.std.specs.Option.{ForSome}
use Rattle.std.proofs.lemmas.Bool.{both_ways, true_from_ne_false}
use Rattle.wf_words.specs.Keyed.{is_in}
use Rattle.wf_words.specs.Once.{NoneTwice, by_number}
use Rattle.wf_links.specs.Lists as links
use Rattle.wf_links.specs.Lists.{NodeLists}
use Rattle.wf_scene.specs.Order.{without, with_next}
use Rattle.wf_scene.proofs.Once.{none_followed, none_out}
use Rattle.wf_scene.proofs.Kept.{absent_less, absent_put}

-- a list without one of its numbers is one shorter, and with one put in one longer

pub one_less : (s : ℕ) (xs : List ℕ) → NoneTwice xs → is_in s xs ≡ true → suc (length (without s xs)) ≡ length xs
one_less s [] once there = absurd cc
one_less s (x ∷ xs) once there =
    by_number (suc (length (cond (not (x == s)) (x ∷ without s xs) (without s xs))) ≡ suc (length xs)) x s
    (λ is same. rw is (ap (λ ys. suc (length ys)) (none_out (λ y. y == s) xs (rw same at once.0))))
    (λ other. rw other (ap suc (one_less s xs once.1 (rw other at there))))

next_more : (s b : ℕ) (xs : List ℕ) → NoneTwice xs → is_in b xs ≡ true → length (flat_map (with_next b s) xs) ≡ suc (length xs)
next_more s b [] once there = absurd cc
next_more s b (x ∷ xs) once there =
    by_number (length (cond (x == b) (x ∷ s ∷ []) (x ∷ []) ++ flat_map (with_next b s) xs) ≡ suc (suc (length xs))) x b
    (λ is same. rw is (ap (λ ys. suc (suc (length ys))) (none_followed (λ y. y == b) s xs (rw same at once.0))))
    (λ other. rw other (ap suc (next_more s b xs once.1 (rw other at there))))

pub one_more : (s : ℕ) (base : Option ℕ) (xs : List ℕ) → NoneTwice xs → ForSome base (λ b. is_in b xs ≡ true)
    → length (links.put_above base s xs) ≡ suc (length xs)
one_more s None xs once given = refl
one_more s (Some b) xs once given = next_more s b xs once (given b refl)

-- what is in a list without a number is in the list, and what is in it with one put in is in the list or that one

pub in_less_is_in : (x s : ℕ) (xs : List ℕ) → is_in x (without s xs) ≡ true → is_in x xs ≡ true
in_less_is_in x s xs there =
    true_from_ne_false (is_in x xs) (λ out. both_ways (is_in x (without s xs)) (absent_less x s xs out) there)

pub put_is_in : (x s : ℕ) (base : Option ℕ) (xs : List ℕ) → (s == x) ≡ false → is_in x (links.put_above base s xs) ≡ true
    → is_in x xs ≡ true
put_is_in x s None xs other there = rw other at there
put_is_in x s (Some b) xs other there =
    true_from_ne_false (is_in x xs)
    (λ out. both_ways (is_in x (flat_map (with_next b s) xs)) (absent_put x b s xs out other) there)
