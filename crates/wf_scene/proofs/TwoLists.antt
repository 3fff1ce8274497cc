-- The two lists of links: a slot stands once in one of them at most, and is one of those that there are.
use Rattle.std.proofs.Common.{◌≡◌, ℕ, ◌<◌, true, false, ◌==◌, List, [], ◌∷◌, ◌++◌, Some, IsSome, refl, sym, ap}
use Rattle.std.proofs.Common.{reverse, subst, ◌∙◌, append-nil}
use Rattle.std.specs.List.{AllByRecursion}
use Rattle.std.proofs.lemmas.Bool.{eq-eqb, both_ways, or_left, or_right, false_from_ne_true}
use Rattle.wf_words.specs.Found.{any_at}
use Rattle.wf_words.specs.Keyed.{is_in}
use Rattle.wf_words.specs.Once.{NoneTwice, by_number}
use Rattle.wf_links.specs.Lists.{NodeLists, above, below, list_of, lowest, next_after, removed, without}
use Rattle.wf_links.specs.Together.{apart_back, is_in-append, is_in-reverse, once_back, once_front}
use Rattle.wf_scene.specs.Slots.{IsLinked, free_in, inserted_in, two_lists}
use Rattle.wf_scene.proofs.Once.{none_out}
use Rattle.wf_scene.specs.declared.TheConstants.{MOST_ELEMENTS}

-- what holds of all numbers holds of each
pub each_in : (P : ℕ → Type 0) (n : ℕ) (xs : List ℕ) → AllByRecursion P xs → is_in n xs ≡ true → P n
each_in P n [] all there = absurd cc
each_in P n (x ∷ xs) all there =
    by_number (P n) x n (λ is same. subst P same all.0) (λ apart. each_in P n xs all.1 (rw apart at there))

-- what is next is in the list
next_in : (s x : ℕ) (xs : List ℕ) → next_after s xs ≡ Some x → is_in x xs ≡ true
next_in s x [] is = absurd cc
next_in s x (y ∷ ys) is =
    or_right (y == x) (is_in x ys) (by_number (is_in x ys ≡ true) y s
    (λ here same. any_at (λ z. z == x) ys 0 x (rw here at is) (eq-eqb x x refl))
    (λ other. next_in s x ys (rw other at is)))

module _ (o : NodeLists) (linked : IsLinked o) where
  all_once : NoneTwice (inserted_in o ++ free_in o)
  all_once = rw append-nil at (rw linked.two at linked.orderly.once)

  all_within : AllByRecursion (λ s. s < MOST_ELEMENTS) (inserted_in o ++ free_in o)
  all_within = rw append-nil at (rw linked.two at linked.orderly.within)

  pub inserted_once : NoneTwice (inserted_in o)
  inserted_once = once_front (inserted_in o) (free_in o) all_once

  pub free_once : NoneTwice (free_in o)
  free_once = once_back (inserted_in o) (free_in o) all_once

  pub not_free : (s : ℕ) → is_in s (inserted_in o) ≡ true → is_in s (free_in o) ≡ false
  not_free s there = apart_back s (inserted_in o) (free_in o) all_once there

  pub not_inserted : (s : ℕ) → is_in s (free_in o) ≡ true → is_in s (inserted_in o) ≡ false
  not_inserted s there = false_from_ne_true (is_in s (inserted_in o)) (λ both. both_ways (is_in s (free_in o)) (not_free s both) there)

  pub inserted_within : (s : ℕ) → is_in s (inserted_in o) ≡ true → s < MOST_ELEMENTS
  inserted_within s there =
      each_in (λ n. n < MOST_ELEMENTS) s (inserted_in o ++ free_in o) all_within
      (is_in-append s (inserted_in o) (free_in o) ∙ or_left (is_in s (inserted_in o)) (is_in s (free_in o)) there)

  pub free_within : (s : ℕ) → is_in s (free_in o) ≡ true → s < MOST_ELEMENTS
  free_within s there =
      each_in (λ n. n < MOST_ELEMENTS) s (inserted_in o ++ free_in o) all_within
      (is_in-append s (inserted_in o) (free_in o) ∙ or_right (is_in s (inserted_in o)) (is_in s (free_in o)) there)

  -- the lists without a slot of the one, and without a slot of the other

  pub without_inserted : (s : ℕ) → is_in s (inserted_in o) ≡ true
      → ◌≡◌ {A = NodeLists} (record o { lists = removed s o.lists }) (two_lists (without s (inserted_in o)) (free_in o))
  without_inserted s there =
      rw linked.two (ap (two_lists (without s (inserted_in o))) (none_out (λ x. x == s) (free_in o) (not_free s there)))

  pub without_free : (s : ℕ) → is_in s (free_in o) ≡ true
      → ◌≡◌ {A = NodeLists} (record o { lists = removed s o.lists }) (two_lists (inserted_in o) (without s (free_in o)))
  without_free s there =
      rw linked.two (ap (λ xs. two_lists xs (without s (free_in o))) (none_out (λ x. x == s) (inserted_in o) (not_inserted s there)))

  -- a free slot is in a list
  pub free_somewhere : (s : ℕ) → is_in s (free_in o) ≡ true → IsSome (list_of s o.lists)
  free_somewhere s there = let out = not_inserted s there in rw linked.two (rw (out, there) cc)

  pub first_free : (s : ℕ) → lowest (free_in o) ≡ Some s → is_in s (free_in o) ≡ true
  first_free s is = any_at (λ x. x == s) (free_in o) 0 s is (eq-eqb s s refl)

  -- an inserted slot is in a list, and has the next slots of the first one next to it

  pub inserted_somewhere : (s : ℕ) → is_in s (inserted_in o) ≡ true → IsSome (list_of s o.lists)
  inserted_somewhere s there = rw linked.two (rw there cc)

  pub above_is : (s : ℕ) → is_in s (inserted_in o) ≡ true → above s o.lists ≡ next_after s (inserted_in o)
  above_is s there = rw linked.two (rw there refl)

  pub below_is : (s : ℕ) → is_in s (inserted_in o) ≡ true → below s o.lists ≡ next_after s (reverse (inserted_in o))
  below_is s there = rw linked.two (rw there refl)

  pub above_within : (s x : ℕ) → is_in s (inserted_in o) ≡ true → above s o.lists ≡ Some x → x < MOST_ELEMENTS
  above_within s x there is =
      inserted_within x (next_in s x (inserted_in o) (sym (above_is s there) ∙ is))

  pub below_within : (s x : ℕ) → is_in s (inserted_in o) ≡ true → below s o.lists ≡ Some x → x < MOST_ELEMENTS
  below_within s x there is =
      inserted_within x (sym (is_in-reverse x (inserted_in o)) ∙ next_in s x (reverse (inserted_in o)) (sym (below_is s there) ∙ is))

-- what a free slot is, and what the lists are without it
pub ruleset free_slots = (first_free, free_somewhere, free_within, without_free)
