-- What is found under a number in a list that is changed, gets longer or is filtered.
use Rattle.std.proofs.Common.{◌≡◌, ℕ, Bool, true, false, cond, ◌&&◌, ◌==◌, List, [], ◌∷◌, ◌++◌, map, filter, find, Option, Some, None}
use Rattle.std.proofs.Common.{option_map, refl, sym, ap, subst, ◌∙◌}
use Rattle.std.specs.Prelude.{IsSome}
use Rattle.std.proofs.lemmas.Bool.{and_parts, eqb-true}
use Rattle.wf_words.specs.Found.{find_filtered, passes}
use Rattle.wf_words.specs.Keyed.{at_key}

module _ {A : Type 0} (key : A → ℕ) where
  -- each is changed, and keeps its number
  pub at_mapped : (g : A → A) → ((x : A) → key (g x) ≡ key x) → (n : ℕ) (xs : List A)
      → at_key key n (map g xs) ≡ option_map g (at_key key n xs)
  at_mapped g keeps n [] = refl
  at_mapped g keeps n (x ∷ xs) =
      let later = at_mapped g keeps n xs in
      ap (λ m. cond (m == n) (Some (g x)) (at_key key n (map g xs))) (keeps x)
      ∙ (elim (key x == n) as (λ b. cond b (Some (g x)) (at_key key n (map g xs)) ≡ option_map g (cond b (Some x) (at_key key n xs))) [
        | true ↦ refl
        | false ↦ later
      ])

  -- one comes last
  pub at_more : (n : ℕ) (xs : List A) (y x : A) → at_key key n xs ≡ Some x → at_key key n (xs ++ y ∷ []) ≡ Some x
  at_more n [] y x at = absurd cc
  at_more n (z ∷ xs) y x at =
      let later = at_more n xs y x in
      (elim (key z == n) as (λ b. cond b (Some z) (at_key key n xs) ≡ Some x → cond b (Some z) (at_key key n (xs ++ y ∷ [])) ≡ Some x) [
        | true ↦ λ here. here
        | false ↦ later
      ]) at

  -- those are left whose number passes a test
  module _ (left : ℕ → Bool) (n : ℕ) where
    found_both : left n ≡ true → (xs : List A) → find (λ x. (key x == n) && left (key x)) xs ≡ at_key key n xs
    found_both kept [] = refl
    found_both kept (x ∷ xs) = of_test (found_both kept xs) (key x == n) refl
      where
        of_test : find (λ y. (key y == n) && left (key y)) xs ≡ at_key key n xs → (b : Bool) → (key x == n) ≡ b
            → cond (b && left (key x)) (Some x) (find (λ y. (key y == n) && left (key y)) xs) ≡ cond b (Some x) (at_key key n xs)
        of_test later true here = rw (ap left (eqb-true (key x) n here) ∙ kept) refl
        of_test later false apart = later

    is_left : (xs : List A) → IsSome (find (λ x. (key x == n) && left (key x)) xs) → left n ≡ true
    is_left xs some = of_found (find (λ x. (key x == n) && left (key x)) xs) refl some
      where
        of_found : (o : Option A) → find (λ x. (key x == n) && left (key x)) xs ≡ o → IsSome o → left n ≡ true
        of_found None at none = absurd cc
        of_found (Some x) at there =
            let both = and_parts (key x == n) (left (key x)) (passes (λ y. (key y == n) && left (key y)) xs x at) in
            ap left (sym (eqb-true (key x) n both.0)) ∙ both.1

    pub at_filtered : left n ≡ true → (xs : List A) → at_key key n (filter (λ x. left (key x)) xs) ≡ at_key key n xs
    at_filtered kept xs = sym (find_filtered (λ (x : A). key x == n) (λ x. left (key x)) xs) ∙ found_both kept xs

    -- what is found among those is found among all
    pub found_left : (xs : List A) → IsSome (at_key key n (filter (λ x. left (key x)) xs))
        → at_key key n (filter (λ x. left (key x)) xs) ≡ at_key key n xs
    found_left xs some =
        let found = find_filtered (λ (x : A). key x == n) (λ x. left (key x)) xs in
        sym found ∙ found_both (is_left xs (subst IsSome (sym found) some)) xs
