-- Numbers of slots, which tell a slot apart from others: what is true of slots is true of their numbers.
use Rattle.std.proofs.Common.{◌≡◌, ℕ, ◌+◌, Bool, true, false, not, cond, ◌==◌, ◌||◌, List, [], ◌∷◌, ◌++◌, map, find, length, reverse}
use Rattle.std.proofs.Common.{refl, sym, ap, ◌∙◌, Option, Some, None, unwrap_or}
use Rattle.std.specs.Prelude.{flat_map, slice_index, nat_lt}
use Rattle.std.specs.Option.{option_map_or}
use Rattle.std.proofs.Math.Numerals.{one-add, add-one}
use Rattle.std.proofs.lemmas.Bool.{eq-eqb, ne_eqb, eqb-false, ltb-false, both_ways, or_left, or_right, or_parts, false≢true}
use Rattle.std.proofs.lemmas.List.{reverse-append}
use Rattle.wf_words.specs.Keyed.{is_in}
use Rattle.wf_words.specs.Once.{NoneTwice, by_number}
use Rattle.wf_links.specs.Lists.{lowest, next_after}
use Rattle.wf_links.specs.Together.{is_in-reverse}
use Rattle.wf_scene.specs.Order as order
use Rattle.wf_scene.specs.Order.{AreApart, without, with_next}
use Rattle.wf_scene.proofs.Once.{first, none_first}

module _ (f : ℕ → ℕ) where
  pub in_numbers : (s : ℕ) (xs : List ℕ) → is_in s xs ≡ true → is_in (f s) (map f xs) ≡ true
  in_numbers s [] there = absurd (false≢true there)
  in_numbers s (x ∷ xs) there =
      by_number (((f x == f s) || is_in (f s) (map f xs)) ≡ true) x s
      (λ is same. or_left (f x == f s) (is_in (f s) (map f xs)) (eq-eqb (f x) (f s) (ap f same)))
      (λ apart. or_right (f x == f s) (is_in (f s) (map f xs)) (in_numbers s xs (rw apart at there)))

  -- of slots whose numbers are apart, no two have one
  same_slot : (s t : ℕ) (xs : List ℕ) → AreApart (map f xs) → is_in s xs ≡ true → is_in t xs ≡ true → f s ≡ f t → s ≡ t
  same_slot s t [] apart s_in t_in same = absurd (false≢true s_in)
  same_slot s t (x ∷ xs) apart s_in t_in same =
      by_number (s ≡ t) x s
      (λ is at_s. by_number (s ≡ t) x t
      (λ here at_t. sym at_s ∙ at_t)
      (λ other. absurd (both_ways (is_in (f x) (map f xs)) apart.0
      (ap (λ n. is_in n (map f xs)) (ap f at_s ∙ same) ∙ in_numbers t xs (rw other at t_in)))))
      (λ other. by_number (s ≡ t) x t
      (λ here at_t. absurd (both_ways (is_in (f x) (map f xs)) apart.0
      (ap (λ n. is_in n (map f xs)) (ap f at_t ∙ sym same) ∙ in_numbers s xs (rw other at s_in))))
      (λ another. same_slot s t xs apart.1 (rw other at s_in) (rw another at t_in) same))

  -- the number of a slot tells it apart from those of a list
  abbrev pub Tells : List ℕ → ℕ → Type 0
  Tells xs s = (x : ℕ) → is_in x xs ≡ true → (f x == f s) ≡ (x == s)

  pub tells : (s : ℕ) (xs : List ℕ) → AreApart (map f xs) → is_in s xs ≡ true → Tells xs s
  tells s xs apart s_in x x_in =
      by_number ((f x == f s) ≡ (x == s)) x s
      (λ is same. eq-eqb (f x) (f s) (ap f same) ∙ sym is)
      (λ other. ne_eqb (f x) (f s) (λ equal. eqb-false x s other (same_slot x s xs apart x_in s_in equal)) ∙ sym other)

  -- numbers that are apart are those of slots that are
  pub apart_slots : (xs : List ℕ) → AreApart (map f xs) → AreApart xs
  apart_slots [] apart = tt
  apart_slots (x ∷ xs) apart = (absent (is_in x xs) refl, apart_slots xs apart.1)
    where
      absent : (b : Bool) → is_in x xs ≡ b → is_in x xs ≡ false
      absent true there = absurd (both_ways (is_in (f x) (map f xs)) apart.0 (in_numbers x xs there))
      absent false out = out

  pub head : (s x : ℕ) (xs : List ℕ) → Tells (x ∷ xs) s → (f x == f s) ≡ (x == s)
  head s x xs tell = tell x (or_left (x == x) (is_in x xs) (eq-eqb x x refl))

  pub rest : (s x : ℕ) (xs : List ℕ) → Tells (x ∷ xs) s → Tells xs s
  rest s x xs tell y there = tell y (or_right (x == y) (is_in y xs) there)

  pub in_by_slot : (s : ℕ) (xs : List ℕ) → Tells xs s → is_in (f s) (map f xs) ≡ is_in s xs
  in_by_slot s [] tell = refl
  in_by_slot s (x ∷ xs) tell = rw (head s x xs tell) (ap (λ b. (x == s) || b) (in_by_slot s xs (rest s x xs tell)))

  pub without_by_slot : (s : ℕ) (xs : List ℕ) → Tells xs s → without (f s) (map f xs) ≡ map f (without s xs)
  without_by_slot s [] tell = refl
  without_by_slot s (x ∷ xs) tell =
      let later = without_by_slot s xs (rest s x xs tell) in
      rw (head s x xs tell) (elim (x == s) as (λ b. cond (not b) (f x ∷ without (f s) (map f xs)) (without (f s) (map f xs))
      ≡ map f (cond (not b) (x ∷ without s xs) (without s xs))) [ true ↦ later | false ↦ ap (λ ys. f x ∷ ys) later ])

  pub put_by_slot : (s b : ℕ) (xs : List ℕ) → Tells xs b
      → flat_map (with_next (f b) (f s)) (map f xs) ≡ map f (flat_map (with_next b s) xs)
  put_by_slot s b [] tell = refl
  put_by_slot s b (x ∷ xs) tell =
      let later = put_by_slot s b xs (rest b x xs tell) in
      rw (head b x xs tell) (elim (x == b) as (λ c. cond c (f x ∷ f s ∷ []) (f x ∷ []) ++ flat_map (with_next (f b) (f s)) (map f xs)
      ≡ map f (cond c (x ∷ s ∷ []) (x ∷ []) ++ flat_map (with_next b s) xs)) [
        | true ↦ ap (λ ys. f x ∷ f s ∷ ys) later
        | false ↦ ap (λ ys. f x ∷ ys) later
      ])

  pub found_by_slot : (s : ℕ) (xs : List ℕ) → Tells xs s → find (λ x. f x == f s) xs ≡ cond (is_in s xs) (Some s) None
  found_by_slot s [] tell = refl
  found_by_slot s (x ∷ xs) tell =
      let later = found_by_slot s xs (rest s x xs tell) in
      rw (head s x xs tell)
      (by_number (cond (x == s) (Some x) (find (λ y. f y == f s) xs) ≡ cond ((x == s) || is_in s xs) (Some s) None) x s
      (λ is same. rw is (ap (λ n. Some n) same))
      (λ other. rw other later))

  -- where a number stands

  pub first_by_slot : (s : ℕ) (xs : List ℕ) → Tells xs s → first (λ n. n == f s) (map f xs) ≡ first (λ x. x == s) xs
  first_by_slot s [] tell = refl
  first_by_slot s (x ∷ xs) tell =
      rw (head s x xs tell) (ap (λ n. cond (not (x == s)) (1 + n) 0) (first_by_slot s xs (rest s x xs tell)))

  pub placed_by_slot : (s : ℕ) (xs : List ℕ) → Tells xs s → is_in s xs ≡ true
      → order.place_of (f s) (map f xs) ≡ Some (first (λ x. x == s) xs)
  placed_by_slot s xs tell there = go (nat_lt (first (λ n. n == f s) (map f xs)) (length (map f xs))) refl
    where
      go : (b : Bool) → nat_lt (first (λ n. n == f s) (map f xs)) (length (map f xs)) ≡ b
          → cond b (Some (first (λ n. n == f s) (map f xs))) None ≡ Some (first (λ x. x == s) xs)
      go true less = ap (λ n. Some n) (first_by_slot s xs tell)
      go false past =
          let out = none_first (λ n. n == f s) (map f xs) (ltb-false (first (λ n. n == f s) (map f xs)) (length (map f xs)) past) in
          absurd (both_ways (is_in (f s) (map f xs)) out (in_by_slot s xs tell ∙ there))

  pub lowest_number : (xs : List ℕ) → slice_index (map f xs) 0 ≡ option_map_or f (lowest xs) 0
  lowest_number [] = refl
  lowest_number (x ∷ xs) = refl

  -- the number of the slot above
  next_number : (s : ℕ) (xs : List ℕ) → slice_index (map f xs) (first (λ x. x == s) xs + 1) ≡ option_map_or f (next_after s xs) 0
  next_number s [] = refl
  next_number s (x ∷ xs) =
      by_number (slice_index (f x ∷ map f xs) (cond (not (x == s)) (1 + first (λ y. y == s) xs) 0 + 1)
      ≡ option_map_or f (cond (x == s) (lowest xs) (next_after s xs)) 0) x s
      (λ is same. rw is (lowest_number xs))
      (λ other. rw (other, one-add, add-one) (rw add-one at (next_number s xs)))

  pub above_by_slot : (s : ℕ) (xs : List ℕ) → Tells xs s → is_in s xs ≡ true
      → order.above (f s) (map f xs) ≡ Some (option_map_or f (next_after s xs) 0)
  above_by_slot s xs tell there = rw (placed_by_slot s xs tell there) (ap (λ n. Some n) (next_number s xs))

  -- one more at the end is next after the last one
  next_more : (s x : ℕ) (ys : List ℕ) → is_in s ys ≡ true → next_after s (ys ++ x ∷ []) ≡ Some (unwrap_or (next_after s ys) x)
  next_more s x [] there = absurd (false≢true there)
  next_more s x (y ∷ ys) there =
      by_number (cond (y == s) (lowest (ys ++ x ∷ [])) (next_after s (ys ++ x ∷ []))
      ≡ Some (unwrap_or (cond (y == s) (lowest ys) (next_after s ys)) x)) y s
      (λ is same. rw is (lowest_more ys))
      (λ other. rw other (next_more s x ys (rw other at there)))
    where
      lowest_more : (zs : List ℕ) → lowest (zs ++ x ∷ []) ≡ Some (unwrap_or (lowest zs) x)
      lowest_more [] = refl
      lowest_more (z ∷ zs) = refl

  -- nothing is next after what stands at the end
  next_none : (s : ℕ) (ys : List ℕ) → is_in s ys ≡ false → next_after s (ys ++ s ∷ []) ≡ None
  next_none s [] out = let itself : (s == s) ≡ true = eq-eqb s s refl in rw itself refl
  next_none s (y ∷ ys) out = let parts = or_parts (y == s) (is_in s ys) out in rw parts.0 (next_none s ys parts.1)

  -- the number of the slot below, or what stands in front of all numbers
  under_number : (s under : ℕ) (xs : List ℕ) → NoneTwice xs → is_in s xs ≡ true
      → slice_index (under ∷ map f xs) (first (λ x. x == s) xs) ≡ option_map_or f (next_after s (reverse xs)) under
  under_number s under [] once there = absurd (false≢true there)
  under_number s under (x ∷ xs) once there =
      by_number (slice_index (under ∷ f x ∷ map f xs) (cond (not (x == s)) (1 + first (λ y. y == s) xs) 0)
      ≡ option_map_or f (next_after s (reverse (x ∷ xs))) under) x s
      (λ is same. rw (is, reverse-append (x ∷ []) xs, same) (rw (next_none s (reverse xs) (is_in-reverse s xs ∙ (rw same at once.0))) refl))
      (λ other. (let later = under_number s (f x) xs once.1 (rw other at there) in
      let inside = is_in-reverse s xs ∙ (rw other at there) in
      rw (other, one-add, reverse-append (x ∷ []) xs, next_more s x (reverse xs) inside) (later ∙ or_first (next_after s (reverse xs)))))
    where
      or_first : (o : Option ℕ) → option_map_or f o (f x) ≡ f (unwrap_or o x)
      or_first None = refl
      or_first (Some n) = refl

  pub below_by_slot : (s : ℕ) (xs : List ℕ) → Tells xs s → NoneTwice xs → is_in s xs ≡ true
      → order.below (f s) (map f xs) ≡ Some (option_map_or f (next_after s (reverse xs)) 0)
  below_by_slot s xs tell once there = rw (placed_by_slot s xs tell there) (ap (λ n. Some n) (under_number s 0 xs once there))
