-- Two lists that are gone through together, from a place on.
use Rattle.std.proofs.Common.{◌≡◌, ◌∙◌, ℕ, ◌+◌, ◌<◌, ◌≤◌, List, [], ◌∷◌, ◌++◌, length, get_or, drop, append_assoc, drop-cons, add-one}
use Rattle.std.proofs.Common.{refl, sym, ap}
use Rattle.std.proofs.Common.{inl, inr}
use Rattle.std.proofs.lemmas.Bool.{cases_lt}
use Rattle.std.proofs.lemmas.List.{append-nil, drop_all}
use Rattle.wf_events.specs.declared.happening.Happening.{Happening}
use Rattle.wf_events.specs.Watching.{between_from}

module _ {A : Type 0} (f : ℕ → A → A → List Happening) where
  -- what is found from a place on
  abbrev pub found_from : ℕ → List A → List A → List Happening
  found_from i xs ys = between_from f (i + 1) (drop i xs) (drop i ys)

  next_pair : (i : ℕ) (d : A) (xs ys : List A) → i < length xs → i < length ys
      → found_from i xs ys ≡ f (i + 1) (get_or xs i d) (get_or ys i d) ++ found_from (i + 1) xs ys
  next_pair i d xs ys one other =
      (λ j. between_from f (i + 1) (rest xs one j) (rest ys other j))
    where
      rest : (zs : List A) → i < length zs → drop i zs ≡ get_or zs i d ∷ drop (i + 1) zs
      rest zs within = drop-cons zs i d within ∙ ap (λ k. get_or zs i d ∷ drop k zs) (sym (add-one i))

  -- one more pair
  pub pair_found : (i : ℕ) (d x y : A) (xs ys : List A) (found more so : List Happening) → i < length xs → i < length ys
      → x ≡ get_or xs i d → y ≡ get_or ys i d → more ≡ found ++ f (i + 1) x y
      → found ++ found_from i xs ys ≡ so → more ++ found_from (i + 1) xs ys ≡ so
  pair_found i d x y xs ys found more so one other x_is y_is more_is is =
      ap (λ es. es ++ found_from (i + 1) xs ys) more_is
      ∙ append_assoc found (f (i + 1) x y) (found_from (i + 1) xs ys)
      ∙ (λ j. found ++ (f (i + 1) (x_is j) (y_is j) ++ found_from (i + 1) xs ys))
      ∙ ap (λ es. found ++ es) (sym (next_pair i d xs ys one other))
      ∙ is

  -- past the end of one
  first_through : (i : ℕ) (xs ys : List A) → length xs ≤ i → found_from i xs ys ≡ []
  first_through i xs ys end = ap (λ zs. between_from f (i + 1) zs (drop i ys)) (drop_all i xs end)

  other_through : (i : ℕ) (xs ys : List A) → length ys ≤ i → found_from i xs ys ≡ []
  other_through i xs ys end = ap (between_from f (i + 1) (drop i xs)) (drop_all i ys end) ∙ against_none (i + 1) (drop i xs)
    where
      against_none : (n : ℕ) (zs : List A) → between_from f n zs [] ≡ []
      against_none n [] = refl
      against_none n (z ∷ zs) = refl

  pub all_found : (i : ℕ) (xs ys : List A) (found so : List Happening) → (i < length xs → i < length ys → ⊥)
      → found ++ found_from i xs ys ≡ so → found ≡ so
  all_found i xs ys found so end is = sym (append-nil found) ∙ ap (λ es. found ++ es) (sym nothing) ∙ is
    where
      nothing : found_from i xs ys ≡ []
      nothing = elim (cases_lt i (length xs)) [
        | inl less ↦ elim (cases_lt i (length ys)) [
          | inl fewer ↦ absurd (end less fewer)
          | inr past ↦ other_through i xs ys past
        ]
        | inr past ↦ first_through i xs ys past
      ]
