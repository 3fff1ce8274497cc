-- An element of a list, by whatever stands where there is none.
use Rattle.std.proofs.Common.{◌≡◌, ◌∙◌, ℕ, zero, suc, ◌<◌, List, [], ◌∷◌, get_or, length, refl, ap, arith}

module _ {T : Type 0} where
  pub any_other : (xs : List T) (i : ℕ) (a b : T) → i < length xs → get_or xs i a ≡ get_or xs i b
  any_other [] i a b few = absurd (omega (arith, few))
  any_other (x ∷ xs) zero a b few = refl
  any_other (x ∷ xs) (suc i) a b few = any_other xs i a b (omega (arith, few))

  -- the element at a place, by another name of the place
  pub same_element : (xs : List T) (i n : ℕ) (a b : T) → i ≡ n → n < length xs → get_or xs i a ≡ get_or xs n b
  same_element xs i n a b same few = ap (λ k. get_or xs k a) same ∙ any_other xs n a b few
