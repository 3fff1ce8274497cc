-- Places that change one after another.
use Rattle.std.proofs.Common.{◌≡◌, ◌∙◌, ℕ, zero, suc, ◌+◌, ◌<◌, List, [], ◌∷◌, ◌++◌, drop, length, map, set, take, get_or, refl, ap}
use Rattle.std.proofs.Common.{subst, arith}

module _ {T : Type 0} (f : T → T) where
  next_changed : (n : ℕ) (xs : List T) (d : T) → n < length xs
      → set (map f (take n xs) ++ drop n xs) n (f (get_or (map f (take n xs) ++ drop n xs) n d))
      ≡ map f (take (suc n) xs) ++ drop (suc n) xs
  next_changed n [] d few = absurd (omega (arith, few))
  next_changed zero (x ∷ xs) d few = refl
  next_changed (suc n) (x ∷ xs) d few = ap (λ l. f x ∷ l) (next_changed n xs d (omega (arith, few)))

  pub one_more : (n : ℕ) (xs now : List T) (d : T) → n < length xs → now ≡ map f (take n xs) ++ drop n xs
      → set now n (f (get_or now n d)) ≡ map f (take (n + 1) xs) ++ drop (n + 1) xs
  one_more n xs now d few is =
      let next : suc n ≡ n + 1 = omega arith in
      ap (λ l. set l n (f (get_or l n d))) is
      ∙ subst (λ k. set (map f (take n xs) ++ drop n xs) n (f (get_or (map f (take n xs) ++ drop n xs) n d))
      ≡ map f (take k xs) ++ drop k xs) next (next_changed n xs d few)
