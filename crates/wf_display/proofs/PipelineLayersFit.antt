-- One more pipeline among those whose layers a port shows.
use Rattle.std.proofs.Common.{◌≡◌, ◌∙◌, ◌<◌, ℕ, zero, suc, ◌+◌, List, [], ◌∷◌, ◌++◌, get_or, length, take, Option, Some, None, refl, ap}
use Rattle.std.proofs.Common.{arith}
use Rattle.std.specs.List.{cons_option}
use Rattle.std.specs.Prelude.{filter_map, option_to_list}

cons_kept : {B : Type 0} (o : Option B) (xs ys zs : List B) → xs ≡ ys ++ zs → cons_option o xs ≡ cons_option o ys ++ zs
cons_kept None xs ys zs is = is
cons_kept (Some y) xs ys zs is = ap (λ ws. y ∷ ws) is

alone : {B : Type 0} (o : Option B) → cons_option o [] ≡ option_to_list o
alone None = refl
alone (Some y) = refl

-- what a function gives of one element more
pub given_more : {A B : Type 0} (f : A → Option B) (xs : List A) (i : ℕ) (d : A) → i < length xs
    → filter_map f (take (i + 1) xs) ≡ filter_map f (take i xs) ++ option_to_list (f (get_or xs i d))
given_more f xs i d less = (let next : i + 1 ≡ suc i = omega arith in ap (λ n. filter_map f (take n xs)) next ∙ at xs i less)
  where
    at : (ys : List _) (j : ℕ) → j < length ys
        → filter_map f (take (suc j) ys) ≡ filter_map f (take j ys) ++ option_to_list (f (get_or ys j d))
    at [] j less = absurd (omega (arith, less))
    at (y ∷ ys) zero less = alone (f y)
    at (y ∷ ys) (suc j) less =
        cons_kept (f y) (filter_map f (take (suc j) ys)) (filter_map f (take j ys)) (option_to_list (f (get_or ys j d)))
        (at ys j (omega (arith, less)))
