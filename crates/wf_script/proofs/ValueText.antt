-- The words of numbers that an attribute is set to.
use Rattle.std.proofs.Common.{◌≡◌, ℤ, List, [], ◌∷◌, map, refl, ap}
use Rattle.wf_script.specs.Fields.{number, written}
use Rattle.wf_script.specs.Spelled.{integer_word}
use Rattle.wf_script.specs.Words.{Word}

pub numbers_written : (xs : List ℤ) → written (map (λ x. number x) xs) ≡ map integer_word xs
numbers_written [] = refl
numbers_written (x ∷ xs) = ap (λ (ws : List Word). integer_word x ∷ ws) (numbers_written xs)
