-- Numbers that stand in a list.
use Rattle.std.proofs.Common.{◌≡◌, ℕ, ◌==◌, List, [], ◌∷◌, Bool, true, false, subst, refl, IsTrue}
use Rattle.std.specs.Prelude.{All}
use Rattle.std.specs.List.{list_any}
use Rattle.std.proofs.lemmas.Bool.{eqb-true}
use Rattle.std.proofs.lemmas.List.Elements.{All-head, All-tail}

-- what holds of each number holds of one that stands among them
pub of_listed : (P : ℕ → Type 0) (ns : List ℕ) (n : ℕ) → All P ns → IsTrue (list_any (λ m. m == n) ns) → P n
of_listed P [] n all listed = absurd cc
of_listed P (m ∷ ns) n all listed = by (of_listed P ns n (All-tail P m ns all)) (m == n) refl
  where
    by : (IsTrue (list_any (λ m. m == n) ns) → P n) → (b : Bool) → (m == n) ≡ b → P n
    by later true same = subst P (eqb-true m n same) (All-head P m ns all)
    by later false other = later (rw other at listed)
