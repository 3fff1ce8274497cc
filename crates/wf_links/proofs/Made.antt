-- The links of nodes that are in no list.
use Rattle.std.proofs.Common.{◌≡◌, ℕ, zero, suc, List, [], ◌∷◌, map, replicate, Option, Some, None, refl, sym, ap, ◌∙◌}
use Rattle.wf_links.specs.Lists.{list_at, lowest}
use Rattle.wf_links.specs.Inside.{Represent, list_link, free}

list_made : (lists i : ℕ) → list_at i (replicate lists []) ≡ []
list_made zero i = refl
list_made (suc lists) zero = refl
list_made (suc lists) (suc i) = list_made lists i

lowest_made : (lists : ℕ) → replicate lists None ≡ map lowest (replicate lists [])
lowest_made zero = refl
lowest_made (suc lists) = ap (λ (os : List (Option ℕ)). None ∷ os) (lowest_made lists)

link_made : (nodes n : ℕ) → list_link (replicate nodes free) n ≡ None
link_made zero n = refl
link_made (suc nodes) zero = refl
link_made (suc nodes) (suc n) = link_made nodes n

-- they stand for lists that are all empty
pub made_stands : (nodes lists : ℕ) → Represent (replicate nodes free) (replicate lists None) (replicate lists [])
made_stands nodes lists =
    record {
      lowest = lowest_made lists;
      chained = λ i. rw (list_made lists i) tt;
      once = λ i. rw (list_made lists i) tt;
      listed = λ i n is. (let none : None ≡ Some i = sym (link_made nodes n) ∙ is in absurd cc);
    }
