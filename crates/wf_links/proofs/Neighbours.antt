-- What stands next to a node, in a list and in the same list from the top down.
use Rattle.std.proofs.Common.{◌≡◌, ℕ, true, false, ◌==◌, List, [], ◌∷◌, ◌++◌, reverse, Option, Some, None, refl, ap, ◌∙◌}
use Rattle.std.proofs.lemmas.Bool.{eq-eqb, or_parts}
use Rattle.std.proofs.lemmas.List.{append_assoc, reverse-append}
use Rattle.wf_words.specs.Keyed.{is_in}
use Rattle.wf_links.specs.Lists.{lowest, next_after}
use Rattle.wf_links.specs.Inside.{first_or}
use Rattle.wf_links.specs.Together.{is_in-reverse}
use Rattle.wf_links.proofs.Chains.{last_or}

pub lowest_is : (xs : List ℕ) → lowest xs ≡ first_or None xs
lowest_is [] = refl
lowest_is (x ∷ xs) = refl

pub first_or-append : (over : Option ℕ) (xs : List ℕ) (y : ℕ) (ys : List ℕ) → first_or over (xs ++ y ∷ ys) ≡ first_or (Some y) xs
first_or-append over [] y ys = refl
first_or-append over (x ∷ xs) y ys = refl

-- a list turned round is what was behind a node turned round, the node, and what was in front of it turned round
pub reverse_split : (n : ℕ) (ys zs : List ℕ) → reverse (ys ++ n ∷ zs) ≡ reverse zs ++ n ∷ reverse ys
reverse_split n ys zs =
    reverse-append ys (n ∷ zs) ∙ ap (λ ns. ns ++ reverse ys) (reverse-append (n ∷ []) zs) ∙ append_assoc (reverse zs) (n ∷ []) (reverse ys)

-- the first of a list turned round is its last
pub first_or-reverse : (under : Option ℕ) (xs : List ℕ) → first_or under (reverse xs) ≡ last_or under xs
first_or-reverse under [] = refl
first_or-reverse under (x ∷ xs) =
    ap (first_or under) (reverse-append (x ∷ []) xs) ∙ first_or-append under (reverse xs) x [] ∙ first_or-reverse (Some x) xs

pub next_at : (n : ℕ) (ys zs : List ℕ) → is_in n ys ≡ false → next_after n (ys ++ n ∷ zs) ≡ first_or None zs
next_at n [] zs absent = let here : (n == n) ≡ true = eq-eqb n n refl in rw here (lowest_is zs)
next_at n (y ∷ ys) zs absent = let parts = or_parts (y == n) (is_in n ys) absent in rw parts.0 (next_at n ys zs parts.1)

pub next_down_at : (n : ℕ) (ys zs : List ℕ) → is_in n zs ≡ false → next_after n (reverse (ys ++ n ∷ zs)) ≡ last_or None ys
next_down_at n ys zs absent =
    ap (next_after n) (reverse_split n ys zs) ∙ next_at n (reverse zs) (reverse ys) (is_in-reverse n zs ∙ absent) ∙ first_or-reverse None ys
