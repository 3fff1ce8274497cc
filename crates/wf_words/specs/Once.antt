-- Numbers of which each stands once in a list.
use Rattle.std.proofs.Common.{◌≡◌, ℕ, Bool, true, false, not, cond, ◌==◌, ◌||◌, List, [], ◌∷◌, filter, refl, ap, ◌∙◌, arith}
use Rattle.std.proofs.lemmas.Bool.{eqb-true}
use Rattle.std.proofs.lemmas.Bool.Decides.{nat_tests}
use Rattle.wf_words.specs.Keyed.{is_in, once}

-- a case on whether two numbers are one
pub by_number : (P : Type 0) (k n : ℕ) → ((k == n) ≡ true → k ≡ n → P) → ((k == n) ≡ false → P) → P
by_number P k n one other = elim (k == n) as (λ b. (k == n) ≡ b → P) [ true ↦ λ is. one is (eqb-true k n is) | false ↦ λ is. other is ] refl

-- a number is in a list without another exactly where it is in the list
pub is_in-without : (n x : ℕ) (ns : List ℕ) → (x == n) ≡ false → is_in n (filter (λ y. not (y == x)) ns) ≡ is_in n ns
is_in-without n x [] apart = refl
is_in-without n x (y ∷ ns) apart =
    by_number (is_in n (cond (not (y == x)) (y ∷ filter (λ z. not (z == x)) ns) (filter (λ z. not (z == x)) ns)) ≡ ((y == n) || is_in n ns))
    y x
    (λ here same. rw here (is_in-without n x ns apart ∙ (let no : (y == n) ≡ false = rw same apart in rw no refl)))
    (λ other. rw other (ap (λ (b : Bool). (y == n) || b) (is_in-without n x ns apart)))

-- each number stands once
abbrev pub NoneTwice : List ℕ → Type 0
NoneTwice [] = Unit {0}
NoneTwice (n ∷ ns) = (is_in n ns ≡ false) × NoneTwice ns

pub without_itself : (x : ℕ) (ns : List ℕ) → is_in x (filter (λ y. not (y == x)) ns) ≡ false
without_itself x [] = refl
without_itself x (y ∷ ns) =
    elim (y == x) as (λ b. (y == x) ≡ b → is_in x (cond (not b) (y ∷ filter (λ z. not (z == x)) ns) (filter (λ z. not (z == x)) ns))
    ≡ false) [
      | true ↦ λ here. without_itself x ns
      | false ↦ λ apart. rw apart (without_itself x ns)
    ] refl

pub none_without : (x : ℕ) (ns : List ℕ) → NoneTwice ns → NoneTwice (filter (λ y. not (y == x)) ns)
none_without x [] none = tt
none_without x (y ∷ ns) none =
    elim (y == x) as (λ b. (y == x) ≡ b → NoneTwice (cond (not b) (y ∷ filter (λ z. not (z == x)) ns) (filter (λ z. not (z == x)) ns))) [
      | true ↦ λ here. none_without x ns none.1
      | false ↦ λ apart. (let other : (x == y) ≡ false = grind (arith, nat_tests, apart) in
          (is_in-without y x ns other ∙ none.0, none_without x ns none.1))
    ] refl

pub once_none_twice : (ns : List ℕ) → NoneTwice (once ns)
once_none_twice [] = tt
once_none_twice (x ∷ ns) = (without_itself x (once ns), none_without x (once ns) (once_none_twice ns))
