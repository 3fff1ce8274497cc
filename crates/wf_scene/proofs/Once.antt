-- Lists in which one element at most passes a test: that element taken out, and where it stands.
use Rattle.std.proofs.Common.{◌≡◌, ℕ, ◌<◌, ◌≤◌, Bool, true, false, not, cond, ◌==◌, ◌||◌, List, [], ◌∷◌, map, length}
use Rattle.std.proofs.Common.{refl, sym, ap, ◌∙◌, arith, Some, None}
use Rattle.std.specs.Prelude.{remove, filter, flat_map, position, nat_lt}
use Rattle.std.specs.Bool.{MatchBool}
use Rattle.std.specs.List.{list_any, position_or_len}
use Rattle.std.proofs.Math.Numerals.{one-add}
use Rattle.std.proofs.lemmas.Bool.{eqb-true, le-ltb, ltb-true, ltb-false, or_parts}
use Rattle.wf_words.specs.Keyed.{is_in}
use Rattle.wf_scene.specs.Order.{AreApart}

-- a number and a test that are told together
told : (b : Bool) (n i : ℕ) → cond b (Some n) None ≡ Some i → (b ≡ true) × (n ≡ i)
told true n i e = (refl, cc)
told false n i e = cc

told_none : (b : Bool) (n : ℕ) → cond b (Some n) None ≡ None → b ≡ false
told_none true n e = cc
told_none false n e = refl

module _ {X : Type 0} (p : X → Bool) where
  -- none passes after one that does
  abbrev pub OnceAtMost : List X → Type 0
  OnceAtMost [] = Unit {0}
  OnceAtMost (x ∷ xs) = MatchBool (p x) (list_any p xs ≡ false) (OnceAtMost xs)

  -- the place of the first that passes
  abbrev pub first : List X → ℕ
  first xs = position_or_len p xs

  -- where none passes, none is taken out
  pub none_out : (xs : List X) → list_any p xs ≡ false → filter (λ x. not (p x)) xs ≡ xs
  none_out [] none = refl
  none_out (x ∷ xs) none = let later = none_out xs in grind (arith, later, none)

  -- nor followed by another
  pub none_followed : (y : X) (xs : List X) → list_any p xs ≡ false → flat_map (λ x. cond (p x) (x ∷ y ∷ []) (x ∷ [])) xs ≡ xs
  none_followed y [] none = refl
  none_followed y (x ∷ xs) none = let later = none_followed y xs in grind (arith, later, none)

  -- where the first place is the length, none passes
  pub none_first : (xs : List X) → length xs ≤ first xs → list_any p xs ≡ false
  none_first [] end = refl
  none_first (x ∷ xs) end = let later = none_first xs in grind (arith, later, end)

  -- the list without the one that passes
  pub first_out : (xs : List X) → OnceAtMost xs → first xs < length xs → remove xs (first xs) ≡ filter (λ x. not (p x)) xs
  first_out [] once there = absurd (omega arith)
  first_out (x ∷ xs) once there = go (first_out xs) (p x) refl
    where
      go : (OnceAtMost xs → first xs < length xs → remove xs (first xs) ≡ filter (λ z. not (p z)) xs) → (b : Bool) → p x ≡ b
          → remove (x ∷ xs) (first (x ∷ xs)) ≡ filter (λ z. not (p z)) (x ∷ xs)
      go later true e = rw e (sym (none_out xs (rw e at once)))
      go later false e =
          let within : first xs < length xs = let all = rw e at there in omega (arith, all) in
          rw (e, one-add) (ap (λ zs. x ∷ zs) (later (rw e at once) within))

  -- the place of the first that passes, where one does
  pub placed : (xs : List X) (i : ℕ) → position p xs ≡ Some i → (first xs ≡ i) × (i < length xs)
  placed xs i e =
      let parts = told (nat_lt (first xs) (length xs)) (first xs) i e in
      let within = ltb-true (first xs) (length xs) parts.0 in
      (parts.1, omega (arith, parts.1, within))

  -- where there is no place, none passes
  pub placed_nowhere : (xs : List X) → position p xs ≡ None → list_any p xs ≡ false
  placed_nowhere xs e =
      none_first xs (ltb-false (first xs) (length xs) (told_none (nat_lt (first xs) (length xs)) (first xs) e))

  -- where none passes, there is no place
  pub nowhere : (xs : List X) → list_any p xs ≡ false → position p xs ≡ None
  nowhere xs none =
      let past : nat_lt (first xs) (length xs) ≡ false = le-ltb (first xs) (length xs) (omega (arith, at_end xs none)) in
      rw past refl
    where
      at_end : (ys : List X) → list_any p ys ≡ false → first ys ≡ length ys
      at_end [] out = refl
      at_end (y ∷ ys) out =
          let parts = or_parts (p y) (list_any p ys) out in
          rw (parts.0, at_end ys parts.1, one-add) refl

module _ {X : Type 0} (key : X → ℕ) (n : ℕ) where
  -- a number is among the keys where an element has it
  pub any_key : (xs : List X) → is_in n (map key xs) ≡ list_any (λ x. key x == n) xs
  any_key [] = refl
  any_key (x ∷ xs) = ap (λ b. (key x == n) || b) (any_key xs)

  -- keys that are apart: one element at most has a number
  pub once_by_key : (xs : List X) → AreApart (map key xs) → OnceAtMost (λ x. key x == n) xs
  once_by_key [] apart = tt
  once_by_key (x ∷ xs) apart = go (once_by_key xs apart.1) (key x == n) refl
    where
      go : OnceAtMost (λ z. key z == n) xs → (b : Bool) → (key x == n) ≡ b → OnceAtMost (λ z. key z == n) (x ∷ xs)
      go later true e = rw e (sym (any_key xs) ∙ (rw (eqb-true (key x) n e) at apart.0))
      go later false e = rw e later
