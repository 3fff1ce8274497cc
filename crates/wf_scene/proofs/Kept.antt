-- What stays true of an order: no handle stands in it twice, each of its handles passes a test, and it has room.
use Rattle.std.proofs.Common.{◌≡◌, ℕ, suc, ◌<◌, ◌≤◌, Bool, true, false, not, cond, ◌==◌, List, [], ◌∷◌, ◌++◌, length, refl, arith}
use Rattle.std.specs.Prelude.{flat_map, nat_le}
use Rattle.std.specs.List.{list_all}
use Rattle.std.proofs.lemmas.Bool.{eqb-true, leb-false, or_parts, or_from}
use Rattle.std.proofs.lemmas.Bool.Decides.{nat_tests}
use Rattle.wf_words.specs.Keyed.{is_in}
use Rattle.wf_scene.specs.Order.{AreApart, without, with_next, put_above, inserted, has_no_room}
use Rattle.wf_scene.proofs.Once.{none_followed}
use Rattle.wf_scene.specs.declared.TheConstants.{MOST_INSERTED}

-- a handle that is not in an order is not in it without another
pub absent_less : (z h : ℕ) (xs : List ℕ) → is_in z xs ≡ false → is_in z (without h xs) ≡ false
absent_less z h [] absent = refl
absent_less z h (x ∷ xs) absent =
    let later = absent_less z h xs in
    grind (arith, nat_tests, later, absent)

-- a handle is not in the order without it
pub absent_out : (h : ℕ) (xs : List ℕ) → is_in h (without h xs) ≡ false
absent_out h [] = refl
absent_out h (x ∷ xs) =
    let later = absent_out h xs in
    grind (arith, nat_tests, later)

-- another handle that is there stays there when one is taken out
pub in_less : (z h : ℕ) (xs : List ℕ) → (z == h) ≡ false → is_in z xs ≡ true → is_in z (without h xs) ≡ true
in_less z h [] other there = cc
in_less z h (x ∷ xs) other there = let later = in_less z h xs in grind (arith, nat_tests, later, other, there)

pub apart_without : (h : ℕ) (xs : List ℕ) → AreApart xs → AreApart (without h xs)
apart_without h [] apart = tt
apart_without h (x ∷ xs) apart = go (x == h) (apart_without h xs apart.1)
  where
    go : (b : Bool) → AreApart (without h xs) → AreApart (cond (not b) (x ∷ without h xs) (without h xs))
    go true later = later
    go false later = (absent_less x h xs apart.0, later)

-- a handle that is put into an order is the only one more
pub absent_put : (z b h : ℕ) (xs : List ℕ) → is_in z xs ≡ false → (h == z) ≡ false → is_in z (flat_map (with_next b h) xs) ≡ false
absent_put z b h [] absent other = refl
absent_put z b h (x ∷ xs) absent other =
    let later = absent_put z b h xs in
    grind (arith, nat_tests, later, absent, other)

apart_next : (b h : ℕ) (xs : List ℕ) → AreApart xs → is_in h xs ≡ false → AreApart (flat_map (with_next b h) xs)
apart_next b h [] apart absent = tt
apart_next b h (x ∷ xs) apart absent = go (apart_next b h xs apart.1 parts.1) (x == b) refl
  where
    parts : ((x == h) ≡ false) × (is_in h xs ≡ false)
    parts = or_parts (x == h) (is_in h xs) absent

    other : (h == x) ≡ false
    other = grind (arith, nat_tests, absent)

    go : AreApart (flat_map (with_next b h) xs) → (c : Bool) → (x == b) ≡ c
        → AreApart (cond c (x ∷ h ∷ []) (x ∷ []) ++ flat_map (with_next b h) xs)
    go later true e =
        let none : is_in b xs ≡ false = rw (← eqb-true x b e) apart.0 in
        rw (none_followed (λ z. z == b) h xs none) (or_from (h == x) (is_in x xs) other apart.0, (parts.1, apart.1))
    go later false e = (absent_put x b h xs apart.0 other, later)

apart_put : (b h : ℕ) (xs : List ℕ) → AreApart xs → is_in h xs ≡ false → AreApart (put_above b h xs)
apart_put b h xs apart absent = go (b == 0)
  where
    go : (c : Bool) → AreApart (cond c (h ∷ xs) (flat_map (with_next b h) xs))
    go true = (absent, apart)
    go false = apart_next b h xs apart absent

-- no handle stands twice after one was put or moved
pub apart_inserted : (h b : ℕ) (xs : List ℕ) → AreApart xs → AreApart (inserted h b xs)
apart_inserted h b xs apart = go (h == b)
  where
    go : (c : Bool) → AreApart (cond c xs (put_above b h (without h xs)))
    go true = apart
    go false = apart_put b h (without h xs) (apart_without h xs apart) (absent_out h xs)

module _ (q : ℕ → Bool) where
  -- a test that each handle passes
  pub all_without : (h : ℕ) (xs : List ℕ) → list_all q xs ≡ true → list_all q (without h xs) ≡ true
  all_without h [] all = refl
  all_without h (x ∷ xs) all = let later = all_without h xs in grind (arith, nat_tests, later, all)

  all_next : (b h : ℕ) (xs : List ℕ) → q h ≡ true → list_all q xs ≡ true → list_all q (flat_map (with_next b h) xs) ≡ true
  all_next b h [] one all = refl
  all_next b h (x ∷ xs) one all = let later = all_next b h xs one in grind (arith, nat_tests, later, one, all)

  -- is passed by each after one that passes it was put or moved
  pub all_inserted : (h b : ℕ) (xs : List ℕ) → q h ≡ true → list_all q xs ≡ true → list_all q (inserted h b xs) ≡ true
  all_inserted h b xs one all = go (h == b) (b == 0)
    where
      rest : list_all q (without h xs) ≡ true
      rest = all_without h xs all

      go : (c z : Bool) → list_all q (cond c xs (cond z (h ∷ without h xs) (flat_map (with_next b h) (without h xs)))) ≡ true
      go true z = all
      go false true = rw one rest
      go false false = all_next b h (without h xs) one rest

pub length_without : (h : ℕ) (xs : List ℕ) → length (without h xs) ≤ length xs
length_without h [] = omega arith
length_without h (x ∷ xs) = let later = length_without h xs in grind (arith, nat_tests, later)

-- the order without one of its handles is shorter
shorter : (h : ℕ) (xs : List ℕ) → is_in h xs ≡ true → length (without h xs) < length xs
shorter h [] there = cc
shorter h (x ∷ xs) there =
    let later = shorter h xs in
    let rest = length_without h xs in
    grind (arith, nat_tests, later, rest, there)

-- an order that has room for a handle has it without the handle too
pub room_without : (h : ℕ) (xs : List ℕ) → length xs ≤ MOST_INSERTED → has_no_room h xs ≡ false → length (without h xs) < MOST_INSERTED
room_without h xs few room = go (is_in h xs) refl
  where
    go : (b : Bool) → is_in h xs ≡ b → length (without h xs) < MOST_INSERTED
    go true e = omega (arith, shorter h xs e)
    go false e =
        let free : nat_le MOST_INSERTED (length xs) ≡ false = grind (arith, nat_tests, e, room) in
        omega (arith, length_without h xs, leb-false MOST_INSERTED (length xs) free)

-- a handle that is put directly above another makes an order one longer
length_next : (b h : ℕ) (xs : List ℕ) → AreApart xs → length (flat_map (with_next b h) xs) ≤ suc (length xs)
length_next b h [] apart = omega arith
length_next b h (x ∷ xs) apart = go (length_next b h xs apart.1) (x == b) refl
  where
    go : length (flat_map (with_next b h) xs) ≤ suc (length xs) → (c : Bool) → (x == b) ≡ c
        → length (cond c (x ∷ h ∷ []) (x ∷ []) ++ flat_map (with_next b h) xs) ≤ suc (suc (length xs))
    go later true e =
        let none : is_in b xs ≡ false = rw (← eqb-true x b e) apart.0 in
        rw (none_followed (λ z. z == b) h xs none) (omega arith)
    go later false e = omega arith

-- an order that has room for a handle has at most as many as may be inserted with it
pub length_inserted : (h b : ℕ) (xs : List ℕ) → AreApart xs → length xs ≤ MOST_INSERTED → has_no_room h xs ≡ false
    → length (inserted h b xs) ≤ MOST_INSERTED
length_inserted h b xs apart few room = go (h == b) (b == 0)
  where
    rest : length (without h xs) < MOST_INSERTED
    rest = room_without h xs few room

    go : (c z : Bool) → length (cond c xs (cond z (h ∷ without h xs) (flat_map (with_next b h) (without h xs)))) ≤ MOST_INSERTED
    go true z = few
    go false true = rest
    go false false = omega (arith, rest, length_next b h (without h xs) (apart_without h xs apart))
