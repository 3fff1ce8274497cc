-- Handles in a list: where one stands, how many there are that are not 0, and one that is written.
use Rattle.std.proofs.Common.{◌≡◌, ◌≢◌, ℕ, zero, suc, ◌+◌, ◌<◌, true, false, not, cond, ◌==◌, ◌||◌, List, [], ◌∷◌, length, set}
use Rattle.std.proofs.Common.{slice_get, position, find, option_and_then, is_some, Option, Some, None, refl, sym, ap, ◌∙◌, inl, inr, arith}
use Rattle.std.proofs.Common.{get_or-set_same, get_or-set_other, length-set, zero-add}
use Rattle.std.specs.Prelude.{slice_index}
use Rattle.std.proofs.lemmas.Bool.{eq-eqb, eqb-true, ne_eqb, both_ways, cases_eq, cases_lt, or_left, or_right, false_from_ne_true}
use Rattle.std.proofs.lemmas.List.{get_or_past}
use Rattle.std.proofs.lemmas.List.Folds.{position_or_len-set}
use Rattle.std.proofs.lemmas.List.Quantifiers.{position-Some}
use Rattle.std.proofs.lemmas.List.Sums.{sum_by-cons, sum_by-set}
use Rattle.wf_words.specs.Found.{any_found, get_position}
use Rattle.wf_words.specs.Keyed.{is_in}
use Rattle.wf_words.specs.Once.{by_number}
use Rattle.wf_members.specs.Membership.{count_named}
use Rattle.wf_members.specs.Inside.{AreApart}

-- where a handle stands
pub record StandsAt (h : ℕ) (hs : List ℕ) (i : ℕ) : Type 0 where
  pub within : i < length hs
  pub is : slice_index hs i ≡ h

pub placed : (h : ℕ) (hs : List ℕ) (i : ℕ) → position (λ x. x == h) hs ≡ Some i → StandsAt h hs i
placed h hs i at =
    let stands = position-Some (λ x. x == h) hs i 0 at in
    record { within = stands.0; is = eqb-true (slice_index hs i) h stands.1 }

-- what stands in a list is in it, and the other way round

pub in_at : (h : ℕ) (hs : List ℕ) (i : ℕ) → StandsAt h hs i → is_in h hs ≡ true
in_at h [] i at = absurd (omega (arith, at.within))
in_at h (x ∷ hs) zero at = or_left (x == h) (is_in h hs) (eq-eqb x h at.is)
in_at h (x ∷ hs) (suc i) at =
    or_right (x == h) (is_in h hs) (in_at h hs i (record { within = omega (arith, at.within); is = at.is }))

pub at_in : (h : ℕ) (hs : List ℕ) → is_in h hs ≡ true → (i : ℕ) × StandsAt h hs i
at_in h [] there = absurd cc
at_in h (x ∷ hs) there =
    by_number ((i : ℕ) × StandsAt h (x ∷ hs) i) x h
    (λ is same. (0, record { within = omega arith; is = same }))
    (λ other. (let later = at_in h hs (rw other at there) in
    (suc later.0, record { within = omega (arith, later.1.within); is = later.1.is })))

-- a handle that stands in a list is found
pub some_place : (h : ℕ) (hs : List ℕ) → is_in h hs ≡ true → (i : ℕ) × (position (λ x. x == h) hs ≡ Some i)
some_place h hs there = go (position (λ x. x == h) hs) refl
  where
    go : (o : Option ℕ) → position (λ x. x == h) hs ≡ o → (i : ℕ) × (position (λ x. x == h) hs ≡ Some i)
    go (Some i) at = (i, at)
    go None at =
        let none : None ≡ find (λ x. x == h) hs =
        ap (option_and_then (slice_get hs)) (sym at) ∙ get_position (λ x. x == h) hs in
        absurd (both_ways (is_in h hs) (any_found (λ x. x == h) hs ∙ ap is_some (sym none)) there)

-- whether it is in a list is whether it is found
pub in_by_place : (h : ℕ) (hs : List ℕ) → is_in h hs ≡ is_some (position (λ x. x == h) hs)
in_by_place h hs = go (position (λ x. x == h) hs) refl
  where
    go : (o : Option ℕ) → position (λ x. x == h) hs ≡ o → is_in h hs ≡ is_some o
    go (Some i) at = in_at h hs i (placed h hs i at)
    go None at =
        false_from_ne_true (is_in h hs) (λ there. (let found = some_place h hs there in
        let both : None ≡ Some found.0 = sym at ∙ found.1 in absurd cc))

-- what is not 0 stands within the list
pub named_within : (hs : List ℕ) (i : ℕ) → slice_index hs i ≢ 0 → i < length hs
named_within hs i named = elim (cases_lt i (length hs)) [ inl less ↦ less | inr past ↦ absurd (named (get_or_past hs i 0 past)) ]

-- where no handle stands twice, it stands where it is found
pub only_place : (h : ℕ) (hs : List ℕ) (i : ℕ) → AreApart hs → h ≢ 0 → StandsAt h hs i → position (λ x. x == h) hs ≡ Some i
only_place h hs i apart named at =
    let found = some_place h hs (in_at h hs i at) in
    let there = placed h hs found.0 found.1 in
    let same : found.0 ≡ i = apart found.0 i (λ none. named (sym there.is ∙ none)) (there.is ∙ sym at.is) in
    rw same at found.1

-- a handle that is written at a place

module _ (hs : List ℕ) (i x : ℕ) (within : i < length hs) where
  pub written : (j : ℕ) → j ≡ i → slice_index (set hs i x) j ≡ x
  written j same = rw same (get_or-set_same hs i x 0 within)

  pub unwritten : (j : ℕ) → j ≢ i → slice_index (set hs i x) j ≡ slice_index hs j
  unwritten j other = get_or-set_other hs i j x 0 other

  -- handles stay apart where it is new, or 0
  pub still_apart : AreApart hs → ((j : ℕ) → x ≢ 0 → slice_index hs j ≡ x → ⊥) → AreApart (set hs i x)
  still_apart apart fresh a b named same =
      elim (cases_eq a i) [
        | inl at_a ↦ elim (cases_eq b i) [
          | inl at_b ↦ at_a ∙ sym at_b
          | inr off_b ↦ absurd (fresh b (λ none. named (written a at_a ∙ none)) (sym (unwritten b off_b) ∙ sym same ∙ written a at_a))
        ]
        | inr off_a ↦ elim (cases_eq b i) [
          | inl at_b ↦ absurd (fresh a (λ none. named (same ∙ written b at_b ∙ none)) (sym (unwritten a off_a) ∙ same ∙ written b at_b))
          | inr off_b ↦ apart a b (λ none. named (unwritten a off_a ∙ none)) (sym (unwritten a off_a) ∙ same ∙ unwritten b off_b)
        ]
      ]

  counted : count_named (set hs i x) + cond (not (slice_index hs i == 0)) 1 0 ≡ count_named hs + cond (not (x == 0)) 1 0
  counted = sum_by-set (λ y. cond (not (y == 0)) 1 0) hs i x 0 within

  pub one_more : slice_index hs i ≡ 0 → x ≢ 0 → count_named (set hs i x) ≡ count_named hs + 1
  one_more was named =
      let old : (slice_index hs i == 0) ≡ true = eq-eqb (slice_index hs i) 0 was in
      let new : (x == 0) ≡ false = ne_eqb x 0 named in
      omega (arith, rw (old, new) at counted)

  pub one_less : slice_index hs i ≢ 0 → x ≡ 0 → count_named (set hs i x) + 1 ≡ count_named hs
  one_less was none =
      let old : (slice_index hs i == 0) ≡ false = ne_eqb (slice_index hs i) 0 was in
      let new : (x == 0) ≡ true = eq-eqb x 0 none in
      omega (arith, rw (old, new) at counted)

  pub in_written : is_in x (set hs i x) ≡ true
  in_written = in_at x (set hs i x) i (record { within = omega (arith, length-set hs i x); is = written i refl })

  -- what was there is there no more
  pub in_gone : (h : ℕ) → AreApart hs → h ≢ 0 → slice_index hs i ≡ h → x ≡ 0 → is_in h (set hs i x) ≡ false
  in_gone h apart named was gone =
      false_from_ne_true (is_in h (set hs i x)) (λ there. (let found = at_in h (set hs i x) there in
      elim (cases_eq found.0 i) [
        | inl same ↦ named (sym found.1.is ∙ written found.0 same ∙ gone)
        | inr other ↦ (let at = sym (unwritten found.0 other) ∙ found.1.is in
            other (apart found.0 i (λ none. named (sym at ∙ none)) (at ∙ sym was)))
      ]))

-- others are where they were

pub in_kept : (h : ℕ) (hs : List ℕ) (i x : ℕ) → x ≢ h → slice_index hs i ≢ h → is_in h (set hs i x) ≡ is_in h hs
in_kept h [] i x new old = refl
in_kept h (y ∷ hs) zero x new old = rw (ne_eqb x h new, ne_eqb y h old) refl
in_kept h (y ∷ hs) (suc i) x new old = ap (λ b. (y == h) || b) (in_kept h hs i x new old)

pub place_kept : (h : ℕ) (hs : List ℕ) (i x : ℕ) → x ≢ h → slice_index hs i ≢ h
    → position (λ y. y == h) (set hs i x) ≡ position (λ y. y == h) hs
place_kept h hs i x new old =
    let first = position_or_len-set (λ y. y == h) hs i x 0 (ne_eqb x h new ∙ sym (ne_eqb (slice_index hs i) h old)) in
    rw (first, length-set hs i x) refl

-- where not all are named, a place is free
pub free_place : (hs : List ℕ) → count_named hs < length hs → (i : ℕ) × (position (λ x. x == 0) hs ≡ Some i)
free_place hs room = some_place 0 hs (zero_in hs room)
  where
    zero_in : (xs : List ℕ) → count_named xs < length xs → is_in 0 xs ≡ true
    zero_in [] room = absurd (omega (arith, room))
    zero_in (x ∷ xs) room =
        by_number (is_in 0 (x ∷ xs) ≡ true) x 0
        (λ is same. or_left (x == 0) (is_in 0 xs) is)
        (λ other. or_right (x == 0) (is_in 0 xs) (zero_in xs
        (omega (arith, rw (sum_by-cons (λ y. cond (not (y == 0)) 1 0) x xs, other) at room))))

-- where all are 0, none is named
pub none_counted : (hs : List ℕ) → ((i : ℕ) → slice_index hs i ≡ 0) → count_named hs ≡ 0
none_counted [] none = refl
none_counted (x ∷ hs) none =
    let here : (x == 0) ≡ true = eq-eqb x 0 (none 0) in
    rw (sum_by-cons (λ y. cond (not (y == 0)) 1 0) x hs, here, zero-add) (none_counted hs (λ i. none (suc i)))
