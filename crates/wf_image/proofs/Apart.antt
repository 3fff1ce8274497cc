-- Numbers of contents that stay apart where one more image is put, and where the last one is taken out.
use Rattle.std.proofs.Common.{◌≡◌, ◌∙◌, ℕ, ◌==◌, Bool, true, false, List, [], ◌∷◌, ◌++◌, Option, Some, None, refl, sym, ap, cond, subst}
use Rattle.std.specs.Prelude.{find, option_map, option_to_list}
use Rattle.std.proofs.lemmas.Bool.{eq-eqb, eqb-true, false_from_ne_true}
use Rattle.wf_image.specs.Bitmap.{Bitmap}
use Rattle.wf_image.specs.Contents.{AreApart, ArePlaces, AreSomes, image_of, somes}
use Rattle.wf_image.proofs.Places.{somes_out, somes_put}

abbrev Pair : Type 0
Pair = ℕ × Bitmap

-- no image of a number is in two lists where none is in both
none_in_both : (n : ℕ) (xs ys : List Pair) → image_of n xs ≡ None → image_of n ys ≡ None → image_of n (xs ++ ys) ≡ None
none_in_both n [] ys first second = second
none_in_both n (x ∷ xs) ys first second =
    elim (x.0 == n) as (λ b. option_map (λ pair. pair.1) (cond b (Some x) (find (λ pair. pair.0 == n) xs)) ≡ None
    → option_map (λ pair. pair.1) (cond b (Some x) (find (λ pair. pair.0 == n) (xs ++ ys))) ≡ None) [
      | true ↦ λ e. absurd cc
      | false ↦ λ e. none_in_both n xs ys e second
    ] first

none_in_first : (n : ℕ) (xs ys : List Pair) → image_of n (xs ++ ys) ≡ None → image_of n xs ≡ None
none_in_first n [] ys none = refl
none_in_first n (x ∷ xs) ys none =
    elim (x.0 == n) as (λ b. option_map (λ pair. pair.1) (cond b (Some x) (find (λ pair. pair.0 == n) (xs ++ ys))) ≡ None
    → option_map (λ pair. pair.1) (cond b (Some x) (find (λ pair. pair.0 == n) xs)) ≡ None) [
      | true ↦ λ e. absurd cc
      | false ↦ λ e. none_in_first n xs ys e
    ] none

-- a number that is not in a list is not that of its first pair, nor in the rest
record IsPast (n : ℕ) (x : Pair) (xs : List Pair) : Type 0 where
  pub other : (x.0 == n) ≡ false
  pub rest : image_of n xs ≡ None

past : (n : ℕ) (x : Pair) (xs : List Pair) → image_of n (x ∷ xs) ≡ None → IsPast n x xs
past n x xs none = of_test (x.0 == n) refl
  where
    of_test : (b : Bool) → (x.0 == n) ≡ b → IsPast n x xs
    of_test true is = absurd (let no : Some x.1 ≡ None = rw is at none in cc)
    of_test false is = record { other = is; rest = rw is at none }

pub one_more : (xs : List Pair) (n : ℕ) (image : Bitmap) → AreApart xs → image_of n xs ≡ None → AreApart (xs ++ (n, image) ∷ [])
one_more [] n image apart none = (refl, tt)
one_more (x ∷ xs) n image apart none =
    let others = past n x xs none in
    let other : (n == x.0) ≡ false =
    false_from_ne_true (n == x.0) (λ same. (let no : true ≡ false = sym (eq-eqb x.0 n (sym (eqb-true n x.0 same))) ∙ others.other in cc)) in
    let alone : image_of x.0 ((n, image) ∷ []) ≡ None = rw other refl in
    (none_in_both x.0 xs ((n, image) ∷ []) apart.0 alone, one_more xs n image apart.1 others.rest)

fewer : (xs ys : List Pair) → AreApart (xs ++ ys) → AreApart xs
fewer [] ys apart = tt
fewer (x ∷ xs) ys apart = (none_in_first x.0 xs ys apart.0, fewer xs ys apart.1)

abbrev Place : Type 0
Place = Option Pair

all_in_first : (xs ys : List Place) → AreSomes (xs ++ ys) → AreSomes xs
all_in_first [] ys all = refl
all_in_first (None ∷ xs) ys all = absurd cc
all_in_first (Some x ∷ xs) ys all = all_in_first xs ys all

all_in_both : (xs : List Place) (x : Pair) → AreSomes xs → AreSomes (xs ++ Some x ∷ [])
all_in_both [] x all = refl
all_in_both (None ∷ xs) x all = absurd cc
all_in_both (Some y ∷ xs) x all = all_in_both xs x all

-- the places with an image more, and without the last one
pub places_with : (places now : List Place) (n : ℕ) (image : Bitmap) → ArePlaces places → image_of n (somes places) ≡ None
    → now ≡ places ++ Some (n, image) ∷ [] → ArePlaces now
places_with places now n image are none is =
    subst ArePlaces (sym is)
    (record {
      full = all_in_both places (n, image) are.full;
      apart = subst AreApart (sym (somes_put places (n, image))) (one_more (somes places) n image are.apart none);
    })

pub places_without : (places now : List Place) (last : Place) → ArePlaces places → places ≡ now ++ last ∷ [] → ArePlaces now
places_without places now last are is =
    record {
      full = all_in_first now (last ∷ []) (subst AreSomes is are.full);
      apart = fewer (somes now) (option_to_list last)
          (subst AreApart (ap (λ l. somes l) is ∙ somes_out now last) are.apart);
    }
