-- The contents of a Job that has the shape of the running frame: the images of the frame's streams, each once.
use Rattle.wf_machine.proofs.Common.{◌≡◌, ℕ, suc, ◌+◌, Bool, true, false, cond, ◌==◌, List, [], ◌∷◌, length, Option, Some, None, refl, sym}
use Rattle.wf_machine.proofs.Common.{ap, subst, ◌∙◌, arith, find, list_all, option_map, IsSomeAnd, and_parts, eq-eqb, nat_tests, Bitmap}
use Rattle.wf_machine.proofs.Common.{image_of, Content, has_shape, Images, AreOnce, content_at, by_number}

-- the first image of a stream is taken out
abbrev without : ℕ → Images → Images
without n [] = []
without n (p ∷ xs) = cond (p.0 == n) xs (p ∷ without n xs)

-- an image is of a shape
abbrev pub IsOfShape : Content → Bitmap → Type 0
IsOfShape c image = has_shape (Some image) c ≡ true

-- each image is of the shape of its stream
abbrev pub AreOf : List Content → Images → Type 0
AreOf fs [] = Unit {0}
AreOf fs (p ∷ xs) = IsSomeAnd (content_at p.0 fs) (λ c. IsOfShape c p.1) × AreOf fs xs

-- no stream stands twice
abbrev pub Apart : Images → Type 0
Apart [] = Unit {0}
Apart (p ∷ xs) = (image_of p.0 xs ≡ None) × Apart xs

abbrev all_there : List Content → Images → Bool
all_there fs xs = list_all (λ c. has_shape (image_of c.stream xs) c) fs

fewer : (n : ℕ) (xs : Images) (i : Bitmap) → image_of n xs ≡ Some i → length xs ≡ length (without n xs) + 1
fewer n [] i found = absurd cc
fewer n (p ∷ xs) i found =
    by_number (suc (length xs) ≡ length (cond (p.0 == n) xs (p ∷ without n xs)) + 1) p.0 n
    (λ here same. rw here (omega arith))
    (λ apart. rw apart (let rest = fewer n xs i (rw apart at found) in omega (arith, rest)))

-- the images of the other streams stay
others_stay : (n m : ℕ) (xs : Images) → (n == m) ≡ false → image_of m (without n xs) ≡ image_of m xs
others_stay n m [] other = refl
others_stay n m (p ∷ xs) other =
    let at : Bool → Images
    → Option Bitmap = λ b ys. option_map (λ q. q.1) (cond b (Some p) (find (λ q. q.0 == m) ys)) in
    by_number (image_of m (cond (p.0 == n) xs (p ∷ without n xs)) ≡ at (p.0 == m) xs) p.0 n
    (λ here same. (let no : (p.0 == m) ≡ false = ap (λ k. k == m) same ∙ other in rw (here, no) refl))
    (λ apart. rw apart (elim (p.0 == m) as (λ b. at b (without n xs) ≡ at b xs) [ true ↦ refl | false ↦ others_stay n m xs other ]))

-- what holds of all but the first image of a stream, and of that
back : (fs : List Content) (n : ℕ) (xs : Images) → ((i : Bitmap) → image_of n xs ≡ Some i
    → IsSomeAnd (content_at n fs) (λ c. IsOfShape c i)) → AreOf fs (without n xs) → AreOf fs xs
back fs n [] first rest = tt
back fs n (p ∷ xs) first rest =
    by_number (AreOf fs (p ∷ xs)) p.0 n
    (λ here same. (
    let found : image_of n (p ∷ xs) ≡ Some p.1 = rw here refl in
    (subst (λ k. IsSomeAnd (content_at k fs) (λ c. IsOfShape c p.1)) (sym same) (first p.1 found), rw here at rest)))
    (λ apart. (
    let both : AreOf fs (p ∷ without n xs) = rw apart at rest in
    (both.0, back fs n xs (λ i found. first i (rw apart found)) both.1)))

apart_back : (n : ℕ) (xs : Images) → image_of n (without n xs) ≡ None → Apart (without n xs) → Apart xs
apart_back n [] none rest = tt
apart_back n (p ∷ xs) none rest =
    by_number (Apart (p ∷ xs)) p.0 n
    (λ here same. (
    let behind : image_of n xs ≡ None = rw here at none in
    (ap (λ k. image_of k xs) same ∙ behind, rw here at rest)))
    (λ apart. (
    let both : Apart (p ∷ without n xs) = rw apart at rest in
    let gone : image_of n (p ∷ without n xs) ≡ None = rw apart at none in
    let other : (n == p.0) ≡ false = grind (arith, nat_tests, apart) in
    (sym (others_stay n p.0 xs other) ∙ both.0, apart_back n xs (rw apart at gone) both.1)))

-- a stream that is not of the frame has no image
none_of : (fs : List Content) (n : ℕ) (xs : Images) → content_at n fs ≡ None → AreOf fs xs → image_of n xs ≡ None
none_of fs n [] none are = refl
none_of fs n (p ∷ xs) none are =
    by_number (image_of n (p ∷ xs) ≡ None) p.0 n
    (λ here same. (let gone : content_at p.0 fs ≡ None = ap (λ k. content_at k fs) same ∙ none in absurd (rw gone at are.0)))
    (λ apart. rw apart (none_of fs n xs none are.1))

-- one stream more
more_of : (c : Content) (fs : List Content) (xs : Images) → content_at c.stream fs ≡ None → AreOf fs xs → AreOf (c ∷ fs) xs
more_of c fs [] none are = tt
more_of c fs (p ∷ xs) none are = (
  by_number (IsSomeAnd (cond (c.stream == p.0) (Some c) (content_at p.0 fs)) (λ d. IsOfShape d p.1)) c.stream p.0
      (λ here same. (let gone : content_at p.0 fs ≡ None = ap (λ k. content_at k fs) (sym same) ∙ none in absurd (rw gone at are.0)))
      (λ apart. rw apart are.0),
  more_of c fs xs none are.1,
)

-- the shapes of the other streams are found without one
still_there : (n : ℕ) (fs : List Content) (xs : Images) → content_at n fs ≡ None → all_there fs xs ≡ true
    → all_there fs (without n xs) ≡ true
still_there n [] xs none there = refl
still_there n (c ∷ fs) xs none there =
    by_number (all_there (c ∷ fs) (without n xs) ≡ true) c.stream n
    (λ here same. absurd (let found : Some c ≡ None = rw here at none in cc))
    (λ apart. (
    let each = and_parts (has_shape (image_of c.stream xs) c) (all_there fs xs) there in
    let other : (n == c.stream) ≡ false = grind (arith, nat_tests, apart) in
    rw (others_stay n c.stream xs other, each.0) (still_there n fs xs (rw apart at none) each.1)))

-- as many images as the frame has streams, and one of each: these, and each once
pub all_of : (fs : List Content) (xs : Images) → AreOnce fs → length xs ≡ length fs → all_there fs xs ≡ true → AreOf fs xs × Apart xs
all_of [] [] once many there = (tt, tt)
all_of [] (p ∷ xs) once many there = absurd (omega (arith, many))
all_of (c ∷ fs) xs once many there =
    let each = and_parts (has_shape (image_of c.stream xs) c) (all_there fs xs) there in
    of_image (all_of fs (without c.stream xs) once.1) (image_of c.stream xs) refl each.0 each.1
  where
    of_image : (length (without c.stream xs) ≡ length fs → all_there fs (without c.stream xs) ≡ true → AreOf fs (without c.stream xs)
        × Apart (without c.stream xs)) → (o : Option Bitmap) → image_of c.stream xs ≡ o → has_shape (image_of c.stream xs) c ≡ true
        → all_there fs xs ≡ true → AreOf (c ∷ fs) xs × Apart xs
    of_image deep None is first rest = absurd (let no : has_shape None c ≡ true = rw is at first in cc)
    of_image deep (Some i) is first rest =
        let n = c.stream in
        let deeper = deep (omega (arith, many, fewer n xs i is)) (still_there n fs xs once.0 rest) in
        let here : (n == n) ≡ true = eq-eqb n n refl in
        let shape : IsOfShape c i = rw is at first in
        let this : (j : Bitmap) → image_of n xs ≡ Some j → IsSomeAnd (content_at n (c ∷ fs)) (λ d. IsOfShape d j) =
        (λ j found. (let same : i ≡ j = cc (is, found) in rw here (subst (λ k. IsOfShape c k) same shape))) in (
          back (c ∷ fs) n xs this (more_of c fs (without n xs) once.0 deeper.0),
          apart_back n xs (none_of fs n (without n xs) once.0 deeper.0) deeper.1,
        )

-- a stream without an image is none of the frame's
pub none_there : (n : ℕ) (fs : List Content) (xs : Images) → all_there fs xs ≡ true → image_of n xs ≡ None → content_at n fs ≡ None
none_there n [] xs there none = refl
none_there n (c ∷ fs) xs there none =
    let each = and_parts (has_shape (image_of c.stream xs) c) (all_there fs xs) there in
    by_number (cond (c.stream == n) (Some c) (content_at n fs) ≡ None) c.stream n
    (λ here same. absurd (let gone : image_of c.stream xs ≡ None = ap (λ k. image_of k xs) same ∙ none in
    let no : has_shape None c ≡ true = rw gone at each.0 in cc))
    (λ apart. rw apart (none_there n fs xs each.1 none))
